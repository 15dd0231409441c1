use Rattle.lp_sets.proofs.FirstTableLemmas.{AreFirsts-from_closed}
use Rattle.lp_sets.proofs.first.Firsts.new.Goals as goal

pub returns : goal.returns
returns c =
    AreFirsts-from_closed c.args.rules.now _ _ c.in_ok-empty.ensures.sound c.in_ok-empty.ensures.closed c.in_ok-sets.ensures.sound c.in_ok-sets.ensures.closed
