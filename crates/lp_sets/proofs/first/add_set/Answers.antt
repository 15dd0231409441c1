use Rattle.std.proofs.Common.{◌≡◌, ◌∙◌, ap, sym, get_or, bit_or, arith}
use Rattle.lp_sets.proofs.Words.{or_zero}
use Rattle.lp_sets.proofs.first.add_set.Goals as goal

pub returns-in-None : goal.returns-in-None
returns-in-None c =
    let z : 0 ≡ get_or c.args.sets.now c.args.number 0 = c.in-None.ensures.lookup.4 (omega arith) 0 in
    sym (ap (bit_or c.args.set.now) (sym z) ∙ or_zero c.args.set.now)
