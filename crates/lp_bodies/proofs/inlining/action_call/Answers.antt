use Rattle.std.proofs.Common.{◌++◌, ap}
use Rattle.std.specs.Prelude.{List, ℕ, codes}
use Rattle.lp_maker.specs.Making.{making}
use Rattle.lp_bodies.proofs.Calls.{call_by}
use Rattle.lp_bodies.proofs.inlining.action_call.Goals as goal

pub returns : goal.returns
returns c =
    call_by (making c.args.maker.now) c.call.result _ _ _ _ (ap (λ (t : List ℕ). codes "super::action" ++ t) c.hole.ensures) c.in_ok-args.ensures c.call.ensures
