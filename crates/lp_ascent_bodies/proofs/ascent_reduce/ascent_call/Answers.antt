use Rattle.std.proofs.Common.{◌≡◌, ℕ, List, ◌++◌, ap, ◌∙◌}
use Rattle.std.specs.Prelude.{codes}
use Rattle.lp_core.specs.Tree.{Tree}
use Rattle.lp_view.specs.PartLists.{listed, hole_of}
use Rattle.lp_maker.specs.Making.{making, read_all}
use Rattle.lp_bodies.proofs.Calls.{call_by}
use Rattle.lp_ascent_bodies.proofs.ascent_reduce.ascent_call.Goals as goal

pub returns : goal.returns
returns c =
    let m = making c.args.maker.now in
    let names = c.args.scope.now in
    let args : c.arguments.new.args.items ≡ read_all m.prefix names (hole_of 2 (listed c.args.line)) =
    c.in_ok-arguments.ensures ∙ ap (λ (ts : List Tree). ts ++ read_all m.prefix names c.hole.result.now) c.new-args.ensures.items ∙ ap (λ (t : List ℕ). read_all m.prefix names t) c.hole.ensures in
    call_by m c.call.result _ _ _ _ (ap (λ (t : List ℕ). codes "super::action" ++ t) c.hole-2.ensures) args c.call.ensures
