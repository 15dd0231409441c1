use Rattle.std.proofs.Common.{sym, ◌∙◌}
use Rattle.lp_form.specs.declared.part.Part.TheVariants as part
use Rattle.lp_view.specs.PartLists.{is_a, listed}
use Rattle.lp_view.proofs.Firsts.{that_found, that_passed, that_missed}
use Rattle.lp_ascent_bodies.specs.AscentArms.{lines_below}
use Rattle.lp_ascent_bodies.proofs.ascent_arms.lines_below.Goals as goal

pub loop-row-preserved : goal.loop-row-preserved
loop-row-preserved c =
    let at = c.loop-row in
    that_passed (is_a part.ReduceLines) (lines_below (listed c.args.line)) c.next.result c.in-Some.row at.row-iterator c.next.new.self c.in-Some.is c.next.ensures.steps (sym c.is_a.ensures ∙ c.if-is_a.false) at.invariant

pub returns-then-is_a : goal.returns-then-is_a
returns-then-is_a c =
    let at = c.loop-row in
    that_found (is_a part.ReduceLines) (lines_below (listed c.args.line)) c.next.result c.in-Some.row at.row-iterator c.next.new.self c.in-Some.is c.next.ensures.steps (sym c.is_a.ensures ∙ c.if-is_a.true) at.invariant

pub returns : goal.returns
returns c =
    let at = c.loop-row in
    that_missed (is_a part.ReduceLines) (lines_below (listed c.args.line)) c.next.result at.row-iterator c.next.new.self c.in-None.is c.next.ensures.steps at.invariant
