use Rattle.std.proofs.Common.{arith, ap, sym, ◌∙◌, map}
use Rattle.lp_form.specs.Templates.{piece}
use Rattle.lp_spelling.specs.HoleEnds.{goes_on}
use Rattle.lp_spelling.proofs.HoleSteps.{first_more, first_here}
use Rattle.lp_spelling.proofs.ends.first_place.Goals as goal

pub returns-then-goes_on-clause-value : goal.returns-then-goes_on-clause-value
returns-then-goes_on-clause-value c =
    let test = goes_on c.args.prefix.now (map piece c.args.parts.now) in
    let there = ap test (sym c.rest_from.ensures) ∙ sym c.goes_on.ensures ∙ c.if-goes_on.true in
    let e = first_here test c.args.text.now c.loop-i.i (omega arith) there in
    omega (arith, e, c.loop-i.invariant)

pub loop-i-preserved : goal.loop-i-preserved
loop-i-preserved c =
    let test = goes_on c.args.prefix.now (map piece c.args.parts.now) in
    let there = ap test (sym c.rest_from.ensures) ∙ sym c.goes_on.ensures ∙ c.if-goes_on.false in
    let e = first_more test c.args.text.now c.loop-i.i (omega arith) there in
    omega (arith, e, c.loop-i.invariant)
