use Rattle.std.proofs.Common.{arith, ap, sym, ◌∙◌, map}
use Rattle.lp_form.specs.Templates.{piece}
use Rattle.lp_spelling.specs.HoleEnds.{goes_on}
use Rattle.lp_spelling.proofs.HoleSteps.{last_start, last_found, last_passed, last_over}
use Rattle.lp_spelling.proofs.ends.last_place.Goals as goal
use Rattle.lp_spelling.proofs.ends.last_place.Goals.{then-goes_on, else-goes_on}

pub loop-i-init : goal.loop-i-init
loop-i-init c = record {
  value = last_start (goes_on c.args.prefix.now (map piece c.args.parts.now)) c.args.text.now;
  bound = omega arith;
}

pub loop-i-preserved : goal.loop-i-preserved
loop-i-preserved c =
    let test = goes_on c.args.prefix.now (map piece c.args.parts.now) in
    let text = c.args.text.now in
    let i = c.loop-i.i in
    elim c.if-goes_on.branch [
      | then-goes_on w ↦
          let there = ap test (sym c.rest_from.ensures) ∙ sym c.goes_on.ensures ∙ w.if-goes_on.true in
          rw w.last-is (record { value = last_found test text i c.loop-i.last (omega arith) there ∙ c.loop-i.invariant.value; bound = omega arith })
      | else-goes_on w ↦
          let there = ap test (sym c.rest_from.ensures) ∙ sym c.goes_on.ensures ∙ w.if-goes_on.false in
          rw w.last-is (record { value = last_passed test text i c.loop-i.last (omega arith) there ∙ c.loop-i.invariant.value; bound = c.loop-i.invariant.bound })
    ]

pub returns : goal.returns
returns c =
    let test = goes_on c.args.prefix.now (map piece c.args.parts.now) in
    record {
      value = sym (last_over test c.args.text.now c.loop-i.i c.loop-i.last (omega arith)) ∙ c.loop-i.invariant.value;
      bound = c.loop-i.invariant.bound;
    }
