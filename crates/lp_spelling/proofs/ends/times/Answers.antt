use Rattle.std.proofs.Common.{◌+◌, Bool, get_or, map, drop, arith, sym, ◌∙◌}
use Rattle.std.proofs.lemmas.Bool.{cond-true, cond-false}
use Rattle.lp_form.specs.Templates.{piece}
use Rattle.lp_spelling.specs.HoleEnds.{times, is_hole}
use Rattle.lp_spelling.proofs.HoleSteps.{times_more, none}
use Rattle.lp_spelling.proofs.ends.times.Goals as goal
use Rattle.lp_spelling.proofs.ends.times.Goals.{then-is_hole, else-is_hole}

pub loop-part-preserved : goal.loop-part-preserved
loop-part-preserved c =
    let k = c.args.k in
    let parts = c.args.parts.now in
    let i = c.loop-part.part-index in
    let t : Bool = is_hole k (get_or parts i none).1 in
    let more = times_more k parts i (omega arith) in
    elim c.if-is_hole.branch [
      | then-is_hole w ↦
          let e = cond-true t (times k (map piece (drop (i + 1) parts)) + 1) (times k (map piece (drop (i + 1) parts))) (sym c.is_hole.ensures ∙ w.if-is_hole.true) in
          record { value = omega (arith, more ∙ e); bound = omega arith }
      | else-is_hole w ↦
          let e = cond-false t (times k (map piece (drop (i + 1) parts)) + 1) (times k (map piece (drop (i + 1) parts))) (sym c.is_hole.ensures ∙ w.if-is_hole.false) in
          record { value = omega (arith, more ∙ e); bound = omega arith }
    ]
