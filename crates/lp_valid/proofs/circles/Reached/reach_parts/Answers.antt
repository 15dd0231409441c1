use Rattle.std.proofs.Common.{◌∙◌, refl, sym, subst, arith, take}
use Rattle.std.specs.List.{flat_map}
use Rattle.lp_valid.specs.InlineRules.{part_runs}
use Rattle.lp_valid.specs.Walk.{Marks}
use Rattle.lp_valid.proofs.Walks.{marks_none, marks_then, flat_more}
use Rattle.lp_valid.proofs.circles.Reached.reach_parts.Goals as goal

pub loop-part-init : goal.loop-part-init
loop-part-init c = record { count = refl; marks = marks_none c.args.self.now }

pub loop-part-preserved : goal.loop-part-preserved
loop-part-preserved c =
    let parts = c.args.parts.now in
    record {
      count = c.in_ok-reach_part.ensures.count ∙ c.loop-part.invariant.count;
      marks =
          subst (Marks c.args.self.now c.reach_part.new.self) (sym (flat_more part_runs parts c.loop-part.part-index c.part-item.result (omega arith) c.part-item.is))
          (marks_then c.args.self.now c.loop-part.self c.reach_part.new.self (flat_map part_runs (take c.loop-part.part-index parts)) (part_runs c.part-item.result) c.loop-part.invariant.marks c.in_ok-reach_part.ensures.marks);
    }
