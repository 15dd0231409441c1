use Rattle.std.proofs.Common.{◌≡◌, ◌+◌, not, take, vec_len}
use Rattle.std.specs.List.{count_by, flat_map}
use Rattle.lp_valid.specs.InlineRules.{part_runs}
use Rattle.lp_valid.specs.Walk.{Marks}
use Rattle.lp_valid.proofs.circles.Reached.reach_parts.Given as goal

abbrev pub invariant-loop-part : goal.invariant-loop-part
invariant-loop-part l = record {
  count :
      count_by not l.self.reached.items + vec_len l.self.work
      ≡ count_by not l.initial.self.reached.items + vec_len l.initial.self.work;
  marks : Marks l.initial.self l.self (flat_map part_runs (take l.part-index l.parts));
}
