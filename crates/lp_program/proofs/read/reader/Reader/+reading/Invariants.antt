-- A part of which some steps are read; as many parts, or pairs, as were read so far.
use Rattle.std.proofs.Common.{◌+◌, ◌*◌, ◌++◌, true, length}
use Rattle.lp_form.specs.declared.template.Step.TheVariants as step
use Rattle.lp_spelling.specs.Cursors.{left}
use Rattle.lp_program.specs.Adding.{Brings, MayHave}
use Rattle.lp_program.specs.Answering.{held}
use Rattle.lp_program.specs.Choosing.{contents, PairChosen, PartChosen}
use Rattle.lp_program.specs.Trees.{Forest}
use Rattle.lp_program.specs.Starting.{Begun}
use Rattle.lp_program.specs.Starting.Goal.{below_step}
use Rattle.lp_program.proofs.Adding.{PartSoFar}
use Rattle.lp_program.proofs.Begun.{ReadSoFar, StepsBegun}
use Rattle.lp_program.proofs.Found.{AnyReached}
use Rattle.lp_program.proofs.Steps.{PartReached}
use Rattle.lp_program.proofs.read.reader.Reader.+reading.Given as goal

abbrev pub decreases-read_part : goal.decreases-read_part
decreases-read_part l = 16 * l.depth

abbrev pub decreases-read_closed : goal.decreases-read_closed
decreases-read_closed l = 16 * l.depth + 1

abbrev pub decreases-read_inlined : goal.decreases-read_inlined
decreases-read_inlined l = 16 * l.depth + 2

abbrev pub decreases-read_either : goal.decreases-read_either
decreases-read_either l = 16 * l.depth + 3

abbrev pub decreases-read_body : goal.decreases-read_body
decreases-read_body l = 16 * l.depth + 4

abbrev pub decreases-read_member : goal.decreases-read_member
decreases-read_member l = 16 * l.depth + 3

abbrev pub decreases-read_class : goal.decreases-read_class
decreases-read_class l = 16 * l.depth + 5

abbrev pub decreases-read_many : goal.decreases-read_many
decreases-read_many l = 16 * l.depth + 4

abbrev pub decreases-read_optional : goal.decreases-read_optional
decreases-read_optional l = 16 * l.depth + 4

abbrev pub decreases-read_some : goal.decreases-read_some
decreases-read_some l = 16 * l.depth + 6

abbrev pub decreases-read_pair : goal.decreases-read_pair
decreases-read_pair l = 16 * l.depth + 6

abbrev pub decreases-read_pairs : goal.decreases-read_pairs
decreases-read_pairs l = 16 * l.depth + 7

abbrev pub decreases-read_below : goal.decreases-read_below
decreases-read_below l = 16 * l.depth + 8

abbrev pub decreases-read_step : goal.decreases-read_step
decreases-read_step l = 16 * l.depth + 9

abbrev pub decreases-read_steps : goal.decreases-read_steps
decreases-read_steps l = 16 * l.depth + 10

abbrev pub decreases-read_many-parts : goal.decreases-read_many-parts
decreases-read_many-parts l = length (left l.self.cursor)

abbrev pub decreases-read_pairs-pairs : goal.decreases-read_pairs-pairs
decreases-read_pairs-pairs l = length (left l.self.cursor)

abbrev pub invariant-read_steps-loop-step : goal.invariant-read_steps-loop-step
invariant-read_steps-loop-step l = record {
  reads : PartSoFar l.fn.growing.part l.step-index l.growing l.fn.self l.self;
  chosen : (f : Forest) × PartReached l.depth l.fn.self.prefix.now l.fn.growing.part l.step-index l.growing f l.fn.self l.self;
  begun : StepsBegun l.fn.self.prefix.now l.fn.growing.part l.step-index l.growing l.fn.self l.self;
}

abbrev pub invariant-read_many-parts : goal.invariant-read_many-parts
invariant-read_many-parts l = record {
  reads : Brings (MayHave (step.Many l.class)) l.initial.self true l.self;
  chosen : AnyReached l.depth l.initial.self.prefix.now (λ p sofar. PartChosen l.depth l.initial.self.prefix.now p) l.class l.initial.self l.self;
  begun : ReadSoFar l.initial.self.prefix.now (MayHave (step.Many l.class)) l.initial.self l.self × Begun (below_step (step.Many l.class)) l.initial.self l.self;
}

abbrev pub invariant-read_pairs-pairs : goal.invariant-read_pairs-pairs
invariant-read_pairs-pairs l = record {
  reads : Brings (MayHave (step.Pairs l.first l.second)) l.initial.self true l.self;
  chosen : AnyReached l.depth l.initial.self.prefix.now (λ p sofar. PairChosen l.depth l.initial.self.prefix.now (PartChosen l.depth l.initial.self.prefix.now) (held l.at l.initial.self ++ contents sofar) l.second p) l.first l.initial.self l.self;
  begun : ReadSoFar l.initial.self.prefix.now (MayHave (step.Pairs l.first l.second)) l.initial.self l.self × Begun (below_step (step.Pairs l.first l.second)) l.initial.self l.self;
}
