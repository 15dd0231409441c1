-- As many texts as the steps so far have.
use Rattle.std.proofs.Common.{◌≡◌, ◌+◌, ◌≤◌, drop}
use Rattle.lp_form.specs.Templates.{lines_of}
use Rattle.lp_program.specs.Reads.{text_steps}
use Rattle.lp_program.proofs.read.told.text_count.Given as goal

abbrev pub invariant-loop-step : goal.invariant-loop-step
invariant-loop-step l = record {
  counted : l.count + text_steps (lines_of (drop l.step-index l.step-items)) ≡ text_steps (lines_of l.step-items);
  bound : l.count ≤ l.step-index;
}
