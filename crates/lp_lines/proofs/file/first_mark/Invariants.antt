use Rattle.std.proofs.Common.{◌≡◌, ℕ, ◌<◌, false}
use Rattle.lp_lines.specs.File.{is_mark_at}
use Rattle.lp_lines.proofs.file.first_mark.Given as goal

abbrev pub invariant-loop-place : goal.invariant-loop-place
invariant-loop-place l = (q : ℕ) → q < l.place → is_mark_at l.file q ≡ false
