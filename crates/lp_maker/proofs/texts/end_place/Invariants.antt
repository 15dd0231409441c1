-- The place is that of the front that is left.
use Rattle.std.proofs.Common.{◌≡◌, ◌<◌, ◌≤◌, length, get_or}
use Rattle.lp_maker.specs.Texts.{end_place}
use Rattle.lp_maker.proofs.texts.end_place.Given as goal

abbrev pub invariant-loop-n : goal.invariant-loop-n
invariant-loop-n l = record {
  within : l.n ≤ length l.text;
  byte : l.n < length l.text → get_or l.text l.n 0 ≡ l.end;
  place : end_place l.end l.text l.n ≡ end_place l.end l.text (length l.text);
}

abbrev pub decreases-loop-n : goal.decreases-loop-n
decreases-loop-n l = l.n
