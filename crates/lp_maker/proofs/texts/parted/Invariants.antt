-- The pieces so far, and those of what is left, which is text.
use Rattle.std.proofs.Common.{◌≡◌, ◌++◌, map}
use denote.Shadow.{shadow}
use denote.Text.{Utf8}
use Rattle.lp_maker.specs.Texts.{pieces, pieces_within}
use Rattle.lp_maker.proofs.texts.parted.Given as goal

abbrev pub invariant-loop-left : goal.invariant-loop-left
invariant-loop-left l = record {
  pieces : map (λ piece. piece.now) l.pieces.items ++ pieces_within l.left l.separator l.rest ≡ pieces l.separator l.text;
  text : shadow (Utf8 l.rest);
}

abbrev pub decreases-loop-left : goal.decreases-loop-left
decreases-loop-left l = l.left
