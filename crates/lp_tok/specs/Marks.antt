-- What a mark inside a block comment, and the end of a raw string, say of the characters that are left.
use Rattle.std.specs.Prelude.{◌≡◌, ℕ, ◌+◌, ◌-◌, ◌<◌, ◌==◌, Some, None, if◌then◌else◌}
use Rattle.lp_tok.specs.declared.rest.Rest.{Rest}
use Rattle.lp_tok.specs.declared.scan.Mark.{Mark}
use Rattle.lp_tok.specs.declared.scan.Mark.TheVariants.{Opens, Closes, Other, End}
use Rattle.lp_tok.specs.declared.scan.RawEnd.{RawEnd as FoundEnd}
use Rattle.lp_tok.specs.Left.{left, size, Follows}
use Rattle.lp_tok.specs.Scans.{after_comment, RawEnd}

-- the end of a raw string, as characters
abbrev pub raw_ends : FoundEnd → RawEnd
raw_ends e = record { from_quote = left e.quote; after = left e.after }

-- a mark is a step of the comment's end
abbrev pub MarkIs : Rest → Mark → Type 0
MarkIs rest (Opens after) = ((n : ℕ) → after_comment n (left rest) ≡ after_comment (n + 1) (left after)) × Follows rest after × (size after < size rest)
MarkIs rest (Closes after) = ((n : ℕ) → after_comment n (left rest) ≡ (if n == 0 then Some (left after) else after_comment (n - 1) (left after))) × Follows rest after × (size after < size rest)
MarkIs rest (Other after) = ((n : ℕ) → after_comment n (left rest) ≡ after_comment n (left after)) × Follows rest after × (size after < size rest)
MarkIs rest End = (n : ℕ) → after_comment n (left rest) ≡ None
