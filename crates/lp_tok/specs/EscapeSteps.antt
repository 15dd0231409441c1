-- What the steps over a string literal's inside answer.
use Rattle.std.specs.Prelude.{ℕ, ◌<◌, Option, Some, None, if◌then◌else◌, nat_lt, ◌&&◌, ◌+◌, ◌*◌}
use Rattle.std.specs.Char.{digit_value}
use Rattle.lp_tok.specs.declared.rest.Rest.{Rest}
use Rattle.lp_tok.specs.declared.escapes.Escaped.{Escaped as FoundEscape}
use Rattle.lp_tok.specs.declared.escapes.Escaped.TheVariants as found
use Rattle.lp_tok.specs.Left.{left, size, Follows}
use Rattle.lp_tok.specs.Escapes.{Escaped, Stands, Fault}

-- an escape as characters
abbrev pub escaped_of : FoundEscape → Escaped
escaped_of (found.Stands c after) = Stands c (left after)
escaped_of (found.Broken code at) = Fault code (left at)

-- an escape ends at or after `next`
abbrev pub EscapeEnds : Rest → Rest → FoundEscape → Type 0
EscapeEnds start next (found.Stands c after) = Follows next after × (size after < size next)
EscapeEnds start next (found.Broken code at) = Follows start at

-- the character of two digits
abbrev pub ascii_of : ℕ → ℕ → Option ℕ
ascii_of high low = if nat_lt (digit_value high) 8 && nat_lt (digit_value low) 16 then Some (digit_value high * 16 + digit_value low) else None
