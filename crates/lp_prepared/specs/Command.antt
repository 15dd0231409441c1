-- The commands of the program, by their words.
use Rattle.std.specs.Prelude.{ℕ, ◌+◌, ◌-◌, ◌*◌, Bool, true, false, ◌&&◌, ◌||◌, ◌==◌, if◌then◌else◌, nat_eq, nat_le, nat_lt, List, [], ◌∷◌, Option, Some, None, codes}
use Rattle.std.specs.Option.{option_map, option_and_then}
use Rattle.std.specs.Cmp.Lexicographic.{pointwise}
use Rattle.lp_write.specs.declared.rust.Options.{Options}
use Rattle.lp_prepared.specs.declared.command.Command.{Command}
use Rattle.lp_prepared.specs.declared.command.Command.TheVariants.{Emit, Run, Make}
use Rattle.lp_prepared.specs.declared.command.Look.{Look}
use Rattle.lp_prepared.specs.declared.command.Look.TheVariants.{Comments, NoWhitespace}

abbrev pub is_word : List ℕ → List ℕ → Bool
is_word word name = pointwise nat_eq word name

abbrev pub option_of : List ℕ → Option Look
option_of word = if is_word word (codes "--comments") then Some Comments else (if is_word word (codes "--no-whitespace") then Some NoWhitespace else None)

abbrev pub looks : Bool → Bool → Options
looks comments whitespace = record { comments = comments; whitespace = whitespace }

abbrev pub one_option_of : Option Look → Option Options
one_option_of (Some Comments) = Some (looks true true)
one_option_of (Some NoWhitespace) = Some (looks false false)
one_option_of None = None

-- each at most once, in any order
abbrev pub two_options_of : Option Look → Option Look → Option Options
two_options_of (Some Comments) (Some NoWhitespace) = Some (looks true false)
two_options_of (Some NoWhitespace) (Some Comments) = Some (looks true false)
two_options_of _ _ = None

abbrev pub options_of : List (List ℕ) → Option Options
options_of [] = Some (looks false true)
options_of (one ∷ []) = one_option_of (option_of one)
options_of (one ∷ other ∷ []) = two_options_of (option_of one) (option_of other)
options_of (one ∷ other ∷ third ∷ words) = None

abbrev pub digit_of : ℕ → Option ℕ
digit_of byte = if nat_le 48 byte && nat_le byte 57 then Some (byte - 48) else None

abbrev pub one_digit : ℕ → Option ℕ
one_digit one = if one == 0 then None else Some one

abbrev pub two_digits : ℕ → ℕ → Option ℕ
two_digits ten one = if ten == 0 || nat_lt 32 (10 * ten + one) then None else Some (10 * ten + one)

-- a number from 1 to 32, in decimal with no zero in front
abbrev pub level_of : List ℕ → Option ℕ
level_of (one ∷ []) = option_and_then one_digit (digit_of one)
level_of (ten ∷ one ∷ []) = option_and_then (λ t. option_and_then (two_digits t) (digit_of one)) (digit_of ten)
level_of _ = None

abbrev pub made_of : List (List ℕ) → Option ℕ
made_of (word ∷ []) = level_of word
made_of _ = None

abbrev pub named_of : List ℕ → List (List ℕ) → Option Command
named_of first others =
    if is_word first (codes "emit") then option_map Emit (options_of others)
    else (if is_word first (codes "run") then option_map Run (options_of others)
    else (if is_word first (codes "make") then option_map Make (made_of others) else None))

-- the command that the words name
abbrev pub command_of : List (List ℕ) → Option Command
command_of [] = None
command_of (first ∷ others) = named_of first others
