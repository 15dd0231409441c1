-- What a valid grammar says of its terminals: their types and patterns, and the error terminal.
use Rattle.std.specs.Prelude.{◌≡◌, ℕ, ◌+◌, ◌-◌, ◌==◌, Bool, true, false, ◌&&◌, ◌||◌, List, length, IfSome, IsTrue, slice_get, is_some, nat_lt}
use Rattle.std.specs.Map.{lookup}
use Rattle.std.specs.Option.{option_map_or}
use Rattle.lp_repr.specs.Names.{same_nonterminal, same_terminal}
use Rattle.lp_repr.specs.Shown.{pattern_text}
use Rattle.lp_repr.specs.declared.repr.Grammar.{Grammar}
use Rattle.lp_repr.specs.declared.repr.NonterminalString.{NonterminalString}
use Rattle.lp_repr.specs.declared.repr.TerminalString.{TerminalString}
use Rattle.lp_repr.specs.declared.repr.TerminalString.TheVariants.{Quoted, Bare, Error}
use Rattle.lp_repr.specs.declared.repr.TokenPattern.{TokenPattern}

-- it is the error terminal
abbrev pub is_error : TerminalString → Bool
is_error (Quoted text) = false
is_error (Bare name) = false
is_error Error = true

-- one piece more than holes, and a text that isn't empty
abbrev pub is_pattern : TokenPattern → Bool
is_pattern p = (length p.pieces == length p.holes + 1) && nat_lt 0 (length (pattern_text p))

-- the terminal has a type and, but for the error terminal, a pattern
abbrev pub terminal_has_type : Grammar → TerminalString → Bool
terminal_has_type g t = is_some (lookup (same_terminal t) g.types.terminals.entries) && (is_error t || option_map_or is_pattern (lookup (same_terminal t) g.conversions.entries) false)

-- the nonterminal has a type
abbrev pub nonterminal_has_type : Grammar → NonterminalString → Bool
nonterminal_has_type g n = is_some (lookup (same_nonterminal n) g.types.nonterminals.entries)

-- the error terminal stands last if at all
abbrev pub ErrorIsLast : List TerminalString → ℕ → Type 0
ErrorIsLast terminals place = IfSome (slice_get terminals place) (λ t. IsTrue (is_error t) → place + 1 ≡ length terminals)

-- the last terminal is the error terminal exactly where this is so
abbrev pub EndsInError : List TerminalString → Bool → Type 0
EndsInError terminals used = option_map_or is_error (slice_get terminals (length terminals - 1)) false ≡ used
