-- When two names are the same.
use Rattle.std.specs.Prelude.{ℕ, Bool, true, false, List, nat_eq}
use Rattle.std.specs.Cmp.Lexicographic.{pointwise}
use Rattle.lp_repr.specs.declared.repr.NonterminalString.{NonterminalString}
use Rattle.lp_repr.specs.declared.repr.TerminalString.{TerminalString}
use Rattle.lp_repr.specs.declared.repr.TerminalString.TheVariants.{Quoted, Bare, Error}

-- the texts have the same bytes
abbrev pub same_text : List ℕ → List ℕ → Bool
same_text s t = pointwise nat_eq s t

-- the nonterminals have the same name
abbrev pub same_nonterminal : NonterminalString → NonterminalString → Bool
same_nonterminal m n = same_text m.0 n.0

-- the terminals are of one kind and have the same text
abbrev pub same_terminal : TerminalString → TerminalString → Bool
same_terminal (Quoted s) (Quoted t) = same_text s t
same_terminal (Quoted s) (Bare t) = false
same_terminal (Quoted s) Error = false
same_terminal (Bare s) (Quoted t) = false
same_terminal (Bare s) (Bare t) = same_text s t
same_terminal (Bare s) Error = false
same_terminal Error (Quoted t) = false
same_terminal Error (Bare t) = false
same_terminal Error Error = true
