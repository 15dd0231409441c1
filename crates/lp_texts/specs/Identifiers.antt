-- Identifiers.
use Rattle.std.specs.Prelude.{ℕ, Bool, false, not, ◌&&◌, List, [], ◌∷◌, codes}
use Rattle.std.specs.List.{list_all}
use Rattle.std.specs.Str.{chars}
use Rattle.lp_repr.specs.Names.{same_text}
use Rattle.lp_tok.specs.Scans.{starts_word, continues_word}

-- a word: a character with which the tokenizer begins one, and then characters with which it goes on
abbrev pub is_word : List ℕ → Bool
is_word [] = false
is_word (c ∷ cs) = starts_word c && list_all continues_word cs

-- an identifier is a word, and not `_` alone
abbrev pub is_identifier : List ℕ → Bool
is_identifier name = not (same_text name (codes "_")) && is_word (chars name)
