-- The wrong bytes of attributes, and of the texts of terminals and nonterminals.
use Rattle.std.specs.Prelude.{ℕ, ◌+◌, ◌==◌, Bool, ◌&&◌, ◌||◌, not, List, length, drop, codes, nat_eq}
use Rattle.std.specs.List.{starts_with}
use Rattle.lp_tok.specs.Signs.{line_feed, bang, hash, left_bracket, right_bracket}
use Rattle.lp_texts.specs.OneLine.{begins}

-- the byte i of a text is this one
abbrev pub stands : ℕ → List ℕ → ℕ → Bool
stands byte text i = begins (λ c. c == byte) (drop i text)

-- the byte i is not that of `#![`
abbrev pub differs_from_front : List ℕ → ℕ → Bool
differs_from_front text i =
    ((i == 0) && not (stands hash text i))
    || (((i == 1) && not (stands bang text i))
    || ((i == 2) && not (stands left_bracket text i)))

-- the byte i is the last one, and no `]`
abbrev pub is_wrong_last : List ℕ → ℕ → Bool
is_wrong_last text i = (i + 1 == length text) && not (stands right_bracket text i)

-- the byte i of an attribute is wrong: one of the front that is not that of `#![`, a line end, or, where the
-- text begins with `#![`, a last byte that is no `]`
abbrev pub is_wrong_attribute : List ℕ → ℕ → Bool
is_wrong_attribute text i =
    differs_from_front text i
    || (stands line_feed text i
    || (is_wrong_last text i && starts_with nat_eq text (codes "#![")))

-- the byte i of a terminal's text is wrong: a line end, or the front of `"###`
abbrev pub is_wrong_terminal : List ℕ → ℕ → Bool
is_wrong_terminal text i = stands line_feed text i || starts_with nat_eq (drop i text) (codes "\"###")
