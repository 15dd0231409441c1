-- The spans of tokens: one after the other, each with its token's text inside.
use Rattle.std.specs.Prelude.{◌≡◌, ℕ, ◌+◌, ◌-◌, ◌≤◌, List, [], ◌∷◌, ◌++◌, length, Ok, Err}
use Rattle.lp_tok.specs.declared.unread.Tokenizer.{Tokenizer}
use Rattle.lp_tok.specs.Left.{EndsIn}
use Rattle.lp_tok.specs.Token.{Token, Symbol, Text, Item}

-- the bytes `inside` stand in `text` between two places, which are counted from `shift`
pub record StandsBetween (text : List ℕ) (shift start stop : ℕ) (inside : List ℕ) : Type 0 where
  pub before : List ℕ
  pub after : List ℕ
  pub split : text ≡ before ++ inside ++ after
  pub starts : start ≤ shift + length before
  pub stops : shift + length before + length inside ≤ stop

-- a token's text, where it has one, stands inside its span
abbrev pub TextInside : List ℕ → ℕ → ℕ → Token → ℕ → Type 0
TextInside text shift start (Symbol token) stop = Unit {0}
TextInside text shift start (Text kind inside) stop = StandsBetween text shift start stop inside

-- from the byte `from` on the spans come one after the other up to the end of the text, each with its
-- token's text inside; an error stands behind them, and is the last
abbrev pub InOrder : List ℕ → ℕ → ℕ → List Item → Type 0
InOrder text shift from [] = from ≤ shift + length text
InOrder text shift from (Ok span ∷ items) = (from ≤ span.0) × (span.0 ≤ span.2) × TextInside text shift span.0 span.1 span.2 × InOrder text shift span.2 items
InOrder text shift from (Err e ∷ items) = (from ≤ e.location) × (e.location ≤ shift + length text) × (items ≡ [])

-- what is left to a tokenizer is an end of the text
pub record IsLeftOf (text : List ℕ) (shift : ℕ) (t : Tokenizer) : Type 0 where
  pub ends : EndsIn text t.rest.now
  pub end : t.end ≡ shift + length text

-- the byte at which what is left to a tokenizer begins
abbrev pub place_of : Tokenizer → ℕ
place_of t = t.end - length t.rest.now
