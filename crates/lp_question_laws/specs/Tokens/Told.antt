-- Patterns of tokens that a printed text tells: where their holes are, and where they end.
use Rattle.std.specs.Prelude.{◌≡◌, ℕ, ◌+◌, ◌<◌, ◌^◌, false, List, [], ◌∷◌, length, All, Some, slice_get}
use Rattle.std.specs.BTreeMap.{values}
use Rattle.lp_repr.specs.Numbering.{terminals_of}
use Rattle.lp_repr.specs.declared.repr.Grammar.{Grammar}
use Rattle.lp_repr.specs.declared.repr.TerminalString.{TerminalString}
use Rattle.lp_repr.specs.declared.repr.TokenPattern.{TokenPattern}
use Rattle.lp_texts.specs.Brackets.{Leads}
use Rattle.lp_texts.specs.OneLine.{bar}
use Rattle.lp_spelling.specs.HoleEnds.{is_word}
use Rattle.lp_maker.specs.Texts.{begins}
use Rattle.lp_table.specs.TokenLines.{named_pattern, own_pattern}

-- a word stands nowhere in a text
abbrev pub StandsNowhere : List ℕ → List ℕ → Type 0
StandsNowhere word [] = Unit {0}
StandsNowhere word (c ∷ cs) = (begins word (c ∷ cs) ≡ false) × StandsNowhere word cs

-- a text ends in no word
abbrev pub EndsApart : List ℕ → Type 0
EndsApart [] = Unit {0}
EndsApart (c ∷ []) = is_word c ≡ false
EndsApart (c ∷ d ∷ cs) = EndsApart (d ∷ cs)

-- what stands behind a hole begins with no word, and not with another hole
abbrev pub BeginsApart : List ℕ → List (List ℕ) → Type 0
BeginsApart [] pieces = pieces ≡ []
BeginsApart (c ∷ cs) pieces = is_word c ≡ false

-- pieces that don't hold the prefix, with holes between them that stand beside no word
abbrev pub AreApart : List ℕ → List (List ℕ) → Type 0
AreApart prefix [] = Unit {0}
AreApart prefix (p ∷ []) = StandsNowhere prefix p
AreApart prefix (p ∷ q ∷ ps) = StandsNowhere prefix p × EndsApart p × BeginsApart q ps × AreApart prefix (q ∷ ps)

-- a text that leaves no quote and no bracket open, and has no bar outside of these
pub record IsClosed (text : List ℕ) : Type 0 where
  pub whole : Leads text [] [] []
  pub no_bar : (cs : List ℕ) → Leads text [] (bar ∷ cs) [] → ⊥

-- a pattern whose holes are told
pub record IsTold (prefix : List ℕ) (p : TokenPattern) : Type 0 where
  pub counted : length p.pieces ≡ length p.holes + 1
  pub few : length p.holes < 2 ^ 63
  pub apart : AreApart prefix p.pieces
  pub closed : IsClosed (named_pattern prefix p)

-- no pattern has too many holes
abbrev pub AreFew : Grammar → Type 0
AreFew g = All (λ (p : TokenPattern). length p.holes < 2 ^ 63) (values g.conversions)

-- each terminal's pattern that has a hole
abbrev pub AreTold : Grammar → Type 0
AreTold g = (i : ℕ) (t : TerminalString) (p : TokenPattern) → slice_get (terminals_of g) i ≡ Some t → own_pattern g t ≡ Some p → 0 < length p.holes → IsTold g.prefix p
