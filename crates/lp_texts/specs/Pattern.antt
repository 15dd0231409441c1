-- The wrong bytes of a pattern with `_` in its holes.
use Rattle.std.specs.Prelude.{◌≡◌, ℕ, Option, Bool, true, false, ◌||◌, List, [], ◌∷◌, ◌<◌, ◌⊎◌, length, take, drop, IsTrue, codes}
use Rattle.std.specs.List.{join_by}
use Rattle.std.specs.Str.{chars}
use Rattle.unicode_ident.specs.Ident.{is_xid_continue}
use Rattle.lp_texts.specs.Brackets.{IsOutside}
use Rattle.lp_texts.specs.FirstWrong.{IsFirst}
use Rattle.lp_texts.specs.OneLine.{begins, IsWrong}

-- pieces with `_` between them
abbrev pub joined : List (List ℕ) → List ℕ
joined pieces = join_by (λ t. t) (codes "_") pieces

-- a list ends with such an element
abbrev pub ends : (ℕ → Bool) → List ℕ → Bool
ends test [] = false
ends test (c ∷ []) = test c
ends test (c ∷ d ∷ cs) = ends test (d ∷ cs)

-- a hole with these texts before and behind it stands beside an XID continue character, of which `_` is
-- one, and so is another hole
abbrev pub is_beside_word : List ℕ → List ℕ → Bool
is_beside_word before behind = ends is_xid_continue (chars before) || begins is_xid_continue (chars behind)

-- the byte i of a pattern is the `_` of a hole, between this number of pieces and the others, that stands beside
-- such a character or in a quote
pub record IsWrongHole (pieces : List (List ℕ)) (i : ℕ) : Type 0 where
  pub number : ℕ
  pub some_before : 0 < number
  pub some_behind : number < length pieces
  pub place : i ≡ length (joined (take number pieces))
  pub wrong : IsTrue (is_beside_word (joined (take number pieces)) (joined (drop number pieces))) ⊎ (¬ IsOutside (joined pieces) i)

-- the byte i of a pattern is wrong
abbrev pub IsWrongPattern : List (List ℕ) → ℕ → Type 0
IsWrongPattern pieces i = IsWrong true (joined pieces) i ⊎ IsWrongHole pieces i

-- what is answered of a pattern
abbrev pub AnswersPattern : List (List ℕ) → Option ℕ → Type 0
AnswersPattern pieces = IsFirst (IsWrongPattern pieces)
