-- What stands in a text between two places, and where that is a text.
use denote.Ref.{Bor}
use Rattle.std.proofs.Common.{◌≡◌, ℕ, ◌+◌, ◌-◌, ◌<◌, ◌≤◌, Bool, true, false, inl, inr, List, [], length, take, drop, get_or, Option, Some, None, refl, sym, ap, ◌∙◌, subst, arith}
use Rattle.std.specs.Prelude.{◌&&◌, nat_le, if◌then◌else◌, slice_range}
use Rattle.std.specs.Option.{unwrap_or}
use Rattle.std.specs.Str.{IsUtf8, is_utf8, IsCharBoundary}
use Rattle.std.specs.Str.Pattern.{GetsRange}
use Rattle.std.proofs.lemmas.Bool.{and_from, cond-true, le-leb, leb-true}
use Rattle.std.proofs.lemmas.Bool.Decides.{leb_tells}
use Rattle.std.proofs.lemmas.List.{get_or-take, get_or-drop, length-drop, length-take-le}
use Rattle.std.proofs.lemmas.Str.{IsUtf8-drop, IsUtf8-from_is_utf8, is_utf8-from_IsUtf8, IsCharBoundary-start, IsCharBoundary-from_take, IsCharBoundary-from_rest}
use Rattle.lp_reading.specs.Messages.{text_between}

stands : (here whole : Bool) (part : List ℕ) → here ≡ true → whole ≡ true → part ≡ (if here && whole then part else [])
stands here whole part p q = sym (cond-true (here && whole) part [] (and_from here whole p q))

empty_unless : (here whole : Bool) (part : List ℕ) → (here ≡ true → whole ≡ true → part ≡ []) → [] ≡ (if here && whole then part else [])
empty_unless true true part h = sym (h refl refl)
empty_unless true false part h = refl
empty_unless false whole part h = refl

-- a text that stands in another begins and ends with characters of that
starts : (text : List ℕ) (lo hi : ℕ) → lo < hi → hi ≤ length text → IsUtf8 (slice_range text lo hi) → IsCharBoundary text lo
starts text lo hi less fits is =
    let same : lo + 0 ≡ lo = omega arith in
    let first : get_or (take (hi - lo) (drop lo text)) 0 0 ≡ get_or text lo 0 = get_or-take (hi - lo) (drop lo text) 0 0 (omega (arith, less)) ∙ get_or-drop lo text 0 0 ∙ ap (λ (k : ℕ). get_or text k 0) same in
    let size : length (take (hi - lo) (drop lo text)) ≡ hi - lo = length-take-le (hi - lo) (drop lo text) (omega (arith, length-drop lo text, fits)) in
    let begins : IsCharBoundary (slice_range text lo hi) 0 = IsCharBoundary-start (slice_range text lo hi) is in
    (omega (arith, less, fits), λ inside high. subst (λ (b : ℕ). 192 ≤ b) first (begins.1 (omega (arith, size, less)) (subst (λ (b : ℕ). 128 ≤ b) (sym first) high)))

ends : (text : List ℕ) (lo hi : ℕ) → lo < hi → hi ≤ length text → IsUtf8 text → IsUtf8 (slice_range text lo hi) → IsCharBoundary text hi
ends text lo hi less fits u is =
    let rest = IsUtf8-drop text lo u (starts text lo hi less fits is) in
    let there = IsCharBoundary-from_take (drop lo text) (hi - lo) rest (omega (arith, length-drop lo text, fits)) is in
    let sum : lo + (hi - lo) ≡ hi = omega (arith, less) in
    subst (λ (k : ℕ). IsCharBoundary text k) sum (IsCharBoundary-from_rest text lo (hi - lo) (omega (arith, less, fits)) there)

nothing_there : (text : List ℕ) (lo hi : ℕ) → IsUtf8 text → (lo ≤ hi → IsCharBoundary text lo → ¬ (IsCharBoundary text hi)) → hi ≤ length text → IsUtf8 (slice_range text lo hi) → slice_range text lo hi ≡ []
nothing_there text lo hi u none fits is = elim (leb_tells hi lo) [
  | inl back ↦ let size : hi - lo ≡ 0 = omega (arith, back.1) in ap (λ (n : ℕ). take n (drop lo text)) size
  | inr on ↦ absurd (none (omega (arith, on.1)) (starts text lo hi on.1 fits is) (ends text lo hi on.1 fits u is))
]

-- what `get` gives of a text, or else the empty text
pub part_given : (text : List ℕ) (lo hi : ℕ) (given : Option (Bor (List ℕ))) (empty part : Bor (List ℕ)) → IsUtf8 text → IsUtf8 part.now → GetsRange text lo hi given → part ≡ unwrap_or given empty → empty.now ≡ [] → part.now ≡ text_between text lo hi
part_given text lo hi (Some x) empty part u is h e z =
    let same : part.now ≡ slice_range text lo hi = ap (λ (b : Bor (List ℕ)). b.now) e ∙ h.0 in
    same ∙ stands (nat_le hi (length text)) (is_utf8 (slice_range text lo hi)) (slice_range text lo hi) (le-leb hi (length text) h.2) (is_utf8-from_IsUtf8 (slice_range text lo hi) (subst IsUtf8 same is))
part_given text lo hi None empty part u is h e z =
    ap (λ (b : Bor (List ℕ)). b.now) e ∙ z ∙ empty_unless (nat_le hi (length text)) (is_utf8 (slice_range text lo hi)) (slice_range text lo hi) (λ p q. nothing_there text lo hi u h (leb-true hi (length text) p) (IsUtf8-from_is_utf8 (slice_range text lo hi) q))
