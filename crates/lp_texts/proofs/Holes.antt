-- The holes of a pattern, one after another.
use Rattle.std.proofs.Common.{◌≡◌, ℕ, ◌+◌, ◌-◌, ◌<◌, ◌≤◌, Bool, true, false, List, [], ◌++◌, length, take, drop, get_or, codes, ◌⊎◌, inl, inr, ⊎_elim, Some, None, IsTrue, refl, sym, ap, ◌∙◌, subst, append_assoc, arith}
use Rattle.std.proofs.lemmas.Bool.{false≢true, cases_lt}
use Rattle.std.proofs.lemmas.List.{take_all, take_rest}
use Rattle.lp_texts.specs.Brackets.{IsOutside}
use Rattle.lp_texts.specs.FirstWrong.{IsFirst}
use Rattle.lp_texts.specs.Pattern.{joined, is_beside_word, IsWrongHole}
use Rattle.lp_texts.proofs.Words.{joined_more, joined_first, joined_grows}

-- what is wrong about a hole between i pieces and the others
abbrev pub Wrongs : List (List ℕ) → ℕ → Type 0
Wrongs pieces i = IsTrue (is_beside_word (joined (take i pieces)) (joined (drop i pieces))) ⊎ (¬ IsOutside (joined pieces) (length (joined (take i pieces))))

-- the first hole that is wrong
pub hole_first : (pieces : List (List ℕ)) (i : ℕ) (before : List ℕ) → 0 < i → i < length pieces → before ≡ joined (take i pieces) → Wrongs pieces i → ((j : ℕ) (h : IsWrongHole pieces j) → h.number < i → ⊥) → IsFirst (IsWrongHole pieces) (Some (length before))
hole_first pieces i before some lt same wrong clean = (
  subst (λ x. IsWrongHole pieces (length x)) (sym same) (record { number = i; some_before = some; some_behind = lt; place = refl; wrong = wrong }),
  λ j less h. ⊎_elim
      (λ lower. clean j h lower)
      (λ higher. omega (arith, less, h.place, ap length same, joined_grows pieces i h.number higher))
      (cases_lt h.number i),
)

-- one hole more is right
pub hole_more : (pieces : List (List ℕ)) (i : ℕ) → (0 < i → Wrongs pieces i → ⊥) → ((j : ℕ) (h : IsWrongHole pieces j) → h.number < i → ⊥) → (j : ℕ) (h : IsWrongHole pieces j) → h.number < i + 1 → ⊥
hole_more pieces i right clean j h less =
    ⊎_elim
    (λ lower. clean j h lower)
    (λ higher.
    let number : h.number ≡ i = omega arith in
    let some : 0 < i = subst (λ n. 0 < n) number h.some_before in
    let there : j ≡ length (joined (take i pieces)) = h.place ∙ ap (λ n. length (joined (take n pieces))) number in
    ⊎_elim
    (λ beside. right some (inl (subst (λ n. IsTrue (is_beside_word (joined (take n pieces)) (joined (drop n pieces)))) number beside)))
    (λ quoted. right some (inr (subst (λ x. ¬ IsOutside (joined pieces) x) there quoted)))
    h.wrong)
    (cases_lt h.number i)

-- a hole that is found beside nothing and outside quotes
pub hole_right : (pieces : List (List ℕ)) (i : ℕ) (before text : List ℕ) → before ≡ joined (take i pieces) → text ≡ joined pieces → is_beside_word before (joined (drop i pieces)) ≡ false → IsOutside text (length before) → Wrongs pieces i → ⊥
hole_right pieces i before text same whole apart outside wrong =
    ⊎_elim
    (λ beside. false≢true (sym (subst (λ x. is_beside_word x (joined (drop i pieces)) ≡ false) same apart) ∙ beside))
    (λ quoted. quoted (subst (λ x. IsOutside x (length (joined (take i pieces)))) whole (subst (λ x. IsOutside text (length x)) same outside)))
    wrong

-- a hole that is found beside something, or in a quote
pub hole_beside : (pieces : List (List ℕ)) (i : ℕ) (before : List ℕ) → before ≡ joined (take i pieces) → is_beside_word before (joined (drop i pieces)) ≡ true → Wrongs pieces i
hole_beside pieces i before same beside = inl (subst (λ x. is_beside_word x (joined (drop i pieces)) ≡ true) same beside)

pub hole_quoted : (pieces : List (List ℕ)) (i : ℕ) (before text : List ℕ) → before ≡ joined (take i pieces) → text ≡ joined pieces → (IsOutside text (length before) → ⊥) → Wrongs pieces i
hole_quoted pieces i before text same whole quoted = inr (λ o. quoted (subst (λ x. IsOutside text (length x)) (sym same) (subst (λ x. IsOutside x (length (joined (take i pieces)))) (sym whole) o)))

-- the text before a hole is a front of the pattern
pub hole_within : (pieces : List (List ℕ)) (i : ℕ) (before text : List ℕ) → i < length pieces → before ≡ joined (take i pieces) → text ≡ joined pieces → length before ≤ length text
hole_within pieces i before text lt same whole =
    let all : take (length pieces) pieces ≡ pieces = take_all (length pieces) pieces (omega arith) in
    omega (arith, ap length same, ap length whole, ap (λ l. length (joined l)) all, joined_grows pieces i (length pieces) (omega arith))

-- no hole is wrong
pub hole_none : (pieces : List (List ℕ)) (i : ℕ) → length pieces ≤ i → ((j : ℕ) (h : IsWrongHole pieces j) → h.number < i → ⊥) → IsFirst (IsWrongHole pieces) None
hole_none pieces i done clean j h = let behind = h.some_behind in clean j h (omega arith)

-- the text before the next hole
pub before_more : (pieces : List (List ℕ)) (i : ℕ) (before : List ℕ) (d : List ℕ) → 0 < i → i < length pieces → before ≡ joined (take i pieces) → (before ++ codes "_") ++ get_or pieces i d ≡ joined (take (i + 1) pieces)
before_more pieces i before d some lt same = append_assoc before (codes "_") (get_or pieces i d) ∙ ap (λ x. x ++ (codes "_" ++ get_or pieces i d)) same ∙ sym (joined_more pieces i d some lt)

pub before_first : (pieces : List (List ℕ)) (i : ℕ) (before : List ℕ) (d : List ℕ) → i ≡ 0 → i < length pieces → before ≡ joined (take i pieces) → before ++ get_or pieces i d ≡ joined (take (i + 1) pieces)
before_first pieces i before d none lt same =
    let start : before ≡ [] = same ∙ ap (λ n. joined (take n pieces)) none in
    let some : 0 < length pieces = omega arith in
    let first : get_or pieces i d ≡ joined (take 1 pieces) = ap (λ n. get_or pieces n d) none ∙ sym (joined_first pieces d some) in
    ap (λ x. x ++ get_or pieces i d) start ∙ first ∙ ap (λ n. joined (take (n + 1) pieces)) (sym none)

-- the text before the next hole, as it is made
pub after_hole : (pieces : List (List ℕ)) (i : ℕ) (before mid new piece : List ℕ) → 0 < i → i < length pieces → before ≡ joined (take i pieces) → mid ≡ before ++ codes "_" → new ≡ mid ++ piece → piece ≡ get_or pieces i piece → new ≡ joined (take (i + 1) pieces)
after_hole pieces i before mid new piece some lt same more pushed at = pushed ∙ ap (λ x. x ++ piece) more ∙ ap (λ x. (before ++ codes "_") ++ x) at ∙ before_more pieces i before piece some lt same

pub after_start : (pieces : List (List ℕ)) (i : ℕ) (before new piece : List ℕ) → i ≡ 0 → i < length pieces → before ≡ joined (take i pieces) → new ≡ before ++ piece → piece ≡ get_or pieces i piece → new ≡ joined (take (i + 1) pieces)
after_start pieces i before new piece none lt same pushed at = pushed ∙ ap (λ x. before ++ x) at ∙ before_first pieces i before piece none lt same

-- the answer at the text and the pieces that are read
pub beside_there : (pieces : List (List ℕ)) (i : ℕ) (before shown : List ℕ) (b : Bool) → shown ≡ before → is_beside_word shown (joined (take (length pieces - i) (drop i pieces))) ≡ b → is_beside_word before (joined (drop i pieces)) ≡ b
beside_there pieces i before shown b same h = subst (λ x. is_beside_word x (joined (drop i pieces)) ≡ b) same (subst (λ l. is_beside_word shown (joined l) ≡ b) (take_rest pieces i) h)
