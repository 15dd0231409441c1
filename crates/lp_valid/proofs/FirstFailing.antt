-- The first place at which a rule fails, from the first element of a list that fails a test.
use Rattle.std.proofs.Common.{◌≡◌, ℕ, ◌+◌, ◌-◌, ◌<◌, ◌≤◌, min, zero, suc, Bool, true, false, not, cond, List, [], ◌∷◌, map, length, refl, arith, sym, ap, ◌∙◌, subst, Option, Some, None, IsTrue, IfSome, IfOk, Result, Ok, Err, position, ⊎_elim}
use Rattle.std.specs.List.{position_from}
use Rattle.std.specs.Option.{option_map}
use Rattle.std.proofs.lemmas.Iterator.Adapters.{position_from-zero}
use Rattle.std.proofs.lemmas.Option.{slice_get_past}
use Rattle.std.proofs.lemmas.Bool.{cases_lt}
use Rattle.std.proofs.lemmas.List.{length-map}
use Rattle.lp_valid.specs.Places.{EachPasses, Then, Both, then_place, least, IsFirstFailing}

-- the same, of places that are counted from i
abbrev FirstFrom : ℕ → (ℕ → Type 0) → Option ℕ → Type 0
FirstFrom i Holds None = (place : ℕ) → Holds place
FirstFrom i Holds (Some k) = (place : ℕ) × (k ≡ i + place) × (¬ Holds place) × ((lesser : ℕ) → lesser < place → Holds lesser)

passes_at : {X : Type 0} (test : X → Bool) (x : X) (xs : List X) → test x ≡ true → ((j : ℕ) → EachPasses test xs j) → (j : ℕ) → EachPasses test (x ∷ xs) j
passes_at test x xs t h zero = t
passes_at test x xs t h (suc j) = h j

passes_below : {X : Type 0} (test : X → Bool) (x : X) (xs : List X) (n : ℕ) → test x ≡ true → ((j : ℕ) → j < n → EachPasses test xs j) → (j : ℕ) → j < suc n → EachPasses test (x ∷ xs) j
passes_below test x xs n t h zero less = t
passes_below test x xs n t h (suc j) less = h j (omega arith)

later : {X : Type 0} (test : X → Bool) (x : X) (xs : List X) (i : ℕ) → test x ≡ true → (r : Option ℕ) → FirstFrom (i + 1) (EachPasses test xs) r → FirstFrom i (EachPasses test (x ∷ xs)) r
later test x xs i t None h = passes_at test x xs t h
later test x xs i t (Some k) h = (suc h.0, let e : k ≡ (i + 1) + h.0 = h.1 in omega arith, h.2, passes_below test x xs h.0 t h.3)

here : {X : Type 0} (test : X → Bool) (x : X) (xs : List X) (i : ℕ) → test x ≡ false → (r : Option ℕ) → r ≡ Some i → FirstFrom i (EachPasses test (x ∷ xs)) r
here test x xs i f None e = cc
here test x xs i f (Some k) e = (0, let same : k ≡ i = cc in omega arith, (λ t. let no : true ≡ false = sym t ∙ f in cc), λ j less. absurd (omega arith))

from_position : {X : Type 0} (test fails : X → Bool) → ((x : X) → fails x ≡ not (test x)) → (xs : List X) (i : ℕ) (r : Option ℕ) → r ≡ position_from fails i xs → FirstFrom i (EachPasses test xs) r
from_position test fails agree [] i None e = λ j. tt
from_position test fails agree [] i (Some k) e = cc
from_position test fails agree (x ∷ xs) i r e =
    elim (test x) as (λ b. test x ≡ b → r ≡ cond (not b) (Some i) (position_from fails (i + 1) xs) → FirstFrom i (EachPasses test (x ∷ xs)) r) [
      | true ↦ λ t e. later test x xs i t r (from_position test fails agree xs (i + 1) r e)
      | false ↦ λ f e. here test x xs i f r e
    ] refl (e ∙ ap (λ b. cond b (Some i) (position_from fails (i + 1) xs)) (agree x))

from_zero : (Holds : ℕ → Type 0) (r : Option ℕ) → FirstFrom 0 Holds r → IsFirstFailing Holds r
from_zero Holds None h = h
from_zero Holds (Some k) h =
    let e : h.0 ≡ k = omega (arith, h.1) in
    (subst (λ n. Holds n → ⊥) e h.2, λ j less. h.3 j (omega arith))

-- the first element that fails a test
pub first_where : {X : Type 0} (test fails : X → Bool) → ((x : X) → fails x ≡ not (test x)) → (xs : List X) (r : Option ℕ) → r ≡ position fails xs → IsFirstFailing (EachPasses test xs) r
first_where test fails agree xs r e = from_zero (EachPasses test xs) r (from_position test fails agree xs 0 r (e ∙ position_from-zero fails xs))

pub first_from_position : {X : Type 0} (test : X → Bool) (xs : List X) (r : Option ℕ) → r ≡ position (λ x. not (test x)) xs → IsFirstFailing (EachPasses test xs) r
first_from_position test xs r e = first_where test (λ x. not (test x)) (λ x. refl) xs r e

-- a test that fails at a place has an element there
pub fails_within : {X : Type 0} (test : X → Bool) (xs : List X) (place : ℕ) → ¬ EachPasses test xs place → place < length xs
fails_within test [] place not_so = absurd (not_so tt)
fails_within test (x ∷ xs) zero not_so = omega arith
fails_within test (x ∷ xs) (suc place) not_so = let below = fails_within test xs place not_so in omega arith

-- a failure of the first of two rules
pub first_of_two : (n : ℕ) (First Second : ℕ → Type 0) (place : ℕ) → place < n → IsFirstFailing First (Some place) → IsFirstFailing (Then n First Second) (Some place)
first_of_two n First Second place less h = (λ both. h.0 (both.0 less), λ j below. (λ _. h.1 j below, λ past. absurd (omega arith)))

-- a failure of the second, or none, where the first holds
pub second_of_two : (n : ℕ) (First Second : ℕ → Type 0) (r : Option ℕ) → ((place : ℕ) → First place) → IsFirstFailing Second r → IsFirstFailing (Then n First Second) (option_map (λ p. n + p) r)
second_of_two n First Second None first second = λ p. (λ _. first p, λ _. second (p - n))
second_of_two n First Second (Some k) first second =
    let e : (n + k) - n ≡ k = omega arith in
    (λ both. second.0 (subst Second e (both.1 (omega arith))), λ j below. (λ _. first j, λ past. second.1 (j - n) (omega arith)))

position_of_map : {X Y : Type 0} (f : X → Y) (fails : Y → Bool) (xs : List X) (i : ℕ) → position_from (λ x. fails (f x)) i xs ≡ position_from fails i (map f xs)
position_of_map f fails [] i = refl
position_of_map f fails (x ∷ xs) i = ap (cond (fails (f x)) (Some i)) (position_of_map f fails xs (i + 1))

-- the first element for which a test of its image fails
pub first_of_images : {X Y : Type 0} (f : X → Y) (test : Y → Bool) (xs : List X) (r : Option ℕ) → r ≡ position (λ x. not (test (f x))) xs → IsFirstFailing (EachPasses test (map f xs)) r
first_of_images f test xs r e = from_zero (EachPasses test (map f xs)) r (from_position test (λ y. not (test y)) (λ y. refl) (map f xs) 0 r (e ∙ (position_from-zero (λ x. not (test (f x))) xs ∙ position_of_map f (λ y. not (test y)) xs 0)))

-- what follows n things, told as their place after them
pub after_those : {E : Type 0} (before n : ℕ) (First Second : ℕ → Type 0) (failing : Option ℕ) (r : Result (Option ℕ) E) → before ≡ n → ((place : ℕ) → First place) → IsFirstFailing Second failing → IfOk r (λ p. p ≡ option_map (λ k. before + k) failing) → IfOk r (IsFirstFailing (Then n First Second))
after_those before n First Second failing (Ok p) same first second e =
    subst (IsFirstFailing (Then n First Second)) (sym (e ∙ ap (λ b. option_map (λ k. b + k) failing) same)) (second_of_two n First Second failing first second)
after_those before n First Second failing (Err x) same first second e = tt

-- the two cases of a rule over a list of things and then of another rule
pub failing_in_list : {X : Type 0} (test : X → Bool) (xs : List X) (Second : ℕ → Type 0) (place : ℕ) → Some place ≡ position (λ x. not (test x)) xs → IsFirstFailing (Then (length xs) (EachPasses test xs) Second) (Some place)
failing_in_list test xs Second place e =
    let first = first_from_position test xs (Some place) e in
    first_of_two (length xs) (EachPasses test xs) Second place (fails_within test xs place first.0) first

pub failing_past_list : {X E : Type 0} (test : X → Bool) (xs : List X) (Second : ℕ → Type 0) (before : ℕ) (failing : Option ℕ) (r : Result (Option ℕ) E) → before ≡ length xs → None ≡ position (λ x. not (test x)) xs → IsFirstFailing Second failing → IfOk r (λ p. p ≡ option_map (λ k. before + k) failing) → IfOk r (IsFirstFailing (Then (length xs) (EachPasses test xs) Second))
failing_past_list test xs Second before failing r same none second e = after_those before (length xs) (EachPasses test xs) Second failing r same (first_from_position test xs None none) second e

-- a rule that says one thing
pub fails_at_once : (P : Type 0) → ¬ P → IsFirstFailing (λ place. P) (Some 0)
fails_at_once P h = (h, λ j less. absurd (omega arith))

-- past the last element nothing fails
pub passes_past : {X : Type 0} (test : X → Bool) (xs : List X) (k : ℕ) → length xs ≤ k → EachPasses test xs k
passes_past test xs k h = subst (λ o. IfSome o (λ y. IsTrue (test y))) (sym (slice_get_past xs k h)) tt

passes_image : {X Y : Type 0} (f : X → Y) (test : Y → Bool) (xs : List X) (k : ℕ) → EachPasses (λ x. test (f x)) xs k → EachPasses test (map f xs) k
passes_image f test [] k h = tt
passes_image f test (x ∷ xs) zero h = h
passes_image f test (x ∷ xs) (suc k) h = passes_image f test xs k h

image_passes : {X Y : Type 0} (f : X → Y) (test : Y → Bool) (xs : List X) (k : ℕ) → EachPasses test (map f xs) k → EachPasses (λ x. test (f x)) xs k
image_passes f test [] k h = tt
image_passes f test (x ∷ xs) zero h = h
image_passes f test (x ∷ xs) (suc k) h = image_passes f test xs k h

pub failing_image : {X Y : Type 0} (f : X → Y) (test : Y → Bool) (xs : List X) (r : Option ℕ) → IsFirstFailing (EachPasses (λ x. test (f x)) xs) r → IsFirstFailing (EachPasses test (map f xs)) r
failing_image f test xs None h = λ k. passes_image f test xs k (h k)
failing_image f test xs (Some k) h = (λ is. h.0 (image_passes f test xs k is), λ j less. passes_image f test xs j (h.1 j less))

passes_alike : {X : Type 0} (p q : X → Bool) → ((x : X) → p x ≡ q x) → (xs : List X) (k : ℕ) → EachPasses p xs k → EachPasses q xs k
passes_alike p q e [] k h = tt
passes_alike p q e (x ∷ xs) zero h = sym (e x) ∙ h
passes_alike p q e (x ∷ xs) (suc k) h = passes_alike p q e xs k h

-- tests that agree fail at the same place
pub failing_alike : {X : Type 0} (p q : X → Bool) → ((x : X) → p x ≡ q x) → (xs : List X) (r : Option ℕ) → IsFirstFailing (EachPasses p xs) r → IsFirstFailing (EachPasses q xs) r
failing_alike p q e xs None h = λ k. passes_alike p q e xs k (h k)
failing_alike p q e xs (Some k) h = (λ is. h.0 (passes_alike q p (λ x. sym (e x)) xs k is), λ j less. passes_alike p q e xs j (h.1 j less))

-- the lesser place of two rules' failures
lesser_of : (First Second : ℕ → Type 0) (i j k : ℕ) → k ≡ min i j → ((i ≤ j → ¬ First i) × (j ≤ i → ¬ Second j)) → ((l : ℕ) → l < i → First l) → ((l : ℕ) → l < j → Second l) → IsFirstFailing (Both First Second) (Some k)
lesser_of First Second i j k e h first second = (
  λ both. ⊎_elim (λ less. h.1 (omega arith) (subst Second (omega arith) both.1)) (λ more. h.0 more (subst First (omega arith) both.0)) (cases_lt j i),
  λ l less. (first l (omega arith), second l (omega arith)),
)

pub first_of_both : (First Second : ℕ → Type 0) (a b : Option ℕ) → IsFirstFailing First a → IsFirstFailing Second b → IsFirstFailing (Both First Second) (least a b)
first_of_both First Second None None h k = λ l. (h l, k l)
first_of_both First Second None (Some j) h k = (λ both. k.0 both.1, λ l less. (h l, k.1 l less))
first_of_both First Second (Some i) None h k = (λ both. h.0 both.0, λ l less. (h.1 l less, k l))
first_of_both First Second (Some i) (Some j) h k = lesser_of First Second i j (min i j) refl (λ _. h.0, λ _. k.0) h.1 k.1

told_of : {E : Type 0} (P : Option ℕ → Type 0) (q : Option ℕ) (r : Result (Option ℕ) E) → P q → IfOk r (λ p. p ≡ q) → IfOk r P
told_of P q (Ok p) h e = subst P (sym e) h
told_of P q (Err x) h e = tt

-- the first failure in a list and then in another rule
pub then_list : {X E : Type 0} (test : X → Bool) (xs : List X) (Second : ℕ → Type 0) (n : ℕ) (first second : Option ℕ) (r : Result (Option ℕ) E) → n ≡ length xs → IsFirstFailing (EachPasses test xs) first → IsFirstFailing Second second → IfOk r (λ p. p ≡ then_place n first second) → IfOk r (IsFirstFailing (Then (length xs) (EachPasses test xs) Second))
then_list test xs Second n None second r same h k e = after_those n (length xs) (EachPasses test xs) Second second r same h k e
then_list test xs Second n (Some first) second r same h k e =
    told_of (IsFirstFailing (Then (length xs) (EachPasses test xs) Second)) (Some first) r (first_of_two (length xs) (EachPasses test xs) Second first (fails_within test xs first h.0) h) e

-- maps have as many keys and values as entries
pub keys_length : {K X : Type 0} (es : List (K × X)) (n : ℕ) → n ≡ length es → n ≡ length (map (λ (e : K × X). e.0) es)
keys_length es n e = e ∙ sym (length-map es (λ e. e.0))

pub values_length : {K X : Type 0} (es : List (K × X)) (n : ℕ) → n ≡ length es → n ≡ length (map (λ (e : K × X). e.1) es)
values_length es n e = e ∙ sym (length-map es (λ e. e.1))

-- the same, of a slice of the list, and of references to its elements
pub then_slice : {X E : Type 0} (test : X → Bool) (xs ys : List X) (Second : ℕ → Type 0) (first second : Option ℕ) (r : Result (Option ℕ) E) → xs ≡ ys → IsFirstFailing (EachPasses test xs) first → IsFirstFailing Second second → IfOk r (λ p. p ≡ then_place (length xs) first second) → IfOk r (IsFirstFailing (Then (length ys) (EachPasses test ys) Second))
then_slice test xs ys Second first second r same h k e =
    subst (λ zs. IfOk r (IsFirstFailing (Then (length zs) (EachPasses test zs) Second))) same (then_list test xs Second (length xs) first second r refl h k e)

pub then_images : {X Y E : Type 0} (f : X → Y) (test : Y → Bool) (xs : List X) (ys : List Y) (Second : ℕ → Type 0) (first second : Option ℕ) (r : Result (Option ℕ) E) → map f xs ≡ ys → IsFirstFailing (EachPasses test (map f xs)) first → IsFirstFailing Second second → IfOk r (λ p. p ≡ then_place (length xs) first second) → IfOk r (IsFirstFailing (Then (length ys) (EachPasses test ys) Second))
then_images f test xs ys Second first second r same h k e =
    subst (λ zs. IfOk r (IsFirstFailing (Then (length zs) (EachPasses test zs) Second))) same (then_list test (map f xs) Second (length xs) first second r (sym (length-map xs f)) h k e)
