-- Things that no earlier one is equal to.
use Rattle.std.proofs.Common.{◌≡◌, ℕ, ◌+◌, ◌≤◌, zero, suc, Bool, true, false, not, cond, ◌||◌, List, [], ◌∷◌, length, map, take, refl, add-one, sym, ap, ◌∙◌, subst, Option, Some, None, IfSome, IfOk, Result, Ok, Err, slice_get}
use Rattle.std.specs.List.{list_any}
use Rattle.std.specs.Ordering.{is_eq}
use Rattle.std.specs.declared.cmp.Ordering.{Ordering}
use Rattle.std.specs.Option.{option_map}
use Rattle.std.proofs.lemmas.List.{take-map}
use Rattle.std.proofs.lemmas.Option.{slice_get_past, slice_get-map}
use Rattle.lp_valid.specs.Places.{IsNew, IsNewBy, IsFirstFailing}
use Rattle.lp_valid.proofs.Lookups.{any_agree, any_of_images}

or_false : (b c : Bool) → (b || (c || false)) ≡ (b || c)
or_false b true = refl
or_false b false = refl

or_assoc : (a b c : Bool) → (a || (b || c)) ≡ ((a || b) || c)
or_assoc true b c = refl
or_assoc false b c = refl

-- one more element
any_more_suc : {X : Type 0} (p : X → Bool) (xs : List X) (i : ℕ) (x : X) → slice_get xs i ≡ Some x → list_any p (take (suc i) xs) ≡ (list_any p (take i xs) || p x)
any_more_suc p [] i x e = cc
any_more_suc p (y ∷ ys) zero x e = let same : y ≡ x = cc in ap (λ z. p z || false) same ∙ or_false false (p x)
any_more_suc p (y ∷ ys) (suc i) x e = ap (λ b. p y || b) (any_more_suc p ys i x e) ∙ or_assoc (p y) (list_any p (take i ys)) (p x)

pub any_more : {X : Type 0} (p : X → Bool) (xs : List X) (i : ℕ) (x : X) → slice_get xs i ≡ Some x → list_any p (take (i + 1) xs) ≡ (list_any p (take i xs) || p x)
any_more p xs i x e = rw add-one (any_more_suc p xs i x e)

-- what an answer on a new element says of the elements before it
pub was_there : (f b : Bool) → f ≡ not b → f ≡ false → b ≡ true
was_there f true e h = refl
was_there f false e h = let no_way : true ≡ false = sym e ∙ h in cc

pub was_new : (f b : Bool) → f ≡ not b → f ≡ true → b ≡ false
was_new f true e h = let no_way : false ≡ true = sym e ∙ h in cc
was_new f false e h = refl

pub is_new : {X : Type 0} (cmp : X → X → Ordering) (xs : List X) (k : ℕ) (x : X) → slice_get xs k ≡ Some x → list_any (λ y. is_eq (cmp y x)) (take k xs) ≡ false → IsNew cmp xs k
is_new cmp xs k x e h = subst (λ o. IfSome o (λ z. list_any (λ y. is_eq (cmp y z)) (take k xs) ≡ false)) (sym e) h

pub not_new : {X : Type 0} (cmp : X → X → Ordering) (xs : List X) (k : ℕ) (x : X) → slice_get xs k ≡ Some x → list_any (λ y. is_eq (cmp y x)) (take k xs) ≡ true → ¬ IsNew cmp xs k
not_new cmp xs k x e h = λ is. let no_way : true ≡ false = sym h ∙ subst (λ o. IfSome o (λ z. list_any (λ y. is_eq (cmp y z)) (take k xs) ≡ false)) e is in cc

pub new_past : {X : Type 0} (same : X → X → Bool) (xs : List X) (k : ℕ) → length xs ≤ k → IsNewBy same xs k
new_past same xs k h = subst (λ o. IfSome o (λ z. list_any (λ y. same y z) (take k xs) ≡ false)) (sym (slice_get_past xs k h)) tt

-- what a set with one more key has
pub one_more : (c a b : Bool) → c ≡ cond a true b → c ≡ (b || a)
one_more c true true e = e
one_more c true false e = e
one_more c false true e = e
one_more c false false e = e

-- rules that say the same
pub alike : (P Q : ℕ → Type 0) → ((k : ℕ) → P k → Q k) → ((k : ℕ) → Q k → P k) → (r : Option ℕ) → IsFirstFailing P r → IsFirstFailing Q r
alike P Q to back None h = λ k. to k (h k)
alike P Q to back (Some k) h = (λ q. h.0 (back k q), λ j less. to j (h.1 j less))

-- sameness that agrees
new_alike : {X : Type 0} (p q : X → X → Bool) → ((y x : X) → p y x ≡ q y x) → (xs : List X) (k : ℕ) → IsNewBy p xs k → IsNewBy q xs k
new_alike p q e xs k =
    elim (slice_get xs k) as (λ o. IfSome o (λ x. list_any (λ y. p y x) (take k xs) ≡ false) → IfSome o (λ x. list_any (λ y. q y x) (take k xs) ≡ false)) [
      | None ↦ λ h. h
      | Some x ↦ λ h. sym (any_agree (λ y. p y x) (λ y. q y x) (λ y. e y x) (take k xs)) ∙ h
    ]

pub first_alike : {X E : Type 0} (p q : X → X → Bool) → ((y x : X) → p y x ≡ q y x) → (xs : List X) (r : Result (Option ℕ) E) → IfOk r (IsFirstFailing (IsNewBy p xs)) → IfOk r (IsFirstFailing (IsNewBy q xs))
first_alike p q e xs (Ok o) h = alike (IsNewBy p xs) (IsNewBy q xs) (new_alike p q e xs) (new_alike q p (λ y x. sym (e y x)) xs) o h
first_alike p q e xs (Err x) h = tt

-- sameness of images
to_image : {X Y : Type 0} (f : X → Y) (p : Y → Y → Bool) (xs : List X) (k : ℕ) → IsNewBy (λ y x. p (f y) (f x)) xs k → IsNewBy p (map f xs) k
to_image f p xs k =
    rw (slice_get-map f xs k, take-map f k xs) (elim (slice_get xs k) as (λ o. IfSome o (λ x. list_any (λ y. p (f y) (f x)) (take k xs) ≡ false) → IfSome (option_map f o) (λ x. list_any (λ y. p y x) (map f (take k xs)) ≡ false)) [
      | None ↦ λ h. h
      | Some x ↦ λ h. sym (any_of_images f (λ y. p y (f x)) (take k xs)) ∙ h
    ])

from_image : {X Y : Type 0} (f : X → Y) (p : Y → Y → Bool) (xs : List X) (k : ℕ) → IsNewBy p (map f xs) k → IsNewBy (λ y x. p (f y) (f x)) xs k
from_image f p xs k =
    rw (slice_get-map f xs k, take-map f k xs) (elim (slice_get xs k) as (λ o. IfSome (option_map f o) (λ x. list_any (λ y. p y x) (map f (take k xs)) ≡ false) → IfSome o (λ x. list_any (λ y. p (f y) (f x)) (take k xs) ≡ false)) [
      | None ↦ λ h. h
      | Some x ↦ λ h. any_of_images f (λ y. p y (f x)) (take k xs) ∙ h
    ])

pub first_of_image : {X Y E : Type 0} (f : X → Y) (p : Y → Y → Bool) (xs : List X) (r : Result (Option ℕ) E) → IfOk r (IsFirstFailing (IsNewBy (λ y x. p (f y) (f x)) xs)) → IfOk r (IsFirstFailing (IsNewBy p (map f xs)))
first_of_image f p xs (Ok o) h = alike (IsNewBy (λ y x. p (f y) (f x)) xs) (IsNewBy p (map f xs)) (to_image f p xs) (from_image f p xs) o h
first_of_image f p xs (Err x) h = tt

pub first_in_image : {X Y E : Type 0} (f : X → Y) (p : Y → Y → Bool) (xs : List X) (r : Result (Option ℕ) E) → IfOk r (IsFirstFailing (IsNewBy p (map f xs))) → IfOk r (IsFirstFailing (IsNewBy (λ y x. p (f y) (f x)) xs))
first_in_image f p xs (Ok o) h = alike (IsNewBy p (map f xs)) (IsNewBy (λ y x. p (f y) (f x)) xs) (from_image f p xs) (to_image f p xs) o h
first_in_image f p xs (Err x) h = tt
