-- Elements of lists by their places, and lists in which nothing stands twice.
use Rattle.std.proofs.Common.{◌≡◌, ◌⊎◌, ℕ, ◌<◌, zero, suc, Bool, true, List, [], ◌∷◌, ◌++◌, map, drop, get_or, refl, arith, sym, ap, ◌∙◌, subst, Some, slice_get, ⊎_elim, inl, inr, AllPairs}
use Rattle.std.specs.BTreeMap.{BTreeMap, IsOrdered, get, keys}
use Rattle.std.specs.List.{AllByRecursion, list_all, flat_map}
use Rattle.std.specs.Ordering.{nat_cmp}
use Rattle.std.proofs.lemmas.Bool.{and_parts, cases_order}
use Rattle.std.proofs.lemmas.Cmp.{nat_cmp_total}
use Rattle.std.proofs.lemmas.Grind.{flat_map-append}
use Rattle.std.proofs.lemmas.List.Concat.{flat_map-cons}
use Rattle.std.proofs.lemmas.Map.Entries.{btree_map_get_place}
use Rattle.std.proofs.lemmas.Map.Keys.{below_from_sorted}
use Rattle.std.proofs.lemmas.Option.{same_Some, slice_get_within, get_or_from_slice_get}

-- ---- what holds of each element
pub each_from : {X : Type 0} (P : X → Type 0) (xs : List X) → ((i : ℕ) (x : X) → slice_get xs i ≡ Some x → P x) → AllByRecursion P xs
each_from P [] h = tt
each_from P (y ∷ ys) h = (h 0 y refl, each_from P ys (λ i x e. h (suc i) x e))

pub each_append : {X : Type 0} (P : X → Type 0) (xs ys : List X) → AllByRecursion P xs → AllByRecursion P ys → AllByRecursion P (xs ++ ys)
each_append P [] ys g h = h
each_append P (x ∷ xs) ys g h = (g.0, each_append P xs ys g.1 h)

pub passes_at : {X : Type 0} (test : X → Bool) (xs : List X) (i : ℕ) (x : X) → list_all test xs ≡ true → slice_get xs i ≡ Some x → test x ≡ true
passes_at test [] i x t e = cc
passes_at test (y ∷ ys) zero x t e =
    subst (λ z. test z ≡ true) (same_Some y x e) (and_parts (test y) (list_all test ys) t).0
passes_at test (y ∷ ys) (suc i) x t e = passes_at test ys i x (and_parts (test y) (list_all test ys) t).1 e

-- ---- where the elements of a list come from
pub mapped_at : {X Y : Type 0} (f : X → Y) (xs : List X) (i : ℕ) (y : Y) → slice_get (map f xs) i ≡ Some y → (x : X) × (slice_get xs i ≡ Some x) × (f x ≡ y)
mapped_at f [] i y e = cc
mapped_at f (x ∷ xs) zero y e = (x, refl, same_Some (f x) y e)
mapped_at f (x ∷ xs) (suc i) y e = mapped_at f xs i y e

pub dropped_at : {X : Type 0} (n : ℕ) (xs : List X) (i : ℕ) (x : X) → slice_get (drop n xs) i ≡ Some x → (k : ℕ) × (slice_get xs k ≡ Some x)
dropped_at zero xs i x e = (i, e)
dropped_at (suc n) [] i x e = cc
dropped_at (suc n) (y ∷ ys) i x e = let p = dropped_at n ys i x e in (suc p.0, p.1)

pub append_cases : {X : Type 0} (xs ys : List X) (i : ℕ) (x : X) → slice_get (xs ++ ys) i ≡ Some x → ((k : ℕ) × (slice_get xs k ≡ Some x)) ⊎ ((k : ℕ) × (slice_get ys k ≡ Some x))
append_cases [] ys i x e = inr (i, e)
append_cases (y ∷ xs) ys zero x e = inl (0, e)
append_cases (y ∷ xs) ys (suc i) x e =
    ⊎_elim (λ (w : (k : ℕ) × (slice_get xs k ≡ Some x)). inl (suc w.0, w.1)) (λ (w : (k : ℕ) × (slice_get ys k ≡ Some x)). inr w) (append_cases xs ys i x e)

pub flat_source : {X Y : Type 0} (h : X → List Y) (xs : List X) (j : ℕ) (y : Y) → slice_get (flat_map h xs) j ≡ Some y → (i : ℕ) × (x : X) × (k : ℕ) × (slice_get xs i ≡ Some x) × (slice_get (h x) k ≡ Some y)
flat_source h [] j y e = cc
flat_source h (x ∷ xs) j y e =
    ⊎_elim (λ (w : (k : ℕ) × (slice_get (h x) k ≡ Some y)). (0, x, w.0, refl, w.1)) (λ (w : (k : ℕ) × (slice_get (flat_map h xs) k ≡ Some y)). let p = flat_source h xs w.0 y w.1 in (suc p.0, p.1, p.2, p.3, p.4)) (append_cases (h x) (flat_map h xs) j y (rw flat_map-cons at e))

pub flat_map-flat_map : {X Y Z : Type 0} (f : Y → List Z) (g : X → List Y) (xs : List X) → flat_map f (flat_map g xs) ≡ flat_map (λ x. flat_map f (g x)) xs
flat_map-flat_map f g [] = refl
flat_map-flat_map f g (x ∷ xs) =
    ap (flat_map f) (flat_map-cons g x xs)
    ∙ flat_map-append f (g x) (flat_map g xs)
    ∙ ap (λ zs. flat_map f (g x) ++ zs) (flat_map-flat_map f g xs)
    ∙ sym (flat_map-cons (λ y. flat_map f (g y)) x xs)

-- ---- lists in order
pub ordered_at : {X : Type 0} (R : X → X → Type 0) (xs : List X) (i j : ℕ) (x y : X) → AllPairs R xs → i < j → slice_get xs i ≡ Some x → slice_get xs j ≡ Some y → R x y
ordered_at R xs i j x y h l e f =
    subst (λ z. R z y) (get_or_from_slice_get xs i x x e) (subst (λ z. R (get_or xs i x) z) (get_or_from_slice_get xs j y x f) (h i j x l (slice_get_within xs j y f)))

-- ---- nothing stands at two places, and nothing stands in both
abbrev pub StandOnce : {X : Type 0} → List X → Type 0
StandOnce {X} xs = (i j : ℕ) (x : X) → slice_get xs i ≡ Some x → slice_get xs j ≡ Some x → i ≡ j

abbrev pub AreApart : {X : Type 0} → List X → List X → Type 0
AreApart {X} xs ys = (i j : ℕ) (x : X) → slice_get xs i ≡ Some x → slice_get ys j ≡ Some x → ⊥

once_more : {X : Type 0} (y : X) (ys : List X) → ((j : ℕ) → slice_get ys j ≡ Some y → ⊥) → StandOnce ys → StandOnce (y ∷ ys)
once_more y ys h g zero zero x e f = refl
once_more y ys h g zero (suc j) x e f = absurd (h j (f ∙ ap Some (sym (same_Some y x e))))
once_more y ys h g (suc i) zero x e f = absurd (h i (e ∙ ap Some (sym (same_Some y x f))))
once_more y ys h g (suc i) (suc j) x e f = ap suc (g i j x e f)

once_behind : {X : Type 0} (y : X) (ys : List X) → StandOnce (y ∷ ys) → StandOnce ys
once_behind y ys h i j x e f = let s : suc i ≡ suc j = h (suc i) (suc j) x e f in omega arith

pub once_append : {X : Type 0} (xs ys : List X) → StandOnce xs → StandOnce ys → AreApart xs ys → StandOnce (xs ++ ys)
once_append [] ys g h a = h
once_append (x ∷ xs) ys g h a =
    once_more x (xs ++ ys) (λ j e. ⊎_elim (λ (w : (k : ℕ) × (slice_get xs k ≡ Some x)). let s : 0 ≡ suc w.0 = g 0 (suc w.0) x refl w.1 in omega arith) (λ (w : (k : ℕ) × (slice_get ys k ≡ Some x)). a 0 w.0 x refl w.1) (append_cases xs ys j x e)) (once_append xs ys (once_behind x xs g) h (λ i j y e f. a (suc i) j y e f))

pub once_flat : {X Y : Type 0} (h : X → List Y) (xs : List X) → ((i : ℕ) (x : X) → slice_get xs i ≡ Some x → StandOnce (h x)) → ((i j : ℕ) (x z : X) → i < j → slice_get xs i ≡ Some x → slice_get xs j ≡ Some z → AreApart (h x) (h z)) → StandOnce (flat_map h xs)
once_flat h [] g a = λ i j y e f. cc
once_flat h (x ∷ xs) g a =
    rw flat_map-cons (once_append (h x) (flat_map h xs) (g 0 x refl) (once_flat h xs (λ i z e. g (suc i) z e) (λ i j y z l e f. a (suc i) (suc j) y z (omega arith) e f)) (λ i j y e f. let p = flat_source h xs j y f in a 0 (suc p.0) x p.1 (omega arith) refl p.3 i p.2 y e p.4))

pub once_mapped : {X Y : Type 0} (f : X → Y) → ((x z : X) → f x ≡ f z → x ≡ z) → (xs : List X) → StandOnce xs → StandOnce (map f xs)
once_mapped f apart xs h i j y e g =
    let v = mapped_at f xs i y e in
    let w = mapped_at f xs j y g in
    h i j v.0 v.1 (w.1 ∙ ap Some (apart w.0 v.0 (w.2 ∙ sym v.2)))

pub once_ordered : {X : Type 0} (R : X → X → Type 0) (xs : List X) → ((x : X) → R x x → ⊥) → AllPairs R xs → StandOnce xs
once_ordered R xs never h i j x e f =
    ⊎_elim (λ (s : i ≡ j). s) (λ (w : (i < j) ⊎ (j < i)). absurd (⊎_elim (λ (l : i < j). never x (ordered_at R xs i j x x h l e f)) (λ (l : j < i). never x (ordered_at R xs j i x x h l f e)) w)) (cases_order i j)

-- ---- keys of maps
module _ (m : BTreeMap ℕ ℕ) (ordered : IsOrdered nat_cmp m) where
  pub once_keys : StandOnce (keys m)
  once_keys =
      once_ordered (λ (a b : ℕ). a < b) (keys m) (λ a l. omega arith) (λ i j d l k. below_from_sorted (keys m) i j d ordered l k)

  pub key_found : (i k : ℕ) → slice_get (keys m) i ≡ Some k → (v : ℕ) × (get nat_cmp m k ≡ Some v)
  key_found i k e =
      let w = mapped_at (λ (p : ℕ × ℕ). p.0) m.entries i k e in
      (w.0.1, subst (λ (q : ℕ). get nat_cmp m q ≡ Some w.0.1) w.2 (btree_map_get_place nat_cmp_total m i w.0.0 w.0.1 ordered w.1))
