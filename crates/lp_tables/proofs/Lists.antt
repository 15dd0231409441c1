-- What holds of each element of a list, and a test of it that stops at the first element that fails.
use Rattle.std.proofs.Common.{◌≡◌, ◌↔◌, ℕ, ◌+◌, ◌-◌, ◌<◌, ◌≤◌, zero, suc, Bool, true, false, List, [], ◌∷◌, length, map, take, refl, arith, add-one, sym, ap, ◌∙◌, subst, Some, None, IsTrue, slice_get, cond, inl, inr}
use Rattle.std.specs.List.{AllByRecursion, list_any, list_all}
use Rattle.std.proofs.lemmas.Bool.{false≢true, and_parts, and_from, or_cases, or_left, or_right}
use Rattle.std.proofs.lemmas.List.{take_all}

pub each_at : {X : Type 0} (P : X → Type 0) (xs : List X) (i : ℕ) (x : X) → AllByRecursion P xs → slice_get xs i ≡ Some x → P x
each_at P [] i x h e = let no : None ≡ Some x = e in cc
each_at P (y ∷ ys) zero x h e = let same : y ≡ x = cc in subst P same h.0
each_at P (y ∷ ys) (suc i) x h e = each_at P ys i x h.1 e

pub each_from : {X : Type 0} (P : X → Type 0) (xs : List X) → ((i : ℕ) (x : X) → slice_get xs i ≡ Some x → P x) → AllByRecursion P xs
each_from P [] h = tt
each_from P (y ∷ ys) h = (h 0 y refl, each_from P ys (λ i x e. h (suc i) x e))

pub each_weaker : {X : Type 0} (P Q : X → Type 0) → ((x : X) → P x → Q x) → (xs : List X) → AllByRecursion P xs → AllByRecursion Q xs
each_weaker P Q f [] h = tt
each_weaker P Q f (x ∷ xs) h = (f x h.0, each_weaker P Q f xs h.1)

pub each_image : {X Y : Type 0} (f : X → Y) (P : Y → Type 0) (xs : List X) → AllByRecursion P (map f xs) → AllByRecursion (λ x. P (f x)) xs
each_image f P [] h = tt
each_image f P (x ∷ xs) h = (h.0, each_image f P xs h.1)

pub image_each : {X Y : Type 0} (f : X → Y) (P : Y → Type 0) (xs : List X) → AllByRecursion (λ x. P (f x)) xs → AllByRecursion P (map f xs)
image_each f P [] h = tt
image_each f P (x ∷ xs) h = (h.0, image_each f P xs h.1)

each_more_suc : {X : Type 0} (P : X → Type 0) (xs : List X) (i : ℕ) (x : X) → slice_get xs i ≡ Some x → AllByRecursion P (take i xs) → P x → AllByRecursion P (take (suc i) xs)
each_more_suc P [] i x e h p = let no : None ≡ Some x = e in cc
each_more_suc P (y ∷ ys) zero x e h p = let same : x ≡ y = cc in (subst P same p, tt)
each_more_suc P (y ∷ ys) (suc i) x e h p = (h.0, each_more_suc P ys i x e h.1 p)

-- one more element
pub each_more : {X : Type 0} (P : X → Type 0) (xs : List X) (i : ℕ) (x : X) → slice_get xs i ≡ Some x → AllByRecursion P (take i xs) → P x → AllByRecursion P (take (i + 1) xs)
each_more P xs i x e h p = rw add-one (each_more_suc P xs i x e h p)

-- the answer where an element fails, and where none does
pub fails_here : {X : Type 0} (P : X → Type 0) (xs : List X) (i : ℕ) (x : X) → slice_get xs i ≡ Some x → ¬ P x → IsTrue false ↔ AllByRecursion P xs
fails_here P xs i x e not_so = (λ no. absurd (false≢true no), λ all. absurd (not_so (each_at P xs i x all e)))

pub all_pass : {X : Type 0} (P : X → Type 0) (xs : List X) (i : ℕ) → length xs ≤ i → AllByRecursion P (take i xs) → IsTrue true ↔ AllByRecursion P xs
all_pass P xs i past h = (λ _. subst (AllByRecursion P) (take_all i xs past) h, λ _. refl)

-- the same of a walk that keeps what is left
pub rest_fails : {X : Type 0} (P : X → Type 0) (all rest new : List X) (x : X) → rest ≡ x ∷ new → (AllByRecursion P rest ↔ AllByRecursion P all) → ¬ P x → IsTrue false ↔ AllByRecursion P all
rest_fails P all rest new x e h not_so = (λ no. absurd (false≢true no), λ every. absurd (not_so (let these = subst (AllByRecursion P) e (h.1 every) in these.0)))

pub rest_goes : {X : Type 0} (P : X → Type 0) (all rest new : List X) (x : X) → rest ≡ x ∷ new → (AllByRecursion P rest ↔ AllByRecursion P all) → P x → AllByRecursion P new ↔ AllByRecursion P all
rest_goes P all rest new x e h p = (λ more. h.0 (subst (AllByRecursion P) (sym e) (p, more)), λ every. let these = subst (AllByRecursion P) e (h.1 every) in these.1)

pub rest_ends : {X : Type 0} (P : X → Type 0) (all rest : List X) → rest ≡ [] → (AllByRecursion P rest ↔ AllByRecursion P all) → IsTrue true ↔ AllByRecursion P all
rest_ends P all rest e h = (λ _. h.0 (subst (AllByRecursion P) (sym e) tt), λ _. refl)

-- tests of all elements
pub all_tests : {X : Type 0} (test : X → Bool) (P : X → Type 0) → ((x : X) → IsTrue (test x) ↔ P x) → (xs : List X) → IsTrue (list_all test xs) ↔ AllByRecursion P xs
all_tests test P h [] = (λ _. tt, λ _. refl)
all_tests test P h (x ∷ xs) =
    let rest = all_tests test P h xs in
    (λ t. let parts = and_parts (test x) (list_all test xs) t in ((h x).0 parts.0, rest.0 parts.1), λ all. and_from (test x) (list_all test xs) ((h x).1 all.0) (rest.1 all.1))

-- some element passes
pub any_place : {X : Type 0} (test : X → Bool) (xs : List X) → list_any test xs ≡ true → (i : ℕ) × (x : X) × (slice_get xs i ≡ Some x) × (test x ≡ true)
any_place test [] t = absurd (false≢true t)
any_place test (x ∷ xs) t =
    elim (or_cases (test x) (list_any test xs) t) [
      | inl now ↦ (0, x, refl, now)
      | inr later ↦ let p = any_place test xs later in (suc p.0, p.1, p.2, p.3)
    ]

pub any_at : {X : Type 0} (test : X → Bool) (xs : List X) (i : ℕ) (x : X) → slice_get xs i ≡ Some x → test x ≡ true → list_any test xs ≡ true
any_at test [] i x e t = let no : None ≡ Some x = e in cc
any_at test (y ∷ ys) zero x e t = let same : x ≡ y = cc in or_left (test y) (list_any test ys) (subst (λ z. test z ≡ true) same t)
any_at test (y ∷ ys) (suc i) x e t = or_right (test y) (list_any test ys) (any_at test ys i x e t)

-- two tests, one after the other
pub both_tests : (a b : Bool) (P Q R : Type 0) → (IsTrue a ↔ P) → (IsTrue b ↔ Q) → (P → Q → R) → (R → P) → (R → Q) → IsTrue (cond a b false) ↔ R
both_tests true b P Q R p q join left right = (λ t. join (p.0 refl) (q.0 t), λ r. q.1 (right r))
both_tests false b P Q R p q join left right = (λ t. absurd (false≢true t), λ r. p.1 (left r))

-- the first elements of a list
pub get_take : {X : Type 0} (xs : List X) (i j : ℕ) (x : X) → slice_get (take i xs) j ≡ Some x → (j < i) × (slice_get xs j ≡ Some x)
get_take xs zero j x e = let no : None ≡ Some x = e in cc
get_take [] (suc i) j x e = let no : None ≡ Some x = e in cc
get_take (y ∷ ys) (suc i) zero x e = (omega arith, e)
get_take (y ∷ ys) (suc i) (suc j) x e = let more = get_take ys i j x e in (omega (arith, more.0), more.1)

pub take_get : {X : Type 0} (xs : List X) (i j : ℕ) (x : X) → j < i → slice_get xs j ≡ Some x → slice_get (take i xs) j ≡ Some x
take_get xs zero j x less e = absurd (omega arith)
take_get [] (suc i) j x less e = let no : None ≡ Some x = e in cc
take_get (y ∷ ys) (suc i) zero x less e = e
take_get (y ∷ ys) (suc i) (suc j) x less e = take_get ys i j x (omega arith) e

-- what an answer refutes
pub not_so : {P : Type 0} (b : Bool) → (IsTrue b ↔ P) → b ≡ false → ¬ P
not_so b h e p = false≢true (sym e ∙ h.1 p)

-- an answer on a walk over what is the same
pub rest_begins : {X : Type 0} (P : X → Type 0) (rest all : List X) → rest ≡ all → AllByRecursion P rest ↔ AllByRecursion P all
rest_begins P rest all e = (λ h. subst (AllByRecursion P) e h, λ h. subst (AllByRecursion P) (sym e) h)

-- an element behind the first
pub get_later : {X : Type 0} (x : X) (xs : List X) (n : ℕ) → (n ≡ 0 → ⊥) → slice_get (x ∷ xs) n ≡ slice_get xs (n - 1)
get_later x xs zero h = absurd (h refl)
get_later x xs (suc n) h = ap (slice_get xs) (let e : n ≡ suc n - 1 = omega arith in e)
