-- The first place of each text below a place, and the least pair below it.
use Rattle.std.proofs.Common.{◌≡◌, ◌≢◌, ℕ, ◌<◌, ◌≤◌, ◌+◌, Bool, true, false, cond, List, length, Option, Some, None, slice_get, sym, ◌∙◌, ap, refl, arith, ⊎_elim}
use denote.Ref.{Bor}
use Rattle.std.specs.Bool.{Decides}
use Rattle.std.specs.BTreeMap.{BTreeMap, get_by}
use Rattle.std.specs.Cmp.Lexicographic.{slice_cmp}
use Rattle.std.specs.Ordering.{nat_cmp}
use Rattle.std.proofs.Math.Dec.{leb}
use Rattle.std.proofs.lemmas.Bool.{cases_lt, leb-true, leb-false}
use Rattle.lp_emit.specs.Clashes.{IsRepeat, IsNotAfter, IsLeastRepeat, lesser_of}

-- the place that a map has for a text
abbrev pub found : BTreeMap (Bor (List ℕ)) ℕ → List ℕ → Option ℕ
found m q = get_by (λ k. slice_cmp nat_cmp q k.now) m

-- the first of the places below n at which the text stands
abbrev pub IsFirstBelow : List (List ℕ) → ℕ → List ℕ → Option ℕ → Type 0
IsFirstBelow texts n q None = (k : ℕ) → k < n → slice_get texts k ≢ Some q
IsFirstBelow texts n q (Some f) = (f < n) × (slice_get texts f ≡ Some q) × ((k : ℕ) → k < f → slice_get texts k ≢ Some q)

-- the same below the next place, where the text at this one stands before
pub first_known :
    (texts : List (List ℕ)) (n : ℕ) (t q : List ℕ) (f : ℕ) (o : Option ℕ) → slice_get texts n ≡ Some t →
    (t ≡ q → o ≡ Some f) → IsFirstBelow texts n q o → IsFirstBelow texts (n + 1) q o
first_known texts n t q f None at agrees first = λ k below same.
    ⊎_elim (λ less. first k less same) (λ past. let e : k ≡ n = omega arith in let found : None ≡ Some f = agrees (cc) in absurd (cc)) (cases_lt k n)
first_known texts n t q f (Some g) at agrees first = (omega (arith, first.0), first.1, first.2)

-- the same, where the text at this place is new
pub first_new :
    (texts : List (List ℕ)) (n : ℕ) (t q : List ℕ) (b : Bool) (o : Option ℕ) → slice_get texts n ≡ Some t → Decides b (t ≡ q) →
    IsFirstBelow texts n t None → IsFirstBelow texts n q o → IsFirstBelow texts (n + 1) q (cond b (Some n) o)
first_new texts n t q true o at is_same new first =
    let same : t ≡ q = is_same.0 refl in
    (omega arith, at ∙ ap Some same, λ k below e. new k below (e ∙ ap Some (sym same)))
first_new texts n t q false None at is_same new first = λ k below e.
    ⊎_elim (λ less. first k less e) (λ past. let here : k ≡ n = omega arith in let same : t ≡ q = cc in let apart : false ≡ true = is_same.1 same in cc) (cases_lt k n)
first_new texts n t q false (Some g) at is_same new first = (omega (arith, first.0), first.1, first.2)

-- the least pair with the second place below n
abbrev pub IsLeastBelow : List (List ℕ) → ℕ → Option (ℕ × ℕ) → Type 0
IsLeastBelow texts n None = (i j : ℕ) → j < n → ¬ IsRepeat texts i j
IsLeastBelow texts n (Some pair) = (pair.1 < n) × IsRepeat texts pair.0 pair.1 × ((i j : ℕ) → j < n → IsRepeat texts i j → IsNotAfter pair i j)

-- the first of a pair whose second place is this one holds its text
first_of : (texts : List (List ℕ)) (n : ℕ) (t : List ℕ) (i j : ℕ) → slice_get texts n ≡ Some t → j ≡ n → IsRepeat texts i j → slice_get texts i ≡ Some t
first_of texts n t i j at e r = r.same ∙ ap (slice_get texts) e ∙ at

-- a new text makes no pair
pub least_new :
    (texts : List (List ℕ)) (n : ℕ) (t : List ℕ) (o : Option (ℕ × ℕ)) → slice_get texts n ≡ Some t → IsFirstBelow texts n t None →
    IsLeastBelow texts n o → IsLeastBelow texts (n + 1) o
least_new texts n t None at new least = λ i j below r.
    ⊎_elim (λ less. least i j less r) (λ past. new i (omega (arith, r.order)) (first_of texts n t i j at (omega arith) r)) (cases_lt j n)
least_new texts n t (Some pair) at new least = (
  omega (arith, least.0),
  least.1,
  λ i j below r.
      ⊎_elim (λ less. least.2 i j less r) (λ past. absurd (new i (omega (arith, r.order)) (first_of texts n t i j at (omega arith) r))) (cases_lt j n),
)

-- a text that stands first at f makes the pair of f and this place, which is not after any such pair
not_after :
    (texts : List (List ℕ)) (n : ℕ) (t : List ℕ) (f i j : ℕ) → slice_get texts n ≡ Some t → IsFirstBelow texts n t (Some f) → n ≤ j → j < n + 1 → IsRepeat texts i j →
    f ≤ i
not_after texts n t f i j at first past below r =
    ⊎_elim (λ less. absurd (first.2 i less (first_of texts n t i j at (omega arith) r))) (λ more. more) (cases_lt i f)

least_chosen :
    (texts : List (List ℕ)) (n : ℕ) (t : List ℕ) (f : ℕ) (pair : ℕ × ℕ) (b : Bool) → (b ≡ true → pair.0 ≤ f) → (b ≡ false → f < pair.0) →
    n < length texts → slice_get texts n ≡ Some t → IsFirstBelow texts n t (Some f) →
    IsLeastBelow texts n (Some pair) → IsLeastBelow texts (n + 1) (Some (cond b pair (f, n)))
least_chosen texts n t f pair true low high within at first least = (
  omega (arith, least.0),
  least.1,
  λ i j below r.
      ⊎_elim
      (λ less. least.2 i j less r)
      (λ past. let above : f ≤ i = not_after texts n t f i j at first past below r in let lower : pair.0 ≤ f = low refl in record { by_first = omega arith; by_second = λ e. omega (arith, least.0) })
      (cases_lt j n),
)
least_chosen texts n t f pair false low high within at first least = (
  omega arith,
  record { order = first.0; within = within; same = first.1 ∙ sym at },
  λ i j below r.
      let higher : f < pair.0 = high refl in
      ⊎_elim
      (λ less. let known : IsNotAfter pair i j = least.2 i j less r in record { by_first = omega (arith, known.by_first); by_second = λ e. absurd (omega (arith, known.by_first)) })
      (λ past. let above : f ≤ i = not_after texts n t f i j at first past below r in record { by_first = above; by_second = λ e. past })
      (cases_lt j n),
)

pub least_known :
    (texts : List (List ℕ)) (n : ℕ) (t : List ℕ) (f : ℕ) (o : Option (ℕ × ℕ)) → n < length texts → slice_get texts n ≡ Some t → IsFirstBelow texts n t (Some f) →
    IsLeastBelow texts n o → IsLeastBelow texts (n + 1) (Some (lesser_of o (f, n)))
least_known texts n t f None within at first least = (
  omega arith,
  record { order = first.0; within = within; same = first.1 ∙ sym at },
  λ i j below r.
      ⊎_elim
      (λ less. absurd (least i j less r))
      (λ past. let above : f ≤ i = not_after texts n t f i j at first past below r in record { by_first = above; by_second = λ e. past })
      (cases_lt j n),
)
least_known texts n t f (Some pair) within at first least = least_chosen texts n t f pair (leb pair.0 f) (leb-true pair.0 f) (leb-false pair.0 f) within at first least

-- the least pair of all
pub least_all : (texts : List (List ℕ)) (n : ℕ) (o : Option (ℕ × ℕ)) → length texts ≤ n → IsLeastBelow texts n o → IsLeastRepeat texts o
least_all texts n None past least = λ i j r. least i j (omega (arith, r.within)) r
least_all texts n (Some pair) past least = (least.1, λ i j r. least.2 i j (omega (arith, r.within)) r)
