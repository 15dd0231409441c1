-- A walk over a list that stops at the first element that fails.
use Rattle.std.proofs.Common.{◌≡◌, ◌↔◌, ℕ, ◌+◌, ◌<◌, ◌≤◌, Bool, true, false, List, length, get_or, take, All, IsTrue, refl, sym, ◌∙◌, subst}
use Rattle.std.proofs.lemmas.Bool.{false≢true}
use Rattle.std.proofs.lemmas.List.{take_all}
use Rattle.std.proofs.lemmas.List.Elements.{All-more, All-get_or}

-- an element, as the walk holds it, and the answer on it
pub each_stops : {X : Type 0} (P : X → Type 0) (xs : List X) (i : ℕ) (x y : X) (r : Bool) → i < length xs → x ≡ get_or xs i x → y ≡ x → (IsTrue r ↔ P y) → r ≡ false → IsTrue false ↔ All P xs
each_stops P xs i x y r lt at same told fails = (
  λ t. absurd (false≢true t),
  λ all. absurd (false≢true (sym fails ∙ told.1 (subst P (sym (same ∙ at)) (All-get_or P xs i x lt all)))),
)

pub each_goes_on : {X : Type 0} (P : X → Type 0) (xs : List X) (i : ℕ) (x y : X) (r : Bool) → i < length xs → x ≡ get_or xs i x → y ≡ x → (IsTrue r ↔ P y) → r ≡ true → All P (take i xs) → All P (take (i + 1) xs)
each_goes_on P xs i x y r lt at same told holds all = All-more P xs i x lt all (subst P (same ∙ at) (told.0 holds))

pub each_ends : {X : Type 0} (P : X → Type 0) (xs : List X) (i : ℕ) → length xs ≤ i → All P (take i xs) → IsTrue true ↔ All P xs
each_ends P xs i le all = (λ t. subst (All P) (take_all i xs le) all, λ a. refl)
