-- States and what is kept of their items.
use Rattle.std.proofs.Common.{◌≡◌, ◌↔◌, ℕ, ◌<◌, zero, suc, List, [], ◌∷◌, ◌++◌, length, refl, arith, sym, ap, ◌∙◌, subst, Some, None, IsTrue, slice_get}
use Rattle.std.specs.List.{AllZip}
use Rattle.std.proofs.lemmas.Option.{same_Some, slice_get_within}
use Rattle.lp_repr.specs.Closure.{HasItem}
use Rattle.lp_repr.specs.declared.lr1.Lr1State.{Lr1State}
use Rattle.lp_repr.specs.declared.numbering.Rule.{Rule}
use Rattle.lp_tables.specs.Edges.{HoldsItem}
use Rattle.lp_tables.specs.Gathering.{Describes, AllDescribed}
use Rattle.lp_tables.specs.ItemSets.{has}
use Rattle.lp_tables.specs.declared.tables.StateItems.{StateItems}

-- elements of two lists at one place
zip_at : {A B : Type 0} (R : A → B → Type 0) (xs : List A) (ys : List B) (i : ℕ) (x : A) (y : B) → AllZip R xs ys → slice_get xs i ≡ Some x → slice_get ys i ≡ Some y → R x y
zip_at R [] ys i x y h e f = let no : None ≡ Some x = e in cc
zip_at R (a ∷ xs) [] i x y h e f = absurd h
zip_at R (a ∷ xs) (b ∷ ys) zero x y h e f = subst (R x) (same_Some b y f) (subst (λ z. R z b) (same_Some a x e) h.0)
zip_at R (a ∷ xs) (b ∷ ys) (suc i) x y h e f = zip_at R xs ys i x y h.1 e f

zip_length : {A B : Type 0} (R : A → B → Type 0) (xs : List A) (ys : List B) → AllZip R xs ys → length ys ≡ length xs
zip_length R [] [] h = refl
zip_length R [] (y ∷ ys) h = absurd h
zip_length R (x ∷ xs) [] h = absurd h
zip_length R (x ∷ xs) (y ∷ ys) h = ap suc (zip_length R xs ys h.1)

pub zip_more : {A B : Type 0} (R : A → B → Type 0) (xs : List A) (ys : List B) (x : A) (y : B) → AllZip R xs ys → R x y → AllZip R (xs ++ x ∷ []) (ys ++ y ∷ [])
zip_more R [] [] x y h r = (r, tt)
zip_more R [] (b ∷ ys) x y h r = absurd h
zip_more R (a ∷ xs) [] x y h r = absurd h
zip_more R (a ∷ xs) (b ∷ ys) x y h r = (h.0, zip_more R xs ys x y h.1 r)

pub described : (rules : List Rule) (states : List Lr1State) (all : List StateItems) → AllZip (Describes rules) states all → AllDescribed rules states all
described rules states all h = record { size = zip_length (Describes rules) states all h; each = λ i s k e f. zip_at (Describes rules) states all i s k h e f }

-- an element within a list
pub element : {X : Type 0} (xs : List X) (i : ℕ) → i < length xs → (x : X) × (slice_get xs i ≡ Some x)
element [] i less = absurd (omega arith)
element (x ∷ xs) zero less = (x, refl)
element (x ∷ xs) (suc i) less = element xs i (omega arith)

module _ (rules : List Rule) (states : List Lr1State) (all : List StateItems) (h : AllDescribed rules states all) where
  -- the state of a set
  pub state_of : (i : ℕ) (k : StateItems) → slice_get all i ≡ Some k → (s : Lr1State) × (slice_get states i ≡ Some s)
  state_of i k e = let less = slice_get_within all i k e in let size = h.size in element states i (omega arith)

  pub holds_of : (i : ℕ) (k : StateItems) (p d : ℕ) → slice_get all i ≡ Some k → IsTrue (has k.set p d) ↔ HoldsItem states i p d
  holds_of i k p d e =
      let s = state_of i k e in
      let same = (h.each i s.0 k s.1 e).set p d in
      (λ yes. (s.0, s.1, same.0 yes), λ held. same.1 (let eq : held.0 ≡ s.0 = same_Some held.0 s.0 (sym held.1 ∙ s.1) in subst (λ (x : Lr1State). HasItem x.items p d) eq held.2))
