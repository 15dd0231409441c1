-- The arms of a goto function, one state at a time, as the loops make them.
use Rattle.std.proofs.Common.{◌≡◌, ℕ, zero, suc, ◌+◌, ◌<◌, ◌≤◌, List, [], ◌∷◌, ◌++◌, Some, length, take, drop, get_or, set, refl, ap, subst, sym, ◌∙◌, add-one, arith, eq-eqb}
use Rattle.std.proofs.lemmas.Option.{slice_get-get_or}
use Rattle.std.proofs.Math.Seq.{drop-cons}
use Rattle.std.proofs.lemmas.Bool.{lt-ltb, le-ltb, ne_eqb}
use Rattle.std.proofs.lemmas.List.{set_split}
use Rattle.std.specs.List.{insert}
use Rattle.lp_state_parts.specs.declared.gotos.GotoArm.{GotoArm}
use Rattle.std.specs.List.{slice_get}
use Rattle.std.specs.Option.{IfSome}
use Rattle.lp_state_parts.specs.GotoPlaces.{IsPlaceFor, IsPlaceOf}
use Rattle.lp_state_parts.specs.Gotos.{grow, one_state_range, with_state}

-- an arm with a lesser target is passed
pub with_state-less :
    (s t : ℕ) (arm : GotoArm) (arms : List GotoArm) → arm.target < t →
    with_state s t (arm ∷ arms) ≡ arm ∷ with_state s t arms
with_state-less s t arm arms h = rw (lt-ltb arm.target t h) refl

-- the arm of the target grows
pub with_state-here :
    (s t : ℕ) (arm : GotoArm) (arms : List GotoArm) → arm.target ≡ t →
    with_state s t (arm ∷ arms) ≡ record { target = t; ranges = grow s arm.ranges } ∷ arms
with_state-here s t arm arms e =
    let notless : t ≤ arm.target = omega arith in
    rw (le-ltb arm.target t notless, eq-eqb arm.target t e) refl

-- an arm with a greater target comes after a new one
pub with_state-greater :
    (s t : ℕ) (arm : GotoArm) (arms : List GotoArm) → t < arm.target →
    with_state s t (arm ∷ arms) ≡ record { target = t; ranges = one_state_range s ∷ [] } ∷ arm ∷ arms
with_state-greater s t arm arms h =
    let notless : t ≤ arm.target = omega arith in
    let apart : arm.target ≡ t → ⊥ = omega arith in
    rw (le-ltb arm.target t notless, ne_eqb arm.target t apart) refl

-- a list from a place on begins with the element there
pub split_at :
    {X : Type 0} (xs : List X) (i : ℕ) (x : X) → i < length xs → x ≡ get_or xs i x → drop i xs ≡ x ∷ drop (i + 1) xs
split_at xs i x h is = rw add-one (drop-cons xs i x h ∙ ap (λ y. y ∷ drop (suc i) xs) (sym is))

put_in_front :
    (s t : ℕ) (arms : List GotoArm) → IfSome (slice_get arms 0) (λ arm. t < arm.target) →
    with_state s t arms ≡ record { target = t; ranges = one_state_range s ∷ [] } ∷ arms
put_in_front s t [] h = refl
put_in_front s t (arm ∷ arms) h = with_state-greater s t arm arms h

slice_get-first : {X : Type 0} (xs : List X) (i : ℕ) → slice_get xs i ≡ slice_get (drop i xs) 0
slice_get-first [] zero = refl
slice_get-first [] (suc i) = refl
slice_get-first (x ∷ xs) zero = refl
slice_get-first (x ∷ xs) (suc i) = slice_get-first xs i

slice_get_at : {X : Type 0} (xs : List X) (i : ℕ) (x : X) → i < length xs → x ≡ get_or xs i x → slice_get xs i ≡ Some x
slice_get_at xs i x h is = slice_get-get_or xs i x h ∙ ap Some (sym is)

-- the arm of a target grows in its place
pub with_state_grown :
    (s t : ℕ) (arms : List GotoArm) (i : ℕ) (x : GotoArm) →
    IsPlaceOf arms t i → x ≡ get_or arms i x →
    set arms i (record { target = x.target; ranges = grow s x.ranges }) ≡ with_state s t arms
with_state_grown s t arms i x p is =
    let there : x.target ≡ t = subst (λ o. IfSome o (λ arm. arm.target ≡ t)) (slice_get_at arms i x p.within is) p.there in
    set_split arms i (record { target = x.target; ranges = grow s x.ranges }) p.within
    ∙ (ap (λ n. take i arms ++ record { target = n; ranges = grow s x.ranges } ∷ drop (suc i) arms) there
    ∙ (ap (λ r. take i arms ++ r) (sym (with_state-here s t x (drop (suc i) arms) there))
    ∙ (ap (λ r. take i arms ++ with_state s t r) (sym (drop-cons arms i x p.within ∙ ap (λ y. y ∷ drop (suc i) arms) (sym is)))
    ∙ sym (p.adds s))))

-- a new arm of a state stands in its place
pub with_state_put_in :
    (s t : ℕ) (arms : List GotoArm) (i : ℕ) → IsPlaceFor arms t i →
    insert arms i (record { target = t; ranges = one_state_range s ∷ [] }) ≡ with_state s t arms
with_state_put_in s t arms i p =
    ap (λ r. take i arms ++ r) (sym (put_in_front s t (drop i arms) (subst (λ o. IfSome o (λ arm. t < arm.target)) (slice_get-first arms i) p.greater)))
    ∙ sym (p.adds s)
