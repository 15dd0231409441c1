-- One more reduction, as at a step of a loop over the reductions.
use Rattle.std.proofs.Common.{◌≡◌, ℕ, suc, ◌+◌, ◌<◌, All, Bool, true, false, Option, Some, None, List, [], ◌∷◌, ◌++◌, length, take, drop, get_or, ◌||◌, if◌then◌else◌, refl, ap, subst, ◌∙◌, sym, arith}
use Rattle.std.proofs.lemmas.List.{take_more, take-append-drop}
use Rattle.std.proofs.lemmas.List.Folds.{list_any_more}
use Rattle.std.specs.List.{list_any}
use Rattle.lp_repr.specs.declared.lr1.Token.{Token}
use Rattle.lp_parts.specs.Entries.{first_of_two, reduced_by, reduced_on}

pub first_of_two-assoc : (x y z : Option ℕ) → first_of_two (first_of_two x y) z ≡ first_of_two x (first_of_two y z)
first_of_two-assoc (Some x) y z = refl
first_of_two-assoc None y z = refl

pub first_of_two-none : (x : Option ℕ) → first_of_two x None ≡ x
first_of_two-none (Some x) = refl
first_of_two-none None = refl

pub reduced_on-append :
    (test : Token → Bool) (xs : List (List Token × ℕ)) (ys : List (List Token × ℕ)) →
    reduced_on test (xs ++ ys) ≡ first_of_two (reduced_on test xs) (reduced_on test ys)
reduced_on-append test [] ys = refl
reduced_on-append test (r ∷ rs) ys =
    ap (λ t. first_of_two (reduced_by test r.0 r.1) t) (reduced_on-append test rs ys)
    ∙ sym (first_of_two-assoc (reduced_by test r.0 r.1) (reduced_on test rs) (reduced_on test ys))

pub reduced_on_more :
    (test : Token → Bool) (rs : List (List Token × ℕ)) (i : ℕ) (r : List Token × ℕ) →
    i < length rs → r ≡ get_or rs i r →
    reduced_on test (take (i + 1) rs) ≡ first_of_two (reduced_on test (take i rs)) (reduced_by test r.0 r.1)
reduced_on_more test rs i r h is =
    ap (reduced_on test) (take_more rs i r h ∙ ap (λ x. take i rs ++ x ∷ []) (sym is))
    ∙ (reduced_on-append test (take i rs) (r ∷ [])
    ∙ ap (first_of_two (reduced_on test (take i rs))) (first_of_two-none (reduced_by test r.0 r.1)))

pub reduced_by_more :
    (test : Token → Bool) (tokens : List Token) (production i : ℕ) (d : Token) (old : Option ℕ) →
    i < length tokens →
    first_of_two old (reduced_by test (take (i + 1) tokens) production)
    ≡ first_of_two (first_of_two old (reduced_by test (take i tokens) production))
    (if test (get_or tokens i d) then Some production else None)
reduced_by_more test tokens production i d old h =
    rw (list_any_more test tokens i d h)
    (either old (list_any test (take i tokens)) (test (get_or tokens i d)) production)
  where
    either :
        (old : Option ℕ) (a b : Bool) (n : ℕ) →
        first_of_two old (if a || b then Some n else None)
        ≡ first_of_two (first_of_two old (if a then Some n else None)) (if b then Some n else None)
    either (Some x) a b n = refl
    either None true b n = refl
    either None false b n = refl

-- where the first reductions name no such token and the next one does, that one's production is reduced
pub reduced_on_found :
    (test : Token → Bool) (rs : List (List Token × ℕ)) (i : ℕ) (r : List Token × ℕ) →
    i < length rs → r ≡ get_or rs i r →
    reduced_on test (take i rs) ≡ None → list_any test r.0 ≡ true → reduced_on test rs ≡ Some r.1
reduced_on_found test rs i r h is before named =
    ap (reduced_on test) (sym (take-append-drop (i + 1) rs))
    ∙ (reduced_on-append test (take (i + 1) rs) (drop (i + 1) rs)
    ∙ ap (λ o. first_of_two o (reduced_on test (drop (i + 1) rs))) here)
  where
    here : reduced_on test (take (i + 1) rs) ≡ Some r.1
    here = reduced_on_more test rs i r h is ∙ rw (before, named) refl

-- where none of the next one's tokens is such a token either, none of them is reduced
pub reduced_on_passed :
    (test : Token → Bool) (rs : List (List Token × ℕ)) (i : ℕ) (r : List Token × ℕ) →
    i < length rs → r ≡ get_or rs i r →
    reduced_on test (take i rs) ≡ None → list_any test r.0 ≡ false → reduced_on test (take (i + 1) rs) ≡ None
reduced_on_passed test rs i r h is before named = reduced_on_more test rs i r h is ∙ rw (before, named) refl

-- where all reductions have productions below a bound, so has the one that is reduced
pub reduced_on_below :
    (bound : ℕ) (test : Token → Bool) (rs : List (List Token × ℕ)) → All (λ r. r.1 < bound) rs →
    (p : ℕ) → reduced_on test rs ≡ Some p → p < bound
reduced_on_below bound test [] h p e = cc
reduced_on_below bound test (r ∷ rs) h p e =
    elim (list_any test r.0) as (λ b. first_of_two (if b then Some r.1 else None) (reduced_on test rs) ≡ Some p → p < bound) [
      | true ↦ λ f. (let same : r.1 ≡ p = cc in subst (λ n. n < bound) same (h 0 r (omega arith)))
      | false ↦ λ f. reduced_on_below bound test rs (λ k d lt. h (suc k) d (omega arith)) p f
    ] e
