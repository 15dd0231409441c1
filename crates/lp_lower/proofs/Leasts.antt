-- The least of places, one after the other.
use Rattle.std.proofs.Common.{◌≡◌, ℕ, ◌+◌, ◌<◌, min, Bool, true, false, cond, List, [], ◌∷◌, ◌++◌, length, map, take, Option, None, Some, refl, sym, ap, ◌∙◌, arith}
use Rattle.std.proofs.Math.ListN.{get_or}
use Rattle.std.specs.Prelude.{filter}
use Rattle.std.proofs.lemmas.List.Elements.{filter_more}
use Rattle.std.proofs.lemmas.List.{map-append}
use Rattle.lp_lower.specs.Places.{least, least_of}

pub least-none : (a : Option ℕ) → least a None ≡ a
least-none None = refl
least-none (Some a) = refl

pub least_assoc : (a b c : Option ℕ) → least (least a b) c ≡ least a (least b c)
least_assoc None b c = refl
least_assoc (Some a) None c = refl
least_assoc (Some a) (Some b) None = refl
least_assoc (Some a) (Some b) (Some c) = let e : min (min a b) c ≡ min a (min b c) = omega arith in ap Some e

pub least_of-append : (xs ys : List ℕ) → least_of (xs ++ ys) ≡ least (least_of xs) (least_of ys)
least_of-append [] ys = refl
least_of-append (x ∷ xs) ys = ap (least (Some x)) (least_of-append xs ys) ∙ sym (least_assoc (Some x) (least_of xs) (least_of ys))

-- the least place of those that pass, with one more thing
pub least_more : {X : Type 0} (test : X → Bool) (place : X → ℕ) (xs : List X) (i : ℕ) (x : X) → i < length xs → get_or xs i x ≡ x → least_of (map place (filter test (take (i + 1) xs))) ≡ cond (test x) (least (least_of (map place (filter test (take i xs)))) (Some (place x))) (least_of (map place (filter test (take i xs))))
least_more test place xs i x h at =
    let before = filter test (take i xs) in
    ap (λ ys. least_of (map place ys)) (filter_more test xs i x h ∙ ap (λ y. before ++ cond (test y) (y ∷ []) []) at)
    ∙ elim (test x) as (λ b. least_of (map place (before ++ cond b (x ∷ []) [])) ≡ cond b (least (least_of (map place before)) (Some (place x))) (least_of (map place before))) [
      | true ↦ ap least_of (map-append place before (x ∷ [])) ∙ least_of-append (map place before) (place x ∷ [])
      | false ↦ ap least_of (map-append place before []) ∙ least_of-append (map place before) [] ∙ least-none (least_of (map place before))
    ]

-- a place that is taken where the next thing passes
pub least_step : {X : Type 0} (test : X → Bool) (place : X → ℕ) (xs : List X) (i : ℕ) (x : X) → i < length xs → get_or xs i x ≡ x → (b : Bool) → b ≡ test x → (found new : Option ℕ) → found ≡ least_of (map place (filter test (take i xs))) → new ≡ cond b (least found (Some (place x))) found → new ≡ least_of (map place (filter test (take (i + 1) xs)))
least_step test place xs i x h at b passes found new was is =
    is ∙ ap (λ f. cond b (least f (Some (place x))) f) was
    ∙ ap (λ c. cond c (least (least_of (map place (filter test (take i xs)))) (Some (place x))) (least_of (map place (filter test (take i xs))))) passes
    ∙ sym (least_more test place xs i x h at)

-- some more places, before those to come
pub least_before : (found new whole : Option ℕ) (here rest : List ℕ) → new ≡ least found (least_of here) → least found (least_of (here ++ rest)) ≡ whole → least new (least_of rest) ≡ whole
least_before found new whole here rest is was =
    ap (λ f. least f (least_of rest)) is ∙ (least_assoc found (least_of here) (least_of rest) ∙ (ap (least found) (sym (least_of-append here rest)) ∙ was))

-- the same, where they are taken on a test
pub least_before_if : (b : Bool) (found new whole : Option ℕ) (here rest : List ℕ) → new ≡ cond b (least found (least_of here)) found → least found (least_of (cond b here [] ++ rest)) ≡ whole → least new (least_of rest) ≡ whole
least_before_if true found new whole here rest is was = least_before found new whole here rest is was
least_before_if false found new whole here rest is was = least_before found new whole [] rest (is ∙ sym (least-none found)) was
