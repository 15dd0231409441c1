-- Sums that stop at a greatest number.
use Rattle.std.proofs.Common.{◌≡◌, ℕ, ◌+◌, ◌-◌, ◌^◌, ◌<◌, ◌≤◌, List, [], ◌∷◌, length, map, drop, get_or, refl, ap, sym, ◌∙◌, arith}
use Rattle.std.specs.Prelude.{min}
use Rattle.std.specs.List.{sum_by, zip}
use Rattle.std.proofs.lemmas.List.{at_drop_more, at_drop_all}
use Rattle.std.proofs.lemmas.List.Sums.{sum_by-cons}
use Rattle.lp_form.specs.declared.template.Kind.{Kind}
use Rattle.lp_view.specs.Weights.{elements_in, elements_of}

-- the greatest u64
abbrev pub greatest : ℕ
greatest = 2 ^ 64 - 1

-- one summand more, nothing more, and all of them
pub total_more : (m all count left value rest part new : ℕ) → min m (count + left) ≡ all → left ≡ value + rest → part ≡ min m value → new ≡ min (count + part) m → min m (new + rest) ≡ all
total_more m all count left value rest part new h l p n = omega arith

pub total_add : (m all count left value rest part new : ℕ) → min m (count + left) ≡ all → left ≡ value + rest → part ≡ value → new ≡ min (count + part) m → min m (new + rest) ≡ all
total_add m all count left value rest part new h l p n = omega arith

pub total_same : (m all count left rest new : ℕ) → min m (count + left) ≡ all → left ≡ 0 → rest ≡ 0 → new ≡ count → min m (new + rest) ≡ all
total_same m all count left rest new h l r n = omega arith

pub total_done : (m all count left : ℕ) → min m (count + left) ≡ all → left ≡ 0 → count ≤ m → count ≡ all
total_done m all count left h l c = omega arith

-- the sum of what is left
pub sum_more : {A B : Type 0} (f : B → ℕ) (g : A → B) (xs : List A) (i : ℕ) (x : A) → i < length xs → x ≡ get_or xs i x → sum_by f (map g (drop i xs)) ≡ f (g x) + sum_by f (map g (drop (i + 1) xs))
sum_more {A} f g xs i x less is =
    at_drop_more (λ (ys : List A). sum_by f (map g ys)) xs i x less
    ∙ ap (λ (y : A). sum_by f (map g (y ∷ drop (i + 1) xs))) (sym is)
    ∙ sum_by-cons f (g x) (map g (drop (i + 1) xs))

pub sum_none : {A B : Type 0} (f : B → ℕ) (g : A → B) (xs : List A) (i : ℕ) → length xs ≤ i → sum_by f (map g (drop i xs)) ≡ 0
sum_none {A} f g xs i past = at_drop_all (λ (ys : List A). sum_by f (map g ys)) xs i past

-- the elements in the holes that are left
pub listed_more : (kinds : List Kind) (holes : List (List ℕ)) (i : ℕ) (d : Kind) (hole : List ℕ) → i < length kinds → i < length holes → hole ≡ get_or holes i hole → elements_of (drop i kinds) (drop i holes) ≡ elements_in (get_or kinds i d) hole + elements_of (drop (i + 1) kinds) (drop (i + 1) holes)
listed_more kinds holes i d hole there within is =
    let kind : Kind = get_or kinds i d in
    at_drop_more (λ (ks : List Kind). elements_of ks (drop i holes)) kinds i d there
    ∙ at_drop_more (λ (hs : List (List ℕ)). elements_of (kind ∷ drop (i + 1) kinds) hs) holes i hole within
    ∙ ap (λ (y : List ℕ). elements_of (kind ∷ drop (i + 1) kinds) (y ∷ drop (i + 1) holes)) (sym is)
    ∙ sum_by-cons (λ p. elements_in p.0 p.1) (kind, hole) (zip (drop (i + 1) kinds) (drop (i + 1) holes))

pub listed_none : (kinds : List Kind) (holes : List (List ℕ)) (i : ℕ) → length kinds ≤ i → elements_of (drop i kinds) holes ≡ 0
listed_none kinds holes i past = at_drop_all (λ (ks : List Kind). elements_of ks holes) kinds i past

no_holes : (kinds : List Kind) → elements_of kinds [] ≡ 0
no_holes [] = refl
no_holes (k ∷ kinds) = refl

pub listed_done : (kinds : List Kind) (holes : List (List ℕ)) (i : ℕ) → length holes ≤ i → elements_of (drop i kinds) (drop i holes) ≡ 0
listed_done kinds holes i past = at_drop_all (λ (hs : List (List ℕ)). elements_of (drop i kinds) hs) holes i past ∙ no_holes (drop i kinds)
