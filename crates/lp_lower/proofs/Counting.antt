-- Extents of right sides.
use Rattle.std.proofs.Common.{◌≡◌, ℕ, ◌+◌, ◌-◌, ◌*◌, ◌^◌, ◌<◌, ◌≤◌, zero, suc, min, ◌||◌, List, [], ◌∷◌, ◌++◌, length, map, lit<, sym, ap, ◌∙◌, arith, length-append, ⊎_elim}
use Rattle.std.specs.Prelude.{sum_by, nat_lt}
use Rattle.std.proofs.Math.Nat.{mul-le-mul, mul-zero, zero-mul, mul_comm}
use Rattle.std.proofs.lemmas.List.{length-map, map-append}
use Rattle.std.proofs.lemmas.List.Sums.{sum_by-append}
use Rattle.std.proofs.lemmas.Bool.{cases_lt, lt-ltb}
use Rattle.lp_repr.specs.declared.repr.Symbol.{Symbol}
use Rattle.lp_lower.specs.Extents.{capped, extent_of, joined}
use Rattle.lp_lower.specs.RightSides.{are_too_many}
use Rattle.lp_lower.specs.declared.extents.Extent.{Extent}

sum_by-cons : {X : Type 0} (f : X → ℕ) (x : X) (xs : List X) → sum_by f (x ∷ xs) ≡ f x + sum_by f xs
sum_by-cons f x xs = let e = sum_by-append f (x ∷ []) xs in omega (arith, e)

capped_plus : (a b m : ℕ) → min (min a m + min b m) m ≡ min (a + b) m
capped_plus a b m = omega arith

-- a product that passes m passes it also where its factors are cut at m
past : (a b m : ℕ) → m < a → 0 < b → m ≤ min a m * min b m
past a b zero over pos = omega arith
past a b (suc m) over pos =
    let p : suc m * 1 ≤ min a (suc m) * min b (suc m) = mul-le-mul (omega arith) (omega arith) in
    omega (arith, p)

more : (a b m : ℕ) → m < a → 0 < b → m ≤ a * b
more a b m over pos =
    let p : a * 1 ≤ a * b = mul-le-mul (omega arith) (omega arith) in
    omega (arith, p)

capped_past : (a b m : ℕ) → m < a → min (min a m * min b m) m ≡ min (a * b) m
capped_past a zero m over = let e : min a m * min 0 m ≡ 0 = ap (λ n. min a m * n) (omega arith) ∙ mul-zero (min a m) in omega (arith, e, mul-zero a)
capped_past a (suc b) m over =
    let p = past a (suc b) m over (omega arith) in
    let q = more a (suc b) m over (omega arith) in
    omega (arith, p, q)

capped_times : (a b m : ℕ) → min (min a m * min b m) m ≡ min (a * b) m
capped_times a b m =
    ⊎_elim
    (λ over. capped_past a b m over)
    (λ within. ⊎_elim
    (λ over. ap (λ n. min n m) (mul_comm (min a m) (min b m)) ∙ (capped_past b a m over ∙ ap (λ n. min n m) (mul_comm b a)))
    (λ also. ap (λ x. min (x * min b m) m) (let e : min a m ≡ a = omega arith in e) ∙ ap (λ y. min (a * y) m) (let e : min b m ≡ b = omega arith in e))
    (cases_lt m b))
    (cases_lt m a)

length-joined : (xs ys : List (List Symbol)) → length (joined xs ys) ≡ length xs * length ys
length-joined [] ys = sym (zero-mul (length ys))
length-joined (x ∷ xs) ys =
    let e = length-append (map (λ b. x ++ b) ys) (joined xs ys) in
    let f = length-map ys (λ b. x ++ b) in
    let g = length-joined xs ys in
    let h : (1 + length xs) * length ys ≡ length ys + length xs * length ys = omega arith in
    omega (arith, e, f, g, h)

sum-map : (x : List Symbol) (ys : List (List Symbol)) → sum_by length (map (λ b. x ++ b) ys) ≡ length x * length ys + sum_by length ys
sum-map x [] = let e = mul-zero (length x) in omega (arith, e)
sum-map x (y ∷ ys) =
    let e = sum_by-cons length (x ++ y) (map (λ b. x ++ b) ys) in
    let f = sum_by-cons length y ys in
    let g = sum-map x ys in
    let h = length-append x y in
    let k : length x * (1 + length ys) ≡ length x + length x * length ys = omega arith in
    omega (arith, e, f, g, h, k)

sum-joined : (xs ys : List (List Symbol)) → sum_by length (joined xs ys) ≡ sum_by length xs * length ys + sum_by length ys * length xs
sum-joined [] ys = let e : sum_by length ys * 0 ≡ 0 = mul-zero (sum_by length ys) in let f : 0 * length ys ≡ 0 = zero-mul (length ys) in omega (arith, e, f)
sum-joined (x ∷ xs) ys =
    let e = sum_by-append length (map (λ b. x ++ b) ys) (joined xs ys) in
    let f = sum-map x ys in
    let g = sum-joined xs ys in
    let h = sum_by-cons length x xs in
    let k : (length x + sum_by length xs) * length ys ≡ length x * length ys + sum_by length xs * length ys = omega arith in
    let l : sum_by length ys * (1 + length xs) ≡ sum_by length ys + sum_by length ys * length xs = omega arith in
    let m : sum_by length (x ∷ xs) * length ys ≡ length x * length ys + sum_by length xs * length ys = ap (λ n. n * length ys) h ∙ k in
    omega (arith, e, f, g, m, l)

abbrev most : ℕ
most = 2 ^ 64 - 1

abbrev extent : ℕ → ℕ → Extent
extent a s = record { alternatives = a; symbols = s }

pub plus_of : (a b : List (List Symbol)) (s t r : Extent) → s ≡ extent_of a → t ≡ extent_of b → r.alternatives ≡ capped (s.alternatives + t.alternatives) → r.symbols ≡ capped (s.symbols + t.symbols) → r ≡ extent_of (a ++ b)
unfolding extent_of
plus_of a b s t r p q u v =
    let n : r.alternatives ≡ capped (length (a ++ b)) =
    u ∙ (ap (λ (e : Extent). capped (e.alternatives + t.alternatives)) p ∙ (ap (λ (e : Extent). capped (capped (length a) + e.alternatives)) q ∙ (capped_plus (length a) (length b) most ∙ ap capped (sym (length-append a b)))))
    in
    let m : r.symbols ≡ capped (sum_by length (a ++ b)) =
    v ∙ (ap (λ (e : Extent). capped (e.symbols + t.symbols)) p ∙ (ap (λ (e : Extent). capped (capped (sum_by length a) + e.symbols)) q ∙ (capped_plus (sum_by length a) (sum_by length b) most ∙ ap capped (sym (sum_by-append length a b)))))
    in
    ap (λ x. extent x r.symbols) n ∙ ap (extent (capped (length (a ++ b)))) m

pub times_of : (a b : List (List Symbol)) (s t r : Extent) (left right : ℕ) → s ≡ extent_of a → t ≡ extent_of b → r.alternatives ≡ capped (s.alternatives * t.alternatives) → left ≡ capped (s.symbols * t.alternatives) → right ≡ capped (t.symbols * s.alternatives) → r.symbols ≡ capped (left + right) → r ≡ extent_of (joined a b)
unfolding extent_of
times_of a b s t r left right p q u l k v =
    let n : r.alternatives ≡ capped (length (joined a b)) =
    u ∙ (ap (λ (e : Extent). capped (e.alternatives * t.alternatives)) p ∙ (ap (λ (e : Extent). capped (capped (length a) * e.alternatives)) q ∙ (capped_times (length a) (length b) most ∙ ap capped (sym (length-joined a b)))))
    in
    let first : left ≡ capped (sum_by length a * length b) =
    l ∙ (ap (λ (e : Extent). capped (e.symbols * t.alternatives)) p ∙ (ap (λ (e : Extent). capped (capped (sum_by length a) * e.alternatives)) q ∙ capped_times (sum_by length a) (length b) most))
    in
    let second : right ≡ capped (sum_by length b * length a) =
    k ∙ (ap (λ (e : Extent). capped (t.symbols * e.alternatives)) p ∙ (ap (λ (e : Extent). capped (e.symbols * capped (length a))) q ∙ capped_times (sum_by length b) (length a) most))
    in
    let m : r.symbols ≡ capped (sum_by length (joined a b)) =
    v ∙ (ap (λ x. capped (x + right)) first ∙ (ap (λ y. capped (capped (sum_by length a * length b) + y)) second ∙ (capped_plus (sum_by length a * length b) (sum_by length b * length a) most ∙ ap capped (sym (sum-joined a b)))))
    in
    ap (λ x. extent x r.symbols) n ∙ ap (extent (capped (length (joined a b)))) m

nat_lt_capped : (k n m : ℕ) → k < m → nat_lt k (min n m) ≡ nat_lt k n
nat_lt_capped k n m h =
    ⊎_elim
    (λ over. lt-ltb k (min n m) (omega arith) ∙ sym (lt-ltb k n (omega arith)))
    (λ within. ap (nat_lt k) (omega arith))
    (cases_lt m n)

pub too_many_of : (sides : List (List Symbol)) (s : Extent) → s ≡ extent_of sides → are_too_many sides ≡ (nat_lt 65536 s.alternatives || nat_lt 1048576 s.symbols)
unfolding extent_of
too_many_of sides s e =
    sym (
    ap (λ (x : Extent). nat_lt 65536 x.alternatives || nat_lt 1048576 x.symbols) e
    ∙ (ap (λ b. b || nat_lt 1048576 (capped (sum_by length sides))) (nat_lt_capped 65536 (length sides) most (lit< tt))
    ∙ ap (λ b. nat_lt 65536 (length sides) || b) (nat_lt_capped 1048576 (sum_by length sides) most (lit< tt)))
    )

-- the extents of some right sides, and of more
pub extents_push : (above : List (List (List Symbol))) (sides : List (List Symbol)) (old new : List Extent) (e : Extent) → old ≡ map extent_of above → e ≡ extent_of sides → new ≡ old ++ e ∷ [] → new ≡ map extent_of (above ++ sides ∷ [])
extents_push above sides old new e p q r = r ∙ (ap (λ l. l ++ e ∷ []) p ∙ (ap (λ x. map extent_of above ++ x ∷ []) q ∙ sym (map-append extent_of above (sides ∷ []))))
