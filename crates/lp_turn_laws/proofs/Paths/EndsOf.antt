-- The ends of lists.
use Rattle.std.proofs.Common.{◌≡◌, zero, suc, slice_get, ℕ, ◌+◌, ◌-◌, ◌≤◌, List, [], ◌∷◌, ◌++◌, length, map, drop, refl, sym, ap, ◌∙◌, arith, length-append}
use Rattle.std.proofs.lemmas.List.{drop-drop, drop-append-le, drop_all, drop-map, length-map}
use Rattle.lp_turn_laws.specs.Paths.Ends.{IsEnd}

-- nothing is an end
pub nil_ends : {X : Type 0} (xs : List X) → IsEnd [] xs
nil_ends xs = record { before = length xs; count = omega arith; same = drop_all (length xs) xs (omega arith) }

-- the whole is an end
pub whole_ends : {X : Type 0} (xs : List X) → IsEnd xs xs
whole_ends xs = record { before = 0; count = omega arith; same = refl }

-- of two ends the shorter is an end of the longer
pub ends_nested : {X : Type 0} (us vs xs : List X) → IsEnd us xs → IsEnd vs xs → length us ≤ length vs → IsEnd us vs
ends_nested us vs xs u v l =
    let n : v.before + (u.before - v.before) ≡ u.before = omega (arith, u.count, v.count) in
    record {
      before = u.before - v.before;
      count = omega (arith, u.count, v.count);
      same = ap (drop (u.before - v.before)) (sym v.same) ∙ drop-drop (u.before - v.before) v.before xs ∙ ap (λ (k : ℕ). drop k xs) n ∙ u.same;
    }

-- two ends of one length are one
pub ends_same : {X : Type 0} (us vs xs : List X) → IsEnd us xs → IsEnd vs xs → length us ≡ length vs → us ≡ vs
ends_same us vs xs u v l =
    let n : u.before ≡ v.before = omega (arith, u.count, v.count) in
    sym u.same ∙ ap (λ (k : ℕ). drop k xs) n ∙ v.same

-- one element more behind both
pub ends_push : {X : Type 0} (us xs : List X) (x : X) → IsEnd us xs → IsEnd (us ++ x ∷ []) (xs ++ x ∷ [])
ends_push {X} us xs x u =
    let l = length-append us (x ∷ []) in
    let m = length-append xs (x ∷ []) in
    record {
      before = u.before;
      count = omega (arith, u.count, l, m);
      same = drop-append-le u.before xs (x ∷ []) (omega (arith, u.count)) ∙ ap (λ (zs : List X). zs ++ x ∷ []) u.same;
    }

-- the images of an end
pub ends_map : {X Y : Type 0} (f : X → Y) (us xs : List X) → IsEnd us xs → IsEnd (map f us) (map f xs)
ends_map f us xs u =
    let l = length-map us f in
    let m = length-map xs f in
    record { before = u.before; count = omega (arith, u.count, l, m); same = drop-map f u.before xs ∙ ap (map f) u.same }

-- an element behind some others
dropped_at : {X : Type 0} (k j : ℕ) (xs : List X) → slice_get (drop k xs) j ≡ slice_get xs (k + j)
dropped_at zero j xs = let n : j ≡ 0 + j = omega arith in ap (slice_get xs) n
dropped_at (suc k) j [] = refl
dropped_at (suc k) j (x ∷ xs) =
    let n : suc (k + j) ≡ suc k + j = omega arith in
    dropped_at k j xs ∙ ap (slice_get (x ∷ xs)) n

-- an element of an end, by its place in the whole
pub end_at : {X : Type 0} (us xs : List X) (e : IsEnd us xs) (j : ℕ) → slice_get us j ≡ slice_get xs (e.before + j)
end_at us xs e j = ap (λ zs. slice_get zs j) (sym e.same) ∙ dropped_at e.before j xs
