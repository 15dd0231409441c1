-- The lines of a text, and the first that is no token line.
use Rattle.std.proofs.Common.{◌≡◌, ℕ, ◌+◌, ◌-◌, ◌<◌, ◌≤◌, suc, zero, Bool, true, false, cond, List, [], ◌∷◌, ◌++◌, length, get_or, take, map, Option, Some, None, refl, sym, ap, ◌∙◌, subst, inl, inr, arith}
use Rattle.std.proofs.lemmas.List.{take-map, length-map}
use Rattle.std.specs.Option.{IsSome}
use Rattle.std.specs.List.{slice_get}
use Rattle.lp_lines.specs.Scan.{all_some}
use Rattle.lp_lines.specs.TokenLines.{is_empty_line, without_last_empty, IsFirstMisfit}

-- a last line in which nothing stands is dropped
pub empty_dropped : {X : Type 0} (g : X → List ℕ) (xs sl ys : List X) (all : List (List ℕ)) (m : ℕ) → map g xs ≡ all → sl ≡ xs → length sl ≡ m → true ≡ is_empty_line (slice_get (map g sl) (length sl - 1)) → ys ≡ take (m - 1) xs → map g ys ≡ without_last_empty all
empty_dropped g xs sl ys all m e es em t d =
    let ls : length sl ≡ length all = ap length es ∙ (sym (length-map xs g) ∙ ap length e) in
    let same : map g sl ≡ all = ap (map g) es ∙ e in
    let test : true ≡ is_empty_line (slice_get all (length all - 1)) = rw (same, ls) at t in
    let left : ys ≡ take (length all - 1) xs = d ∙ ap (λ k. take (k - 1) xs) (sym em ∙ ls) in
    rw (sym test) (ap (map g) left ∙ (sym (take-map g (length all - 1) xs) ∙ ap (take (length all - 1)) e))

-- another last line is kept
pub other_kept : {X : Type 0} (g : X → List ℕ) (xs sl ys : List X) (all : List (List ℕ)) → map g xs ≡ all → sl ≡ xs → false ≡ is_empty_line (slice_get (map g sl) (length sl - 1)) → ys ≡ xs → map g ys ≡ without_last_empty all
other_kept g xs sl ys all e es f d =
    let ls : length sl ≡ length all = ap length es ∙ (sym (length-map xs g) ∙ ap length e) in
    let same : map g sl ≡ all = ap (map g) es ∙ e in
    let test : false ≡ is_empty_line (slice_get all (length all - 1)) = rw (same, ls) at f in
    rw (sym test) (ap (map g) d ∙ e)

some_is : {X : Type 0} (o : Option X) (x : X) → o ≡ Some x → IsSome o
some_is None x e = cc
some_is (Some y) x e = refl

get_map : {X Y : Type 0} (f : X → Y) (xs : List X) (i : ℕ) (d : X) → i < length xs → slice_get (map f xs) i ≡ Some (f (get_or xs i d))
get_map f [] i d lt = absurd (omega arith)
get_map f (x ∷ xs) zero d lt = refl
get_map f (x ∷ xs) (suc i) d lt =
    let short : i < length xs = omega arith in
    get_map f xs i d short

-- the line after a front of token lines, where it is none or one too many
pub misfit_here : {X Y : Type 0} (f : X → Option Y) (xs : List X) (i : ℕ) (d : X) (ys : List Y) → i < length xs → all_some (map f (take i xs)) ≡ Some ys → f (get_or xs i d) ≡ None → IsFirstMisfit (map f xs) (i + 1)
misfit_here f xs i d ys lt h n = let back : i + 1 - 1 ≡ i = omega arith in record {
  counted = omega arith;
  there = rw (length-map) (omega arith);
  before = rw back (some_is (all_some (take i (map f xs))) ys (ap all_some (take-map f i xs) ∙ h));
  misfit = inr (rw back (get_map f xs i d lt ∙ ap Some n));
}

pub misfit_late : {X Y : Type 0} (f : X → Option Y) (xs : List X) (i : ℕ) (ys : List Y) → i < length xs → all_some (map f (take i xs)) ≡ Some ys → i ≡ 64 → IsFirstMisfit (map f xs) (i + 1)
misfit_late f xs i ys lt h e = let back : i + 1 - 1 ≡ i = omega arith in record {
  counted = omega arith;
  there = rw (length-map) (omega arith);
  before = rw back (some_is (all_some (take i (map f xs))) ys (ap all_some (take-map f i xs) ∙ h));
  misfit = inl (omega arith);
}
