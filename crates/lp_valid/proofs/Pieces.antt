-- Pieces of a pattern's text.
use Rattle.std.proofs.Common.{◌≡◌, ℕ, ◌≤◌, true, List, [], ◌∷◌, ◌++◌, length, length-append, arith, sym, nat_lt, codes}
use Rattle.std.proofs.lemmas.Bool.Decides.{nat_tests}
use Rattle.std.specs.List.{join_by}

not_empty : (x y zs : List ℕ) → nat_lt 0 (length (x ++ ((95 ∷ y) ++ zs))) ≡ true
not_empty x y zs = rw (length-append x ((95 ∷ y) ++ zs)) (grind (arith, nat_tests))

-- two pieces have a hole between them, so their text isn't empty
pub two_pieces : (xs : List (List ℕ)) → 2 ≤ length xs → true ≡ nat_lt 0 (length (join_by (λ t. t) (codes "_") xs))
two_pieces [] h = absurd (omega arith)
two_pieces (x ∷ []) h = absurd (omega arith)
two_pieces (x ∷ (y ∷ ys)) h = sym (not_empty x y _)
