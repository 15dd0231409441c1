-- The tokens that are left, as a list.
use Rattle.std.proofs.Common.{◌≡◌, ℕ, List, [], ◌∷◌, Option, Some, None, length, refl, ap, suc}
use Rattle.lp_tok.specs.declared.tok.Tok.{Tok}
use Rattle.lp_tok.specs.declared.tok.Error.{Error}
use Rattle.lp_types.specs.Left.{left_of, size}

pub size_left : (xs : List (ℕ × Tok × ℕ)) (error : Option Error) (end : ℕ) → size (left_of xs error end) ≡ length xs
size_left [] None end = refl
size_left [] (Some e) end = refl
size_left (x ∷ xs) error end = ap suc (size_left xs error end)
