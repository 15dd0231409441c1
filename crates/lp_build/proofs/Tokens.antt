-- Without tokens but the last, the last one is the first.
use Rattle.std.proofs.Common.{◌≡◌, ℕ, List, [], ◌∷◌, length, Option, refl, arith}
use Rattle.lp_tree.specs.ProgramTree.{unnoted}
use Rattle.lp_build.specs.Ascent.{first_holes, first_part, more_tokens}

pub first_part_none : (ts : List (List ℕ)) (last : Option (List ℕ)) → length ts ≡ 0 → first_part ts last ≡ first_part [] last
first_part_none [] last h = refl
first_part_none (t ∷ ts) last h = absurd (omega arith)

pub first_holes_none : (ts : List (List ℕ)) (last : Option (List ℕ)) → length ts ≡ 0 → first_holes ts last ≡ first_holes [] last
first_holes_none [] last h = refl
first_holes_none (t ∷ ts) last h = absurd (omega arith)

pub more_tokens_none : (ts : List (List ℕ)) (last : Option (List ℕ)) → length ts ≡ 0 → more_tokens ts last ≡ []
more_tokens_none [] last h = refl
more_tokens_none (t ∷ ts) last h = absurd (omega arith)

pub more_notes_none : (ts : List (List ℕ)) (last : Option (List ℕ)) → length ts ≡ 0 → unnoted (more_tokens ts last) ≡ []
more_notes_none [] last h = refl
more_notes_none (t ∷ ts) last h = absurd (omega arith)
