-- The two of a list of two, as held.
use Rattle.std.proofs.Common.{◌≡◌, List, [], ◌∷◌, refl, map}
use Rattle.std.specs.Option.{option_map}
use Rattle.lp_core.specs.declared.cell.Cell.{Cell}
use Rattle.lp_core.specs.Store.{held}
use Rattle.lp_turns.specs.Readings.{pair_of}

pub pair_of_held : (cells : List Cell) → pair_of (map held cells) ≡ option_map (λ (r : Cell × Cell). (held r.0, held r.1)) (pair_of cells)
pair_of_held [] = refl
pair_of_held (a ∷ []) = refl
pair_of_held (a ∷ b ∷ []) = refl
pair_of_held (a ∷ b ∷ c ∷ cells) = refl
