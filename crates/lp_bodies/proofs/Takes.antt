-- The first slots, one more.
use Rattle.std.proofs.Common.{◌≡◌, ℕ, suc, ◌+◌, [], ◌∷◌, ◌++◌, ap, arith}
use Rattle.lp_maker.specs.Constructs.{take_slot}
use Rattle.lp_bodies.specs.Actions.{takes}

pub takes_next : (n : ℕ) → takes (n + 1) ≡ takes n ++ take_slot n ∷ []
takes_next n = let e : n + 1 ≡ suc n = omega arith in ap takes e
