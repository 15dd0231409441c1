-- Lists of values.
use Rattle.std.proofs.Common.{◌≡◌, List, [], ◌∷◌, refl, ap}
use Rattle.lp_core.specs.Val.{Val, list_of, vals_of}

pub list_of_vals : (vs : List Val) → list_of (vals_of vs) ≡ vs
list_of_vals [] = refl
list_of_vals (v ∷ vs) = ap (λ l. v ∷ l) (list_of_vals vs)
