-- Values of the grammar's parameters, and values that are set.
use Rattle.std.specs.Prelude.{◌≡◌, List, [], ◌∷◌, Some}
use Rattle.lp_driver.specs.Values.{Text}
use Rattle.lp_core.specs.CallMeaning.{param_of}
use Rattle.lp_core.specs.Effect.{set_value}
use Rattle.lp_core.specs.Store.{Program}
use Rattle.lp_core.specs.Val.{Val}

-- these values stand for what the parameters were given
abbrev pub AreParams : Program → List Val → List Text → Type 0
AreParams p [] [] = Unit {0}
AreParams p (v ∷ vs) (t ∷ ts) = (param_of p v ≡ Some t) × AreParams p vs ts
AreParams p [] (t ∷ ts) = ⊥
AreParams p (v ∷ vs) [] = ⊥

abbrev pub AreSet : List Val → Type 0
AreSet [] = Unit {0}
AreSet (v ∷ vs) = (set_value v ≡ Some v) × AreSet vs
