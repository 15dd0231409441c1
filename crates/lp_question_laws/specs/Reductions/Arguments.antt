-- Arguments that are read by their names.
use Rattle.std.specs.Prelude.{◌≡◌, ℕ, List, [], ◌∷◌, map, codes, Some}
use Rattle.lp_core.specs.Effect.{set_value}
use Rattle.lp_core.specs.Tree.{Tree}
use Rattle.lp_core.specs.Val.{Val}
use Rattle.lp_maker.specs.Slots.{Names}
use Rattle.lp_maker.specs.Texts.{pieces, plain}
use Rattle.lp_maker.specs.Making.{read_name}
use Rattle.lp_code_laws.specs.Slots.Shows.{Shows}

-- names that show values, one by one
abbrev pub ShowAll : Names → List Val → List (List ℕ) → List Val → Type 0
ShowAll names env [] [] = Unit {0}
ShowAll names env [] (v ∷ vs) = ⊥
ShowAll names env (q ∷ qs) [] = ⊥
ShowAll names env (q ∷ qs) (v ∷ vs) = Shows names env q v × (set_value v ≡ Some v) × ShowAll names env qs vs

-- what names hold
abbrev pub reads : Names → List (List ℕ) → List Tree
reads names qs = map (read_name names) qs

-- the names in a printed list, as scopes know them
abbrev pub names_in : List ℕ → List ℕ → List (List ℕ)
names_in prefix texts = map (plain prefix) (pieces (codes ", ") texts)
