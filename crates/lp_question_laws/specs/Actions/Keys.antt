-- What names show, name by name.
use Rattle.std.specs.Prelude.{◌≡◌, ℕ, ◌+◌, false, List, [], ◌∷◌, ◌++◌, map, codes, decimal}
use Rattle.std.specs.Str.{bytes_eq}
use Rattle.lp_core.specs.Val.{Val}
use Rattle.lp_maker.specs.Slots.{Names, bound}
use Rattle.lp_maker.specs.Texts.{Binding, Named}
use Rattle.lp_code_laws.specs.Slots.Shows.{Shows}

-- these names hold these values
abbrev pub ShowsEach : Names → List Val → List (List ℕ) → List Val → Type 0
ShowsEach names env [] [] = Unit {0}
ShowsEach names env (k ∷ ks) (v ∷ vs) = Shows names env k v × ShowsEach names env ks vs
ShowsEach names env [] (v ∷ vs) = ⊥
ShowsEach names env (k ∷ ks) [] = ⊥

-- names that get a slot each
abbrev pub bound_all : Names → List (List ℕ) → Names
bound_all names [] = names
bound_all names (k ∷ ks) = bound_all (bound k names) ks

-- a word behind the prefix, as scopes know it
abbrev pub mark : List ℕ → List ℕ
mark word = codes "~" ++ word

-- as many printed numbers from one on
abbrev pub decimals : {A : Type 0} → ℕ → List A → List (List ℕ)
decimals n [] = []
decimals n (x ∷ xs) = decimal n ∷ decimals (n + 1) xs

-- words behind the prefix
abbrev pub worded : List ℕ → List (List ℕ) → List Binding
worded prefix words = map (λ w. Named (prefix ++ w)) words

-- something holds of each of some names
abbrev pub EachName : (List ℕ → Type 0) → List (List ℕ) → Type 0
EachName P [] = Unit {0}
EachName P (k ∷ ks) = P k × EachName P ks

-- each differs from a name
abbrev pub AreOthers : List ℕ → List (List ℕ) → Type 0
AreOthers name ks = EachName (λ k. bytes_eq name k ≡ false) ks
