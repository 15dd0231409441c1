-- The names of popped symbols as arguments.
use Rattle.std.proofs.Common.{◌≡◌, ℕ, zero, suc, ◌+◌, List, [], ◌∷◌, length, map, codes, refl, subst, arith}
use Rattle.lp_core.specs.Val.{Val}
use Rattle.lp_maker.specs.Slots.{Names}
use Rattle.lp_code_laws.specs.Slots.Shows.{Shows}
use Rattle.lp_question_laws.specs.Tables.Acts.{symbol_val}
use Rattle.lp_question_laws.specs.Reductions.Outer.{sym_name, IsOuter, Lasts}
use Rattle.lp_question_laws.specs.Reductions.Stacks.{Symbol}
use Rattle.lp_question_laws.specs.Reductions.Arguments.{ShowAll}
use Rattle.lp_question_laws.proofs.Reductions.Popping.{AreShown}

-- so many of them
abbrev pub symbol_keys : ℕ → ℕ → List (List ℕ)
symbol_keys k zero = []
symbol_keys k (suc n) = sym_name k ∷ symbol_keys (k + 1) n

-- or those of the place
abbrev pub argument_keys : ℕ → List (List ℕ)
argument_keys zero = codes "~start" ∷ codes "~end" ∷ []
argument_keys (suc n) = symbol_keys 0 (suc n)

later_shown : (names : Names) (env : List Val) (k : ℕ) (xs : List Symbol) (x : Symbol) → AreShown k (x ∷ xs) names env → AreShown (k + 1) xs names env
later_shown names env k xs x h i y is = let same : k + suc i ≡ (k + 1) + i = omega arith in subst (λ (j : ℕ). Shows names env (sym_name j) (symbol_val y.item)) same (h (suc i) y is)

pub symbols_shown : (names : Names) (env : List Val) (k : ℕ) (xs : List Symbol) → AreShown k xs names env → ShowAll names env (symbol_keys k (length xs)) (map symbol_val (map (λ x. x.item) xs))
symbols_shown names env k [] h = tt
symbols_shown names env k (x ∷ xs) h =
    let none : k + 0 ≡ k = omega arith in
    (subst (λ (j : ℕ). Shows names env (sym_name j) (symbol_val x.item)) none (h 0 x refl), refl, symbols_shown names env (k + 1) xs (later_shown names env k xs x h))

-- names that no line binds
abbrev pub AllOuter : List (List ℕ) → Type 0
AllOuter [] = Unit {0}
AllOuter (q ∷ qs) = IsOuter q × AllOuter qs

-- they show what they showed
pub show_lasting : {old names : Names} {before env : List Val} (qs : List (List ℕ)) (vs : List Val) → AllOuter qs → Lasts old before names env → ShowAll old before qs vs → ShowAll names env qs vs
show_lasting [] [] o h g = tt
show_lasting [] (v ∷ vs) o h g = absurd g
show_lasting (q ∷ qs) [] o h g = absurd g
show_lasting (q ∷ qs) (v ∷ vs) o h g = (h.shown q v o.0 g.0, g.1, show_lasting qs vs o.1 h g.2)
