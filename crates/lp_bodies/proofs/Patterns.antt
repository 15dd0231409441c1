-- Going over the patterns that are left, one after another.
use Rattle.std.proofs.Common.{◌≡◌, ℕ, List, [], ◌∷◌, Bor, Option, Some, None, ap, sym, subst, ◌∙◌}
use Rattle.std.specs.Iterator.{YieldsFirstRef}
use Rattle.lp_core.specs.declared.value.Tag.{Tag}
use Rattle.lp_view.specs.declared.joined.Patterns.{Patterns}
use Rattle.lp_view.specs.Elements.{patterns_left}
use Rattle.lp_bodies.specs.Tables.{Reading, pattern_arm, pattern_arms}

module _ (variant : Tag) (token : ℕ) (names : List (List ℕ)) where
  -- one more
  pub arms_step : (old new whole : Reading) (r : Option (Bor (List ℕ))) (x : Bor (List ℕ)) (s t : Patterns) → r ≡ Some x → YieldsFirstRef patterns_left s r t → new ≡ pattern_arm variant token names old x.now
      → pattern_arms variant token names old (patterns_left s) ≡ whole → pattern_arms variant token names new (patterns_left t) ≡ whole
  arms_step old new whole r x s t is h n e =
      let P : Option (Bor (List ℕ)) → Type 0 = λ o. YieldsFirstRef patterns_left s o t in
      let there : patterns_left s ≡ x.now ∷ patterns_left t = subst P is h in
      ap (λ (y : Reading). pattern_arms variant token names y (patterns_left t)) n ∙ sym (ap (pattern_arms variant token names old) there) ∙ e

  -- no more
  pub arms_done : (last whole : Reading) (r : Option (Bor (List ℕ))) (s t : Patterns) → r ≡ None → YieldsFirstRef patterns_left s r t → pattern_arms variant token names last (patterns_left s) ≡ whole → last ≡ whole
  arms_done last whole r s t is h e =
      let P : Option (Bor (List ℕ)) → Type 0 = λ o. YieldsFirstRef patterns_left s o t in
      let none : P None = subst P is h in
      sym (ap (pattern_arms variant token names last) none.0) ∙ e
