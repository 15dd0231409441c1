-- Moves that lead from one configuration to another, counted.
use Rattle.std.proofs.Common.{◌≡◌, ℕ, zero, suc, ◌+◌, ◌-◌, ◌≤◌, List, Some, None, refl, sym, ap, ◌∙◌, arith}
use Rattle.lp_repr.specs.declared.values.RunItem.{RunItem}
use Rattle.lp_driver.specs.Values.{Ending}
use Rattle.lp_machine.specs.declared.config.Config.{Config}
use Rattle.lp_machine.specs.Move.{move, moves}
use Rattle.lp_machine.specs.RunEnds.{ended}
use Rattle.lp_machine.specs.Tables.{Tables}
use Rattle.lp_machine.proofs.MoreMoves.{moves_after}
use Rattle.lp_turn_laws.specs.Alike.Course.{Leads}

module _ (t : Tables) (items : List RunItem) where
  pub none : (a : Config) → Leads t items a a 0
  none a = record { comes = refl; before = λ k e h. omega arith }

  -- the first move, and then others
  pub one_then : (a b c : Config) (n : ℕ) → ended a.left ≡ None → move t items a ≡ b → Leads t items b c n → Leads t items a c (suc n)
  one_then a b c n goes is l = record { comes = ap (moves t items n) is ∙ l.comes; before = before }
    where
      before : (k : ℕ) (e : Ending) → ended (moves t items k a).left ≡ Some e → suc n ≤ k
      before zero e h = cc
      before (suc k) e h =
          let le : n ≤ k = l.before k e (ap (λ (x : Config). ended (moves t items k x).left) (sym is) ∙ h) in
          omega arith

  pub one : (a b : Config) → ended a.left ≡ None → move t items a ≡ b → Leads t items a b 1
  one a b goes is = one_then a b b 0 goes is (none b)

  -- an end after moves is one after the rest of them
  pub rest_ends : (a b : Config) (m k : ℕ) (e : Ending) → Leads t items a b m → ended (moves t items k a).left ≡ Some e → (j : ℕ) × (k ≡ m + j) × (ended (moves t items j b).left ≡ Some e)
  rest_ends a b m k e l h =
      let le : m ≤ k = l.before k e h in
      let is : k ≡ m + (k - m) = omega arith in
      (k - m, is, ap (λ (x : Config). ended (moves t items (k - m) x).left) (sym l.comes) ∙ ap (λ (x : Config). ended x.left) (sym (moves_after t items m (k - m) a)) ∙ ap (λ (i : ℕ). ended (moves t items i a).left) (sym is) ∙ h)

  pub moved : (a b : Config) (m n : ℕ) → Leads t items a b m → moves t items (m + n) a ≡ moves t items n b
  moved a b m n l = moves_after t items m n a ∙ ap (moves t items n) l.comes

  pub both : (a b c : Config) (m n : ℕ) → Leads t items a b m → Leads t items b c n → Leads t items a c (m + n)
  both a b c m n f g = record { comes = moved a b m n f ∙ g.comes; before = before }
    where
      before : (k : ℕ) (e : Ending) → ended (moves t items k a).left ≡ Some e → m + n ≤ k
      before k e h =
          let r = rest_ends a b m k e f h in
          let le : n ≤ r.0 = g.before r.0 e r.2 in
          let is : k ≡ m + r.0 = r.1 in
          omega arith
