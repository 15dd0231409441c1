-- Worked: a function that looks an element up in a table, with a fallback behind its end.
use Rattle.std.proofs.Common.{◌≡◌, ℕ, ℤ, true, false, [], ◌∷◌, Some, refl, ap}
use Rattle.std.specs.Prelude.{slice_get, nat_le}
use Rattle.lp_core.specs.declared.expr.Function.{Function}
use Rattle.lp_core.specs.declared.expr.Leaf.TheVariants as leaf
use Rattle.lp_core.specs.declared.expr.Op.TheVariants as op
use Rattle.lp_core.specs.declared.expr.Join.TheVariants as join
use Rattle.lp_core.specs.declared.expr.Target.TheVariants as target
use Rattle.lp_core.specs.declared.value.StateType.{StateType}
use Rattle.lp_core.specs.Val.{Val}
use Rattle.lp_core.specs.Numbers.{index, typed}
use Rattle.lp_core.specs.Tree.{Tree, Plain, Apply, If, Call, trees_of}
use Rattle.lp_core.specs.Store.{Program}
use Rattle.lp_core.specs.OpMeaning.{entry}
use Rattle.lp_code_laws.specs.Ends.Ends.{Moment, Enter, Giving, EndsIn}
use Rattle.lp_code_laws.proofs.Ends.Rules.{plain, plain_found, apply_found, if_true, if_false, call, argument}
use Rattle.lp_code_laws.proofs.Ends.Calls.{joined, enter}
use Rattle.lp_code_laws.proofs.Ends.Values.{read}

-- `if i >= size { fallback } else { table[i] }`
abbrev pub look : StateType → ℕ → ℤ → ℕ → Tree
look kind size fallback table =
    If (Call (target.Join join.AtLeast) (trees_of (Plain (leaf.Read 0) ∷ Plain (leaf.Index size) ∷ [])))
    (Plain (leaf.State kind fallback))
    (Apply (op.Entry table) (Plain (leaf.Read 0)))

abbrev pub look_fn : StateType → ℕ → ℤ → ℕ → Function
look_fn kind size fallback table = record { params = 1; slots = 0; body = look kind size fallback table }

module _ (p : Program) (f : ℕ) (kind : StateType) (size : ℕ) (fallback : ℤ) (table : ℕ) (m : Moment) (i : ℕ) (v : Val) where
  -- it is in the table
  pub looked_up : slice_get p.functions f ≡ Some (look_fn kind size fallback table) → nat_le size i ≡ false → entry p table (index i) ≡ Some v → EndsIn p (Enter f (index i ∷ [])) m 1 (Giving v m)
  looked_up is less there =
      enter is refl (if_false (call (argument (read refl refl) (argument (plain refl) (joined refl refl)))) (ap Some less) (apply_found _ (read refl refl) refl there)) refl

  -- it isn't
  pub looked_past : slice_get p.functions f ≡ Some (look_fn kind size fallback table) → nat_le size i ≡ true → typed kind fallback ≡ Some v → EndsIn p (Enter f (index i ∷ [])) m 1 (Giving v m)
  looked_past is more fits =
      enter is refl (if_true (call (argument (read refl refl) (argument (plain refl) (joined refl refl)))) (ap Some more) (plain_found _ refl fits)) refl
