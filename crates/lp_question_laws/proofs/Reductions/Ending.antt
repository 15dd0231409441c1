-- The function that tells where the last symbol ends, if there is one.
use Rattle.std.proofs.Common.{◌≡◌, ℕ, ◌≤◌, ℤ, List, [], ◌∷◌, Option, Some, None, refl, ap, arith}
use Rattle.std.specs.Prelude.{slice_get}
use Rattle.std.specs.Option.{option_map}
use Rattle.lp_driver.specs.DriverState.{last_of}
use Rattle.lp_driver.specs.Values.{Spanned}
use Rattle.lp_core.specs.declared.expr.Op.TheVariants as op
use Rattle.lp_core.specs.Datum.{Cell}
use Rattle.lp_core.specs.OpMeaning.{op_meaning}
use Rattle.lp_core.specs.CellMeaning.{cell_change}
use Rattle.lp_core.specs.Reading.{location, option_val, spanned_val}
use Rattle.lp_core.specs.Effect.{Gave}
use Rattle.lp_core.specs.Store.{Program, UserCall, Symbols, Store}
use Rattle.lp_core.specs.Val.{Val, Plain}
use Rattle.lp_bodies.specs.Reductions.{part_function, last_end_function}
use Rattle.lp_code_laws.specs.Ends.Ends.{Moment, Enter, Giving, EndsIn}
use Rattle.lp_code_laws.proofs.Ends.Rules.{plain, apply_to, apply_found, call, argument}
use Rattle.lp_code_laws.proofs.Ends.Calls.{enter, arguments_done}
use Rattle.lp_code_laws.proofs.Ends.Cells.{cell_read}
use Rattle.lp_code_laws.proofs.Ends.Tags.{on_none, on_some}
use Rattle.lp_code_laws.proofs.Ends.Values.{read}
use Rattle.lp_question_laws.specs.Reductions.Stacks.{over_two}

-- the end of a symbol, if there is one
abbrev pub end_val : Option (Spanned Val) → Option Val
end_val o = option_map (λ x. location x.2) o

-- `|x| x.2`
pub end_taken : (p : Program) (f : ℕ) (x : Spanned Val) (m : Moment) → slice_get p.functions f ≡ Some (part_function 2) → EndsIn p (Enter f (spanned_val x ∷ [])) m 1 (Giving (location x.2) m)
end_taken p f x m there = enter there refl (apply_found _ (read refl refl) refl refl) refl

module _ (p : Program) (f part : ℕ) (env : List Val) (taken : ℕ) (calls : List UserCall) (ss : List ℤ) (l : List (Spanned Val)) (there : slice_get p.functions f ≡ Some (last_end_function part)) (inner : slice_get p.functions part ≡ Some (part_function 2)) where
  -- its value, in at most two steps
  pub record Told (o : Option (Spanned Val)) : Type 0 where
    pub many : ℕ
    pub few : many ≤ 2
    pub ends : EndsIn p (Enter f (Plain (Cell 1) ∷ [])) (over_two env taken calls ss l) many (Giving (option_val (end_val o)) (over_two env taken calls ss l))

  last_read : (o : Option (Spanned Val)) → last_of l ≡ o → (s : Store) → slice_get s.cells 1 ≡ Some (Symbols l) → op_meaning p op.Last (Plain (Cell 1)) s ≡ Gave (option_val (option_map spanned_val o)) s
  last_read o is s at = cell_read 1 s (cell_change op.Last) at (ap (λ (x : Option (Spanned Val)). Some (option_val (option_map spanned_val x), Symbols l)) is)

  by_last : (o : Option (Spanned Val)) → last_of l ≡ o → Told o
  by_last None is = record { many = 1; few = omega arith; ends = enter there refl (on_none (apply_to (read refl refl) (last_read None is _ refl)) refl (plain refl)) refl }
  by_last (Some x) is =
      record { many = 2; few = omega arith; ends = enter there refl (on_some (apply_to (read refl refl) (last_read (Some x) is _ refl)) refl (apply_to (call (argument (read refl refl) (arguments_done (end_taken p part x _ inner)))) refl)) refl }

  pub end_told : Told (last_of l)
  end_told = by_last (last_of l) refl
