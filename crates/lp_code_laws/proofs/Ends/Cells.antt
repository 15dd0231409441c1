-- What is done with cells, from what they hold.
use Rattle.std.proofs.Common.{◌≡◌, ℕ, ℤ, List, [], ◌∷◌, ◌++◌, length, Option, Some, None, refl, ap, ◌∙◌}
use Rattle.std.specs.Prelude.{slice_get, take, is_none}
use Rattle.std.specs.Option.{option_map, option_and_then}
use Rattle.lp_driver.specs.Values.{Spanned}
use Rattle.lp_core.specs.declared.expr.Op.TheVariants as op
use Rattle.lp_core.specs.declared.expr.Join.TheVariants as join
use Rattle.lp_core.specs.declared.value.StateType.{StateType}
use Rattle.lp_core.specs.declared.value.Tag.TheVariants as tag
use Rattle.lp_core.specs.Datum.{Cell}
use Rattle.lp_core.specs.Val.{Val, Plain}
use Rattle.lp_core.specs.Reading.{wrapped, spanned_val, spanned_of, state_of, option_val}
use Rattle.lp_core.specs.Numbers.{index, truth, typed}
use Rattle.lp_core.specs.Store.{Store, Program, Held, Slot, Symbols, States}
use Rattle.lp_core.specs.Effect.{Gave, unit, with_cell}
use Rattle.lp_core.specs.CellMeaning.{Change, cell_change, changes, reads, pushed, cut_to, last_in, without_last}
use Rattle.lp_core.specs.OpMeaning.{op_meaning, on_cell, changed}
use Rattle.lp_core.specs.JoinMeaning.{join_meaning}
use Rattle.lp_code_laws.proofs.Ends.Lists.{last_of_more, without_last_of_more, set_there}

-- what is done with a cell that is there
pub cell_by : (c : ℕ) (s : Store) (change : Held → Change) {was now : Held} {v : Val} → slice_get s.cells c ≡ Some was → change was ≡ Some (v, now) → on_cell s change c ≡ Gave v (with_cell c now s)
cell_by c s change is does = ap (λ o. changed c s (option_and_then change o)) is ∙ ap (changed c s) does

-- a cell that is only read
pub cell_read : (c : ℕ) (s : Store) (change : Held → Change) {was : Held} {v : Val} → slice_get s.cells c ≡ Some was → change was ≡ Some (v, was) → on_cell s change c ≡ Gave v s
cell_read c s change {was} {v} is does = cell_by c s change is does ∙ ap (λ l. Gave v (record s { cells = l })) (set_there s.cells c was is)

module _ (p : Program) (c : ℕ) (s : Store) where
  -- the last symbol off a list
  pub pop_symbol : (l : List (Spanned Val)) (x : Spanned Val) → slice_get s.cells c ≡ Some (Symbols (l ++ x ∷ [])) → op_meaning p op.Pop (Plain (Cell c)) s ≡ Gave (wrapped tag.Present (spanned_val x)) (with_cell c (Symbols l) s)
  pop_symbol l x is =
      cell_by c s (cell_change op.Pop) is
      (ap (λ o. Some (option_val (option_map spanned_val o), Symbols (without_last (l ++ x ∷ [])))) (last_of_more l x)
      ∙ ap (λ r. Some (wrapped tag.Present (spanned_val x), Symbols r)) (without_last_of_more l x))

  -- one more symbol, and one more state
  pub push_symbol : (n : ℕ) (l : List (Spanned Val)) (v : Val) (x : Spanned Val) → slice_get s.cells c ≡ Some (Symbols l) → spanned_of v ≡ Some x → join_meaning p n join.Push (Plain (Cell c) ∷ v ∷ []) s ≡ Gave unit (with_cell c (Symbols (l ++ x ∷ [])) s)
  push_symbol n l v x is spans = cell_by c s (λ h. changes (pushed v h)) is (ap (λ o. changes (option_map (λ x. Symbols (l ++ x ∷ [])) o)) spans)

  pub push_state : (n : ℕ) (l : List ℤ) (v : Val) (x : ℤ) → slice_get s.cells c ≡ Some (States l) → state_of v ≡ Some x → join_meaning p n join.Push (Plain (Cell c) ∷ v ∷ []) s ≡ Gave unit (with_cell c (States (l ++ x ∷ [])) s)
  push_state n l v x is states = cell_by c s (λ h. changes (pushed v h)) is (ap (λ o. changes (option_map (λ x. States (l ++ x ∷ [])) o)) states)

  -- the first so many states
  pub truncate_states : (n : ℕ) (l : List ℤ) (m : ℕ) → slice_get s.cells c ≡ Some (States l) → join_meaning p n join.Truncate (Plain (Cell c) ∷ index m ∷ []) s ≡ Gave unit (with_cell c (States (take m l)) s)
  truncate_states n l m is = cell_by c s (λ h. changes (cut_to m h)) is refl

  -- the last state, as a number of its type
  pub top_state : (kind : StateType) (l : List ℤ) (x : ℤ) (v : Val) → slice_get s.cells c ≡ Some (States l) → last_in l ≡ Some x → typed kind x ≡ Some v → op_meaning p (op.Top kind) (Plain (Cell c)) s ≡ Gave v s
  top_state kind l x v is last fits = cell_read c s (cell_change (op.Top kind)) is (ap (λ o. reads (States l) (option_and_then (typed kind) o)) last ∙ ap (reads (States l)) fits)

  -- how many there are
  pub length_states : (l : List ℤ) → slice_get s.cells c ≡ Some (States l) → op_meaning p op.Length (Plain (Cell c)) s ≡ Gave (index (length l)) s
  length_states l is = cell_read c s (cell_change op.Length) is refl

  pub length_symbols : (l : List (Spanned Val)) → slice_get s.cells c ≡ Some (Symbols l) → op_meaning p op.Length (Plain (Cell c)) s ≡ Gave (index (length l)) s
  length_symbols l is = cell_read c s (cell_change op.Length) is refl

  -- what a cell holds, as an option: it is taken out, it is read, and whether there is nothing
  pub take_out : (v : Val) → slice_get s.cells c ≡ Some (Slot (Some v)) → op_meaning p op.TakeOut (Plain (Cell c)) s ≡ Gave v (with_cell c (Slot None) s)
  take_out v is = cell_by c s (cell_change op.TakeOut) is refl

  pub read_in_cell : (v : Val) → slice_get s.cells c ≡ Some (Slot (Some v)) → op_meaning p op.ReadIn (Plain (Cell c)) s ≡ Gave v s
  read_in_cell v is = cell_read c s (cell_change op.ReadIn) is refl

  pub is_empty_cell : (slot : Option Val) → slice_get s.cells c ≡ Some (Slot slot) → op_meaning p op.IsEmpty (Plain (Cell c)) s ≡ Gave (truth (is_none slot)) s
  is_empty_cell slot is = cell_read c s (cell_change op.IsEmpty) is refl
