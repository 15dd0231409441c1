-- The operations on cells are those that no other arm takes.
use Rattle.std.proofs.Common.{◌≡◌, ℕ, refl}
use Rattle.lp_core.specs.declared.value.Tag.{Tag}
use Rattle.lp_core.specs.declared.expr.Op.{Op}
use Rattle.lp_core.specs.declared.expr.Op.TheVariants as op
use Rattle.lp_core.specs.Val.{Val}
use Rattle.lp_core.specs.Reading.{cell_of}
use Rattle.lp_core.specs.Store.{Store, Program}
use Rattle.lp_core.specs.CellMeaning.{cell_change}
use Rattle.lp_core.specs.OpMeaning.{op_meaning, on_reference}

pub record Another (o : Op) : Type 0 where
  pub no_write : (x : ℕ) → o ≡ op.Write x → ⊥
  pub no_part : (i : ℕ) → o ≡ op.Part i → ⊥
  pub no_parts : (first count : ℕ) → o ≡ op.Parts first count → ⊥
  pub no_wrap : (tag : Tag) → o ≡ op.Wrap tag → ⊥
  pub no_as_index : o ≡ op.AsIndex → ⊥
  pub no_successor : o ≡ op.Successor → ⊥
  pub no_predecessor : o ≡ op.Predecessor → ⊥
  pub no_negate : o ≡ op.Negate → ⊥
  pub no_is_zero : o ≡ op.IsZero → ⊥
  pub no_is_positive : o ≡ op.IsPositive → ⊥
  pub no_entry : (table : ℕ) → o ≡ op.Entry table → ⊥
  pub no_return : o ≡ op.Return → ⊥
  pub no_user_error : o ≡ op.UserError → ⊥
  pub no_extra_token : o ≡ op.ExtraToken → ⊥
  pub no_payload : (j : ℕ) → o ≡ op.Payload j → ⊥
  pub no_assert : o ≡ op.Assert → ⊥
  pub no_new_cell : o ≡ op.NewCell → ⊥
  pub no_copy_states : o ≡ op.CopyStates → ⊥

pub of_cell : (p : Program) (v : Val) (s : Store) (o : Op) → Another o → on_reference s (cell_change o) (cell_of v) ≡ op_meaning p o v s
of_cell p v s (op.Write x) a = absurd (a.no_write x refl)
of_cell p v s (op.Part i) a = absurd (a.no_part i refl)
of_cell p v s (op.Parts first count) a = absurd (a.no_parts first count refl)
of_cell p v s (op.Wrap tag) a = absurd (a.no_wrap tag refl)
of_cell p v s op.AsIndex a = absurd (a.no_as_index refl)
of_cell p v s op.Successor a = absurd (a.no_successor refl)
of_cell p v s op.Predecessor a = absurd (a.no_predecessor refl)
of_cell p v s op.Negate a = absurd (a.no_negate refl)
of_cell p v s op.IsZero a = absurd (a.no_is_zero refl)
of_cell p v s op.IsPositive a = absurd (a.no_is_positive refl)
of_cell p v s (op.Entry table) a = absurd (a.no_entry table refl)
of_cell p v s op.Return a = absurd (a.no_return refl)
of_cell p v s op.UserError a = absurd (a.no_user_error refl)
of_cell p v s op.ExtraToken a = absurd (a.no_extra_token refl)
of_cell p v s (op.Payload j) a = absurd (a.no_payload j refl)
of_cell p v s op.Assert a = absurd (a.no_assert refl)
of_cell p v s op.NewCell a = absurd (a.no_new_cell refl)
of_cell p v s op.CopyStates a = absurd (a.no_copy_states refl)
of_cell p v s _ a = refl
