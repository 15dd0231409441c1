-- The functions of trials as the printed lines are read.
use Rattle.std.proofs.Common.{◌≡◌, ℕ, true, false, [], ◌∷◌, length, codes, Option, Some, refl, ap, ◌∙◌}
use Rattle.std.specs.Prelude.{slice_get}
use Rattle.lp_core.specs.declared.expr.Function.{Function}
use Rattle.lp_core.specs.declared.expr.Join.TheVariants as join
use Rattle.lp_core.specs.declared.expr.Leaf.TheVariants as leaf
use Rattle.lp_core.specs.declared.expr.Op.TheVariants as op
use Rattle.lp_core.specs.declared.value.StateType.{StateType}
use Rattle.lp_core.specs.declared.value.Tag.TheVariants as tag
use Rattle.lp_core.specs.Tree.{Plain, Apply, If, Loop}
use Rattle.lp_view.specs.PartLists.{Form, hole_of}
use Rattle.lp_maker.specs.Constructs.{absent, called, read, take_slot, write, joined, one_after_another, give_back, on_option}
use Rattle.lp_maker.specs.Making.{Making, number_in}
use Rattle.lp_maker.specs.Texts.{state_type_of}
use Rattle.lp_bodies.specs.Source.{function}
use Rattle.lp_bodies.specs.Trials.{answer_if, production_of}
use Rattle.lp_ascent_bodies.specs.AscentTrials.{accepting, ascent_accepts, ascent_expected, ascent_lines, last_state, with_ascent_expected}
use Rattle.lp_question_laws.proofs.Expected.Lists.{expected_code}
use Rattle.lp_question_laws.proofs.Gotos.LinkMaps.{get_end}
use Rattle.lp_back_end_laws.proofs.Call.Expected.{accepts_code, keep_code}

-- by the numbers of the three functions that are asked, if they are there
abbrev code_by : StateType → Option ℕ → Option ℕ → Option ℕ → Function
code_by kind action simulate goto =
    function 2 7 (one_after_another (write 2 (Apply op.CopyStates (read 0)) ∷ Loop (one_after_another (
    write 3 (last_state (Some kind))
    ∷ write 4 (called (read 3 ∷ read 1 ∷ []) action)
    ∷ answer_if op.IsZero 4 false
    ∷ answer_if op.IsPositive 4 true
    ∷ on_option (called (production_of 4 ∷ []) simulate) 5 (give_back (Plain (leaf.Bool true))) (Apply (op.Parts 6 2) (take_slot 5))
    ∷ joined join.Truncate (read 2 ∷ joined join.Subtract (Apply op.Length (read 2) ∷ read 6 ∷ []) ∷ [])
    ∷ write 3 (last_state (Some kind))
    ∷ joined join.Push (read 2 ∷ called (read 3 ∷ read 7 ∷ []) goto ∷ [])
    ∷ [])) ∷ []))

under_names : (m : Making) (kind : StateType) → function 2 7 (ascent_lines m (Some kind)) ≡ code_by kind (number_in (codes "action") m.names) (number_in (codes "simulate") m.names) (number_in (codes "goto") m.names)
under_names m kind = refl

code_is : (kind : StateType) (oa os og : Option ℕ) (a s gt : ℕ) → oa ≡ Some a → os ≡ Some s → og ≡ Some gt → code_by kind oa os og ≡ accepts_code kind a s gt
code_is kind oa os og a s gt is_a is_s is_g =
    ap (λ (o : Option ℕ). code_by kind o os og) is_a ∙ ap (λ (o : Option ℕ). code_by kind (Some a) o og) is_s ∙ ap (λ (o : Option ℕ). code_by kind (Some a) (Some s) o) is_g

module _ (m : Making) where
  -- whether a stack accepts a terminal
  pub accepts_is : (form : Form) (kind : StateType) (a s gt : ℕ) → state_type_of (hole_of 0 form) ≡ Some kind → number_in (codes "action") m.names ≡ Some a → number_in (codes "simulate") m.names ≡ Some s → number_in (codes "goto") m.names ≡ Some gt
      → ascent_accepts m form ≡ accepts_code kind a s gt
  accepts_is form kind a s gt typed is_a is_s is_g = ap (λ (o : Option StateType). function 2 7 (ascent_lines m o)) typed ∙ under_names m kind ∙ code_is kind _ _ _ a s gt is_a is_s is_g

  -- the list of the terminals that it accepts, and its closure
  pub expected_is : ascent_expected m ≡ expected_code (length m.functions) m.terminals
  expected_is = refl

  keeps_by : (k : ℕ) → number_in (codes "accepts") m.names ≡ Some k → accepting m ≡ keep_code k
  keeps_by k is = ap (λ (o : Option ℕ). function 3 0 (If (called (read 2 ∷ read 0 ∷ []) o) (Apply (op.Wrap tag.Present) (read 1)) absent)) is

  pub closure_is : (k : ℕ) → number_in (codes "accepts") m.names ≡ Some k → slice_get (with_ascent_expected m).functions (length m.functions) ≡ Some (Some (keep_code k))
  closure_is k is = get_end m.functions [] (Some (accepting m)) ∙ ap (λ (f : Function). Some (Some f)) (keeps_by k is)
