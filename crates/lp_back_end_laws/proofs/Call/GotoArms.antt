-- The arms of a loop of gotos: the variant of the symbol chooses one, which calls the function of the goto's state.
use Rattle.std.proofs.Common.{◌≡◌, ℕ, zero, suc, ◌+◌, ◌<◌, List, [], ◌∷◌, ◌++◌, codes, Some, refl, sym, ap, ◌∙◌, subst, arith, eq-eqb}
use Rattle.std.specs.Prelude.{slice_get}
use Rattle.std.proofs.lemmas.Bool.{ne_eqb}
use Rattle.lp_core.specs.declared.expr.Case.{Case}
use Rattle.lp_core.specs.declared.expr.Op.TheVariants as op
use Rattle.lp_core.specs.declared.expr.Test.TheVariants as test
use Rattle.lp_core.specs.declared.value.Tag.{Tag}
use Rattle.lp_core.specs.declared.value.Tag.TheVariants as tag
use Rattle.lp_core.specs.Datum.{Unset}
use Rattle.lp_core.specs.Val.{Val, Plain}
use Rattle.lp_core.specs.Reading.{wrapped}
use Rattle.lp_core.specs.Store.{Program}
use Rattle.lp_core.specs.CaseMeaning.{chosen, chosen_if, last_body}
use Rattle.lp_core.specs.Tree.{Tree, Apply, trees_of}
use Rattle.lp_core.specs.Eval.{count}
use Rattle.lp_view.specs.PartLists.{Form, hole_of, parts_of}
use Rattle.lp_maker.specs.Slots.{Names}
use Rattle.lp_maker.specs.Constructs.{here, read, one_after_another}
use Rattle.lp_maker.specs.Making.{Making}
use Rattle.lp_bodies.specs.Arms.{Gathered}
use Rattle.lp_bodies.specs.Lines.{Lines, lines_of, with_let}
use Rattle.lp_ascent_bodies.specs.declared.ascent.Lines.{Lines as Shared}
use Rattle.lp_ascent_bodies.specs.AscentMoves.{transition, found_transition}
use Rattle.lp_ascent_bodies.specs.AscentGotos.{arm_lines, goto_turn}
use Rattle.lp_code_laws.specs.Ends.Ends.{Moment, Eval, Sequence, Outcome, Giving, EndsIn}
use Rattle.lp_code_laws.specs.Ends.Slots.{HasSlots}
use Rattle.lp_code_laws.proofs.Ends.Rules.{apply_found}
use Rattle.lp_code_laws.proofs.Ends.Tags.{slot_is}
use Rattle.lp_code_laws.proofs.Ends.Values as values
use Rattle.lp_code_laws.specs.Slots.Shows.{HasRoom}
use Rattle.lp_code_laws.specs.Printed.Ran.{Ran}
use Rattle.lp_code_laws.proofs.Printed.Lines.{no_lines, ran_let}
use Rattle.lp_back_end_laws.specs.Call.Stretches.{Passes}
use Rattle.lp_back_end_laws.proofs.Call.Callers.{passes_lead, leads_block}
use Rattle.lp_back_end_laws.proofs.Call.Loops.{result_of, with_parts, turn_leads}

-- tests for variants of these numbers, which lead to the bodies from this one on
abbrev pub variant_tests : ℕ → List ℕ → List Case
variant_tests k [] = []
variant_tests k (w ∷ ws) = here (test.Is (tag.Variant w)) k ∷ variant_tests (k + 1) ws

module _ (p : Program) (bodies w : ℕ) (v : Val) where
  -- the first of them chooses its body
  pub variant_chosen : (ws : List ℕ) (k i : ℕ) → slice_get ws i ≡ Some w → ((j x : ℕ) → j < i → slice_get ws j ≡ Some x → w ≡ x → ⊥) → chosen p (variant_tests k ws) bodies (wrapped (tag.Variant w) v) ≡ Some (k + i)
  variant_chosen [] k i at others = cc
  variant_chosen (x ∷ ws) k zero at others =
      let same : x ≡ w = cc in
      let none : k ≡ k + 0 = omega arith in
      ap (λ b. chosen_if k (chosen p (variant_tests (k + 1) ws) bodies (wrapped (tag.Variant w) v)) (Some b)) (eq-eqb w x (sym same)) ∙ ap Some none
  variant_chosen (x ∷ ws) k (suc i) at others =
      let next : (k + 1) + i ≡ k + suc i = omega arith in
      ap (λ b. chosen_if k (chosen p (variant_tests (k + 1) ws) bodies (wrapped (tag.Variant w) v)) (Some b)) (ne_eqb w x (others 0 x (omega arith) refl))
      ∙ variant_chosen ws (k + 1) i at (λ j y less is. others (suc j) y (omega (arith, less)) is) ∙ ap Some next

  -- no test is for it: the last body
  pub variant_unknown : (ws : List ℕ) (k : ℕ) → ((j x : ℕ) → slice_get ws j ≡ Some x → w ≡ x → ⊥) → chosen p (variant_tests k ws) bodies (wrapped (tag.Variant w) v) ≡ last_body bodies
  variant_unknown [] k others = refl
  variant_unknown (x ∷ ws) k others =
      ap (λ b. chosen_if k (chosen p (variant_tests (k + 1) ws) bodies (wrapped (tag.Variant w) v)) (Some b)) (ne_eqb w x (others 0 x refl)) ∙ variant_unknown ws (k + 1) (λ j y is. others (suc j) y is)

-- `let ~symn = ~nt;`: the symbol itself, out of its variant
pub symbol_ran : {p : Program} (names : Names) (name : List ℕ) (made : ℕ) (t : Tag) (v : Val) (m : Moment) → slice_get m.store.env made ≡ Some (wrapped t v) → HasRoom 1 names m.store.env → Ran p (with_let name (Apply (op.Part 0) (read made)) (lines_of names [])) m 0 (slot_is names.next v m)
symbol_ran names name made t v m there room = ran_let (lines_of names []) name 0 (no_lines names m) (apply_found _ (values.read there refl) refl refl) room

-- the lines of a goto's arm before those of the move
abbrev pub goto_symbol : ℕ → Names → Form → Lines
goto_symbol made names line = with_let (codes "~sym" ++ hole_of 1 line) (Apply (op.Part 0) (read made)) (lines_of names [])

-- a goto's arm, where the lines of its move pass on
module _ {p : Program} (shared : Shared) (token : ℕ) (checks : List Tree) (arms : Gathered) (other : Tree) (m : Moment) (made : Making) (names : Names) (line form : Form) (look v : Val) (w i : ℕ) where
  pub turn_passes : {u : Val} {n : Moment} {k f : ℕ} {vs : List Val} {Back : Moment → Type 0} {good bad : Val → Moment → Outcome} → EndsIn p (Sequence (trees_of checks) (Plain Unset)) m 0 (Giving u m) → slice_get m.store.env shared.made ≡ Some (result_of look (wrapped (tag.Variant w) v)) → HasSlots token 2 m.store.env
      → chosen p arms.cases (count (trees_of (arms.bodies ++ other ∷ []))) (wrapped (tag.Variant w) v) ≡ Some i → slice_get (arms.bodies ++ other ∷ []) i ≡ Some (one_after_another (arm_lines made shared (token + 1) names line).parts) → slice_get (parts_of line) 0 ≡ Some form
      → Passes p (Sequence (trees_of (transition made shared form (goto_symbol (token + 1) names line)).parts) (Plain Unset)) (with_parts token look (wrapped (tag.Variant w) v) m) k f vs n Back good bad → Passes p (Eval (goto_turn shared token (token + 1) checks arms other)) m k f vs n Back good bad
  turn_passes {n = n} {k} {f} {vs} {Back} {good} {bad} checked there room is at below h =
      let lines = subst (λ o. Passes p (Sequence (trees_of (found_transition made shared o (goto_symbol (token + 1) names line)).parts) (Plain Unset)) (with_parts token look (wrapped (tag.Variant w) v) m) k f vs n Back good bad) (sym below) h in
      passes_lead (turn_leads shared token checks arms other i checked there room refl is at) (passes_lead leads_block lines)
