-- Which body of a state function's match runs: that of the line of what the state does on the lookahead, or the error's.
use Rattle.std.proofs.Common.{◌≡◌, ℕ, suc, List, [], ◌∷◌, ◌++◌, length, map, take, Option, Some, None, slice_get, refl, ap, ◌∙◌, arith, length-append}
use Rattle.lp_repr.specs.declared.lr1.Lr1State.{Lr1State}
use Rattle.lp_repr.specs.declared.lr1.Token.TheVariants.{Terminal, Eof}
use Rattle.lp_repr.specs.declared.repr.Grammar.{Grammar}
use Rattle.lp_repr.specs.Numbering.{terminals_of}
use Rattle.lp_driver.specs.Values.{Spanned}
use Rattle.lp_driver.specs.Values as values
use Rattle.lp_core.specs.CaseMeaning.{chosen, last_body}
use Rattle.lp_core.specs.Eval.{count}
use Rattle.lp_core.specs.Store.{Program}
use Rattle.lp_core.specs.Tree.{Tree, trees_of}
use Rattle.lp_tree.specs.ProgramTree.{Item}
use Rattle.lp_view.specs.PartLists.{Form, over}
use Rattle.lp_machine.specs.Lookup.{act_at, terminal_in}
use Rattle.lp_machine.specs.Tables.{Tables}
use Rattle.lp_machine.specs.declared.lookup.Act.{Act}
use Rattle.lp_machine.specs.declared.lookup.Act.TheVariants.{NoAction}
use Rattle.lp_machine.specs.declared.lookup.KnownTerminal.{KnownTerminal}
use Rattle.lp_turn_laws.specs.Paths.Over.{IsOver}
use Rattle.lp_turn_laws.proofs.Paths.Numbered.{at_left, at_right}
use Rattle.lp_ascent.specs.ReduceLines.{reduction_lines}
use Rattle.lp_ascent.specs.ShiftLines.{shift_lines}
use Rattle.lp_ascent.specs.Slots.{Layout}
use Rattle.lp_ascent_bodies.specs.AscentStates.{Stating}
use Rattle.lp_back_end_laws.specs.Call.Arms.{Arm, IsMatchedOnce, arms_of}
use Rattle.lp_back_end_laws.specs.Call.Standing.{look_val}
use Rattle.lp_back_end_laws.specs.Call.Cases.{Runs, an_arm, the_last, line_soughts}
use Rattle.lp_back_end_laws.proofs.Call.CaseBodies.{arm_body, bodies_of, body_at, next_arming}
use Rattle.lp_back_end_laws.proofs.Call.Cases.{runs_at_end, runs_on_token, runs_on_unknown}
use Rattle.lp_back_end_laws.proofs.Call.SoughtTokens.{AreReadAs}
use Rattle.lp_back_end_laws.proofs.Call.StateCases.{ArmLines, IsLineOf, line_of_arm}
use Rattle.lp_back_end_laws.proofs.Call.StateMatch.{IsMatchOf, arms_so_far, error_body}

count_length : (es : List Tree) → count (trees_of es) ≡ length es
count_length [] = refl
count_length (e ∷ es) = ap suc (count_length es)

pub last_of_bodies : (es : List Tree) (e : Tree) → last_body (count (trees_of (es ++ e ∷ []))) ≡ Some (length es)
last_of_bodies es e =
    let many : length (es ++ e ∷ []) ≡ suc (length es) = omega (arith, length-append es (e ∷ [])) in
    ap last_body (count_length (es ++ e ∷ []) ∙ many)

-- of a match over these lines this body runs: that of the line of an arm which does this, or the error's where nothing is done
pub data BodyRuns (g : Grammar) (ls : List Layout) (l : Layout) (s : Stating) (lines : List Form) (arms : List Arm) (below : List Item) (t : Stating) (act : Act) (body : Option ℕ) : Type 0 where
  of_line : (i : ℕ) (line : Form) (arm : Arm) → slice_get lines i ≡ Some line → slice_get arms i ≡ Some arm → IsLineOf g ls l line arm → arm.1 ≡ act → body ≡ Some i → slice_get t.arms.bodies i ≡ Some (arm_body s.shared line (over (next_arming s.shared) (arms_so_far s) (take i lines))) → BodyRuns g ls l s lines arms below t act body
  of_error : (i : ℕ) → act ≡ NoAction → body ≡ Some i → slice_get t.arms.bodies i ≡ Some (error_body s lines below) → BodyRuns g ls l s lines arms below t act body

module _ {g : Grammar} {start : ℕ} {states : List Lr1State} {t : Tables} (over_tables : IsOver g start states t) (p : Program) (terminals : List KnownTerminal) (read : AreReadAs g terminals 0 (terminals_of g)) (long : length terminals ≡ length (terminals_of g)) (ls : List Layout) (l : Layout) (q : ℕ) (s : Lr1State) (at : slice_get states q ≡ Some s)
    (printed : ArmLines g ls l terminals read long (shift_lines g ls l s.shifts.entries ++ reduction_lines g l s.reductions) (arms_of g s)) (before after : Stating) (below : List Item) (match : IsMatchOf p g.prefix before printed.forms below after) where
  abbrev bodies : ℕ
  bodies = count (trees_of after.arms.bodies)

  abbrev pub Body : Act → Option (Spanned values.Token) → Type 0
  Body act look = BodyRuns g ls l before printed.forms (arms_of g s) below after act (chosen p after.arms.cases (count (trees_of after.arms.bodies)) (look_val look))

  which_body : (act : Act) (look : Option (Spanned values.Token)) → Runs act (arms_of g s) bodies (chosen p after.arms.cases bodies (look_val look)) → Body act look
  which_body act look (an_arm i arm arm_is runs does) =
      let w = line_of_arm g ls l printed.forms (arms_of g s) i arm printed.each arm_is in
      let own = bodies_of before.shared (arms_so_far before) printed.forms in
      of_line i w.0 arm w.1 arm_is w.2 does runs (ap (λ (es : List Tree). slice_get es i) match.bodies ∙ at_left own (error_body before printed.forms below ∷ []) i _ (body_at before.shared (arms_so_far before) printed.forms i w.0 w.1))
  which_body act look (the_last runs nothing) =
      let own = bodies_of before.shared (arms_so_far before) printed.forms in
      let error = error_body before printed.forms below in
      of_error (length own) nothing (runs ∙ ap (λ (es : List Tree). last_body (count (trees_of es))) match.bodies ∙ last_of_bodies own error) (ap (λ (es : List Tree). slice_get es (length own)) match.bodies ∙ at_right own (error ∷ []) (length own) 0 error (omega arith) refl)

  -- at the end
  pub body_at_end : Body (act_at states q Eof) None
  body_at_end = which_body (act_at states q Eof) None (runs_at_end over_tables p terminals q s at (map (line_soughts g.prefix) printed.forms) after.arms.cases match.tests bodies (printed.sought None))

  -- on a token of a terminal
  pub body_on_token : (x : Spanned values.Token) (i : ℕ) → IsMatchedOnce terminals x.1 → terminal_in terminals x.1 ≡ Some i → Body (act_at states q (Terminal i)) (Some x)
  body_on_token x i once is = which_body (act_at states q (Terminal i)) (Some x) (runs_on_token over_tables p terminals q s at (map (line_soughts g.prefix) printed.forms) after.arms.cases match.tests bodies x i once is (printed.sought (Some x.1)))

  -- on a token of none
  pub body_on_unknown : (x : Spanned values.Token) → terminal_in terminals x.1 ≡ None → Body NoAction (Some x)
  body_on_unknown x none = which_body NoAction (Some x) (runs_on_unknown over_tables p terminals q s at (map (line_soughts g.prefix) printed.forms) after.arms.cases match.tests bodies x none (printed.sought (Some x.1)))
