-- The rows of a state's function from its match on: the arms, the error's, and what follows the match.
use Rattle.std.proofs.Common.{◌≡◌, ℕ, Bool, true, false, List, [], ◌∷◌, ◌++◌, Some, refl, sym, ap, ◌∙◌, subst}
use Rattle.std.specs.Prelude.{if◌then◌else◌}
use Rattle.std.specs.List.{AllByRecursion}
use Rattle.lp_repr.specs.declared.lr1.Lr1State.{Lr1State}
use Rattle.lp_repr.specs.declared.repr.Grammar.{Grammar}
use Rattle.lp_core.specs.Store.{Program}
use Rattle.lp_tree.specs.ProgramTree.{Item}
use Rattle.lp_view.specs.PartLists.{Form, over}
use Rattle.lp_bodies.specs.Reductions.{Done}
use Rattle.lp_ascent_bodies.specs.AscentArms.{Arming, done_arm}
use Rattle.lp_ascent_bodies.specs.AscentErrors.{expected_error}
use Rattle.lp_ascent_bodies.specs.AscentGotos.{goto_loop}
use Rattle.lp_ascent_bodies.specs.AscentReductions.{give_made}
use Rattle.lp_ascent_bodies.specs.AscentStates.{Stating, with_arming, state_row}
use Rattle.lp_ascent.specs.AnswerLines.{answer_names}
use Rattle.lp_ascent.specs.GotoLines.{goes_on, goto_lines, gotos_of, named_gotos}
use Rattle.lp_ascent.specs.Slots.{Layout}
use Rattle.lp_back_end_laws.specs.Call.Cases.{IsArmLine}
use Rattle.lp_back_end_laws.proofs.Call.ArmBodies.{IsCut}
use Rattle.lp_back_end_laws.proofs.Call.CaseBodies.{next_arming}
use Rattle.lp_back_end_laws.proofs.Call.FunctionNames.{cut_none, loop_cut}
use Rattle.lp_back_end_laws.proofs.Call.StateMatch.{error_form, arms_so_far, rows_armed, over_both}
use Rattle.lp_back_end_laws.proofs.Call.StateParts.{goto_forms}

-- ---- the arms
-- those of lines, and the error's behind them
abbrev pub armed_by : Stating → List Form → Arming
armed_by s lines = over (next_arming s.shared) (arms_so_far s) lines

abbrev pub error_of : Stating → List Form → List Item → Done
error_of s lines below = expected_error (armed_by s lines).made (armed_by s lines).names (error_form below)

abbrev pub with_match : Stating → List Form → List Item → Stating
with_match s lines below = with_arming (with_arming s (armed_by s lines)) (done_arm (armed_by s lines).arms (error_of s lines below))

pub match_rows : (p : Program) (s : Stating) (lines : List Form) (below : List Item) → AllByRecursion IsArmLine lines → over state_row s (lines ++ error_form below ∷ []) ≡ with_match s lines below
match_rows p s lines below arms = over_both p s lines (error_form below ∷ []) ∙ ap (λ t. state_row t (error_form below)) (rows_armed p s lines arms)

-- ---- what follows the match
-- a loop was read from this form
pub record IsLoop (form : Form) (t u : Stating) : Type 0 where
  pub after : u.after ≡ Some (goto_loop t.shared t.made t.lines.names form).value
  pub names : u.lines.names ≡ (goto_loop t.shared t.made t.lines.names form).names
  pub made : u.made ≡ (goto_loop t.shared t.made t.lines.names form).made

module _ (g : Grammar) (ls : List Layout) (l : Layout) (state : Lr1State) where
  abbrev pub named : List (List ℕ × ℕ)
  named = named_gotos (answer_names g) state.gotos.entries

  pub record AfterRows (t u : Stating) : Type 0 where
    pub shared : u.shared ≡ t.shared
    pub parts : u.lines.parts ≡ t.lines.parts
    pub arms : u.arms ≡ t.arms
    pub cut : IsCut t.lines.names u.lines.names
    pub gives : goes_on g ls state ≡ true → named ≡ [] → u.after ≡ Some (give_made t.shared)
    pub loops : goes_on g ls state ≡ true → (named ≡ [] → ⊥) → IsLoop (goto_lines g ls l state.gotos.entries) t u

  pub after_rows : (t : Stating) → AfterRows t (over state_row t (goto_forms g ls l state))
  unfolding goto_lines
  after_rows t = by (goes_on g ls state) named refl refl
    where
      by : (b : Bool) (gs : List (List ℕ × ℕ)) → goes_on g ls state ≡ b → named ≡ gs → AfterRows t (over state_row t (if b then gotos_of g ls l gs ∷ [] else []))
      by false gs e f = record { shared = refl; parts = refl; arms = refl; cut = cut_none t.lines.names; gives = λ goes none. cc; loops = λ goes some. cc }
      by true [] e f = record { shared = refl; parts = refl; arms = refl; cut = cut_none t.lines.names; gives = λ goes none. refl; loops = λ goes some. absurd (some f) }
      by true (x ∷ gs) e f = record {
        shared = refl;
        parts = refl;
        arms = refl;
        cut = loop_cut t.shared t.made t.lines.names (gotos_of g ls l (x ∷ gs));
        gives = λ goes none. cc;
        loops = λ goes some. subst (λ (ns : List (List ℕ × ℕ)). IsLoop (gotos_of g ls l ns) t (over state_row t (gotos_of g ls l (x ∷ gs) ∷ []))) (sym f) (record { after = refl; names = refl; made = refl });
      }
