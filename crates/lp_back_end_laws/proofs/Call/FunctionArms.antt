-- The arms of a state's function, the error's, and what follows the match, as what the frame does with them takes them.
use Rattle.std.proofs.Common.{◌≡◌, ℕ, ◌+◌, ◌<◌, ◌≤◌, true, List, [], codes, take, Option, Some, slice_get, refl, sym, ap, ◌∙◌, subst, arith}
use Rattle.std.proofs.lemmas.Option.{none-some}
use Rattle.lp_repr.specs.declared.lr1.Lr1State.{Lr1State}
use Rattle.lp_repr.specs.declared.numbering.SymbolNumber.TheVariants.{Nonterminal}
use Rattle.lp_repr.specs.declared.repr.Grammar.{Grammar}
use Rattle.lp_repr.specs.declared.values.RunItem.{RunItem}
use Rattle.lp_driver.specs.Values.{Text}
use Rattle.lp_core.specs.declared.value.StateType.{StateType}
use Rattle.lp_core.specs.CaseMeaning.{chosen}
use Rattle.lp_core.specs.Eval.{count}
use Rattle.lp_core.specs.Store.{Program}
use Rattle.lp_core.specs.Tree.{Tree, trees_of}
use Rattle.lp_core.specs.Val.{Val}
use Rattle.lp_view.specs.PartLists.{Form, over}
use Rattle.lp_maker.specs.Slots.{Names, after_slots, slot_of}
use Rattle.lp_maker.specs.Making.{Making}
use Rattle.lp_bodies.specs.Arms.{Gathered}
use Rattle.lp_ascent.specs.AnswerLines.{answer_names}
use Rattle.lp_ascent.specs.GotoLines.{goes_on, named_gotos}
use Rattle.lp_ascent.specs.Slots.{layouts_of}
use Rattle.lp_ascent.specs.StateLines.{error_location}
use Rattle.lp_ascent_bodies.specs.declared.ascent.Lines.{Lines as Shared}
use Rattle.lp_ascent_bodies.specs.AscentArms.{Arming}
use Rattle.lp_ascent_bodies.specs.AscentErrors.{expected_error}
use Rattle.lp_ascent_bodies.specs.AscentGotos.{going_rows, no_gotos, goto_turn}
use Rattle.lp_question_laws.proofs.Gotos.LinkGrows as grows
use Rattle.lp_turn_laws.specs.Paths.Walks.{edge_at}
use Rattle.lp_back_end_laws.specs.Call.Turns.{Looping}
use Rattle.lp_back_end_laws.proofs.Call.ArmBodies.{IsCut}
use Rattle.lp_back_end_laws.proofs.Call.CaseBodies.{next_arming, arm_body}
use Rattle.lp_back_end_laws.proofs.Call.EachName.{IsAlone}
use Rattle.lp_back_end_laws.proofs.Call.FunctionCode.{maker_of, slots_of, arm_lines, arm_forms, at_match, behind_match, at_last, made_in, arms_in, behind_in, after_are, match_made}
use Rattle.lp_back_end_laws.proofs.Call.FunctionGrows.{error_grows, in_before}
use Rattle.lp_back_end_laws.proofs.Call.FunctionNames.{cut_both, arms_cut, arms_grow, error_cut, line_at}
use Rattle.lp_back_end_laws.proofs.Call.FunctionRows.{armed_by, named}
use Rattle.lp_back_end_laws.proofs.Call.GoingOn.{goto_named}
use Rattle.lp_back_end_laws.proofs.Call.Linked.{IsIn}
use Rattle.lp_back_end_laws.proofs.Call.LoopCode.{LoopCode, loop_form}
use Rattle.lp_back_end_laws.proofs.Call.Matching.{ArmAt, ErrorAt, After}
use Rattle.lp_back_end_laws.proofs.Call.Setting.{Setting}
use Rattle.lp_back_end_laws.proofs.Call.StateMatch.{error_form, arms_so_far}

module _ {g : Grammar} {start : ℕ} {states : List Lr1State} {params : List Text} {failing : List ℕ} {items : List RunItem} {p : Program} {keys : List (List ℕ)} {given : List Val} {function action variant : ℕ → ℕ} {kind : StateType} {expected most cost : ℕ}
    (setting : Setting g start states params failing items p keys given function action variant kind expected most cost) (q : ℕ) (s : Lr1State) (at : slice_get states q ≡ Some s) where
  -- what all lines share, the names at the match, the arms, and how many slots there are
  abbrev pub shared_at : Shared
  shared_at = (at_match setting q s at).shared

  abbrev pub names_at : Names
  names_at = (at_match setting q s at).lines.names

  abbrev pub arms_at : Gathered
  arms_at = (behind_match setting q s at).arms

  abbrev pub many_at : ℕ
  many_at = (at_last setting q s at).lines.names.next

  abbrev pub after_at : Option Tree
  after_at = (at_last setting q s at).after

  abbrev armed : Arming
  armed = armed_by (at_match setting q s at) (arm_forms setting q s at)

  last_cut : IsCut armed.names (at_last setting q s at).lines.names
  last_cut = cut_both (error_cut armed.made armed.names (error_form (error_location (slots_of setting q s at)))) (after_are setting q s at).cut

  -- the arm of a line
  abbrev pub before_line : ℕ → Arming
  before_line i = over (next_arming shared_at) (arms_so_far (at_match setting q s at)) (take i (arm_forms setting q s at))

  pub arm_there : (i : ℕ) (line : Form) (look : Val) → slice_get (arm_forms setting q s at) i ≡ Some line → chosen p arms_at.cases (count (trees_of arms_at.bodies)) look ≡ Some i → slice_get arms_at.bodies i ≡ Some (arm_body shared_at line (before_line i))
      → ArmAt p g variant (maker_of setting q s at) shared_at names_at arms_at many_at look line (before_line i)
  arm_there i line look there is body =
      let r = line_at shared_at (arms_so_far (at_match setting q s at)) (arm_forms setting q s at) i line (arm_lines setting q s at).lines there in
      record {
        index = i;
        is = is;
        body = body;
        cut = r.cut;
        room = (cut_both r.later last_cut).next;
        prefix = r.grown.prefix ∙ ap (λ (m : Making). m.prefix) (match_made setting q s at);
        knows = r.grown.names ∙ ap (λ (m : Making). m.names) (match_made setting q s at);
        made = in_before (next_arming shared_at (before_line i) line).made armed.made r.more (arms_in setting q s at);
      }

  -- the error's
  pub error_there : (i : ℕ) (look : Val) → chosen p arms_at.cases (count (trees_of arms_at.bodies)) look ≡ Some i → slice_get arms_at.bodies i ≡ Some (expected_error armed.made armed.names (error_form (error_location (slots_of setting q s at)))).value
      → ErrorAt p g variant (maker_of setting q s at) names_at arms_at many_at look (error_location (slots_of setting q s at)) armed
  error_there i look is body =
      let grown = arms_grow shared_at (arms_so_far (at_match setting q s at)) (arm_forms setting q s at) in
      let after = (after_are setting q s at).cut.next in
      record {
        index = i;
        is = is;
        body = body;
        cut = arms_cut shared_at (arms_so_far (at_match setting q s at)) (arm_forms setting q s at) (arm_lines setting q s at).lines;
        room = omega (arith, after);
        prefix = grown.prefix ∙ ap (λ (m : Making). m.prefix) (match_made setting q s at);
        knows = grown.names ∙ ap (λ (m : Making). m.names) (match_made setting q s at);
        made = behind_in setting q s at;
      }

  -- ---- the loop
  abbrev loop_names : Names
  loop_names = (behind_match setting q s at).lines.names

  abbrev loop_made : Making
  loop_made = (behind_match setting q s at).made

  abbrev pub loop_at : Looping
  loop_at =
      let going = going_rows shared_at loop_names.next (loop_names.next + 1) (loop_form g states q s) (no_gotos (after_slots 2 loop_names) loop_made) in
      record { names = loop_names; made = shared_at.made; many = many_at; turn = goto_turn shared_at loop_names.next (loop_names.next + 1) going.checks going.arms going.other }

  -- a goto has a name
  some_named : (n to : ℕ) → edge_at states q (Nonterminal n) ≡ Some to → named g (layouts_of g states) (slots_of setting q s at) s ≡ [] → ⊥
  some_named n to edge none =
      let w = goto_named setting.over q s at n to edge in
      absurd (none-some _ (ap (λ (gs : List (List ℕ × ℕ)). slice_get gs w.2) (sym none) ∙ w.3))

  pub after_there : After g states q s shared_at names_at many_at loop_at after_at
  after_there = record {
    loops = λ goes n to edge. ((after_are setting q s at).loops goes (some_named n to edge)).after;
    gives = λ goes none. (after_are setting q s at).gives goes (ap (named_gotos (answer_names g)) none);
    cut = cut_both (arms_cut shared_at (arms_so_far (at_match setting q s at)) (arm_forms setting q s at) (arm_lines setting q s at).lines) (error_cut armed.made armed.names (error_form (error_location (slots_of setting q s at))));
    made = refl;
    many_are = refl;
  }

  pub loop_there : goes_on g (layouts_of g states) s ≡ true → (n to : ℕ) → edge_at states q (Nonterminal n) ≡ Some to → shared_at.kind ≡ Some kind → shared_at.made < names_at.next → IsAlone (codes "~result") shared_at.made names_at
      → LoopCode g states p variant kind (maker_of setting q s at) q s loop_at
  loop_there goes n to edge kind_is below alone =
      let r = (after_are setting q s at).loops goes (some_named n to edge) in
      let cut : IsCut names_at loop_names = after_there.cut in
      let first = arms_grow shared_at (arms_so_far (at_match setting q s at)) (arm_forms setting q s at) in
      let error = error_grows armed.made armed.names (error_form (error_location (slots_of setting q s at))) in
      let grown = grows.both (at_match setting q s at).made armed.made loop_made first error in
      record {
        goes = goes;
        shared = shared_at;
        made = loop_made;
        turn = refl;
        room = subst (λ (k : ℕ). k ≤ many_at) (ap (λ (ns : Names). ns.next) r.names) (omega arith);
        made_in = subst (IsIn g p variant) r.made (made_in setting q s at);
        prefix = grown.prefix ∙ ap (λ (m : Making). m.prefix) (match_made setting q s at);
        knows = grown.names ∙ ap (λ (m : Making). m.names) (match_made setting q s at);
        kind_is = kind_is;
        made_is = refl;
        below = omega (arith, below, cut.next);
        apart = λ key slot other is. alone key slot other (ap (λ (ks : List (List ℕ × ℕ)). slot_of key (record { known = ks; next = 0 })) (sym cut.known) ∙ is);
      }
