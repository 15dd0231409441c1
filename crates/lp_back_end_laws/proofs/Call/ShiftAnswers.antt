-- A state's function on a token that the state shifts does what the machine does.
use Rattle.std.specs.Str.{bytes_eq}
use Rattle.std.proofs.Common.{◌≡◌, ℕ, ◌<◌, ◌≤◌, Bool, true, false, List, [], ◌∷◌, ◌++◌, length, map, pos, Option, Some, slice_get, sym, ap, ◌∙◌, subst, ⊎_elim, arith, codes, refl}
use Rattle.std.specs.Prelude.{slice_set}
use Rattle.std.proofs.lemmas.Bool.{cases_lt, lt-ltb, le-ltb}
use Rattle.lp_repr.specs.declared.lr1.Lr1State.{Lr1State}
use Rattle.lp_repr.specs.declared.lr1.Token.TheVariants.{Terminal}
use Rattle.lp_repr.specs.declared.numbering.SymbolNumber.TheVariants as symbol
use Rattle.lp_repr.specs.declared.repr.Grammar.{Grammar}
use Rattle.lp_repr.specs.declared.repr.TokenPattern.{TokenPattern}
use Rattle.lp_repr.specs.declared.values.RunItem.{RunItem}
use Rattle.lp_driver.specs.declared.answers.Expecting.TheVariants.{Trial}
use Rattle.lp_driver.specs.Values.{Spanned, Text, Token, Value}
use Rattle.lp_machine.specs.declared.config.Config.{Config}
use Rattle.lp_machine.specs.declared.lookup.Act.TheVariants.{Shift}
use Rattle.lp_machine.specs.GrammarTables.{grammar_tables}
use Rattle.lp_machine.specs.declared.lookup.Rule.{Rule}
use Rattle.lp_machine.specs.Lookup.{act_at}
use Rattle.lp_machine.specs.Move.{shifts}
use Rattle.lp_machine.specs.Tables.{Tables}
use Rattle.lp_turn_laws.specs.Alike.Course.{Leads}
use Rattle.lp_core.specs.declared.value.StateType.{StateType}
use Rattle.lp_core.specs.declared.value.Tag.TheVariants as tag
use Rattle.lp_core.specs.Datum.{Cell, Unset}
use Rattle.lp_core.specs.Effect.{unit}
use Rattle.lp_core.specs.Eval.{run_block, run_call}
use Rattle.lp_core.specs.Reading.{empty, wrapped}
use Rattle.lp_core.specs.Store.{Program}
use Rattle.lp_core.specs.Tree.{Tree, trees_of}
use Rattle.lp_core.specs.Val.{Val, Plain}
use Rattle.lp_code_laws.specs.Ends.Ends.{Moment, at, Eval, Sequence, Returning, EndsIn}
use Rattle.lp_code_laws.proofs.Ends.Blocks.{sequence_one}
use Rattle.lp_code_laws.proofs.Ends.Lists.{get_same, get_other, length_set}
use Rattle.lp_code_laws.proofs.Ends.Tags.{slot_is}
use Rattle.lp_maker.specs.Slots.{Names}
use Rattle.lp_code_laws.specs.Slots.Shows.{Keeps}
use Rattle.lp_bodies.specs.Arms.{Gathered}
use Rattle.lp_question_laws.specs.Tables.Acts.{symbol_val}
use Rattle.lp_ascent.specs.CallLines.{call_of}
use Rattle.lp_ascent.specs.GotoLines.{goes_on}
use Rattle.lp_ascent.specs.ShiftLines.{pattern_at}
use Rattle.lp_ascent.specs.ShiftLines as lines
use Rattle.lp_ascent.specs.Slots.{count_of, layouts_of}
use Rattle.lp_ascent_bodies.specs.declared.ascent.Lines.{Lines as Shared}
use Rattle.lp_ascent_bodies.specs.AscentArms.{Arming}
use Rattle.lp_ascent_bodies.specs.AscentStates.{token_match, after_parts}
use Rattle.lp_turn_laws.specs.Paths.Walks.{edge_at, Has}
use Rattle.lp_back_end_laws.specs.Call.Slots.{layout}
use Rattle.lp_back_end_laws.specs.Call.Standing.{as_users, Holds, look_val, Entry}
use Rattle.lp_back_end_laws.specs.Call.Stretches.{Passes}
use Rattle.lp_back_end_laws.specs.Call.Law.{Answers, Takes}
use Rattle.lp_back_end_laws.specs.Call.Handing.{Pushed, handed_slots}
use Rattle.lp_back_end_laws.specs.Call.Turns.{Looping, ShowsFrame}
use Rattle.lp_back_end_laws.proofs.Call.CallAnswers.{returned, gives, loops_on}
use Rattle.lp_back_end_laws.proofs.Call.Callers.{line_returns, line_goes_on}
use Rattle.lp_back_end_laws.proofs.Call.Edges.{edge_hands}
use Rattle.lp_back_end_laws.proofs.Call.FirstNames.{keys_apart}
use Rattle.lp_back_end_laws.proofs.Call.FrameNames.{cut_shows, frame_but, result_shows}
use Rattle.lp_back_end_laws.proofs.Call.Layouts.{shift_goes_on, shift_pulls}
use Rattle.lp_back_end_laws.proofs.Call.Loops.{made_given}
use Rattle.lp_back_end_laws.proofs.Call.Matching.{ArmAt, AtMatch, After, LawBelow, LoopBelow, MatchAnswers}
use Rattle.lp_back_end_laws.proofs.Call.Pushing.{enters, shifted_symbol, shift_pushes, shift_taken, shift_hands}
use Rattle.lp_back_end_laws.proofs.Call.Pushing as pushing
use Rattle.lp_back_end_laws.proofs.Call.Setting.{Setting}
use Rattle.lp_back_end_laws.proofs.Call.ShiftFacts.{asks_known, shift_is_edge, shift_leads, goes_on_so, goto_is}
use Rattle.lp_back_end_laws.proofs.Call.ShiftPasses.{CallsTarget, shift_calls}
use Rattle.lp_back_end_laws.proofs.Call.Transitions.{IsBack, passed, result_slots, with_result}

module _ {g : Grammar} {start : ℕ} {states : List Lr1State} {params : List Text} {failing : List ℕ} {items : List RunItem} {p : Program} {keys : List (List ℕ)} {given : List Val} {function action variant : ℕ → ℕ} {kind : StateType} {expected most cost : ℕ} (setting : Setting g start states params failing items p keys given function action variant kind expected most cost)
    (q : ℕ) (s : Lr1State) (state : slice_get states q ≡ Some s) {shared : Shared} {names : Names} {arms : Gathered} {many : ℕ} {c : Config} {list : ℕ} {own : List Val} {x : Spanned Token} {m : Moment} (h : AtMatch g states (grammar_tables g states Trial params failing) items kind keys given shared names many q c list own (Some x) m)
    (hold : Holds (grammar_tables g states Trial params failing) c x) (to : ℕ) (act : act_at states q (Terminal hold.index) ≡ Shift to) (pattern : TokenPattern) (is : pattern_at g hold.index ≡ Some pattern) {a : Arming}
    (arm : ArmAt p g variant (setting.code.maker q) shared names arms many (look_val (Some x)) (lines.shift_arm g.prefix (count_of (layout g states q)) pattern (call_of g (layouts_of g states) (layout g states q) to false)) a) where
  abbrev t : Tables
  t = grammar_tables g states Trial params failing

  abbrev from : Config
  from = shifts t items c to

  abbrev y : Spanned Value
  y = shifted_symbol t items setting.never c x hold

  edge : edge_at states q (symbol.Terminal hold.index) ≡ Some to
  edge = shift_is_edge setting.over q hold.index to act

  pushed : Pushed c from to y
  pushed = shift_pushes t items setting.never c x hold to h.mending

  lead : Leads t items c from 1
  lead = shift_leads setting.over items setting.never q c x to h.on_top h.mending (asks_known h.sees hold) hold act

  call : CallsTarget p shared arms names given (layout g states q) (layout g states to) (function to) c from y list own m
  call = shift_calls setting q s state h hold to act pattern is arm

  abbrev handed : List Val
  handed = handed_slots (layout g states q) (layout g states to) call.out (symbol_val y)

  abbrev vs : List Val
  vs = given ++ (empty tag.Tuple ∷ Plain (Cell list) ∷ []) ++ handed

  -- the call begins as calls of state functions do
  entry : (left : ℕ) → Entry g states t items given to from list handed vs (at call.moment left)
  entry left =
      enters setting.over items given q (symbol.Terminal hold.index) to c from y list own call.out [] (at call.moment left) m.store.cells call.cells_out edge h.on_top pushed (shift_hands t items setting.never c x hold to (layout g states to) (shift_pulls setting.over q hold.index to edge)) h.own_are h.apart h.follows.states_are call.took call.cells
      (call.taken ∙ h.follows.taken ∙ sym (shift_taken t items setting.never c x hold to)) (call.calls ∙ h.follows.calls ∙ ap as_users (sym (pushing.shift_calls t items setting.never c x hold to)))

  module _ (loops : ℕ → Looping) {after : Option Tree} (follow : After g states q s shared names many (loops q) after) (bound : ℕ) (law : LawBelow g states t items variant most bound p function given) (loop : LoopBelow g states t items variant most bound p keys given loops) where
    answers : (left : ℕ) → left < bound → Answers g states t items variant most to from handed (at call.moment left) (run_call p (function to) vs (at call.moment left))
    answers left less = law to from list handed vs (at call.moment left) less (entry left)

    some : 2 ≤ most
    some = omega (arith, setting.some)

    -- the frame's slots once the call is back
    kept : (v : Val) (env : List Val) → env ≡ call.moment.store.env → (length (result_slots call.spare shared.made v env) ≡ (loops q).many) × (slice_get (result_slots call.spare shared.made v env) (loops q).made ≡ Some v) × ShowsFrame (loops q).names (result_slots call.spare shared.made v env) keys given list own
    kept v env same =
        let keeps : Keeps names.next m.store.env env = subst (Keeps names.next m.store.env) (sym same) call.keeps in
        let bare = slice_set env call.spare (Plain Unset) in
        let made_there : slice_get bare shared.made ≡ Some h.result = get_other env call.spare shared.made (Plain Unset) (λ e. omega (arith, e, call.above, h.result_below)) ∙ keeps.same shared.made h.result_below ∙ h.result_there in (
          length_set bare shared.made v ∙ length_set env call.spare (Plain Unset) ∙ keeps.many ∙ h.many_are ∙ sym follow.many_are,
          ap (slice_get (slice_set bare shared.made v)) follow.made ∙ get_same bare shared.made made_there,
          frame_but (λ key. bytes_eq (codes "~result") key ≡ false) (keys_apart g.prefix keys setting.read.keys_plain (codes "result")) refl refl (λ j. refl) (λ key u other shows. cut_shows follow.cut (result_shows call.spare shared.made v keeps call.above shows (h.result_apart key u other shows))) h.shown,
        )

    -- the match calls, and the frame returns then or not
    abbrev PassesIf : Bool → Type 0
    PassesIf b = Passes p (Eval (token_match shared arms)) m call.steps (function to) vs call.moment (IsBack call.moment list (map pos from.states)) (passed b call.spare shared.made list (map pos c.states)) (λ v b. Returning (wrapped tag.Failure v) (slot_is call.spare (Plain Unset) b))

    module _ (w : Val) (left : ℕ) (less : left < bound) where
      abbrev Wanted : Type 0
      Wanted = MatchAnswers g states t items variant most q c own (at m left) (run_block p (trees_of (token_match shared arms ∷ after_parts after)) w (at m left))

      -- several of the callee's slots are fixed
      several : 1 < (layout g states to).fixed → Wanted
      several more =
          let passes = subst PassesIf (lt-ltb 1 (layout g states to).fixed more) call.passes in
          returned setting.over items variant most some p (function to) vs q (symbol.Terminal hold.index) to edge lead y pushed list own call.out m call.moment call.cells_out h.own_are h.apart h.follows.states_are call.took call.cells bound answers
          {w = w} more call.none (line_returns {es = trees_of (after_parts after)} passes) left less

      -- one is
      single : (layout g states to).fixed ≡ 1 → Wanted
      single one = ⊎_elim looping giving (goes_on_so setting.over c q hold.index to s h.on_top state edge one)
        where
          goes : goes_on g (layouts_of g states) s ≡ true
          goes = shift_goes_on setting.over q hold.index to s state edge one

          passes_on : PassesIf false
          passes_on = subst PassesIf (le-ltb 1 (layout g states to).fixed (omega (arith, one))) call.passes

          looping : (n : ℕ) × (k : ℕ) × (edge_at states q (symbol.Nonterminal n) ≡ Some k) → Wanted
          looping e =
              loops_on setting.over items variant most some p (function to) vs q (symbol.Terminal hold.index) to edge lead y pushed list own call.out m call.moment call.cells_out h.own_are h.apart h.follows.states_are call.took call.cells bound answers
              one {w = w} call.none (line_goes_on {es = trees_of (after_parts after)} passes_on) loops (ap (λ o. trees_of (after_parts o)) (follow.loops goes e.0 e.1 e.2)) loop e.0 (goto_is setting.over q e.0 e.1 e.2) (s, state, goes) h.on_top kept left less

          giving : (s.gotos.entries ≡ []) × ((d y : ℕ) (rule : Rule) → t.rule y ≡ Some rule → Has states q y d → Takes q d rule) → Wanted
          giving e =
              gives setting.over items variant most some p (function to) vs q (symbol.Terminal hold.index) to edge lead y pushed list own call.out m call.moment call.cells_out h.own_are h.apart h.follows.states_are call.took call.cells bound answers
              one {w = w} call.none (line_goes_on {es = trees_of (after_parts after)} passes_on) e.1
              (λ v b set back. subst (λ ts. EndsIn p (Sequence ts unit) (with_result call.spare shared.made list (map pos c.states) v b) 0 (Returning (wrapped tag.Success v) (with_result call.spare shared.made list (map pos c.states) v b))) (sym (ap (λ o. trees_of (after_parts o)) (follow.gives goes e.0)))
              (sequence_one (made_given shared (sym (ap (slice_get (result_slots call.spare shared.made v b.store.env)) follow.made) ∙ (kept v b.store.env back).1) set)))
              left less

      -- the match and what follows it answer as the machine does
      pub shift_answers : Wanted
      shift_answers = ⊎_elim (λ (more : 1 < (layout g states to).fixed). several more) (λ (le : (layout g states to).fixed ≤ 1). single (omega (arith, le, (edge_hands setting.over q (symbol.Terminal hold.index) to edge).some_fixed))) (cases_lt 1 (layout g states to).fixed)
