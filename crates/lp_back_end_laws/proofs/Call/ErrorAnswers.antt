-- What a state's function answers where the state does nothing on the lookahead: the machine's error.
use Rattle.std.proofs.Common.{◌≡◌, ◌⊎◌, inr, ℕ, false, ◌+◌, ◌*◌, ◌<◌, ◌≤◌, length, List, [], ◌∷◌, codes, Option, Some, None, refl, sym, ap, ◌∙◌, subst, ⊎_elim, arith, mul-add}
use Rattle.std.specs.Prelude.{slice_get}
use Rattle.std.proofs.lemmas.Bool.{cases_eq}
use Rattle.std.proofs.lemmas.List.{nil_from_length}
use Rattle.std.proofs.lemmas.Nat.{mul-le}
use Rattle.lp_repr.specs.declared.lr1.Lr1State.{Lr1State}
use Rattle.lp_repr.specs.declared.repr.Grammar.{Grammar}
use Rattle.lp_repr.specs.declared.values.RunItem.{RunItem}
use Rattle.lp_driver.specs.declared.answers.Expecting.TheVariants.{Trial}
use Rattle.lp_driver.specs.Values.{Text, Token, Spanned}
use Rattle.lp_machine.specs.declared.config.Config.{Config}
use Rattle.lp_machine.specs.declared.lookup.Act.TheVariants.{NoAction}
use Rattle.lp_machine.specs.GrammarTables.{grammar_tables}
use Rattle.lp_machine.specs.Moves.{errs}
use Rattle.lp_machine.specs.StackMachine.{failure_at}
use Rattle.lp_machine.specs.Tables.{Tables}
use Rattle.lp_view.specs.PartLists.{Form}
use Rattle.lp_core.specs.declared.value.StateType.{StateType}
use Rattle.lp_core.specs.declared.value.Tag.TheVariants as tag
use Rattle.lp_core.specs.Datum.{Cell}
use Rattle.lp_core.specs.Eval.{run, run_block}
use Rattle.lp_core.specs.Flow.{State, Flow, Returns, Spent, then_value}
use Rattle.lp_core.specs.OpMeaning.{failure_val}
use Rattle.lp_core.specs.Prefix.{IsPrefix}
use Rattle.lp_core.specs.Reading.{wrapped}
use Rattle.lp_core.specs.Store.{Program}
use Rattle.lp_core.specs.Tree.{Tree, trees_of}
use Rattle.lp_core.specs.Val.{Val, Plain}
use Rattle.lp_ascent.specs.Slots.{count_of}
use Rattle.lp_ascent.specs.StateLines.{error_location}
use Rattle.lp_ascent_bodies.specs.declared.ascent.Lines.{Lines as Shared}
use Rattle.lp_ascent_bodies.specs.AscentArms.{Arming}
use Rattle.lp_ascent_bodies.specs.AscentErrors.{error_value}
use Rattle.lp_ascent_bodies.specs.AscentStates.{token_match, after_parts}
use Rattle.lp_bodies.specs.Arms.{Gathered}
use Rattle.lp_bodies.specs.Reductions.{part_function}
use Rattle.lp_code_laws.specs.Ends.Ends.{Moment, at}
use Rattle.lp_maker.specs.Slots.{Names}
use Rattle.lp_maker.specs.Making.{number_in}
use Rattle.lp_code_laws.specs.Slots.Shows.{Shows, HasRoom}
use Rattle.lp_turn_laws.specs.Paths.Over.{IsOver}
use Rattle.lp_turn_laws.specs.Paths.Standing.{IsOnPath}
use Rattle.lp_back_end_laws.specs.Call.Slots.{layout}
use Rattle.lp_back_end_laws.specs.Call.Standing.{as_users, look_val, EndsThere, Sees, at_end, OnTop}
use Rattle.lp_back_end_laws.proofs.Call.Acting.{Does, IsUnknown, error_there}
use Rattle.lp_back_end_laws.proofs.Call.CutNames.{shows_cut}
use Rattle.lp_back_end_laws.proofs.Call.EndPlaces.{end_placed}
use Rattle.lp_back_end_laws.proofs.Call.ErrorArms.{Placed, ErrorEnds, ErrorShort, error_ends}
use Rattle.lp_back_end_laws.proofs.Call.ErrorPlaces.{first_location, error_made}
use Rattle.lp_back_end_laws.proofs.Call.Items.{first_alone}
use Rattle.lp_back_end_laws.proofs.Call.Layouts.{top_fixed, fixed_below}
use Rattle.lp_back_end_laws.proofs.Call.MatchBlocks.{block_is}
use Rattle.lp_back_end_laws.proofs.Call.Matching.{ErrorAt, AtMatch, MatchAnswers}
use Rattle.lp_back_end_laws.proofs.Call.Setting.{Setting}
use Rattle.lp_back_end_laws.proofs.Call.StateMatch.{error_form}

-- ---- steps
-- what an error costs of so many moves
error_cost : (most b left moved : ℕ) → 5 ≤ most → b ≤ left + 5 * moved + 2 → b + 2 ≤ left + most * (moved + 1)
error_cost most b left moved some few = subst (λ n. b + 2 ≤ left + n) (sym (mul-add most moved 1)) (sum (5 * moved) (most * moved) (most * 1) (mul-le 5 moved most moved some (omega arith)) (mul-le 5 1 most 1 some (omega arith)) few)
  where
    sum : (x y z : ℕ) → x ≤ y → 5 * 1 ≤ z → b ≤ left + x + 2 → b + 2 ≤ left + (y + z)
    sum x y z le five few = omega (arith, le, five, few)

spent_cost : (most b k : ℕ) → 5 ≤ most → b < 5 * k + 2 → b + 2 < most * (k + 1)
spent_cost most b k some few = subst (λ n. b + 2 < n) (sym (mul-add most k 1)) (sum (5 * k) (most * k) (most * 1) (mul-le 5 k most k some (omega arith)) (mul-le 5 1 most 1 some (omega arith)) few)
  where
    sum : (x y z : ℕ) → x ≤ y → 5 * 1 ≤ z → b < x + 2 → b + 2 < y + z
    sum x y z le five few = omega (arith, le, five, few)

-- ---- a frame without slots is the first one
pub no_symbols : {g : Grammar} {start : ℕ} {states : List Lr1State} {t : Tables} → IsOver g start states t → (q : ℕ) (c : Config) → OnTop states q c → count_of (layout g states q) ≡ 0 → c.triples ≡ []
no_symbols {g} {states = states} over q c top none =
    ⊎_elim
    (λ (first : q ≡ 0).
    let alone = first_alone over c.states top.stands.symbols top.stands.path (top.top ∙ ap Some first) in
    nil_from_length c.triples (top.stands.same_count ∙ ap length alone.1))
    (λ (other : q ≡ 0 → ⊥). (let some = top_fixed over c.states top.stands.symbols q top.stands.path top.top other in let below = fixed_below over q in absurd (omega (arith, some, below, none))))
    (cases_eq q 0)

module _ {g : Grammar} {start : ℕ} {states : List Lr1State} {params : List Text} {failing : List ℕ} {items : List RunItem} {p : Program} {keys : List (List ℕ)} {given : List Val} {function action variant : ℕ → ℕ} {kind : StateType} {expected most cost : ℕ}
    (setting : Setting g start states params failing items p keys given function action variant kind expected most cost) where
  abbrev t : Tables
  t = grammar_tables g states Trial params failing

  module _ {q : ℕ} (less : q < length states) {shared : Shared} {names : Names} {arms : Gathered} {many list : ℕ} {c : Config} {own : List Val} {look : Option (Spanned Token)} {m : Moment}
      (match : AtMatch g states t items kind keys given shared names many q c list own look m) {a : Arming} (error : ErrorAt p g variant (setting.code.maker q) names arms many (look_val look) (error_location (layout g states q)) a) where
    -- where the end is
    placed : look ≡ None → Placed a.made a.names (error_form (error_location (layout g states q))) p m c.last
    placed none = end_placed a.made a.names (error_form (error_location (layout g states q))) (layout g states q) (first_location (layout g states q)) c own match.own_are (λ j v at. shows_cut error.cut (match.shown.slots j v at)) (ends look none match.sees) (no_symbols setting.over q c match.on_top)
        (λ k count is. error.made.functions (length a.made.functions) (part_function 2) (error_made a.made a.names (layout g states q) k count is))
      where
        ends : (look : Option (Spanned Token)) → look ≡ None → Sees t items c look → EndsThere c
        ends None none (at_end has there asked) = there
        ends (Some x) none sees = absurd cc

    module _ (why : Does states t q c look NoAction ⊎ IsUnknown t look) where
      abbrev form : Form
      form = error_form (error_location (layout g states q))

      named : number_in (codes "expected") a.made.names ≡ Some expected
      named = ap (number_in (codes "expected")) error.knows ∙ setting.code.expected_named q less

      stands : c ≡ errs t items c look false
      stands = error_there setting.over items match.on_top setting.never match.mending look match.sees why

      room : HasRoom 2 a.names m.store.env
      room = record { room = subst (λ n. a.names.next + 2 ≤ n) (sym match.many_are) error.room }

      look_shown : Shows a.names m.store.env (codes "~lookahead") (look_val look)
      look_shown = shows_cut error.cut match.look_shown

      list_shown : Shows a.names m.store.env (codes "~states") (Plain (Cell list))
      list_shown = shows_cut error.cut match.shown.states

      abbrev path : IsOnPath states c.states
      path = (match.on_top.stands.symbols, match.on_top.stands.path)

      abbrev Errs : ℕ → Type 0
      Errs b = ErrorEnds setting.over setting.trials items refl a.made a.names form named c look path stands list m match.follows.states_are room look_shown list_shown placed b

      abbrev IsShort : ℕ → Type 0
      IsShort b = ErrorShort setting.over setting.trials items refl a.made a.names form named c look path stands list m match.follows.states_are room look_shown list_shown placed b

      module _ (after : Option Tree) (w : Val) (b : ℕ) where
        abbrev block : Flow
        block = run_block p (trees_of (token_match shared arms ∷ after_parts after)) w (at m b)

        abbrev rest : Val → State → Flow
        rest v st = run_block p (trees_of (after_parts after)) v st

        runs_arm : block ≡ then_value (run p (error_value a.made a.names form) (at m b)) rest
        runs_arm = block_is p shared arms after w m look (subst (λ x. slice_get m.store.env x ≡ Some (look_val look)) match.look_slot match.look_shown.held) error.index error.is error.body b

        fails : Errs b → MatchAnswers g states t items variant most q c own (at m b) block
        fails x =
            let is : block ≡ Returns (wrapped tag.Failure (failure_val (failure_at c.last look x.found))) (at x.after x.left) = runs_arm ∙ ap (λ (fl : Flow). then_value fl rest) x.runs in
            subst (MatchAnswers g states t items variant most q c own (at m b)) (sym is) (inr (record {
              made = x.moved;
              failure = failure_at c.last look x.found;
              over = ap (λ (d : Config). d.left) x.leads.comes;
              value = refl;
              calls = x.calls ∙ match.follows.calls ∙ ap (λ (d : Config). as_users d.calls) (sym x.leads.comes);
              steps = error_cost most b x.left x.moved setting.some x.steps;
            }))

        spent : IsShort b → MatchAnswers g states t items variant most q c own (at m b) block
        spent x =
            let is : block ≡ Spent x.calls = runs_arm ∙ ap (λ (fl : Flow). then_value fl rest) x.runs in
            subst (MatchAnswers g states t items variant most q c own (at m b)) (sym is) (record {
              made = 0;
              first = subst (IsPrefix x.calls) match.follows.calls x.first;
              early = λ k h. spent_cost most b k setting.some (x.early k h);
            })

        -- the error's arm answers the machine's error
        pub error_answers : MatchAnswers g states t items variant most q c own (at m b) block
        error_answers =
            ⊎_elim fails spent (error_ends setting.over setting.trials items refl a.made a.names form named c look path stands list m match.follows.states_are room look_shown list_shown placed b)
