-- A frame at the match whose state reduces: the machine's rule, what the action does, and the arm's code.
use Rattle.std.proofs.Common.{◌≡◌, ℕ, ◌<◌, ◌^◌, false, List, length, Option, Some, Ok, slice_get, refl, sym, ap, ◌∙◌, subst}
use Rattle.std.specs.Prelude.{nat_lt}
use Rattle.std.proofs.lemmas.List.{length-map}
use Rattle.std.proofs.lemmas.Option.{slice_get_within}
use Rattle.lp_repr.specs.Numbering.{productions_of}
use Rattle.lp_repr.specs.declared.lr1.Lr1State.{Lr1State}
use Rattle.lp_repr.specs.declared.lr1.Token as lr1
use Rattle.lp_repr.specs.declared.repr.Grammar.{Grammar}
use Rattle.lp_repr.specs.declared.repr.Production.{Production}
use Rattle.lp_repr.specs.declared.values.Loc.{Loc}
use Rattle.lp_repr.specs.declared.values.RunItem.{RunItem}
use Rattle.lp_driver.specs.declared.answers.Expecting.TheVariants.{Trial}
use Rattle.lp_driver.specs.Values.{Text, Token, Spanned, Value}
use Rattle.lp_machine.specs.declared.calls.Acted.{Acted}
use Rattle.lp_machine.specs.declared.config.Config.{Config}
use Rattle.lp_machine.specs.declared.lookup.Act.TheVariants.{ReduceBy}
use Rattle.lp_machine.specs.declared.lookup.Rule.{Rule}
use Rattle.lp_machine.specs.GrammarTables.{grammar_tables}
use Rattle.lp_machine.specs.Moves.{acted}
use Rattle.lp_machine.specs.ReductionSpan.{popped, empty_place}
use Rattle.lp_machine.specs.StackMachine.{lookahead_start}
use Rattle.lp_machine.specs.Tables.{Tables}
use Rattle.lp_agrees.specs.Machine.{as_user}
use Rattle.lp_question_laws.specs.Tables.Acts.{Acts, arguments}
use Rattle.lp_core.specs.declared.value.StateType.{StateType}
use Rattle.lp_core.specs.Store.{Program, UserCall}
use Rattle.lp_core.specs.Val.{Val}
use Rattle.lp_parts.specs.Texts.{generic_names_text}
use Rattle.lp_table.specs.Starts.{is_fallible}
use Rattle.lp_ascent.specs.CallLines.{cells_from}
use Rattle.lp_ascent.specs.ReduceLines.{first_popped, popped_span, popped_arguments, reduction_arm, reduction_of}
use Rattle.lp_ascent.specs.Slots.{Layout, count_of}
use Rattle.lp_ascent_bodies.specs.declared.ascent.Lines.{Lines as Shared}
use Rattle.lp_ascent_bodies.specs.AscentArms.{Arming}
use Rattle.lp_bodies.specs.Arms.{Gathered}
use Rattle.lp_code_laws.specs.Ends.Ends.{Moment}
use Rattle.lp_maker.specs.Slots.{Names}
use Rattle.lp_maker.specs.Making.{Making}
use Rattle.lp_question_laws.specs.Reductions.Arguments.{ShowAll}
use Rattle.lp_question_laws.specs.Reductions.Premises.{ActionRuns}
use Rattle.lp_question_laws.proofs.Reductions.Infallible.{infallible_gives}
use Rattle.lp_question_laws.proofs.Reductions.Texts.{AllKeys, IsPrefix, names_of}
use Rattle.lp_back_end_laws.specs.Call.Slots.{layout}
use Rattle.lp_back_end_laws.specs.Call.Standing.{look_val}
use Rattle.lp_back_end_laws.proofs.Call.Acting.{Does}
use Rattle.lp_back_end_laws.proofs.Call.CutNames.{frame_cut}
use Rattle.lp_back_end_laws.proofs.Call.Matching.{ArmAt, AtMatch}
use Rattle.lp_back_end_laws.proofs.Call.PrefixWords.{word_prefix}
use Rattle.lp_back_end_laws.proofs.Call.ReducedRules.{RuleOf}
use Rattle.lp_back_end_laws.proofs.Call.ReductionCode.{Coded, reduction_coded}
use Rattle.lp_back_end_laws.proofs.Call.ReductionForms.{made_before}
use Rattle.lp_back_end_laws.proofs.Call.ReductionMoves.{ruled, symbols_many}
use Rattle.lp_back_end_laws.proofs.Call.Setting.{Setting}
use Rattle.lp_back_end_laws.proofs.Call.SlotsFew.{slots_few}

module _ {g : Grammar} {start : ℕ} {states : List Lr1State} {params : List Text} {failing : List ℕ} {items : List RunItem} {p : Program} {keys : List (List ℕ)} {given : List Val} {function action variant : ℕ → ℕ} {kind : StateType} {expected most cost : ℕ}
    (setting : Setting g start states params failing items p keys given function action variant kind expected most cost) where
  abbrev pub t : Tables
  t = grammar_tables g states Trial params failing

  pub prefix_plain : IsPrefix g.prefix
  prefix_plain = word_prefix g.prefix setting.read.prefix

  pub keys_plain : AllKeys g.prefix (names_of g.parameters)
  keys_plain = subst (AllKeys g.prefix) setting.read.keys_are setting.read.keys_plain

  module _ {q : ℕ} {s : Lr1State} (at_q : slice_get states q ≡ Some s) {shared : Shared} {names : Names} {many list : ℕ} {c : Config} {own : List Val} {look : Option (Spanned Token)} {m : Moment}
      (match : AtMatch g states t items kind keys given shared names many q c list own look m) (k : ℕ) {production : Production} (known : slice_get (productions_of g) k ≡ Some production) (does : Does states t q c look (ReduceBy k)) where
    abbrev pub l : Layout
    l = layout g states q

    pub state_less : q < length states
    state_less = slice_get_within states q s at_q

    pub few : count_of l < 2 ^ 64
    few = slots_few setting.over setting.symbols_few q s at_q

    abbrev pub rules : RuleOf g t k production
    rules = ruled setting.over items variant match.on_top match.mending match.sees k known does match.own_are.fits

    abbrev pub rule : Rule
    rule = rules.rule

    abbrev pub symbols : List (Spanned Value)
    symbols = popped rule.length c.triples

    -- where none stands
    abbrev pub seen : Loc
    seen = empty_place (lookahead_start c.lookahead) c.triples

    abbrev pub its_act : Acted
    its_act = acted t items c rule

    -- the action's function
    pub its_action : ActionRuns p (setting.code.maker q) g t given cost production
    its_action = setting.acts q k production state_less known

    same_act : (calls : List UserCall) → calls ≡ m.calls → t.act production.action symbols (seen, seen) (length calls) ≡ its_act
    same_act calls same =
        ap (λ (i : ℕ). t.act i symbols (seen, seen) (length calls)) (sym rules.action_is) ∙ ap (λ (i : ℕ). t.act rule.action symbols (seen, seen) i) (ap length same ∙ ap length match.follows.calls ∙ length-map c.calls as_user)

    -- does what the machine's action does
    pub acts_here : (n : Moment) → n.calls ≡ m.calls → Acts p its_action.function (arguments given symbols (seen, seen)) (is_fallible g production) its_act cost n
    acts_here n same =
        subst (λ (x : Acted). Acts p its_action.function (arguments given symbols (seen, seen)) (is_fallible g production) x cost n) (same_act n.calls same)
        (its_action.acts symbols (seen, seen) n (symbols_many setting.over items variant match.on_top match.mending match.sees k known does match.own_are.fits))

    pub infallible : is_fallible g production ≡ false → (v : Value) × (its_act.result ≡ Ok v)
    infallible plain =
        let r = infallible_gives g states Trial params failing setting.over.grammar production plain symbols (seen, seen) (length m.calls) in
        (r.0, ap (λ (x : Acted). x.result) (sym (same_act m.calls refl)) ∙ r.1)

    module _ {arms : Gathered} (tokens : List lr1.Token) {a : Arming} (arm : ArmAt p g variant (setting.code.maker q) shared names arms many (look_val look) (reduction_arm g (layout g states q) production tokens) a) where
      -- the arm's code
      abbrev pub made : Making
      made = made_before shared a (reduction_arm g l production tokens)

      pub its_code : Coded p made (setting.code.maker q) a.names many (reduction_of g l production) (is_fallible g production) production.action (generic_names_text g) (popped_arguments g (first_popped l production) (count_of l)) (variant rule.nonterminal)
          (cells_from l (first_popped l production)) (popped_span g l (length production.symbols)) (nat_lt 0 (length production.symbols))
      its_code = reduction_coded l production tokens arm rule.nonterminal rules.named

      pub parameters_shown : ShowAll a.names m.store.env (names_of g.parameters) given
      parameters_shown = subst (λ (qs : List (List ℕ)). ShowAll a.names m.store.env qs given) setting.read.keys_are (frame_cut arm.cut match.shown).parameters
