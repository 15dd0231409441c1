-- How the arm of a reduction ends in a frame at the match, with symbols and without.
use Rattle.std.proofs.Common.{◌≡◌, ℕ, ◌+◌, ◌-◌, ◌*◌, ◌<◌, ◌≤◌, Bool, true, false, List, [], ◌++◌, length, map, filter, Option, Some, slice_get, sym, ap, ◌∙◌, subst, arith, lt-ltb, drop_of_length-le}
use Rattle.std.specs.Prelude.{nat_lt}
use Rattle.std.specs.List.{range_with_len}
use Rattle.lp_repr.specs.Numbering.{productions_of}
use Rattle.lp_repr.specs.declared.lr1.Lr1State.{Lr1State}
use Rattle.lp_repr.specs.declared.lr1.Token as lr1
use Rattle.lp_repr.specs.declared.repr.Grammar.{Grammar}
use Rattle.lp_repr.specs.declared.repr.Production.{Production}
use Rattle.lp_repr.specs.declared.values.Loc.{Loc}
use Rattle.lp_repr.specs.declared.values.RunItem.{RunItem}
use Rattle.lp_driver.specs.Values.{Text, Token, Spanned, Value}
use Rattle.lp_machine.specs.declared.config.Config.{Config}
use Rattle.lp_machine.specs.declared.lookup.Act.TheVariants.{ReduceBy}
use Rattle.lp_machine.specs.ReductionSpan.{popped, span}
use Rattle.lp_agrees.specs.Machine.{as_user}
use Rattle.lp_question_laws.specs.Tables.Acts.{Acts, arguments}
use Rattle.lp_core.specs.declared.value.StateType.{StateType}
use Rattle.lp_core.specs.declared.value.Tag.TheVariants as tag
use Rattle.lp_core.specs.Datum.{Parsed}
use Rattle.lp_core.specs.Reading.{wrapped, triple}
use Rattle.lp_core.specs.Store.{Program}
use Rattle.lp_core.specs.Val.{Val, Plain}
use Rattle.lp_build.specs.declared.ascent_reduce.AscentSpan.{AscentSpan}
use Rattle.lp_build.specs.declared.ascent_reduce.AscentSpan.TheVariants as spans
use Rattle.lp_parts.specs.Texts.{generic_names_text}
use Rattle.lp_table.specs.Starts.{is_fallible}
use Rattle.lp_ascent.specs.CallLines.{cells_from}
use Rattle.lp_ascent.specs.ReduceLines.{first_popped, popped_span, popped_arguments, reduction_arm, reduction_of}
use Rattle.lp_ascent.specs.Slots.{count_of, is_cell}
use Rattle.lp_ascent_bodies.specs.declared.ascent.Lines.{Lines as Shared}
use Rattle.lp_ascent_bodies.specs.AscentArms.{Arming}
use Rattle.lp_ascent_bodies.specs.AscentReductions.{ascent_reduce}
use Rattle.lp_bodies.specs.Arms.{Gathered}
use Rattle.lp_code_laws.specs.Ends.Ends.{Moment}
use Rattle.lp_maker.specs.Slots.{Names}
use Rattle.lp_question_laws.specs.Reductions.Arguments.{names_in}
use Rattle.lp_question_laws.proofs.Reductions.Replying.{all_outer}
use Rattle.lp_question_laws.proofs.Reductions.Texts.{names_of}
use Rattle.lp_back_end_laws.specs.Call.Slots.{layout}
use Rattle.lp_back_end_laws.specs.Call.Standing.{look_val, place_of, answer_val}
use Rattle.lp_back_end_laws.proofs.Call.Acting.{Does}
use Rattle.lp_back_end_laws.proofs.Call.ErrorAnswers.{no_symbols}
use Rattle.lp_back_end_laws.proofs.Call.CutNames.{shows_cut}
use Rattle.lp_back_end_laws.proofs.Call.FrameSymbols.{cells_left}
use Rattle.lp_back_end_laws.proofs.Call.Loops.{result_of}
use Rattle.lp_back_end_laws.proofs.Call.MatchBlocks.{look_set}
use Rattle.lp_back_end_laws.proofs.Call.Matching.{ArmAt, AtMatch}
use Rattle.lp_back_end_laws.proofs.Call.NonePlaces.{place_seen}
use Rattle.lp_back_end_laws.proofs.Call.NoneRuns.{none_ends}
use Rattle.lp_back_end_laws.proofs.Call.ReductionArguments.{some_named, none_named}
use Rattle.lp_back_end_laws.proofs.Call.ReductionCode.{Coded}
use Rattle.lp_back_end_laws.proofs.Call.ReductionEnds.{ArmEnds}
use Rattle.lp_back_end_laws.proofs.Call.ReductionFrame.{t, prefix_plain, keys_plain, state_less, few, rules, rule, symbols, seen, its_act, its_action, acts_here, infallible, made, its_code, parameters_shown}
use Rattle.lp_back_end_laws.proofs.Call.ReductionMoves.{symbols_within, seen_is}
use Rattle.lp_back_end_laws.proofs.Call.Setting.{Setting}
use Rattle.lp_back_end_laws.proofs.Call.SymbolRuns.{some_place, symbols_end}

-- none is popped
popped_none : {A : Type 0} (xs : List A) → popped 0 xs ≡ []
popped_none xs = drop_of_length-le xs (let all : length xs ≤ length xs - 0 = omega arith in all)

-- and it stands at its place
none_stands : (xs : List (Spanned Value)) (e at : Loc) → e ≡ at → xs ≡ [] → (at, at) ≡ span xs e
none_stands xs e at same bare = ap (λ (x : Loc). (x, x)) (sym same) ∙ ap (λ (ys : List (Spanned Value)). span ys e) (sym bare)

module _ {g : Grammar} {start : ℕ} {states : List Lr1State} {params : List Text} {failing : List ℕ} {items : List RunItem} {p : Program} {keys : List (List ℕ)} {given : List Val} {function action variant : ℕ → ℕ} {kind : StateType} {expected most cost : ℕ}
    (setting : Setting g start states params failing items p keys given function action variant kind expected most cost)
    {q : ℕ} {s : Lr1State} (at_q : slice_get states q ≡ Some s) {shared : Shared} {names : Names} {many list : ℕ} {c : Config} {own : List Val} {look : Option (Spanned Token)} {m : Moment}
    (match : AtMatch g states (t setting) items kind keys given shared names many q c list own look m) (k : ℕ) {production : Production} (known : slice_get (productions_of g) k ≡ Some production) (does : Does states (t setting) q c look (ReduceBy k))
    {arms : Gathered} (tokens : List lr1.Token) {a : Arming} (arm : ArmAt p g variant (setting.code.maker q) shared names arms many (look_val look) (reduction_arm g (layout g states q) production tokens) a) where
  within : length production.symbols ≤ count_of (layout g states q)
  within = symbols_within setting.over items variant match.on_top match.mending match.sees k known does match.own_are.fits

  look_there : slice_get m.store.env shared.lookahead ≡ Some (look_val look)
  look_there = subst (λ x. slice_get m.store.env x ≡ Some (look_val look)) match.look_slot match.look_shown.held

  below : shared.made < a.names.next
  below = let less = match.result_below in let cut = arm.cut.next in omega (arith, less, cut)

  prefix_is : (args : List ℕ) → names_in (setting.code.maker q).prefix args ≡ names_in g.prefix args
  prefix_is args = ap (λ (x : List ℕ). names_in x args) (setting.code.prefix q (state_less setting at_q match k known does))

  -- with symbols
  pub some_end : 0 < length production.symbols → ArmEnds p (ascent_reduce shared (made setting at_q match k known does tokens arm) a.names (reduction_of g (layout g states q) production)).value m (1 + cost * (length (its_act setting at_q match k known does).calls + 1)) a.names.next shared.made true
      (cells_left (layout g states q) (first_popped (layout g states q) production) own m.store.cells) (m.calls ++ map as_user (its_act setting at_q match k known does).calls)
      (λ v. answer_val (variant (rule setting at_q match k known does).nonterminal) (place_of c (rule setting at_q match k known does)) v look) (its_act setting at_q match k known does).result
  some_end some =
      let l = layout g states q in
      let first = first_popped l production in
      let length_is = (rules setting at_q match k known does).length_is in
      let w = within in
      let small = few setting at_q match k known does in
      let n = (rule setting at_q match k known does).length in
      let counted : first + n ≡ count_of l = omega (arith, w, length_is) in
      let more : 0 < n = omega (arith, some, length_is) in
      let code = subst (λ (b : Bool). Coded p (made setting at_q match k known does tokens arm) (setting.code.maker q) a.names many (reduction_of g l production) (is_fallible g production) production.action (generic_names_text g) (popped_arguments g first (count_of l)) (variant (rule setting at_q match k known does).nonterminal) (cells_from l first) (spans.Symbols first (count_of l - 1)) b) (lt-ltb 0 (length production.symbols) some)
      (subst (λ (at : AscentSpan). Coded p (made setting at_q match k known does tokens arm) (setting.code.maker q) a.names many (reduction_of g l production) (is_fallible g production) production.action (generic_names_text g) (popped_arguments g first (count_of l)) (variant (rule setting at_q match k known does).nonterminal) (cells_from l first) at (nat_lt 0 (length production.symbols)))
      (some_place g l (length production.symbols) some w) (its_code setting at_q match k known does tokens arm)) in
      symbols_end p shared m match.own_are match.apart small (λ j v at. shows_cut arm.cut (match.shown.slots j v at)) first n counted more code match.many_are (names_of g.parameters) given (all_outer g.prefix (names_of g.parameters) (keys_plain setting)) (parameters_shown setting at_q match k known does tokens arm)
      (prefix_is (popped_arguments g first (count_of l)) ∙ some_named g (prefix_plain setting) (keys_plain setting) first n (count_of l) counted more (omega (arith, small)))
      (its_action setting at_q match k known does).function (its_action setting at_q match k known does).named cost (its_act setting at_q match k known does) (seen setting at_q match k known does, seen setting at_q match k known does) (acts_here setting at_q match k known does) (infallible setting at_q match k known does)
      (look_val look) match.result (shows_cut arm.cut match.look_shown) (look_set look) below match.result_there (seen setting at_q match k known does)

  -- without
  pub none_end : length production.symbols ≡ 0 → ArmEnds p (ascent_reduce shared (made setting at_q match k known does tokens arm) a.names (reduction_of g (layout g states q) production)).value m (1 + cost * (length (its_act setting at_q match k known does).calls + 1)) a.names.next shared.made false
      m.store.cells (m.calls ++ map as_user (its_act setting at_q match k known does).calls)
      (λ v. answer_val (variant (rule setting at_q match k known does).nonterminal) (place_of c (rule setting at_q match k known does)) v look) (its_act setting at_q match k known does).result
  none_end none =
      let l = layout g states q in
      let first = first_popped l production in
      let length_is = (rules setting at_q match k known does).length_is in
      let at_end : first ≡ count_of l = omega (arith, none) in
      let left : count_of l - first ≡ 0 = omega (arith, none) in
      let no_cells : cells_from l first ≡ [] = ap (λ (i : ℕ). filter (is_cell l) (range_with_len first i)) left in
      let code = subst (λ (i : ℕ). Coded p (made setting at_q match k known does tokens arm) (setting.code.maker q) a.names many (reduction_of g l production) (is_fallible g production) production.action (generic_names_text g) (popped_arguments g first (count_of l)) (variant (rule setting at_q match k known does).nonterminal) [] (popped_span g l i) (nat_lt 0 i)) none
      (subst (λ (js : List ℕ). Coded p (made setting at_q match k known does tokens arm) (setting.code.maker q) a.names many (reduction_of g l production) (is_fallible g production) production.action (generic_names_text g) (popped_arguments g first (count_of l)) (variant (rule setting at_q match k known does).nonterminal) js (popped_span g l (length production.symbols)) (nat_lt 0 (length production.symbols)))
      no_cells (its_code setting at_q match k known does tokens arm)) in
      let at = place_seen look c.triples in
      let same : seen setting at_q match k known does ≡ at = seen_is setting.over items variant match.on_top match.mending match.sees k known does match.own_are.fits in
      let no_length : (rule setting at_q match k known does).length ≡ 0 = length_is ∙ none in
      let bare : symbols setting at_q match k known does ≡ [] = ap (λ (i : ℕ). popped i c.triples) no_length ∙ popped_none c.triples in
      let where_is : (at, at) ≡ place_of c (rule setting at_q match k known does) = none_stands (symbols setting at_q match k known does) (seen setting at_q match k known does) at same bare in
      let acts : (n : Moment) → n.calls ≡ m.calls → Acts p (its_action setting at_q match k known does).function (arguments given [] (at, at)) (is_fallible g production) (its_act setting at_q match k known does) cost n = λ n calls.
      subst (λ (e : Loc). Acts p (its_action setting at_q match k known does).function (arguments given [] (e, e)) (is_fallible g production) (its_act setting at_q match k known does) cost n) same
      (subst (λ (xs : List (Spanned Value)). Acts p (its_action setting at_q match k known does).function (arguments given xs (seen setting at_q match k known does, seen setting at_q match k known does)) (is_fallible g production) (its_act setting at_q match k known does) cost n) bare (acts_here setting at_q match k known does n calls)) in
      subst (λ (e : Loc × Loc). ArmEnds p (ascent_reduce shared (made setting at_q match k known does tokens arm) a.names (reduction_of g l production)).value m (1 + cost * (length (its_act setting at_q match k known does).calls + 1)) a.names.next shared.made false m.store.cells (m.calls ++ map as_user (its_act setting at_q match k known does).calls)
      (λ v. result_of (look_val look) (wrapped (tag.Variant (variant (rule setting at_q match k known does).nonterminal)) (triple e.0 (Plain (Parsed v)) e.1))) (its_act setting at_q match k known does).result) where_is
      (none_ends p shared g m match.own_are (λ j v at. shows_cut arm.cut (match.shown.slots j v at)) (no_symbols setting.over q c match.on_top) code match.many_are look look_there (names_of g.parameters) given (all_outer g.prefix (names_of g.parameters) (keys_plain setting)) (parameters_shown setting at_q match k known does tokens arm)
      (prefix_is (popped_arguments g first (count_of l)) ∙ none_named g (prefix_plain setting) (keys_plain setting) first (count_of l) at_end)
      (its_action setting at_q match k known does).function (its_action setting at_q match k known does).named cost (its_act setting at_q match k known does) acts (infallible setting at_q match k known does) (shows_cut arm.cut match.look_shown) match.result below match.result_there)
