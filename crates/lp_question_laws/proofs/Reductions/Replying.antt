-- The field `reduce` of a program that answers by the tables: a program that runs the built module.
use Rattle.std.proofs.Common.{◌≡◌, ℕ, zero, suc, ◌+◌, ◌*◌, ◌-◌, ◌<◌, ◌≤◌, ◌^◌, ℤ, pos, Bool, true, false, ◌&&◌, max, List, [], ◌∷◌, ◌++◌, length, map, Option, Some, None, Result, Ok, Err, slice_get, refl, sym, ap, subst, ◌∙◌, arith, codes, append_assoc}
use Rattle.std.specs.BTreeMap.{values}
use Rattle.std.specs.Option.{option_map, option_and_then, unwrap_or}
use Rattle.std.specs.Str.{bytes_eq}
use Rattle.std.proofs.Math.Nat.{mul-le-mul_right}
use Rattle.std.proofs.lemmas.Bool.{ne_eqb}
use Rattle.std.proofs.lemmas.List.{length-map, map-append}
use Rattle.std.proofs.lemmas.Option.{slice_get_within}
use Rattle.lp_repr.specs.Numbering.{productions_of, number_or_count}
use Rattle.lp_repr.specs.declared.lr1.Lr1State.{Lr1State}
use Rattle.lp_repr.specs.declared.numbering.SymbolNumber.{SymbolNumber}
use Rattle.lp_repr.specs.declared.numbering.SymbolNumber.TheVariants as symbol
use Rattle.lp_repr.specs.declared.repr.Grammar.{Grammar}
use Rattle.lp_repr.specs.declared.repr.Production.{Production}
use Rattle.lp_repr.specs.declared.values.Loc.{Loc}
use Rattle.lp_driver.specs.DriverState.{last_of}
use Rattle.lp_driver.specs.Questions.{Reduce, Reduced, Said, Says}
use Rattle.lp_driver.specs.declared.answers.Expecting.{Expecting}
use Rattle.lp_driver.specs.Values.{Text, Spanned, Value, Failure, Ending, Gives, Fails}
use Rattle.lp_core.specs.declared.value.StateType.{StateType}
use Rattle.lp_core.specs.declared.value.Tag.TheVariants as tag
use Rattle.lp_core.specs.Datum.{Cell, Parsed}
use Rattle.lp_core.specs.Numbers.{number, typed}
use Rattle.lp_core.specs.Reading.{wrapped}
use Rattle.lp_core.specs.Store.{Held, States, Symbols, UserCall}
use Rattle.lp_core.specs.Val.{Val, Plain}
use Rattle.lp_machine.specs.declared.calls.Acted.{Acted}
use Rattle.lp_machine.specs.declared.calls.Call.{Call}
use Rattle.lp_machine.specs.declared.lookup.Rule.{Rule}
use Rattle.lp_machine.specs.ExpectedList.{goto_from}
use Rattle.lp_machine.specs.ReductionSpan as machine
use Rattle.lp_machine.specs.ReductionSpan.{below, popped, span}
use Rattle.lp_machine.specs.GrammarTables.{grammar_tables}
use Rattle.lp_machine.specs.Tables.{Tables}
use Rattle.lp_table.specs.Starts.{Start, state_text}
use Rattle.lp_table.specs.ReductionLines.{is_called}
use Rattle.lp_view.specs.PartLists.{Form}
use Rattle.lp_maker.specs.declared.methods.Methods.{Methods}
use Rattle.lp_maker.specs.Constructs.{called, take_slot}
use Rattle.lp_maker.specs.Slots.{Names, no_names}
use Rattle.lp_maker.specs.Texts.{state_type_of}
use Rattle.lp_bodies.specs.Source.{function}
use Rattle.lp_turns.specs.Asking.{Asking}
use Rattle.lp_turns.specs.declared.runner.Runner.{Runner}
use Rattle.lp_turns.specs.DriverCall.{program_answers, with_calls, or_stuck, state_value, reduce_on, reduced}
use Rattle.lp_turns.specs.Readings.{field_values, reduce_arguments, reduction_of, stacks_of}
use Rattle.lp_agrees.specs.Machine.{as_user}
use Rattle.lp_code_laws.specs.Ends.Ends.{Moment, Enter, Giving, EndsIn}
use Rattle.lp_question_laws.proofs.Gotos.Goto.{Counts}
use Rattle.lp_question_laws.proofs.Gotos.LinkTable.{machine_typed}
use Rattle.lp_question_laws.proofs.Gotos.StateTypes.{Numbers, numbers_of}
use Rattle.lp_turn_laws.specs.Paths.Over.{IsOver}
use Rattle.lp_turn_laws.specs.Paths.Standing.{IsReducible}
use Rattle.lp_turn_laws.specs.Paths.Walks.{IsPath}
use Rattle.lp_turn_laws.proofs.Paths.Over.{leads_on}
use Rattle.lp_turn_laws.proofs.Paths.Stacks.{path_length}
use Rattle.lp_turn_laws.specs.Alike.Answered.{Answered, IsResult, IsValued, acted_on, span_of}
use Rattle.lp_turn_laws.specs.Alike.Symbols.{AreAlike, Place, symbol_at, mine_at, value_at}
use Rattle.lp_turn_laws.specs.Asked.Runners.{Asks, left, seen, asking_over}
use Rattle.lp_turn_laws.proofs.Asked.Asked.{over_replies}
use Rattle.lp_question_laws.specs.Tables.Acts.{Acts, arguments}
use Rattle.lp_question_laws.specs.Tables.Symbols.{IsSymbol, IsVariant}
use Rattle.lp_question_laws.proofs.Tables.Built.{RunsBuilt, same_methods}
use Rattle.lp_question_laws.specs.Reductions.Outer.{IsOuter}
use Rattle.lp_question_laws.specs.Reductions.Arguments.{reads}
use Rattle.lp_question_laws.specs.Reductions.Premises.{AreCounted, ActionRuns, longest, reduction_cost}
use Rattle.lp_question_laws.specs.Reductions.Stacks.{over_two, Symbol, on_stack}
use Rattle.lp_question_laws.specs.Reductions.Outcomes.{symbols_after}
use Rattle.lp_question_laws.proofs.Reductions.Lasting.{outer_word}
use Rattle.lp_question_laws.proofs.Reductions.Keys.{AllOuter}
use Rattle.lp_question_laws.proofs.Reductions.Spans.{start_val}
use Rattle.lp_question_laws.proofs.Reductions.Bodies.{Line}
use Rattle.lp_question_laws.proofs.Reductions.Wholes.{items_of, place_of}
use Rattle.lp_question_laws.proofs.Reductions.Reducing.{answer_val, states_after, GoesTo, GoesIf}
use Rattle.lp_question_laws.proofs.Reductions.Parameters.{IsApart, AreKeys, Stand, bound_each, stand_behind, parameters_shown}
use Rattle.lp_question_laws.proofs.Reductions.Texts.{AllKeys, IsKey, IsPrefix, names_of}
use Rattle.lp_question_laws.proofs.Reductions.Forms.{line_of}
use Rattle.lp_question_laws.proofs.Reductions.Arming.{Production_of, Owned, start_set}
use Rattle.lp_question_laws.proofs.Reductions.Producing.{Produced, reduce_answers}
use Rattle.lp_question_laws.proofs.Reductions.Handing.{handed, emptied}
use Rattle.lp_question_laws.proofs.Reductions.Linked.{last, p, has_reduce, has_own, OwnRow}
use Rattle.lp_question_laws.proofs.Reductions.Going.{goes_to}
use Rattle.lp_question_laws.proofs.Reductions.Rules.{walk_range, left_small}
use Rattle.lp_question_laws.proofs.Reductions.Stacking.{symbol_of, items_are, mine_parted, AllRange, range_all, range_drop, variants_are, places_pop, popped_mapped, popped_length, place_alike, span_some, arguments_some, below_none}
use Rattle.lp_question_laws.proofs.Reductions.Infallible.{infallible_gives}
use Rattle.lp_question_laws.proofs.Reductions.Tops.{stands, length_is, action_is, fits, tops_are, starts_is, left_is}
use Rattle.lp_question_laws.proofs.Reductions.Field.{values_are, fields_are, ns, params, reduce_runs}

-- ---- names of parameters

key_apart : (prefix rest q : List ℕ) → IsKey prefix q → bytes_eq (126 ∷ rest) q ≡ false
key_apart prefix rest [] h = refl
key_apart prefix rest (c ∷ cs) h = ap (λ b. b && bytes_eq rest cs) (ne_eqb 126 c (λ e. h.no_mark.0 (sym e)))

all_apart : (prefix rest : List ℕ) (qs : List (List ℕ)) → AllKeys prefix qs → IsApart (126 ∷ rest) qs
all_apart prefix rest [] a = tt
all_apart prefix rest (q ∷ qs) a = (key_apart prefix rest q a.0, all_apart prefix rest qs a.1)

-- no line of a reduction binds them
key_outer : (prefix q : List ℕ) → IsKey prefix q → IsOuter q
key_outer prefix [] h = absurd (omega (arith, h.some))
key_outer prefix (c ∷ cs) h = outer_word c cs h.no_mark.0

pub all_outer : (prefix : List ℕ) (qs : List (List ℕ)) → AllKeys prefix qs → AllOuter qs
all_outer prefix [] a = tt
all_outer prefix (q ∷ qs) a = (key_outer prefix q a.0, all_outer prefix qs a.1)

pub keys_apart : (prefix : List ℕ) (qs : List (List ℕ)) → AllKeys prefix qs → AreKeys qs
keys_apart prefix qs a = record {
  outer = all_outer prefix qs a;
  action = all_apart prefix (codes "action") qs a;
  lookahead = all_apart prefix (codes "lookahead_start") qs a;
  states = all_apart prefix (codes "states") qs a;
  symbols = all_apart prefix (codes "symbols") qs a;
}

-- ---- what the call gives is read

ending_of : Bool → Result Value Failure → Option Ending
ending_of starts (Err f) = Some (Fails f)
ending_of true (Ok v) = Some (Gives v)
ending_of false (Ok v) = None

answer_read : (starts : Bool) (result : Result Value Failure) → reduction_of (answer_val starts result) ≡ Some (ending_of starts result)
unfolding ending_of
answer_read true (Ok v) = refl
answer_read true (Err f) = refl
answer_read false (Ok v) = refl
answer_read false (Err f) = refl

goes_when : (starts : Bool) (result : Result Value Failure) {A : Type 0} → (starts ≡ false → A) → GoesIf starts result A
goes_when true (Ok v) h = tt
goes_when true (Err f) h = tt
goes_when false (Ok v) h = h refl
goes_when false (Err f) h = tt

-- ---- costs

longest_is : (ps : List Production) (i : ℕ) (prod : Production) → slice_get ps i ≡ Some prod → length prod.symbols ≤ longest ps
longest_is [] i prod is = cc
longest_is (q ∷ ps) zero prod is = let same : q ≡ prod = cc in subst (λ (r : Production). length r.symbols ≤ max (length q.symbols) (longest ps)) same (omega arith)
longest_is (q ∷ ps) (suc i) prod is = let h = longest_is ps i prod is in omega (arith, h)

cost_most : (n most a k : ℕ) → n ≤ most → suc (n + 5 + a * (k + 1)) ≤ ((most + 6) + a) * (k + 1)
cost_most n most a k le = omega (arith, le)

-- ---- the field

-- nothing stands at one place
none_spans : (xs : List (Spanned Value)) (e : Loc) → length xs ≡ 0 → span xs e ≡ (e, e)
none_spans [] e is = refl
none_spans (x ∷ xs) e is = absurd (omega (arith, is))

module _ {prefix : List ℕ} {program : Form} {g : Grammar} {states : List Lr1State} {st : Start} {asked : Asking} {methods : Methods} (runs : RunsBuilt prefix program g states st asked methods) (same : prefix ≡ g.prefix) (plain : IsPrefix g.prefix) (keys : AllKeys g.prefix (names_of g.parameters))
    (start : ℕ) (expecting : Expecting) (given : List Text) (failing : List ℕ) (over : IsOver g start states (grammar_tables g states expecting given failing)) (st_at : slice_get (values g.start_nonterminals) start ≡ Some st.nonterminal) (counts : Counts g states) (counted : AreCounted g) (fields_so : asked.fields ≡ runs.fields) (closure : Option ℕ) (cost : ℕ)
    (actions : (i : ℕ) (prod : Production) → slice_get (productions_of g) i ≡ Some prod → ActionRuns (p runs) (last runs) g (grammar_tables g states expecting given failing) (params runs same keys) cost prod) where
  abbrev t : Tables
  t = grammar_tables g states expecting given failing

  abbrev Is : SymbolNumber → Val → Value → Type 0
  Is = IsSymbol g (last runs)

  abbrev ps : List Val
  ps = params runs same keys

  types : Numbers (state_text g states) (length states) (length (productions_of g))
  types = numbers_of (length states) (length (productions_of g)) counts.states_fit counts.productions_fit

  module _ (pn : ℕ) (rule : Rule) (stack : List ℕ) (places : List (Place Is)) (ahead : Option Loc) (calls : List Call) (is : t.rule pn ≡ Some rule) (r : IsReducible g states stack rule) (r_is : r.production ≡ pn) (path : IsPath states stack (map symbol_at places)) (d : Runner) (ready : Asks asked methods closure d)
      (seen_so : d.calls ≡ map as_user calls) where
    abbrev xs : List SymbolNumber
    xs = map symbol_at places

    abbrev mine : List (Spanned Val)
    mine = map mine_at places

    abbrev triples : List (Spanned Value)
    triples = map value_at places

    abbrev prod : Production
    prod = (stands over st st_at pn rule stack xs is r r_is path).production

    at_prod : slice_get (productions_of g) pn ≡ Some prod
    at_prod = (stands over st st_at pn rule stack xs is r r_is path).at

    long : rule.length ≡ length prod.symbols
    long = length_is over st st_at pn rule stack xs is r r_is path

    abbrev tops : List (Place Is)
    tops = popped rule.length places

    abbrev gone : List Symbol
    gone = map (symbol_of g (last runs)) tops

    abbrev low : List (Spanned Val)
    low = below rule.length mine

    within : rule.length ≤ length places
    within = omega (arith, fits over st st_at pn rule stack xs is r r_is path, length-map places symbol_at)

    many : length gone ≡ rule.length
    many = length-map tops (symbol_of g (last runs)) ∙ popped_length rule.length places within

    top_symbols : map symbol_at tops ≡ map (number_or_count g) prod.symbols
    top_symbols = sym (popped_mapped symbol_at rule.length places) ∙ tops_are over st st_at pn rule stack xs is r r_is path

    ranged : AllRange g (last runs) (map symbol_at tops)
    ranged =
        subst (AllRange g (last runs)) (popped_mapped symbol_at rule.length places)
        (range_drop g (last runs) (length xs - rule.length) xs (range_all g (last runs) xs (walk_range g start states over.tables 0 path.rest xs path.walks)))

    of_production : Production_of g st pn prod gone
    of_production = record {
      variants = variants_are g (last runs) tops prod.symbols top_symbols ranged;
      many = many ∙ long;
      small = omega (arith, many, long, counted.symbols pn prod at_prod);
      few = omega (arith, left_small g prod.nonterminal, counts.nonterminals_fit);
    }

    abbrev line : Line
    line = line_of g st prod (length gone)

    abbrev place : Loc
    place = machine.empty_place ahead triples

    abbrev acted : Acted
    acted = acted_on t rule ahead triples (length calls)

    items_same : items_of gone ≡ popped rule.length triples
    items_same = items_are g (last runs) tops ∙ sym (popped_mapped value_at rule.length places)

    -- where it stands
    low_none : length (items_of gone) ≡ 0 → low ≡ mine
    low_none none =
        let zero_length : rule.length ≡ 0 = omega (arith, none, many, length-map gone (λ (x : Symbol). x.item)) in
        ap (λ k. below k mine) zero_length ∙ below_none mine

    place_same : length (items_of gone) ≡ 0 → machine.empty_place ahead low ≡ place
    place_same none = ap (machine.empty_place ahead) (low_none none) ∙ place_alike ahead places

    span_same : place_of low ahead gone ≡ span_of rule ahead triples
    span_same = span_some (items_of gone) (machine.empty_place ahead low) place place_same ∙ ap (λ (l : List (Spanned Value)). span l place) items_same

    arguments_same : arguments ps (popped rule.length triples) (place, place) ≡ arguments ps (items_of gone) (place_of low ahead gone)
    arguments_same =
        ap (λ l. arguments ps l (place, place)) (sym items_same)
        ∙ arguments_some ps (items_of gone) (place, place) (place_of low ahead gone)
        (λ none. ap (λ (l : Loc). (l, l)) (sym (place_same none)) ∙ sym (none_spans (items_of gone) (machine.empty_place ahead low) none))

    -- its action
    abbrev action : ActionRuns (p runs) (last runs) g t ps cost prod
    action = actions pn prod at_prod

    calls_many : length d.calls ≡ length calls
    calls_many = ap length seen_so ∙ length-map calls as_user

    acted_same : t.act prod.action (popped rule.length triples) (place, place) (length d.calls) ≡ acted
    acted_same =
        ap (λ k. t.act prod.action (popped rule.length triples) (place, place) k) calls_many
        ∙ ap (λ a. t.act a (popped rule.length triples) (place, place) (length calls)) (sym (action_is over st st_at pn rule stack xs is r r_is path))

    popped_many : length (popped rule.length triples) ≡ length prod.symbols
    popped_many = ap length (sym items_same) ∙ length-map gone (λ (x : Symbol). x.item) ∙ many ∙ long

    acts : (now : List Val) → Acts (p runs) action.function (arguments ps (items_of gone) (place_of low ahead gone)) line.fallible acted cost (over_two now 0 d.calls (map pos stack) low)
    acts now =
        subst (λ (vs : List Val). Acts (p runs) action.function vs line.fallible acted cost (over_two now 0 d.calls (map pos stack) low)) arguments_same
        (subst (λ (a : Acted). Acts (p runs) action.function (arguments ps (popped rule.length triples) (place, place)) line.fallible a cost (over_two now 0 d.calls (map pos stack) low)) acted_same
        (action.acts (popped rule.length triples) (place, place) (over_two now 0 d.calls (map pos stack) low) popped_many))

    gives : line.fallible ≡ false → (v : Value) × (acted.result ≡ Ok v)
    gives e = let w = infallible_gives g states expecting given failing over.grammar prod e (popped rule.length triples) (place, place) (length d.calls) in (w.0, ap (λ (a : Acted). a.result) (sym acted_same) ∙ w.1)

    -- its goto
    abbrev next : List ℤ
    next = map pos (below rule.length stack ++ unwrap_or (goto_from t (last_of (below rule.length stack)) rule.nonterminal) 0 ∷ [])

    starts_same : line.starts ≡ rule.is_start
    starts_same = starts_is over st st_at pn rule stack xs is r r_is path

    goes : line.starts ≡ false → GoesTo (p runs) (last runs) types.kind (map pos stack) (length gone) line.nonterminal next
    goes e =
        let no_start : rule.is_start ≡ false = sym starts_same ∙ e in
        let m = leads_on over stack xs rule r path no_start in
        let w = goes_to runs start over.tables counts types t over.known stack rule.length rule.nonterminal m.to (omega (arith, path_length states stack xs path, m.fits)) m.goto in
        let here : GoesTo (p runs) (last runs) types.kind (map pos stack) rule.length rule.nonterminal next = subst (λ (to : ℕ). GoesTo (p runs) (last runs) types.kind (map pos stack) rule.length rule.nonterminal (map pos (below rule.length stack ++ to ∷ []))) (sym (ap (λ o. unwrap_or o 0) m.goto)) w in
        subst (λ (n : ℕ). GoesTo (p runs) (last runs) types.kind (map pos stack) n line.nonterminal next) (sym many)
        (subst (λ (k : ℕ). GoesTo (p runs) (last runs) types.kind (map pos stack) rule.length k next) (sym (left_is over st st_at pn rule stack xs is r r_is path no_start)) here)

    -- its own function, where it has one
    owned : is_called g st prod ≡ true → Owned (p runs) (last runs) g states st pn prod gone of_production plain keys (ns runs same keys) (fields_are runs same keys).agree (keys_apart g.prefix (names_of g.parameters) keys) ahead
    owned called =
        let small : pn < 2 ^ 64 = omega (arith, slice_get_within (productions_of g) pn prod at_prod, counts.productions_fit) in
        let o : OwnRow runs pn prod at_prod called small = has_own runs pn prod at_prod called small in
        record { function = o.number; named = o.named; maker = o.maker; same = o.same ∙ same; there = o.there; serves = o.serves }

    -- ---- the call

    abbrev kind : StateType
    kind = types.kind

    abbrev production_val : Val
    production_val = number kind (pos pn)

    abbrev known : Names
    known = bound_each no_names (names_of g.parameters)

    abbrev code : slice_get (p runs).functions methods.reduce ≡ Some (function (length ps + 4) 0 (called (reads known (names_of g.parameters) ++ take_slot (length ps) ∷ take_slot (length ps + 1) ∷ take_slot (length ps + 2) ∷ take_slot (length ps + 3) ∷ []) (Some (has_reduce runs).number)))
    code = reduce_runs runs same keys (has_reduce runs)

    abbrev inner : List Val
    inner = emptied (p runs) methods.reduce (has_reduce runs).number known (names_of g.parameters) ps production_val (start_val ahead) (Plain (Cell 0)) (Plain (Cell 1)) refl (start_set ahead) refl refl code

    produced : Produced (p runs) (last runs) g states st pn prod gone of_production plain keys (ns runs same keys) (fields_are runs same keys).agree (keys_apart g.prefix (names_of g.parameters) keys) ahead 0 d.calls (map pos stack) next low action.function cost acted action.named gives acts (places_pop runs counted.variants tops ranged) (has_reduce runs).number inner kind
    produced =
        let h = has_reduce runs in
        reduce_answers (p runs) (last runs) g states st pn prod gone of_production plain keys (ns runs same keys) (fields_are runs same keys).agree (keys_apart g.prefix (names_of g.parameters) keys) ahead 0 d.calls (map pos stack) next low action.function cost acted action.named gives acts (places_pop runs counted.variants tops ranged)
        kind h.maker h.number inner (h.same ∙ same) h.knows types.read at_prod (omega (arith, counts.productions_fit)) h.there h.serves owned (goes_when line.starts acted.result goes)

    abbrev later : List UserCall
    later = d.calls ++ map as_user acted.calls

    abbrev states_then : List ℤ
    states_then = states_after line.starts acted.result (map pos stack) next

    abbrev symbols_then : List (Spanned Val)
    symbols_then = symbols_after line.starts acted.result produced.variant (place_of low ahead gone) low

    abbrev arguments_are : List Val
    arguments_are = ps ++ production_val ∷ start_val ahead ∷ Plain (Cell 0) ∷ Plain (Cell 1) ∷ []

    -- the method
    method_ends : EndsIn (p runs) (Enter methods.reduce arguments_are) (over_two [] 0 d.calls (map pos stack) mine) (suc produced.answers.many) (Giving (answer_val line.starts acted.result) (over_two [] 0 later states_then symbols_then))
    method_ends =
        let qs = names_of g.parameters in
        let rest = production_val ∷ start_val ahead ∷ Plain (Cell 0) ∷ Plain (Cell 1) ∷ [] in
        let shown = parameters_shown (arguments_are ++ []) qs (ns runs same keys) no_names (fields_are runs same keys).agree (subst (λ (e : List Val). Stand 0 ps e) (sym (append_assoc ps rest [])) (stand_behind [] ps (rest ++ []) 0 refl)) in
        subst (λ (l : List (Spanned Val)). EndsIn (p runs) (Enter methods.reduce arguments_are) (over_two [] 0 d.calls (map pos stack) l) (suc produced.answers.many) (Giving (answer_val line.starts acted.result) (over_two [] 0 later states_then symbols_then))) (mine_parted g (last runs) rule.length places)
        (handed (p runs) methods.reduce (has_reduce runs).number known qs ps production_val (start_val ahead) (Plain (Cell 0)) (Plain (Cell 1)) refl (start_set ahead) refl refl code 0 d.calls later (map pos stack) states_then (low ++ map on_stack gone) symbols_then [] produced.answers.many (answer_val line.starts acted.result) shown produced.answers.ends)

    -- ---- the answer

    abbrev answer_of : Bool → Result Value Failure → Reduced Val
    answer_of starts result = record { states = states_after starts result (map pos stack) next; symbols = symbols_after starts result produced.variant (place_of low ahead gone) low; ending = ending_of starts result }

    abbrev Good : Bool → Result Value Failure → Type 0
    Good starts (Ok v) = IsValued Is t rule stack mine (span_of rule ahead triples) v (answer_of starts (Ok v)) starts
    Good starts (Err f) = ending_of starts (Err f) ≡ Some (Fails f)

    number_known : line.starts ≡ false → IsVariant g (last runs) (symbol.Nonterminal rule.nonterminal) produced.variant
    number_known e =
        subst (λ (n : ℕ). IsVariant g (last runs) (symbol.Nonterminal n) produced.variant) (left_is over st st_at pn rule stack xs is r r_is path (sym starts_same ∙ e)) (produced.numbered e)

    is_good : (starts : Bool) (result : Result Value Failure) → line.starts ≡ starts → Good starts result
    unfolding ending_of
    is_good true (Ok v) e = refl
    is_good true (Err f) e = refl
    is_good false (Err f) e = refl
    is_good false (Ok v) e = record {
      ending = refl;
      symbol = wrapped (tag.Variant produced.variant) (Plain (Parsed v));
      is = record { number = produced.variant; variant = number_known e; holds = refl };
      states = λ to go. ap (λ o. map pos (below rule.length stack ++ unwrap_or o 0 ∷ [])) go;
      symbols = ap (λ (q : Loc × Loc). low ++ (q.0, wrapped (tag.Variant produced.variant) (Plain (Parsed v)), q.1) ∷ []) span_same;
    }

    good_is : (result : Result Value Failure) → Good line.starts result → IsResult Is t rule stack mine (span_of rule ahead triples) result (answer_of line.starts result)
    good_is (Ok v) h = subst (λ (b : Bool). IsValued Is t rule stack mine (span_of rule ahead triples) v (answer_of line.starts (Ok v)) b) starts_same h
    good_is (Err f) h = h

    state_known : state_value d (pos pn) ≡ Some production_val
    state_known =
        let fits_so = types.rules pn (omega (arith, slice_get_within (productions_of g) pn prod at_prod)) in
        let typed_is : d.methods.state_type ≡ Some kind = ap (λ (m : Methods). m.state_type) (ready.by ∙ sym (same_methods runs)) ∙ ap state_type_of (machine_typed g states st) ∙ types.read in
        ap (λ (o : Option StateType). option_and_then (λ (k : StateType). typed k (pos pn)) o) typed_is ∙ ap (option_map (number kind)) fits_so.fits

    fields_known : field_values [] d.asked.fields ≡ Some ps
    fields_known = ap (field_values []) (ap (λ (a : Asking). a.fields) ready.program ∙ fields_so ∙ (fields_are runs same keys).are) ∙ values_are [] (ns runs same keys)

    arguments_so : reduce_arguments ps production_val ahead ≡ arguments_are
    arguments_so =
        let a = production_val in
        let b = start_val ahead in
        let c = Plain (Cell 0) in
        append_assoc ((ps ++ a ∷ []) ++ b ∷ []) (c ∷ []) (Plain (Cell 1) ∷ []) ∙ append_assoc (ps ++ a ∷ []) (b ∷ []) (c ∷ Plain (Cell 1) ∷ []) ∙ append_assoc ps (a ∷ []) (b ∷ c ∷ Plain (Cell 1) ∷ [])

    cost_fits : (total : ℕ) → reduction_cost g cost ≤ total → suc produced.answers.many ≤ total * (length acted.calls + 1)
    cost_fits total le =
        let k = length acted.calls in
        let n = longest_is (productions_of g) pn prod at_prod in
        let one = cost_most (length gone) (longest (productions_of g)) cost k (omega (arith, n, many, long)) in
        let two = mul-le-mul_right (k + 1) le in
        omega (arith, one, two, produced.answers.few)

    abbrev Wanted : Reduced Val → Type 0
    Wanted x = IsResult Is t rule stack mine (span_of rule ahead triples) acted.result x

    pub places_reduced : (total : ℕ) → reduction_cost g cost ≤ total → Answered left seen (Asks asked methods closure) d (total * (length acted.calls + 1)) (map as_user (calls ++ acted.calls)) Wanted (program_answers (Reduce (pos pn) ahead (map pos stack) mine) d)
    places_reduced total le =
        let cells : List Held = States (map pos stack) ∷ Symbols mine ∷ [] in
        let v = answer_val line.starts acted.result in
        let x = answer_of line.starts acted.result in
        let m : Moment = over_two [] 0 later states_then symbols_then in
        let ends : EndsIn d.asked.program (Enter d.methods.reduce arguments_are) (asking_over cells d) (suc produced.answers.many) (Giving v m) =
        subst (λ (a : Asking). EndsIn a.program (Enter d.methods.reduce arguments_are) (asking_over cells d) (suc produced.answers.many) (Giving v m)) (sym ready.program)
        (subst (λ (ms : Methods). EndsIn (p runs) (Enter ms.reduce arguments_are) (asking_over cells d) (suc produced.answers.many) (Giving v m)) (sym ready.by) method_ends) in
        let go : Val × List Held → Runner → Said (Reduced Val) Runner = λ r d'. or_stuck (stacks_of r.1) d' (λ stacks. or_stuck (reduction_of r.0) d' (λ ending. Says (reduced stacks ending) d')) in
        let called : map as_user (calls ++ acted.calls) ≡ later = map-append as_user calls acted.calls ∙ ap (λ l. l ++ map as_user acted.calls) (sym seen_so) in
        let answered = over_replies asked methods closure d.methods.reduce arguments_are cells d go (map as_user (calls ++ acted.calls)) (total * (length acted.calls + 1)) Wanted (suc produced.answers.many) v m x ready ends (sym called)
        (λ n. ap (λ o. or_stuck o (with_calls d m.calls n) (λ ending. Says (reduced (states_then, symbols_then) ending) (with_calls d m.calls n))) (answer_read line.starts acted.result)) (good_is acted.result (is_good line.starts acted.result refl)) (cost_fits total le) in
        let question : program_answers (Reduce (pos pn) ahead (map pos stack) mine) d ≡ reduce_on arguments_are (map pos stack) mine d =
        ap (λ o. or_stuck o d (λ fields. or_stuck (state_value d (pos pn)) d (λ v. reduce_on (reduce_arguments fields v ahead) (map pos stack) mine d))) fields_known
        ∙ ap (λ o. or_stuck o d (λ v. reduce_on (reduce_arguments ps v ahead) (map pos stack) mine d)) state_known
        ∙ ap (λ vs. reduce_on vs (map pos stack) mine d) arguments_so in
        subst (Answered left seen (Asks asked methods closure) d (total * (length acted.calls + 1)) (map as_user (calls ++ acted.calls)) Wanted) (sym question) answered

  -- the field `reduce` of `AnswersBy`
  pub reduce_field : (total : ℕ) → reduction_cost g cost ≤ total → (pn : ℕ) (rule : Rule) (stack : List ℕ) (xs : List SymbolNumber) (mine : List (Spanned Val)) (triples : List (Spanned Value)) (ahead : Option Loc) (calls : List Call)
      → t.rule pn ≡ Some rule → (r : IsReducible g states stack rule) → r.production ≡ pn → IsPath states stack xs → AreAlike Is xs mine triples → (d : Runner) → Asks asked methods closure d → seen d ≡ map as_user calls
      → (let acted = acted_on t rule ahead triples (length calls) in
      Answered left seen (Asks asked methods closure) d (total * (length acted.calls + 1)) (map as_user (calls ++ acted.calls)) (λ x. IsResult Is t rule stack mine (span_of rule ahead triples) acted.result x)
      (program_answers (Reduce (pos pn) ahead (map pos stack) mine) d))
  reduce_field total le pn rule stack _ _ theirs ahead calls is r r_is path alike d ready seen_so =
      let Told : List (Spanned Val) → List (Spanned Value) → Type 0 = λ (own : List (Spanned Val)) (values_of : List (Spanned Value)).
      (let acted = acted_on t rule ahead values_of (length calls) in
      Answered left seen (Asks asked methods closure) d (total * (length acted.calls + 1)) (map as_user (calls ++ acted.calls)) (λ x. IsResult Is t rule stack own (span_of rule ahead values_of) acted.result x)
      (program_answers (Reduce (pos pn) ahead (map pos stack) own) d)) in
      let here = places_reduced pn rule stack alike.places ahead calls is r r_is (subst (IsPath states stack) alike.symbols path) d ready seen_so total le in
      subst (λ (own : List (Spanned Val)). Told own theirs) (sym alike.own) (subst (λ (vs : List (Spanned Value)). Told (map mine_at alike.places) vs) (sym alike.values) here)
