-- The built module answers each question by the tables, where it answers those about items, tokens, expected lists and reductions.
use Rattle.std.proofs.Common.{◌≡◌, ℕ, ◌+◌, ◌*◌, ◌<◌, ◌≤◌, pos, Bool, true, false, List, ◌++◌, length, map, All, Option, Some, None, refl, subst, arith}
use Rattle.std.specs.Prelude.{cond, nat_lt, position}
use Rattle.std.specs.List.{position_or_len}
use Rattle.std.specs.Str.{bytes_eq}
use Rattle.std.proofs.lemmas.Bool.{ltb-true}
use Rattle.std.proofs.lemmas.Option.{same_Some}
use Rattle.lp_repr.specs.Numbering.{productions_of, terminals_of}
use Rattle.lp_repr.specs.ValidTables.{IsValidTables}
use Rattle.lp_repr.specs.declared.lr1.Lr1State.{Lr1State}
use Rattle.lp_repr.specs.declared.numbering.SymbolNumber.{SymbolNumber}
use Rattle.lp_repr.specs.declared.numbering.SymbolNumber.TheVariants as by_number
use Rattle.lp_repr.specs.declared.repr.Grammar.{Grammar}
use Rattle.lp_repr.specs.declared.values.Loc.{Loc}
use Rattle.lp_repr.specs.declared.values.RunItem.{RunItem}
use Rattle.lp_driver.specs.Questions.{To_triple, Token_to_index, Token_to_symbol, Expected, Reduce}
use Rattle.lp_driver.specs.Values.{Text, Token, Spanned, Value}
use Rattle.lp_driver.specs.declared.answers.Expecting.TheVariants.{Trial}
use Rattle.lp_core.specs.declared.expr.Table.{Table}
use Rattle.lp_core.specs.Val.{Val}
use Rattle.lp_machine.specs.GrammarTables.{grammar_tables, known_among}
use Rattle.lp_machine.specs.TableAnswers.{located_item}
use Rattle.lp_machine.specs.Tables.{Tables}
use Rattle.lp_machine.specs.declared.calls.Call.{Call}
use Rattle.lp_machine.specs.declared.lookup.KnownTerminal.{KnownTerminal}
use Rattle.lp_machine.specs.declared.lookup.Rule.{Rule}
use Rattle.lp_maker.specs.declared.methods.Methods.{Methods}
use Rattle.lp_maker.specs.Making.{entries_of}
use Rattle.lp_turns.specs.Asking.{Asking}
use Rattle.lp_turns.specs.declared.runner.Runner.{Runner}
use Rattle.lp_turns.specs.DriverCall.{program_answers}
use Rattle.lp_valid.specs.ValidGrammar.{IsValidGrammar}
use Rattle.lp_view.specs.PartLists.{Form}
use Rattle.lp_table.specs.Starts.{Start}
use Rattle.lp_run.specs.RunTold.{IsCounted}
use Rattle.lp_turn_laws.specs.Paths.Standing.{IsOnPath, IsReducible}
use Rattle.lp_turn_laws.specs.Paths.Walks.{IsPath}
use Rattle.lp_turn_laws.specs.Alike.Answered.{Answered, IsResult, Listed, MendsBy, acted_on, span_of}
use Rattle.lp_turn_laws.specs.Alike.Symbols.{AreAlike}
use Rattle.lp_turn_laws.specs.Asked.Runners.{Asks, left, seen}
use Rattle.lp_agrees.specs.Machine.{as_user}
use Rattle.lp_question_laws.proofs.Gotos.GotoAnswered.{built_items}
use Rattle.lp_question_laws.proofs.Gotos.LinkModule.{complete}
use Rattle.lp_question_laws.specs.Tables.Symbols.{IsSymbol}
use Rattle.lp_question_laws.proofs.Tables.Built.{RunsBuilt, recovery_answered, start_location_answered, start_state_answered}
use Rattle.lp_question_laws.proofs.Tables.Fields.{action_field, eof_field}
use Rattle.lp_question_laws.proofs.Tables.Terminals.{known_few}
use Rattle.lp_agreement.proofs.Composed.Counts.{entries_fit, terminals_fit}
use Rattle.lp_agreement.proofs.Composed.Runs.{asked_on, built_module, own_methods, runs_built}
use Rattle.lp_agreement.proofs.Composed.Told.{AnswersBuilt, IsKnown}
use Rattle.lp_agreement.proofs.Composed.TwoStates.{two_states}

-- the questions about items, tokens, expected lists and reductions are answered by these tables, and those that are asked while an error is mended
pub record AnswersRest (asked : Asking) (methods : Methods) (closure : Option ℕ) (g : Grammar) (states : List Lr1State) (t : Tables) (Is : SymbolNumber → Val → Value → Type 0) (Known : Token → Type 0) (cost : ℕ) : Type 0 where
  pub to_triple : (item : RunItem) (d : Runner) → Asks asked methods closure d → Answered left seen (Asks asked methods closure) d cost (seen d) (λ x. x ≡ located_item t.is_located item) (program_answers (To_triple item) d)
  pub token_to_index : (token : Token) → Known token → (d : Runner) → Asks asked methods closure d → Answered left seen (Asks asked methods closure) d cost (seen d) (λ x. x ≡ t.terminal token) (program_answers (Token_to_index token) d)
  pub token_to_symbol : (token : Token) (i : ℕ) → Known token → t.terminal token ≡ Some i → (d : Runner) → Asks asked methods closure d
      → Answered left seen (Asks asked methods closure) d cost (seen d) (λ x. Is (by_number.Terminal i) x (t.value i token)) (program_answers (Token_to_symbol i token) d)
  pub expected : (stack : List ℕ) → IsOnPath states stack → (d : Runner) → Asks asked methods closure d → Listed left seen t cost stack d (program_answers (Expected (map pos stack)) d)
  pub reduce : (p : ℕ) (rule : Rule) (stack : List ℕ) (xs : List SymbolNumber) (mine : List (Spanned Val)) (triples : List (Spanned Value)) (start : Option Loc) (calls : List Call)
      → t.rule p ≡ Some rule → (r : IsReducible g states stack rule) → r.production ≡ p → IsPath states stack xs → AreAlike Is xs mine triples → (d : Runner) → Asks asked methods closure d → seen d ≡ map as_user calls
      → (let acted = acted_on t rule start triples (length calls) in
      Answered left seen (Asks asked methods closure) d (cost * (length acted.calls + 1)) (map as_user (calls ++ acted.calls)) (λ x. IsResult Is t rule stack mine (span_of rule start triples) acted.result x)
      (program_answers (Reduce (pos p) start (map pos stack) mine) d))
  pub mending : (e : ℕ) → t.error ≡ Some e → MendsBy program_answers left seen (Asks asked methods closure) g states t Is cost e

-- ---- numbers of terminals
place_within : {X : Type 0} (test : X → Bool) (xs : List X) (i : ℕ) → position test xs ≡ Some i → i < length xs
place_within test xs i = by (position_or_len test xs) (length xs)
  where
    by : (n len : ℕ) → cond (nat_lt n len) (Some n) None ≡ Some i → i < len
    by n len is = on (nat_lt n len) refl is
      where
        on : (b : Bool) → nat_lt n len ≡ b → cond b (Some n) None ≡ Some i → i < len
        on true e is = subst (λ (k : ℕ). k < len) (same_Some n i is) (ltb-true n len e)
        on false e is = cc

-- a token's terminal is one of the grammar's
terminal_within : (g : Grammar) (states : List Lr1State) (params : List Text) (failing : List ℕ) (token : Token) (i : ℕ) → (grammar_tables g states Trial params failing).terminal token ≡ Some i → i < length (terminals_of g)
terminal_within g states params failing token i is =
    let known = known_among g g.terminals.all in
    let few = known_few g g.terminals.all in
    let lt : i < length known = place_within (λ (k : KnownTerminal). bytes_eq k.form token.form) known i is in
    omega (arith, few, lt)

-- ---- all questions
-- over each choice of its tables, the built module answers those questions
abbrev pub AnswersRestBuilt : List ℕ → Form → (g : Grammar) → List Lr1State → Start → List RunItem → List Text → List ℕ → ℕ → Type 0
AnswersRestBuilt prefix program g states st items params failing cost =
    (tables : List Table) → map entries_of tables ≡ (built_module prefix program g states st).tables → All IsCounted tables
    → AnswersRest (asked_on prefix program g states st tables items params failing) (own_methods prefix program g states st) (built_module prefix program g states st).closure g states
    (grammar_tables g states Trial params failing) (IsSymbol g (complete prefix program (built_items g states st))) (IsKnown g) cost

module _ (prefix : List ℕ) (program : Form) (g : Grammar) (start : ℕ) (states : List Lr1State) (st : Start) (valid : IsValidGrammar g) (tabled : IsValidTables g start states) (begins : start < length g.start_nonterminals.entries)
    (states_few : length states ≤ 2147483647) (productions_few : length (productions_of g) ≤ 2147483647) (items : List RunItem) (params : List Text) (failing : List ℕ) (cost : ℕ) (some : 2 ≤ cost) where
  -- then it answers all
  pub answers_all : AnswersRestBuilt prefix program g states st items params failing cost → AnswersBuilt prefix program g states st items params failing cost
  answers_all rest tables same all =
      let methods = own_methods prefix program g states st in
      let closure = (built_module prefix program g states st).closure in
      let runs : RunsBuilt prefix program g states st (asked_on prefix program g states st tables items params failing) methods = runs_built prefix program g states st tables items params failing same in
      let r = rest tables same all in
      let counted = entries_fit prefix program g states st tables items params failing same all in
      let terminals = terminals_fit (length (terminals_of g)) states (two_states g valid start states tabled begins) counted in
      record {
        to_triple = r.to_triple;
        start_location = λ d h. start_location_answered runs closure d h cost (omega (arith, some));
        start_state = λ d h. start_state_answered runs closure d h cost (omega (arith, some)) states_few productions_few;
        token_to_index = r.token_to_index;
        action = λ stack q token i path top known is d h. action_field g start states tabled tabled.some_state states_few productions_few runs closure cost some (omega (arith, terminals)) counted stack q i path top (terminal_within g states params failing token i is) d h;
        eof_action = λ stack q path top d h. eof_field g start states tabled tabled.some_state states_few productions_few runs closure cost some stack q path top d h;
        token_to_symbol = r.token_to_symbol;
        uses_recovery = λ d h. recovery_answered runs closure d h cost (omega (arith, some)) valid;
        expected = r.expected;
        reduce = r.reduce;
        mending = r.mending;
      }
