-- A program that runs the built module has the functions that an expected list is made by.
use Rattle.std.proofs.Common.{◌≡◌, ◌+◌, ◌*◌, ℕ, zero, suc, ◌<◌, ◌≤◌, ◌^◌, pos, Bool, false, true, List, [], ◌∷◌, ◌++◌, length, map, Option, Some, refl, sym, ap, ◌∙◌, subst, arith, codes}
use Rattle.std.specs.Prelude.{slice_get}
use Rattle.std.specs.BTreeMap.{get, values}
use Rattle.std.specs.List.{flat_map}
use Rattle.std.proofs.lemmas.List.{length-map}
use Rattle.std.proofs.lemmas.List.Concat.{flat_map-cons}
use Rattle.std.proofs.lemmas.Option.{slice_get_within}
use Rattle.lp_repr.specs.NameOrder.{terminal_cmp}
use Rattle.lp_repr.specs.Numbering.{productions_of, terminals_of}
use Rattle.lp_repr.specs.Shown.{terminal_text}
use Rattle.lp_repr.specs.ValidTables.{IsValidTables}
use Rattle.lp_repr.specs.declared.lr1.Lr1State.{Lr1State}
use Rattle.lp_repr.specs.declared.lr1.Token.TheVariants as lr
use Rattle.lp_repr.specs.declared.repr.Grammar.{Grammar}
use Rattle.lp_repr.specs.declared.repr.TerminalString.{TerminalString}
use Rattle.lp_repr.specs.declared.repr.TerminalString.TheVariants.{Quoted, Bare, Error}
use Rattle.lp_core.specs.declared.expr.Function.{Function}
use Rattle.lp_core.specs.declared.value.StateType.{StateType}
use Rattle.lp_core.specs.Numbers.{number, fitting}
use Rattle.lp_core.specs.Val.{Val}
use Rattle.lp_driver.specs.Questions.{Expected, Says}
use Rattle.lp_driver.specs.Values.{Text}
use Rattle.lp_driver.specs.declared.answers.Expecting.TheVariants.{Trial}
use Rattle.lp_machine.specs.declared.lookup.KnownTerminal.{KnownTerminal}
use Rattle.lp_machine.specs.declared.lookup.Rule.{Rule}
use Rattle.lp_machine.specs.GrammarTables.{grammar_tables, is_error, known_among}
use Rattle.lp_machine.specs.Tables.{Tables}
use Rattle.lp_maker.specs.declared.methods.Methods.{Methods}
use Rattle.lp_maker.specs.Making.{number_in}
use Rattle.lp_parts.specs.Entries.{action_entries}
use Rattle.lp_table.specs.MachineLines.{acceptance, expected_list}
use Rattle.lp_table.specs.Starts.{Start}
use Rattle.lp_table.specs.TableLines.{terminal_name}
use Rattle.lp_turns.specs.Asking.{Asking}
use Rattle.lp_turns.specs.declared.runner.Runner.{Runner}
use Rattle.lp_turns.specs.DriverCall.{program_answers}
use Rattle.lp_valid.specs.ValidGrammar.{IsValidGrammar}
use Rattle.lp_view.specs.PartLists.{Form}
use Rattle.lp_turn_laws.specs.Alike.Answered.{Listed, Leaves}
use Rattle.lp_turn_laws.specs.Asked.Runners.{Asks, left, seen}
use Rattle.lp_turn_laws.specs.Paths.Over.{IsOver}
use Rattle.lp_turn_laws.specs.Paths.Standing.{IsOnPath}
use Rattle.lp_turn_laws.proofs.Paths.MachineRules.{agree}
use Rattle.lp_turn_laws.proofs.Paths.Over.{is_over}
use Rattle.lp_turn_laws.proofs.Paths.Reductions.{at_within}
use Rattle.lp_question_laws.proofs.Gotos.Goto.{Counts, found}
use Rattle.lp_question_laws.proofs.Gotos.GotoAnswered.{built_items}
use Rattle.lp_question_laws.proofs.Gotos.LinkHeaders.{IsWordy}
use Rattle.lp_question_laws.proofs.Gotos.LinkMaps.{get_more}
use Rattle.lp_question_laws.proofs.Gotos.LinkModule.{all_extends, row_made}
use Rattle.lp_question_laws.proofs.Gotos.LinkTable.{acceptance_declared, expected_declared, items_driven}
use Rattle.lp_question_laws.proofs.Gotos.LinkTerminals.{AreNamed, named_more, terminals_made}
use Rattle.lp_question_laws.proofs.Gotos.Simulate.{AllSmall, reductions}
use Rattle.lp_question_laws.proofs.Tables.Built.{RunsBuilt, is_made, last, method_runs}
use Rattle.lp_question_laws.proofs.Tables.Fields.{top_within}
use Rattle.lp_question_laws.proofs.Tables.Fits.{entry_fits}
use Rattle.lp_question_laws.proofs.Tables.Methods.{expected_method, method_there}
use Rattle.lp_question_laws.proofs.Tokens.Known.{IsKnown, known_first, never_known, other_known}
use Rattle.lp_question_laws.proofs.Tables.Errors.{the_error}
use Rattle.lp_question_laws.proofs.Tables.Terminals.{known_few}
use Rattle.lp_question_laws.proofs.Expected.Lines.{GivesAtOnce, less}
use Rattle.lp_question_laws.proofs.Expected.Listed.{look_cost, expected_listed, expected_left}
use Rattle.lp_question_laws.proofs.Expected.Lists.{HasTrials, expected_code, hands_on_code}
use Rattle.lp_question_laws.proofs.Expected.Accepts.{accepts_code, keep_code}
use Rattle.lp_question_laws.proofs.Expected.LookUps.{HasRow, has_row, action_row, goto_row, simulation_row, types_of, action_gives, goto_gives, simulation_gives}
use Rattle.lp_question_laws.proofs.Expected.Printed.{accepts_is, closure_is, expected_is}
use Rattle.lp_question_laws.proofs.Expected.Rules.{is_of, simulated_is}
use Rattle.lp_question_laws.proofs.Expected.Verdicts.{HasLookUps}

-- ---- names
name_of : (t : TerminalString) → is_error t ≡ false → terminal_name t ≡ terminal_text t ∷ []
name_of (Quoted s) e = refl
name_of (Bare s) e = refl
name_of Error e = absurd (let bad : true ≡ false = e in cc)

-- the error terminal has none
no_name : (t : TerminalString) → is_error t ≡ true → terminal_name t ≡ []
no_name t e = ap terminal_name (the_error t e)

-- the printed names are those of the machine
pub names_are : (g : Grammar) (ts : List TerminalString) → ((k : ℕ) (t : TerminalString) → slice_get ts k ≡ Some t → is_error t ≡ false → IsKnown g t) → flat_map terminal_name ts ≡ map (λ (k : KnownTerminal). k.name) (known_among g ts)
names_are g [] known = refl
names_are g (t ∷ ts) known = flat_map-cons terminal_name t ts ∙ by (is_error t) refl (names_are g ts (λ k. known (suc k)))
  where
    named : List KnownTerminal → List Text
    named = map (λ (k : KnownTerminal). k.name)

    by : (b : Bool) → is_error t ≡ b → flat_map terminal_name ts ≡ named (known_among g ts) → terminal_name t ++ flat_map terminal_name ts ≡ named (known_among g (t ∷ ts))
    by false e rest =
        ap (λ (l : List Text). l ++ flat_map terminal_name ts) (name_of t e)
        ∙ ap (λ (l : List Text). terminal_text t ∷ l) rest
        ∙ sym (ap named (known_first g t ts (known 0 t refl e)))
    by true e rest =
        ap (λ (l : List Text). l ++ flat_map terminal_name ts) (no_name t e)
        ∙ rest
        ∙ sym (ap (λ (ks : List KnownTerminal). named (ks ++ known_among g ts)) (never_known t (get terminal_cmp g.conversions t) e))

module _ {g : Grammar} {start : ℕ} {states : List Lr1State} (grammar : IsValidGrammar g) (valid : IsValidTables g start states) (starts : start < length g.start_nonterminals.entries)
    (params : List Text) (failing : List ℕ) {prefix : List ℕ} {program : Form} {st : Start} {asked : Asking} {methods : Methods} (runs : RunsBuilt prefix program g states st asked methods)
    (same : prefix ≡ g.prefix) (w : IsWordy g.prefix) (begins : slice_get (values g.start_nonterminals) start ≡ Some st.nonterminal) (counts : Counts g states) (small : AllSmall (reductions g states st))
    (terminals_fit : length (terminals_of g) < 2 ^ 64) (entries_fit_all : length (action_entries (length (terminals_of g)) states) < 2 ^ 64) where
  abbrev t : Tables
  t = grammar_tables g states Trial params failing

  over : IsOver g start states t
  over = is_over g start states Trial params failing grammar valid starts

  abbrev kind : StateType
  kind = (types_of g states counts).kind

  as_many : length t.names ≤ length (terminals_of g)
  as_many = omega (arith, length-map (known_among g (terminals_of g)) (λ (k : KnownTerminal). k.name), known_few g (terminals_of g))

  -- the tables' productions have numbers of the printed type
  production_number : (n : ℕ) (rule : Rule) → t.rule n ≡ Some rule → n < length (productions_of g)
  production_number n rule is =
      let o = is_of g grammar n _ (agree g grammar n rule (sym (over.known.rule n) ∙ is)).at in
      slice_get_within (productions_of g) n o.production o.at

  one_less_fits : (n : ℕ) → n < length (productions_of g) → fitting kind (less n) ≡ Some (less n)
  one_less_fits zero lt = ((types_of g states counts).rules 0 (omega arith)).fits
  one_less_fits (suc n) lt = (types_of g states counts).entries n (omega arith)

  -- the functions that a trial asks
  looks_up : HasLookUps asked.program kind states t (action_row runs).row.number (simulation_row runs).row.number (goto_row runs).row.number
  looks_up = record {
    holds = λ stack q path top. (let lt = top_within g start states valid valid.some_state stack q path top in ((types_of g states counts).holds q (omega arith)).fits);
    acts = λ stack q i path top below.
        (let lt = top_within g start states valid valid.some_state stack q path top in
        let s = at_within states q lt in
        let few : i < length (terminals_of g) = omega (arith, below, as_many) in
        action_gives runs kind (types_of g states counts).read q i s.0 s.1 few terminals_fit entries_fit_all (entry_fits g start states valid (types_of g states counts) q s.0 s.1 (lr.Terminal i)));
    numbers = λ n rule is. (let lt = production_number n rule is in (one_less_fits n lt, ((types_of g states counts).rules n (omega arith)).fits));
    simulates = λ stack q i n rule path top is at.
        (let s = simulated_is over st begins stack q i n rule path top is at in
        subst (λ (v : Val). GivesAtOnce asked.program (simulation_row runs).row.number (number kind (pos n) ∷ []) v) s.2 (simulation_gives runs start valid counts n s.0 same w small s.1));
    leads = λ q n to is. (let lt = (found states q n to is).within in (((types_of g states counts).holds q (omega arith)).fits, goto_gives runs start valid counts q n to is));
  }

  -- what was made in the module stands in the program
  made_there : (j : ℕ) (f : Function) → slice_get (last runs).functions j ≡ Some (Some f) → slice_get asked.program.functions j ≡ Some f
  made_there j f h =
      let is = is_made runs in
      let machine = (items_driven g states st).machine in
      let e = (all_extends machine is.names (length is.fields) (last runs)).functions in
      ap (λ (fs : List Function). slice_get fs j) runs.functions
      ∙ method_there is j f (ap (λ (fs : List (Option Function)). slice_get fs j) e.1 ∙ get_more (last runs).functions e.0 j (Some f) h)

  accepts_row : HasRow runs (codes "accepts") (acceptance g states)
  accepts_row = has_row runs (codes "accepts") (acceptance g states) (row_made prefix program (built_items g states st) (acceptance g states) (codes "accepts") [] (acceptance_declared g states st))

  expected_row : HasRow runs (codes "expected_tokens_from_states") (expected_list g states)
  expected_row = has_row runs (codes "expected_tokens_from_states") (expected_list g states) (row_made prefix program (built_items g states st) (expected_list g states) (codes "expected_tokens_from_states") [] (expected_declared g states st))

  accepts_there : slice_get asked.program.functions accepts_row.row.number ≡ Some (accepts_code kind accepts_row.row.maker.eof_table (action_row runs).row.number (simulation_row runs).row.number (goto_row runs).row.number)
  accepts_there =
      let r = accepts_row.row in
      accepts_row.there
      ∙ ap Some (accepts_is g states w r.maker kind (action_row runs).row.number (simulation_row runs).row.number (goto_row runs).row.number (r.same ∙ same) (types_of g states counts).read
      (ap (number_in (codes "action")) r.knows ∙ (action_row runs).row.named)
      (ap (number_in (codes "simulate_reduce")) r.knows ∙ (simulation_row runs).row.named)
      (ap (number_in (codes "goto")) r.knows ∙ (goto_row runs).row.named))

  printed_there : slice_get asked.program.functions expected_row.row.number ≡ Some (expected_code (length expected_row.row.maker.functions) expected_row.row.maker.terminals)
  printed_there = expected_row.there ∙ ap Some (expected_is g states w expected_row.row.maker (expected_row.row.same ∙ same))

  closure_there : slice_get asked.program.functions (length expected_row.row.maker.functions) ≡ Some (keep_code accepts_row.row.number)
  closure_there =
      let r = expected_row.row in
      let accepts = accepts_row.row.number in
      made_there (length r.maker.functions) (keep_code accepts)
      (r.beside (length r.maker.functions) (Some (keep_code accepts)) (omega arith) (closure_is g states w r.maker accepts (ap (number_in (codes "accepts")) r.knows ∙ accepts_row.row.named)))

  method_is : slice_get asked.program.functions methods.expected_tokens_from_states ≡ Some (hands_on_code expected_row.row.number)
  method_is =
      let is = is_made runs in
      let form = (items_driven g states st).machine in
      method_runs runs (λ m. m.expected_tokens_from_states) _ (expected_method form is.names (length is.fields) (last runs) expected_row.row.number expected_row.row.named)

  -- the terminals' texts are their names
  terminals_named_so : AreNamed asked.program.texts expected_row.row.maker.terminals t.names
  terminals_named_so =
      let made = last runs in
      let texts = (is_made runs).texts in
      let printed : AreNamed made.texts made.terminals (flat_map terminal_name (terminals_of g)) = terminals_made g states st prefix program in
      let named : AreNamed made.texts made.terminals t.names = subst (AreNamed made.texts made.terminals) (names_are g (terminals_of g) (other_known g grammar)) printed in
      let all : AreNamed asked.program.texts made.terminals t.names = subst (λ (l : List Text). AreNamed l made.terminals t.names) (sym (runs.texts ∙ texts.1)) (named_more made.texts texts.0 made.terminals t.names named) in
      subst (λ (ns : List ℕ). AreNamed asked.program.texts ns t.names) (sym expected_row.row.terminals) all

  -- so it has its trials
  has_trials : HasTrials asked.program kind states t methods.expected_tokens_from_states
  has_trials = record {
    keeps = record {
      action = (action_row runs).row.number;
      simulate = (simulation_row runs).row.number;
      goto = (goto_row runs).row.number;
      looks_up = looks_up;
      eof = accepts_row.row.maker.eof_table;
      accepts = accepts_row.row.number;
      accepts_there = accepts_there;
      closure = length expected_row.row.maker.functions;
      closure_there = closure_there;
    };
    texts = expected_row.row.maker.terminals;
    named = terminals_named_so;
    printed = expected_row.row.number;
    printed_there = printed_there;
    method_there = method_is;
  }

  trials_there : (closure : Option ℕ) (d : Runner) → Asks asked methods closure d → HasTrials d.asked.program kind states t d.methods.expected_tokens_from_states
  trials_there closure d h =
      subst (λ (a : Asking). HasTrials a.program kind states t d.methods.expected_tokens_from_states) (sym h.program) (subst (λ (m : Methods). HasTrials asked.program kind states t m.expected_tokens_from_states) (sym h.by) has_trials)

  module _ (cost : ℕ) (enough : look_cost ≤ cost) (closure : Option ℕ) (stack : List ℕ) (path : IsOnPath states stack) (d : Runner) (h : Asks asked methods closure d) where
    -- the driver's question for an expected list is answered by the looks of trials
    pub expected_field : Listed left seen t cost stack d (program_answers (Expected (map pos stack)) d)
    expected_field = expected_listed over cost enough d stack path (trials_there closure d h)

    -- and leaves what is asked, after the steps of the looks
    pub expected_leaves : Leaves left (Asks asked methods closure) t cost stack d (program_answers (Expected (map pos stack)) d)
    expected_leaves = expected_left over cost enough d stack path (trials_there closure d h) h
