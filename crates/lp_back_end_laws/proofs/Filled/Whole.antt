-- The built module of a start answers all questions by the tables.
use Rattle.std.proofs.Common.{◌≡◌, ℕ, zero, suc, ◌<◌, ◌^◌, List, [], ◌∷◌, length, map, All, Option, Some, IfSome, refl, subst, arith}
use Rattle.std.specs.Prelude.{slice_get}
use Rattle.std.proofs.lemmas.Option.{slice_get_within, same_Some}
use Rattle.lp_repr.specs.Numbering.{productions_of, terminals_of}
use Rattle.lp_repr.specs.ValidTables.{IsValidTables}
use Rattle.lp_repr.specs.declared.lr1.Lr1State.{Lr1State}
use Rattle.lp_repr.specs.declared.lr1.StartStates.{StartStates}
use Rattle.lp_repr.specs.declared.repr.Grammar.{Grammar}
use Rattle.lp_repr.specs.declared.repr.NonterminalString.{NonterminalString}
use Rattle.lp_repr.specs.declared.repr.Production.{Production}
use Rattle.lp_repr.specs.declared.values.RunItem.{RunItem}
use Rattle.lp_driver.specs.declared.answers.Expecting.TheVariants.{Trial}
use Rattle.lp_driver.specs.Values.{Text}
use Rattle.lp_core.specs.declared.expr.Table.{Table}
use Rattle.lp_machine.specs.GrammarTables.{grammar_tables}
use Rattle.lp_machine.specs.Tables.{Tables}
use Rattle.lp_maker.specs.Making.{entries_of}
use Rattle.lp_maker.specs.declared.methods.Methods.{Methods}
use Rattle.lp_parts.specs.Entries.{action_entries}
use Rattle.lp_texts.specs.declared.faults.TextKind.TheVariants.{Pattern}
use Rattle.lp_tree.specs.ProgramTree.{Item, program_items}
use Rattle.lp_tree.specs.declared.tree.Program.{Program}
use Rattle.lp_turns.specs.Asking.{Asking}
use Rattle.lp_view.specs.PartLists.{Form}
use Rattle.lp_assembly.specs.Built.{IsBuilt}
use Rattle.lp_fitting.specs.Fitting.{IsFitting}
use Rattle.lp_emitted.specs.Emittable.{IsEmittable}
use Rattle.lp_table.specs.Starts.{Start, start_for}
use Rattle.lp_table.specs.TokenLines.{token_symbols}
use Rattle.lp_run.specs.RunTold.{IsCounted}
use Rattle.lp_turn_laws.proofs.Paths.Over.{is_over}
use Rattle.lp_question_laws.proofs.Gotos.Goto.{Counts}
use Rattle.lp_question_laws.proofs.Gotos.Simulate.{AllSmall, reductions}
use Rattle.lp_question_laws.proofs.Gotos.GotoAnswered.{built_items}
use Rattle.lp_question_laws.proofs.Gotos.LinkModule.{complete}
use Rattle.lp_question_laws.specs.Tables.Symbols.{IsSymbol}
use Rattle.lp_question_laws.proofs.Tables.Built.{RunsBuilt}
use Rattle.lp_question_laws.proofs.Tables.Fields.{error_field}
use Rattle.lp_turn_laws.specs.Alike.Answered.{MendsBy}
use Rattle.lp_turn_laws.specs.Asked.Runners.{Asks, left, seen}
use Rattle.lp_turn_laws.specs.Paths.Over.{IsOver}
use Rattle.lp_turns.specs.DriverCall.{program_answers}
use Rattle.lp_question_laws.specs.Tokens.Told.{AreTold}
use Rattle.lp_question_laws.proofs.Tokens.Filled.{filled_by, row_filled}
use Rattle.lp_question_laws.proofs.Tokens.ToldBy.{AreFilled, are_told}
use Rattle.lp_question_laws.proofs.Expected.Asked.{goto_field, simulate_field}
use Rattle.lp_question_laws.proofs.Expected.Built.{expected_field, expected_leaves}
use Rattle.lp_question_laws.proofs.Expected.Counted.{reductions_small, start_begins}
use Rattle.lp_question_laws.specs.Reductions.Premises.{ActionRuns, reduction_cost}
use Rattle.lp_question_laws.proofs.Reductions.Field as field
use Rattle.lp_question_laws.proofs.Reductions.Recovered.{error_symbol_field}
use Rattle.lp_question_laws.proofs.Reductions.Linked as linked
use Rattle.lp_question_laws.proofs.Reductions.Replying.{reduce_field}
use Rattle.lp_question_laws.proofs.Reductions.Texts.{AllKeys, names_of}
use Rattle.lp_question_laws.specs.Actions.Nesting.{action_cost}
use Rattle.lp_question_laws.proofs.Actions.Depth.{IsPlainGrammar}
use Rattle.lp_question_laws.proofs.Actions.PlainGrammar.{all_told}
use Rattle.lp_agreement.proofs.Composed.Answers.{AnswersRest}
use Rattle.lp_agreement.proofs.Composed.Counts.{entries_fit, productions_fit, states_fit, terminals_fit}
use Rattle.lp_agreement.proofs.Composed.Parameters.{ArePlain}
use Rattle.lp_agreement.proofs.Composed.Plain.{Each, ItemFits, module_fits, parameters_plain, symbols_in}
use Rattle.lp_agreement.proofs.Composed.Runs.{asked_on, built_module, fields_built, own_methods, runs_built}
use Rattle.lp_agreement.proofs.Composed.Told.{IsKnown}
use Rattle.lp_agreement.proofs.Composed.TwoStates.{two_states}
use Rattle.lp_agrees.specs.Emission.{IsByTables}
use Rattle.lp_back_end_laws.specs.Filled.InMemory.{IsInMemory}
use Rattle.lp_back_end_laws.proofs.Filled.InMemory.{counted, inlined}
use Rattle.lp_back_end_laws.proofs.Filled.Actions.{plain_prefix}
use Rattle.lp_back_end_laws.proofs.Filled.Names.{all_keys, all_plain, is_prefix_of, named_words, some, words, wordy}
use Rattle.lp_back_end_laws.proofs.Filled.Tokens.{index_filled, symbol_filled, triple_filled}

each_at : (P : Item → Type 0) (xs : List Item) (n : ℕ) (x : Item) → Each P xs → slice_get xs n ≡ Some x → P x
each_at P [] n x e at = cc
each_at P (y ∷ xs) zero x e at = subst P (same_Some y x at) e.0
each_at P (y ∷ xs) (suc n) x e at = each_at P xs n x e.1 at

valid_at : (g : Grammar) (states : List StartStates) (i : ℕ) (list : StartStates) → slice_get states i ≡ Some list → IfSome (slice_get states i) (λ l. IsValidTables g i l.states) → IsValidTables g i list.states
valid_at g states i list has valid = subst (λ o. IfSome o (λ l. IsValidTables g i l.states)) has valid

module _ (g : Grammar) (states : List StartStates) (built : Program) (by : IsByTables g.algorithm.codegen) (memory : IsInMemory g) (may : IsEmittable g states) (is_built : IsBuilt g states built) (fits : IsFitting built)
    (i : ℕ) (names : NonterminalString × NonterminalString) (list : StartStates) (at : slice_get g.start_nonterminals.entries i ≡ Some names) (has : slice_get states i ≡ Some list) where
  abbrev st : Start
  st = start_for g names.0 names.1

  abbrev ss : List Lr1State
  ss = list.states

  abbrev program : Form
  program = program_items built

  plain : ArePlain g.prefix g.parameters
  plain = parameters_plain g states built is_built by fits i names list at has

  pub keys : AllKeys g.prefix (names_of g.parameters)
  keys = all_keys g.prefix g.parameters plain

  tabled : IsValidTables g i ss
  tabled = valid_at g states i list has (may.tabled i).1

  begins : i < length g.start_nonterminals.entries
  begins = slice_get_within g.start_nonterminals.entries i names at

  counts : Counts g ss
  counts = record { states_fit = states_fit g states may i list has; productions_fit = productions_fit g states may; nonterminals_fit = (let n = memory.nonterminals in omega (arith, n)) }

  filled : AreFilled g
  filled = filled_by g (λ n a b c d is. row_filled g.prefix a b c d (each_at (ItemFits g.prefix) (token_symbols g) n _ (symbols_in (ItemFits g.prefix) g ss st (module_fits g states built is_built by fits i names list at has)) is).fills)

  told : AreTold g
  told = are_told g may.valid (may.texts Pattern) (some g states built may is_built fits) (words g states built may is_built fits) filled memory.patterns

  pub is_plain : IsPlainGrammar g
  is_plain = record {
    prefix = plain_prefix g.prefix (words g states built may is_built fits) (some g states built may is_built fits);
    names = all_plain g.prefix g.parameters plain;
    told = all_told g may.valid (named_words g states built may is_built fits);
    counted = inlined g memory;
  }

  module _ (items : List RunItem) (params : List Text) (failing : List ℕ) (enough : length params ≡ length g.parameters) (tables : List Table) (same : map entries_of tables ≡ (built_module g.prefix program g ss st).tables) (all : All IsCounted tables) where
    abbrev asked : Asking
    asked = asked_on g.prefix program g ss st tables items params failing

    abbrev methods : Methods
    methods = own_methods g.prefix program g ss st

    abbrev closure : Option ℕ
    closure = (built_module g.prefix program g ss st).closure

    abbrev t : Tables
    t = grammar_tables g ss Trial params failing

    abbrev cost : ℕ
    cost = reduction_cost g (action_cost g)

    abbrev pub runs : RunsBuilt g.prefix program g ss st asked methods
    runs = runs_built g.prefix program g ss st tables items params failing same

    entries : length (action_entries (length (terminals_of g)) ss) < 2 ^ 64
    entries = entries_fit g.prefix program g ss st tables items params failing same all

    abbrev over : IsOver g i ss t
    over = is_over g i ss Trial params failing may.valid tabled begins

    small : AllSmall (reductions g ss st)
    small = reductions_small g ss st (let n = memory.nonterminals in omega (arith, n)) (counted g memory).symbols

    terminals : length (terminals_of g) < 2 ^ 63
    terminals = terminals_fit (length (terminals_of g)) ss (two_states g may.valid i ss tabled begins) entries

    -- what is asked while an error is mended
    mending_filled : (e : ℕ) → t.error ≡ Some e → MendsBy program_answers left seen (Asks asked methods closure) g ss t (IsSymbol g (complete g.prefix program (built_items g ss st))) cost e
    mending_filled e mends = record {
      error_action = λ stack q path top d h. error_field g i ss tabled tabled.some_state counts.states_fit counts.productions_fit runs closure cost (omega arith) may.valid (omega (arith, terminals)) entries Trial params failing e mends stack q path top d h;
      goto = λ stack q to nt path top is d h. goto_field runs i tabled counts closure cost (omega arith) q nt to is d h;
      simulate = λ p rule stack known r place path d h. simulate_field runs i tabled counts closure cost (omega arith) over (start_begins g i names at) refl (wordy g.prefix (words g states built may is_built fits)) small p rule stack known path r d h;
      error_symbol = λ r d h. error_symbol_field runs (counted g memory) may.valid closure cost (omega arith) e mends r d h;
      listed = λ stack path d h. expected_leaves may.valid tabled begins params failing runs refl (wordy g.prefix (words g states built may is_built fits)) (start_begins g i names at) counts small (omega (arith, terminals)) entries cost (omega arith) closure stack path d h;
    }

    pub answers : ((k : ℕ) (prod : Production) → slice_get (productions_of g) k ≡ Some prod → ActionRuns (linked.p runs) (linked.last runs) g t (field.params runs refl keys) (action_cost g) prod)
        → AnswersRest asked methods closure g ss t (IsSymbol g (complete g.prefix program (built_items g ss st))) (IsKnown g) cost
    answers actions = record {
      to_triple = triple_filled g states built is_built i ss st may.valid tabled begins (words g states built may is_built fits) items params failing cost (omega arith) tables same all;
      token_to_index = index_filled g states built is_built i ss st may.valid tabled begins (words g states built may is_built fits) items params failing cost (omega arith) tables same all;
      token_to_symbol = symbol_filled g states built is_built i ss st may.valid tabled begins (words g states built may is_built fits) items params failing cost (omega arith) tables same all told;
      expected = λ stack path d h. expected_field may.valid tabled begins params failing runs refl (wordy g.prefix (words g states built may is_built fits)) (start_begins g i names at) counts small (omega (arith, terminals)) entries cost (omega arith) closure stack path d h;
      reduce = reduce_field runs refl (is_prefix_of g.prefix (words g states built may is_built fits)) keys i Trial params failing over (start_begins g i names at) counts (counted g memory) (fields_built g.prefix program g ss st tables items params failing same) closure (action_cost g) actions cost (omega arith);
      mending = mending_filled;
    }
