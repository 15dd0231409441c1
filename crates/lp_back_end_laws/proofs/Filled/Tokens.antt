-- The built module answers the questions about items and the numbers of tokens by the tables.
use Rattle.std.proofs.Common.{◌≡◌, ℕ, ◌<◌, ◌≤◌, ◌^◌, true, List, length, map, All, Option, Some, refl, arith}
use Rattle.std.specs.List.{list_all}
use Rattle.lp_repr.specs.Numbering.{terminals_of}
use Rattle.lp_repr.specs.ValidTables.{IsValidTables}
use Rattle.lp_repr.specs.declared.lr1.Lr1State.{Lr1State}
use Rattle.lp_repr.specs.declared.lr1.StartStates.{StartStates}
use Rattle.lp_repr.specs.declared.numbering.SymbolNumber.TheVariants as by_number
use Rattle.lp_repr.specs.declared.repr.Grammar.{Grammar}
use Rattle.lp_repr.specs.declared.values.RunItem.{RunItem}
use Rattle.lp_driver.specs.Questions.{To_triple, Token_to_index, Token_to_symbol}
use Rattle.lp_driver.specs.Values.{Text, Token}
use Rattle.lp_driver.specs.declared.answers.Expecting.TheVariants.{Trial}
use Rattle.lp_core.specs.declared.expr.Table.{Table}
use Rattle.lp_machine.specs.GrammarTables.{grammar_tables}
use Rattle.lp_machine.specs.TableAnswers.{located_item}
use Rattle.lp_maker.specs.Making.{entries_of}
use Rattle.lp_tree.specs.ProgramTree.{program_items}
use Rattle.lp_tree.specs.declared.tree.Program.{Program}
use Rattle.lp_turns.specs.Asking.{Asking}
use Rattle.lp_maker.specs.declared.methods.Methods.{Methods}
use Rattle.lp_machine.specs.Tables.{Tables}
use Rattle.lp_turns.specs.declared.runner.Runner.{Runner}
use Rattle.lp_turns.specs.DriverCall.{program_answers}
use Rattle.lp_valid.specs.ValidGrammar.{IsValidGrammar}
use Rattle.lp_assembly.specs.Built.{IsBuilt}
use Rattle.lp_spelling.specs.HoleEnds.{is_word}
use Rattle.lp_table.specs.Starts.{Start}
use Rattle.lp_run.specs.RunTold.{IsCounted}
use Rattle.lp_turn_laws.specs.Alike.Answered.{Answered}
use Rattle.lp_turn_laws.specs.Asked.Runners.{Asks, left, seen}
use Rattle.lp_question_laws.proofs.Gotos.GotoAnswered.{built_items}
use Rattle.lp_question_laws.proofs.Gotos.LinkModule.{complete}
use Rattle.lp_question_laws.specs.Tables.Symbols.{IsSymbol}
use Rattle.lp_question_laws.specs.Tokens.Told.{AreTold}
use Rattle.lp_question_laws.proofs.Tokens.Fields.{index_field, symbol_field, triple_field}
use Rattle.lp_agreement.proofs.Composed.Counts.{entries_fit, terminals_fit}
use Rattle.lp_agreement.proofs.Composed.Promises.{built_located}
use Rattle.lp_agreement.proofs.Composed.Runs.{asked_on, built_module, own_methods, runs_built}
use Rattle.lp_agreement.proofs.Composed.Told.{IsKnown}
use Rattle.lp_agreement.proofs.Composed.TwoStates.{two_states}

module _ (g : Grammar) (all_states : List StartStates) (program : Program) (is_built : IsBuilt g all_states program) (start : ℕ) (states : List Lr1State) (st : Start)
    (valid : IsValidGrammar g) (tabled : IsValidTables g start states) (begins : start < length g.start_nonterminals.entries) (words : list_all is_word g.prefix ≡ true)
    (items : List RunItem) (params : List Text) (failing : List ℕ) (cost : ℕ) (enough : 3 ≤ cost) (tables : List Table) (same : map entries_of tables ≡ (built_module g.prefix (program_items program) g states st).tables) (all : All IsCounted tables) where
  abbrev asked : Asking
  asked = asked_on g.prefix (program_items program) g states st tables items params failing

  abbrev methods : Methods
  methods = own_methods g.prefix (program_items program) g states st

  abbrev closure : Option ℕ
  closure = (built_module g.prefix (program_items program) g states st).closure

  abbrev t : Tables
  t = grammar_tables g states Trial params failing

  terminals_few : length (terminals_of g) < 2 ^ 63
  terminals_few = terminals_fit (length (terminals_of g)) states (two_states g valid start states tabled begins) (entries_fit g.prefix (program_items program) g states st tables items params failing same all)

  pub triple_filled : (item : RunItem) (d : Runner) → Asks asked methods closure d → Answered left seen (Asks asked methods closure) d cost (seen d) (λ x. x ≡ located_item t.is_located item) (program_answers (To_triple item) d)
  triple_filled = triple_field (runs_built g.prefix (program_items program) g states st tables items params failing same) closure (IsKnown g) cost enough Trial params failing refl (built_located g all_states program is_built g.prefix)

  pub index_filled : (token : Token) → IsKnown g token → (d : Runner) → Asks asked methods closure d → Answered left seen (Asks asked methods closure) d cost (seen d) (λ x. x ≡ t.terminal token) (program_answers (Token_to_index token) d)
  index_filled = index_field (runs_built g.prefix (program_items program) g states st tables items params failing same) closure (IsKnown g) cost enough Trial params failing refl words valid (omega (arith, terminals_few))

  pub symbol_filled : AreTold g → (token : Token) (i : ℕ) → IsKnown g token → t.terminal token ≡ Some i → (d : Runner) → Asks asked methods closure d
      → Answered left seen (Asks asked methods closure) d cost (seen d) (λ x. IsSymbol g (complete g.prefix (program_items program) (built_items g states st)) (by_number.Terminal i) x (t.value i token)) (program_answers (Token_to_symbol i token) d)
  symbol_filled told = symbol_field (runs_built g.prefix (program_items program) g states st tables items params failing same) closure (IsKnown g) cost enough Trial params failing refl words valid told (omega (arith, terminals_few))
