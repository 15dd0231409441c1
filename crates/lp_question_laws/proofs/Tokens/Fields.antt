-- Answers of the built module about items and tokens, in the form that a driver's turns take.
use Rattle.std.proofs.Common.{◌≡◌, ℕ, ◌≤◌, ◌^◌, Bool, List, length, Option, Some, is_some, true, subst, arith}
use Rattle.lp_repr.specs.Numbering.{terminals_of}
use Rattle.lp_repr.specs.declared.lr1.Lr1State.{Lr1State}
use Rattle.lp_repr.specs.declared.numbering.SymbolNumber.TheVariants as by_number
use Rattle.lp_repr.specs.declared.repr.Grammar.{Grammar}
use Rattle.lp_repr.specs.declared.values.RunItem.{RunItem}
use Rattle.lp_valid.specs.ValidGrammar.{IsValidGrammar}
use Rattle.lp_driver.specs.declared.answers.Expecting.{Expecting}
use Rattle.lp_driver.specs.Questions.{To_triple, Token_to_index, Token_to_symbol}
use Rattle.lp_driver.specs.Values.{Text, Token}
use Rattle.lp_machine.specs.GrammarTables.{grammar_tables}
use Rattle.lp_machine.specs.TableAnswers.{located_item}
use Rattle.lp_machine.specs.Tables.{Tables}
use Rattle.lp_maker.specs.declared.methods.Methods.{Methods}
use Rattle.lp_table.specs.Starts.{Start}
use Rattle.lp_turns.specs.Asking.{Asking}
use Rattle.lp_turns.specs.declared.runner.Runner.{Runner}
use Rattle.lp_turns.specs.DriverCall.{program_answers}
use Rattle.lp_view.specs.PartLists.{Form}
use Rattle.lp_run.specs.Entered.{module_made}
use Rattle.lp_turn_laws.specs.Alike.Answered.{Answered}
use Rattle.lp_turn_laws.specs.Asked.Runners.{Asks, left, seen}
use Rattle.lp_question_laws.proofs.Gotos.GotoAnswered.{built_items}
use Rattle.lp_question_laws.proofs.Gotos.LinkModule.{complete}
use Rattle.lp_question_laws.specs.Tables.Symbols.{IsSymbol}
use Rattle.lp_question_laws.proofs.Tables.Built.{RunsBuilt}
use Rattle.lp_question_laws.specs.Tokens.Told.{AreTold}
use Rattle.lp_spelling.specs.HoleEnds.{is_word}
use Rattle.std.specs.List.{list_all}
use Rattle.lp_question_laws.proofs.Tokens.FormOf.{words}
use Rattle.lp_question_laws.proofs.Tokens.Captures.{wordy}
use Rattle.lp_question_laws.proofs.Tokens.IndexAnswered.{index_answered}
use Rattle.lp_question_laws.proofs.Tokens.Known.{terminals_known}
use Rattle.lp_question_laws.proofs.Tokens.SymbolAnswered.{symbol_answered}
use Rattle.lp_question_laws.proofs.Tokens.TripleAnswered.{keeps_locations, triple_answered}

module _ {prefix : List ℕ} {program : Form} {g : Grammar} {states : List Lr1State} {st : Start} {asked : Asking} {methods : Methods} (runs : RunsBuilt prefix program g states st asked methods)
    (closure : Option ℕ) (Known : Token → Type 0) (most : ℕ) (enough : 3 ≤ most) (expecting : Expecting) (params : List Text) (failing : List ℕ) where
  abbrev t : Tables
  t = grammar_tables g states expecting params failing

  -- the whole program tells whether items keep their locations
  pub triple_field : closure ≡ (module_made prefix program (built_items g states st)).closure → keeps_locations prefix program ≡ is_some g.types.loc
      → (item : RunItem) (d : Runner) → Asks asked methods closure d → Answered left seen (Asks asked methods closure) d most (seen d) (λ x. x ≡ located_item t.is_located item) (program_answers (To_triple item) d)
  triple_field module_closure located item d h =
      subst (λ (b : Bool). Answered left seen (Asks asked methods closure) d most (seen d) (λ x. x ≡ located_item b item) (program_answers (To_triple item) d)) located (triple_answered runs closure module_closure item d h most enough)

  module _ (same : prefix ≡ g.prefix) (w : list_all is_word g.prefix ≡ true) (valid : IsValidGrammar g) where
    pub index_field : length (terminals_of g) ≤ 2 ^ 64
        → (token : Token) → Known token → (d : Runner) → Asks asked methods closure d → Answered left seen (Asks asked methods closure) d most (seen d) (λ x. x ≡ t.terminal token) (program_answers (Token_to_index token) d)
    index_field few token known d h = index_answered runs same (wordy g.prefix (words g.prefix w)) (terminals_known g valid) few closure token d h most (omega arith)

    pub symbol_field : AreTold g → length (terminals_of g) ≤ 2 ^ 63
        → (token : Token) (i : ℕ) → Known token → t.terminal token ≡ Some i → (d : Runner) → Asks asked methods closure d
        → Answered left seen (Asks asked methods closure) d most (seen d) (λ x. IsSymbol g (complete prefix program (built_items g states st)) (by_number.Terminal i) x (t.value i token)) (program_answers (Token_to_symbol i token) d)
    symbol_field told few token i known is d h = symbol_answered runs same (words g.prefix w) (terminals_known g valid) told few token i is closure d h most (omega arith)
