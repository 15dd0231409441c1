-- The driver's question for the symbol of an error is answered by the tables.
use Rattle.std.proofs.Common.{◌≡◌, ℕ, ◌≤◌, List, Option, Some, arith}
use Rattle.lp_repr.specs.declared.lr1.Lr1State.{Lr1State}
use Rattle.lp_repr.specs.declared.numbering.SymbolNumber.{SymbolNumber}
use Rattle.lp_repr.specs.declared.numbering.SymbolNumber.TheVariants as by_number
use Rattle.lp_repr.specs.declared.repr.Grammar.{Grammar}
use Rattle.lp_repr.specs.declared.values.Recovery.{Recovery}
use Rattle.lp_driver.specs.Questions.{Error_symbol}
use Rattle.lp_driver.specs.Values.{Recovered}
use Rattle.lp_machine.specs.GrammarTables.{error_of}
use Rattle.lp_maker.specs.declared.methods.Methods.{Methods}
use Rattle.lp_table.specs.ReductionLines.{variant_at}
use Rattle.lp_table.specs.Starts.{Start}
use Rattle.lp_turns.specs.Asking.{Asking}
use Rattle.lp_turns.specs.declared.runner.Runner.{Runner}
use Rattle.lp_turns.specs.DriverCall.{program_answers}
use Rattle.lp_valid.specs.ValidGrammar.{IsValidGrammar}
use Rattle.lp_view.specs.PartLists.{Form}
use Rattle.lp_turn_laws.specs.Asked.Runners.{Asks, Replies}
use Rattle.lp_question_laws.specs.Tables.Symbols.{IsSymbol, IsVariant}
use Rattle.lp_question_laws.proofs.Tables.Built.{RunsBuilt}
use Rattle.lp_question_laws.proofs.Tables.Errors.{error_last}
use Rattle.lp_question_laws.proofs.Tables.ErrorSymbol.{error_symbol_answered}
use Rattle.lp_question_laws.specs.Reductions.Premises.{AreCounted}
use Rattle.lp_question_laws.proofs.Reductions.Linked.{last, variant_known}
use Rattle.lp_question_laws.proofs.Reductions.Rules.{InRange}
use Rattle.lp_question_laws.proofs.Reductions.Variants.{variant_below, variant_shown}

module _ {prefix : List ℕ} {program : Form} {g : Grammar} {states : List Lr1State} {st : Start} {asked : Asking} {methods : Methods} (runs : RunsBuilt prefix program g states st asked methods) (counted : AreCounted g) where
  -- the variant of each symbol has a number
  pub symbol_varied : (x : SymbolNumber) → InRange g x → (n : ℕ) × IsVariant g (last runs) x n
  symbol_varied x range =
      let below = variant_below g x range in
      let few = counted.variants in
      let ty = variant_shown g (variant_at g (Some x)) below in
      (_, variant_known runs (variant_at g (Some x)) ty.0 ty.1 (omega (arith, below, few)))

  pub error_symbol_field : IsValidGrammar g → (closure : Option ℕ) (most : ℕ) → 1 ≤ most → (e : ℕ) → error_of g ≡ Some e → (recovery : Recovery) (d : Runner) → Asks asked methods closure d
      → Replies asked methods closure d most (λ x. IsSymbol g (last runs) (by_number.Terminal e) x (Recovered recovery)) (program_answers (Error_symbol recovery) d)
  error_symbol_field rules closure most few e mended recovery d h =
      let ends = error_last g rules e mended in
      let v = symbol_varied (by_number.Terminal e) (omega (arith, ends)) in
      error_symbol_answered runs rules e v.0 mended v.1 recovery closure d h most few
