-- Answers of the built module in the form that a driver's turns take: where its stack is a path.
use Rattle.std.proofs.Common.{◌≡◌, ℕ, ◌<◌, ◌≤◌, ◌^◌, pos, List, [], ◌∷◌, length, Option, Some, None, refl, sym, ◌∙◌, subst, arith}
use Rattle.std.specs.Prelude.{slice_get}
use Rattle.std.proofs.lemmas.Option.{same_Some}
use Rattle.lp_repr.specs.Numbering.{productions_of, terminals_of}
use Rattle.lp_repr.specs.ValidTables.{IsValidTables}
use Rattle.lp_repr.specs.declared.lr1.Lr1State.{Lr1State}
use Rattle.lp_repr.specs.declared.lr1.Token.TheVariants as lr
use Rattle.lp_repr.specs.declared.numbering.SymbolNumber.{SymbolNumber}
use Rattle.lp_repr.specs.declared.numbering.SymbolNumber.TheVariants.{Terminal, Nonterminal}
use Rattle.lp_repr.specs.declared.repr.Grammar.{Grammar}
use Rattle.lp_driver.specs.DriverState.{last_of}
use Rattle.lp_driver.specs.declared.answers.Expecting.{Expecting}
use Rattle.lp_driver.specs.Questions.{Action, Error_action, Eof_action}
use Rattle.lp_driver.specs.Values.{Text}
use Rattle.lp_machine.specs.ExpectedList.{action_on_error, action_on_error_of}
use Rattle.lp_machine.specs.GrammarTables.{error_of, grammar_tables}
use Rattle.lp_machine.specs.Lookup.{act_at}
use Rattle.lp_parts.specs.Entries.{action_entries}
use Rattle.lp_maker.specs.declared.methods.Methods.{Methods}
use Rattle.lp_table.specs.Starts.{Start}
use Rattle.lp_turns.specs.Asking.{Asking}
use Rattle.lp_turns.specs.declared.runner.Runner.{Runner}
use Rattle.lp_turns.specs.DriverCall.{program_answers}
use Rattle.lp_valid.specs.ValidGrammar.{IsValidGrammar}
use Rattle.lp_view.specs.PartLists.{Form}
use Rattle.lp_turn_laws.specs.Paths.Standing.{IsOnPath}
use Rattle.lp_turn_laws.specs.Paths.Walks.{edge_from, IsWalk, end_of}
use Rattle.lp_turn_laws.proofs.Paths.Reductions.{at_within}
use Rattle.lp_turn_laws.proofs.Paths.Stacks.{path_top}
use Rattle.lp_turn_laws.specs.Alike.Answered.{entry}
use Rattle.lp_turn_laws.specs.Asked.Runners.{Asks, Replies}
use Rattle.lp_question_laws.proofs.Gotos.StateTypes.{numbers_of}
use Rattle.lp_question_laws.proofs.Tables.Built.{RunsBuilt, eof_answered, action_answered, error_action_answered}
use Rattle.lp_question_laws.proofs.Tables.Errors.{error_last}
use Rattle.lp_question_laws.proofs.Tables.Fits.{entry_fits}

module _ (g : Grammar) (start : ℕ) (states : List Lr1State) (valid : IsValidTables g start states) where
  -- edges lead to states
  edge_within : (q : ℕ) (o : Option Lr1State) (x : SymbolNumber) (p : ℕ) → slice_get states q ≡ o → edge_from o x ≡ Some p → p < length states
  edge_within q None x p at e = cc
  edge_within q (Some s) (Terminal n) p at e = ((valid.each q s at).shifts_in_range n p e).1
  edge_within q (Some s) (Nonterminal n) p at e = ((valid.each q s at).gotos_in_range n p e).1

  walked_within : (q : ℕ) (ps : List ℕ) (xs : List SymbolNumber) → IsWalk states q ps xs → q < length states → end_of q ps < length states
  walked_within q [] [] w lt = lt
  walked_within q [] (x ∷ xs) w lt = absurd w
  walked_within q (p ∷ ps) [] w lt = absurd w
  walked_within q (p ∷ ps) (x ∷ xs) w lt = walked_within p ps xs w.1 (edge_within q (slice_get states q) x p refl w.0)

  -- the top of a path is the number of a state
  pub top_within : 0 < length states → (stack : List ℕ) (q : ℕ) → IsOnPath states stack → last_of stack ≡ Some q → q < length states
  top_within some stack q path top =
      let path_is = path.1 in
      let same : end_of 0 path_is.rest ≡ q = same_Some (end_of 0 path_is.rest) q (sym (path_top states stack path.0 path_is) ∙ top) in
      subst (λ (i : ℕ). i < length states) same (walked_within 0 path_is.rest path.0 path_is.walks some)

  module _ (some : 0 < length states) (states_fit : length states ≤ 2147483647) (productions_fit : length (productions_of g) ≤ 2147483647)
      {prefix : List ℕ} {program : Form} {st : Start} {asked : Asking} {methods : Methods} (runs : RunsBuilt prefix program g states st asked methods) (closure : Option ℕ) (most : ℕ) (few : 2 ≤ most) where
    pub eof_field : (stack : List ℕ) (q : ℕ) → IsOnPath states stack → last_of stack ≡ Some q → (d : Runner) → Asks asked methods closure d
        → Replies asked methods closure d most (λ x. x ≡ entry (act_at states q lr.Eof)) (program_answers (Eof_action (pos q)) d)
    eof_field stack q path top d h =
        let types = numbers_of (length states) (length (productions_of g)) states_fit productions_fit in
        let lt = top_within some stack q path top in
        let s = at_within states q lt in
        eof_answered runs closure d h most (omega arith) types.kind types.read q s.0 s.1 (types.holds q (omega arith)) (entry_fits g start states valid types q s.0 s.1 lr.Eof)

    pub action_field : length (terminals_of g) < 2 ^ 64 → length (action_entries (length (terminals_of g)) states) < 2 ^ 64 → (stack : List ℕ) (q i : ℕ) → IsOnPath states stack → last_of stack ≡ Some q → i < length (terminals_of g)
        → (d : Runner) → Asks asked methods closure d → Replies asked methods closure d most (λ x. x ≡ entry (act_at states q (lr.Terminal i))) (program_answers (Action (pos q) i) d)
    action_field terminals_fit counted stack q i path top below d h =
        let types = numbers_of (length states) (length (productions_of g)) states_fit productions_fit in
        let lt = top_within some stack q path top in
        let s = at_within states q lt in
        action_answered runs closure d h most (omega arith) types.kind types.read q i s.0 s.1 below terminals_fit counted (entry_fits g start states valid types q s.0 s.1 (lr.Terminal i)) few (types.holds q (omega arith))

    -- where errors are mended
    pub error_field : IsValidGrammar g → length (terminals_of g) < 2 ^ 64 → length (action_entries (length (terminals_of g)) states) < 2 ^ 64 → (expecting : Expecting) (params : List Text) (failing : List ℕ) (e : ℕ) → error_of g ≡ Some e
        → (stack : List ℕ) (q : ℕ) → IsOnPath states stack → last_of stack ≡ Some q → (d : Runner) → Asks asked methods closure d
        → Replies asked methods closure d most (λ x. x ≡ entry (action_on_error (grammar_tables g states expecting params failing) (Some q))) (program_answers (Error_action (pos q)) d)
    error_field rules terminals_fit counted expecting params failing e mended stack q path top d h =
        let types = numbers_of (length states) (length (productions_of g)) states_fit productions_fit in
        let lt = top_within some stack q path top in
        let s = at_within states q lt in
        let last = error_last g rules e mended in
        subst (λ (o : Option ℕ). Replies asked methods closure d most (λ x. x ≡ entry (action_on_error_of (grammar_tables g states expecting params failing) o (Some q))) (program_answers (Error_action (pos q)) d)) (sym mended)
        (error_action_answered runs closure d h most (omega arith) types.kind types.read q e s.0 s.1 (omega arith) terminals_fit counted (entry_fits g start states valid types q s.0 s.1 (lr.Terminal e)) few (types.holds q (omega arith)) last)
