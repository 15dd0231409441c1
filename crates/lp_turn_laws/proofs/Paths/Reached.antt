-- What holds wherever a machine stands on a path: its reductions have their symbols and gotos, and the start's ends the run alone.
use Rattle.std.proofs.Common.{◌≡◌, ◌⊎◌, ℕ, ◌≤◌, Bool, true, false, cond, List, [], ◌∷◌, ◌++◌, length, Option, Some, None, nat_lt, slice_get, refl, ap, ◌∙◌, subst, inl, inr, arith}
use Rattle.std.proofs.lemmas.Bool.Decides.{nat_tests}
use Rattle.lp_repr.specs.Numbering as by_symbols
use Rattle.lp_repr.specs.ValidTables.{start_number, IsValidTables}
use Rattle.lp_repr.specs.declared.repr.Grammar.{Grammar}
use Rattle.lp_repr.specs.declared.lr1.Lr1State.{Lr1State}
use Rattle.lp_repr.specs.declared.numbering.Rule as numbering
use Rattle.lp_repr.specs.declared.numbering.SymbolNumber.{SymbolNumber}
use Rattle.lp_repr.specs.declared.numbering.SymbolNumber.TheVariants as symbol
use Rattle.lp_repr.specs.declared.values.RunItem.{RunItem}
use Rattle.lp_driver.specs.DriverState.{last_of}
use Rattle.lp_driver.specs.Values.{Text}
use Rattle.lp_driver.specs.declared.answers.Expecting.{Expecting}
use Rattle.lp_machine.specs.declared.lookup.Act.TheVariants.{ReduceBy}
use Rattle.lp_machine.specs.declared.lookup.Rule.{Rule}
use Rattle.lp_machine.specs.declared.config.Config.{Config}
use Rattle.lp_machine.specs.declared.verdict.Verdict.TheVariants.{Yes, GoesOn}
use Rattle.lp_machine.specs.GrammarTables.{grammar_tables}
use Rattle.lp_machine.specs.Tables.{Tables}
use Rattle.lp_machine.specs.ReductionSpan.{below}
use Rattle.lp_machine.specs.ExpectedList.{action_on, pushed, reduced_stack, verdict_by_rule, verdict_by, verdict}
use Rattle.lp_machine.specs.Moves.{reducible_by, reducible}
use Rattle.lp_valid.specs.ValidGrammar.{IsValidGrammar}
use Rattle.lp_turn_laws.specs.Paths.Walks.{IsPath, IsUnseen}
use Rattle.lp_turn_laws.specs.Paths.Standing.{LooksUp, IsOnPath, StandsOn, IsReducible}
use Rattle.lp_turn_laws.proofs.Paths.Acts.{machine_reduces}
use Rattle.lp_turn_laws.proofs.Paths.Edges.{one_at}
use Rattle.lp_turn_laws.proofs.Paths.MachineRules.{agree, is_known}
use Rattle.lp_turn_laws.proofs.Paths.Moves.{reducible_at, made}
use Rattle.lp_turn_laws.proofs.Paths.Stacks.{path_ended}
use Rattle.lp_turn_laws.proofs.Paths.Starts.{is_start_of}

-- a grammar's tables look up its states and productions
pub looks_up : (g : Grammar) (states : List Lr1State) (expecting : Expecting) (params : List Text) (failing : List ℕ) → LooksUp g states (grammar_tables g states expecting params failing)
looks_up g states expecting params failing = record { action = λ s i. refl; at_eof = λ s. refl; goto = λ s n. refl; rule = λ p. refl }

-- a start's production that is reduced: it is of this start, and its one symbol stands alone above state 0
pub record StandsAlone (n : ℕ) (xs : List SymbolNumber) (rule : Rule) (right : List SymbolNumber) : Type 0 where
  pub own : rule.nonterminal ≡ n
  pub same : xs ≡ right
  pub one : length xs ≡ 1
  pub fits : rule.length ≡ 1

-- a number that is not less fails
not_less : (a b : ℕ) → b ≤ a → nat_lt a b ≡ false
not_less a b l = grind (arith, nat_tests)

-- a machine's rule is as long as its production
pub rule_length : (g : Grammar) → IsValidGrammar g → (states : List Lr1State) (stack : List ℕ) (rule : Rule) (r : IsReducible g states stack rule) → rule.length ≡ length (r.by_symbols).right
rule_length g grammar states stack rule r =
    let a = agree g grammar r.production rule r.known in
    a.length_is ∙ ap (λ (x : numbering.Rule). length x.right) (one_at (slice_get (by_symbols.rules_of g) r.production) a.rule r.by_symbols a.at r.at)

module _ (g : Grammar) (grammar : IsValidGrammar g) (start : ℕ) (states : List Lr1State) (valid : IsValidTables g start states) (t : Tables) (known : LooksUp g states t) (items : List RunItem) (n : ℕ) (begun : start_number g start ≡ Some n) where
  -- the start's reduction
  pub ends : (stack : List ℕ) (xs : List SymbolNumber) (rule : Rule) (r : IsReducible g states stack rule) → IsPath states stack xs → rule.is_start ≡ true → StandsAlone n xs rule (r.by_symbols).right
  ends stack xs rule r path e =
      let a = agree g grammar r.production rule r.known in
      let same = one_at (slice_get (by_symbols.rules_of g) r.production) a.rule r.by_symbols a.at r.at in
      let w = path_ended g start states valid n begun stack xs r.state r.production r.by_symbols path r.top r.complete r.at (subst (λ (x : numbering.Rule). IsUnseen (by_symbols.rules_of g) x.left) same (a.starts e)) in
      let one = (is_start_of g grammar start n begun).single r.production r.by_symbols r.at w.1 in
      let l : rule.length ≡ length (r.by_symbols).right = a.length_is ∙ ap (λ (x : numbering.Rule). length x.right) same in
      record { own = a.nonterminal_is ∙ ap (λ (x : numbering.Rule). x.left) same ∙ w.1; same = w.0; one = ap length w.0 ∙ one; fits = l ∙ one }

  -- a reduction's symbols are there
  fits : (stack : List ℕ) (xs : List SymbolNumber) (rule : Rule) → IsReducible g states stack rule → IsPath states stack xs → rule.length ≤ length xs
  fits stack xs rule r path = by_start rule.is_start refl
    where
      by_start : (s : Bool) → rule.is_start ≡ s → rule.length ≤ length xs
      by_start true e = let w = ends stack xs rule r path e in (let f = w.fits in let o = w.one in omega arith)
      by_start false e = (made g start states valid t known items grammar n begun stack xs rule r path e).fits

  -- a reduction of the top state is of a known rule
  rule_at : (stack : List ℕ) (terminal : Option ℕ) (p : ℕ) → action_on t (last_of stack) terminal ≡ ReduceBy p → (rule : Rule) × (t.rule p ≡ Some rule) × IsReducible g states stack rule
  rule_at stack terminal p e =
      let w = machine_reduces g start states valid t known (last_of stack) terminal p e in
      let m = is_known g p w.2 w.3 in
      let f = known.rule p ∙ m.1 in
      (m.0, f, reducible_at g start states valid t known items stack terminal p m.0 e f)

  -- a reduction of the top state can be made
  pub is_reducible : (c : Config) (terminal : Option ℕ) (p : ℕ) → StandsOn states c.states (length c.triples) → action_on t (last_of c.states) terminal ≡ ReduceBy p → (rule : Rule) × (reducible t items c p ≡ Some rule) × IsReducible g states c.states rule
  is_reducible c terminal p b e =
      let w = rule_at c.states terminal p e in
      let l = fits c.states b.symbols w.0 w.2 b.path in
      let k = b.same_count in
      (w.0, ap (reducible_by t items c) w.1 ∙ ap (λ (s : Bool). cond s None (Some w.0)) (not_less (length c.triples) (w.0).length (omega arith)), w.2)

  -- a trial that reduces ends at the start, or goes on
  pub trial_goes : (stack : List ℕ) (terminal : Option ℕ) (p : ℕ) → IsOnPath states stack → action_on t (last_of stack) terminal ≡ ReduceBy p → (verdict t stack terminal ≡ Yes) ⊎ ((next : List ℕ) × (verdict t stack terminal ≡ GoesOn next) × IsOnPath states next)
  trial_goes stack terminal p path e =
      let w = rule_at stack terminal p e in
      by_start w.0 w.2 (ap (verdict_by t stack) e ∙ ap (verdict_by_rule t stack) w.1) (w.0).is_start refl
    where
      by_start : (rule : Rule) → IsReducible g states stack rule → verdict t stack terminal ≡ cond rule.is_start Yes (reduced_stack t stack rule) → (s : Bool) → rule.is_start ≡ s → (verdict t stack terminal ≡ Yes) ⊎ ((next : List ℕ) × (verdict t stack terminal ≡ GoesOn next) × IsOnPath states next)
      by_start rule r v true k = inl (v ∙ ap (λ (s : Bool). cond s Yes (reduced_stack t stack rule)) k)
      by_start rule r v false k =
          let d = made g start states valid t known items grammar n begun stack path.0 rule r path.1 k in
          inr (
            below rule.length stack ++ d.to ∷ [],
            v ∙ ap (λ (s : Bool). cond s Yes (reduced_stack t stack rule)) k ∙ ap (pushed t (below rule.length stack)) d.goto,
            (below rule.length path.0 ++ symbol.Nonterminal rule.nonterminal ∷ [], d.path),
          )
