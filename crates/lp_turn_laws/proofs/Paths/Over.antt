-- The laws of paths for a machine over valid tables, in one place.
use Rattle.std.proofs.Common.{◌≡◌, ◌⊎◌, ℕ, ◌+◌, ◌≤◌, ◌<◌, true, false, List, [], ◌∷◌, ◌++◌, length, map, take, suc, ◌-◌, Option, Some, None, slice_get, sym, ap, ◌∙◌, subst, arith}
use Rattle.lp_repr.specs.Numbering as by_symbols
use Rattle.lp_repr.specs.StateParts.{max_prefix_of, will_pop_of}
use Rattle.lp_repr.specs.ValidTables.{IsValidTables}
use Rattle.lp_repr.specs.declared.repr.Grammar.{Grammar}
use Rattle.lp_repr.specs.declared.repr.Symbol.{Symbol}
use Rattle.lp_repr.specs.declared.lr1.Lr1State.{Lr1State}
use Rattle.lp_repr.specs.declared.numbering.SymbolNumber.{SymbolNumber}
use Rattle.lp_repr.specs.declared.values.RunItem.{RunItem}
use Rattle.lp_driver.specs.DriverState.{last_of}
use Rattle.lp_driver.specs.Values.{Text, Value}
use Rattle.lp_driver.specs.declared.answers.Expecting.{Expecting}
use Rattle.lp_machine.specs.declared.lookup.Act.TheVariants.{Shift, ReduceBy}
use Rattle.lp_machine.specs.declared.lookup.Rule.{Rule}
use Rattle.lp_machine.specs.declared.config.Config.{Config}
use Rattle.lp_machine.specs.declared.config.Mending.{Mending}
use Rattle.lp_machine.specs.declared.config.Left.TheVariants.{Pulls, Shifts, Reduces}
use Rattle.lp_machine.specs.ReductionSpan.{below}
use Rattle.lp_machine.specs.StackMachine.{with_left, reduced_triples, lookahead_terminal}
use Rattle.lp_repr.specs.declared.numbering.SymbolNumber.TheVariants as symbol
use Rattle.lp_machine.specs.declared.verdict.Verdict.TheVariants.{Yes, GoesOn}
use Rattle.lp_machine.specs.ExpectedList.{action_on, goto_from, verdict}
use Rattle.lp_machine.specs.GrammarTables.{grammar_tables}
use Rattle.lp_machine.specs.Move.{move, moves, makes, reduces_to, shifted_triples}
use Rattle.lp_machine.specs.Moves.{first, ready, reducible, asks, asks_in, does, no_action, reduces_or, calls_next, acted}
use Rattle.lp_machine.specs.Tables.{Tables}
use Rattle.lp_valid.specs.ValidGrammar.{IsValidGrammar}
use Rattle.lp_turn_laws.specs.Paths.Ends.{symbol_named, IsEnd}
use Rattle.lp_turn_laws.specs.Paths.Over.{IsOver}
use Rattle.lp_turn_laws.specs.Paths.Standing.{LeftStands, IsOnPath, IsMade, StandsOn, IsReducible, IsStanding}
use Rattle.lp_turn_laws.specs.Paths.Walks.{edge_at, IsWalk, end_of, Has, IsPath, ReachesTo}
use Rattle.lp_turn_laws.proofs.Paths.Acts.{machine_goto}
use Rattle.lp_turn_laws.proofs.Paths.Crossing.{Crosses, crosses, path_crosses, no_edge_to_0, alone_at_0}
use Rattle.lp_turn_laws.proofs.Paths.Moves.{move_stands, reached_stands, reducible_at, reducible_is, made, last_taken}
use Rattle.lp_turn_laws.proofs.Paths.PathSlots.{path_slots, path_fixed, path_target}
use Rattle.lp_turn_laws.proofs.Paths.Reached.{StandsAlone, looks_up, rule_length, ends, is_reducible, trial_goes}
use Rattle.lp_turn_laws.proofs.Paths.Stacks.{path_labels, path_length}
use Rattle.lp_turn_laws.proofs.Paths.Starts.{start_number_is}

-- the tables of a valid grammar and of one of its starts
pub is_over : (g : Grammar) (start : ℕ) (states : List Lr1State) (expecting : Expecting) (params : List Text) (failing : List ℕ) → IsValidGrammar g → IsValidTables g start states → start < length g.start_nonterminals.entries → IsOver g start states (grammar_tables g states expecting params failing)
is_over g start states expecting params failing grammar tables l =
    let n = start_number_is g grammar start l in
    record { grammar = grammar; tables = tables; number = n.0; begun = n.1; known = looks_up g states expecting params failing }

module _ {g : Grammar} {start : ℕ} {states : List Lr1State} {t : Tables} (over : IsOver g start states t) where
  -- ---- the machine
  -- each configuration that is reached stands on a path, with a triple for each symbol
  pub stands : (items : List RunItem) (m : ℕ) → IsStanding g states (moves t items m (first t items))
  stands items m = reached_stands g start states over.tables t over.known items over.grammar over.number over.begun m

  -- a move keeps that
  pub keeps : (items : List RunItem) (c : Config) → IsStanding g states c → IsStanding g states (move t items c)
  keeps items c s = move_stands g start states over.tables t over.known items over.grammar over.number over.begun c s

  -- a reduction of the top state can be made
  pub reduces : (items : List RunItem) (c : Config) (terminal : Option ℕ) (p : ℕ) → StandsOn states c.states (length c.triples) → action_on t (last_of c.states) terminal ≡ ReduceBy p → (rule : Rule) × (reducible t items c p ≡ Some rule) × IsReducible g states c.states rule
  reduces items c terminal p b e = is_reducible g over.grammar start states over.tables t over.known items over.number over.begun c terminal p b e

  -- it is of that production
  pub reduces_by : (items : List RunItem) (stack : List ℕ) (terminal : Option ℕ) (p : ℕ) (rule : Rule) → action_on t (last_of stack) terminal ≡ ReduceBy p → t.rule p ≡ Some rule → (r : IsReducible g states stack rule) × (r.production ≡ p)
  reduces_by items stack terminal p rule e m =
      (reducible_at g start states over.tables t over.known items stack terminal p rule e m, reducible_is g start states over.tables t over.known items stack terminal p rule e m)

  -- another one than the start's has its symbols on top, and the goto
  pub leads_on : (stack : List ℕ) (xs : List SymbolNumber) (rule : Rule) (r : IsReducible g states stack rule) → IsPath states stack xs → rule.is_start ≡ false → IsMade states t stack xs rule (r.by_symbols).right
  leads_on stack xs rule r path e = made g start states over.tables t over.known [] over.grammar over.number over.begun stack xs rule r path e

  -- the start's has its one symbol alone above state 0
  pub ends_alone : (stack : List ℕ) (xs : List SymbolNumber) (rule : Rule) (r : IsReducible g states stack rule) → IsPath states stack xs → rule.is_start ≡ true → StandsAlone over.number xs rule (r.by_symbols).right
  ends_alone stack xs rule r path e = ends g over.grammar start states over.tables t over.known [] over.number over.begun stack xs rule r path e

  -- a trial that reduces says yes, or goes on
  pub trial_leads_on : (stack : List ℕ) (terminal : Option ℕ) (p : ℕ) → IsOnPath states stack → action_on t (last_of stack) terminal ≡ ReduceBy p → (verdict t stack terminal ≡ Yes) ⊎ ((next : List ℕ) × (verdict t stack terminal ≡ GoesOn next) × IsOnPath states next)
  trial_leads_on stack terminal p path e = trial_goes g over.grammar start states over.tables t over.known [] over.number over.begun stack terminal p path e

  -- ---- paths
  -- a stack tells its symbols
  pub labels : (stack : List ℕ) (xs ys : List SymbolNumber) → IsPath states stack xs → IsPath states stack ys → xs ≡ ys
  labels stack xs ys a b = path_labels g start states over.tables stack xs ys a b

  -- state 0 stands at the bottom alone
  pub bottom : (stack : List ℕ) (xs : List SymbolNumber) (i : ℕ) → IsPath states stack xs → slice_get stack i ≡ Some 0 → i ≡ 0
  bottom stack xs i path e = alone_at_0 g over.grammar start states over.tables over.number over.begun stack xs i path e

  -- no edge leads to state 0
  pub never_entered : (q : ℕ) (x : SymbolNumber) → edge_at states q x ≡ Some 0 → ⊥
  never_entered q x e = no_edge_to_0 g over.grammar start states over.tables over.number over.begun q x e

  -- ---- slots
  -- those of the top state are the last symbols of the path
  pub slots : (stack : List ℕ) (xs : List SymbolNumber) (path : IsPath states stack xs) (q : ℕ) (top : last_of stack ≡ Some q) (s : Lr1State) (at : slice_get states q ≡ Some s) → IsEnd (max_prefix_of g s.items) (map (symbol_named g) xs)
  slots stack xs path q top s at = path_slots g over.grammar start states over.tables stack xs path q top s at

  -- the fixed ones are the last of those
  pub fixed_slots : (stack : List ℕ) (xs : List SymbolNumber) (path : IsPath states stack xs) (q : ℕ) (top : last_of stack ≡ Some q) (s : Lr1State) (at : slice_get states q ≡ Some s) → IsEnd (will_pop_of g s.items) (max_prefix_of g s.items)
  fixed_slots stack xs path q top s at = path_fixed g over.grammar start states over.tables stack xs path q top s at

  -- those of a state that it leads to are the last of those and the new symbol
  pub next_slots : (stack : List ℕ) (xs : List SymbolNumber) (path : IsPath states stack xs) (q : ℕ) (top : last_of stack ≡ Some q) (s : Lr1State) (at : slice_get states q ≡ Some s) (x : SymbolNumber) (p : ℕ) (u : Lr1State) → edge_at states q x ≡ Some p → slice_get states p ≡ Some u → (us : List Symbol) × (max_prefix_of g u.items ≡ us ++ symbol_named g x ∷ []) × IsEnd us (max_prefix_of g s.items)
  next_slots stack xs path q top s at x p u edge to = path_target g over.grammar start states over.tables stack xs path q top s at x p u edge to

  -- a reduction above a state takes nothing off of it, or all its fixed slots and none below its slots
  pub takes_off : (q : ℕ) (s : Lr1State) (ps : List ℕ) (xs : List SymbolNumber) (y d : ℕ) → slice_get states q ≡ Some s → IsWalk states q ps xs → Has states (end_of q ps) y d → ReachesTo (by_symbols.rules_of g) states q ps xs y d ⊎ Crosses g s xs d
  takes_off q s ps xs y d at w h = crosses g over.grammar start states over.tables q s ps xs y d at w h

  -- the same by places: k is that state's, and h that of the state that is left
  pub leaves : (stack : List ℕ) (xs : List SymbolNumber) (k q : ℕ) (s : Lr1State) (r y d h : ℕ) → IsPath states stack xs → slice_get stack k ≡ Some q → slice_get states q ≡ Some s → last_of stack ≡ Some r → Has states r y d → h + d ≡ length xs → (k ≤ h) ⊎ ((h < k) × (h + length (will_pop_of g s.items) ≤ k) × (k ≤ h + length (max_prefix_of g s.items)))
  leaves stack xs k q s r y d h path here at top has count = path_crosses g over.grammar start states over.tables stack xs k q s r y d h path here at top has count

  -- a reduction whose goto is left leaves a state on the stack, or takes off all its fixed slots and none below its slots
  pub pending : (c : Config) (rule : Rule) (value : Value) (k q : ℕ) (s : Lr1State) (h : ℕ) → IsStanding g states c → c.left ≡ Reduces rule value → slice_get c.states k ≡ Some q → slice_get states q ≡ Some s → h + rule.length ≡ length c.triples → (k ≤ h) ⊎ ((h < k) × (h + length (will_pop_of g s.items) ≤ k) × (k ≤ h + length (max_prefix_of g s.items)))
  pending c rule value k q s h standing e here at count =
      let l : LeftStands g states c.states c.lookahead (Reduces rule value) = subst (LeftStands g states c.states c.lookahead) e standing.left in
      let r = l.0 in
      let b = standing.stands in
      let n = rule_length g over.grammar states c.states rule r in
      let m = b.same_count in
      leaves c.states b.symbols k q s r.state r.production (length (r.by_symbols).right) h b.path here at r.top r.complete (omega arith)

  -- what that move does: the state at place h is the top then, and leads on over the nonterminal
  pub reduction_move : (items : List RunItem) (c : Config) (rule : Rule) (value : Value) (h q : ℕ) → IsStanding g states c → c.left ≡ Reduces rule value → slice_get c.states h ≡ Some q → h + rule.length ≡ length c.triples → (to : ℕ) × (edge_at states q (symbol.Nonterminal rule.nonterminal) ≡ Some to) × (move t items c ≡ ready t items (record (with_left c Pulls) { states = take (suc h) c.states ++ to ∷ []; triples = reduced_triples (with_left c Pulls) rule value }))
  reduction_move items c rule value h q standing e here count =
      let l : LeftStands g states c.states c.lookahead (Reduces rule value) = subst (LeftStands g states c.states c.lookahead) e standing.left in
      let b = standing.stands in
      let d = made g start states over.tables t over.known items over.grammar over.number over.begun c.states b.symbols rule l.0 b.path l.1 in
      let m = b.same_count in
      let n = path_length states c.states b.symbols b.path in
      let k : length c.states - rule.length ≡ suc h = omega arith in
      let top : last_of (below rule.length c.states) ≡ Some q = ap (λ (i : ℕ). last_of (take i c.states)) k ∙ last_taken c.states h q here in (
        d.to,
        sym (machine_goto g start states over.tables t over.known q rule.nonterminal) ∙ ap (λ (o : Option ℕ). goto_from t o rule.nonterminal) (sym top) ∙ d.goto,
        ap (makes t items (with_left c Pulls)) e ∙ ap (reduces_to t items (with_left c Pulls) rule value) d.goto ∙ ap (λ (i : ℕ). ready t items (record (with_left c Pulls) { states = take i c.states ++ d.to ∷ []; triples = reduced_triples (with_left c Pulls) rule value })) k,
      )

  -- what a shift does
  pub shift_move : (items : List RunItem) (c : Config) (to : ℕ) → c.left ≡ Shifts to → move t items c ≡ ready t items (record (with_left c Pulls) { states = c.states ++ to ∷ []; triples = shifted_triples t items (with_left c Pulls) c.lookahead; lookahead = None })
  shift_move items c to e = ap (makes t items (with_left c Pulls)) e

  -- what is left where the top state reduces
  pub asks_reduction : (items : List RunItem) (c : Config) (p : ℕ) → StandsOn states c.states (length c.triples) → c.mending ≡ None → action_on t (last_of c.states) (lookahead_terminal c.lookahead) ≡ ReduceBy p → (rule : Rule) × IsReducible g states c.states rule × (asks t items c ≡ calls_next t items c rule (acted t items c rule).calls (acted t items c rule).result)
  asks_reduction items c p b none act =
      let w = reduces items c (lookahead_terminal c.lookahead) p b act in
      (w.0, w.2, ap (λ (m : Option Mending). asks_in t items m c) none ∙ ap (does t items c) act ∙ ap (reduces_or t items c (no_action t items c)) w.1)

  -- and where it shifts
  pub asks_shift : (items : List RunItem) (c : Config) (to : ℕ) → c.mending ≡ None → action_on t (last_of c.states) (lookahead_terminal c.lookahead) ≡ Shift to → asks t items c ≡ with_left c (Shifts to)
  asks_shift items c to none act =
      ap (λ (m : Option Mending). asks_in t items m c) none ∙ ap (does t items c) act
