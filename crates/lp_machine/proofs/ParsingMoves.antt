-- Turns of a driver that mends no error, as moves of the machine.
use Rattle.std.proofs.Common.{◌≡◌, ℕ, zero, suc, ◌+◌, ℤ, pos, negsuc, ◌<◌, ◌≤◌, Bool, true, false, List, [], ◌∷◌, ◌++◌, length, drop, Option, Some, None, Err, refl, sym, ap, ◌∙◌, subst}
use Rattle.std.specs.Prelude.{map, slice_get, nat_lt, if◌then◌else◌, is_some, position}
use Rattle.std.specs.List.{list_any}
use Rattle.std.proofs.lemmas.Bool.{le-ltb}
use Rattle.lp_repr.specs.declared.lr1.Lr1State.{Lr1State}
use Rattle.lp_repr.specs.declared.lr1.Token.{Token as LrToken}
use Rattle.lp_repr.specs.declared.lr1.Token.TheVariants.{Eof}
use Rattle.lp_repr.specs.declared.values.Loc.{Loc}
use Rattle.lp_repr.specs.declared.values.Loc.TheVariants.{Default}
use Rattle.lp_repr.specs.declared.values.RunItem.{RunItem}
use Rattle.lp_repr.specs.declared.values.RunItem.TheVariants as item
use Rattle.lp_repr.specs.declared.values.UserError.TheVariants as user
use Rattle.lp_repr.specs.declared.values.ParseError.TheVariants as failure
use Rattle.lp_driver.specs.Values.{Text, Token, Spanned, Value, Failure, Gives, Fails}
use Rattle.lp_driver.specs.DriverState as driver
use Rattle.lp_driver.specs.DriverState.{Recovering, Driver, Mode, Parsing, Reducing, Next, last_of, with_mode}
use Rattle.lp_driver.specs.ParsingTurns as turn
use Rattle.lp_machine.specs.declared.lookup.Act.{Act}
use Rattle.lp_machine.specs.declared.lookup.Act.TheVariants.{Shift, ReduceBy, NoAction}
use Rattle.lp_machine.specs.declared.config.Left.TheVariants.{Pulls, Shifts}
use Rattle.lp_machine.specs.declared.config.Config.{Config}
use Rattle.lp_machine.specs.declared.by_tables.TableDefinition.{TableDefinition}
use Rattle.lp_machine.specs.Tables.{Tables}
use Rattle.lp_machine.specs.Lookup.{act_in, act_at, reduction_at, reduction_act, reduction_in, same_token}
use Rattle.lp_machine.specs.ExpectedList.{action_on}
use Rattle.lp_machine.specs.StackMachine.{with_left, over}
use Rattle.lp_machine.specs.Moves.{no_action, does, asks, asks_error, ready}
use Rattle.lp_machine.specs.Move.{located, token_in, takes, pulls, shifted_triples, moves}
use Rattle.lp_machine.specs.TableAnswers.{number_of, entry_of, tables_in, with_steps, with_calls, says_or_sticks, located_item, table_answers}
use Rattle.lp_machine.specs.DriverStanding.{in_hand, mending_of, stacks_of, stands}
use Rattle.lp_machine.proofs.MoreMoves.{Leads}
use Rattle.lp_machine.proofs.KeptCalls.{no_action_keeps, does_keeps, asks_keeps, ready_keeps, takes_keeps}
use Rattle.lp_machine.proofs.ExpectedLists.{chosen, within, at_place, past_place}
use Rattle.lp_machine.proofs.TurnsMove.{EndsWith, Fits, Follows, Goes, Comes, before, asked, enters, at_state, listed, reduction_goes, top_number, one_number}

-- no state shifts the end of input
reduction_or : (o : Option (List LrToken × ℕ)) (to : ℕ) → reduction_act o ≡ Shift to → ⊥
reduction_or None to h = cc
reduction_or (Some r) to h = cc

reduces_at : (reductions : List (List LrToken × ℕ)) (o : Option ℕ) (to : ℕ) → reduction_at reductions o ≡ Shift to → ⊥
reduces_at reductions None to h = cc
reduces_at reductions (Some i) to h = reduction_or (slice_get reductions i) to h

shifts_none : (o : Option Lr1State) (to : ℕ) → act_in o Eof ≡ Shift to → ⊥
shifts_none None to h = cc
shifts_none (Some state) to h = reduces_at state.reductions (position (λ r. list_any (λ t. same_token t Eof) r.0) state.reductions) to h

end_shifts_none : (d : TableDefinition) (state to : ℕ) → (tables_in d).at_eof state ≡ Shift to → ⊥
end_shifts_none d state to h = shifts_none (slice_get d.tables.states.now state) to h

module _ (items : List RunItem) (w : Driver Value) (taken : ℕ) (rest : w.items ≡ drop taken items) (begin : w.begin ≡ Default) where
  -- an error is to be mended, or ends the run
  error_goes : (l : Option driver.Lookahead) → EndsWith l w.items → (d : TableDefinition) (f : Failure) (mends : Bool)
      → Follows (tables_in d) items
      (if mends then asks_error (tables_in d) items (stacks_of w d.calls taken l (Some (record { error = f; dropped = [] }))) else over (stacks_of w d.calls taken l None) (Err f))
      (turn.error_or table_answers w l mends f d)
  error_goes l ends d f true =
      Goes (with_mode w (Reducing (record { error = f; dropped = []; lookahead = l }))) d taken refl (record { rest = rest; ends = ends; begin = begin }) (0, refl)
  error_goes l ends d f false = Comes (Fails f) d _ (0, refl) refl refl

  token_error : (l : driver.Lookahead) (d : TableDefinition)
      → Follows (tables_in d) items (no_action (tables_in d) items (stacks_of w d.calls taken (Some l) None)) (turn.error_at_token table_answers w l d)
  token_error l d =
      asked (tables_in d) items _ d.left d _ _ (no_action_keeps (tables_in d) items (stacks_of w d.calls taken (Some l) None)) (λ k.
      listed items (stacks_of w d.calls taken (Some l) None) w.states (with_steps d k) (Some l.token) (is_some (tables_in d).error) _ refl (λ found j.
      error_goes (Some l) tt (with_steps (with_steps d k) j) (failure.UnrecognizedToken l.token found) (is_some (tables_in d).error)))

  end_error : w.items ≡ [] → (d : TableDefinition)
      → Follows (tables_in d) items (no_action (tables_in d) items (stacks_of w d.calls taken None None)) (turn.error_at_end table_answers w d)
  end_error none d =
      asked (tables_in d) items _ d.left d _ _ (no_action_keeps (tables_in d) items (stacks_of w d.calls taken None None)) (λ k.
      listed items (stacks_of w d.calls taken None None) w.states (with_steps d k) None (is_some (tables_in d).error) _ refl (λ found j.
      error_goes None none (with_steps (with_steps d k) j) (failure.UnrecognizedEof w.last found) (is_some (tables_in d).error)))

  -- with a token in hand
  shift_goes : (l : driver.Lookahead) (to : ℕ) (d : TableDefinition)
      → Follows (tables_in d) items (with_left (stacks_of w d.calls taken (Some l) None) (Shifts to)) (turn.by_action table_answers w l (pos (suc to)) d)
  shift_goes l to d =
      let c = stacks_of w d.calls taken (Some l) None in
      asked (tables_in d) items _ d.left d _ _ refl (λ k.
      Goes (turn.shifted table_answers w l to ((tables_in d).value l.index l.token.1)) (with_steps d k) taken refl (record { rest = rest; ends = tt; begin = begin })
      (suc zero, ap (λ ns. ready (tables_in d) items (record c { states = ns; triples = shifted_triples (tables_in d) items c c.lookahead; lookahead = None })) (sym (one_number w.states to))))

  token_does : (l : driver.Lookahead) (d : TableDefinition) (act : Act)
      → Follows (tables_in d) items (does (tables_in d) items (stacks_of w d.calls taken (Some l) None) act) (driver.on_answer (says_or_sticks (entry_of act) d) (turn.by_action table_answers w l))
  token_does l d act =
      let t = tables_in d in
      let c = stacks_of w d.calls taken (Some l) None in
      enters t items _ act d (turn.by_action table_answers w l) (does_keeps t items c act)
      (λ is. subst (λ a. Follows t items (does t items c a) (turn.by_action table_answers w l (pos 0) d)) (sym is) (token_error l d))
      (λ to is. subst (λ a. Follows t items (does t items c a) (turn.by_action table_answers w l (pos (suc to)) d)) (sym is) (shift_goes l to d))
      (λ p is. subst (λ a. Follows t items (does t items c a) (turn.by_action table_answers w l (negsuc p) d)) (sym is)
      (asked t items _ d.left d _ _ (does_keeps t items c (ReduceBy p)) (λ k.
      reduction_goes items w taken (Some l) None (with_steps d k) (λ r d'. turn.after_reduction table_answers w l r r.ending d') (record {
        valued = λ calls value. Comes (Fails (failure.ExtraToken l.token)) (with_calls (with_steps d k) calls) _ (0, refl) refl refl;
        failed = λ calls f. Comes (Fails f) (with_calls (with_steps d k) calls) _ (0, refl) refl refl;
        goes = λ calls states symbols. Goes _ (with_calls (with_steps d k) calls) taken refl (record { rest = rest; ends = tt; begin = begin }) (0, refl);
      }) (no_action t items c) (no_action_keeps t items c) p)))

  pub token_goes : (l : driver.Lookahead) (d : TableDefinition)
      → Follows (tables_in d) items (ready (tables_in d) items (stacks_of w d.calls taken (Some l) None)) (turn.at_token table_answers w l d)
  token_goes l d =
      let t = tables_in d in
      let same = ready_keeps t items (stacks_of w d.calls taken (Some l) None) in
      at_state t items _ (last_of w.states) d _ same (λ s top.
      asked t items _ d.left d _ _ same (λ k.
      subst (λ o. Follows t items (does t items (stacks_of w d.calls taken (Some l) None) (action_on t o (Some l.index))) (driver.on_answer (says_or_sticks (entry_of (action_on t (Some (number_of s)) (Some l.index))) (with_steps d k)) (turn.by_action table_answers w l))) (sym (top_number w.states s top))
      (token_does l (with_steps d k) (action_on t (Some (number_of s)) (Some l.index)))))

  -- at the end of the items
  end_does : w.items ≡ [] → (d : TableDefinition) (act : Act) → ((to : ℕ) → act ≡ Shift to → ⊥)
      → Follows (tables_in d) items (does (tables_in d) items (stacks_of w d.calls taken None None) act) (driver.on_answer (says_or_sticks (entry_of act) d) (turn.by_eof_action table_answers w))
  end_does none d act shifts =
      let t = tables_in d in
      let c = stacks_of w d.calls taken None None in
      enters t items _ act d (turn.by_eof_action table_answers w) (does_keeps t items c act)
      (λ is. subst (λ a. Follows t items (does t items c a) (turn.by_eof_action table_answers w (pos 0) d)) (sym is) (end_error none d))
      (λ to is. absurd (shifts to is))
      (λ p is. subst (λ a. Follows t items (does t items c a) (turn.by_eof_action table_answers w (negsuc p) d)) (sym is)
      (asked t items _ d.left d _ _ (does_keeps t items c (ReduceBy p)) (λ k.
      reduction_goes items w taken None None (with_steps d k) (λ r d'. turn.ends_or table_answers w (Parsing None) r r.ending d') (record {
        valued = λ calls value. Comes (Gives value) (with_calls (with_steps d k) calls) _ (0, refl) refl refl;
        failed = λ calls f. Comes (Fails f) (with_calls (with_steps d k) calls) _ (0, refl) refl refl;
        goes = λ calls states symbols. Goes _ (with_calls (with_steps d k) calls) taken refl (record { rest = rest; ends = tt; begin = begin }) (0, refl);
      }) (no_action t items c) (no_action_keeps t items c) p)))

  end_goes : w.items ≡ [] → (d : TableDefinition) → Follows (tables_in d) items (asks (tables_in d) items (stacks_of w d.calls taken None None)) (turn.at_end table_answers w d)
  end_goes none d =
      let t = tables_in d in
      let same = asks_keeps t items (stacks_of w d.calls taken None None) in
      at_state t items _ (last_of w.states) d _ same (λ s top.
      asked t items _ d.left d _ _ same (λ k.
      subst (λ o. Follows t items (does t items (stacks_of w d.calls taken None None) (action_on t o None)) (driver.on_answer (says_or_sticks (entry_of (action_on t (Some (number_of s)) None)) (with_steps d k)) (turn.by_eof_action table_answers w))) (sym (top_number w.states s top))
      (end_does none (with_steps d k) (action_on t (Some (number_of s)) None) (λ to is. end_shifts_none d (number_of s) to is))))

  -- an item is taken
  terminal_goes : (more : List RunItem) → more ≡ drop (taken + 1) items → (d : TableDefinition) (token : Spanned Token) (o : Option ℕ)
      → Follows (tables_in d) items (takes (tables_in d) items (record (stacks_of w d.calls taken None None) { taken = taken + 1; last = token.2 }) token o) (turn.taken table_answers (with_mode w (Parsing None)) more token o d)
  terminal_goes more after d token None =
      listed items (record (stacks_of w d.calls taken None None) { taken = taken + 1; last = token.2 }) w.states d (Some token) false _ refl (λ found k.
      Comes (Fails (failure.UnrecognizedToken token found)) (with_steps d k) _ (0, refl) refl refl)
  terminal_goes more after d token (Some i) =
      Goes _ d (taken + 1) refl (record { rest = after; ends = tt; begin = begin }) (0, refl)

  item_goes : (more : List RunItem) → more ≡ drop (taken + 1) items → (d : TableDefinition) (next : RunItem)
      → Follows (tables_in d) items (pulls (tables_in d) items (stacks_of w d.calls taken None None) (Some next)) (turn.pulled table_answers (with_mode w (Parsing None)) more (located_item (tables_in d).is_located next) d)
  item_goes more after d (item.Fault name) = Comes (Fails (failure.User (user.Fault name))) d _ (0, refl) refl refl
  item_goes more after d (item.Token a token b) =
      let at = token_in (tables_in d) items a token b in
      asked (tables_in d) items _ d.left d _ _ (takes_keeps (tables_in d) items (record (stacks_of w d.calls taken None None) { taken = taken + 1; last = at.2 }) at ((tables_in d).terminal token)) (λ k.
      terminal_goes more after (with_steps d k) (token_in (tables_in d) items a token b) ((tables_in d).terminal token))

  pull_goes : (more : List RunItem) → w.items ≡ more → (d : TableDefinition)
      → Follows (tables_in d) items (ready (tables_in d) items (stacks_of w d.calls taken None None)) (turn.pull table_answers (with_mode w (Parsing None)) more d)
  pull_goes [] none d =
      let t = tables_in d in
      let c = stacks_of w d.calls taken None None in
      let e : ready t items c ≡ asks t items c = chosen (nat_lt taken (length items)) false _ _ (le-ltb taken (length items) (past_place items taken (sym rest ∙ none))) in
      subst (λ b. Follows t items b (turn.at_end table_answers (with_mode w (Parsing None)) d)) (sym e) (end_goes none d)
  pull_goes (next ∷ more) is d =
      let t = tables_in d in
      let c = stacks_of w d.calls taken None None in
      let place = at_place items taken next more (sym rest ∙ is) in
      let e : ready t items c ≡ with_left c Pulls = chosen (nat_lt taken (length items)) true _ _ (within taken (length items) place.2) in
      before t items _ _ _ (suc zero, ap (moves t items (suc zero)) e ∙ ap (pulls t items c) place.0) (item_goes more (sym place.1) d next)

  pub parsing_goes : (l : Option driver.Lookahead) (d : TableDefinition)
      → Follows (tables_in d) items (ready (tables_in d) items (stacks_of w d.calls taken l None)) (turn.parsing table_answers (with_mode w (Parsing l)) l d)
  parsing_goes None d = pull_goes w.items refl d
  parsing_goes (Some l) d = token_goes l d
