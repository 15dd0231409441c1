-- The machine after a shift and after a goto, as the callee's function sees it.
use Rattle.std.proofs.Common.{◌≡◌, ℕ, ◌-◌, ◌≤◌, true, false, List, [], ◌∷◌, ◌++◌, length, Option, Some, None, pos, map, slice_get, refl, sym, ap, ◌∙◌, subst}
use Rattle.std.specs.Prelude.{slice_set}
use Rattle.lp_repr.specs.declared.lr1.Lr1State.{Lr1State}
use Rattle.lp_repr.specs.declared.numbering.SymbolNumber.{SymbolNumber}
use Rattle.lp_repr.specs.declared.repr.Grammar.{Grammar}
use Rattle.lp_repr.specs.declared.values.Loc.TheVariants.{Default}
use Rattle.lp_repr.specs.declared.values.RunItem.{RunItem}
use Rattle.lp_driver.specs.DriverState.{last_of}
use Rattle.lp_driver.specs.RecoveryTurns.{end_or}
use Rattle.lp_driver.specs.Values.{Token, Spanned, Value}
use Rattle.lp_machine.specs.declared.config.Config.{Config}
use Rattle.lp_machine.specs.declared.config.Left.{Left}
use Rattle.lp_machine.specs.Move.{shifts, shifted_triples, reduces_to}
use Rattle.lp_machine.specs.Moves.{ready, ready_from}
use Rattle.lp_machine.specs.ReductionSpan.{below}
use Rattle.lp_machine.specs.StackMachine.{with_left, reduced_triples}
use Rattle.lp_machine.specs.Tables.{Tables}
use Rattle.lp_core.specs.declared.value.Tag.TheVariants as tag
use Rattle.lp_core.specs.Datum.{Cell}
use Rattle.lp_core.specs.Flow.{State}
use Rattle.lp_core.specs.Reading.{empty}
use Rattle.lp_core.specs.Store.{Held, States}
use Rattle.lp_core.specs.Val.{Val, Plain}
use Rattle.lp_question_laws.specs.Tables.Acts.{symbol_val}
use Rattle.lp_code_laws.proofs.Ends.Lists.{get_same}
use Rattle.lp_ascent.specs.Slots.{Layout, is_cell, has_lookahead}
use Rattle.lp_turn_laws.specs.Paths.Over.{IsOver}
use Rattle.lp_turn_laws.specs.Paths.Walks.{edge_at}
use Rattle.lp_back_end_laws.specs.Call.Slots.{layout}
use Rattle.lp_back_end_laws.specs.Call.Frames.{AreSlots, AreApart, comes_as_cell}
use Rattle.lp_back_end_laws.specs.Call.Handing.{Pushed, TakenOut, handed_slots}
use Rattle.lp_back_end_laws.specs.Call.Standing.{Holds, Sees, at_end, known, Handed, sees, pulls, Kept, OnTop, Entry, Reduced, place_of, as_users, look_val}
use Rattle.lp_back_end_laws.proofs.Call.Edges.{edge_hands, on_top_pushed, last_pushed, below_none}
use Rattle.lp_back_end_laws.proofs.Call.Entering.{handed_are, handed_apart, list_out}
use Rattle.lp_back_end_laws.proofs.Call.Moves.{sets_left, once, ready_sets, ends_there}

-- the same but for what is left
abbrev pub Same : Config → Config → Type 0
Same c d = (left : Left) × (d ≡ with_left c left)

module _ (t : Tables) (items : List RunItem) (never : t.error ≡ None) where
  ready_same : (c : Config) → Same c (ready t items c)
  ready_same c = ((ready t items c).left, sets_left (ready t items) (ready_sets t items never) c)

  ready_again : (c : Config) → ready t items c ≡ ready t items (ready t items c)
  ready_again c = sym (once (ready t items) (ready_sets t items never) c)

  -- ---- a shift
  -- the symbol of a token
  abbrev pub shifted_symbol : (c : Config) (x : Spanned Token) → Holds t c x → Spanned Value
  shifted_symbol c x h = (x.0, t.value h.index x.1, x.2)

  abbrev shifted : Config → ℕ → Config
  shifted c p = record c { states = c.states ++ p ∷ []; triples = shifted_triples t items c c.lookahead; lookahead = None }

  module _ (c : Config) (x : Spanned Token) (h : Holds t c x) (p : ℕ) where
    shift_triples : shifted_triples t items c c.lookahead ≡ c.triples ++ shifted_symbol c x h ∷ []
    shift_triples = ap (shifted_triples t items c) h.in_hand

    pub shift_pushes : c.mending ≡ None → Pushed c (shifts t items c p) p (shifted_symbol c x h)
    shift_pushes whole =
        let r = ready_same (shifted c p) in
        record { states = ap (λ d. d.states) r.1; triples = ap (λ d. d.triples) r.1 ∙ shift_triples; mending = ap (λ d. d.mending) r.1 ∙ whole }

    -- items and calls are the same
    pub shift_taken : (shifts t items c p).taken ≡ c.taken
    shift_taken = ap (λ d. d.taken) (ready_same (shifted c p)).1

    pub shift_calls : (shifts t items c p).calls ≡ c.calls
    shift_calls = ap (λ d. d.calls) (ready_same (shifted c p)).1

    -- the callee is to pull the next token
    pub shift_hands : (k : Layout) → has_lookahead k ≡ false → Handed t items k (shifts t items c p) []
    shift_hands k by_terminal =
        let r = ready_same (shifted c p) in
        let last : (shifts t items c p).last ≡ c.last = ap (λ d. d.last) r.1 in
        pulls by_terminal (ap (λ d. d.lookahead) r.1)
        (ap (λ d. end_or (last_of d.triples) Default) r.1 ∙ ap (λ xs. end_or (last_of xs) Default) shift_triples ∙ ap (λ o. end_or o Default) (last_pushed c.triples (shifted_symbol c x h)) ∙ h.ends ∙ sym last)
        (ready_again (shifted c p))

  -- ---- a goto
  -- at the end of a reduction that takes nothing of a frame
  module _ {states : List Lr1State} {variant : ℕ → ℕ} (s : ℕ) (c now : Config) (v : Val) (r : Reduced states t items variant s c 0 v now) (p : ℕ) where
    abbrev pub gone : Config
    gone = reduces_to t items now r.rule r.value (Some p)

    abbrev pub made_symbol : Spanned Value
    made_symbol = ((place_of now r.rule).0, r.value, (place_of now r.rule).1)

    abbrev going : Config
    going = record now { states = below r.rule.length now.states ++ p ∷ []; triples = reduced_triples now r.rule r.value }

    going_triples : going.triples ≡ c.triples ++ made_symbol ∷ []
    going_triples = ap (λ xs. xs ++ made_symbol ∷ []) (r.triples ∙ below_none c.triples)

    pub goto_pushes : Pushed c gone p made_symbol
    goto_pushes =
        let g = ready_same going in
        record {
          states = ap (λ d. d.states) g.1 ∙ ap (λ xs. xs ++ p ∷ []) (r.states_below ∙ below_none c.states);
          triples = ap (λ d. d.triples) g.1 ∙ going_triples;
          mending = ap (λ d. d.mending) g.1 ∙ r.mending;
        }

    pub goto_taken : gone.taken ≡ now.taken
    goto_taken = ap (λ d. d.taken) (ready_same going).1

    pub goto_calls : gone.calls ≡ now.calls
    goto_calls = ap (λ d. d.calls) (ready_same going).1

    -- the callee is handed the lookahead
    goto_sees : (look : Option (Spanned Token)) → Kept t items now (place_of now r.rule).1 look → Sees t items gone look
    goto_sees None kept =
        let g = ready_same going in
        let none : gone.lookahead ≡ None = ap (λ d. d.lookahead) g.1 ∙ kept.0.nothing in
        let past : length items ≤ gone.taken = subst (λ n. length items ≤ n) (sym goto_taken) kept.0.all_taken in
        let last : gone.last ≡ now.last = ap (λ d. d.last) g.1 in
        at_end (record { nothing = none; all_taken = past })
        (ap (λ d. end_or (last_of d.triples) Default) g.1 ∙ ap (λ o. end_or o Default) (last_pushed (below r.rule.length now.triples) made_symbol) ∙ kept.1 ∙ sym last)
        (ends_there t items gone none (ready_again going) past)
    goto_sees (Some x) kept =
        let g = ready_same going in
        let hand : gone.lookahead ≡ Some (record { token = x; index = kept.index }) = ap (λ d. d.lookahead) g.1 ∙ kept.in_hand in
        let last : gone.last ≡ now.last = ap (λ d. d.last) g.1 in
        known x (record { index = kept.index; in_hand = hand; terminal = kept.terminal; ends = kept.ends ∙ sym last })
        (ready_again going ∙ ap (ready_from t items gone) hand)

    pub goto_hands : (k : Layout) → has_lookahead k ≡ true → Handed t items k gone (look_val r.look ∷ [])
    goto_hands k by_name = sees r.look by_name r.look_taken (goto_sees r.look r.kept)

-- ---- before the call
module _ {g : Grammar} {start : ℕ} {states : List Lr1State} {t : Tables} (over : IsOver g start states t) (items : List RunItem) (given : List Val) where
  -- the frame's own slots are full, and the machine has pushed an edge's target with a symbol: so the call of its function begins
  pub enters : (s : ℕ) (x : SymbolNumber) (p : ℕ) (c after : Config) (y : Spanned Value) (list : ℕ) (own out look : List Val) (st : State) (cells cells_out : List Held)
      → edge_at states s x ≡ Some p → OnTop states s c → Pushed c after p y → Handed t items (layout g states p) after look
      → AreSlots (layout g states s) (is_cell (layout g states s)) 0 c.triples cells own → AreApart own → slice_get cells list ≡ Some (States (map pos c.states))
      → TakenOut (layout g states s) ((layout g states p).fixed - 1) c.triples own out cells cells_out
      → st.store.cells ≡ slice_set cells_out list (States (map pos after.states)) → st.store.taken ≡ after.taken → st.calls ≡ as_users after.calls
      → (let slots = handed_slots (layout g states s) (layout g states p) out (symbol_val y) in Entry g states t items given p after list slots (given ++ (empty tag.Tuple ∷ Plain (Cell list) ∷ look) ++ slots) st)
  enters s x p c after y list own out look st cells cells_out edge top pushed handed are apart there took cells_are taken calls =
      let hands = edge_hands over s x p edge in
      record {
        on_top = on_top_pushed over s x p c after y edge top pushed;
        mending = pushed.mending;
        look = look;
        handed = handed;
        values = refl;
        slots_are = subst (λ held. AreSlots (layout g states p) (comes_as_cell (layout g states p)) 0 after.triples held (handed_slots (layout g states s) (layout g states p) out (symbol_val y))) (sym cells_are)
            (subst (λ xs. AreSlots (layout g states p) (comes_as_cell (layout g states p)) 0 xs (slice_set cells_out list (States (map pos after.states))) (handed_slots (layout g states s) (layout g states p) out (symbol_val y))) (sym pushed.triples)
            (handed_are (layout g states s) (layout g states p) hands y list (map pos c.states) (map pos after.states) are apart took there));
        apart = handed_apart (layout g states s) (layout g states p) hands y list (map pos c.states) (map pos after.states) are apart took there;
        follows = record {
          states_are = ap (λ held. slice_get held list) cells_are ∙ get_same cells_out list (list_out (layout g states s) (layout g states p) hands y list (map pos c.states) (map pos after.states) are apart took there);
          taken = taken;
          calls = calls;
        };
      }
