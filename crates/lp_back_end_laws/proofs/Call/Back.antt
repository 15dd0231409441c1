-- A callee that succeeded comes back to its caller.
use Rattle.std.proofs.Common.{◌≡◌, ℕ, ◌+◌, ◌-◌, ◌<◌, true, List, pos, map, Some, slice_get, ap, ◌∙◌, subst, ⊎_elim, arith}
use Rattle.std.specs.Prelude.{slice_set}
use Rattle.lp_repr.specs.declared.lr1.Lr1State.{Lr1State}
use Rattle.lp_repr.specs.declared.numbering.SymbolNumber.{SymbolNumber}
use Rattle.lp_repr.specs.declared.repr.Grammar.{Grammar}
use Rattle.lp_repr.specs.declared.values.RunItem.{RunItem}
use Rattle.lp_driver.specs.Values.{Spanned, Value}
use Rattle.lp_machine.specs.declared.config.Config.{Config}
use Rattle.lp_machine.specs.declared.lookup.Rule.{Rule}
use Rattle.lp_machine.specs.Move.{moves}
use Rattle.lp_machine.specs.Tables.{Tables}
use Rattle.lp_core.specs.Flow.{State}
use Rattle.lp_core.specs.Store.{Held, States}
use Rattle.lp_core.specs.Val.{Val}
use Rattle.lp_question_laws.specs.Tables.Acts.{symbol_val}
use Rattle.lp_ascent.specs.Slots.{is_cell}
use Rattle.lp_turn_laws.specs.Paths.Over.{IsOver}
use Rattle.lp_turn_laws.specs.Paths.Walks.{edge_at}
use Rattle.lp_turn_laws.proofs.Paths.Crossing.{no_edge_to_0}
use Rattle.lp_back_end_laws.specs.Call.Slots.{layout}
use Rattle.lp_back_end_laws.specs.Call.Frames.{AreSlots, AreApart, Emptied}
use Rattle.lp_back_end_laws.specs.Call.Handing.{Pushed, TakenOut, handed_slots}
use Rattle.lp_back_end_laws.specs.Call.Law.{Result, Takes}
use Rattle.lp_back_end_laws.specs.Call.Back.{Back}
use Rattle.lp_back_end_laws.proofs.Call.Edges.{edge_hands, item_within, reduced_back, by_value_left}
use Rattle.lp_back_end_laws.proofs.Call.Returning.{emptied_back, list_returned, slots_after}

module _ {g : Grammar} {start : ℕ} {states : List Lr1State} {t : Tables} (over : IsOver g start states t) (items : List RunItem) (variant : ℕ → ℕ) (most : ℕ) where
  -- some of the callee's slots are taken: it isn't state 0's
  pub takes_some : (s : ℕ) (x : SymbolNumber) (p d : ℕ) (rule : Rule) → edge_at states s x ≡ Some p → Takes p d rule → 0 < d
  takes_some s x p d rule edge takes =
      ⊎_elim (λ (first : (p ≡ 0) × (rule.is_start ≡ true)). absurd (no_edge_to_0 g over.grammar start states over.tables over.number over.begun s x (edge ∙ ap Some first.0))) (λ (some : 0 < d). some) takes

  pub comes_back : (s : ℕ) (x : SymbolNumber) (p : ℕ) (c from : Config) (y : Spanned Value) (list : ℕ) (own out : List Val) (st : State) (before cells_out : List Held) (v : Val) (st' : State)
      → edge_at states s x ≡ Some p → Pushed c from p y
      → AreSlots (layout g states s) (is_cell (layout g states s)) 0 c.triples before own → AreApart own → slice_get before list ≡ Some (States (map pos c.states))
      → TakenOut (layout g states s) ((layout g states p).fixed - 1) c.triples own out before cells_out
      → st.store.cells ≡ slice_set cells_out list (States (map pos from.states))
      → (r : Result g states t items variant most p from (handed_slots (layout g states s) (layout g states p) out (symbol_val y)) st v st')
      → Back g states t items variant s p c list own before st'.store.cells r.inner (moves t items r.made from)
  comes_back s x p c from y list own out st before cells_out v st' edge pushed are apart there took cells_are r =
      let l = layout g states s in
      let k = layout g states p in
      let hands = edge_hands over s x p edge in
      let some = takes_some s x p r.d r.reduced.rule edge r.takes in
      let e : ℕ = r.d - 1 in
      let more : r.d ≡ e + 1 = omega (arith, some) in
      let w = item_within over p r.reduced.production r.d r.reduced.item some in
      let called : Emptied k r.d (handed_slots l k out (symbol_val y)) (slice_set cells_out list (States (map pos from.states))) st'.store.cells = subst (λ held. Emptied k r.d (handed_slots l k out (symbol_val y)) held st'.store.cells) cells_are r.cells in
      let cells = emptied_back l k hands y list (map pos c.states) (map pos from.states) are apart took there r.d e more w.0 w.1 called in
      record {
        d = e;
        reduced = reduced_back over items variant s x p c from (moves t items r.made from) y r.d e r.inner edge pushed more r.reduced;
        cells = cells;
        list_there = list_returned l k hands y list (map pos c.states) (map pos from.states) are apart took there r.d e more w.0 w.1 called;
        returns = λ many. omega (arith, many, w.0);
        goes_on = λ one. slots_after l e c.triples own before (slice_set st'.store.cells list (States (map pos c.states))) are apart cells (by_value_left l k hands one e (omega (arith, more, w.1)));
      }
