-- A state has no more slots than some production has symbols.
use Rattle.std.proofs.Common.{◌≡◌, ℕ, ◌<◌, ◌^◌, List, length, Some, slice_get, ⊎_elim, arith}
use Rattle.lp_repr.specs.Closure.{HasItem}
use Rattle.lp_repr.specs.Numbering.{productions_of}
use Rattle.lp_repr.specs.StateParts.{max_prefix_of}
use Rattle.lp_repr.specs.declared.lr1.Lr1State.{Lr1State}
use Rattle.lp_repr.specs.declared.repr.Grammar.{Grammar}
use Rattle.lp_repr.specs.declared.repr.Production.{Production}
use Rattle.lp_machine.specs.Tables.{Tables}
use Rattle.lp_turn_laws.specs.Paths.Over.{IsOver}
use Rattle.lp_turn_laws.proofs.Paths.Slots.{item_within, greatest_dot}
use Rattle.lp_ascent.specs.Slots.{count_of}
use Rattle.lp_back_end_laws.specs.Call.Slots.{layout}
use Rattle.lp_back_end_laws.proofs.Call.Layouts.{count_is}

pub slots_few : {g : Grammar} {start : ℕ} {states : List Lr1State} {t : Tables} → IsOver g start states t → ((i : ℕ) (production : Production) → slice_get (productions_of g) i ≡ Some production → length production.symbols < 2 ^ 64)
    → (q : ℕ) (s : Lr1State) → slice_get states q ≡ Some s → count_of (layout g states q) < 2 ^ 64
slots_few {g} {start} {states} over few q s at =
    let count = count_is over q s at in
    let greatest = greatest_dot g over.grammar start states over.tables q s at in
    ⊎_elim
    (λ (none : length (max_prefix_of g s.items) ≡ 0). omega (arith, count, none))
    (λ (w : (p : ℕ) × HasItem s.items p (length (max_prefix_of g s.items))).
    let item = w.1 in
    let r = item_within g over.grammar start states over.tables q s item.0 item.1 at item.2 in
    let small = few (item.1).production r.0 r.1 in
    omega (arith, count, small, r.2, item.4))
    greatest.reached
