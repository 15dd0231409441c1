-- What a state shifts is a shifted terminal.
use Rattle.std.proofs.Common.{◌≡◌, ℕ, List, Some, slice_get, sym, ap, ◌∙◌}
use Rattle.std.specs.BTreeMap.{get}
use Rattle.std.specs.Ordering.{eq_by_cmp, nat_cmp}
use Rattle.lp_repr.specs.declared.lr1.Lr1State.{Lr1State}
use Rattle.lp_repr.specs.declared.lr1.Token.TheVariants.{Terminal}
use Rattle.lp_repr.specs.declared.numbering.SymbolNumber.TheVariants as symbol
use Rattle.lp_machine.specs.Lookup.{act_at, act_in}
use Rattle.lp_machine.specs.declared.lookup.Act.TheVariants.{Shift}
use Rattle.lp_turn_laws.specs.Paths.Walks.{edge_from}
use Rattle.lp_turn_laws.proofs.Paths.Acts.{act_shift}
use Rattle.lp_back_end_laws.specs.Call.Shifted.{IsShifted}
use Rattle.lp_back_end_laws.proofs.Call.Layouts.{entry_place, same_key}

pub shifted_at : (states : List Lr1State) (q n to : ℕ) (s : Lr1State) → slice_get states q ≡ Some s → act_at states q (Terminal n) ≡ Shift to → IsShifted states n
shifted_at states q n to s at acts =
    let does : act_in (Some s) (Terminal n) ≡ Shift to = ap (λ o. act_in o (Terminal n)) (sym at) ∙ acts in
    let edge = act_shift (Some s) (Terminal n) to does in
    let same : edge.0 ≡ n = (let e = edge.1 in cc) in
    let found : get nat_cmp s.shifts n ≡ Some to = ap (λ k. edge_from (Some s) (symbol.Terminal k)) (sym same) ∙ edge.2 in
    let w = entry_place (eq_by_cmp nat_cmp n) (s.shifts).entries to found in
    record { number = q; state = s; there = at; place = w.0; target = to; entry = w.2 ∙ ap (λ k. Some (k, to)) (sym (same_key n w.1 w.3)) }
