-- What is known of the counts of a grammar that may be emitted, and of the tables of a module that runs.
use Rattle.std.proofs.Common.{◌≡◌, ℕ, ◌*◌, ◌<◌, ◌≤◌, ◌^◌, ℤ, min, List, [], ◌∷◌, length, map, All, Some, slice_get, ap, ◌∙◌, subst, arith, length-append}
use Rattle.std.specs.List.{flat_map}
use Rattle.std.proofs.Math.Nat.{mul-le-mul_right}
use Rattle.std.proofs.lemmas.List.FromFn.{length-map-range_with_len}
use Rattle.std.proofs.lemmas.List.Concat.{flat_map-cons}
use Rattle.std.proofs.lemmas.Option.{get_or_from_slice_get, slice_get_within}
use Rattle.lp_repr.specs.Numbering.{productions_of, terminals_of}
use Rattle.lp_repr.specs.declared.lr1.Lr1State.{Lr1State}
use Rattle.lp_repr.specs.declared.lr1.StartStates.{StartStates}
use Rattle.lp_repr.specs.declared.repr.Grammar.{Grammar}
use Rattle.lp_repr.specs.declared.values.RunItem.{RunItem}
use Rattle.lp_driver.specs.Values.{Text}
use Rattle.lp_core.specs.declared.expr.Table.{Table}
use Rattle.lp_emitted.specs.Emittable.{IsEmittable, greatest_of}
use Rattle.lp_emitted.proofs.EntriesFit.{kept_greatest, within_greatest}
use Rattle.lp_maker.specs.Making.{entries_of}
use Rattle.lp_parts.specs.Entries.{action_entries, action_entry, action_row}
use Rattle.lp_table.specs.Starts.{Start}
use Rattle.lp_view.specs.PartLists.{Form}
use Rattle.lp_run.specs.RunTold.{IsCounted}
use Rattle.lp_question_laws.proofs.Tables.Built.{actions_there}
use Rattle.lp_agreement.proofs.Composed.Runs.{built_module, runs_built}

-- ---- productions and states
pub productions_fit : (g : Grammar) (states : List StartStates) → IsEmittable g states → length (productions_of g) ≤ 2147483647
productions_fit g states may =
    let n : ℕ = min (length (productions_of g)) 18446744073709551615 in
    let least = kept_greatest n states in
    let counts : greatest_of n states ≤ 2147483647 = may.counts in
    omega (arith, least, counts)

pub states_fit : (g : Grammar) (states : List StartStates) → IsEmittable g states → (i : ℕ) (list : StartStates) → slice_get states i ≡ Some list → length list.states ≤ 2147483647
states_fit g states may i list at =
    let n : ℕ = min (length (productions_of g)) 18446744073709551615 in
    let few = within_greatest n states i list at in
    let counts : greatest_of n states ≤ 2147483647 = may.counts in
    omega (arith, few, counts)

-- ---- terminals
entries_length : (n : ℕ) (states : List Lr1State) → length (action_entries n states) ≡ length states * n
entries_length n [] = omega arith
entries_length n (s ∷ states) =
    let more = entries_length n states in
    let row = length-map-range_with_len (action_entry s) 0 n in
    let both = ap length (flat_map-cons (action_row n) s states) ∙ length-append (action_row n s) (flat_map (action_row n) states) in
    omega (arith, more, row, both)

counted_at : (tables : List Table) (i : ℕ) (t : Table) → All IsCounted tables → slice_get tables i ≡ Some t → IsCounted t
counted_at tables i t all at = subst IsCounted (get_or_from_slice_get tables i t t at) (all i t (slice_get_within tables i t at))

-- a table of a module that runs has entries for all states and terminals, which can be numbered
pub entries_fit : (prefix : List ℕ) (program : Form) (g : Grammar) (states : List Lr1State) (st : Start) (tables : List Table) (items : List RunItem) (params : List Text) (failing : List ℕ)
    → map entries_of tables ≡ (built_module prefix program g states st).tables → All IsCounted tables → length (action_entries (length (terminals_of g)) states) < 2 ^ 64
entries_fit prefix program g states st tables items params failing same all =
    let t = actions_there (runs_built prefix program g states st tables items params failing same) in
    subst (λ (es : List ℤ). length es < 2 ^ 64) t.holds (counted_at tables 0 t.table all t.there)

-- so the terminals are few, where there are two states
pub terminals_fit : (n : ℕ) (states : List Lr1State) → 2 ≤ length states → length (action_entries n states) < 2 ^ 64 → n < 2 ^ 63
terminals_fit n states two fits =
    let e = entries_length n states in
    let m : 2 * n ≤ length states * n = mul-le-mul_right n two in
    omega (arith, e, m, fits)
