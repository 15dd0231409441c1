-- The entries of valid tables are numbers of 32 bits.
use Rattle.std.proofs.Common.{◌≡◌, ℕ, ◌+◌, ◌<◌, ◌≤◌, zero, suc, max, Bool, true, false, if◌then◌else◌, List, [], ◌∷◌, length, map, flat_map, slice_get, All, FitsSigned, Option, Some, None, IfSome, refl, ap, arith, length-append}
use Rattle.std.specs.BTreeMap.{get}
use Rattle.std.specs.Int.{w32}
use Rattle.std.specs.List.{list_any, range_with_len}
use Rattle.std.specs.Ordering.{nat_cmp}
use Rattle.std.proofs.lemmas.List.Elements.{All-append, All-cons, All-from_recursion, All-head, All-nil, All-tail}
use Rattle.std.proofs.lemmas.Option.{slice_get-get_or}
use Rattle.lp_repr.specs.Numbering.{rule_of, rules_from, rules_of}
use Rattle.lp_repr.specs.ValidTables.{IsValidState, IsValidTables}
use Rattle.lp_repr.specs.declared.lr1.Lr1State.{Lr1State}
use Rattle.lp_repr.specs.declared.lr1.StartStates.{StartStates}
use Rattle.lp_repr.specs.declared.lr1.Token.{Token}
use Rattle.lp_repr.specs.declared.repr.Grammar.{Grammar}
use Rattle.lp_repr.specs.declared.repr.NonterminalData.{NonterminalData}
use Rattle.lp_parts.specs.Entries.{EntriesFit, action_entries, action_entry, action_row, end_entries, end_entry, entry_of, first_of_two, is_eof, is_terminal, reduced_by, reduced_on}
use Rattle.lp_emitted.specs.Emittable.{greatest_of}

abbrev Small : Option ℕ → Type 0
Small o = IfSome o (λ n. n < 2147483647)

entry_fits : (shift reduced : Option ℕ) → Small shift → Small reduced → FitsSigned w32 (entry_of shift reduced)
entry_fits (Some target) reduced s r = record { sfits = omega (arith, s) }
entry_fits None (Some production) s r = record { sfits = omega (arith, r) }
entry_fits None None s r = record { sfits = omega arith }

first_small : (x y : Option ℕ) → Small x → Small y → Small (first_of_two x y)
first_small (Some n) y a b = a
first_small None y a b = b

by_small : (b : Bool) (n : ℕ) → n < 2147483647 → Small (if b then Some n else None)
by_small true n h = h
by_small false n h = tt

reduced_small : (test : Token → Bool) (rs : List (List Token × ℕ)) → All (λ r. r.1 < 2147483647) rs → Small (reduced_on test rs)
reduced_small test [] h = tt
reduced_small test (r ∷ rs) h =
    first_small (reduced_by test r.0 r.1) (reduced_on test rs) (by_small (list_any test r.0) r.1 (All-head (λ (x : List Token × ℕ). x.1 < 2147483647) r rs h))
    (reduced_small test rs (All-tail (λ (x : List Token × ℕ). x.1 < 2147483647) r rs h))

row_fits : (state : Lr1State) → EntriesFit state → (is : List ℕ) → All (FitsSigned w32) (map (action_entry state) is)
row_fits state fits [] = All-nil (FitsSigned w32)
row_fits state fits (i ∷ is) =
    All-cons (FitsSigned w32) (action_entry state i) (map (action_entry state) is)
    (entry_fits (get nat_cmp state.shifts i) (reduced_on (is_terminal i) state.reductions) (fits.shifts i) (reduced_small (is_terminal i) state.reductions fits.reductions))
    (row_fits state fits is)

pub actions_fit : (terminals : ℕ) (states : List Lr1State) → All EntriesFit states → All (FitsSigned w32) (action_entries terminals states)
actions_fit terminals [] h = All-nil (FitsSigned w32)
actions_fit terminals (s ∷ states) h =
    All-append (FitsSigned w32) (action_row terminals s) (action_entries terminals states)
    (row_fits s (All-head EntriesFit s states h) (range_with_len 0 terminals)) (actions_fit terminals states (All-tail EntriesFit s states h))

pub ends_fit : (states : List Lr1State) → All EntriesFit states → All (FitsSigned w32) (end_entries states)
ends_fit [] h = All-nil (FitsSigned w32)
ends_fit (s ∷ states) h =
    All-cons (FitsSigned w32) (end_entry s) (end_entries states)
    (entry_fits None (reduced_on is_eof s.reductions) tt (reduced_small is_eof s.reductions (All-head EntriesFit s states h).reductions))
    (ends_fit states (All-tail EntriesFit s states h))

-- valid tables of so few states and productions
in_range : (o : Option ℕ) (limit : ℕ) → ((target : ℕ) → o ≡ Some target → target < limit) → limit ≤ 2147483647 → Small o
in_range None limit h l = tt
in_range (Some target) limit h l = let k = h target refl in omega (arith, k, l)

pub length-rules_from : (g : Grammar) (k : ℕ) (ds : List NonterminalData) → length (rules_from g k ds) ≡ length (flat_map (λ d. d.productions) ds)
length-rules_from g k [] = refl
length-rules_from g k (d ∷ ds) =
    let a = length-append (map (rule_of g k) d.productions) (rules_from g (k + 1) ds) in
    let b = length-append d.productions (flat_map (λ (x : NonterminalData). x.productions) ds) in
    let c = same d.productions in
    let r = length-rules_from g (k + 1) ds in
    omega (arith, a, b, c, r)
  where
    same : (ps : List _) → length (map (rule_of g k) ps) ≡ length ps
    same [] = refl
    same (p ∷ ps) = ap suc (same ps)

state_fits : (g : Grammar) (states : List Lr1State) (s : Lr1State) → length states ≤ 2147483647 → length (rules_of g) ≤ 2147483647 → IsValidState g states s → EntriesFit s
state_fits g states s few rules valid = record {
  shifts = λ i. in_range (get nat_cmp s.shifts i) (length states) (λ target h. (valid.shifts_in_range i target h).1) few;
  reductions = λ k d lt. let h = (All-from_recursion _ s.reductions valid.reductions_in_range k d lt).0 in omega (arith, h, rules);
}

pub tables_fit : (g : Grammar) (start : ℕ) (states : List Lr1State) → length states ≤ 2147483647 → length (rules_of g) ≤ 2147483647 → IsValidTables g start states → All EntriesFit states
tables_fit g start states few rules valid k d lt = state_fits g states _ few rules (valid.each k _ (slice_get-get_or states k d lt))

-- each list is within the greatest count
pub kept_greatest : (n : ℕ) (states : List StartStates) → n ≤ greatest_of n states
kept_greatest n [] = omega arith
kept_greatest n (l ∷ states) = let h = kept_greatest (max n (length l.states)) states in omega (arith, h)

abbrev count_in : Option StartStates → ℕ
count_in None = 0
count_in (Some l) = length l.states

no_list : (i : ℕ) (list : StartStates) → slice_get [] i ≡ Some list → ⊥
no_list i list h = cc

pub within_greatest : (n : ℕ) (states : List StartStates) (i : ℕ) (list : StartStates) → slice_get states i ≡ Some list → length list.states ≤ greatest_of n states
within_greatest n [] i list h = absurd (no_list i list h)
within_greatest n (l ∷ states) zero list h =
    let k = kept_greatest (max n (length l.states)) states in
    let e : length l.states ≡ length list.states = ap count_in h in
    omega (arith, k, e)
within_greatest n (l ∷ states) (suc i) list h = within_greatest (max n (length l.states)) states i list h
