-- A target noted at a state.
use Rattle.std.proofs.Common.{◌≡◌, ◌≢◌, ℕ, ◌<◌, ◌≤◌, ◌⊎◌, List, length, Some, slice_get, refl, sym, ap, ◌∙◌, ⊎_elim, inl, inr, arith}
use Rattle.std.specs.Option.{option_and_then}
use Rattle.std.specs.Ordering.{nat_cmp}
use Rattle.std.specs.BTreeMap as tree
use Rattle.std.specs.BTreeMap.{BTreeMap}
use Rattle.std.proofs.Math.ListN.{set, length-set}
use Rattle.std.proofs.lemmas.Bool.{cases_lt, cases_eq}
use Rattle.std.proofs.lemmas.List.{get_or-set_same, get_or-set_other}
use Rattle.std.proofs.lemmas.Option.{same_Some, slice_get_within, slice_get-get_or, slice_get_past}
use Rattle.lp_repr.specs.declared.lr1.Lr1State.{Lr1State}
use Rattle.lp_repr.specs.declared.numbering.SymbolNumber.{SymbolNumber}
use Rattle.lp_repr.specs.declared.numbering.SymbolNumber.TheVariants.{Terminal, Nonterminal}
use Rattle.lp_states.specs.ItemMaps.{IsPut}
use Rattle.lp_states.specs.Building.{target_at, targets_of, IsNotedIn}
use Rattle.lp_states.proofs.AskingLemmas.{put_other}

-- ---- an element written
set_here : {X : Type 0} (xs : List X) (i : ℕ) (y : X) → i < length xs → slice_get (set xs i y) i ≡ Some y
set_here {X} xs i y l =
    slice_get-get_or (set xs i y) i y (omega (arith, length-set {A = X})) ∙ ap Some (get_or-set_same xs i y y l)

set_there : {X : Type 0} (xs : List X) (i j : ℕ) (y : X) → j ≢ i → slice_get (set xs i y) j ≡ slice_get xs j
set_there {X} xs i j y ne =
    ⊎_elim (λ (l : j < length xs). slice_get-get_or (set xs i y) j y (omega (arith, length-set {A = X})) ∙ ap Some (get_or-set_other xs i j y y ne) ∙ sym (slice_get-get_or xs j y l)) (λ (l : length xs ≤ j). slice_get_past (set xs i y) j (omega (arith, length-set {A = X})) ∙ sym (slice_get_past xs j l)) (cases_lt j (length xs))

-- ---- a state with one target more
module _ (states : List Lr1State) (from : ℕ) (r s : Lr1State) (at : slice_get states from ≡ Some r) (items : s.items ≡ r.items) (reductions : s.reductions ≡ r.reductions) (over : SymbolNumber) (target : ℕ) (here : target_at s over ≡ Some target) (others : (y : SymbolNumber) → (y ≡ over) ⊎ (target_at s y ≡ target_at r y)) where
  within : from < length states
  within = slice_get_within states from r at

  target_here : (k : ℕ) (y : SymbolNumber) → k ≡ from → targets_of (set states from s) k y ≡ target_at s y
  target_here k y e =
      ap (λ (m : ℕ). targets_of (set states from s) m y) e ∙ ap (option_and_then (λ (t : Lr1State). target_at t y)) (set_here states from s within)

  target_before : (k : ℕ) (y : SymbolNumber) → k ≡ from → targets_of states k y ≡ target_at r y
  target_before k y e =
      ap (λ (m : ℕ). targets_of states m y) e ∙ ap (option_and_then (λ (t : Lr1State). target_at t y)) at

  others_stay : (k : ℕ) (y : SymbolNumber) → ((k ≡ from) × (y ≡ over)) ⊎ (targets_of (set states from s) k y ≡ targets_of states k y)
  others_stay k y =
      ⊎_elim (λ (e : k ≡ from). ⊎_elim (λ (f : y ≡ over). inl (e, f)) (λ (f : target_at s y ≡ target_at r y). inr (target_here k y e ∙ f ∙ sym (target_before k y e))) (others y)) (λ (ne : k ≢ from). inr (ap (option_and_then (λ (t : Lr1State). target_at t y)) (set_there states from k s ne))) (cases_eq k from)

  shown_stay : (i : ℕ) (t : Lr1State) → slice_get (set states from s) i ≡ Some t → (q : Lr1State) × (slice_get states i ≡ Some q) × (t.items ≡ q.items) × (t.reductions ≡ q.reductions)
  shown_stay i t g =
      ⊎_elim (λ (e : i ≡ from). let same : s ≡ t = same_Some s t (sym (set_here states from s within) ∙ ap (slice_get (set states from s)) (sym e) ∙ g) in (r, ap (slice_get states) e ∙ at, ap (λ (x : Lr1State). x.items) (sym same) ∙ items, ap (λ (x : Lr1State). x.reductions) (sym same) ∙ reductions)) (λ (ne : i ≢ from). (t, sym (set_there states from i s ne) ∙ g, refl, refl)) (cases_eq i from)

  pub noted_state : IsNotedIn states (set states from s) from over target
  noted_state = record {
    count = length-set states from s;
    noted = (target_here from over refl ∙ here, others_stay);
    shown = shown_stay;
  }

-- ---- what a shift or a goto more changes
pub shift_others : (r s : Lr1State) (n target : ℕ) → IsPut nat_cmp r.shifts s.shifts n target → s.gotos ≡ r.gotos → (y : SymbolNumber) → (y ≡ Terminal n) ⊎ (target_at s y ≡ target_at r y)
shift_others r s n target put same (Terminal m) =
    ⊎_elim (λ (e : m ≡ n). inl (ap Terminal e)) (λ (ne : m ≢ n). inr (put_other r.shifts s.shifts n target m put ne)) (cases_eq m n)
shift_others r s n target put same (Nonterminal m) = inr (ap (λ (g : BTreeMap ℕ ℕ). tree.get nat_cmp g m) same)

pub goto_others : (r s : Lr1State) (n target : ℕ) → IsPut nat_cmp r.gotos s.gotos n target → s.shifts ≡ r.shifts → (y : SymbolNumber) → (y ≡ Nonterminal n) ⊎ (target_at s y ≡ target_at r y)
goto_others r s n target put same (Terminal m) = inr (ap (λ (g : BTreeMap ℕ ℕ). tree.get nat_cmp g m) same)
goto_others r s n target put same (Nonterminal m) =
    ⊎_elim (λ (e : m ≡ n). inl (ap Nonterminal e)) (λ (ne : m ≢ n). inr (put_other r.gotos s.gotos n target m put ne)) (cases_eq m n)
