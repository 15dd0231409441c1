-- The loops over gotos of all states' functions.
use Rattle.std.proofs.Common.{◌≡◌, ℕ, ◌<◌, true, List, Option, Some, None, slice_get, refl, sym, subst, codes}
use Rattle.lp_repr.specs.declared.lr1.Lr1State.{Lr1State}
use Rattle.lp_repr.specs.declared.numbering.SymbolNumber.TheVariants.{Nonterminal}
use Rattle.lp_repr.specs.declared.repr.Grammar.{Grammar}
use Rattle.lp_repr.specs.declared.values.RunItem.{RunItem}
use Rattle.lp_driver.specs.Values.{Text}
use Rattle.lp_core.specs.declared.value.StateType.{StateType}
use Rattle.lp_core.specs.Store.{Program}
use Rattle.lp_core.specs.Val.{Val}
use Rattle.lp_maker.specs.Constructs.{stuck}
use Rattle.lp_maker.specs.Slots.{no_names}
use Rattle.lp_ascent.specs.GotoLines.{goes_on}
use Rattle.lp_ascent.specs.Slots.{layouts_of}
use Rattle.lp_turn_laws.specs.Paths.Walks.{edge_at}
use Rattle.lp_back_end_laws.specs.Call.Turns.{Looping}
use Rattle.lp_back_end_laws.proofs.Call.EachName.{IsAlone}
use Rattle.lp_back_end_laws.proofs.Call.FunctionArms.{after_at, after_there, loop_at, loop_there, many_at, names_at, shared_at}
use Rattle.lp_back_end_laws.proofs.Call.LoopCode.{LoopCode}
use Rattle.lp_back_end_laws.proofs.Call.Matching.{After}
use Rattle.lp_back_end_laws.proofs.Call.RowsBefore.{match_begun}
use Rattle.lp_back_end_laws.proofs.Call.Setting.{Setting}

module _ {g : Grammar} {start : ℕ} {states : List Lr1State} {params : List Text} {failing : List ℕ} {items : List RunItem} {p : Program} {keys : List (List ℕ)} {given : List Val} {function action variant : ℕ → ℕ} {kind : StateType} {expected most cost : ℕ}
    (setting : Setting g start states params failing items p keys given function action variant kind expected most cost) where
  -- a state has that of its function; a number without a state has one that is never begun
  abbrev loop_of : (q : ℕ) (o : Option Lr1State) → slice_get states q ≡ o → Looping
  loop_of q None e = record { names = no_names; made = 0; many = 0; turn = stuck }
  loop_of q (Some s) e = loop_at setting q s e

  abbrev pub loops_of : ℕ → Looping
  loops_of q = loop_of q (slice_get states q) refl

  by_state : (q : ℕ) (s : Lr1State) → slice_get states q ≡ Some s → (P : Looping → Type 0) → ((e : slice_get states q ≡ Some s) → P (loop_at setting q s e)) → P (loops_of q)
  by_state q s at P h = by (slice_get states q) refl at
    where
      by : (o : Option Lr1State) (e : slice_get states q ≡ o) → o ≡ Some s → P (loop_of q o e)
      by None e f = cc
      by (Some x) e f = (let same : x ≡ s = cc in subst (λ y. (e : slice_get states q ≡ Some y) → P (loop_at setting q y e)) (sym same) h e)

  -- what follows the match of a state's function
  pub after_known : (q : ℕ) (s : Lr1State) → slice_get states q ≡ Some s → (e : slice_get states q ≡ Some s) × After g states q s (shared_at setting q s e) (names_at setting q s e) (many_at setting q s e) (loops_of q) (after_at setting q s e)
  after_known q s at = by_state q s at (λ loop. (e : slice_get states q ≡ Some s) × After g states q s (shared_at setting q s e) (names_at setting q s e) (many_at setting q s e) loop (after_at setting q s e)) (λ e. (e, after_there setting q s e))

  -- what is known of the code of a loop
  pub loop_known : (q : ℕ) (s : Lr1State) → slice_get states q ≡ Some s → goes_on g (layouts_of g states) s ≡ true → (n to : ℕ) → edge_at states q (Nonterminal n) ≡ Some to → LoopCode g states p variant kind (setting.code.maker q) q s (loops_of q)
  loop_known q s at goes n to edge = by_state q s at (LoopCode g states p variant kind (setting.code.maker q) q s) (λ e.
      let b = match_begun setting q s e in
      loop_there setting q s e goes n to edge b.kind_is (subst (λ m. m < (names_at setting q s e).next) (sym b.made_is) b.below) (subst (λ m. IsAlone (codes "~result") m (names_at setting q s e)) (sym b.made_is) b.alone))
