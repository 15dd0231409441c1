-- A frame that goes on with its loop behind the match: where the first turn begins.
use Rattle.std.proofs.Common.{◌≡◌, ℕ, ◌≤◌, List, Option, Some, None, slice_get, refl, sym, ap, ◌∙◌, subst, arith, codes, false, true}
use Rattle.std.specs.Prelude.{IsSome}
use Rattle.lp_repr.specs.declared.lr1.Lr1State.{Lr1State}
use Rattle.lp_repr.specs.declared.numbering.SymbolNumber.TheVariants.{Nonterminal}
use Rattle.lp_repr.specs.declared.repr.Grammar.{Grammar}
use Rattle.lp_repr.specs.declared.values.RunItem.{RunItem}
use Rattle.lp_driver.specs.Values.{Token, Spanned}
use Rattle.lp_machine.specs.declared.config.Config.{Config}
use Rattle.lp_machine.specs.Tables.{Tables}
use Rattle.lp_core.specs.declared.value.StateType.{StateType}
use Rattle.lp_core.specs.Eval.{run, run_block}
use Rattle.lp_core.specs.Store.{Program, UserCall}
use Rattle.lp_core.specs.Tree.{Tree, Loop, trees_of}
use Rattle.lp_core.specs.Val.{Val}
use Rattle.lp_maker.specs.Slots.{Names, slot_among}
use Rattle.lp_ascent_bodies.specs.declared.ascent.Lines.{Lines as Shared}
use Rattle.lp_ascent_bodies.specs.AscentStates.{after_parts}
use Rattle.lp_code_laws.specs.Ends.Ends.{Moment, moment, at}
use Rattle.lp_code_laws.proofs.Ends.Lists.{get_same, get_other, length_set}
use Rattle.lp_code_laws.proofs.Ends.Tags.{slot_is}
use Rattle.lp_code_laws.specs.Slots.Shows.{Shows, Keeps}
use Rattle.lp_turn_laws.specs.Paths.Walks.{edge_at}
use Rattle.lp_turn_laws.proofs.Paths.Acts.{goto_edge}
use Rattle.lp_ascent.specs.GotoLines.{goes_on}
use Rattle.lp_ascent.specs.Slots.{layouts_of}
use Rattle.std.specs.Str.{bytes_eq}
use Rattle.lp_back_end_laws.proofs.Call.FrameNames.{frame_but}
use Rattle.lp_back_end_laws.specs.Call.Standing.{as_users, Reduced}
use Rattle.lp_back_end_laws.specs.Call.Turns.{Looping, ShowsFrame, Turning}
use Rattle.lp_back_end_laws.proofs.Call.Callers.{leads_last}
use Rattle.lp_back_end_laws.proofs.Call.Matching.{After, AtMatch}

-- a loop that follows the match runs
pub loop_follows : (p : Program) (after : Option Tree) (turn : Tree) (v : Val) (m : Moment) (left : ℕ) → after ≡ Some (Loop turn) → run_block p (trees_of (after_parts after)) v (at m left) ≡ run p (Loop turn) (at m left)
loop_follows p after turn v m left is = ap (λ (o : Option Tree). run_block p (trees_of (after_parts o)) v (at m left)) is ∙ (leads_last {p = p} {e = Loop turn} {m = m} {v = v}).runs left

module _ (g : Grammar) (states : List Lr1State) (t : Tables) (items : List RunItem) (variant : ℕ → ℕ) (most : ℕ) {kind : StateType} {keys : List (List ℕ)} {given : List Val} {shared : Shared} {names : Names} {many q : ℕ} {c : Config} {list : ℕ} {own : List Val} {look : Option (Spanned Token)} {m : Moment}
    (match : AtMatch g states t items kind keys given shared names many q c list own look m) {s : Lr1State} {loop : Looping} {after : Option Tree} (follow : After g states q s shared names many loop after) (apart : (i : ℕ) (key : List ℕ) → slice_get keys i ≡ Some key → bytes_eq (codes "~result") key ≡ false)
    (next : ℕ) (low : names.next ≤ next) (env : List Val) (keeps : Keeps next m.store.env env) (inner : Val) (later : List UserCall) where
  -- where the result is written
  abbrev pub written : Moment
  written = slot_is shared.made inner (moment (record { env = env; cells = m.store.cells; taken = m.store.taken }) later)

  there : slice_get env shared.made ≡ Some match.result
  there = keeps.same shared.made (let below = match.result_below in omega (arith, below, low)) ∙ match.result_there

  -- names show what they showed
  shows_still : (key : List ℕ) (v : Val) → bytes_eq (codes "~result") key ≡ false → Shows names m.store.env key v → Shows loop.names written.store.env key v
  shows_still key v other h = record {
    slot = h.slot;
    is = ap (λ l. slot_among key None l) follow.cut.known ∙ h.is;
    below = (let cut = follow.cut.next in omega (arith, h.below, cut));
    held = get_other env shared.made h.slot inner (match.result_apart key v other h) ∙ keeps.same h.slot (omega (arith, h.below, low)) ∙ h.held;
  }

  frame_still : ShowsFrame loop.names written.store.env keys given list own
  frame_still = frame_but (λ key. bytes_eq (codes "~result") key ≡ false) apart refl refl (λ j. refl) shows_still match.shown

  -- a turn begins there
  pub turning : (now : Config) → Reduced states t items variant q c 0 inner now → c.taken ≡ now.taken → later ≡ as_users now.calls → (n to : ℕ) → edge_at states q (Nonterminal n) ≡ Some to → (x : Lr1State) × (slice_get states q ≡ Some x) × (goes_on g (layouts_of g states) x ≡ true) → (left : ℕ)
      → (h : Turning g states t items variant most keys given loop q c list own now (at written left)) × (h.d ≡ 0)
  turning now reduced taken users n to edge goes left = (
    record {
      some_goto = (n, subst IsSome (sym (goto_edge (slice_get states q) n ∙ edge)) refl);
      goes = goes;
      on_top = match.on_top;
      d = 0;
      inner = inner;
      reduced = reduced;
      many = length_set env shared.made inner ∙ keeps.many ∙ match.many_are ∙ sym follow.many_are;
      result = ap (slice_get written.store.env) follow.made ∙ get_same env shared.made there;
      shown = frame_still;
      own_are = match.own_are;
      apart = match.apart;
      follows = record { states_are = match.follows.states_are; taken = match.follows.taken ∙ taken; calls = users };
    },
    refl,
  )
