-- How a turn of a frame's loop over gotos succeeds: at once, with what a callee answered, or by a further turn.
use Rattle.std.proofs.Common.{◌≡◌, ℕ, zero, ◌+◌, ◌*◌, ◌<◌, ◌≤◌, List, pos, map, sym, ap, ◌∙◌, subst, inr, arith, mul-add}
use Rattle.std.specs.Prelude.{slice_set}
use Rattle.lp_repr.specs.declared.lr1.Lr1State.{Lr1State}
use Rattle.lp_repr.specs.declared.repr.Grammar.{Grammar}
use Rattle.lp_repr.specs.declared.values.RunItem.{RunItem}
use Rattle.lp_driver.specs.Values.{Spanned, Value}
use Rattle.lp_machine.specs.declared.config.Config.{Config}
use Rattle.lp_machine.specs.Move.{moves}
use Rattle.lp_machine.specs.Tables.{Tables}
use Rattle.lp_machine.proofs.MoreMoves.{moves_after}
use Rattle.lp_core.specs.declared.value.Tag.TheVariants as tag
use Rattle.lp_core.specs.Flow.{State}
use Rattle.lp_core.specs.Reading.{wrapped}
use Rattle.lp_core.specs.Store.{States}
use Rattle.lp_core.specs.Val.{Val}
use Rattle.lp_ascent.specs.Slots.{is_cell}
use Rattle.lp_back_end_laws.specs.Call.Slots.{layout}
use Rattle.lp_back_end_laws.specs.Call.Frames.{AreSlots, Emptied}
use Rattle.lp_back_end_laws.specs.Call.Standing.{Reduced, as_users}
use Rattle.lp_back_end_laws.specs.Call.Law.{Result, Takes}
use Rattle.lp_back_end_laws.specs.Call.Back.{Back}
use Rattle.lp_back_end_laws.specs.Call.Turns.{TurnResult}
use Rattle.lp_back_end_laws.proofs.Call.TurnSlots.{emptied_both, emptied_already}

-- before moves that are left with z of y steps
turn_cost : (most x y z a b : ℕ) → x ≤ y + most * a → y ≤ z + most * b + 1 → x ≤ z + most * (a + b) + 1
turn_cost most x y z a b h g = subst (λ n. x ≤ z + n + 1) (sym (mul-add most a b)) (sum (most * a) (most * b) h g)
  where
    sum : (p q : ℕ) → x ≤ y + p → y ≤ z + q + 1 → x ≤ z + (p + q) + 1
    sum p q h g = omega (arith, h, g)

module _ {g : Grammar} {states : List Lr1State} {t : Tables} {items : List RunItem} {variant : ℕ → ℕ} {most : ℕ} (s : ℕ) (c : Config) (own : List Val) (now : Config) (st : State) where
  -- at once
  pub returns_now : (d : ℕ) (inner v : Val) (triples : List (Spanned Value)) (st' : State) → (r : Reduced states t items variant s c d inner now) → v ≡ wrapped tag.Success inner → Takes s d r.rule
      → AreSlots (layout g states s) (is_cell (layout g states s)) d triples st.store.cells own → st'.store.cells ≡ st.store.cells → st'.store.taken ≡ now.taken → st'.calls ≡ as_users now.calls → st.left ≤ st'.left + 1
      → TurnResult g states t items variant most s c own d now st v st'
  returns_now d inner v triples st' r value takes are cells taken calls steps = record {
    made = zero;
    d = d;
    no_less = omega arith;
    inner = inner;
    reduced = r;
    value = value;
    takes = takes;
    cells = subst (Emptied (layout g states s) d own st.store.cells) (sym cells) (emptied_already are);
    taken = taken;
    calls = calls;
    steps = none (most * zero) steps;
  }
    where
      none : (n : ℕ) → st.left ≤ st'.left + 1 → st.left ≤ st'.left + n + 1
      none n h = omega (arith, h)

  -- after so many moves there is a turn again, where the last d1 of the frame's own slots are taken
  pub turns_again : (m d1 : ℕ) (then : Config) (turn : State) (v : Val) (st' : State) → moves t items m now ≡ then → Emptied (layout g states s) d1 own st.store.cells turn.store.cells
      → TurnResult g states t items variant most s c own d1 then turn v st' → st.left ≤ turn.left + most * m → TurnResult g states t items variant most s c own 0 now st v st'
  turns_again m d1 then turn v st' moved emptied r steps =
      let there : moves t items r.made then ≡ moves t items (m + r.made) now = ap (moves t items r.made) (sym moved) ∙ sym (moves_after t items m r.made now) in
      let both = subst (λ x. (w : Reduced states t items variant s c r.d r.inner x) × Takes s r.d w.rule) there (r.reduced, r.takes) in
      record {
        made = m + r.made;
        d = r.d;
        no_less = omega arith;
        inner = r.inner;
        reduced = both.0;
        value = r.value;
        takes = both.1;
        cells = emptied_both emptied r.cells r.no_less;
        taken = r.taken ∙ ap (λ x. x.taken) there;
        calls = r.calls ∙ ap (λ x. as_users x.calls) there;
        steps = turn_cost most st.left turn.left st'.left m r.made steps r.steps;
      }

  -- after so many moves a callee succeeded, and the frame returns with what it answered
  pub turn_passes_on : (m p : ℕ) (from : Config) (list : ℕ) (handed : List Val) (inside after : State) (v : Val) (st' : State) → moves t items m now ≡ from
      → (r : Result g states t items variant most p from handed inside v after) → (b : Back g states t items variant s p c list own st.store.cells after.store.cells r.inner (moves t items r.made from)) → 0 < b.d
      → st'.store.cells ≡ slice_set after.store.cells list (States (map pos c.states)) → st'.store.taken ≡ after.store.taken → st'.calls ≡ after.calls → st'.left ≡ after.left → st.left ≤ inside.left + 1 → m ≡ 1
      → TurnResult g states t items variant most s c own 0 now st v st'
  turn_passes_on m p from list handed inside after v st' moved r b some cells taken calls left steps one =
      let there : moves t items r.made from ≡ moves t items (m + r.made) now = ap (moves t items r.made) (sym moved) ∙ sym (moves_after t items m r.made now) in
      record {
        made = m + r.made;
        d = b.d;
        no_less = omega arith;
        inner = r.inner;
        reduced = subst (Reduced states t items variant s c b.d r.inner) there b.reduced;
        value = r.value;
        takes = inr some;
        cells = subst (Emptied (layout g states s) b.d own st.store.cells) (sym cells) b.cells;
        taken = taken ∙ r.taken ∙ ap (λ x. x.taken) there;
        calls = calls ∙ r.calls ∙ ap (λ x. as_users x.calls) there;
        steps = cost (most * (m + r.made)) (most * (r.made + 1)) (let e : m + r.made ≡ r.made + 1 = omega (arith, one) in ap (λ n. most * n) e) r.steps;
      }
    where
      cost : (n k : ℕ) → n ≡ k → inside.left + 1 ≤ after.left + k → st.left ≤ st'.left + n + 1
      cost n k e h = omega (arith, e, h, steps, left)
