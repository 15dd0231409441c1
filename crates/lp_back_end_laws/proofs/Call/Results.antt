-- How a state's function and its loop succeed: by their own reduction, or after a callee.
use Rattle.std.proofs.Common.{◌≡◌, ℕ, ◌+◌, ◌*◌, ◌<◌, ◌≤◌, List, ◌++◌, length, take, pos, map, sym, ap, ◌∙◌, subst, inr, arith, mul-add}
use Rattle.std.specs.Prelude.{slice_set}
use Rattle.lp_repr.specs.declared.lr1.Lr1State.{Lr1State}
use Rattle.lp_repr.specs.declared.repr.Grammar.{Grammar}
use Rattle.lp_repr.specs.declared.values.RunItem.{RunItem}
use Rattle.lp_machine.specs.declared.config.Config.{Config}
use Rattle.lp_machine.specs.Move.{moves}
use Rattle.lp_machine.specs.Tables.{Tables}
use Rattle.lp_machine.proofs.MoreMoves.{moves_after}
use Rattle.lp_core.specs.declared.value.Tag.TheVariants as tag
use Rattle.lp_core.specs.Flow.{State}
use Rattle.lp_core.specs.Reading.{wrapped}
use Rattle.lp_core.specs.Store.{Held, States}
use Rattle.lp_core.specs.Val.{Val}
use Rattle.lp_back_end_laws.specs.Call.Slots.{layout}
use Rattle.lp_back_end_laws.specs.Call.Frames.{AreOwn, Emptied}
use Rattle.lp_back_end_laws.specs.Call.Standing.{Reduced, as_users}
use Rattle.lp_back_end_laws.specs.Call.Law.{Result, Takes}
use Rattle.lp_back_end_laws.specs.Call.Back.{Back}
use Rattle.lp_back_end_laws.specs.Call.Turns.{TurnResult}
use Rattle.lp_back_end_laws.proofs.Call.Leaving.{leaving}
use Rattle.lp_back_end_laws.proofs.Call.TurnSlots.{emptied_both}

-- ---- steps, where a move costs at most so many
-- before a call that is left with z of y steps
pub call_cost : (most x y z a b : ℕ) → x ≤ y + most * a → y + 1 ≤ z + most * (b + 1) → x + 1 ≤ z + most * (a + b + 1)
call_cost most x y z a b h g =
    let e : a + b + 1 ≡ a + (b + 1) = omega arith in
    subst (λ n. x + 1 ≤ z + n) (sym (ap (λ n. most * n) e ∙ mul-add most a (b + 1))) (sum (most * a) (most * (b + 1)) h g)
  where
    sum : (p q : ℕ) → x ≤ y + p → y + 1 ≤ z + q → x + 1 ≤ z + (p + q)
    sum p q h g = omega (arith, h, g)

-- before a loop that is left with z of y steps
pub loop_cost : (most x y z a b : ℕ) → x + 2 ≤ y + most * (a + 1) → y ≤ z + most * b + 1 → x + 1 ≤ z + most * (a + b + 1)
loop_cost most x y z a b h g =
    let e : a + b + 1 ≡ a + 1 + b = omega arith in
    subst (λ n. x + 1 ≤ z + n) (sym (ap (λ n. most * n) e ∙ mul-add most (a + 1) b)) (sum (most * (a + 1)) (most * b) h g)
  where
    sum : (p q : ℕ) → x + 2 ≤ y + p → y ≤ z + q + 1 → x + 1 ≤ z + (p + q)
    sum p q h g = omega (arith, h, g)

module _ {g : Grammar} {states : List Lr1State} {t : Tables} {items : List RunItem} {variant : ℕ → ℕ} {most : ℕ} (s : ℕ) (c : Config) (slots own : List Val) (st : State) (new : List Held) (are : AreOwn (length st.store.cells) slots own) where
  -- by its own slots: at the end of a reduction that takes some of them
  pub succeeds : (made d : ℕ) (inner v : Val) (cells : List Held) (st' : State) → Reduced states t items variant s c d inner (moves t items made c) → v ≡ wrapped tag.Success inner → 0 < d
      → Emptied (layout g states s) d own (st.store.cells ++ new) cells → st'.store.cells ≡ take (length st.store.cells) cells → st'.store.env ≡ st.store.env
      → st'.store.taken ≡ (moves t items made c).taken → st'.calls ≡ as_users (moves t items made c).calls → st.left + 1 ≤ st'.left + most * (made + 1)
      → Result g states t items variant most s c slots st v st'
  succeeds made d inner v cells st' r value some emptied cells_are env taken calls steps = record {
    made = made;
    d = d;
    inner = inner;
    reduced = r;
    value = value;
    takes = inr some;
    cells = subst (Emptied (layout g states s) d slots st.store.cells) (sym cells_are) (leaving (layout g states s) d slots own st.store.cells new cells are emptied);
    env = env;
    taken = taken;
    calls = calls;
    steps = steps;
  }

  -- after so many moves its callee succeeded, and the frame returns with what it answered
  pub passes_on : (m p : ℕ) (from : Config) (list : ℕ) (handed : List Val) (inside after : State) (v : Val) (st' : State) → moves t items m c ≡ from
      → (r : Result g states t items variant most p from handed inside v after) → (b : Back g states t items variant s p c list own (st.store.cells ++ new) after.store.cells r.inner (moves t items r.made from)) → 0 < b.d
      → st'.store.cells ≡ take (length st.store.cells) (slice_set after.store.cells list (States (map pos c.states))) → st'.store.env ≡ st.store.env → st'.store.taken ≡ after.store.taken → st'.calls ≡ after.calls → st'.left ≡ after.left
      → st.left ≤ inside.left + most * m
      → Result g states t items variant most s c slots st v st'
  passes_on m p from list handed inside after v st' moved r b some cells_are env taken calls left steps =
      let there : moves t items r.made from ≡ moves t items (m + r.made) c = ap (moves t items r.made) (sym moved) ∙ sym (moves_after t items m r.made c) in
      succeeds (m + r.made) b.d r.inner v (slice_set after.store.cells list (States (map pos c.states))) st' (subst (Reduced states t items variant s c b.d r.inner) there b.reduced) r.value some b.cells cells_are env
      (taken ∙ r.taken ∙ ap (λ x. x.taken) there) (calls ∙ r.calls ∙ ap (λ x. as_users x.calls) there)
      (subst (λ n. st.left + 1 ≤ n + most * (m + r.made + 1)) (sym left) (call_cost most st.left inside.left after.left m r.made steps r.steps))

  -- its loop succeeds, from a turn on that begins after so many moves where the last d0 of its own slots are taken
  pub loops_on : (m d0 : ℕ) (now : Config) (turn after : State) (v : Val) (st' : State) → moves t items m c ≡ now → Emptied (layout g states s) d0 own (st.store.cells ++ new) turn.store.cells
      → (r : TurnResult g states t items variant most s c own d0 now turn v after)
      → st'.store.cells ≡ take (length st.store.cells) after.store.cells → st'.store.env ≡ st.store.env → st'.store.taken ≡ after.store.taken → st'.calls ≡ after.calls → st'.left ≡ after.left
      → st.left + 2 ≤ turn.left + most * (m + 1)
      → Result g states t items variant most s c slots st v st'
  loops_on m d0 now turn after v st' moved emptied r cells_are env taken calls left steps =
      let there : moves t items r.made now ≡ moves t items (m + r.made) c = ap (moves t items r.made) (sym moved) ∙ sym (moves_after t items m r.made c) in
      let both = subst (λ x. (w : Reduced states t items variant s c r.d r.inner x) × Takes s r.d w.rule) there (r.reduced, r.takes) in
      record {
        made = m + r.made;
        d = r.d;
        inner = r.inner;
        reduced = both.0;
        value = r.value;
        takes = both.1;
        cells = subst (Emptied (layout g states s) r.d slots st.store.cells) (sym cells_are) (leaving (layout g states s) r.d slots own st.store.cells new after.store.cells are (emptied_both emptied r.cells r.no_less));
        env = env;
        taken = taken ∙ r.taken ∙ ap (λ x. x.taken) there;
        calls = calls ∙ r.calls ∙ ap (λ x. as_users x.calls) there;
        steps = subst (λ n. st.left + 1 ≤ n + most * (m + r.made + 1)) (sym left) (loop_cost most st.left turn.left after.left m r.made steps r.steps);
      }
