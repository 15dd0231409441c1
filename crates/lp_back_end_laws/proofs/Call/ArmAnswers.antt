-- What follows on the match where a reduction's arm ends: its steps, its error, its return, and going on.
use Rattle.std.proofs.Common.{◌≡◌, inl, inr, ℕ, ◌+◌, ◌*◌, ◌<◌, ◌≤◌, true, false, List, Err, refl, sym, ap, ◌∙◌, subst, arith, add-mul}
use Rattle.std.proofs.lemmas.Nat.{mul-le}
use Rattle.lp_repr.specs.declared.lr1.Lr1State.{Lr1State}
use Rattle.lp_repr.specs.declared.repr.Grammar.{Grammar}
use Rattle.lp_repr.specs.declared.values.RunItem.{RunItem}
use Rattle.lp_driver.specs.Values.{Failure}
use Rattle.lp_machine.specs.declared.config.Config.{Config}
use Rattle.lp_machine.specs.declared.config.Left.TheVariants.{Over}
use Rattle.lp_machine.specs.Tables.{Tables}
use Rattle.lp_turn_laws.specs.Alike.Course.{Leads}
use Rattle.lp_core.specs.declared.value.Tag.TheVariants as tag
use Rattle.lp_core.specs.Datum.{Failed}
use Rattle.lp_core.specs.Effect.{unit}
use Rattle.lp_core.specs.Eval.{run}
use Rattle.lp_core.specs.Flow.{State, Flow, then_value}
use Rattle.lp_core.specs.Prefix.{IsPrefix}
use Rattle.lp_core.specs.Reading.{wrapped}
use Rattle.lp_core.specs.Store.{Program, Held, UserCall}
use Rattle.lp_core.specs.Tree.{Tree}
use Rattle.lp_core.specs.Val.{Val, Plain}
use Rattle.lp_code_laws.specs.Ends.Ends.{Moment, moment, at, steps, Outcome, Giving, Returning, flow_of}
use Rattle.lp_code_laws.specs.Ends.Spent.{calls_at}
use Rattle.lp_code_laws.proofs.Ends.Steps.{steps_are}
use Rattle.lp_code_laws.proofs.Ends.Tags.{slot_is}
use Rattle.lp_back_end_laws.specs.Call.Slots.{layout}
use Rattle.lp_back_end_laws.specs.Call.Frames.{Emptied}
use Rattle.lp_back_end_laws.specs.Call.Standing.{as_users, Reduced}
use Rattle.lp_back_end_laws.specs.Call.Law.{Takes}
use Rattle.lp_back_end_laws.proofs.Call.Errors.{least_moves}
use Rattle.lp_back_end_laws.proofs.Call.Matching.{MatchSpent, MatchAnswers}
use Rattle.lp_back_end_laws.proofs.Call.ReductionEnds.{ValueEnds, ErrorEnds}
use Rattle.lp_back_end_laws.proofs.Call.Settling.{Settled, Short, Comes, ends_settle}

-- ---- steps
-- an arm costs less than its moves and one more
pub arm_cost : (most cost count moved : ℕ) → cost + 4 ≤ most → count ≤ 1 + cost * (moved + 1) → count + 3 ≤ most * (moved + 1)
arm_cost most cost count moved more few =
    sum (cost * (moved + 1)) (4 * (moved + 1)) (most * (moved + 1)) few (mul-le 4 1 4 (moved + 1) (omega arith) (omega arith)) (subst (λ n. n ≤ most * (moved + 1)) (add-mul cost 4 (moved + 1)) (mul-le (cost + 4) (moved + 1) most (moved + 1) more (omega arith)))
  where
    sum : (x y z : ℕ) → count ≤ 1 + x → 4 * 1 ≤ y → x + y ≤ z → count + 3 ≤ z
    sum x y z few four all = omega (arith, few, four, all)

module _ (g : Grammar) (states : List Lr1State) (t : Tables) (items : List RunItem) (variant : ℕ → ℕ) (most : ℕ) (q : ℕ) (c : Config) (own : List Val) (m : Moment) (b : ℕ) (then : Config) (moved : ℕ) (lead : Leads t items c then moved) (later : List UserCall) (users : later ≡ as_users then.calls) where
  -- with too few steps it is spent
  arm_spent : (count : ℕ) (calls : List UserCall) → count + 3 ≤ most * (moved + 1) → b < count → IsPrefix calls later → MatchSpent g states t items variant most c (at m b) calls
  arm_spent count calls few less first = record {
    made = moved;
    first = subst (IsPrefix calls) (users ∙ ap (λ (d : Config). as_users d.calls) (sym lead.comes)) first;
    early = λ k h.
        let least : moved ≤ k = least_moves t items c then moved lead k h in
        let wide : most * (moved + 1) ≤ most * (k + 1) = mul-le most (moved + 1) most (k + 1) (omega arith) (omega (arith, least)) in
        below (most * (moved + 1)) (most * (k + 1)) few wide;
  }
    where
      below : (x y : ℕ) → count + 3 ≤ x → x ≤ y → b + 2 < y
      below x y few wide = omega (arith, few, wide, less)

  module _ (p : Program) (body : Tree) (rest : Val → State → Flow) (block : Flow) (is : block ≡ then_value (run p body (at m b)) rest) (bound : ℕ) (enough : (count : ℕ) → count ≤ bound → count + 3 ≤ most * (moved + 1)) where
    -- what is done where it comes to its end
    settled : (count : ℕ) → count ≤ bound → (o : Outcome) → calls_at o ≡ later → ((left : ℕ) → b ≡ steps count left → MatchAnswers g states t items variant most q c own (at m b) (then_value (flow_of o left) rest)) → Settled (run p body (at m b)) b count (calls_at o) (flow_of o)
        → MatchAnswers g states t items variant most q c own (at m b) block
    settled count few o same go (Short less spent) =
        subst (MatchAnswers g states t items variant most q c own (at m b)) (sym (is ∙ ap (λ (fl : Flow). then_value fl rest) spent.is)) (arm_spent count spent.calls (enough count few) less (subst (IsPrefix spent.calls) same spent.first))
    settled count few o same go (Comes left e runs) = subst (MatchAnswers g states t items variant most q c own (at m b)) (sym (is ∙ ap (λ (fl : Flow). then_value fl rest) runs)) (go left e)

    -- it fails as the machine does
    pub arm_fails : (e : Failure) → then.left ≡ Over (Err e) → ErrorEnds p body m bound later e → MatchAnswers g states t items variant most q c own (at m b) block
    arm_fails e over r = settled r.count r.few (Returning (wrapped tag.Failure (Plain (Failed e))) r.after) r.calls
        (λ left spent.
        let total = steps_are r.count left in
        let few = enough r.count r.few in
        inr (record {
          made = moved;
          failure = e;
          over = ap (λ (d : Config). d.left) lead.comes ∙ over;
          value = refl;
          calls = r.calls ∙ users ∙ ap (λ (d : Config). as_users d.calls) (sym lead.comes);
          steps = sum (most * (moved + 1)) left (spent ∙ total) few;
        })) (ends_settle r.ends b)
      where
        sum : (x left : ℕ) → b ≡ r.count + left → r.count + 3 ≤ x → b + 2 ≤ left + x
        sum x left e few = omega (arith, e, few)

    module _ {next made : ℕ} {cells : List Held} {inner : Val} where
      -- its value is returned
      pub arm_returns : (d : ℕ) (reduced : Reduced states t items variant q c d inner then) → Takes q d reduced.rule → Emptied (layout g states q) d own m.store.cells cells → m.store.taken ≡ then.taken → ValueEnds p body m bound next made true cells later inner
          → MatchAnswers g states t items variant most q c own (at m b) block
      arm_returns d reduced takes emptied taken r = settled r.count r.few (Returning (wrapped tag.Success inner) (slot_is made inner (moment (record { env = r.env; cells = cells; taken = m.store.taken }) later))) refl
          (λ left spent.
          let total = steps_are r.count left in
          let few = enough r.count r.few in
          let both = subst (λ (x : Config). (w : Reduced states t items variant q c d inner x) × Takes q d w.rule) (sym lead.comes) (reduced, takes) in
          inl (record {
            made = moved;
            d = d;
            inner = inner;
            reduced = both.0;
            value = refl;
            takes = both.1;
            cells = emptied;
            taken = taken ∙ ap (λ (x : Config). x.taken) (sym lead.comes);
            calls = users ∙ ap (λ (x : Config). as_users x.calls) (sym lead.comes);
            steps = sum (most * (moved + 1)) left (spent ∙ total) few;
          })) (ends_settle r.ends b)
        where
          sum : (x left : ℕ) → b ≡ r.count + left → r.count + 3 ≤ x → b + 2 ≤ left + x
          sum x left e few = omega (arith, e, few)

      -- or it is the result, and the frame goes on
      pub arm_goes_on : (r : ValueEnds p body m bound next made false cells later inner)
          → ((left : ℕ) → left ≤ b → b + 3 ≤ left + most * (moved + 1) → MatchAnswers g states t items variant most q c own (at m b) (rest unit (at (slot_is made inner (moment (record { env = r.env; cells = cells; taken = m.store.taken }) later)) left)))
          → MatchAnswers g states t items variant most q c own (at m b) block
      arm_goes_on r go = settled r.count r.few (Giving unit (slot_is made inner (moment (record { env = r.env; cells = cells; taken = m.store.taken }) later))) refl
          (λ left spent.
          let total = steps_are r.count left in
          let few = enough r.count r.few in
          go left (omega (arith, spent, total)) (sum (most * (moved + 1)) left (spent ∙ total) few)) (ends_settle r.ends b)
        where
          sum : (x left : ℕ) → b ≡ r.count + left → r.count + 3 ≤ x → b + 3 ≤ left + x
          sum x left e few = omega (arith, e, few)
