-- The least rule that fails at a state, and the least state at which one does.
use Rattle.std.proofs.Common.{◌≡◌, ℕ, ◌+◌, ◌<◌, ◌≤◌, zero, suc, Bool, List, [], ◌∷◌, length, get_or, refl, arith, sym, ap, ◌∙◌, subst, Option, Some, None, IfSome, IfOk, Result, Ok, Err, IsTrue, ◌↔◌, slice_get, ⊎_elim}
use Rattle.std.proofs.lemmas.Bool.{cases_eq, cases_lt}
use Rattle.std.proofs.lemmas.Option.{slice_get_past}
use Rattle.lp_repr.specs.ValidTables.{IsValidTables, Begins, start_number}
use Rattle.lp_repr.specs.Numbering.{rules_of}
use Rattle.lp_repr.specs.declared.lr1.Lr1State.{Lr1State}
use Rattle.lp_repr.specs.declared.repr.Grammar.{Grammar}
use Rattle.lp_tables.specs.TableRules.{Known, known_of, number, Says, IsInRange, HasTargets, IsFirstFailingRule, IsLeastFailure}
use Rattle.lp_tables.specs.declared.check.TableRule.{TableRule}
use Rattle.lp_tables.specs.declared.check.TableRule.TheVariants.{States, Start, Ranges, Targets, Shifts, Reductions, Actions, Gotos}

-- the rules in the order of their numbers
abbrev pub all_rules : List TableRule
all_rules = States ∷ Start ∷ Ranges ∷ Targets ∷ Shifts ∷ Reductions ∷ Actions ∷ Gotos ∷ []

-- a rule has the number of its place, counted from one
pub number_at : (i : ℕ) → i < 8 → (d : TableRule) → number (get_or all_rules i d) ≡ i + 1
number_at zero less d = refl
number_at (suc zero) less d = refl
number_at (suc (suc zero)) less d = refl
number_at (suc (suc (suc zero))) less d = refl
number_at (suc (suc (suc (suc zero)))) less d = refl
number_at (suc (suc (suc (suc (suc zero))))) less d = refl
number_at (suc (suc (suc (suc (suc (suc zero)))))) less d = refl
number_at (suc (suc (suc (suc (suc (suc (suc zero))))))) less d = refl
number_at (suc (suc (suc (suc (suc (suc (suc (suc i)))))))) less d = absurd (omega arith)

abbrev rule_at : ℕ → TableRule
rule_at n = get_or (Gotos ∷ all_rules) n Gotos

rule_of_number : (r : TableRule) → rule_at (number r) ≡ r
rule_of_number States = refl
rule_of_number Start = refl
rule_of_number Ranges = refl
rule_of_number Targets = refl
rule_of_number Shifts = refl
rule_of_number Reductions = refl
rule_of_number Actions = refl
rule_of_number Gotos = refl

same_rule : (r s : TableRule) → number r ≡ number s → r ≡ s
same_rule r s e = sym (rule_of_number r) ∙ (ap rule_at e ∙ rule_of_number s)

pub from_one : (r : TableRule) → 0 < number r
from_one States = omega arith
from_one Start = omega arith
from_one Ranges = omega arith
from_one Targets = omega arith
from_one Shifts = omega arith
from_one Reductions = omega arith
from_one Actions = omega arith
from_one Gotos = omega arith

upto_eight : (r : TableRule) → number r ≤ 8
upto_eight States = omega arith
upto_eight Start = omega arith
upto_eight Ranges = omega arith
upto_eight Targets = omega arith
upto_eight Shifts = omega arith
upto_eight Reductions = omega arith
upto_eight Actions = omega arith
upto_eight Gotos = omega arith

module _ (g : Known) (states : List Lr1State) (state : ℕ) where
  -- the rules up to a number hold
  abbrev pub HoldUpto : ℕ → Type 0
  HoldUpto n = (r : TableRule) → number r ≤ n → Says g states r state

  pub one_more_holds : (n : ℕ) (rule : TableRule) → number rule ≡ n + 1 → HoldUpto n → Says g states rule state → HoldUpto (n + 1)
  one_more_holds n rule e h here = λ r upto.
      ⊎_elim (λ same. subst (λ x. Says g states x state) (same_rule rule r (e ∙ sym same)) here) (λ other. h r (omega arith)) (cases_eq (number r) (n + 1))

  pub first_fails : (n k : ℕ) (rule : TableRule) → number rule ≡ n + 1 → k ≡ number rule → HoldUpto n → ¬ Says g states rule state → IsFirstFailingRule g states state (Some k)
  first_fails n k rule e f h fails = (rule, sym f, fails, λ lesser less. h lesser (omega arith))

  pub none_fails : (n : ℕ) → 8 ≤ n → HoldUpto n → IsFirstFailingRule g states state None
  none_fails n past h = λ r. let upto = upto_eight r in h r (omega arith)

  -- what a rule says of a state that there is
  pub said : (P : Lr1State → Type 0) (s : Lr1State) (b : Bool) → slice_get states state ≡ Some s → (IsTrue b ↔ P s) → IsTrue b ↔ IfSome (slice_get states state) P
  said P s b at h = subst (λ o. IsTrue b ↔ IfSome o P) (sym at) h

  pub said_ok : {E : Type 0} (P : Lr1State → Type 0) (s : Lr1State) (r : Result Bool E) → slice_get states state ≡ Some s → IfOk r (λ b. IsTrue b ↔ P s) → IfOk r (λ b. IsTrue b ↔ IfSome (slice_get states state) P)
  said_ok P s r at h = subst (λ o. IfOk r (λ b. IsTrue b ↔ IfSome o P)) (sym at) h

  pub said_of_first : {E : Type 0} (P : Type 0) (r : Result Bool E) → state ≡ 0 → IfOk r (λ b. IsTrue b ↔ P) → IfOk r (λ b. IsTrue b ↔ (state ≡ 0 → P))
  said_of_first P (Ok b) first h = (λ yes e. h.0 yes, λ f. h.1 (f first))
  said_of_first P (Err e) first h = tt

-- tables are valid exactly where all rules hold at all states
when_some : (states : List Lr1State) (i : ℕ) (P : Lr1State → Type 0) → ((s : Lr1State) → slice_get states i ≡ Some s → P s) → IfSome (slice_get states i) P
when_some states i P h = elim (slice_get states i) as (λ o. slice_get states i ≡ o → IfSome o P) [ None ↦ λ e. tt | Some s ↦ λ e. h s e ] refl

at_some : (states : List Lr1State) (i : ℕ) (P : Lr1State → Type 0) (s : Lr1State) → slice_get states i ≡ Some s → IfSome (slice_get states i) P → P s
at_some states i P s e h = subst (λ o. IfSome o P) e h

pub valid_says : (g : Grammar) (start : ℕ) (states : List Lr1State) → IsValidTables g start states → (r : TableRule) (i : ℕ) → Says (known_of g start) states r i
valid_says g start states v States i = v.some_state
valid_says g start states v Start i = λ e. subst (λ k. IfSome (slice_get states k) (Begins (rules_of g) (start_number g start))) (sym e) v.begins
valid_says g start states v Ranges i = when_some states i _ (λ s at. let h = v.each i s at in record { parts = record { items = h.items_in_range; reductions = h.reductions_in_range }; edges = record { shifts = h.shifts_in_range; gotos = h.gotos_in_range } })
valid_says g start states v Targets i = when_some states i _ (λ s at. let h = v.each i s at in record { shifts = h.shift_targets; gotos = h.goto_targets })
valid_says g start states v Shifts i = when_some states i _ (λ s at. (v.each i s at).shifts_stand)
valid_says g start states v Reductions i = when_some states i _ (λ s at. (v.each i s at).reduces_complete)
valid_says g start states v Actions i = when_some states i _ (λ s at. (v.each i s at).acts_once)
valid_says g start states v Gotos i = when_some states i _ (λ s at. (v.each i s at).gotos_stand)

pub says_valid : (g : Grammar) (start : ℕ) (states : List Lr1State) → ((i : ℕ) (r : TableRule) → Says (known_of g start) states r i) → IsValidTables g start states
says_valid g start states h =
    record {
      some_state = h 0 States;
      begins = h 0 Start refl;
      each = λ i s at.
          let ranges = at_some states i (IsInRange (known_of g start) (length states)) s at (h i Ranges) in
          let targets = at_some states i (HasTargets (known_of g start) states) s at (h i Targets) in
          record {
            items_in_range = ranges.parts.items;
            shifts_in_range = ranges.edges.shifts;
            gotos_in_range = ranges.edges.gotos;
            reductions_in_range = ranges.parts.reductions;
            shift_targets = targets.shifts;
            goto_targets = targets.gotos;
            shifts_stand = at_some states i _ s at (h i Shifts);
            gotos_stand = at_some states i _ s at (h i Gotos);
            reduces_complete = at_some states i _ s at (h i Reductions);
            acts_once = at_some states i _ s at (h i Actions);
          };
    }

-- past the last state all rules hold
pub past_holds : (g : Known) (states : List Lr1State) (i : ℕ) → 0 < length states → length states ≤ i → (r : TableRule) → Says g states r i
past_holds g states i some past States = some
past_holds g states i some past Start = λ e. absurd (omega arith)
past_holds g states i some past Ranges = subst (λ o. IfSome o (IsInRange g (length states))) (sym (slice_get_past states i past)) tt
past_holds g states i some past Targets = subst (λ o. IfSome o (HasTargets g states)) (sym (slice_get_past states i past)) tt
past_holds g states i some past Shifts = rw (slice_get_past states i past) tt
past_holds g states i some past Reductions = rw (slice_get_past states i past) tt
past_holds g states i some past Actions = rw (slice_get_past states i past) tt
past_holds g states i some past Gotos = rw (slice_get_past states i past) tt

-- what the check knows is what the rules are said over
pub refuse : (g : Grammar) (start : ℕ) (states : List Lr1State) (k : Known) (ss : List Lr1State) (rule state : ℕ) (o : Option ℕ) → k ≡ known_of g start → ss ≡ states → o ≡ Some rule → ((i : ℕ) → i < state → (r : TableRule) → Says k ss r i) → IsFirstFailingRule k ss state o → (¬ IsValidTables g start states) × IsLeastFailure (known_of g start) states rule state
refuse g start states k ss rule state o e f same lesser fails =
    let first : IsFirstFailingRule (known_of g start) states state (Some rule) = subst (λ x. IsFirstFailingRule x states state (Some rule)) e (subst (λ ys. IsFirstFailingRule k ys state (Some rule)) f (subst (IsFirstFailingRule k ss state) same fails)) in
    (λ v. first.2 (valid_says g start states v first.0 state), (λ i less r. subst (λ x. Says x states r i) e (subst (λ ys. Says k ys r i) f (lesser i less r)), first))

pub accept : (g : Grammar) (start : ℕ) (states : List Lr1State) (k : Known) (ss : List Lr1State) (n : ℕ) → k ≡ known_of g start → ss ≡ states → 0 < length states → length states ≤ n → ((i : ℕ) → i < n → (r : TableRule) → Says k ss r i) → IsValidTables g start states
accept g start states k ss n e f some past h =
    says_valid g start states
    (λ i r.
    ⊎_elim (λ less. subst (λ x. Says x states r i) e (subst (λ ys. Says k ys r i) f (h i (omega arith) r))) (λ beyond. past_holds (known_of g start) states i some beyond r) (cases_lt i (length states)))

-- where there is a state, it is not the first rule that fails
pub names_rule : (k : Known) (ss states : List Lr1State) (rule state : ℕ) (o : Option ℕ) → ss ≡ states → o ≡ Some rule → 0 < length states → state < length states → IsFirstFailingRule k ss state o → (2 ≤ rule) × (rule ≤ 8) × (state < length states)
names_rule k ss states rule state o f same some within fails =
    let first : IsFirstFailingRule k states state (Some rule) = subst (λ ys. IsFirstFailingRule k ys state (Some rule)) f (subst (IsFirstFailingRule k ss state) same fails) in
    let low = from_one first.0 in
    let high = upto_eight first.0 in
    let e : number first.0 ≡ rule = first.1 in
    let other : number first.0 ≡ 1 → ⊥ = λ one. first.2 (subst (λ r. Says k states r state) (sym (same_rule first.0 States one)) some) in
    (omega arith, omega arith, within)
