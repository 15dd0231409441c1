-- A reduction's calls are made move by move, and then its value goes on or ends the run.
use Rattle.std.proofs.Common.{◌≡◌, suc, Bool, true, false, List, [], ◌∷◌, ◌++◌, length, Option, Some, None, Result, Ok, Err, refl, sym, ap, subst, append_assoc, arith}
use Rattle.std.specs.Prelude.{nat_lt, if◌then◌else◌, ◌==◌}
use Rattle.std.proofs.lemmas.Bool.Decides.{nat_tests}
use Rattle.std.proofs.lemmas.List.{append-nil}
use Rattle.lp_repr.specs.declared.values.RunItem.{RunItem}
use Rattle.lp_driver.specs.Values.{Value, Failure}
use Rattle.lp_machine.specs.declared.calls.Call.{Call}
use Rattle.lp_machine.specs.declared.config.Config.{Config}
use Rattle.lp_machine.specs.declared.config.Left.TheVariants.{Pulls, Calls, Reduces}
use Rattle.lp_machine.specs.declared.lookup.Rule.{Rule}
use Rattle.lp_machine.specs.Moves.{called, calls_next, reducible_by}
use Rattle.lp_machine.specs.StackMachine.{with_left, over, result_at}
use Rattle.lp_machine.specs.Tables.{Tables}
use Rattle.lp_machine.proofs.ExpectedLists.{chosen}
use Rattle.lp_turn_laws.specs.Alike.Course.{Leads}
use Rattle.lp_turn_laws.proofs.Alike.Counted.{none, one_then}

some_length : {A : Type 0} (x : A) (xs : List A) → (length (x ∷ xs) == 0) ≡ false
some_length x xs = grind (arith, nat_tests)

module _ (t : Tables) (items : List RunItem) where
  pub calls_lead : (c : Config) (rule : Rule) (calls : List Call) (r : Result Value Failure)
      → Leads t items (calls_next t items (with_left c Pulls) rule calls r) (called t items (record c { calls = c.calls ++ calls; left = Pulls }) rule r) (length calls)
  calls_lead c rule [] r =
      let a = called t items (with_left c Pulls) rule r in
      subst (λ (b : Config). Leads t items a b 0) (ap (λ (l : List Call). called t items (record c { calls = l; left = Pulls }) rule r) (sym (append-nil c.calls))) (none t items a)
  calls_lead c rule (call ∷ calls) r =
      let more = calls_lead (record c { calls = c.calls ++ call ∷ [] }) rule calls r in
      let begin : calls_next t items (with_left c Pulls) rule (call ∷ calls) r ≡ with_left c (Calls rule (call ∷ calls) r) = chosen (length (call ∷ calls) == 0) false _ _ (some_length call calls) in
      let there = subst (λ (b : Config). Leads t items (calls_next t items (with_left (record c { calls = c.calls ++ call ∷ [] }) Pulls) rule calls r) b (length calls))
      (ap (λ (l : List Call). called t items (record c { calls = l; left = Pulls }) rule r) (append_assoc c.calls (call ∷ []) calls)) more in
      subst (λ (a : Config). Leads t items a (called t items (record c { calls = c.calls ++ call ∷ calls; left = Pulls }) rule r) (suc (length calls))) (sym begin)
      (one_then t items (with_left c (Calls rule (call ∷ calls) r)) _ _ (length calls) refl refl there)

  -- a reduction's value makes no call
  pub called_calls : (c : Config) (rule : Rule) (r : Result Value Failure) → (called t items c rule r).calls ≡ c.calls
  called_calls c rule (Err f) = refl
  called_calls c rule (Ok value) = by rule.is_start
    where
      by : (b : Bool) → (if b then over c (result_at c.mending c.lookahead value) else with_left c (Reduces rule value)).calls ≡ c.calls
      by true = refl
      by false = refl

  -- the rule of a reduction is the production's
  pub rule_is : (c : Config) (o : Option Rule) (rule : Rule) → reducible_by t items c o ≡ Some rule → o ≡ Some rule
  rule_is c None rule h = cc
  rule_is c (Some r) rule h = by (nat_lt (length c.triples) r.length) h
    where
      by : (b : Bool) → (if b then None else Some r) ≡ Some rule → Some r ≡ Some rule
      by true k = cc
      by false k = k
