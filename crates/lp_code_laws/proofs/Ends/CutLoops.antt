-- A loop whose turns are known, with fewer steps than they take; it may go on for ever.
use Rattle.std.proofs.Common.{◌≡◌, ℕ, zero, suc, ◌-◌, ◌<◌, ◌≤◌, Bool, true, false, refl, arith, subst, ltb}
use Rattle.std.proofs.lemmas.Bool.Decides.{nat_tests}
use Rattle.lp_core.specs.Val.{Val}
use Rattle.lp_core.specs.Tree.{Tree, Loop}
use Rattle.lp_core.specs.Store.{Program}
use Rattle.lp_core.specs.Prefix.{IsPrefix}
use Rattle.lp_core.proofs.Falls.{same_prefix, prefix_trans}
use Rattle.lp_code_laws.specs.Ends.Ends.{Moment, steps, Eval, Giving, EndsIn}
use Rattle.lp_code_laws.specs.Ends.Cut.{Cut, CutBefore}
use Rattle.lp_code_laws.proofs.Ends.Steps.{steps_are}
use Rattle.lp_code_laws.proofs.Ends.Loops.{turns_of}
use Rattle.lp_code_laws.proofs.Ends.Spent.{spent_eval}
use Rattle.lp_code_laws.proofs.Ends.Grow.{eval_grows}
use Rattle.lp_code_laws.proofs.Ends.Cuts.{cut_loop, cut_turn, cut_turns}

is_less : (a b : ℕ) → ltb a b ≡ true → a < b
is_less a b is = grind (arith, nat_tests)

is_enough : (a b : ℕ) → ltb a b ≡ false → b ≤ a
is_enough a b is = grind (arith, nat_tests)

module _ {p : Program} {e : Tree} (cost : ℕ → ℕ) (there : ℕ → Moment) (v : ℕ → Val) (step : (i : ℕ) → EndsIn p (Eval e) (there (suc i)) (cost i) (Giving (v i) (there i))) where
  -- the calls of the turns come one after another
  pub turns_grow : (n : ℕ) → IsPrefix (there n).calls (there 0).calls
  turns_grow zero = same_prefix (there 0).calls
  turns_grow (suc n) = prefix_trans (there (suc n)).calls (there n).calls (there 0).calls (eval_grows (step n)) (turns_grow n)

  in_turn : (n b : ℕ) → b < cost n → CutBefore p (Eval (Loop e)) (there (suc n)) (suc b) (there 0).calls
  in_turn n b less =
      let s = spent_eval (step n) b less in
      let c : Cut p (Eval e) (there (suc n)) b s.calls = record { is = s.is } in
      record { calls = s.calls; cut = cut_turn c; first = prefix_trans s.calls (there n).calls (there 0).calls s.first (turns_grow n) }

  behind_turn : (n b : ℕ) → cost n ≤ b → CutBefore p (Eval (Loop e)) (there n) (b - cost n) (there 0).calls → CutBefore p (Eval (Loop e)) (there (suc n)) (suc b) (there 0).calls
  behind_turn n b enough h =
      let same : steps (cost n) (b - cost n) ≡ b = omega (arith, steps_are (cost n) (b - cost n)) in
      record { calls = h.calls; cut = subst (λ k. Cut p (Eval (Loop e)) (there (suc n)) (suc k) h.calls) same (cut_turns (step n) h.cut); first = h.first }

  one_more : (n b : ℕ) (c : Bool) → ltb b (cost n) ≡ c → suc b < turns_of cost (suc n) 0 → ((b : ℕ) → b < turns_of cost n 0 → CutBefore p (Eval (Loop e)) (there n) b (there 0).calls) → CutBefore p (Eval (Loop e)) (there (suc n)) (suc b) (there 0).calls
  one_more n b true is less rest = in_turn n b (is_less b (cost n) is)
  one_more n b false is less rest =
      let enough : cost n ≤ b = is_enough b (cost n) is in
      behind_turn n b enough (rest (b - cost n) (omega (arith, steps_are (cost n) (turns_of cost n 0))))

  -- it is spent in one of the turns
  pub turns_cut : (n b : ℕ) → b < turns_of cost n 0 → CutBefore p (Eval (Loop e)) (there n) b (there 0).calls
  turns_cut zero b less = absurd (omega arith)
  turns_cut (suc n) zero less = record { calls = (there (suc n)).calls; cut = cut_loop; first = turns_grow (suc n) }
  turns_cut (suc n) (suc b) less = one_more n b (ltb b (cost n)) refl less (turns_cut n)
