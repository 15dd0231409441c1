-- What is spent with more steps is spent with fewer.
use Rattle.std.proofs.Common.{◌≡◌, ℕ, ◌+◌, ◌-◌, ◌≤◌, List, refl, ap, ◌∙◌, subst, arith}
use Rattle.lp_core.specs.Budget.{Longer}
use Rattle.lp_core.specs.Eval.{run_call}
use Rattle.lp_core.specs.Flow.{Flow, Gives, Returns, Spent, Stuck}
use Rattle.lp_core.specs.Prefix.{IsPrefix}
use Rattle.lp_core.specs.Store.{Program, UserCall}
use Rattle.lp_core.specs.Val.{Val}
use Rattle.lp_core.proofs.Longer.{call_is_longer}
use Rattle.lp_code_laws.specs.Ends.Cut.{Cut}
use Rattle.lp_code_laws.specs.Ends.Ends.{Moment, at, Enter}

-- spent after the first of these calls
abbrev SpentWithin : Flow → List UserCall → Type 0
SpentWithin fl calls = (c : List UserCall) × (fl ≡ Spent c) × IsPrefix c calls

fewer_flow : (d : ℕ) (fl more : Flow) (calls : List UserCall) → Longer d fl more → more ≡ Spent calls → SpentWithin fl calls
fewer_flow d (Gives v st) more calls h is = absurd cc
fewer_flow d (Returns v st) more calls h is = absurd cc
fewer_flow d (Spent c) more calls h is = (c, refl, subst (λ (fl : Flow). Longer d (Spent c) fl) is h)
fewer_flow d (Stuck left c) more calls h is = absurd cc

-- what is spent with more steps is spent with fewer
pub cut_fewer : {p : Program} {f : ℕ} {vs : List Val} {m : Moment} {j : ℕ} {calls : List UserCall} → Cut p (Enter f vs) m j calls → (b : ℕ) → b ≤ j → SpentWithin (run_call p f vs (at m b)) calls
cut_fewer {p} {f} {vs} {m} {j} {calls} h b few =
    let sum : b + (j - b) ≡ j = omega arith in
    fewer_flow (j - b) (run_call p f vs (at m b)) (run_call p f vs (at m (b + (j - b)))) calls (call_is_longer (j - b) p f vs (at m b)) (ap (λ (n : ℕ). run_call p f vs (at m n)) sum ∙ h.is)
