-- Numbers of steps.
use Rattle.std.proofs.Common.{◌≡◌, ℕ, zero, suc, ◌+◌, refl, ap, arith, subst}
use Rattle.lp_code_laws.specs.Ends.Ends.{steps, Task, Moment, Outcome, EndsIn}
use Rattle.lp_core.specs.Store.{Program}

pub steps_are : (k left : ℕ) → steps k left ≡ k + left
steps_are zero left = omega arith
steps_are (suc k) left = omega (arith, steps_are k left)

-- some steps, then others
pub steps_of_steps : (j k left : ℕ) → steps (steps j k) left ≡ steps j (steps k left)
steps_of_steps zero k left = refl
steps_of_steps (suc j) k left = ap suc (steps_of_steps j k left)

-- the number of steps written in another way
pub ends_in : {p : Program} {t : Task} {m : Moment} {j k : ℕ} {o : Outcome} → EndsIn p t m j o → j ≡ k → EndsIn p t m k o
ends_in {p} {t} {m} {j} {k} {o} h is = subst (λ n. EndsIn p t m n o) is h

-- the outcome written in another way
pub ends_as : {p : Program} {t : Task} {m : Moment} {k : ℕ} {o u : Outcome} → EndsIn p t m k o → o ≡ u → EndsIn p t m k u
ends_as {p} {t} {m} {k} {o} {u} h is = subst (λ x. EndsIn p t m k x) is h

-- the moment written in another way
pub begins_as : {p : Program} {t : Task} {m n : Moment} {k : ℕ} {o : Outcome} → EndsIn p t m k o → m ≡ n → EndsIn p t n k o
begins_as {p} {t} {m} {n} {k} {o} h is = subst (λ x. EndsIn p t x k o) is h
