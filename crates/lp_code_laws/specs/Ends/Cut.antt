-- A run whose budget is spent, and runs that are told of by bounds.
use Rattle.std.specs.Prelude.{◌≡◌, ◌≤◌, ℕ, List}
use Rattle.lp_core.specs.Store.{UserCall, Program}
use Rattle.lp_core.specs.Flow.{Spent}
use Rattle.lp_core.specs.Prefix.{IsPrefix}
use Rattle.lp_code_laws.specs.Ends.Ends.{Moment, at, Task, run_task, Outcome, EndsIn}

-- with so many steps it is spent, after these calls
pub record Cut (p : Program) (t : Task) (m : Moment) (b : ℕ) (calls : List UserCall) : Type 0 where
  pub is : run_task p t (at m b) ≡ Spent calls

-- in at most so many steps it ends, and so
pub record Reaches (p : Program) (t : Task) (m : Moment) (most : ℕ) (Good : Outcome → Type 0) : Type 0 where
  pub many : ℕ
  pub outcome : Outcome
  pub few : many ≤ most
  pub ends : EndsIn p t m many outcome
  pub good : Good outcome

-- with so many steps it is spent, and its calls are the first of these
pub record CutBefore (p : Program) (t : Task) (m : Moment) (b : ℕ) (whole : List UserCall) : Type 0 where
  pub calls : List UserCall
  pub cut : Cut p t m b calls
  pub first : IsPrefix calls whole

-- with so many steps it ends, or it is spent: what is told of either
pub data Settled (p : Program) (t : Task) (m : Moment) (b : ℕ) (Good : ℕ → Outcome → Type 0) (Early : List UserCall → Type 0) : Type 0 where
  Ended : (k : ℕ) (o : Outcome) (few : k ≤ b) (ends : EndsIn p t m k o) (good : Good k o) → Settled p t m b Good Early
  Short : (calls : List UserCall) (cut : Cut p t m b calls) (early : Early calls) → Settled p t m b Good Early
