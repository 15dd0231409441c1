-- Loops, turn by turn.
use Rattle.std.proofs.Common.{ℕ, zero, suc, ◌+◌, ◌*◌, ◌≤◌, ap, ◌∙◌, arith}
use Rattle.lp_core.specs.Val.{Val}
use Rattle.lp_core.specs.Tree.{Tree, Loop}
use Rattle.lp_core.specs.Store.{Program}
use Rattle.lp_core.specs.Flow.{then_value}
use Rattle.lp_core.specs.Eval.{run}
use Rattle.lp_core.proofs.Same.{run_loop}
use Rattle.lp_code_laws.specs.Ends.Ends.{Moment, at, steps, Eval, Outcome, Giving, Returning, EndsIn}
use Rattle.lp_code_laws.proofs.Ends.Steps.{steps_are}
use Rattle.lp_code_laws.proofs.Ends.Rules.{parted}

-- so many turns with a step each beside their own, and what comes then
abbrev pub turns_of : (ℕ → ℕ) → ℕ → ℕ → ℕ
turns_of cost zero last = last
turns_of cost (suc n) last = suc (steps (cost n) (turns_of cost n last))

-- turns of at most c steps each
pub turns_bound : (cost : ℕ → ℕ) (c n last : ℕ) → ((i : ℕ) → cost i ≤ c) → turns_of cost n last ≤ n * (c + 1) + last
turns_bound cost c zero last few = omega arith
turns_bound cost c (suc n) last few = omega (arith, steps_are (cost n) (turns_of cost n last), few n, turns_bound cost c n last few)

-- a turn that gives a value, and where it leaves
pub record Turned (p : Program) (e : Tree) (m : Moment) (k : ℕ) (Next : Moment → Type 0) : Type 0 where
  pub value : Val
  pub next : Moment
  pub ends : EndsIn p (Eval e) m k (Giving value next)
  pub holds : Next next

-- where a loop has come, and how it ends from the start
pub record Looped (p : Program) (e : Tree) (m : Moment) (k j : ℕ) (o : Moment → Outcome) (Last : Moment → Type 0) : Type 0 where
  pub place : Moment
  pub holds : Last place
  pub ends : EndsIn p (Eval (Loop e)) place j (o place) → EndsIn p (Eval (Loop e)) m k (o place)

module _ {p : Program} where
  -- a turn, and the loop again
  pub turn : {e : Tree} {m n : Moment} {j k : ℕ} {v : Val} {o : Outcome} → EndsIn p (Eval e) m j (Giving v n) → EndsIn p (Eval (Loop e)) n k o → EndsIn p (Eval (Loop e)) m (suc (steps j k)) o
  turn {e} {m} {n} {j} {k} {v} {o} h g = record {
    runs = λ left.
        run_loop p e (at m (suc (steps (steps j k) left)))
        ∙ ap (λ f. then_value f (λ v. run p (Loop e))) (parted p (Eval e) m j k left ∙ h.runs (steps k left))
        ∙ g.runs left;
  }

  -- the turn that returns
  pub last_turn : {e : Tree} {m n : Moment} {k : ℕ} {v : Val} → EndsIn p (Eval e) m k (Returning v n) → EndsIn p (Eval (Loop e)) m (suc k) (Returning v n)
  last_turn {e} {m} {n} {k} {v} h = record { runs = λ left. run_loop p e (at m (suc (steps k left))) ∙ ap (λ f. then_value f (λ v. run p (Loop e))) (h.runs left) }

  -- n turns over moments that are known, and what the loop does then
  pub turns : {e : Tree} {j : ℕ} {o : Outcome} (cost : ℕ → ℕ) (n : ℕ) (there : ℕ → Moment) (v : ℕ → Val) → ((i : ℕ) → EndsIn p (Eval e) (there (suc i)) (cost i) (Giving (v i) (there i))) → EndsIn p (Eval (Loop e)) (there 0) j o → EndsIn p (Eval (Loop e)) (there n) (turns_of cost n j) o
  turns cost zero there v step last = last
  turns cost (suc n) there v step last = turn (step n) (turns cost n there v step last)

  -- n turns that keep an invariant, which counts the turns to come
  pub turns_keep : {e : Tree} (cost : ℕ → ℕ) (j : ℕ) (o : Moment → Outcome) (Inv : ℕ → Moment → Type 0) → ((i : ℕ) (m : Moment) → Inv (suc i) m → Turned p e m (cost i) (Inv i)) → (n : ℕ) (m : Moment) → Inv n m → Looped p e m (turns_of cost n j) j o (Inv 0)
  turns_keep cost j o Inv step zero m h = record { place = m; holds = h; ends = λ g. g }
  turns_keep {e} cost j o Inv step (suc n) m h =
      let t = step n m h in
      let r : Looped p e t.next (turns_of cost n j) j o (Inv 0) = turns_keep cost j o Inv step n t.next t.holds in
      record { place = r.place; holds = r.holds; ends = λ g. turn t.ends (r.ends g) }
