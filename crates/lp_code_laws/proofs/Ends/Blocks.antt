-- Blocks that are appended, and bodies by number.
use Rattle.std.proofs.Common.{◌≡◌, ℕ, List, [], ◌∷◌, ◌++◌, Some, refl, sym, ap, ◌∙◌}
use Rattle.std.specs.Prelude.{slice_get}
use Rattle.lp_core.specs.Val.{Val}
use Rattle.lp_core.specs.Tree.{Tree, end, more, trees_of}
use Rattle.lp_core.specs.Store.{Program}
use Rattle.lp_core.specs.Flow.{State, Flow, Gives, Returns, Spent, Stuck, then_value}
use Rattle.lp_core.specs.Eval.{run, run_block}
use Rattle.lp_core.proofs.Same.{run_next}
use Rattle.lp_core.proofs.Bodies.{body_there}
use Rattle.lp_code_laws.specs.Ends.Ends.{Moment, at, steps, Eval, Sequence, Body, Outcome, Giving, Returning, flow_of, EndsIn}
use Rattle.lp_code_laws.proofs.Ends.Rules.{follows, breaks}

-- what follows on what follows
then_then : (f : Flow) (go next : Val → State → Flow) → then_value (then_value f go) next ≡ then_value f (λ v st. then_value (go v st) next)
then_then (Gives v st) go next = refl
then_then (Returns v st) go next = refl
then_then (Spent calls) go next = refl
then_then (Stuck left calls) go next = refl

nothing_more : (o : Outcome) (left : ℕ) → then_value (flow_of o left) (λ w st. Gives w st) ≡ flow_of o left
nothing_more (Giving v m) left = refl
nothing_more (Returning v m) left = refl

module _ (p : Program) where
  -- a block is its first part and then the rest
  pub run_append : (a b : List Tree) (v : Val) (st : State) → run_block p (trees_of (a ++ b)) v st ≡ then_value (run_block p (trees_of a) v st) (λ w st'. run_block p (trees_of b) w st')
  run_append [] b v st = refl
  run_append (e ∷ a) b v st =
      run_next p e (trees_of (a ++ b)) v st
      ∙ ap (then_value (run p e st)) (λ i w st'. run_append a b w st' i)
      ∙ sym (then_then (run p e st) (λ w st'. run_block p (trees_of a) w st') (λ w st'. run_block p (trees_of b) w st'))
      ∙ ap (λ f. then_value f (λ w st'. run_block p (trees_of b) w st')) (sym (run_next p e (trees_of a) v st))

module _ {p : Program} where
  -- one block and then another
  pub append : (a b : List Tree) {m n : Moment} {j k : ℕ} {v w : Val} {o : Outcome} → EndsIn p (Sequence (trees_of a) v) m j (Giving w n) → EndsIn p (Sequence (trees_of b) w) n k o → EndsIn p (Sequence (trees_of (a ++ b)) v) m (steps j k) o
  append a b {m} {n} {j} {k} {v} {w} {o} h g =
      follows p (Sequence (trees_of (a ++ b)) v) (Sequence (trees_of a) v) (λ w st. run_block p (trees_of b) w st) m n j k w o h (run_append p a b v) g.runs

  -- the first block returns
  pub append_left : (a b : List Tree) {m n : Moment} {k : ℕ} {v w : Val} → EndsIn p (Sequence (trees_of a) v) m k (Returning w n) → EndsIn p (Sequence (trees_of (a ++ b)) v) m k (Returning w n)
  append_left a b {m} {n} {k} {v} {w} h =
      breaks p (Sequence (trees_of (a ++ b)) v) (Sequence (trees_of a) v) (λ w st. run_block p (trees_of b) w st) m n k w h (run_append p a b v)

  -- the last line of a block ends it
  pub sequence_one : {e : Tree} {m : Moment} {k : ℕ} {v : Val} {o : Outcome} → EndsIn p (Eval e) m k o → EndsIn p (Sequence (more e end) v) m k o
  sequence_one {e} {m} {k} {v} {o} h = record { runs = λ left. run_next p e end v (at m (steps k left)) ∙ ap (λ f. then_value f (λ w st. run_block p end w st)) (h.runs left) ∙ nothing_more o left }

  -- the body that stands at a number
  pub body_at : (es : List Tree) {i : ℕ} {e : Tree} {m : Moment} {k : ℕ} {o : Outcome} → slice_get es i ≡ Some e → EndsIn p (Eval e) m k o → EndsIn p (Body (trees_of es) i) m k o
  body_at es {i} {e} {m} {k} is h = record { runs = λ left. sym (body_there p es i e (at m (steps k left)) is) ∙ h.runs left }
