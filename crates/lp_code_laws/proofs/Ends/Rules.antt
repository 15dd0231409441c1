-- One rule for each construct.
use Rattle.std.proofs.Common.{◌≡◌, ℕ, suc, true, false, List, [], ◌∷◌, ◌++◌, Option, Some, refl, ap, ◌∙◌}
use Rattle.lp_core.specs.declared.expr.Leaf.{Leaf}
use Rattle.lp_core.specs.declared.expr.Op.{Op}
use Rattle.lp_core.specs.declared.expr.Op.TheVariants as op
use Rattle.lp_core.specs.declared.expr.Case.{Case}
use Rattle.lp_core.specs.declared.expr.Target.{Target}
use Rattle.lp_core.specs.Datum.{Unset}
use Rattle.lp_core.specs.Val.{Val}
use Rattle.lp_core.specs.Val as val
use Rattle.lp_core.specs.Tree.{Tree, Plain, Apply, If, Match, Call, Block, Trees, end, more}
use Rattle.lp_core.specs.Reading.{truth_of}
use Rattle.lp_core.specs.Store.{Store, Program}
use Rattle.lp_core.specs.Effect.{Gave, gave, written}
use Rattle.lp_core.specs.OpMeaning.{leaf_meaning, op_meaning}
use Rattle.lp_core.specs.CaseMeaning.{chosen}
use Rattle.lp_core.specs.Flow.{State, Flow, flow, then_value, choose, with_body, over_store}
use Rattle.lp_core.specs.Eval.{apply, count, run, run_args, run_block, run_at}
use Rattle.lp_core.proofs.Same.{run_next, run_if, run_match, run_more}
use Rattle.lp_code_laws.specs.Ends.Ends.{Moment, over, at, steps, Task, Eval, Sequence, Arguments, Body, run_task, Outcome, Giving, Returning, flow_of, EndsIn}
use Rattle.lp_code_laws.proofs.Ends.Steps.{steps_of_steps}

module _ (p : Program) where
  -- the steps of a first part, and those of the rest
  pub parted : (t : Task) (m : Moment) (j k left : ℕ) → run_task p t (at m (steps (steps j k) left)) ≡ run_task p t (at m (steps j (steps k left)))
  parted t m j k left = ap (λ n. run_task p t (at m n)) (steps_of_steps j k left)

  -- what follows on a value, where the first part gives one
  pub follows : (t u : Task) (go : Val → State → Flow) (m n : Moment) (j k : ℕ) (v : Val) (o : Outcome) → EndsIn p u m j (Giving v n) → ((st : State) → run_task p t st ≡ then_value (run_task p u st) go) → ((left : ℕ) → go v (at n (steps k left)) ≡ flow_of o left) → EndsIn p t m (steps j k) o
  follows t u go m n j k v o h is rest = record { runs = λ left. parted t m j k left ∙ is (at m (steps j (steps k left))) ∙ ap (λ f. then_value f go) (h.runs (steps k left)) ∙ rest left }

  -- what follows on a return: nothing
  pub breaks : (t u : Task) (go : Val → State → Flow) (m n : Moment) (k : ℕ) (v : Val) → EndsIn p u m k (Returning v n) → ((st : State) → run_task p t st ≡ then_value (run_task p u st) go) → EndsIn p t m k (Returning v n)
  breaks t u go m n k v h is = record { runs = λ left. is (at m (steps k left)) ∙ ap (λ f. then_value f go) (h.runs left) }

module _ {p : Program} where
  -- what needs no value first
  pub plain : {l : Leaf} {m : Moment} {v : Val} {s : Store} → leaf_meaning p l m.store ≡ Gave v s → EndsIn p (Eval (Plain l)) m 0 (Giving v (over s m))
  plain {l} {m} is = record { runs = λ left. ap (flow (at m left)) is }

  -- the same where the value is looked for, and found
  pub plain_found : {l : Leaf} {m : Moment} {v : Val} (found : Option Val) → leaf_meaning p l m.store ≡ gave found m.store → found ≡ Some v → EndsIn p (Eval (Plain l)) m 0 (Giving v m)
  plain_found {l} {m} found is there = plain (is ∙ ap (λ o. gave o m.store) there)

  -- what is done with a value
  pub apply_to : {op : Op} {e : Tree} {m n : Moment} {k : ℕ} {v w : Val} {s : Store} → EndsIn p (Eval e) m k (Giving v n) → op_meaning p op v n.store ≡ Gave w s → EndsIn p (Eval (Apply op e)) m k (Giving w (over s n))
  apply_to {op} {n = n} h is = record { runs = λ left. ap (λ f. then_value f (apply p op)) (h.runs left) ∙ ap (flow (at n left)) is }

  pub apply_found : {op : Op} {e : Tree} {m n : Moment} {k : ℕ} {v w : Val} (found : Option Val) → EndsIn p (Eval e) m k (Giving v n) → op_meaning p op v n.store ≡ gave found n.store → found ≡ Some w → EndsIn p (Eval (Apply op e)) m k (Giving w n)
  apply_found {n = n} found h is there = apply_to h (is ∙ ap (λ o. gave o n.store) there)

  -- `return`
  pub give_back : {e : Tree} {m n : Moment} {k : ℕ} {v : Val} → EndsIn p (Eval e) m k (Giving v n) → EndsIn p (Eval (Apply op.Return e)) m k (Returning v n)
  give_back h = record { runs = λ left. ap (λ f. then_value f (apply p op.Return)) (h.runs left) }

  -- a return on the way to the value
  pub apply_left : {op : Op} {e : Tree} {m n : Moment} {k : ℕ} {v : Val} → EndsIn p (Eval e) m k (Returning v n) → EndsIn p (Eval (Apply op e)) m k (Returning v n)
  apply_left {op} {e} {m} {n} {k} {v} h = breaks p (Eval (Apply op e)) (Eval e) (apply p op) m n k v h (λ st. refl)

  -- `if`, where the test is true, where it is false, and where it returns
  pub if_true : {t a b : Tree} {m n : Moment} {j k : ℕ} {v : Val} {o : Outcome} → EndsIn p (Eval t) m j (Giving v n) → truth_of v ≡ Some true → EndsIn p (Eval a) n k o → EndsIn p (Eval (If t a b)) m (steps j k) o
  if_true {t} {a} {b} {m} {n} {j} {k} {v} {o} h is g =
      follows p (Eval (If t a b)) (Eval t) (λ v st. choose (truth_of v) (run p a) (run p b) st) m n j k v o h (run_if p t a b)
      (λ left. ap (λ c. choose c (run p a) (run p b) (at n (steps k left))) is ∙ g.runs left)

  pub if_false : {t a b : Tree} {m n : Moment} {j k : ℕ} {v : Val} {o : Outcome} → EndsIn p (Eval t) m j (Giving v n) → truth_of v ≡ Some false → EndsIn p (Eval b) n k o → EndsIn p (Eval (If t a b)) m (steps j k) o
  if_false {t} {a} {b} {m} {n} {j} {k} {v} {o} h is g =
      follows p (Eval (If t a b)) (Eval t) (λ v st. choose (truth_of v) (run p a) (run p b) st) m n j k v o h (run_if p t a b)
      (λ left. ap (λ c. choose c (run p a) (run p b) (at n (steps k left))) is ∙ g.runs left)

  pub if_left : {t a b : Tree} {m n : Moment} {k : ℕ} {v : Val} → EndsIn p (Eval t) m k (Returning v n) → EndsIn p (Eval (If t a b)) m k (Returning v n)
  if_left {t} {a} {b} {m} {n} {k} {v} h =
      breaks p (Eval (If t a b)) (Eval t) (λ v st. choose (truth_of v) (run p a) (run p b) st) m n k v h (run_if p t a b)

  -- `match`: the number of the body, the value in its slot, and the body
  pub match_on : {t : Tree} {x : ℕ} {cases : List Case} {bodies : Trees} {m n : Moment} {j k : ℕ} {v : Val} {i : ℕ} {s : Store} {o : Outcome} → EndsIn p (Eval t) m j (Giving v n) → chosen p cases (count bodies) v ≡ Some i → written x v n.store ≡ Some s → EndsIn p (Body bodies i) (over s n) k o → EndsIn p (Eval (Match t x cases bodies)) m (steps j k) o
  match_on {t} {x} {cases} {bodies} {m} {n} {j} {k} {v} {i} {s} {o} h is put g =
      follows p (Eval (Match t x cases bodies)) (Eval t) (λ v st. with_body x v (run_at p bodies) (chosen p cases (count bodies) v) st) m n j k v o h (run_match p t x cases bodies)
      (λ left. ap (λ c. with_body x v (run_at p bodies) c (at n (steps k left))) is
      ∙ ap (λ c. over_store (at n (steps k left)) (run_at p bodies i) c) put
      ∙ g.runs left)

  pub match_left : {t : Tree} {x : ℕ} {cases : List Case} {bodies : Trees} {m n : Moment} {k : ℕ} {v : Val} → EndsIn p (Eval t) m k (Returning v n) → EndsIn p (Eval (Match t x cases bodies)) m k (Returning v n)
  match_left {t} {x} {cases} {bodies} {m} {n} {k} {v} h =
      breaks p (Eval (Match t x cases bodies)) (Eval t) (λ v st. with_body x v (run_at p bodies) (chosen p cases (count bodies) v) st) m n k v h (run_match p t x cases bodies)

  -- the body of a number
  pub first_body : {e : Tree} {es : Trees} {m : Moment} {k : ℕ} {o : Outcome} → EndsIn p (Eval e) m k o → EndsIn p (Body (more e es) 0) m k o
  first_body h = record { runs = λ left. h.runs left }

  pub next_body : {e : Tree} {es : Trees} {i : ℕ} {m : Moment} {k : ℕ} {o : Outcome} → EndsIn p (Body es i) m k o → EndsIn p (Body (more e es) (suc i)) m k o
  next_body h = record { runs = λ left. h.runs left }

  -- a block
  pub block : {es : Trees} {m : Moment} {k : ℕ} {o : Outcome} → EndsIn p (Sequence es (val.Plain Unset)) m k o → EndsIn p (Eval (Block es)) m k o
  block h = record { runs = λ left. h.runs left }

  pub block_end : {m : Moment} {v : Val} → EndsIn p (Sequence end v) m 0 (Giving v m)
  block_end = record { runs = λ left. refl }

  pub block_next : {e : Tree} {es : Trees} {m n : Moment} {j k : ℕ} {v w : Val} {o : Outcome} → EndsIn p (Eval e) m j (Giving w n) → EndsIn p (Sequence es w) n k o → EndsIn p (Sequence (more e es) v) m (steps j k) o
  block_next {e} {es} {m} {n} {j} {k} {v} {w} {o} h g =
      follows p (Sequence (more e es) v) (Eval e) (λ w st. run_block p es w st) m n j k w o h (run_next p e es v) g.runs

  pub block_left : {e : Tree} {es : Trees} {m n : Moment} {k : ℕ} {v w : Val} → EndsIn p (Eval e) m k (Returning w n) → EndsIn p (Sequence (more e es) v) m k (Returning w n)
  block_left {e} {es} {m} {n} {k} {v} {w} h =
      breaks p (Sequence (more e es) v) (Eval e) (λ w st. run_block p es w st) m n k w h (run_next p e es v)

  -- a call: its arguments one after another
  pub call : {g : Target} {args : Trees} {m : Moment} {k : ℕ} {o : Outcome} → EndsIn p (Arguments g args []) m k o → EndsIn p (Eval (Call g args)) m k o
  call h = record { runs = λ left. h.runs left }

  pub argument : {g : Target} {e : Tree} {args : Trees} {vs : List Val} {m n : Moment} {j k : ℕ} {v : Val} {o : Outcome} → EndsIn p (Eval e) m j (Giving v n) → EndsIn p (Arguments g args (vs ++ v ∷ [])) n k o → EndsIn p (Arguments g (more e args) vs) m (steps j k) o
  argument {g} {e} {args} {vs} {m} {n} {j} {k} {v} {o} h r =
      follows p (Arguments g (more e args) vs) (Eval e) (λ v st. run_args p g args (vs ++ v ∷ []) st) m n j k v o h (run_more p g e args vs) r.runs

  pub argument_left : {g : Target} {e : Tree} {args : Trees} {vs : List Val} {m n : Moment} {k : ℕ} {v : Val} → EndsIn p (Eval e) m k (Returning v n) → EndsIn p (Arguments g (more e args) vs) m k (Returning v n)
  argument_left {g} {e} {args} {vs} {m} {n} {k} {v} h =
      breaks p (Arguments g (more e args) vs) (Eval e) (λ v st. run_args p g args (vs ++ v ∷ []) st) m n k v h (run_more p g e args vs)
