-- A larger bound gives the same, so the meaning has the equations that one would write with no bound.
use Rattle.std.proofs.Common.{◌≡◌, ℕ, zero, suc, ◌<◌, ◌≤◌, Bool, true, false, List, [], ◌∷◌, ◌++◌, Option, Some, None, refl, sym, ap, ◌∙◌, arith}
use Rattle.std.specs.Prelude.{slice_get, length, ◌==◌, if◌then◌else◌}
use Rattle.lp_core.specs.declared.expr.Case.{Case}
use Rattle.lp_core.specs.declared.expr.Function.{Function}
use Rattle.lp_core.specs.declared.expr.Target.{Target}
use Rattle.lp_core.specs.declared.expr.Target.TheVariants as target
use Rattle.lp_core.specs.Datum.{Unset}
use Rattle.lp_core.specs.Val.{Val}
use Rattle.lp_core.specs.Val as val
use Rattle.lp_core.specs.Tree.{Tree, Plain, Apply, If, Match, Loop, Call, Block, Trees, end, more}
use Rattle.lp_core.specs.Reading.{truth_of}
use Rattle.lp_core.specs.Store.{Store, UserCall, Program}
use Rattle.lp_core.specs.Effect.{written}
use Rattle.lp_core.specs.CaseMeaning.{chosen}
use Rattle.lp_core.specs.Flow.{State, Flow, Gives, Returns, Spent, Stuck, then_value, choose, over_store, with_body, spend_from, spend, turns, leave}
use Rattle.lp_core.specs.Eval.{Callee, count, called, apply, eval, eval_args, eval_block, eval_at, entered, enter_with, enter, call_within, run, run_args, run_block, run_at, run_call}
use Rattle.lp_core.proofs.Falls.{After, Falls, same_prefix, eval_falls, call_falls}

-- the same from at most k steps left
abbrev pub SameTo : ℕ → (State → Flow) → (State → Flow) → Type 0
SameTo k f g = (st : State) → st.left ≤ k → f st ≡ g st

-- at most k steps are left
abbrev pub AtMost : ℕ → Flow → Type 0
AtMost k (Gives v st) = st.left ≤ k
AtMost k (Returns v st) = st.left ≤ k
AtMost k (Spent calls) = Unit {0}
AtMost k (Stuck left calls) = left ≤ k

abbrev pub FallsTo : ℕ → (State → Flow) → Type 0
FallsTo k go = (st : State) → st.left ≤ k → AtMost k (go st)

at_most : (k : ℕ) (c : List UserCall) (fl : Flow) → After k c fl → AtMost k fl
at_most k c (Gives v st) a = a.0
at_most k c (Returns v st) a = a.0
at_most k c (Spent calls) a = tt
at_most k c (Stuck left calls) a = a.0

module _ (k : ℕ) where
  then_same_at : (fl : Flow) (go go' : Val → State → Flow) → AtMost k fl → ((v : Val) → SameTo k (go v) (go' v)) → then_value fl go ≡ then_value fl go'
  then_same_at (Gives v st) go go' a h = h v st a
  then_same_at (Returns v st) go go' a h = refl
  then_same_at (Spent calls) go go' a h = refl
  then_same_at (Stuck left calls) go go' a h = refl

  pub then_same : (fl fl' : Flow) (go go' : Val → State → Flow) → fl ≡ fl' → AtMost k fl → ((v : Val) → SameTo k (go v) (go' v)) → then_value fl go ≡ then_value fl' go'
  then_same fl fl' go go' e a h = then_same_at fl go go' a h ∙ ap (λ f. then_value f go') e

  pub choose_same : (o : Option Bool) (a a' b b' : State → Flow) → SameTo k a a' → SameTo k b b' → SameTo k (choose o a b) (choose o a' b')
  choose_same None a a' b b' h g st le = refl
  choose_same (Some true) a a' b b' h g st le = h st le
  choose_same (Some false) a a' b b' h g st le = g st le

  over_same : (st : State) (go go' : State → Flow) (o : Option Store) → st.left ≤ k → SameTo k go go' → over_store st go o ≡ over_store st go' o
  over_same st go go' None le h = refl
  over_same st go go' (Some s) le h = h (record st { store = s }) le

  pub body_same : (x : ℕ) (v : Val) (go go' : ℕ → State → Flow) (o : Option ℕ) → ((i : ℕ) → SameTo k (go i) (go' i)) → SameTo k (with_body x v go o) (with_body x v go' o)
  body_same x v go go' None h st le = refl
  body_same x v go go' (Some i) h st le = over_same st (go i) (go' i) (written x v st.store) le (h i)

pub spend_same : (m : ℕ) (st : State) (go go' : State → Flow) → ((st' : State) → st'.left < m → go st' ≡ go' st') → spend_from m st go ≡ spend_from m st go'
spend_same zero st go go' h = refl
spend_same (suc j) st go go' h = h (record st { left = j }) (omega arith)

none_left : (m : ℕ) (st : State) (go : State → Flow) → m ≤ 0 → Spent st.calls ≡ spend_from m st go
none_left zero st go le = refl
none_left (suc j) st go le = absurd (omega arith)

pub turns_same : (n m : ℕ) (body body' : State → Flow) (k : ℕ) → SameTo k body body' → ((j : ℕ) → FallsTo j body) → (st : State) → st.left ≤ k → st.left ≤ n → st.left ≤ m → turns n body st ≡ turns m body' st
turns_same zero zero body body' k same falls st lk ln lm = refl
turns_same zero (suc m) body body' k same falls st lk ln lm = none_left st.left st _ ln
turns_same (suc n) zero body body' k same falls st lk ln lm = sym (none_left st.left st _ lm)
turns_same (suc n) (suc m) body body' k same falls st lk ln lm =
    spend_same st.left st (λ st'. then_value (body st') (λ v. turns n body)) (λ st'. then_value (body' st') (λ v. turns m body'))
    (λ st' lt. then_same st'.left (body st') (body' st') (λ v. turns n body) (λ v. turns m body') (same st' (omega arith)) (falls st'.left st' (omega arith))
    (λ v st2 le. turns_same n m body body' k same falls st2 (omega arith) (omega arith) (omega arith)))

module _ (p : Program) where
  enter_when : (b : Bool) (fn : Function) (ev ev' : Tree → State → Flow) (vs : List Val) (k : ℕ) (st : State) → st.left ≤ k → ((e : Tree) → SameTo k (ev e) (ev' e)) → (if b then enter_with p fn ev vs st else Stuck st.left st.calls) ≡ (if b then enter_with p fn ev' vs st else Stuck st.left st.calls)
  enter_when true fn ev ev' vs k st le h = ap (leave st.store.env (length st.store.cells)) (h fn.body (entered p fn vs st) le)
  enter_when false fn ev ev' vs k st le h = refl

  pub enter_same : (k : ℕ) (o : Option Function) (ev ev' : Tree → State → Flow) (vs : List Val) → ((e : Tree) → SameTo k (ev e) (ev' e)) → SameTo k (enter p o ev vs) (enter p o ev' vs)
  enter_same k None ev ev' vs h st le = refl
  enter_same k (Some fn) ev ev' vs h st le = enter_when (fn.params == length vs) fn ev ev' vs k st le h

  pub ev_falls : (call : Callee) (n : ℕ) → ((j : ℕ) (c : List UserCall) (f : ℕ) (vs : List Val) → Falls j c (call f vs)) → (j : ℕ) (e : Tree) → FallsTo j (eval p call n e)
  ev_falls call n falls j e st le =
      at_most j st.calls (eval p call n e st) (eval_falls j st.calls p call n (falls j st.calls) e st (le, same_prefix st.calls))

  module _ (call call' : Callee) (n m k : ℕ) (kn : k ≤ n) (km : k ≤ m) (calls : (f : ℕ) (vs : List Val) (st : State) → st.left < k → call f vs st ≡ call' f vs st) (falls : (j : ℕ) (c : List UserCall) (f : ℕ) (vs : List Val) → Falls j c (call f vs)) where
    called_same : (g : Target) (vs : List Val) → SameTo k (called p call g vs) (called p call' g vs)
    called_same (target.Function f) vs st le = spend_same st.left st (call f vs) (call' f vs) (λ st' lt. calls f vs st' (omega arith))
    called_same (target.Join j) vs st le = refl

    mutual
      pub eval_same : (e : Tree) → SameTo k (eval p call n e) (eval p call' m e)
      eval_same (Plain l) st le = refl
      eval_same (Apply op e) st le = ap (λ f. then_value f (apply p op)) (eval_same e st le)
      eval_same (If t a b) st le =
          then_same k (eval p call n t st) (eval p call' m t st) (λ v st'. choose (truth_of v) (eval p call n a) (eval p call n b) st') (λ v st'. choose (truth_of v) (eval p call' m a) (eval p call' m b) st') (eval_same t st le) (ev_falls call n falls k t st le)
          (λ v. choose_same k (truth_of v) (eval p call n a) (eval p call' m a) (eval p call n b) (eval p call' m b) (eval_same a) (eval_same b))
      eval_same (Match t x cases bodies) st le =
          then_same k (eval p call n t st) (eval p call' m t st) (λ v st'. with_body x v (eval_at p call n bodies) (chosen p cases (count bodies) v) st') (λ v st'. with_body x v (eval_at p call' m bodies) (chosen p cases (count bodies) v) st') (eval_same t st le) (ev_falls call n falls k t st le)
          (λ v. body_same k x v (eval_at p call n bodies) (eval_at p call' m bodies) (chosen p cases (count bodies) v) (at_same bodies))
      eval_same (Loop e) st le =
          turns_same n m (eval p call n e) (eval p call' m e) k (eval_same e) (λ j. ev_falls call n falls j e) st le (omega arith) (omega arith)
      eval_same (Call g args) st le = args_same g args [] st le
      eval_same (Block es) st le = block_same es (val.Plain Unset) st le

      pub args_same : (g : Target) (args : Trees) (vs : List Val) → SameTo k (eval_args p call n g args vs) (eval_args p call' m g args vs)
      args_same g end vs st le = called_same g vs st le
      args_same g (more e args) vs st le =
          then_same k (eval p call n e st) (eval p call' m e st) (λ v st'. eval_args p call n g args (vs ++ v ∷ []) st') (λ v st'. eval_args p call' m g args (vs ++ v ∷ []) st') (eval_same e st le) (ev_falls call n falls k e st le) (λ v. args_same g args (vs ++ v ∷ []))

      pub block_same : (es : Trees) (v : Val) → SameTo k (eval_block p call n es v) (eval_block p call' m es v)
      block_same end v st le = refl
      block_same (more e es) v st le =
          then_same k (eval p call n e st) (eval p call' m e st) (λ w st'. eval_block p call n es w st') (λ w st'. eval_block p call' m es w st') (eval_same e st le) (ev_falls call n falls k e st le) (λ w. block_same es w)

      pub at_same : (es : Trees) (i : ℕ) → SameTo k (eval_at p call n es i) (eval_at p call' m es i)
      at_same end i st le = refl
      at_same (more e es) zero st le = eval_same e st le
      at_same (more e es) (suc i) st le = at_same es i st le

  falls_within : (n j : ℕ) (c : List UserCall) (f : ℕ) (vs : List Val) → Falls j c (call_within p n f vs)
  falls_within n j c f vs = call_falls j c p n f vs

  -- a bound on calls that no run of so few steps meets
  pub call_same : (n m f : ℕ) (vs : List Val) (st : State) → st.left < n → st.left < m → call_within p n f vs st ≡ call_within p m f vs st
  call_same zero m f vs st ln lm = absurd (omega arith)
  call_same (suc n) zero f vs st ln lm = absurd (omega arith)
  call_same (suc n) (suc m) f vs st ln lm =
      enter_same st.left (slice_get p.functions f) (eval p (call_within p n) n) (eval p (call_within p m) m) vs
      (λ e. eval_same (call_within p n) (call_within p m) n m st.left (omega arith) (omega arith) (λ g ws st' lt. call_same n m g ws st' (omega arith) (omega arith)) (falls_within n) e)
      st (omega arith)

  module _ (n : ℕ) (st : State) (le : st.left ≤ n) where
    calls_at : (f : ℕ) (vs : List Val) (st' : State) → st'.left < st.left → call_within p n f vs st' ≡ call_within p st.left f vs st'
    calls_at f vs st' lt = call_same n st.left f vs st' (omega arith) lt

    -- more bound, the same run
    pub at_left : (e : Tree) → eval p (call_within p n) n e st ≡ run p e st
    at_left e =
        eval_same (call_within p n) (call_within p st.left) n st.left st.left le (omega arith) calls_at (falls_within n) e st (omega arith)

    pub args_at_left : (g : Target) (args : Trees) (vs : List Val) → eval_args p (call_within p n) n g args vs st ≡ run_args p g args vs st
    args_at_left g args vs =
        args_same (call_within p n) (call_within p st.left) n st.left st.left le (omega arith) calls_at (falls_within n) g args vs st (omega arith)

    pub block_at_left : (es : Trees) (v : Val) → eval_block p (call_within p n) n es v st ≡ run_block p es v st
    block_at_left es v =
        block_same (call_within p n) (call_within p st.left) n st.left st.left le (omega arith) calls_at (falls_within n) es v st (omega arith)

    pub place_at_left : (es : Trees) (i : ℕ) → eval_at p (call_within p n) n es i st ≡ run_at p es i st
    place_at_left es i =
        at_same (call_within p n) (call_within p st.left) n st.left st.left le (omega arith) calls_at (falls_within n) es i st (omega arith)

  -- so the run of a run is never longer than it
  pub run_falls : (e : Tree) (st : State) → AtMost st.left (run p e st)
  run_falls e st = ev_falls (call_within p st.left) st.left (falls_within st.left) st.left e st (omega arith)

  pub run_next : (e : Tree) (es : Trees) (v : Val) (st : State) → run_block p (more e es) v st ≡ then_value (run p e st) (λ w st'. run_block p es w st')
  run_next e es v st =
      then_same st.left (run p e st) (run p e st) (λ w st'. eval_block p (call_within p st.left) st.left es w st') (λ w st'. run_block p es w st') refl (run_falls e st) (λ w st' le. block_at_left st.left st' le es w)

  pub run_if : (t a b : Tree) (st : State) → run p (If t a b) st ≡ then_value (run p t st) (λ v st'. choose (truth_of v) (run p a) (run p b) st')
  run_if t a b st =
      let ev = eval p (call_within p st.left) st.left in
      then_same st.left (run p t st) (run p t st) (λ v st'. choose (truth_of v) (ev a) (ev b) st') (λ v st'. choose (truth_of v) (run p a) (run p b) st') refl (run_falls t st)
      (λ v. choose_same st.left (truth_of v) (ev a) (run p a) (ev b) (run p b) (λ st' le. at_left st.left st' le a) (λ st' le. at_left st.left st' le b))

  pub run_match : (t : Tree) (x : ℕ) (cases : List Case) (bodies : Trees) (st : State) → run p (Match t x cases bodies) st ≡ then_value (run p t st) (λ v st'. with_body x v (run_at p bodies) (chosen p cases (count bodies) v) st')
  run_match t x cases bodies st =
      let ev = eval_at p (call_within p st.left) st.left bodies in
      then_same st.left (run p t st) (run p t st) (λ v st'. with_body x v ev (chosen p cases (count bodies) v) st') (λ v st'. with_body x v (run_at p bodies) (chosen p cases (count bodies) v) st') refl (run_falls t st)
      (λ v. body_same st.left x v ev (run_at p bodies) (chosen p cases (count bodies) v) (λ i st' le. place_at_left st.left st' le bodies i))

  pub run_more : (g : Target) (e : Tree) (args : Trees) (vs : List Val) (st : State) → run_args p g (more e args) vs st ≡ then_value (run p e st) (λ v st'. run_args p g args (vs ++ v ∷ []) st')
  run_more g e args vs st =
      then_same st.left (run p e st) (run p e st) (λ v st'. eval_args p (call_within p st.left) st.left g args (vs ++ v ∷ []) st') (λ v st'. run_args p g args (vs ++ v ∷ []) st') refl (run_falls e st)
      (λ v st' le. args_at_left st.left st' le g args (vs ++ v ∷ []))

  pub enter_at : (j : ℕ) (o : Option Function) (vs : List Val) (st : State) → enter p o (eval p (call_within p j) j) vs (record st { left = j }) ≡ enter p o (run p) vs (record st { left = j })
  enter_at j None vs st = refl
  enter_at j (Some fn) vs st = refl

  call_at : (m f : ℕ) (vs : List Val) (st : State) → spend_from m st (call_within p m f vs) ≡ spend_from m st (enter p (slice_get p.functions f) (run p) vs)
  call_at zero f vs st = refl
  call_at (suc j) f vs st = enter_at j (slice_get p.functions f) vs st

  -- the call of a function, once its arguments are there
  pub run_end : (f : ℕ) (vs : List Val) (st : State) → run_args p (target.Function f) end vs st ≡ run_call p f vs st
  run_end f vs st = call_at st.left f vs st

  -- one turn of a bounded loop that meets no bound
  one_turn : (n : ℕ) (body : State → Flow) → ((j : ℕ) → FallsTo j body) → (st : State) → st.left ≤ n → turns n body st ≡ spend st (λ st'. then_value (body st') (λ v. turns n body))
  one_turn zero body falls st le = none_left st.left st _ le
  one_turn (suc n) body falls st le =
      spend_same st.left st (λ st'. then_value (body st') (λ v. turns n body)) (λ st'. then_value (body st') (λ v. turns (suc n) body))
      (λ st' lt. then_same st'.left (body st') (body st') (λ v. turns n body) (λ v. turns (suc n) body) refl (falls st'.left st' (omega arith))
      (λ v st2 le2. turns_same n (suc n) body body n (λ s l. refl) falls st2 (omega arith) (omega arith) (omega arith)))

  -- a loop is a turn and the loop again
  pub run_loop : (e : Tree) (st : State) → run p (Loop e) st ≡ spend st (λ st'. then_value (run p e st') (λ v. run p (Loop e)))
  run_loop e st =
      let n = st.left in
      let ev = eval p (call_within p n) n in
      let falls = λ (j : ℕ). ev_falls (call_within p n) n (falls_within n) j e in
      one_turn n (ev e) falls st (omega arith)
      ∙ spend_same n st (λ st'. then_value (ev e st') (λ v. turns n (ev e))) (λ st'. then_value (run p e st') (λ v. run p (Loop e)))
      (λ st' lt. then_same st'.left (ev e st') (run p e st') (λ v. turns n (ev e)) (λ v. run p (Loop e)) (at_left n st' (omega arith) e) (falls st'.left st' (omega arith))
      (λ v st2 le. turns_same n st2.left (ev e) (eval p (call_within p st2.left) st2.left e) st2.left (λ s l. at_left n s (omega arith) e ∙ sym (at_left st2.left s l e)) falls st2 (omega arith) (omega arith) (omega arith)))
