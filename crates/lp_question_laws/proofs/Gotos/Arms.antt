-- A match whose tests and bodies were gathered arm by arm goes on with the body of the first arm that a value passes a test of.
use Rattle.std.proofs.Common.{◌≡◌, ℕ, suc, ◌+◌, Bool, true, false, List, [], ◌∷◌, ◌++◌, length, map, Option, Some, None, refl, ap, sym, ◌∙◌, arith, append_assoc, append-nil, add-zero, zero-add, add-one, length-append}
use mathlib.Core.Path.{fun_ext}
use Rattle.std.proofs.lemmas.List.{length-map, map-append}
use Rattle.lp_core.specs.declared.expr.Case.{Case}
use Rattle.lp_core.specs.declared.expr.Test.{Test}
use Rattle.lp_core.specs.Val.{Val}
use Rattle.lp_core.specs.Tree.{Tree, Match, trees_of}
use Rattle.lp_core.specs.Store.{Program}
use Rattle.lp_core.specs.Effect.{written}
use Rattle.lp_core.specs.CaseMeaning.{passes, chosen, chosen_if, last_body}
use Rattle.lp_core.specs.Flow.{State, Flow, Gives, Returns, Spent, Stuck, stuck, then_value, over_store, with_body}
use Rattle.lp_core.specs.Eval.{count, run, run_at}
use Rattle.lp_core.proofs.Same.{run_match}
use Rattle.lp_maker.specs.Constructs.{here}
use Rattle.lp_bodies.specs.Arms.{Gathered, with_case, no_arms}
use Rattle.lp_bodies.specs.Tables.{choice_at}
use Rattle.lp_bodies.specs.Arms as made

-- tests, and the body that they lead to
abbrev pub Arm : Type 0
Arm = List Test × Tree

abbrev pub bodies_of : List Arm → List Tree
bodies_of arms = map (λ m. m.1) arms

abbrev pub cases_to : ℕ → List Test → List Case
cases_to k tests = map (λ t. here t k) tests

-- their cases, where the bodies are numbered from k on
abbrev pub cases_of : ℕ → List Arm → List Case
cases_of k [] = []
cases_of k (m ∷ ms) = cases_to k m.0 ++ cases_of (suc k) ms

-- what was gathered is these arms
pub record Shows (a : Gathered) (arms : List Arm) : Type 0 where
  pub cases : a.cases ≡ cases_of 0 arms
  pub bodies : a.bodies ≡ bodies_of arms

abbrev pub with_cases : List Test → Gathered → Gathered
with_cases [] a = a
with_cases (t ∷ ts) a = with_cases ts (with_case t a)

abbrev pub with_arm : Arm → Gathered → Gathered
with_arm m a = made.with_body m.1 (with_cases m.0 a)

pub no_shown : Shows no_arms []
no_shown = record { cases = refl; bodies = refl }

cases_kept : (ts : List Test) (a : Gathered) → (with_cases ts a).cases ≡ a.cases ++ cases_to (length a.bodies) ts
cases_kept [] a = sym (append-nil a.cases)
cases_kept (t ∷ ts) a = cases_kept ts (with_case t a) ∙ append_assoc a.cases (here t (length a.bodies) ∷ []) (cases_to (length a.bodies) ts)

bodies_kept : (ts : List Test) (a : Gathered) → (with_cases ts a).bodies ≡ a.bodies
bodies_kept [] a = refl
bodies_kept (t ∷ ts) a = bodies_kept ts (with_case t a)

cases_more : (k : ℕ) (ms : List Arm) (m : Arm) → cases_of k ms ++ cases_to (k + length ms) m.0 ≡ cases_of k (ms ++ m ∷ [])
cases_more k [] m = ap (λ n. cases_to n m.0) (add-zero k) ∙ sym (append-nil (cases_to k m.0))
cases_more k (n ∷ ms) m =
    let e : k + suc (length ms) ≡ suc k + length ms = omega arith in
    append_assoc (cases_to k n.0) (cases_of (suc k) ms) (cases_to (k + suc (length ms)) m.0)
    ∙ ap (λ j. cases_to k n.0 ++ (cases_of (suc k) ms ++ cases_to j m.0)) e
    ∙ ap (λ cs. cases_to k n.0 ++ cs) (cases_more (suc k) ms m)

-- one more
pub one_shown : (a : Gathered) (ms : List Arm) (m : Arm) → Shows a ms → Shows (with_arm m a) (ms ++ m ∷ [])
one_shown a ms m h =
    let n : length a.bodies ≡ length ms = ap length h.bodies ∙ length-map ms (λ m. m.1) in
    record {
      cases = cases_kept m.0 a ∙ ap (λ cs. cs ++ cases_to (length a.bodies) m.0) h.cases ∙ ap (λ k. cases_of 0 ms ++ cases_to k m.0) n
          ∙ ap (λ k. cases_of 0 ms ++ cases_to k m.0) (sym (zero-add (length ms))) ∙ cases_more 0 ms m;
      bodies = ap (λ bs. bs ++ m.1 ∷ []) (bodies_kept m.0 a ∙ h.bodies) ∙ sym (map-append (λ m. m.1) ms (m ∷ []));
    }

-- whether a value passes one of some tests
abbrev pub or_else : Option Bool → Option Bool → Option Bool
or_else None o = None
or_else (Some true) o = Some true
or_else (Some false) o = o

abbrev pub pick_if : Tree → Option Tree → Option Bool → Option Tree
pick_if body others None = None
pick_if body others (Some true) = Some body
pick_if body others (Some false) = others

module _ (p : Program) where
  abbrev pub passes_any : List Test → Val → Option Bool
  passes_any [] v = Some false
  passes_any (t ∷ ts) v = or_else (passes p t v) (passes_any ts v)

  -- the body that a value is led to
  abbrev pub picked : Val → List Arm → Tree → Option Tree
  picked v [] last = Some last
  picked v (m ∷ ms) last = pick_if m.1 (picked v ms last) (passes_any m.0 v)

  -- goes on with it, the value in a slot
  abbrev pub settled : ℕ → Val → Option Tree → State → Flow
  settled x v None st = stuck st
  settled x v (Some e) st = over_store st (run p e) (written x v st.store)

  chosen_among : (k n : ℕ) (ts : List Test) (cs : List Case) (v : Val) → chosen p (cases_to k ts ++ cs) n v ≡ chosen_if k (chosen p cs n v) (passes_any ts v)
  chosen_among k n [] cs v = refl
  chosen_among k n (t ∷ ts) cs v =
      ap (λ o. chosen_if k o (passes p t v)) (chosen_among k n ts cs v) ∙ by (passes p t v) (chosen p cs n v) (passes_any ts v)
    where
      by : (o : Option Bool) (c : Option ℕ) (r : Option Bool) → chosen_if k (chosen_if k c r) o ≡ chosen_if k c (or_else o r)
      by None c r = refl
      by (Some true) c r = refl
      by (Some false) c r = refl

  body_at : (pre : List Tree) (b : Tree) (rest : List Tree) (st : State) → run_at p (trees_of (pre ++ b ∷ rest)) (length pre) st ≡ run p b st
  body_at [] b rest st = refl
  body_at (x ∷ pre) b rest st = body_at pre b rest st

  led : (x : ℕ) (v : Val) (st : State) (pre : List Tree) (ms : List Arm) (last : Tree) →
      with_body x v (run_at p (trees_of (pre ++ (bodies_of ms ++ last ∷ [])))) (chosen p (cases_of (length pre) ms) (length pre + suc (length ms)) v) st
      ≡ settled x v (picked v ms last) st
  led x v st pre [] last =
      let n : length pre + 1 ≡ suc (length pre) = omega arith in
      ap (λ k. with_body x v (run_at p (trees_of (pre ++ last ∷ []))) (last_body k) st) n
      ∙ ap (λ (go : State → Flow). over_store st go (written x v st.store)) (fun_ext (body_at pre last []))
  led x v st pre (m ∷ ms) last =
      let rest = bodies_of ms ++ last ∷ [] in
      let all = pre ++ (m.1 ∷ rest) in
      let k = length pre in
      let n = k + suc (suc (length ms)) in
      let pre' = pre ++ m.1 ∷ [] in
      let long : length pre' ≡ suc k = length-append pre (m.1 ∷ []) ∙ by_one k in
      let number : length pre' + suc (length ms) ≡ n = ap (λ j. j + suc (length ms)) long ∙ moved k (length ms) in
      let next : with_body x v (run_at p (trees_of all)) (chosen p (cases_of (suc k) ms) n v) st ≡ settled x v (picked v ms last) st =
      sym (ap (λ bs. with_body x v (run_at p (trees_of bs)) (chosen p (cases_of (suc k) ms) n v) st) (append_assoc pre (m.1 ∷ []) rest))
      ∙ sym (ap (λ j. with_body x v (run_at p (trees_of (pre' ++ rest))) (chosen p (cases_of j ms) n v) st) long)
      ∙ sym (ap (λ j. with_body x v (run_at p (trees_of (pre' ++ rest))) (chosen p (cases_of (length pre') ms) j v) st) number)
      ∙ led x v st pre' ms last in
      ap (λ o. with_body x v (run_at p (trees_of all)) o st) (chosen_among k n m.0 (cases_of (suc k) ms) v)
      ∙ by all k n (body_at pre m.1 rest) next (passes_any m.0 v)
    where
      by_one : (k : ℕ) → k + 1 ≡ suc k
      by_one k = omega arith

      moved : (k j : ℕ) → suc k + suc j ≡ k + suc (suc j)
      moved k j = omega arith

      by : (all : List Tree) (k n : ℕ) → ((st' : State) → run_at p (trees_of all) k st' ≡ run p m.1 st') →
          with_body x v (run_at p (trees_of all)) (chosen p (cases_of (suc k) ms) n v) st ≡ settled x v (picked v ms last) st →
          (o : Option Bool) → with_body x v (run_at p (trees_of all)) (chosen_if k (chosen p (cases_of (suc k) ms) n v) o) st ≡ settled x v (pick_if m.1 (picked v ms last) o) st
      by all k n here next None = refl
      by all k n here next (Some true) = ap (λ (go : State → Flow). over_store st go (written x v st.store)) (fun_ext here)
      by all k n here next (Some false) = next

  count_of : (bs : List Tree) → count (trees_of bs) ≡ length bs
  count_of [] = refl
  count_of (b ∷ bs) = ap suc (count_of bs)

  then_same : (fl : Flow) (go go' : Val → State → Flow) → ((v : Val) (st : State) → go v st ≡ go' v st) → then_value fl go ≡ then_value fl go'
  then_same (Gives v st) go go' h = h v st
  then_same (Returns v st) go go' h = refl
  then_same (Spent calls) go go' h = refl
  then_same (Stuck left calls) go go' h = refl

  pub arms_run : (value : Tree) (x : ℕ) (last : Tree) (a : Gathered) (ms : List Arm) (st : State) → Shows a ms →
      run p (choice_at value x last a) st ≡ then_value (run p value st) (λ v st'. settled x v (picked v ms last) st')
  arms_run value x last a ms st h =
      let bodies = bodies_of ms ++ last ∷ [] in
      let n : count (trees_of bodies) ≡ suc (length ms) = count_of bodies ∙ length-append (bodies_of ms) (last ∷ []) ∙ ap (λ k. k + 1) (length-map ms (λ m. m.1)) ∙ add-one (length ms) in
      ap (λ cs. run p (Match value x cs (trees_of (a.bodies ++ last ∷ []))) st) h.cases
      ∙ ap (λ bs. run p (Match value x (cases_of 0 ms) (trees_of (bs ++ last ∷ []))) st) h.bodies
      ∙ run_match p value x (cases_of 0 ms) (trees_of bodies) st
      ∙ then_same (run p value st) (λ v st'. with_body x v (run_at p (trees_of bodies)) (chosen p (cases_of 0 ms) (count (trees_of bodies)) v) st') (λ v st'. settled x v (picked v ms last) st')
      (λ v st'. ap (λ k. with_body x v (run_at p (trees_of bodies)) (chosen p (cases_of 0 ms) k v) st') (n ∙ sym (zero-add (suc (length ms)))) ∙ led x v st' [] ms last)
