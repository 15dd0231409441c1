-- Lines that let names be values: what a name shows, and blocks that grow at their end.
use Rattle.std.proofs.Common.{◌≡◌, ℕ, zero, suc, ◌<◌, List, [], ◌∷◌, ◌++◌, length, set, Option, Some, None, refl, ap, sym, ◌∙◌, arith, if◌then◌else◌}
use Rattle.std.specs.Prelude.{slice_get, slice_set}
use Rattle.std.specs.Option.{option_and_then}
use Rattle.std.proofs.lemmas.Slice.Eq.{bytes_eq-Decides}
use Rattle.std.proofs.lemmas.Bool.{false_from_ne_true}
use Rattle.lp_core.specs.Val.{Val}
use Rattle.lp_core.specs.Tree.{Tree, trees_of, more, end}
use Rattle.lp_core.specs.Store.{Program}
use Rattle.lp_core.specs.Effect.{set_value, gave, stored, written, write_over, unit}
use Rattle.lp_core.specs.Flow.{State, Flow, Gives, Returns, Spent, Stuck, flow, then_value}
use Rattle.lp_core.specs.Eval.{run, run_block, run_args, run_call}
use Rattle.lp_core.specs.declared.expr.Target.TheVariants as target
use Rattle.lp_core.proofs.Same.{run_next, run_more, run_end}
use Rattle.lp_maker.specs.Slots.{Names, bound, slot_after, slot_among, slot_of}
use Rattle.lp_maker.specs.Constructs.{read_found, write, called}
use Rattle.lp_maker.specs.Making.{Making, number_in, call_named, read_name}
use Rattle.lp_bodies.specs.Lines.{Lines, with_let}
use Rattle.lp_question_laws.proofs.Gotos.LinkMaps.{get_set, get_set_other}

-- a name has a slot that is given out, which holds a value
pub record Shows (names : Names) (env : List Val) (q : List ℕ) (v : Val) : Type 0 where
  pub slot : ℕ
  pub found : slot_of q names ≡ Some slot
  pub given : slot < names.next
  pub held : slice_get env slot ≡ Some v

among-append : (q : List ℕ) (o : Option ℕ) (es : List (List ℕ × ℕ)) (e : List ℕ × ℕ) → slot_among q o (es ++ e ∷ []) ≡ slot_after q (slot_among q o es) e
among-append q o [] e = refl
among-append q o (x ∷ es) e = among-append q (slot_after q o x) es e

-- a name that was bound last
pub shows_new : (names : Names) (env : List Val) (q : List ℕ) (v : Val) → names.next < length env → Shows (bound q names) (slice_set env names.next v) q v
shows_new names env q v room = record {
  slot = names.next;
  found = among-append q None names.known (q, names.next) ∙ ap (λ b. if b then Some names.next else slot_among q None names.known) ((bytes_eq-Decides q q).1 refl);
  given = omega arith;
  held = get_set env names.next v room;
}

-- another name still shows what it did
pub shows_old : (names : Names) (env : List Val) (q name : List ℕ) (v w : Val) → (name ≡ q → ⊥) → Shows names env q v → Shows (bound name names) (slice_set env names.next w) q v
shows_old names env q name v w ne s = record {
  slot = s.slot;
  found = among-append q None names.known (name, names.next) ∙ ap (λ b. if b then Some names.next else slot_among q None names.known) (false_from_ne_true _ (λ e. ne ((bytes_eq-Decides name q).0 e))) ∙ s.found;
  given = (let g = s.given in omega arith);
  held = get_set_other env s.slot names.next w (λ e. (let g = s.given in omega arith)) ∙ s.held;
}

module _ (p : Program) where
  -- a name is read
  pub name_read : (names : Names) (q : List ℕ) (v : Val) (st : State) → Shows names st.store.env q v → set_value v ≡ Some v → run p (read_name names q) st ≡ Gives v st
  name_read names q v st s set =
      ap (λ o. run p (read_found o) st) s.found ∙ ap (λ o. flow st (gave (option_and_then set_value o) st.store)) s.held ∙ ap (λ o. flow st (gave o st.store)) set

  -- a slot is written
  abbrev pub with_env : State → List Val → State
  with_env st env = record st { store = record st.store { env = env } }

  has_slot : (env : List Val) (k : ℕ) → k < length env → (v : Val) × (slice_get env k ≡ Some v)
  has_slot [] k h = absurd (omega arith)
  has_slot (x ∷ env) zero h = (x, refl)
  has_slot (x ∷ env) (suc k) h = has_slot env k (omega arith)

  pub slot_written : (k : ℕ) (e : Tree) (v : Val) (st st' : State) → run p e st ≡ Gives v st' → k < length st'.store.env → run p (write k e) st ≡ Gives unit (with_env st' (slice_set st'.store.env k v))
  slot_written k e v st st' runs room =
      ap (λ fl. then_value fl (λ w s. flow s (stored (written k w s.store)))) runs
      ∙ ap (λ o. flow st' (stored (write_over k v st'.store o))) (has_slot st'.store.env k room).1

  then_each : (fl : Flow) (go go' : Val → State → Flow) → ((v : Val) (st : State) → go v st ≡ go' v st) → then_value fl go ≡ then_value fl go'
  then_each (Gives v st) go go' h = h v st
  then_each (Returns v st) go go' h = refl
  then_each (Spent calls) go go' h = refl
  then_each (Stuck left calls) go go' h = refl

  then_then : (fl : Flow) (f g : Val → State → Flow) → then_value fl (λ v st. then_value (f v st) g) ≡ then_value (then_value fl f) g
  then_then (Gives v st) f g = refl
  then_then (Returns v st) f g = refl
  then_then (Spent calls) f g = refl
  then_then (Stuck left calls) f g = refl

  append-block : (es : List Tree) (e : Tree) (u : Val) (st : State) → run_block p (trees_of (es ++ e ∷ [])) u st ≡ then_value (run_block p (trees_of es) u st) (λ v s. run_block p (more e end) v s)
  append-block [] e u st = refl
  append-block (x ∷ es) e u st =
      run_next p x (trees_of (es ++ e ∷ [])) u st
      ∙ then_each (run p x st) (λ w s. run_block p (trees_of (es ++ e ∷ [])) w s) (λ w s. then_value (run_block p (trees_of es) w s) (λ v s. run_block p (more e end) v s)) (λ w s. append-block es e w s)
      ∙ then_then (run p x st) (λ w s. run_block p (trees_of es) w s) (λ v s. run_block p (more e end) v s)
      ∙ ap (λ fl. then_value fl (λ v s. run_block p (more e end) v s)) (sym (run_next p x (trees_of es) u st))

  -- a block with one more expression
  pub block_more : (es : List Tree) (e : Tree) (u v w : Val) (st st' st2 : State) → run_block p (trees_of es) u st ≡ Gives v st' → run p e st' ≡ Gives w st2 → run_block p (trees_of (es ++ e ∷ [])) u st ≡ Gives w st2
  block_more es e u v w st st' st2 done runs = append-block es e u st ∙ ap (λ fl. then_value fl (λ v s. run_block p (more e end) v s)) done ∙ run_next p e end v st' ∙ ap (λ fl. then_value fl (λ w s. Gives w s)) runs

  -- after some lines this is the state, and they give no value that counts
  pub record Ran (parts : List Tree) (st st' : State) : Type 0 where
    pub value : (u : Val) → Val
    pub runs : (u : Val) → run_block p (trees_of parts) u st ≡ Gives (value u) st'

  pub nothing_ran : (st : State) → Ran [] st st
  nothing_ran st = record { value = λ u. u; runs = λ u. refl }

  -- `let name = value;` is a line more, after which the name shows the value
  pub let_ran : (l : Lines) (name : List ℕ) (e : Tree) (v : Val) (st st1 st2 : State) → Ran l.parts st st1 → run p e st1 ≡ Gives v st2 → l.names.next < length st2.store.env →
      Ran (with_let name e l).parts st (with_env st2 (slice_set st2.store.env l.names.next v))
  let_ran l name e v st st1 st2 ran runs room = record {
    value = λ u. unit;
    runs = λ u. block_more l.parts (write l.names.next e) u (ran.value u) unit st st1 _ (ran.runs u) (slot_written l.names.next e v st1 st2 runs room);
  }

  -- a call of a function by its name, with one name's value
  pub call_one : (m : Making) (names : Names) (f : List ℕ) (k : ℕ) (q : List ℕ) (v : Val) (st : State) → number_in f m.names ≡ Some k → Shows names st.store.env q v → set_value v ≡ Some v →
      run p (call_named f (read_name names q ∷ []) m) st ≡ run_call p k (v ∷ []) st
  call_one m names f k q v st number shows set =
      ap (λ o. run p (called (read_name names q ∷ []) o) st) number
      ∙ run_more p (target.Function k) (read_name names q) end [] st
      ∙ ap (λ fl. then_value fl (λ v s. run_args p (target.Function k) end (v ∷ []) s)) (name_read names q v st shows set)
      ∙ run_end p k (v ∷ []) st
