-- A walk over actions marks those that one of them reaches.
use Rattle.std.proofs.Common.{◌≡◌, ◌⊎◌, inl, inr, ℕ, ◌<◌, Bool, true, false, List, [], ◌∷◌, ◌++◌, length, set, get_or, refl, arith, sym, ap, ◌∙◌, subst, Some, None, IfSome, IsTrue, slice_get, Result, Ok, Err, OnOk, take, ◌+◌, length-set, replicate, get_or-set_same, get_or-set_other, nat_lt, ◌&&◌, ⊎_elim}
use Rattle.std.specs.List.{Contains, flat_map, list_all}
use Rattle.std.proofs.lemmas.Bool.{cases_eq, cases_lt, ltb-true, lt-ltb}
use Rattle.std.proofs.lemmas.List.Folds.{list_all-append}
use Rattle.std.proofs.lemmas.List.Sums.{AllPass-from_list_all}
use Rattle.std.proofs.lemmas.List.Elements.{All-contains, Contains-append_left, Contains-append_right, Contains-append_cases, Contains-push, Contains-push_cases}
use Rattle.std.proofs.lemmas.Grind.{flat_map-append}
use Rattle.std.proofs.lemmas.List.{take_more, append-nil, get_or-replicate, get_or_past, length-replicate}
use Rattle.std.proofs.lemmas.Option.{slice_get_within, slice_get_read, get_or_from_slice_get}
use Rattle.lp_repr.specs.declared.repr.ActionFnDefn.{ActionFnDefn}
use Rattle.lp_repr.specs.declared.repr.InlinedSymbol.{InlinedSymbol}
use Rattle.lp_valid.specs.InlineRules.{part_runs, kind_runs, Runs, Reaches, runs, onward, RunsLesser}
use Rattle.lp_valid.specs.Walk.{is_marked, Waits, Marks}
use Rattle.lp_valid.specs.declared.circles.Reached.{Reached}

none_of : {P : Type 0} (k : ℕ) → Contains [] k → P
none_of k h = absurd (let less = h.1 in omega arith)

one_of : (a k : ℕ) → Contains (a ∷ []) k → a ≡ k
one_of a k h = ⊎_elim (λ none. none_of k none) (λ e. e) (Contains-push_cases [] a k h)

-- a step that marks nothing
pub marks_none : (s : Reached) → Marks s s []
marks_none s =
    record { size = refl; kept = λ k h. h; marked = λ k c _. none_of k c; only = λ k h. inl h; waiting = λ k h. h; waits = λ k h. inl h }

-- two steps, one after the other
pub marks_then : (a b c : Reached) (xs ys : List ℕ) → Marks a b xs → Marks b c ys → Marks a c (xs ++ ys)
marks_then a b c xs ys first second =
    record {
      size = second.size ∙ first.size;
      kept = λ k h. second.kept k (first.kept k h);
      marked = λ k h less. ⊎_elim (λ x. second.kept k (first.marked k x less)) (λ y. second.marked k y (let e = first.size in omega arith)) (Contains-append_cases xs ys k h);
      only = λ k h. ⊎_elim (λ old. ⊎_elim (λ older. inl older) (λ new. inr (Contains-append_left xs ys k new.0, second.waiting k new.1)) (first.only k old)) (λ new. inr (Contains-append_right xs ys k new.0, new.1)) (second.only k h);
      waiting = λ k h. second.waiting k (first.waiting k h);
      waits = λ k h. ⊎_elim (λ old. ⊎_elim (λ older. inl older) (λ x. inr (Contains-append_left xs ys k x)) (first.waits k old)) (λ y. inr (Contains-append_right xs ys k y)) (second.waits k h);
    }

-- an action that is marked already, or that there isn't
pub marks_again : (s : Reached) (a : ℕ) → (a < length s.reached.items → is_marked s a ≡ true) → Marks s s (a ∷ [])
marks_again s a h =
    record {
      size = refl;
      kept = λ k m. m;
      marked = λ k c less. let e = one_of a k c in subst (λ n. is_marked s n ≡ true) e (h (omega arith));
      only = λ k m. inl m;
      waiting = λ k m. m;
      waits = λ k m. inl m;
    }

-- an action that is marked and then waits
only_one : (s t : Reached) (a : ℕ) → t.reached.items ≡ set s.reached.items a true → Contains t.work.items a → (k : ℕ) → is_marked t k ≡ true → (is_marked s k ≡ true) ⊎ (Contains (a ∷ []) k × Waits t k)
only_one s t a e w k m =
    ⊎_elim (λ same. inr (subst (Contains (a ∷ [])) (sym same) (Contains-push [] a), subst (Waits t) (sym same) w))
    (λ other. inl (sym (ap (λ bs. get_or bs k false) e ∙ get_or-set_other s.reached.items a k true false other) ∙ m)) (cases_eq k a)

pub marks_one : (s t : Reached) (a : ℕ) → a < length s.reached.items → t.reached.items ≡ set s.reached.items a true → t.work.items ≡ s.work.items ++ a ∷ [] → Marks s t (a ∷ [])
marks_one s t a within e f =
    let here : is_marked t a ≡ true = ap (λ bs. get_or bs a false) e ∙ get_or-set_same s.reached.items a true false within in
    let last : Waits t a = subst (λ ws. Contains ws a) (sym f) (Contains-push s.work.items a) in
    record {
      size = ap length e ∙ length-set s.reached.items a true;
      kept = λ k m. ⊎_elim (λ same. subst (λ n. is_marked t n ≡ true) (sym same) here) (λ other. (ap (λ bs. get_or bs k false) e ∙ get_or-set_other s.reached.items a k true false other) ∙ m) (cases_eq k a);
      marked = λ k c _. subst (λ n. is_marked t n ≡ true) (one_of a k c) here;
      only = only_one s t a e last;
      waiting = λ k m. subst (λ ws. Contains ws k) (sym f) (Contains-append_left s.work.items (a ∷ []) k m);
      waits = λ k m. Contains-append_cases s.work.items (a ∷ []) k (subst (λ ws. Contains ws k) f m);
    }

-- what holds in a walk from an action: what is marked is reached, and of what is marked and no longer waits, what it runs is marked
pub record Walks (actions : List ActionFnDefn) (from : ℕ) (s : Reached) : Type 0 where
  pub size : length s.reached.items ≡ length actions
  pub sound : (k : ℕ) → is_marked s k ≡ true → Reaches actions from k
  pub awaits : (k : ℕ) → Waits s k → Reaches actions from k
  pub first : (k : ℕ) → Runs actions from k → k < length actions → is_marked s k ≡ true
  pub closed : (k : ℕ) → is_marked s k ≡ true → Waits s k ⊎ ((b : ℕ) → Runs actions k b → b < length actions → is_marked s b ≡ true)

runs_these : (actions : List ActionFnDefn) (k b : ℕ) (a : ActionFnDefn) → slice_get actions k ≡ Some a → Runs actions k b → Contains (kind_runs a.kind) b
runs_these actions k b a at r =
    let other : slice_get actions k ≡ Some r.0 = r.1 in
    let same : r.0 ≡ a = cc in
    subst (λ (x : ActionFnDefn). Contains (kind_runs x.kind) b) same r.2

-- the beginning
pub walk_begins : (actions : List ActionFnDefn) (from : ℕ) (a : ActionFnDefn) (s t : Reached) → slice_get actions from ≡ Some a → length s.reached.items ≡ length actions → ((k : ℕ) → is_marked s k ≡ false) → s.work.items ≡ [] → Marks s t (kind_runs a.kind) → Walks actions from t
walk_begins actions from a s t at size none empty m =
    let unmarked = λ (k : ℕ) (e : is_marked s k ≡ true). (let f = none k in let no : true ≡ false = sym e ∙ f in let never : ⊥ = cc in never) in
    record {
      size = m.size ∙ size;
      sound = λ k e. ⊎_elim (λ old. absurd (unmarked k old)) (λ new. runs k (a, at, new.0)) (m.only k e);
      awaits = λ k e. ⊎_elim (λ old. none_of k (subst (λ ws. Contains ws k) empty old)) (λ new. runs k (a, at, new)) (m.waits k e);
      first = λ k r less. m.marked k (runs_these actions from k a at r) (omega (arith, size));
      closed = λ k e. ⊎_elim (λ old. absurd (unmarked k old)) (λ new. inl new.1) (m.only k e);
    }

-- a turn: an action no longer waits, and what it runs is marked
pub walk_goes_on : (actions : List ActionFnDefn) (from r : ℕ) (s t u : Reached) (these : List ℕ) → Walks actions from s → t.reached.items ≡ s.reached.items → s.work.items ≡ t.work.items ++ r ∷ [] → ((b : ℕ) → Contains these b → Runs actions r b) → ((b : ℕ) → Runs actions r b → Contains these b) → Marks t u these → Walks actions from u
walk_goes_on actions from r s t u these h e f to back m =
    let same = λ (k : ℕ). (let p : is_marked t k ≡ is_marked s k = ap (λ bs. get_or bs k false) e in p) in
    let reached : Reaches actions from r = h.awaits r (subst (λ ws. Contains ws r) (sym f) (Contains-push t.work.items r)) in
    let size : length t.reached.items ≡ length actions = ap length e ∙ h.size in
    let old_waits = λ (k : ℕ) (w : Waits t k). (let v : Waits s k = subst (λ ws. Contains ws k) (sym f) (Contains-append_left t.work.items (r ∷ []) k w) in v) in
    record {
      size = m.size ∙ size;
      sound = λ k p. ⊎_elim (λ old. h.sound k (sym (same k) ∙ old)) (λ new. onward r k reached (to k new.0)) (m.only k p);
      awaits = λ k p. ⊎_elim (λ old. h.awaits k (old_waits k old)) (λ new. onward r k reached (to k new)) (m.waits k p);
      first = λ k p less. m.kept k (same k ∙ h.first k p less);
      closed = λ k p.
          ⊎_elim
          (λ old.
          ⊎_elim
          (λ waited.
          ⊎_elim (λ still. inl (m.waiting k still)) (λ now. inr (λ b q less. m.marked b (back b (subst (λ n. Runs actions n b) (sym now) q)) (omega (arith, size))))
          (Contains-push_cases t.work.items r k (subst (λ ws. Contains ws k) f waited)))
          (λ done. inr (λ b q less. m.kept b (same b ∙ done b q less))) (h.closed k (sym (same k) ∙ old)))
          (λ new. inl new.1) (m.only k p);
    }

pub turn_of_action : (actions : List ActionFnDefn) (from r : ℕ) (a : ActionFnDefn) (s t u : Reached) → slice_get actions r ≡ Some a → Walks actions from s → t.reached.items ≡ s.reached.items → s.work.items ≡ t.work.items ++ r ∷ [] → Marks t u (kind_runs a.kind) → Walks actions from u
turn_of_action actions from r a s t u at h e f m =
    walk_goes_on actions from r s t u (kind_runs a.kind) h e f (λ b c. (a, at, c)) (λ b q. runs_these actions r b a at q) m

runs_nothing : {P : Type 0} (actions : List ActionFnDefn) (r b : ℕ) → slice_get actions r ≡ None → Runs actions r b → P
runs_nothing actions r b at q = let other : slice_get actions r ≡ Some q.0 = q.1 in let no : Some q.0 ≡ None = sym other ∙ at in cc

pub turn_of_none : (actions : List ActionFnDefn) (from r : ℕ) (s t : Reached) → slice_get actions r ≡ None → Walks actions from s → t.reached.items ≡ s.reached.items → s.work.items ≡ t.work.items ++ r ∷ [] → Walks actions from t
turn_of_none actions from r s t at h e f =
    walk_goes_on actions from r s t t [] h e f (λ b c. none_of b c) (λ b q. runs_nothing actions r b at q) (marks_none t)

runs_within : (actions : List ActionFnDefn) (k b : ℕ) → Runs actions k b → k < length actions
runs_within actions k b r = slice_get_within actions k r.0 r.1

-- the end: all that is reached is marked
pub walk_ends : (actions : List ActionFnDefn) (from : ℕ) (s : Reached) → Walks actions from s → s.work.items ≡ [] → (k : ℕ) → Reaches actions from k → k < length actions → is_marked s k ≡ true
walk_ends actions from s h empty _ (runs k r) less = h.first k r less
walk_ends actions from s h empty _ (onward by k p r) less =
    ⊎_elim (λ waits. none_of by (subst (λ ws. Contains ws by) empty waits)) (λ done. done k r less) (h.closed by (walk_ends actions from s h empty by p (runs_within actions by k r)))

-- what an action reaches is reached from within the list
pub reaches_within : (actions : List ActionFnDefn) (from k : ℕ) → Reaches actions from k → from < length actions
reaches_within actions from _ (runs k r) = runs_within actions from k r
reaches_within actions from _ (onward by k p r) = reaches_within actions from by p

-- where all run lesser ones, all reach lesser ones
runs_lesser : (actions : List ActionFnDefn) (k b : ℕ) → RunsLesser actions k → Runs actions k b → b < k
runs_lesser actions k b h r =
    let at : slice_get actions k ≡ Some r.0 = r.1 in
    let all = subst (λ o. IfSome o (λ a. IsTrue (list_all (λ c. nat_lt c k) (kind_runs a.kind)))) at h in
    ltb-true b k (All-contains (λ c. nat_lt c k ≡ true) (kind_runs (r.0).kind) b (AllPass-from_list_all (λ c. nat_lt c k) (kind_runs (r.0).kind) all) r.2)

reaches_lesser : (actions : List ActionFnDefn) → ((place : ℕ) → RunsLesser actions place) → (from k : ℕ) → Reaches actions from k → k < from
reaches_lesser actions h from _ (runs k r) = runs_lesser actions from k (h from) r
reaches_lesser actions h from _ (onward by k p r) =
    let one = runs_lesser actions by k (h by) r in
    let two = reaches_lesser actions h from by p in
    omega arith

pub no_circle : (actions : List ActionFnDefn) → ((place : ℕ) → RunsLesser actions place) → (place : ℕ) → ¬ Reaches actions place place
no_circle actions h place p = let less = reaches_lesser actions h place place p in omega arith

-- a test of all that parts run
pub all_of_all : {X Y : Type 0} (p : Y → Bool) (f : X → List Y) (xs : List X) → list_all p (flat_map f xs) ≡ list_all (λ x. list_all p (f x)) xs
all_of_all p f [] = refl
all_of_all p f (x ∷ xs) = list_all-append p (f x) (flat_map f xs) ∙ ap (λ b. list_all p (f x) && b) (all_of_all p f xs)

pub inline_lesser : (n outer : ℕ) (parts : List InlinedSymbol) (b : Bool) → outer < n → b ≡ list_all (λ s. list_all (λ c. nat_lt c n) (part_runs s)) parts → b ≡ list_all (λ c. nat_lt c n) (outer ∷ flat_map part_runs parts)
inline_lesser n outer parts b less e =
    e ∙ (sym (all_of_all (λ c. nat_lt c n) part_runs parts) ∙ sym (ap (λ t. t && list_all (λ c. nat_lt c n) (flat_map part_runs parts)) (lt-ltb outer n less)))

-- one more part
pub flat_more : {X Y : Type 0} (f : X → List Y) (xs : List X) (i : ℕ) (x : X) → i < length xs → x ≡ get_or xs i x → flat_map f (take (i + 1) xs) ≡ flat_map f (take i xs) ++ f x
flat_more f xs i x less e =
    ap (flat_map f) (take_more xs i x less)
    ∙ (flat_map-append f (take i xs) (get_or xs i x ∷ []) ∙ (ap (λ y. flat_map f (take i xs) ++ (f y ++ [])) (sym e) ∙ ap (λ l. flat_map f (take i xs) ++ l) (append-nil (f x))))

pub then_these : {E : Type 0} (a b c : Reached) (xs ys : List ℕ) (r : Result (Unit {0}) E) → Marks a b xs → OnOk r (Marks b c ys) → OnOk r (Marks a c (xs ++ ys))
then_these a b c xs ys (Ok u) first second = marks_then a b c xs ys first second
then_these a b c xs ys (Err e) first second = tt

-- how marks are read
pub mark_read : (bs : List Bool) (k : ℕ) (b : Bool) → k < length bs → b ≡ get_or bs k b → get_or bs k false ≡ b
mark_read bs k b less e = get_or_from_slice_get bs k b false (slice_get_read bs (length bs) k b refl less e)

pub unmarked : (bs : List Bool) (n : ℕ) → bs ≡ replicate n false → (k : ℕ) → get_or bs k false ≡ false
unmarked bs n e k = rw e (⊎_elim (λ less. get_or-replicate n k false false less) (λ past. get_or_past (replicate n false) k false (let size = length-replicate n false in omega arith)) (cases_lt k n))

pub nothing_left : (ws : List ℕ) → length ws ≡ 0 → ws ≡ []
nothing_left [] e = refl
nothing_left (w ∷ ws) e = absurd (omega arith)
