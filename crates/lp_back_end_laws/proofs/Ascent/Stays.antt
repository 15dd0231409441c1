-- Functions that were promised are made one after another: each stands under its number, and what was made stays.
use Rattle.std.proofs.Common.{◌≡◌, ℕ, suc, ◌<◌, ◌≤◌, Bool, List, [], ◌∷◌, ◌++◌, length, set, Option, Some, None, refl, ap, sym, ◌∙◌, arith, append_assoc, append-nil, if◌then◌else◌}
use Rattle.std.specs.Prelude.{slice_get, nat_lt}
use Rattle.std.proofs.lemmas.Bool.{lt-ltb}
use Rattle.std.proofs.lemmas.Option.{slice_get_within}
use Rattle.lp_core.specs.declared.expr.Function.{Function}
use Rattle.lp_view.specs.PartLists.{Form}
use Rattle.lp_maker.specs.Making.{Making, defined}
use Rattle.lp_run.specs.Functions.{function_made, one_made, all_made}
use Rattle.lp_question_laws.proofs.Gotos.LinkGrows.{either}
use Rattle.lp_question_laws.proofs.Gotos.LinkMaps.{get_more, get_end, get_set, get_set_other}
use Rattle.lp_back_end_laws.proofs.Ascent.Grows.{More, more_both, Adds, none}

-- a function that was made stays, and so does all that functions are made by
pub record Stays (m n : Making) : Type 0 where
  pub prefix : n.prefix ≡ m.prefix
  pub names : n.names ≡ m.names
  pub variants : More m n
  pub tables : n.tables ≡ m.tables
  pub texts : (ts : List (List ℕ)) × (n.texts ≡ m.texts ++ ts)
  pub terminals : n.terminals ≡ m.terminals
  pub action_table : n.action_table ≡ m.action_table
  pub item_closure : n.item_closure ≡ m.item_closure
  pub kept : (j : ℕ) (f : Function) → slice_get m.functions j ≡ Some (Some f) → slice_get n.functions j ≡ Some (Some f)

pub stays_by : (m n : Making) → Adds m n → Stays m n
stays_by m n a = record {
  prefix = a.extends.prefix;
  names = a.extends.names;
  variants = a.variants;
  tables = a.extends.tables;
  texts = a.extends.texts;
  terminals = a.extends.terminals;
  action_table = a.extends.action_table;
  item_closure = a.extends.item_closure;
  kept = λ j f h. ap (λ (fs : List (Option Function)). slice_get fs j) a.extends.functions.1 ∙ get_more m.functions a.extends.functions.0 j (Some f) h;
}

pub texts_both : (xs ys zs : List (List ℕ)) → ((a : List (List ℕ)) × (ys ≡ xs ++ a)) → ((b : List (List ℕ)) × (zs ≡ ys ++ b)) → (c : List (List ℕ)) × (zs ≡ xs ++ c)
texts_both xs ys zs f g = (f.0 ++ g.0, g.1 ∙ ap (λ (t : List (List ℕ)). t ++ g.0) f.1 ∙ append_assoc xs f.0 g.0)

pub stays_both : (m n o : Making) → Stays m n → Stays n o → Stays m o
stays_both m n o f g = record {
  prefix = g.prefix ∙ f.prefix;
  names = g.names ∙ f.names;
  variants = more_both m n o f.variants g.variants;
  tables = g.tables ∙ f.tables;
  texts = texts_both m.texts n.texts o.texts f.texts g.texts;
  terminals = g.terminals ∙ f.terminals;
  action_table = g.action_table ∙ f.action_table;
  item_closure = g.item_closure ∙ f.item_closure;
  kept = λ j x h. g.kept j x (f.kept j x h);
}

-- ---- a function under its number
-- what else stands there stays
pub defined_other : (P : List (Option Function) → Type 0) (k : ℕ) (f : Function) (fs : List (Option Function)) → P (set fs k (Some f)) → P fs → P (if nat_lt k (length fs) then set fs k (Some f) else fs)
defined_other P k f fs a b = either P (nat_lt k (length fs)) _ _ a b

pub other_stays : (k : ℕ) (f : Function) (m : Making) (j : ℕ) (x : Option Function) → (j ≡ k → ⊥) → slice_get m.functions j ≡ Some x → slice_get (defined k f m).functions j ≡ Some x
other_stays k f m j x ne h = defined_other (λ (fs : List (Option Function)). slice_get fs j ≡ Some x) k f m.functions (get_set_other m.functions j k (Some f) ne ∙ h) h

pub defined_there : (k : ℕ) (f : Function) (m : Making) (x : Option Function) → slice_get m.functions k ≡ Some x → slice_get (defined k f m).functions k ≡ Some (Some f)
defined_there k f m x h =
    let less : k < length m.functions = slice_get_within m.functions k x h in
    ap (λ (b : Bool). slice_get (if b then set m.functions k (Some f) else m.functions) k) (lt-ltb k (length m.functions) less) ∙ get_set m.functions k (Some f) less

-- a number that waits isn't that of a function that was made
waits_not : (fs : List (Option Function)) (j k : ℕ) (f : Function) → slice_get fs j ≡ Some (Some f) → slice_get fs k ≡ Some None → j ≡ k → ⊥
waits_not fs j k f there waits e = let bad : Some (Some f) ≡ Some None = sym there ∙ ap (slice_get fs) e ∙ waits in cc

pub defined_stays : (k : ℕ) (f : Function) (m : Making) → slice_get m.functions k ≡ Some None → Stays m (defined k f m)
defined_stays k f m waits = record {
  prefix = refl;
  names = refl;
  variants = ([], refl);
  tables = refl;
  texts = ([], sym (append-nil m.texts));
  terminals = refl;
  action_table = refl;
  item_closure = refl;
  kept = λ j x h. other_stays k f m j (Some x) (waits_not m.functions j k x h waits) h;
}

-- ---- promises
-- a form whose function adds to what was made
abbrev pub Grows : Form → Type 0
Grows f = (m : Making) → Adds m (function_made m f).making

abbrev pub AllGrow : List (ℕ × Form) → Type 0
AllGrow [] = Unit {0}
AllGrow (r ∷ rs) = Grows r.1 × AllGrow rs

-- numbers that wait for their functions, in order
abbrev pub Waits : ℕ → List (Option Function) → List (ℕ × Form) → Type 0
Waits low fs [] = Unit {0}
Waits low fs (r ∷ rs) = (low ≤ r.0) × (slice_get fs r.0 ≡ Some None) × Waits (suc r.0) fs rs

pub waits_kept : (low : ℕ) (fs gs : List (Option Function)) (rs : List (ℕ × Form)) → ((j : ℕ) → low ≤ j → slice_get fs j ≡ Some None → slice_get gs j ≡ Some None) → Waits low fs rs → Waits low gs rs
waits_kept low fs gs [] keep w = tt
waits_kept low fs gs (r ∷ rs) keep w = (w.0, keep r.0 w.0 w.1, waits_kept (suc r.0) fs gs rs (λ j le h. keep j (omega (arith, le, w.0)) h) w.2)

-- one more, behind all
pub waits_more : (low : ℕ) (fs : List (Option Function)) (rs : List (ℕ × Form)) (form : Form) → low ≤ length fs → Waits low fs rs → Waits low (fs ++ None ∷ []) (rs ++ (length fs, form) ∷ [])
waits_more low fs [] form le w = (le, get_end fs [] None, tt)
waits_more low fs (r ∷ rs) form le w =
    let less : r.0 < length fs = slice_get_within fs r.0 None w.1 in
    (w.0, get_more fs (None ∷ []) r.0 None w.1, waits_more (suc r.0) fs rs form (omega arith) w.2)

pub grow_append : (rs ts : List (ℕ × Form)) → AllGrow rs → AllGrow ts → AllGrow (rs ++ ts)
grow_append [] ts a b = b
grow_append (r ∷ rs) ts a b = (a.0, grow_append rs ts a.1 b)

-- ---- making
-- one function is made
module _ (m : Making) (r : ℕ × Form) (grows : Grows r.1) where
  abbrev with_it : Making
  with_it = (function_made m r.1).making

  beside : (j : ℕ) (x : Option Function) → slice_get m.functions j ≡ Some x → slice_get with_it.functions j ≡ Some x
  beside j x h = (let e = (grows m).extends.functions in ap (λ (fs : List (Option Function)). slice_get fs j) e.1 ∙ get_more m.functions e.0 j x h)

  pub one_other : (j : ℕ) (x : Option Function) → (j ≡ r.0 → ⊥) → slice_get m.functions j ≡ Some x → slice_get (one_made m r).functions j ≡ Some x
  one_other j x ne h = other_stays r.0 (function_made m r.1).function with_it j x ne (beside j x h)

  module _ (waits : slice_get m.functions r.0 ≡ Some None) where
    pub rest_stays : Stays with_it (one_made m r)
    rest_stays = defined_stays r.0 (function_made m r.1).function with_it (beside r.0 None waits)

    pub one_stays : Stays m (one_made m r)
    one_stays = stays_both m with_it (one_made m r) (stays_by m with_it (grows m)) rest_stays

    pub one_there : slice_get (one_made m r).functions r.0 ≡ Some (Some (function_made m r.1).function)
    one_there = defined_there r.0 (function_made m r.1).function with_it None (beside r.0 None waits)

-- those that wait still do
still_wait : (m : Making) (r : ℕ × Form) (rs : List (ℕ × Form)) → Grows r.1 → Waits (suc r.0) m.functions rs → Waits (suc r.0) (one_made m r).functions rs
still_wait m r rs grows w = waits_kept (suc r.0) m.functions (one_made m r).functions rs (λ j le h. one_other m r grows j None (λ e. omega (arith, e, le)) h) w

pub all_stay : (m : Making) (low : ℕ) (rs : List (ℕ × Form)) → AllGrow rs → Waits low m.functions rs → Stays m (all_made m rs)
all_stay m low [] a w = stays_by m m (none m)
all_stay m low (r ∷ rs) a w = stays_both m (one_made m r) (all_made (one_made m r) rs) (one_stays m r a.0 w.1) (all_stay (one_made m r) (suc r.0) rs a.1 (still_wait m r rs a.0 w.2))

-- what stands before all of them stays as it is
pub before_all : (m : Making) (low : ℕ) (rs : List (ℕ × Form)) (j : ℕ) (x : Option Function) → AllGrow rs → Waits low m.functions rs → j < low → slice_get m.functions j ≡ Some x → slice_get (all_made m rs).functions j ≡ Some x
before_all m low [] j x a w less h = h
before_all m low (r ∷ rs) j x a w less h =
    before_all (one_made m r) (suc r.0) rs j x a.1 (still_wait m r rs a.0 w.2) (omega (arith, less, w.0)) (one_other m r a.0 j x (λ e. omega (arith, e, less, w.0)) h)

-- the function of a promise, by what was made before it
pub record MadeAt (m all : Making) (k : ℕ) (form : Form) : Type 0 where
  pub maker : Making
  pub before : Stays m maker
  pub after : Stays (function_made maker form).making all
  pub grows : Adds maker (function_made maker form).making
  pub there : slice_get all.functions k ≡ Some (Some (function_made maker form).function)

pub made_at : (m : Making) (low : ℕ) (rs ts : List (ℕ × Form)) (k : ℕ) (form : Form) → AllGrow (rs ++ (k, form) ∷ ts) → Waits low m.functions (rs ++ (k, form) ∷ ts) → MadeAt m (all_made m (rs ++ (k, form) ∷ ts)) k form
made_at m low [] ts k form a w =
    let next = one_made m (k, form) in
    let rest = all_stay next (suc k) ts a.1 (still_wait m (k, form) ts a.0 w.2) in
    record {
      maker = m;
      before = stays_by m m (none m);
      after = stays_both (function_made m form).making next (all_made next ts) (rest_stays m (k, form) a.0 w.1) rest;
      grows = a.0 m;
      there = rest.kept k (function_made m form).function (one_there m (k, form) a.0 w.1);
    }
made_at m low (r ∷ rs) ts k form a w =
    let next = one_made m r in
    let h = made_at next (suc r.0) rs ts k form a.1 (still_wait m r (rs ++ (k, form) ∷ ts) a.0 w.2) in
    record { maker = h.maker; before = stays_both m next h.maker (one_stays m r a.0 w.1) h.before; after = h.after; grows = h.grows; there = h.there }
