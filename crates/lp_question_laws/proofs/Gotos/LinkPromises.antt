-- Functions are declared first, and made afterwards: a promised form has its function in the end.
use Rattle.std.proofs.Common.{◌≡◌, ℕ, zero, suc, ◌+◌, ◌<◌, ◌≤◌, Bool, true, false, List, [], ◌∷◌, ◌++◌, length, set, Option, Some, None, refl, ap, sym, subst, ◌∙◌, ◌||◌, arith, append_assoc, append-nil, length-append, if◌then◌else◌}
use Rattle.std.specs.Prelude.{slice_get, codes, nat_lt}
use Rattle.std.proofs.lemmas.Bool.{lt-ltb}
use Rattle.std.proofs.lemmas.List.{length-set}
use Rattle.lp_core.specs.declared.expr.Function.{Function}
use Rattle.lp_form.specs.declared.part.Part.TheVariants as part
use Rattle.lp_view.specs.PartLists.{Form, is_a, hole_of, parts_of, over}
use Rattle.lp_maker.specs.Making.{Making, number_in}
use Rattle.lp_bodies.specs.Tables.{with_terminal, with_terminals}
use Rattle.lp_run.specs.Promised.{Promising, promising_of, promised, lookup_name, trial_name, header_number, promised_reduction, module_row, is_lookup, is_trial, is_reduction, is_ascent}
use Rattle.lp_run.specs.Functions.{function_made, one_made, all_made}
use Rattle.lp_question_laws.proofs.Gotos.GotoCode.{over-append}
use Rattle.lp_question_laws.proofs.Gotos.LinkMaps.{numbered_here, numbered_kept, get_more, get_end, get_set, get_set_other}
use Rattle.lp_question_laws.proofs.Gotos.LinkGrows.{either, is_of_tables, made_extends, Tabled, tabled_same, tabled_both, Grown, grown_same, grown_both}

-- ---- declaring

-- promises of forms of table-driven code, whose numbers stand between two
abbrev pub Between : ℕ → ℕ → List (ℕ × Form) → Type 0
Between low high [] = Unit {0}
Between low high (r ∷ rs) = (low ≤ r.0) × (r.0 < high) × (is_of_tables r.1 ≡ true) × Between low high rs

-- what is promised behind the others, with numbers of its own; names stay
pub record Goes_on (s t : Promising) : Type 0 where
  pub promises : (rs : List (ℕ × Form)) × (t.promises ≡ s.promises ++ rs) × Between (length s.made.functions) (length t.made.functions) rs
  pub functions : (fs : List (Option Function)) × (t.made.functions ≡ s.made.functions ++ fs)
  pub names : (q : List ℕ) (k : ℕ) → number_in q s.made.names ≡ Some k → number_in q t.made.names ≡ Some k
  pub prefix : t.made.prefix ≡ s.made.prefix

longer : (s t : Promising) → Goes_on s t → length s.made.functions ≤ length t.made.functions
longer s t h = let e : length t.made.functions ≡ length s.made.functions + length h.functions.0 = ap length h.functions.1 ∙ length-append s.made.functions h.functions.0 in omega arith

between_wider : (low high low' high' : ℕ) (rs : List (ℕ × Form)) → low' ≤ low → high ≤ high' → Between low high rs → Between low' high' rs
between_wider low high low' high' [] l h b = tt
between_wider low high low' high' (r ∷ rs) l h b = (let x = b.0 in omega arith, let y = b.1 in omega arith, b.2, between_wider low high low' high' rs l h b.3)

between-append : (low high : ℕ) (rs ts : List (ℕ × Form)) → Between low high rs → Between low high ts → Between low high (rs ++ ts)
between-append low high [] ts a b = b
between-append low high (r ∷ rs) ts a b = (a.0, a.1, a.2, between-append low high rs ts a.3 b)

pub stays : (s : Promising) → Goes_on s s
stays s = record { promises = ([], sym (append-nil s.promises), tt); functions = ([], sym (append-nil s.made.functions)); names = λ q k h. h; prefix = refl }

pub then_on : (s t u : Promising) → Goes_on s t → Goes_on t u → Goes_on s u
then_on s t u f g = record {
  promises = (
    f.promises.0 ++ g.promises.0,
    g.promises.1 ∙ ap (λ x. x ++ g.promises.0) f.promises.1 ∙ append_assoc s.promises f.promises.0 g.promises.0,
    between-append (length s.made.functions) (length u.made.functions) f.promises.0 g.promises.0
        (between_wider (length s.made.functions) (length t.made.functions) (length s.made.functions) (length u.made.functions) f.promises.0 (omega arith) (longer t u g) f.promises.2)
        (between_wider (length t.made.functions) (length u.made.functions) (length s.made.functions) (length u.made.functions) g.promises.0 (longer s t f) (omega arith) g.promises.2),
  );
  functions = (f.functions.0 ++ g.functions.0, g.functions.1 ∙ ap (λ x. x ++ g.functions.0) f.functions.1 ∙ append_assoc s.made.functions f.functions.0 g.functions.0);
  names = λ q k h. g.names q k (f.names q k h);
  prefix = g.prefix ∙ f.prefix;
}

pub one_promised : (name rest : List ℕ) (s : Promising) (form : Form) → is_of_tables form ≡ true → Goes_on s (promised name rest s form)
one_promised name rest s form is =
    let n = length s.made.functions in
    let e : length (s.made.functions ++ None ∷ []) ≡ n + 1 = length-append s.made.functions (None ∷ []) in
    record {
      promises = ((n, form) ∷ [], refl, (omega arith, omega arith, is, tt));
      functions = (None ∷ [], refl);
      names = λ q k h. numbered_kept q (name ++ rest) n k s.made.names h;
      prefix = refl;
    }

-- a step that declares nothing
quiet : (s : Promising) (m : Making) → m.functions ≡ s.made.functions → m.names ≡ s.made.names → m.prefix ≡ s.made.prefix → Goes_on s (promising_of s.promises m)
quiet s m f n p = record {
  promises = ([], sym (append-nil s.promises), tt);
  functions = ([], f ∙ sym (append-nil s.made.functions));
  names = λ q k h. ap (number_in q) n ∙ h;
  prefix = p;
}

pub terminals_quiet : (m : Making) (fs : List Form) → ((over with_terminal m fs).functions ≡ m.functions) × ((over with_terminal m fs).names ≡ m.names) × ((over with_terminal m fs).prefix ≡ m.prefix)
terminals_quiet m [] = (refl, refl, refl)
terminals_quiet m (f ∷ fs) = terminals_quiet (with_terminal m f) fs

if_by : {S : Type 0} (P : S → Type 0) (b : Bool) (x y : S) → (b ≡ true → P x) → (b ≡ false → P y) → P (if b then x else y)
if_by P true x y f g = f refl
if_by P false x y f g = g refl

or_first : (a b : Bool) → a ≡ true → (a || b) ≡ true
or_first true b h = refl
or_first false b h = absurd cc

or_second : (a b : Bool) → b ≡ true → (a || b) ≡ true
or_second true b h = refl
or_second false b h = h

reduction_goes_on : (s : Promising) (form : Form) → is_of_tables form ≡ true → Goes_on s (promised_reduction s form)
reduction_goes_on s form is =
    let P = Goes_on s in
    either P (is_a part.Pop form) _ _ (one_promised (codes "pop_") (hole_of 0 form) s form is) (either P (is_a part.ReduceFn form) _ _ (one_promised (codes "reduce") (header_number form) s form is)
    (either P (is_a part.Reduce form) _ _ (one_promised (codes "reduce") [] s form is) (one_promised (codes "symbol_type_mismatch") [] s form is)))

-- a row of a module without recursive ascent
pub row_goes_on : (s : Promising) (form : Form) → is_ascent form ≡ false → Goes_on s (module_row s form)
row_goes_on s form no_ascent =
    let P = Goes_on s in
    let t = terminals_quiet s.made (parts_of form) in
    either P (is_a part.ActionTable form) _ _ (quiet s _ refl refl refl) (either P (is_a part.EofTable form) _ _ (quiet s _ refl refl refl) (either P (is_a part.TerminalList form) _ _ (quiet s (with_terminals form s.made) t.0 t.1 t.2)
    (if_by P (is_lookup form) _ _ (λ h. one_promised (lookup_name form) [] s form (or_first (is_lookup form) (is_trial form || is_reduction form) h)) (λ _.
    if_by P (is_trial form) _ _ (λ h. one_promised (trial_name form) [] s form (or_second (is_lookup form) (is_trial form || is_reduction form) (or_first (is_trial form) (is_reduction form) h))) (λ _.
    if_by P (is_reduction form) _ _ (λ h. reduction_goes_on s form (or_second (is_lookup form) (is_trial form || is_reduction form) (or_second (is_trial form) (is_reduction form) h))) (λ _.
    if_by P (is_ascent form) _ _ (λ h. absurd (let bad : true ≡ false = sym h ∙ no_ascent in cc)) (λ _. stays s)))))))

abbrev pub AreNoAscent : List Form → Type 0
AreNoAscent [] = Unit {0}
AreNoAscent (f ∷ fs) = (is_ascent f ≡ false) × AreNoAscent fs

pub rows_go_on : (s : Promising) (fs : List Form) → AreNoAscent fs → Goes_on s (over module_row s fs)
rows_go_on s [] a = stays s
rows_go_on s (f ∷ fs) a = then_on s (module_row s f) (over module_row (module_row s f) fs) (row_goes_on s f a.0) (rows_go_on (module_row s f) fs a.1)

-- ---- making

-- promises of other numbers
abbrev pub Others : ℕ → List (ℕ × Form) → Type 0
Others j [] = Unit {0}
Others j (r ∷ rs) = (j ≡ r.0 → ⊥) × (is_of_tables r.1 ≡ true) × Others j rs

pub others_above : (j low high : ℕ) (rs : List (ℕ × Form)) → j < low → Between low high rs → Others j rs
others_above j low high [] h b = tt
others_above j low high (r ∷ rs) h b = (λ e. (let a = b.0 in omega arith), b.2, others_above j low high rs h b.3)

pub others_below : (j low high : ℕ) (rs : List (ℕ × Form)) → high ≤ j → Between low high rs → Others j rs
others_below j low high [] h b = tt
others_below j low high (r ∷ rs) h b = (λ e. (let a = b.1 in omega arith), b.2, others_below j low high rs h b.3)

set_or_not : (P : List (Option Function) → Type 0) (k : ℕ) (f : Function) (fs : List (Option Function)) → P (set fs k (Some f)) → P fs → P (if nat_lt k (length fs) then set fs k (Some f) else fs)
set_or_not P k f fs a b = either P (nat_lt k (length fs)) _ _ a b

-- a function that is made stays, where others are made
one_kept : (m : Making) (r : ℕ × Form) (j : ℕ) (x : Option Function) → is_of_tables r.1 ≡ true → (j ≡ r.0 → ⊥) → slice_get m.functions j ≡ Some x → slice_get (one_made m r).functions j ≡ Some x
one_kept m r j x is ne h =
    let made = function_made m r.1 in
    let e = made_extends m r.1 is in
    let here : slice_get made.making.functions j ≡ Some x = subst (λ fs. slice_get fs j ≡ Some x) (sym e.functions.1) (get_more m.functions e.functions.0 j x h) in
    set_or_not (λ fs. slice_get fs j ≡ Some x) r.0 made.function made.making.functions (get_set_other made.making.functions j r.0 (Some made.function) ne ∙ here) here

pub all_kept : (m : Making) (rs : List (ℕ × Form)) (j : ℕ) (x : Option Function) → Others j rs → slice_get m.functions j ≡ Some x → slice_get (all_made m rs).functions j ≡ Some x
all_kept m [] j x o h = h
all_kept m (r ∷ rs) j x o h = all_kept (one_made m r) rs j x o.2 (one_kept m r j x o.1 o.0 h)

one_there : (m : Making) (r : ℕ × Form) → is_of_tables r.1 ≡ true → r.0 < length m.functions → slice_get (one_made m r).functions r.0 ≡ Some (Some (function_made m r.1).function)
one_there m r is lt =
    let made = function_made m r.1 in
    let e = (made_extends m r.1 is).functions in
    let more : length made.making.functions ≡ length m.functions + length e.0 = ap length e.1 ∙ length-append m.functions e.0 in
    let less : r.0 < length made.making.functions = omega arith in
    ap (λ b. slice_get (if b then set made.making.functions r.0 (Some made.function) else made.making.functions) r.0) (lt-ltb r.0 (length made.making.functions) less)
    ∙ get_set made.making.functions r.0 (Some made.function) less

-- what is made over all promises knows the names
abbrev pub AreOfTables : List (ℕ × Form) → Type 0
AreOfTables [] = Unit {0}
AreOfTables (r ∷ rs) = (is_of_tables r.1 ≡ true) × AreOfTables rs

others_are : (j : ℕ) (rs : List (ℕ × Form)) → Others j rs → AreOfTables rs
others_are j [] o = tt
others_are j (r ∷ rs) o = (o.1, others_are j rs o.2)

pub between_are : (low high : ℕ) (rs : List (ℕ × Form)) → Between low high rs → AreOfTables rs
between_are low high [] b = tt
between_are low high (r ∷ rs) b = (b.2, between_are low high rs b.3)

are-append : (rs ts : List (ℕ × Form)) → AreOfTables rs → AreOfTables ts → AreOfTables (rs ++ ts)
are-append [] ts a b = b
are-append (r ∷ rs) ts a b = (a.0, are-append rs ts a.1 b)

names_stay : (m : Making) (rs : List (ℕ × Form)) → AreOfTables rs → (all_made m rs).names ≡ m.names
names_stay m [] o = refl
names_stay m (r ∷ rs) o = names_stay (one_made m r) rs o.1 ∙ (made_extends m r.1 o.0).names

prefix_stays : (m : Making) (rs : List (ℕ × Form)) → AreOfTables rs → (all_made m rs).prefix ≡ m.prefix
prefix_stays m [] o = refl
prefix_stays m (r ∷ rs) o = prefix_stays (one_made m r) rs o.1 ∙ (made_extends m r.1 o.0).prefix

-- promises of a module without recursive ascent
pub promised_are : (m : Making) (fs : List Form) → AreNoAscent fs → AreOfTables (over module_row (promising_of [] m) fs).promises
promised_are m fs a =
    let g = rows_go_on (promising_of [] m) fs a in
    subst AreOfTables (sym g.promises.1) (between_are (length m.functions) (length (over module_row (promising_of [] m) fs).made.functions) g.promises.0 g.promises.2)

pub tables_stay : (m : Making) (rs : List (ℕ × Form)) → AreOfTables rs → Tabled m (all_made m rs)
tables_stay m [] o = tabled_same m
tables_stay m (r ∷ rs) o =
    let e = made_extends m r.1 o.0 in
    tabled_both m (one_made m r) (all_made (one_made m r) rs) (record { tables = e.tables; action_table = e.action_table; eof_table = e.eof_table }) (tables_stay (one_made m r) rs o.1)

pub all_grown : (m : Making) (rs : List (ℕ × Form)) → AreOfTables rs → Grown m (all_made m rs)
all_grown m [] o = grown_same m
all_grown m (r ∷ rs) o =
    let e = made_extends m r.1 o.0 in
    grown_both m (one_made m r) (all_made (one_made m r) rs) (record { texts = e.texts; variants = e.variants; item_closure = e.item_closure }) (all_grown (one_made m r) rs o.1)

pub terminals_stay : (m : Making) (rs : List (ℕ × Form)) → AreOfTables rs → (all_made m rs).terminals ≡ m.terminals
terminals_stay m [] o = refl
terminals_stay m (r ∷ rs) o = terminals_stay (one_made m r) rs o.1 ∙ (made_extends m r.1 o.0).terminals

-- no function goes
one_longer : (m : Making) (r : ℕ × Form) → is_of_tables r.1 ≡ true → length m.functions ≤ length (one_made m r).functions
one_longer m r is =
    let made = function_made m r.1 in
    let e = (made_extends m r.1 is).functions in
    let more : length made.making.functions ≡ length m.functions + length e.0 = ap length e.1 ∙ length-append m.functions e.0 in
    let set_more : length (set made.making.functions r.0 (Some made.function)) ≡ length made.making.functions = length-set made.making.functions r.0 (Some made.function) in
    set_or_not (λ (fs : List (Option Function)). length m.functions ≤ length fs) r.0 made.function made.making.functions (omega arith) (omega arith)

all_longer : (m : Making) (rs : List (ℕ × Form)) → AreOfTables rs → length m.functions ≤ length (all_made m rs).functions
all_longer m [] o = omega arith
all_longer m (r ∷ rs) o = (let one = one_longer m r o.0 in let others = all_longer (one_made m r) rs o.1 in omega arith)

-- what is made beside a function stays behind it
beside_one : (n : Making) (k : ℕ) (form : Form) (j : ℕ) (x : Option Function) → (j ≡ k → ⊥) → slice_get (function_made n form).making.functions j ≡ Some x → slice_get (one_made n (k, form)).functions j ≡ Some x
beside_one n k form j x ne here =
    let made = function_made n form in
    set_or_not (λ (fs : List (Option Function)). slice_get fs j ≡ Some x) k made.function made.making.functions (get_set_other made.making.functions j k (Some made.function) ne ∙ here) here

within : (fs : List (Option Function)) (k : ℕ) (x : Option Function) → slice_get fs k ≡ Some x → k < length fs
within [] k x h = absurd cc
within (f ∷ fs) zero x h = omega arith
within (f ∷ fs) (suc k) x h = let lt : k < length fs = within fs k x h in omega arith

pub all-append : (m : Making) (rs ts : List (ℕ × Form)) → all_made m (rs ++ ts) ≡ all_made (all_made m rs) ts
all-append m [] ts = refl
all-append m (r ∷ rs) ts = all-append (one_made m r) rs ts

-- the functions that are made with that of a form, behind those before it
abbrev pub Beside : Making → Form → Making → Type 0
Beside n form after = (j : ℕ) (x : Option Function) → length n.functions ≤ j → slice_get (function_made n form).making.functions j ≡ Some x → slice_get after.functions j ≡ Some x

-- the function of a promise, where all others have other numbers
pub made_there : (m : Making) (rs ts : List (ℕ × Form)) (k : ℕ) (form : Form) (x : Option Function) → Others k rs → is_of_tables form ≡ true → Others k ts → ((j : ℕ) → length m.functions ≤ j → Others j ts) → slice_get m.functions k ≡ Some x →
    (n : Making) × (n.names ≡ m.names) × (n.prefix ≡ m.prefix) × Tabled m n × Grown (function_made n form).making (all_made m (rs ++ (k, form) ∷ ts)) × (slice_get (all_made m (rs ++ (k, form) ∷ ts)).functions k ≡ Some (Some (function_made n form).function))
    × (n.terminals ≡ m.terminals) × (k < length n.functions) × Beside n form (all_made m (rs ++ (k, form) ∷ ts))
made_there m rs ts k form x o is o' later h =
    let n = all_made m rs in
    let here = all_kept m rs k x o h in (
      n,
      names_stay m rs (others_are k rs o),
      prefix_stays m rs (others_are k rs o),
      tables_stay m rs (others_are k rs o),
      (let later = all_grown (one_made n (k, form)) ts (others_are k ts o') in subst (Grown (function_made n form).making) (sym (all-append m rs ((k, form) ∷ ts))) (record { texts = later.texts; variants = later.variants; item_closure = later.item_closure })),
      ap (λ t. slice_get t.functions k) (all-append m rs ((k, form) ∷ ts))
          ∙ all_kept (one_made n (k, form)) ts k (Some (function_made n form).function) o' (one_there n (k, form) is (within n.functions k x here)),
      terminals_stay m rs (others_are k rs o),
      within n.functions k x here,
      λ j y behind made.
          let longer = all_longer m rs (others_are k rs o) in
          let first : k < length m.functions = within m.functions k x h in
          ap (λ t. slice_get t.functions j) (all-append m rs ((k, form) ∷ ts))
          ∙ all_kept (one_made n (k, form)) ts j y (later j (omega arith)) (beside_one n k form j y (λ same. omega arith) made),
    )

-- ---- a form among the rows of a module

pub record Linked (m : Making) (s : Promising) (name : List ℕ) (form : Form) (k : ℕ) : Type 0 where
  pub number : number_in name s.made.names ≡ Some k
  pub late : length m.functions ≤ k
  pub names : (all_made s.made s.promises).names ≡ s.made.names
  pub maker : Making
  pub knows : maker.names ≡ s.made.names
  pub prefix : maker.prefix ≡ m.prefix
  pub tabled : Tabled s.made maker
  pub grown : Grown (function_made maker form).making (all_made s.made s.promises)
  pub of_tables : AreOfTables s.promises
  pub function : slice_get (all_made s.made s.promises).functions k ≡ Some (Some (function_made maker form).function)
  pub terminals : maker.terminals ≡ s.made.terminals
  pub behind : k < length maker.functions
  pub beside : Beside maker form (all_made s.made s.promises)

-- a row that declares a name that no row before it declares has its function under that name's number
pub row_linked : (m : Making) (before : List Form) (form : Form) (after : List Form) (name rest : List ℕ) → AreNoAscent before → AreNoAscent after → is_of_tables form ≡ true →
    (let s = over module_row (promising_of [] m) before in module_row s form ≡ promised name rest s form) → number_in (name ++ rest) (over module_row (promising_of [] m) before).made.names ≡ None →
    Linked m (over module_row (promising_of [] m) (before ++ form ∷ after)) (name ++ rest) form (length (over module_row (promising_of [] m) before).made.functions)
row_linked m before form after name rest a b is row new =
    let s0 = promising_of [] m in
    let sb = over module_row s0 before in
    let s1 = promised name rest sb form in
    let s = over module_row s1 after in
    let k = length sb.made.functions in
    let g1 = rows_go_on s0 before a in
    let g2 = rows_go_on s1 after b in
    let rs = g1.promises.0 in
    let ts = g2.promises.0 in
    let next : length (sb.made.functions ++ None ∷ []) ≡ k + 1 = length-append sb.made.functions (None ∷ []) in
    let there : slice_get s.made.functions k ≡ Some None = subst (λ fs. slice_get fs k ≡ Some None) (sym g2.functions.1) (get_more (sb.made.functions ++ None ∷ []) g2.functions.0 k None (get_end sb.made.functions [] None)) in
    let all : s.promises ≡ rs ++ (k, form) ∷ ts = g2.promises.1 ∙ ap (λ x. (x ++ (k, form) ∷ []) ++ ts) g1.promises.1 ∙ append_assoc rs ((k, form) ∷ []) ts in
    let f = made_there s.made rs ts k form None (others_below k (length m.functions) k rs (omega arith) g1.promises.2) is
    (others_above k (length (sb.made.functions ++ None ∷ [])) (length s.made.functions) ts (omega arith) g2.promises.2)
    (λ j behind. others_below j (length (sb.made.functions ++ None ∷ [])) (length s.made.functions) ts behind g2.promises.2) there in
    let linked : Linked m s (name ++ rest) form k = record {
      number = g2.names (name ++ rest) k (numbered_here (name ++ rest) k sb.made.names new);
      late = longer s0 sb g1;
      names = names_stay s.made s.promises (subst AreOfTables (sym all) (are-append rs ((k, form) ∷ ts) (between_are (length m.functions) k rs g1.promises.2) (is, between_are (length (sb.made.functions ++ None ∷ [])) (length s.made.functions) ts g2.promises.2)));
      maker = f.0;
      knows = f.1;
      prefix = f.2 ∙ g2.prefix ∙ g1.prefix;
      tabled = f.3;
      grown = subst (λ ps. Grown (function_made f.0 form).making (all_made s.made ps)) (sym all) f.4;
      of_tables = subst AreOfTables (sym all) (are-append rs ((k, form) ∷ ts) (between_are (length m.functions) k rs g1.promises.2) (is, between_are (length (sb.made.functions ++ None ∷ [])) (length s.made.functions) ts g2.promises.2));
      function = ap (λ ps. slice_get (all_made s.made ps).functions k) all ∙ f.5;
      terminals = f.6;
      behind = f.7;
      beside = subst (λ ps. Beside f.0 form (all_made s.made ps)) (sym all) f.8;
    } in
    subst (λ t. Linked m t (name ++ rest) form k) (sym (over-append module_row s0 before (form ∷ after) ∙ ap (λ t. over module_row t after) row)) linked
