-- What comes between the declaration of the actions' functions and their making, and what comes after it: of any module.
use Rattle.std.proofs.Common.{◌≡◌, ℕ, ◌+◌, ◌≤◌, Bool, true, false, List, [], ◌∷◌, ◌++◌, length, Option, Some, None, refl, ap, ◌∙◌, arith, length-append}
use Rattle.std.specs.Prelude.{slice_get, nat_lt, codes}
use Rattle.std.proofs.lemmas.List.{length-set}
use Rattle.lp_form.specs.declared.part.Part.TheVariants as part
use Rattle.lp_core.specs.declared.expr.Function.{Function}
use Rattle.lp_view.specs.PartLists.{Form, is_a, hole_of, parts_of, over, first_that}
use Rattle.lp_maker.specs.Making.{Making, number_in, with_variant}
use Rattle.lp_maker.specs.Slots.{Names}
use Rattle.lp_run.specs.Named.{is_interned, parser_of}
use Rattle.lp_run.specs.Promised.{Promising, declared_row, header_number, is_ascent, is_lookup, is_reduction, is_trial, lookup_name, module_row, promised, promised_ascent, promised_reduction, trial_name}
use Rattle.lp_run.specs.Functions.{all_made, function_made, one_made}
use Rattle.lp_run.specs.ParseMethod.{called, driving, fields, Fields, parameters_of, parse_made, parser_called, started}
use Rattle.lp_run.specs.Entered.{made_after, module_made, sourced, with_closure}
use Rattle.lp_question_laws.proofs.Gotos.LinkMaps.{get_more, numbered_kept}
use Rattle.lp_question_laws.proofs.Gotos.LinkGrows.{Extends, both, either, one_function, one_variant, same}
use Rattle.lp_question_laws.proofs.Gotos.LinkModule.{all_extends, complete, finished_there}
use Rattle.lp_question_laws.proofs.Gotos.LinkPromises.{terminals_quiet}
use Rattle.lp_question_laws.proofs.Actions.AscentGrows.{any_extends}

-- names keep their numbers, and there are as many functions and more
pub record Later (m n : Making) : Type 0 where
  pub names : (q : List ℕ) (k : ℕ) → number_in q m.names ≡ Some k → number_in q n.names ≡ Some k
  pub prefix : n.prefix ≡ m.prefix
  pub many : length m.functions ≤ length n.functions

pub later_both : (m n o : Making) → Later m n → Later n o → Later m o
later_both m n o f g = record { names = λ q k h. g.names q k (f.names q k h); prefix = g.prefix ∙ f.prefix; many = (let a = f.many in let b = g.many in omega arith) }

later_same : (m : Making) → Later m m
later_same m = record { names = λ q k h. h; prefix = refl; many = omega arith }

closure_later : (located : Bool) (m : Making) → Later m (with_closure located m)
closure_later true m = record { names = λ q k h. h; prefix = refl; many = simp length-append (omega arith) }
closure_later false m = record { names = λ q k h. h; prefix = refl; many = simp length-append (omega arith) }

pub source_later : (located : Bool) (m : Making) (o : Option Form) → Later m (sourced located m o)
source_later located m None = closure_later located m
source_later located m (Some parser) = either (Later m) (is_interned parser) _ _ (later_same m) (closure_later located m)

-- ---- rows
promised_later : (name rest : List ℕ) (s : Promising) (form : Form) → Later s.made (promised name rest s form).made
promised_later name rest s form =
    let n = length s.made.functions in
    let e : length (s.made.functions ++ None ∷ []) ≡ n + 1 = length-append s.made.functions (None ∷ []) in
    record { names = λ q k h. numbered_kept q (name ++ rest) n k s.made.names h; prefix = refl; many = omega arith }

reduction_later : (s : Promising) (form : Form) → Later s.made (promised_reduction s form).made
reduction_later s form =
    let P : Promising → Type 0 = λ (t : Promising). Later s.made t.made in
    either P (is_a part.Pop form) _ _ (promised_later (codes "pop_") (hole_of 0 form) s form) (either P (is_a part.ReduceFn form) _ _ (promised_later (codes "reduce") (header_number form) s form)
    (either P (is_a part.Reduce form) _ _ (promised_later (codes "reduce") [] s form) (promised_later (codes "symbol_type_mismatch") [] s form)))

ascent_later : (s : Promising) (form : Form) → Later s.made (promised_ascent s form).made
ascent_later s form =
    let P : Promising → Type 0 = λ (t : Promising). Later s.made t.made in
    either P (is_a part.StateFn form) _ _ (promised_later (codes "state") (header_number form) s form) (either P (is_a part.AscentSimulate form) _ _ (promised_later (codes "simulate") [] s form)
    (either P (is_a part.AscentAccepts form) _ _ (promised_later (codes "accepts") [] s form) (promised_later (codes "expected") [] s form)))

declared_later : (s : Promising) (form : Form) → Later s.made (declared_row s form).made
declared_later s form =
    let P : Promising → Type 0 = λ (t : Promising). Later s.made t.made in
    either P (is_lookup form) _ _ (promised_later (lookup_name form) [] s form) (either P (is_trial form) _ _ (promised_later (trial_name form) [] s form)
    (either P (is_reduction form) _ _ (reduction_later s form) (either P (is_ascent form) _ _ (ascent_later s form) (later_same s.made))))

row_later : (s : Promising) (form : Form) → Later s.made (module_row s form).made
row_later s form =
    let P : Promising → Type 0 = λ (t : Promising). Later s.made t.made in
    let t = terminals_quiet s.made (parts_of form) in
    either P (is_a part.ActionTable form) _ _ (record { names = λ q k h. h; prefix = refl; many = omega arith }) (either P (is_a part.EofTable form) _ _ (record { names = λ q k h. h; prefix = refl; many = omega arith })
    (either P (is_a part.TerminalList form) _ _ (record { names = λ q k h. ap (number_in q) t.1 ∙ h; prefix = t.2; many = (let e : _ = ap length t.0 in omega (arith, e)) }) (declared_later s form)))

pub rows_later : (s : Promising) (fs : List Form) → Later s.made (over module_row s fs).made
rows_later s [] = later_same s.made
rows_later s (f ∷ fs) = later_both s.made (module_row s f).made (over module_row (module_row s f) fs).made (row_later s f) (rows_later (module_row s f) fs)

-- ---- functions
one_later : (m : Making) (r : ℕ × Form) → Later m (one_made m r)
one_later m r =
    let f = function_made m r.1 in
    let e = any_extends m r.1 in
    let l : length f.making.functions ≡ length m.functions + length e.functions.0 = ap length e.functions.1 ∙ length-append m.functions e.functions.0 in
    record {
      names = λ q k h. ap (number_in q) e.names ∙ h;
      prefix = e.prefix;
      many = either (λ (fs : List (Option Function)). length m.functions ≤ length fs) (nat_lt r.0 (length f.making.functions)) _ _ (let s = length-set f.making.functions r.0 (Some f.function) in omega arith) (omega arith);
    }

pub all_later : (m : Making) (rs : List (ℕ × Form)) → Later m (all_made m rs)
all_later m [] = later_same m
all_later m (r ∷ rs) = later_both m (one_made m r) (all_made (one_made m r) rs) (one_later m r) (all_later (one_made m r) rs)

-- ---- the `parse` method
driving_extends : (m : Making) (f : Fields) (o : Option Form) → Extends m (driving m f o).made
driving_extends m f None = same m
driving_extends m f (Some machine) = all_extends machine f.names (length f.numbers) m

started_extends : (m : Making) (names : Names) (o : Option Form) → Extends m (started m names o).made
started_extends m names None = same m
started_extends m names (Some form) = (let v = with_variant (hole_of 3 form) m in both m v (started m names (Some form)).made (one_variant (hole_of 3 form) m) (one_function _ v))

called_extends : (m : Making) (items : Form) (names : Names) (form : Form) (o : Option Form) → Extends m (called m items names form o).made
called_extends m items names form None = started_extends m names (first_that (is_a part.Start) (parts_of form))
called_extends m items names form (Some drive) = driving_extends m (fields names drive) (first_that (is_a part.MachineImpl) (parts_of items))

parser_extends : (m : Making) (items : Form) (names : Names) (o : Option Form) → Extends m (parser_called m items names o).made
parser_extends m items names None = same m
parser_extends m items names (Some form) = called_extends m items names form (first_that (is_a part.Drive) (parts_of form))

parse_extends : (m : Making) (items : Form) (names : Names) → Extends m (parse_made m items names).made
unfolding parse_made
parse_extends m items names = parser_extends m items names (parser_of items)

-- ---- a module has what was made before its `parse` method
pub functions_kept : (prefix : List ℕ) (program items : Form) (j : ℕ) (f : Function) → slice_get (complete prefix program items).functions j ≡ Some (Some f) → slice_get (module_made prefix program items).functions j ≡ Some f
unfolding complete module_made made_after
functions_kept prefix program items j f h =
    let last = complete prefix program items in
    let e = (parse_extends last items (parameters_of prefix items)).functions in
    finished_there (parse_made last items (parameters_of prefix items)).made.functions j f (ap (λ (fs : List (Option Function)). slice_get fs j) e.1 ∙ get_more last.functions e.0 j (Some f) h)

pub texts_kept : (prefix : List ℕ) (program items : Form) (j : ℕ) (t : List ℕ) → slice_get (complete prefix program items).texts j ≡ Some t → slice_get (module_made prefix program items).texts j ≡ Some t
unfolding complete module_made made_after
texts_kept prefix program items j t h =
    let last = complete prefix program items in
    let e = (parse_extends last items (parameters_of prefix items)).texts in
    ap (λ (ts : List (List ℕ)). slice_get ts j) e.1 ∙ get_more last.texts e.0 j t h
