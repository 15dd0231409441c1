-- The closure of the token source in the module: it and what it calls stay where they were made.
use Rattle.std.proofs.Common.{◌≡◌, ℕ, ◌+◌, ◌<◌, ◌≤◌, Bool, true, false, List, [], ◌∷◌, ◌++◌, length, Option, Some, None, refl, sym, ap, subst, ◌∙◌, arith, codes, length-append}
use Rattle.std.specs.Prelude.{slice_get}
use Rattle.std.proofs.lemmas.Option.{slice_get_within}
use Rattle.lp_core.specs.declared.expr.Function.{Function}
use Rattle.lp_form.specs.declared.part.Part.TheVariants as part
use Rattle.lp_view.specs.PartLists.{Form, is_a, parts_of, over}
use Rattle.lp_maker.specs.Making.{Making, unmade}
use Rattle.lp_bodies.specs.Source.{first_function, error_function, fault_function, item_function, with_first, with_error, with_both, with_item, item_number}
use Rattle.lp_bodies.specs.Tables.{with_terminal}
use Rattle.lp_run.specs.Named.{is_interned, parser_of}
use Rattle.lp_run.specs.Promised.{Beginning, Promising, promising_of, beginning, beginning_of, beginning_row, is_source, is_action, is_lookup, is_trial, is_reduction, is_ascent, module_row, module_rows}
use Rattle.lp_run.specs.Entered.{with_closure, sourced, with_source}
use Rattle.lp_run.specs.Functions.{all_made}
use Rattle.lp_question_laws.proofs.Gotos.LinkGrows.{Extends, same, both, one_function, either}
use Rattle.lp_question_laws.proofs.Gotos.LinkMaps.{get_more, told_apart}
use Rattle.lp_question_laws.proofs.Gotos.LinkModule.{begun, actions_kept, actions_grown, complete}
use Rattle.lp_question_laws.proofs.Gotos.LinkPromises.{AreNoAscent, promised_are, rows_go_on, all_kept, all_grown, others_above}
use Rattle.lp_question_laws.proofs.Tables.Methods.{there}

-- ---- what was made of the source
-- the functions behind a number that make triples of items, the last of them by this number
pub record Source (located : Bool) (low : ℕ) (functions : List (Option Function)) (n : ℕ) : Type 0 where
  pub first : ℕ
  pub error : ℕ
  pub fault : ℕ
  pub first_there : (low ≤ first) × (slice_get functions first ≡ Some (Some (first_function located)))
  pub error_there : located ≡ true → (low ≤ error) × (slice_get functions error ≡ Some (Some error_function))
  pub fault_there : (low ≤ fault) × (slice_get functions fault ≡ Some (Some (fault_function located error)))
  pub item_there : (low ≤ n) × (slice_get functions n ≡ Some (Some (item_function first fault)))

longer : (f : Option Function) (fs : List (Option Function)) → length (fs ++ f ∷ []) ≡ length fs + 1
longer f fs = length-append fs (f ∷ [])

closure_made : (located : Bool) (m : Making) → Source located (length m.functions) (with_closure located m).functions (item_number located m)
closure_made true m =
    let a = with_first true m in
    let b = with_error true a in
    let c = with_both true m in
    let all = with_item true m in
    let from_c : Extends c all = one_function _ c in
    let from_b : Extends b all = both b c all (one_function _ b) from_c in
    let from_a : Extends a all = both a b all (one_function _ a) from_b in
    let la = longer (Some (first_function true)) m.functions in
    let lb = longer (Some error_function) a.functions in
    let lc = longer (Some (fault_function true (length a.functions))) b.functions in
    record {
      first = length m.functions;
      error = length a.functions;
      fault = length b.functions;
      first_there = (omega arith, there m all (first_function true) from_a);
      error_there = λ e. (omega arith, there a all error_function from_b);
      fault_there = (omega arith, there b all (fault_function true (length a.functions)) from_c);
      item_there = (omega arith, there c all (item_function (length m.functions) (length b.functions)) (same all));
    }
closure_made false m =
    let a = with_first false m in
    let c = with_both false m in
    let all = with_item false m in
    let from_c : Extends c all = one_function _ c in
    let from_a : Extends a all = both a c all (one_function _ a) from_c in
    let la = longer (Some (first_function false)) m.functions in
    let lc = longer (Some (fault_function false (length a.functions))) a.functions in
    record {
      first = length m.functions;
      error = length a.functions;
      fault = length a.functions;
      first_there = (omega arith, there m all (first_function false) from_a);
      error_there = λ e. absurd cc;
      fault_there = (omega arith, there a all (fault_function false (length a.functions)) from_c);
      item_there = (omega arith, there c all (item_function (length m.functions) (length a.functions)) (same all));
    }

-- there is no closure, or its functions are there
pub data HasClosure (located : Bool) (low : ℕ) (functions : List (Option Function)) : Option ℕ → Type 0 where
  Without : HasClosure located low functions None
  With : (n : ℕ) → Source located low functions n → HasClosure located low functions (Some n)

pub source_made : (located : Bool) (m : Making) (o : Option Form) → m.item_closure ≡ None → HasClosure located (length m.functions) (sourced located m o).functions (sourced located m o).item_closure
source_made located m None none = With (item_number located m) (closure_made located m)
source_made located m (Some parser) none =
    either (λ (s : Making). HasClosure located (length m.functions) s.functions s.item_closure) (is_interned parser) _ _ (subst (HasClosure located (length m.functions) m.functions) (sym none) Without) (With (item_number located m) (closure_made located m))

-- ---- what stands beside the modules has no closure
beginning_same : (b : Beginning) (fs : List Form) → (over beginning_row b fs).actions.made.item_closure ≡ b.actions.made.item_closure
beginning_same b [] = refl
beginning_same b (f ∷ fs) =
    beginning_same (beginning_row b f) fs
    ∙ either (λ (c : Beginning). c.actions.made.item_closure ≡ b.actions.made.item_closure) (is_source f) _ _ refl (either (λ (c : Beginning). c.actions.made.item_closure ≡ b.actions.made.item_closure) (is_action f) _ _ refl refl)

-- ---- rows of a module leave it
terminals_same : (m : Making) (fs : List Form) → (over with_terminal m fs).item_closure ≡ m.item_closure
terminals_same m [] = refl
terminals_same m (f ∷ fs) = terminals_same (with_terminal m f) fs

row_same : (s : Promising) (form : Form) → (module_row s form).made.item_closure ≡ s.made.item_closure
row_same s form =
    let P : Promising → Type 0 = λ (t : Promising). t.made.item_closure ≡ s.made.item_closure in
    either P (is_a part.ActionTable form) _ _ refl (either P (is_a part.EofTable form) _ _ refl (either P (is_a part.TerminalList form) _ _ (terminals_same s.made (parts_of form))
    (either P (is_lookup form) _ _ refl (either P (is_trial form) _ _ refl
    (either P (is_reduction form) _ _
    (either P (is_a part.Pop form) _ _ refl (either P (is_a part.ReduceFn form) _ _ refl (either P (is_a part.Reduce form) _ _ refl refl)))
    (either P (is_ascent form) _ _
    (either P (is_a part.StateFn form) _ _ refl (either P (is_a part.AscentSimulate form) _ _ refl (either P (is_a part.AscentAccepts form) _ _ refl refl)))
    refl))))))

rows_same : (s : Promising) (fs : List Form) → (over module_row s fs).made.item_closure ≡ s.made.item_closure
rows_same s [] = refl
rows_same s (f ∷ fs) = rows_same (module_row s f) fs ∙ row_same s f

-- ---- all that is made
module _ (prefix : List ℕ) (program items : Form) (no_ascent : AreNoAscent (parts_of items)) where
  abbrev b : Beginning
  b = beginning (unmade prefix) program

  abbrev m : Making
  m = with_source items b.located b.actions.made

  abbrev s : Promising
  s = module_rows m items

  closure_same : (complete prefix program items).item_closure ≡ m.item_closure
  unfolding complete
  closure_same =
      let all = all_made s.made s.promises in
      (actions_grown all b.actions.promises).item_closure ∙ (all_grown s.made s.promises (promised_are m (parts_of items) no_ascent)).item_closure ∙ rows_same (promising_of [] m) (parts_of items)

  -- a function of the source stays
  function_same : (j : ℕ) (f : Function) → length b.actions.made.functions ≤ j → slice_get m.functions j ≡ Some (Some f) → slice_get (complete prefix program items).functions j ≡ Some (Some f)
  unfolding complete
  function_same j f low at =
      let start = promising_of [] m in
      let g = rows_go_on start (parts_of items) no_ascent in
      let here : slice_get s.made.functions j ≡ Some (Some f) = ap (λ (fs : List (Option Function)). slice_get fs j) g.functions.1 ∙ get_more m.functions g.functions.0 j (Some f) at in
      let lt : j < length m.functions = slice_get_within m.functions j (Some f) at in
      let all = all_made s.made s.promises in
      let made : slice_get all.functions j ≡ Some (Some f) =
      ap (λ rs. slice_get (all_made s.made rs).functions j) g.promises.1 ∙ all_kept s.made g.promises.0 j (Some f) (others_above j (length m.functions) (length s.made.functions) g.promises.0 lt g.promises.2) here in
      actions_kept all b.actions.promises j (length b.actions.made.functions) (Some f) (begun (codes "goto") prefix program (λ rest. told_apart (codes "goto") (codes "super::action" ++ rest) refl)).below low made

  -- the closure is there with its functions, or none is
  pub closure_there : HasClosure b.located (length b.actions.made.functions) (complete prefix program items).functions (complete prefix program items).item_closure
  closure_there = subst (HasClosure b.located (length b.actions.made.functions) (complete prefix program items).functions) (sym closure_same) (by m.item_closure (source_made b.located b.actions.made (parser_of items) (beginning_same (beginning_of false [] (unmade prefix)) (parts_of program))))
    where
      by : (o : Option ℕ) → HasClosure b.located (length b.actions.made.functions) m.functions o → HasClosure b.located (length b.actions.made.functions) (complete prefix program items).functions o
      by _ Without = Without
      by _ (With n h) = With n (record {
        first = h.first;
        error = h.error;
        fault = h.fault;
        first_there = (h.first_there.0, function_same h.first (first_function b.located) h.first_there.0 h.first_there.1);
        error_there = λ e. (let at = h.error_there e in (at.0, function_same h.error error_function at.0 at.1));
        fault_there = (h.fault_there.0, function_same h.fault (fault_function b.located h.error) h.fault_there.0 h.fault_there.1);
        item_there = (h.item_there.0, function_same n (item_function h.first h.fault) h.item_there.0 h.item_there.1);
      })
