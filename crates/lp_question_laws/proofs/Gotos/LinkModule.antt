-- The functions of a module of table-driven code: those of its rows, and the methods that hand on to them.
use Rattle.std.proofs.Common.{◌≡◌, ℕ, ◌+◌, ◌<◌, ◌≤◌, Bool, true, false, List, [], ◌∷◌, ◌++◌, length, map, Option, Some, None, refl, ap, sym, subst, ◌∙◌, arith, length-append}
use Rattle.std.specs.Prelude.{slice_get, codes, nat_lt}
use Rattle.std.specs.Option.{option_map}
use Rattle.std.proofs.lemmas.Option.{slice_get-map}
use Rattle.lp_core.specs.declared.expr.Function.{Function}
use Rattle.lp_form.specs.declared.part.Part.TheVariants as part
use Rattle.lp_view.specs.PartLists.{Form, is_a, hole_of, parts_of, over, first_that}
use Rattle.lp_maker.specs.Slots.{Names}
use Rattle.lp_maker.specs.Constructs.{called}
use Rattle.lp_maker.specs.Making.{Making, with_function, number_in, unmade, finished}
use Rattle.lp_bodies.specs.Actions.{action_function, with_action, with_code_under, code_of, takes}
use Rattle.lp_bodies.specs.Source.{function}
use Rattle.lp_bodies.specs.MachineMethods.{Recovering, recovery_row, recovery_rows, with_recovery, after_location, after_state, after_index, after_action, after_error, after_eof, after_goto, after_symbol, after_expected, after_recovery, after_reduce, with_methods, methods_of}
use Rattle.lp_run.specs.Promised.{Beginning, Promising, promising_of, promised, beginning, beginning_of, beginning_row, is_source, is_action, with_action_form, header_number, module_row, module_rows}
use Rattle.lp_run.specs.Functions.{function_made, all_made, action_made, actions_made}
use Rattle.lp_run.specs.ParseMethod.{Parsing, By_driver, parse_made, parser_called, called as called_parse, driving, fields, parameters_of}
use Rattle.lp_run.specs.Named.{parser_of, is_interned}
use Rattle.lp_run.specs.Entered.{with_closure, sourced, with_source, made_after, module_made}
use Rattle.lp_run.specs.Module.{Module}
use Rattle.lp_question_laws.proofs.Gotos.LinkMaps.{numbered_other, get_more, get_end, get_set_other}
use Rattle.lp_question_laws.proofs.Gotos.LinkGrows.{Tabled, tabled_same, tabled_both, Grown, grown_same, grown_both, Extends, same, both, one_function, one_text, one_variant, either, over_extends, is_of_tables}
use Rattle.lp_question_laws.proofs.Gotos.LinkPromises.{AreNoAscent, Beside, Linked, row_linked, tables_stay, terminals_stay}

-- ---- actions

abbrev pub Below : ℕ → List (ℕ × Form) → Type 0
Below n [] = Unit {0}
Below n (r ∷ rs) = (r.0 < n) × Below n rs

below_more : (n k : ℕ) (form : Form) (rs : List (ℕ × Form)) → Below n rs → n ≤ k → Below (k + 1) (rs ++ (k, form) ∷ [])
below_more n k form [] b le = (omega arith, tt)
below_more n k form (r ∷ rs) b le = (let a = b.0 in omega arith, below_more n k form rs b.1 le)

pub code_extends : (o body : Option Form) (m : Making) → Extends m (with_code_under o body m)
code_extends None body m = same m
code_extends (Some header) None m = same m
code_extends (Some header) (Some body) m = either (Extends m) (is_a part.UserBody body) _ _ (one_text (code_of body) m) (same m)

action_kept : (m : Making) (r : ℕ × Form) (j : ℕ) (x : Option Function) → (j ≡ r.0 → ⊥) → slice_get m.functions j ≡ Some x → slice_get (action_made m r).functions j ≡ Some x
action_kept m r j x ne h =
    let n = with_action r.1 m in
    let e = (code_extends (slice_get (parts_of r.1) 0) (slice_get (parts_of r.1) 1) m).functions in
    let here : slice_get n.functions j ≡ Some x = subst (λ fs. slice_get fs j ≡ Some x) (sym e.1) (get_more m.functions e.0 j x h) in
    either (λ fs. slice_get fs j ≡ Some x) (nat_lt r.0 (length n.functions)) _ _ (get_set_other n.functions j r.0 (Some (action_function m r.1)) ne ∙ here) here

pub actions_kept : (m : Making) (rs : List (ℕ × Form)) (j n : ℕ) (x : Option Function) → Below n rs → n ≤ j → slice_get m.functions j ≡ Some x → slice_get (actions_made m rs).functions j ≡ Some x
actions_kept m [] j n x b le h = h
actions_kept m (r ∷ rs) j n x b le h = actions_kept (action_made m r) rs j n x b.1 le (action_kept m r j x (λ e. (let a = b.0 in omega arith)) h)

pub actions_tabled : (m : Making) (rs : List (ℕ × Form)) → Tabled m (actions_made m rs)
actions_tabled m [] = tabled_same m
actions_tabled m (r ∷ rs) =
    let e = code_extends (slice_get (parts_of r.1) 0) (slice_get (parts_of r.1) 1) m in
    tabled_both m (action_made m r) (actions_made (action_made m r) rs) (record { tables = e.tables; action_table = e.action_table; eof_table = e.eof_table }) (actions_tabled (action_made m r) rs)

pub actions_grown : (m : Making) (rs : List (ℕ × Form)) → Grown m (actions_made m rs)
actions_grown m [] = grown_same m
actions_grown m (r ∷ rs) =
    let e = code_extends (slice_get (parts_of r.1) 0) (slice_get (parts_of r.1) 1) m in
    grown_both m (action_made m r) (actions_made (action_made m r) rs) (record { texts = e.texts; variants = e.variants; item_closure = e.item_closure }) (actions_grown (action_made m r) rs)

pub actions_list : (m : Making) (rs : List (ℕ × Form)) → (actions_made m rs).terminals ≡ m.terminals
actions_list m [] = refl
actions_list m (r ∷ rs) = actions_list (action_made m r) rs ∙ (code_extends (slice_get (parts_of r.1) 0) (slice_get (parts_of r.1) 1) m).terminals

pub actions_know : (m : Making) (rs : List (ℕ × Form)) → (actions_made m rs).names ≡ m.names
actions_know m [] = refl
actions_know m (r ∷ rs) = actions_know (action_made m r) rs ∙ (code_extends (slice_get (parts_of r.1) 0) (slice_get (parts_of r.1) 1) m).names

-- ---- what stands beside the modules

-- a name that is no action's
abbrev pub IsNoAction : List ℕ → Type 0
IsNoAction q = (rest : List ℕ) → q ≡ codes "super::action" ++ rest → ⊥

pub record Begun (q prefix : List ℕ) (b : Beginning) : Type 0 where
  pub new : number_in q b.actions.made.names ≡ None
  pub below : Below (length b.actions.made.functions) b.actions.promises
  pub same : b.actions.made.prefix ≡ prefix

begun_more : (q prefix : List ℕ) (b : Beginning) (form : Form) → IsNoAction q → Begun q prefix b → Begun q prefix (with_action_form b form)
begun_more q prefix b form h s =
    let m = b.actions.made in
    let e : length (m.functions ++ None ∷ []) ≡ length m.functions + 1 = length-append m.functions (None ∷ []) in
    record {
      new = numbered_other q (codes "super::action" ++ header_number form) (length m.functions) m.names (h (header_number form)) ∙ s.new;
      below = subst (λ n. Below n (b.actions.promises ++ (length m.functions, form) ∷ [])) (sym e) (below_more (length m.functions) (length m.functions) form b.actions.promises s.below (omega arith));
      same = s.same;
    }

all_begun : (q prefix : List ℕ) → IsNoAction q → (b : Beginning) (fs : List Form) → Begun q prefix b → Begun q prefix (over beginning_row b fs)
all_begun q prefix h b [] s = s
all_begun q prefix h b (f ∷ fs) s =
    all_begun q prefix h (beginning_row b f) fs
    (either (Begun q prefix) (is_source f) _ _ (record { new = s.new; below = s.below; same = s.same }) (either (Begun q prefix) (is_action f) _ _ (begun_more q prefix b f h s) s))

pub begun : (q prefix : List ℕ) (program : Form) → IsNoAction q → Begun q prefix (beginning (unmade prefix) program)
begun q prefix program h = all_begun q prefix h (beginning_of false [] (unmade prefix)) (parts_of program) (record { new = refl; below = tt; same = refl })

-- the closure of the token source adds functions alone
abbrev pub Sourced : Making → Making → Type 0
Sourced m n = (n.names ≡ m.names) × (length m.functions ≤ length n.functions) × (n.prefix ≡ m.prefix)

closure_sourced : (located : Bool) (m : Making) → Sourced m (with_closure located m)
closure_sourced true m = (refl, simp length-append (omega arith), refl)
closure_sourced false m = (refl, simp length-append (omega arith), refl)

pub source_sourced : (located : Bool) (m : Making) (o : Option Form) → Sourced m (sourced located m o)
source_sourced located m None = closure_sourced located m
source_sourced located m (Some parser) = either (Sourced m) (is_interned parser) _ _ (refl, omega arith, refl) (closure_sourced located m)

-- and neither makes a table
row_tabled : (b : Beginning) (form : Form) → Tabled b.actions.made (beginning_row b form).actions.made
row_tabled b form =
    let P : Beginning → Type 0 = λ (c : Beginning). Tabled b.actions.made c.actions.made in
    either P (is_source form) _ _ (tabled_same b.actions.made) (either P (is_action form) _ _ (record { tables = refl; action_table = refl; eof_table = refl }) (tabled_same b.actions.made))

rows_tabled : (b : Beginning) (fs : List Form) → Tabled b.actions.made (over beginning_row b fs).actions.made
rows_tabled b [] = tabled_same b.actions.made
rows_tabled b (f ∷ fs) = tabled_both b.actions.made (beginning_row b f).actions.made (over beginning_row (beginning_row b f) fs).actions.made (row_tabled b f) (rows_tabled (beginning_row b f) fs)

pub begun_tabled : (prefix : List ℕ) (program : Form) → Tabled (unmade prefix) (beginning (unmade prefix) program).actions.made
begun_tabled prefix program = rows_tabled (beginning_of false [] (unmade prefix)) (parts_of program)

closure_tabled : (located : Bool) (m : Making) → Tabled m (with_closure located m)
closure_tabled true m = record { tables = refl; action_table = refl; eof_table = refl }
closure_tabled false m = record { tables = refl; action_table = refl; eof_table = refl }

pub source_tabled : (located : Bool) (m : Making) (o : Option Form) → Tabled m (sourced located m o)
source_tabled located m None = closure_tabled located m
source_tabled located m (Some parser) = either (Tabled m) (is_interned parser) _ _ (tabled_same m) (closure_tabled located m)

-- ---- methods

pub recovery_extends : (form : Form) (m : Making) → Extends m (with_recovery form m)
recovery_extends form m =
    let r = recovery_rows m form in
    let rows = over_extends (λ s. s.made) recovery_row (λ s f. either (λ (t : Recovering). Extends s.made t.made) (is_a part.RecoveryOn f) _ _ (one_variant (hole_of 0 f) s.made) (either (λ (t : Recovering). Extends s.made t.made) (is_a part.RecoveryOff f) _ _ (same s.made) (same s.made))) (record { uses = _; symbol = _; made = m }) (parts_of form) in
    both m r.made (with_recovery form m) rows (both r.made (with_function _ r.made) _ (one_function _ r.made) (one_function _ (with_function _ r.made)))

-- what stands after the method for gotos
pub later_extends : (form : Form) (fields : Names) (count : ℕ) (m : Making) → Extends (after_goto form m) (with_methods form fields count m)
later_extends form fields count m =
    let m1 = after_goto form m in
    let m2 = after_symbol form m in
    let m3 = after_expected form m in
    let m4 = after_recovery form m in
    let m5 = after_reduce form fields count m in
    both m1 m2 (with_methods form fields count m) (one_function _ m1) (both m2 m3 (with_methods form fields count m) (one_function _ m2) (both m3 m4 (with_methods form fields count m) (recovery_extends form m3)
    (both m4 m5 (with_methods form fields count m) (one_function _ m4) (one_function _ m5))))

-- what stands before it
pub earlier_extends : (form : Form) (m : Making) → Extends m (after_eof form m)
earlier_extends form m =
    let n1 = after_location m in
    let n2 = after_state form m in
    let n3 = after_index form m in
    let n4 = after_action form m in
    let n5 = after_error form m in
    let n6 = after_eof form m in
    both m n1 n6 (one_function _ m) (both n1 n2 n6 (one_function _ n1) (both n2 n3 n6 (one_function _ n2) (both n3 n4 n6 (one_function _ n3) (both n4 n5 n6 (one_function _ n4) (one_function _ n5)))))

goto_method : (form : Form) (fields : Names) (count : ℕ) (m : Making) (k : ℕ) → number_in (codes "goto") m.names ≡ Some k →
    slice_get (with_methods form fields count m).functions (methods_of form fields count m).goto ≡ Some (Some (function 2 0 (called (takes 2) (Some k))))
goto_method form fields count m k h =
    let before = after_eof form m in
    let j = length before.functions in
    let e = (later_extends form fields count m).functions in
    let f : Option ℕ → Option Function = λ o. Some (function 2 0 (called (takes 2) o)) in
    let names : number_in (codes "goto") before.names ≡ Some k = ap (number_in (codes "goto")) (earlier_extends form m).names ∙ h in
    ap (λ fs. slice_get fs j) e.1
    ∙ get_more (before.functions ++ f (number_in (codes "goto") before.names) ∷ []) e.0 j (f (number_in (codes "goto") before.names)) (get_end before.functions [] (f (number_in (codes "goto") before.names)))
    ∙ ap (λ o. Some (f o)) names

-- ---- the module

-- the parser of a module calls the driver over a machine
pub record IsDriven (items : Form) : Type 0 where
  pub parser : Form
  pub drive : Form
  pub machine : Form
  pub is_parser : parser_of items ≡ Some parser
  pub is_drive : first_that (is_a part.Drive) (parts_of parser) ≡ Some drive
  pub is_machine : first_that (is_a part.MachineImpl) (parts_of items) ≡ Some machine

-- a row of a module declares a name that no row before it declares
pub record Declares (items : Form) (name rest : List ℕ) (form : Form) : Type 0 where
  pub before : List Form
  pub after : List Form
  pub rows : parts_of items ≡ before ++ form ∷ after
  pub plain_before : AreNoAscent before
  pub plain_after : AreNoAscent after
  pub is_plain : is_of_tables form ≡ true
  pub declares : (s : Promising) → module_row s form ≡ promised name rest s form
  pub new : (m : Making) → number_in (name ++ rest) m.names ≡ None → number_in (name ++ rest) (over module_row (promising_of [] m) before).made.names ≡ None
  pub no_action : IsNoAction (name ++ rest)

parse_is : (items : Form) (d : IsDriven items) (m : Making) (names : Names) →
    parse_made m items names ≡ driving m (fields names d.drive) (Some d.machine)
unfolding parse_made
parse_is items d m names =
    ap (parser_called m items names) d.is_parser ∙ ap (called_parse m items names d.parser) d.is_drive ∙ ap (driving m (fields names d.drive)) d.is_machine

-- ---- all that is made before the `parse` method

unfoldable pub complete : List ℕ → Form → Form → Making
complete prefix program items =
    let b = beginning (unmade prefix) program in
    let s = module_rows (with_source items b.located b.actions.made) items in
    actions_made (all_made s.made s.promises) b.actions.promises

-- what a row declares has a number there, under which its function stands, and what was made with this
pub record RowMade (prefix : List ℕ) (last : Making) (name : List ℕ) (form : Form) : Type 0 where
  pub number : ℕ
  pub named : number_in name last.names ≡ Some number
  pub maker : Making
  pub knows : maker.names ≡ last.names
  pub same : maker.prefix ≡ prefix
  pub action_table : maker.action_table ≡ last.action_table
  pub function : slice_get last.functions number ≡ Some (Some (function_made maker form).function)
  pub grown : Grown (function_made maker form).making last
  pub terminals : maker.terminals ≡ last.terminals
  pub beside : Beside maker form last

pub row_made : (prefix : List ℕ) (program items form : Form) (name rest : List ℕ) → Declares items name rest form → RowMade prefix (complete prefix program items) (name ++ rest) form
unfolding complete
row_made prefix program items form name rest r =
    let b = beginning (unmade prefix) program in
    let m = with_source items b.located b.actions.made in
    let s = module_rows m items in
    let q = name ++ rest in
    let begins = begun q prefix program r.no_action in
    let from = source_sourced b.located b.actions.made (parser_of items) in
    let k = length (over module_row (promising_of [] m) r.before).made.functions in
    let l : Linked m s q form k =
    subst (λ fs. Linked m (over module_row (promising_of [] m) fs) q form k) (sym r.rows)
    (row_linked m r.before form r.after name rest r.plain_before r.plain_after r.is_plain (r.declares (over module_row (promising_of [] m) r.before)) (r.new m (ap (number_in q) from.0 ∙ begins.new))) in
    let all = all_made s.made s.promises in
    let names = actions_know all b.actions.promises ∙ l.names in
    record {
      number = k;
      named = ap (number_in q) names ∙ l.number;
      maker = l.maker;
      knows = l.knows ∙ sym names;
      same = l.prefix ∙ from.2 ∙ begins.same;
      action_table = l.tabled.action_table ∙ sym (tabled_both s.made all (actions_made all b.actions.promises) (tables_stay s.made s.promises l.of_tables) (actions_tabled all b.actions.promises)).action_table;
      function = actions_kept all b.actions.promises k (length b.actions.made.functions) (Some (function_made l.maker form).function) begins.below (omega (arith, from.1, l.late)) l.function;
      grown = grown_both (function_made l.maker form).making all (actions_made all b.actions.promises) l.grown (actions_grown all b.actions.promises);
      terminals = l.terminals ∙ sym (actions_list all b.actions.promises ∙ terminals_stay s.made s.promises l.of_tables);
      beside = λ j x behind made. actions_kept all b.actions.promises j (length b.actions.made.functions) x begins.below (omega (arith, from.1, l.late, l.behind, behind)) (l.beside j x behind made);
    }

pub all_extends : (form : Form) (fields : Names) (count : ℕ) (m : Making) → Extends m (with_methods form fields count m)
all_extends form fields count m =
    both m (after_goto form m) (with_methods form fields count m) (both m (after_eof form m) (after_goto form m) (earlier_extends form m) (one_function _ (after_eof form m))) (later_extends form fields count m)

-- the module: it drives these methods, and has their functions and those that were made before
pub record ModuleMade (made : Module) (last : Making) (machine : Form) : Type 0 where
  pub names : Names
  pub fields : List (Option ℕ)
  pub parses : made.parse ≡ By_driver (methods_of machine names (length fields) last) fields
  pub functions : made.functions ≡ map finished (with_methods machine names (length fields) last).functions
  pub tables : made.tables ≡ last.tables
  pub texts : (ts : List (List ℕ)) × (made.texts ≡ last.texts ++ ts)
  pub closure : made.closure ≡ last.item_closure

pub module_is_made : (prefix : List ℕ) (program items : Form) (d : IsDriven items) → ModuleMade (module_made prefix program items) (complete prefix program items) d.machine
unfolding complete module_made made_after
module_is_made prefix program items d =
    let last = complete prefix program items in
    let own = fields (parameters_of prefix items) d.drive in
    let whole : parse_made last items (parameters_of prefix items) ≡ driving last own (Some d.machine) = parse_is items d last (parameters_of prefix items) in
    let all = all_extends d.machine own.names (length own.numbers) last in
    record {
      names = own.names;
      fields = own.numbers;
      parses = ap (λ (p : Parsing). p.parse) whole;
      functions = ap (λ (p : Parsing). map finished p.made.functions) whole;
      tables = ap (λ (p : Parsing). p.made.tables) whole ∙ all.tables;
      texts = (all.texts.0, ap (λ (p : Parsing). p.made.texts) whole ∙ all.texts.1);
      closure = refl;
    }

-- its fields are those of the call of the driver
pub module_fields : (prefix : List ℕ) (program items : Form) (d : IsDriven items)
    → ((module_is_made prefix program items d).names ≡ (fields (parameters_of prefix items) d.drive).names) × ((module_is_made prefix program items d).fields ≡ (fields (parameters_of prefix items) d.drive).numbers)
unfolding module_is_made
module_fields prefix program items d = (refl, refl)

-- a function of a module that stands among those that were made
pub finished_there : (fs : List (Option Function)) (j : ℕ) (f : Function) → slice_get fs j ≡ Some (Some f) → slice_get (map finished fs) j ≡ Some f
finished_there fs j f h = slice_get-map finished fs j ∙ ap (option_map finished) h

-- the function of a row of the module
pub row_function : (prefix : List ℕ) (made : Module) (last : Making) (machine form : Form) (name : List ℕ) (is : ModuleMade made last machine) (r : RowMade prefix last name form) → slice_get made.functions r.number ≡ Some (function_made r.maker form).function
row_function prefix made last machine form name is r =
    let count = length is.fields in
    let e = (all_extends machine is.names count last).functions in
    ap (λ fs. slice_get fs r.number) is.functions
    ∙ finished_there (with_methods machine is.names count last).functions r.number (function_made r.maker form).function
    (ap (λ fs. slice_get fs r.number) e.1 ∙ get_more last.functions e.0 r.number (Some (function_made r.maker form).function) r.function)

-- the method for gotos hands on to the function of the row that declares `goto`
pub goto_hands_on : (prefix : List ℕ) (made : Module) (last : Making) (machine form : Form) (is : ModuleMade made last machine) (r : RowMade prefix last (codes "goto") form) →
    slice_get made.functions (methods_of machine is.names (length is.fields) last).goto ≡ Some (function 2 0 (called (takes 2) (Some r.number)))
goto_hands_on prefix made last machine form is r =
    ap (λ fs. slice_get fs (methods_of machine is.names (length is.fields) last).goto) is.functions
    ∙ finished_there (with_methods machine is.names (length is.fields) last).functions (methods_of machine is.names (length is.fields) last).goto (function 2 0 (called (takes 2) (Some r.number)))
    (goto_method machine is.names (length is.fields) last r.number r.named)

-- the same of the method for simulated reductions, which comes last
simulate_method : (form : Form) (fields : Names) (count : ℕ) (m : Making) (k : ℕ) → number_in (codes "simulate_reduce") m.names ≡ Some k →
    slice_get (with_methods form fields count m).functions (methods_of form fields count m).simulate_reduce ≡ Some (Some (function 1 0 (called (takes 1) (Some k))))
simulate_method form fields count m k h =
    let m1 = after_eof form m in
    let m2 = after_goto form m in
    let m3 = after_symbol form m in
    let m4 = after_expected form m in
    let m5 = after_recovery form m in
    let before = after_reduce form fields count m in
    let e : Extends m before = both m m1 before (earlier_extends form m) (both m1 m2 before (one_function _ m1) (both m2 m3 before (one_function _ m2) (both m3 m4 before (one_function _ m3) (both m4 m5 before (recovery_extends form m4) (one_function _ m5))))) in
    get_end before.functions [] (Some (function 1 0 (called (takes 1) (number_in (codes "simulate_reduce") before.names))))
    ∙ ap (λ o. Some (Some (function 1 0 (called (takes 1) o)))) (ap (number_in (codes "simulate_reduce")) e.names ∙ h)

pub simulate_hands_on : (prefix : List ℕ) (made : Module) (last : Making) (machine form : Form) (is : ModuleMade made last machine) (r : RowMade prefix last (codes "simulate_reduce") form) →
    slice_get made.functions (methods_of machine is.names (length is.fields) last).simulate_reduce ≡ Some (function 1 0 (called (takes 1) (Some r.number)))
simulate_hands_on prefix made last machine form is r =
    ap (λ fs. slice_get fs (methods_of machine is.names (length is.fields) last).simulate_reduce) is.functions
    ∙ finished_there (with_methods machine is.names (length is.fields) last).functions (methods_of machine is.names (length is.fields) last).simulate_reduce (function 1 0 (called (takes 1) (Some r.number)))
    (simulate_method machine is.names (length is.fields) last r.number r.named)
