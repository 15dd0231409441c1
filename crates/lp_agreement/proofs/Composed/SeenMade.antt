-- The whole code of a module doesn't depend on what can't be seen of its items and of the program.
use Rattle.std.proofs.Common.{◌≡◌, ℕ, Bool, true, false, if◌then◌else◌, List, [], ◌∷◌, length, map, Option, Some, None, option_map, slice_get, refl, ap, ◌∙◌}
use Rattle.lp_core.specs.declared.expr.Function.{Function}
use Rattle.lp_form.specs.declared.part.Part.TheVariants as part
use Rattle.lp_view.specs.PartLists.{Form, is_a, hole_of, parts_of, first_that}
use Rattle.lp_maker.specs.Making.{Making, defined, unmade, with_function, with_variant}
use Rattle.lp_maker.specs.Slots.{Names, no_names}
use Rattle.lp_bodies.specs.Actions.{action_function, with_action}
use Rattle.lp_bodies.specs.MachineMethods.{methods_of, with_methods}
use Rattle.lp_bodies.specs.Reductions.{pop_function, reduce_fn, with_reduce_fn, reduce_function, with_reduce}
use Rattle.lp_bodies.specs.Tables.{lookup_function, goto_function, integer_function, with_integers, symbol_function, with_symbols, expected_function, expected_closure, with_states_closure}
use Rattle.lp_bodies.specs.Trials.{simulate_function}
use Rattle.lp_ascent_bodies.specs.AscentStates.{state_fn, with_state_fn}
use Rattle.lp_ascent_bodies.specs.AscentTrials.{ascent_simulate, ascent_accepts, ascent_expected, with_ascent_expected}
use Rattle.lp_run.specs.Entered.{with_closure, sourced, with_source, with_parse, made_after, finished_module, Ready, module_made, ready_of}
use Rattle.lp_run.specs.Functions.{Made, made_of, without_meaning, lookup_made, trial_made, expected_made, accepts_made, reduction_made, ascent_made, function_made, placed, one_made, all_made, action_made, actions_made}
use Rattle.lp_run.specs.Named.{is_interned, parser_of}
use Rattle.lp_run.specs.ParseMethod.{Parsing, Fields, fields_of, field_row, fields, parameter_row, header_names, parser_names, parameters_of, driving, driven_by, by_function, started, called, parser_called, parse_made, parsing_of, By_driver}
use Rattle.lp_run.specs.Promised.{Beginning, Promising, is_action_lookup, is_lookup, is_trial, is_reduction, beginning, module_rows}
use Rattle.lp_agreement.proofs.Composed.Seen.{IsBlind, hole_seen, is_seen, over_seen, part_seen_at, that_seen}
use Rattle.lp_agreement.proofs.Composed.SeenActions.{action_seen, with_action_seen}
use Rattle.lp_agreement.proofs.Composed.SeenModules.{beginning_seen, parser_seen, rows_seen, seen_beginning, seen_promise, seen_promising}
use Rattle.lp_agreement.proofs.Composed.SeenReductions.{methods_seen, pop_seen, reduce_fn_seen, reduce_seen, with_methods_seen, with_reduce_fn_seen, with_reduce_seen}
use Rattle.lp_agreement.proofs.Composed.SeenStates.{ascent_accepts_seen, ascent_simulate_seen, start_seen, state_fn_seen, with_state_fn_seen}
use Rattle.lp_agreement.proofs.Composed.SeenTables.{accepts_seen, expected_seen, goto_seen, integers_seen, lookup_seen, simulate_seen, symbols_seen, with_integers_seen, with_symbols_seen}
use Rattle.lp_agreement.proofs.Composed.Settled.{seen}

-- one of two that are the same, by tests that are one
both : {A : Type 0} (b c : Bool) (x y x' y' : A) → c ≡ b → x' ≡ x → y' ≡ y → (if c then x' else y') ≡ (if b then x else y)
both true c x y x' y' same one other = ap (λ (t : Bool). if t then x' else y') same ∙ one
both false c x y x' y' same one other = ap (λ (t : Bool). if t then x' else y') same ∙ other

made_both : (f f' : Function) (m m' : Making) → f' ≡ f → m' ≡ m → made_of f' m' ≡ made_of f m
made_both f f' m m' a b = ap (λ (x : Function). made_of x m') a ∙ ap (made_of f) b

-- ---- the functions of a module
action_lookup_blind : (f : Form) → is_action_lookup (seen f) ≡ is_action_lookup f
action_lookup_blind [] = refl
action_lookup_blind (e ∷ es) = refl

lookup_made_seen : (m : Making) (f : Form) → lookup_made m (seen f) ≡ lookup_made m f
lookup_made_seen m f =
    let g = seen f in
    both (is_action_lookup f) (is_action_lookup g) (made_of (lookup_function m f) m) _ (made_of (lookup_function m g) m) _ (action_lookup_blind f) (ap (λ (x : Function). made_of x m) (lookup_seen m f))
    (both (is_a part.GotoFn f) (is_a part.GotoFn g) (made_of (goto_function f) m) _ (made_of (goto_function g) m) _ (is_seen part.GotoFn f) (ap (λ (x : Function). made_of x m) (goto_seen f))
    (both (is_a part.TokenToInteger f) (is_a part.TokenToInteger g) (made_of (integer_function m f) (with_integers f m)) (made_of (symbol_function m f) (with_symbols f m)) (made_of (integer_function m g) (with_integers g m)) (made_of (symbol_function m g) (with_symbols g m)) (is_seen part.TokenToInteger f)
    (made_both (integer_function m f) (integer_function m g) (with_integers f m) (with_integers g m) (integers_seen m f) (with_integers_seen m f))
    (made_both (symbol_function m f) (symbol_function m g) (with_symbols f m) (with_symbols g m) (symbols_seen m f) (with_symbols_seen m f))))

expected_made_seen : (m : Making) (o : Option Form) → expected_made m (option_map seen o) ≡ expected_made m o
expected_made_seen m None = refl
expected_made_seen m (Some header) = ap (λ (x : Function). made_of x (with_states_closure m)) (expected_seen m header)

accepts_made_seen : (m : Making) (o : Option Form) → accepts_made m (option_map seen o) ≡ accepts_made m o
accepts_made_seen m None = refl
accepts_made_seen m (Some header) = ap (λ (x : Function). made_of x m) (accepts_seen m header)

trial_made_seen : (m : Making) (f : Form) → trial_made m (seen f) ≡ trial_made m f
trial_made_seen m f =
    let g = seen f in
    both (is_a part.Expected f) (is_a part.Expected g) (made_of (expected_function m) (with_function (Some (expected_closure m)) m)) _ (made_of (expected_function m) (with_function (Some (expected_closure m)) m)) _ (is_seen part.Expected f) refl
    (both (is_a part.ExpectedFromStates f) (is_a part.ExpectedFromStates g) (expected_made m (slice_get (parts_of f) 0)) _ (expected_made m (slice_get (parts_of g) 0)) _ (is_seen part.ExpectedFromStates f)
    (ap (expected_made m) (part_seen_at f 0) ∙ expected_made_seen m (slice_get (parts_of f) 0))
    (both (is_a part.SimulateReduce f) (is_a part.SimulateReduce g) (made_of (simulate_function m.prefix f) m) (accepts_made m (slice_get (parts_of f) 0)) (made_of (simulate_function m.prefix g) m) (accepts_made m (slice_get (parts_of g) 0)) (is_seen part.SimulateReduce f)
    (ap (λ (x : Function). made_of x m) (simulate_seen m.prefix f))
    (ap (accepts_made m) (part_seen_at f 0) ∙ accepts_made_seen m (slice_get (parts_of f) 0))))

reduction_made_seen : (m : Making) (f : Form) → reduction_made m (seen f) ≡ reduction_made m f
reduction_made_seen m f =
    let g = seen f in
    both (is_a part.Pop f) (is_a part.Pop g) (made_of (pop_function m f) (with_variant (hole_of 0 f) m)) _ (made_of (pop_function m g) (with_variant (hole_of 0 g) m)) _ (is_seen part.Pop f)
    (made_both (pop_function m f) (pop_function m g) (with_variant (hole_of 0 f) m) (with_variant (hole_of 0 g) m) (pop_seen m f) (ap (λ (s : List ℕ). with_variant s m) (hole_seen 0 f)))
    (both (is_a part.ReduceFn f) (is_a part.ReduceFn g) (made_of (reduce_fn m f) (with_reduce_fn f m)) _ (made_of (reduce_fn m g) (with_reduce_fn g m)) _ (is_seen part.ReduceFn f)
    (made_both (reduce_fn m f) (reduce_fn m g) (with_reduce_fn f m) (with_reduce_fn g m) (reduce_fn_seen m f) (with_reduce_fn_seen m f))
    (both (is_a part.Reduce f) (is_a part.Reduce g) (made_of (reduce_function m f) (with_reduce f m)) (made_of without_meaning m) (made_of (reduce_function m g) (with_reduce g m)) (made_of without_meaning m) (is_seen part.Reduce f)
    (made_both (reduce_function m f) (reduce_function m g) (with_reduce f m) (with_reduce g m) (reduce_seen m f) (with_reduce_seen m f)) refl))

lookup_blind : (f : Form) → is_lookup (seen f) ≡ is_lookup f
lookup_blind [] = refl
lookup_blind (e ∷ es) = refl

trial_blind : (f : Form) → is_trial (seen f) ≡ is_trial f
trial_blind [] = refl
trial_blind (e ∷ es) = refl

reduction_blind : (f : Form) → is_reduction (seen f) ≡ is_reduction f
reduction_blind [] = refl
reduction_blind (e ∷ es) = refl

-- a function of recursive ascent
ascent_made_seen : (m : Making) (f : Form) → ascent_made m (seen f) ≡ ascent_made m f
ascent_made_seen m f =
    let g = seen f in
    both (is_a part.StateFn f) (is_a part.StateFn g) (made_of (state_fn m f) (with_state_fn f m)) _ (made_of (state_fn m g) (with_state_fn g m)) _ (is_seen part.StateFn f)
    (made_both (state_fn m f) (state_fn m g) (with_state_fn f m) (with_state_fn g m) (state_fn_seen m f) (with_state_fn_seen m f))
    (both (is_a part.AscentSimulate f) (is_a part.AscentSimulate g) (made_of (ascent_simulate f) m) _ (made_of (ascent_simulate g) m) _ (is_seen part.AscentSimulate f) (ap (λ (x : Function). made_of x m) (ascent_simulate_seen f))
    (both (is_a part.AscentAccepts f) (is_a part.AscentAccepts g) (made_of (ascent_accepts m f) m) (made_of (ascent_expected m) (with_ascent_expected m)) (made_of (ascent_accepts m g) m) (made_of (ascent_expected m) (with_ascent_expected m)) (is_seen part.AscentAccepts f)
    (ap (λ (x : Function). made_of x m) (ascent_accepts_seen m f)) refl))

pub function_seen : (m : Making) (f : Form) → function_made m (seen f) ≡ function_made m f
unfolding function_made
function_seen m f =
    let g = seen f in
    both (is_lookup f) (is_lookup g) (lookup_made m f) _ (lookup_made m g) _ (lookup_blind f) (lookup_made_seen m f)
    (both (is_trial f) (is_trial g) (trial_made m f) _ (trial_made m g) _ (trial_blind f) (trial_made_seen m f)
    (both (is_reduction f) (is_reduction g) (reduction_made m f) (ascent_made m f) (reduction_made m g) (ascent_made m g) (reduction_blind f) (reduction_made_seen m f) (ascent_made_seen m f)))

pub all_seen : (m : Making) (rs : List (ℕ × Form)) → all_made m (map seen_promise rs) ≡ all_made m rs
all_seen m [] = refl
all_seen m (r ∷ rs) = ap (λ (d : Made). all_made (placed r.0 d) (map seen_promise rs)) (function_seen m r.1) ∙ all_seen (one_made m r) rs

pub actions_seen : (m : Making) (rs : List (ℕ × Form)) → actions_made m (map seen_promise rs) ≡ actions_made m rs
actions_seen m [] = refl
actions_seen m (r ∷ rs) =
    ap (λ (f : Function). actions_made (defined r.0 f (with_action (seen r.1) m)) (map seen_promise rs)) (action_seen m r.1)
    ∙ ap (λ (n : Making). actions_made (defined r.0 (action_function m r.1) n) (map seen_promise rs)) (with_action_seen r.1 m)
    ∙ actions_seen (action_made m r) rs

-- ---- the `parse` method
parameter_blind : (prefix : List ℕ) → IsBlind (parameter_row prefix)
parameter_blind prefix names [] = refl
parameter_blind prefix names (e ∷ es) = refl

header_names_seen : (prefix : List ℕ) (o : Option Form) → header_names prefix (option_map seen o) ≡ header_names prefix o
header_names_seen prefix None = refl
header_names_seen prefix (Some header) = over_seen (parameter_row prefix) (parameter_blind prefix) no_names header

parser_names_seen : (prefix : List ℕ) (o : Option Form) → parser_names prefix (option_map seen o) ≡ parser_names prefix o
parser_names_seen prefix None = refl
parser_names_seen prefix (Some form) =
    ap (header_names prefix) (that_seen (is_a part.HeaderParse) (is_seen part.HeaderParse) form) ∙ header_names_seen prefix (first_that (is_a part.HeaderParse) (parts_of form))

pub parameters_of_seen : (prefix : List ℕ) (items : Form) → parameters_of prefix (seen items) ≡ parameters_of prefix items
unfolding parameters_of
parameters_of_seen prefix items = ap (parser_names prefix) (parser_seen items) ∙ parser_names_seen prefix (parser_of items)

field_blind : (names : Names) → IsBlind (field_row names)
field_blind names f [] = refl
field_blind names f (e ∷ es) = refl

fields_seen : (names : Names) (form : Form) → fields names (seen form) ≡ fields names form
fields_seen names form = over_seen (field_row names) (field_blind names) (fields_of [] no_names) form

driving_seen : (m : Making) (f : Fields) (o : Option Form) → driving m f (option_map seen o) ≡ driving m f o
driving_seen m f None = refl
driving_seen m f (Some machine) =
    let ms = seen machine in
    ap (λ (x : _). parsing_of (By_driver x f.numbers) (with_methods ms f.names (length f.numbers) m)) (methods_seen machine f.names (length f.numbers) m)
    ∙ ap (parsing_of (By_driver (methods_of machine f.names (length f.numbers) m) f.numbers)) (with_methods_seen machine f.names (length f.numbers) m)

driven_seen : (m : Making) (items : Form) (names : Names) (drive : Form) → driven_by m (seen items) names (seen drive) ≡ driven_by m items names drive
driven_seen m items names drive =
    ap (λ (f : Fields). driving m f (first_that (is_a part.MachineImpl) (parts_of (seen items)))) (fields_seen names drive)
    ∙ ap (driving m (fields names drive)) (that_seen (is_a part.MachineImpl) (is_seen part.MachineImpl) items)
    ∙ driving_seen m (fields names drive) (first_that (is_a part.MachineImpl) (parts_of items))

started_seen : (m : Making) (names : Names) (o : Option Form) → started m names (option_map seen o) ≡ started m names o
started_seen m names None = refl
started_seen m names (Some form) = ap (by_function names.next) (start_seen m names form)

called_seen : (m : Making) (items : Form) (names : Names) (form : Form) (o : Option Form) → called m (seen items) names (seen form) (option_map seen o) ≡ called m items names form o
called_seen m items names form None = ap (started m names) (that_seen (is_a part.Start) (is_seen part.Start) form) ∙ started_seen m names (first_that (is_a part.Start) (parts_of form))
called_seen m items names form (Some drive) = driven_seen m items names drive

parser_called_seen : (m : Making) (items : Form) (names : Names) (o : Option Form) → parser_called m (seen items) names (option_map seen o) ≡ parser_called m items names o
parser_called_seen m items names None = refl
parser_called_seen m items names (Some form) =
    ap (called m (seen items) names (seen form)) (that_seen (is_a part.Drive) (is_seen part.Drive) form) ∙ called_seen m items names form (first_that (is_a part.Drive) (parts_of form))

pub parse_seen : (m : Making) (items : Form) (names : Names) → parse_made m (seen items) names ≡ parse_made m items names
unfolding parse_made
parse_seen m items names = ap (parser_called m (seen items) names) (parser_seen items) ∙ parser_called_seen m items names (parser_of items)

-- ---- the module
interned_blind : (f : Form) → is_interned (seen f) ≡ is_interned f
interned_blind [] = refl
interned_blind (e ∷ es) = refl

sourced_seen : (located : Bool) (m : Making) (o : Option Form) → sourced located m (option_map seen o) ≡ sourced located m o
sourced_seen located m None = refl
sourced_seen located m (Some parser) = ap (λ (b : Bool). if b then m else with_closure located m) (interned_blind parser)

pub source_seen : (items : Form) (located : Bool) (m : Making) → with_source (seen items) located m ≡ with_source items located m
source_seen items located m = ap (sourced located m) (parser_seen items) ∙ sourced_seen located m (parser_of items)

abbrev ready : Parsing → Making → Ready
ready p m = ready_of m.item_closure p

after_seen : (items : Form) (names : Names) (b : Beginning) → made_after (seen items) names (seen_beginning b) ≡ made_after items names b
unfolding made_after
after_seen items names b =
    let m = with_source items b.located b.actions.made in
    let s = module_rows m items in
    let start : module_rows (with_source (seen items) b.located b.actions.made) (seen items) ≡ seen_promising s = ap (λ (n : Making). module_rows n (seen items)) (source_seen items b.located b.actions.made) ∙ rows_seen m items in
    ap (λ (t : Promising). with_parse (seen items) names (actions_made (all_made t.made t.promises) (map seen_promise b.actions.promises))) start
    ∙ ap (λ (n : Making). with_parse (seen items) names (actions_made n (map seen_promise b.actions.promises))) (all_seen s.made s.promises)
    ∙ ap (λ (n : Making). with_parse (seen items) names n) (actions_seen (all_made s.made s.promises) b.actions.promises)
    ∙ ap (λ (p : Parsing). ready p (actions_made (all_made s.made s.promises) b.actions.promises)) (parse_seen (actions_made (all_made s.made s.promises) b.actions.promises) items names)

-- the code of items, in a program
pub module_seen : (prefix : List ℕ) (program items : Form) → module_made prefix (seen program) (seen items) ≡ module_made prefix program items
unfolding module_made
module_seen prefix program items =
    let b = beginning (unmade prefix) program in
    ap (λ (x : Beginning). finished_module (parameters_of prefix (seen items)).next x.located (made_after (seen items) (parameters_of prefix (seen items)) x)) (beginning_seen (unmade prefix) program)
    ∙ ap (λ (names : Names). finished_module names.next b.located (made_after (seen items) names (seen_beginning b))) (parameters_of_seen prefix items)
    ∙ ap (finished_module (parameters_of prefix items).next b.located) (after_seen items (parameters_of prefix items) b)
