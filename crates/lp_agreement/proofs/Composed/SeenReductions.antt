-- Reductions and the methods of the machine don't depend on what can't be seen of their forms.
use Rattle.std.proofs.Common.{◌≡◌, ℕ, ◌+◌, ◌++◌, codes, if◌then◌else◌, List, [], ◌∷◌, length, Option, Some, None, option_map, slice_get, refl, ap, ◌∙◌}
use Rattle.lp_core.specs.declared.value.StateType.{StateType}
use Rattle.lp_core.specs.Tree.{Tree}
use Rattle.lp_form.specs.declared.part.Part.TheVariants as part
use Rattle.lp_view.specs.PartLists.{Form, is_a, hole_of, parts_of}
use Rattle.lp_maker.specs.Constructs.{take_slot}
use Rattle.lp_maker.specs.Making.{Making, call_named, parameters}
use Rattle.lp_maker.specs.Texts.{state_type_of}
use Rattle.lp_maker.specs.Slots.{Names}
use Rattle.lp_maker.specs.declared.methods.Methods.{Methods}
use Rattle.lp_bodies.specs.Arms.{Gathered, no_arms, with_header}
use Rattle.lp_bodies.specs.Lines.{lines_of}
use Rattle.lp_bodies.specs.MachineMethods.{Recovering, recovery_row, recovery_rows, recovering_of, with_recovery, with_recovery_of, symbol_number_of, field_row, field_rows, handed_on, with_method, next_number, after_location, after_state, after_index, after_action, after_error, after_eof, after_goto, after_symbol, after_expected, after_recovery, after_reduce, with_reduce_method, with_methods, methods_of}
use Rattle.lp_bodies.specs.Reductions.{work_of, reduce_line, Done, done_of, block_done, reduce_body, found_body, arm_call, reduce_arm, Arming, arming_of, is_arm, armed, reduce_row, reduce_rows, reduce_with, reduce_function, with_reduce, function_done, production_under, production_function, with_production_of, reduce_fn, with_reduce_fn, pop_function, vec_type}
use Rattle.lp_agreement.proofs.Composed.Seen.{IsBlind, header_seen, over_seen, parameters_seen, part_seen_at, vec_seen}
use Rattle.lp_agreement.proofs.Composed.Settled.{seen}

-- ---- lines
line_blind : IsBlind reduce_line
line_blind w [] = refl
line_blind w (e ∷ es) = refl

body_seen : (m : Making) (names : Names) (f : Form) → reduce_body m names (seen f) ≡ reduce_body m names f
body_seen m names f = ap (block_done (length names.known)) (over_seen reduce_line line_blind (work_of (lines_of names []) m) f)

found_seen : (m : Making) (names : Names) (body : Option Form) → found_body m names (option_map seen body) ≡ found_body m names body
found_seen m names None = refl
found_seen m names (Some body) = body_seen m names body

-- ---- the function of reductions
arm_seen : (m : Making) (names : Names) (row : Form) → reduce_arm m names (seen row) ≡ reduce_arm m names row
arm_seen m names [] = refl
arm_seen m names (e ∷ es) =
    ap (λ (d : Done). if is_a part.ReduceCallArm (e ∷ es) then done_of (arm_call m names (e ∷ es)) names m else d)
    (ap (found_body m names) (part_seen_at (e ∷ es) 0) ∙ found_seen m names (slice_get (parts_of (e ∷ es)) 0))

row_blind : IsBlind reduce_row
row_blind s [] = refl
row_blind s (e ∷ es) =
    let row = e ∷ es in
    ap (λ (d : Done). if is_arm row then arming_of (armed (hole_of 0 row) s.arms d) s.kind d.made else arming_of (with_header s.made.prefix (seen row) s.arms) (vec_type s.made.prefix (seen row)) s.made) (arm_seen s.made s.arms.names row)
    ∙ ap (λ (a : Gathered). if is_arm row then arming_of (armed (hole_of 0 row) s.arms (reduce_arm s.made s.arms.names row)) s.kind (reduce_arm s.made s.arms.names row).made else arming_of a (vec_type s.made.prefix (seen row)) s.made) (header_seen s.made.prefix row s.arms)
    ∙ ap (λ (k : Option StateType). if is_arm row then arming_of (armed (hole_of 0 row) s.arms (reduce_arm s.made s.arms.names row)) s.kind (reduce_arm s.made s.arms.names row).made else arming_of (with_header s.made.prefix row s.arms) k s.made) (vec_seen s.made.prefix row)

rows_seen : (m : Making) (f : Form) → reduce_rows m (seen f) ≡ reduce_rows m f
rows_seen m f = over_seen reduce_row row_blind (arming_of no_arms None m) f

pub reduce_seen : (m : Making) (f : Form) → reduce_function m (seen f) ≡ reduce_function m f
reduce_seen m f = ap (λ (a : Arming). reduce_with a.made a.kind a.arms) (rows_seen m f)

pub with_reduce_seen : (m : Making) (f : Form) → with_reduce (seen f) m ≡ with_reduce f m
with_reduce_seen m f = ap (λ (a : Arming). a.made) (rows_seen m f)

-- ---- the function of one production
under_seen : (m : Making) (header : Form) (body : Option Form) → production_under m (seen header) (option_map seen body) ≡ production_under m header body
under_seen m header body = ap (λ (n : Names). found_body m n (option_map seen body)) (parameters_seen m.prefix header) ∙ found_seen m (parameters m.prefix header) body

production_seen : (m : Making) (header body : Option Form) → production_function m (option_map seen header) (option_map seen body) ≡ production_function m header body
production_seen m None body = refl
production_seen m (Some header) body =
    ap (λ (n : Names). function_done n.next (production_under m (seen header) (option_map seen body))) (parameters_seen m.prefix header) ∙ ap (function_done (parameters m.prefix header).next) (under_seen m header body)

with_production_seen : (m : Making) (header body : Option Form) → with_production_of (option_map seen header) (option_map seen body) m ≡ with_production_of header body m
with_production_seen m None body = refl
with_production_seen m (Some header) body = ap (λ (d : Done). d.made) (under_seen m header body)

pub reduce_fn_seen : (m : Making) (f : Form) → reduce_fn m (seen f) ≡ reduce_fn m f
reduce_fn_seen m f =
    ap (λ (h : Option Form). production_function m h (slice_get (parts_of (seen f)) 1)) (part_seen_at f 0) ∙ ap (production_function m (option_map seen (slice_get (parts_of f) 0))) (part_seen_at f 1)
    ∙ production_seen m (slice_get (parts_of f) 0) (slice_get (parts_of f) 1)

pub with_reduce_fn_seen : (m : Making) (f : Form) → with_reduce_fn (seen f) m ≡ with_reduce_fn f m
with_reduce_fn_seen m f =
    ap (λ (h : Option Form). with_production_of h (slice_get (parts_of (seen f)) 1) m) (part_seen_at f 0) ∙ ap (λ (b : Option Form). with_production_of (option_map seen (slice_get (parts_of f) 0)) b m) (part_seen_at f 1)
    ∙ with_production_seen m (slice_get (parts_of f) 0) (slice_get (parts_of f) 1)

pub pop_seen : IsBlind pop_function
pop_seen m [] = refl
pop_seen m (e ∷ es) = refl

-- ---- the methods of the machine
recovery_blind : IsBlind recovery_row
recovery_blind s [] = refl
recovery_blind s (e ∷ es) = refl

recovery_seen : (m : Making) (f : Form) → recovery_rows m (seen f) ≡ recovery_rows m f
recovery_seen m f = over_seen recovery_row recovery_blind (recovering_of _ _ m) f

field_blind : (names : Names) → IsBlind (field_row names)
field_blind names args [] = refl
field_blind names args (e ∷ es) = refl

fields_seen : (names : Names) (f : Form) → field_rows names (seen f) ≡ field_rows names f
fields_seen names f = over_seen (field_row names) (field_blind names) [] f

expected_method_seen : (f : Form) (m : Making) → after_expected (seen f) m ≡ after_expected f m
expected_method_seen [] m = refl
expected_method_seen (e ∷ es) m = refl

recovery_method_seen : (f : Form) (m : Making) → after_recovery (seen f) m ≡ after_recovery f m
recovery_method_seen f m = ap (with_recovery (seen f)) (expected_method_seen f m) ∙ ap with_recovery_of (recovery_seen (after_expected f m) f)

abbrev reduced_by : ℕ → Making → List Tree → Making
reduced_by count m args = with_method (count + 4) (call_named (codes "reduce") (args ++ take_slot count ∷ take_slot (count + 1) ∷ take_slot (count + 2) ∷ take_slot (count + 3) ∷ []) m) m

reduce_method_seen : (f : Form) (names : Names) (count : ℕ) (m : Making) → after_reduce (seen f) names count m ≡ after_reduce f names count m
reduce_method_seen f names count m = ap (with_reduce_method (seen f) names count) (recovery_method_seen f m) ∙ ap (reduced_by count (after_recovery f m)) (fields_seen names f)

pub with_methods_seen : (f : Form) (names : Names) (count : ℕ) (m : Making) → with_methods (seen f) names count m ≡ with_methods f names count m
with_methods_seen f names count m = ap (handed_on (codes "simulate_reduce") 1) (reduce_method_seen f names count m)

-- their numbers, by what the last of them go by
abbrev methods_by : Form → Making → Recovering → Making → Making → Methods
methods_by form m recovering recovered reduced = record {
  state_type = state_type_of (hole_of 7 form);
  start_location = next_number m;
  start_state = next_number (after_location m);
  token_to_index = next_number (after_state form m);
  action = next_number (after_index form m);
  error_action = next_number (after_action form m);
  eof_action = next_number (after_error form m);
  goto = next_number (after_eof form m);
  token_to_symbol = next_number (after_goto form m);
  expected_tokens_from_states = next_number (after_symbol form m);
  uses_error_recovery = length recovering.made.functions;
  error_recovery_symbol = symbol_number_of recovering;
  reduce = next_number recovered;
  simulate_reduce = next_number reduced;
}

methods_by_seen : (f : Form) (m : Making) (r : Recovering) (a b : Making) → methods_by (seen f) m r a b ≡ methods_by f m r a b
methods_by_seen [] m r a b = refl
methods_by_seen (e ∷ es) m r a b = refl

pub methods_seen : (f : Form) (names : Names) (count : ℕ) (m : Making) → methods_of (seen f) names count m ≡ methods_of f names count m
methods_seen f names count m =
    let s = seen f in
    let recovering : recovery_rows (after_expected s m) s ≡ recovery_rows (after_expected f m) f = ap (λ (n : Making). recovery_rows n s) (expected_method_seen f m) ∙ recovery_seen (after_expected f m) f in
    ap (λ (r : Recovering). methods_by s m r (after_recovery s m) (after_reduce s names count m)) recovering
    ∙ ap (λ (n : Making). methods_by s m (recovery_rows (after_expected f m) f) n (after_reduce s names count m)) (recovery_method_seen f m)
    ∙ ap (methods_by s m (recovery_rows (after_expected f m) f) (after_recovery f m)) (reduce_method_seen f names count m)
    ∙ methods_by_seen f m (recovery_rows (after_expected f m) f) (after_recovery f m) (after_reduce f names count m)
