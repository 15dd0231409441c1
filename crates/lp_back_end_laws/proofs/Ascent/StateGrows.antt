-- What is made with the function of a state.
use Rattle.std.proofs.Common.{ℕ, zero, suc, ◌+◌, List, [], length, Option, Some, None}
use Rattle.std.specs.Prelude.{slice_get}
use Rattle.lp_core.specs.Tree.{Tree}
use Rattle.lp_form.specs.declared.part.Part.TheVariants as part
use Rattle.lp_view.specs.PartLists.{Form, is_a, hole_of, parts_of}
use Rattle.lp_maker.specs.Slots.{Names, after_slots}
use Rattle.lp_maker.specs.Making.{Making, with_variant, parameters}
use Rattle.lp_bodies.specs.Lines.{lines_of}
use Rattle.lp_bodies.specs.Reductions.{Work, work_of}
use Rattle.lp_bodies.specs.Tables.{Reading, reading_of}
use Rattle.lp_ascent_bodies.specs.declared.ascent.Lines.{Lines as Shared}
use Rattle.lp_ascent_bodies.specs.AscentArms.{Arming, arming_of, is_token, case_row, first_case, reduce_cases, lines_below, found_reduce, shift_arm, reduce_arm}
use Rattle.lp_ascent_bodies.specs.AscentErrors.{Chaining, links, no_links, chained, other_cells, with_end, with_location, with_found_location, error_names, expected_error}
use Rattle.lp_ascent_bodies.specs.AscentGotos.{Going, no_gotos, going_row, goto_loop}
use Rattle.lp_ascent_bodies.specs.AscentReductions.{with_start, with_bottom, with_lookahead_start, is_bottom, ascent_line, ascent_lines, ascent_reduce}
use Rattle.lp_ascent_bodies.specs.AscentStates.{Stating, no_lines, is_line, is_shift, is_reduce, is_arm, arm_of, after_row, state_row, with_headed, with_state_fn}
use Rattle.lp_question_laws.proofs.Gotos.LinkGrows.{either}
use Rattle.lp_back_end_laws.proofs.Ascent.Grows.{Adds, none, and_then, a_function, a_text, a_variant, over_adds}

-- ---- reductions
bottom_adds : (line : Form) (m : Making) → Adds m (with_bottom line m)
bottom_adds line m = either (Adds m) (is_a part.AscentFixed line) _ _ (a_function _ m) (either (Adds m) (is_a part.AscentOptional line) _ _ (a_function _ m) (none m))

start_adds : (line : Form) (m : Making) → Adds m (with_lookahead_start line m)
start_adds line m = and_then m (with_start m) (with_lookahead_start line m) (a_function _ m) (bottom_adds line (with_start m))

line_adds : (shared : Shared) (w : Work) (line : Form) → Adds w.made (ascent_line shared w line).made
line_adds shared w line = either (λ (v : Work). Adds w.made v.made) (is_bottom line) _ _ (start_adds line w.made) (none w.made)

reduce_adds : (shared : Shared) (m : Making) (names : Names) (form : Form) → Adds m (ascent_reduce shared m names form).made
reduce_adds shared m names form =
    let w = ascent_lines shared m names form in
    and_then m w.made (with_variant (hole_of 0 form) w.made) (over_adds (λ (v : Work). v.made) (ascent_line shared) (line_adds shared) (work_of (lines_of names []) m) (parts_of form)) (a_variant (hole_of 0 form) w.made)

found_adds : (shared : Shared) (m : Making) (names : Names) (o : Option Form) → Adds m (found_reduce shared m names o).made
found_adds shared m names None = none m
found_adds shared m names (Some form) = reduce_adds shared m names form

-- ---- tests
case_adds : (s : Reading) (row : Form) → Adds s.made (case_row s row).made
case_adds s row =
    let P = λ (r : Reading). Adds s.made r.made in
    either P (is_token row) _ _ (a_text _ s.made) (either P (is_a part.LastEnd row) _ _ (none s.made) (none s.made))

first_adds : (line : Form) (s : Reading) → Adds s.made (first_case line s).made
first_adds line s = either (λ (r : Reading). Adds s.made r.made) (is_a part.ReduceEnd line) _ _ (none s.made) (a_text _ s.made)

cases_add : (line : Form) (s : Reading) → Adds s.made (reduce_cases line s).made
cases_add line s =
    let t = first_case line s in
    and_then s.made t.made (reduce_cases line s).made (first_adds line s) (over_adds (λ (r : Reading). r.made) case_row case_adds t (parts_of line))

pub reduce_arm_adds : (shared : Shared) (line : Form) (a : Arming) → Adds a.made (reduce_arm shared line a).made
reduce_arm_adds shared line a =
    let s = reduce_cases line (reading_of a.arms a.made) in
    and_then a.made s.made (reduce_arm shared line a).made (cases_add line (reading_of a.arms a.made)) (found_adds shared s.made a.names (lines_below line))

pub shift_arm_adds : (shared : Shared) (line : Form) (a : Arming) → Adds a.made (shift_arm shared line a).made
shift_arm_adds shared line a = a_text _ a.made

-- ---- errors
links_add : (end n : ℕ) (s : Chaining) → Adds s.made (links end n s).made
links_add end zero s = none s.made
links_add end (suc n) s = and_then s.made (links end n s).made (links end (suc n) s).made (links_add end n s) (a_function _ (links end n s).made)

chained_adds : (m : Making) (others : List Tree) → Adds m (chained m others).made
chained_adds m others =
    let n = with_end m in
    let s = no_links n in
    and_then m n (chained m others).made (a_function _ m) (and_then n s.made (chained m others).made (a_function _ n) (links_add (length m.functions) (length others) s))

location_adds : (names : Names) (form : Form) (m : Making) → Adds m (with_location names form m)
location_adds names form m = either (Adds m) (is_a part.LocationFixed form) _ _ (none m) (either (Adds m) (is_a part.LocationChain form) _ _ (chained_adds m (other_cells names form)) (none m))

place_adds : (names : Names) (o : Option Form) (m : Making) → Adds m (with_found_location names o m)
place_adds names None m = none m
place_adds names (Some form) m = location_adds names form m

pub error_adds : (m : Making) (names : Names) (form : Form) → Adds m (expected_error m names form).made
error_adds m names form = place_adds (error_names names) (slice_get (parts_of form) 0) m

-- ---- gotos
going_adds : (shared : Shared) (token made : ℕ) (s : Going) (line : Form) → Adds s.made (going_row shared token made s line).made
going_adds shared token made s line =
    let P = λ (r : Going). Adds s.made r.made in
    either P (is_a part.EmptyCheck line) _ _ (none s.made) (either P (is_a part.GotoArm line) _ _ (a_variant (hole_of 0 line) s.made) (either P (is_a part.GotoOther line) _ _ (none s.made) (none s.made)))

pub loop_adds : (shared : Shared) (m : Making) (names : Names) (form : Form) → Adds m (goto_loop shared m names form).made
loop_adds shared m names form =
    over_adds (λ (r : Going). r.made) (going_row shared names.next (names.next + 1)) (going_adds shared names.next (names.next + 1)) (no_gotos (after_slots 2 names) m) (parts_of form)

-- ---- the rows of a state
arm_adds : (shared : Shared) (line : Form) (a : Arming) → Adds a.made (arm_of shared line a).made
arm_adds shared line a =
    let P = λ (r : Arming). Adds a.made r.made in
    either P (is_shift line) _ _ (shift_arm_adds shared line a) (either P (is_reduce line) _ _ (reduce_arm_adds shared line a) (error_adds a.made a.names line))

after_adds : (line : Form) (s : Stating) → Adds s.made (after_row line s).made
after_adds line s =
    let P = λ (r : Stating). Adds s.made r.made in
    either P (is_a part.GotoReturn line) _ _ (none s.made) (either P (is_a part.GotoLoop line) _ _ (loop_adds s.shared s.made s.lines.names line) (none s.made))

pub row_adds : (s : Stating) (line : Form) → Adds s.made (state_row s line).made
row_adds s line =
    let P = λ (r : Stating). Adds s.made r.made in
    either P (is_line line) _ _ (either P (is_a part.NextToken line) _ _ (none s.made) (none s.made)) (either P (is_arm line) _ _ (arm_adds s.shared line (arming_of s.lines.names s.arms s.made)) (after_adds line s))

-- ---- the function
headed_adds : (form : Form) (o : Option Form) (m : Making) → Adds m (with_headed form o m)
headed_adds form None m = none m
headed_adds form (Some header) m = over_adds (λ (s : Stating). s.made) state_row row_adds (no_lines header (parameters m.prefix header) m) (parts_of form)

pub state_adds : (form : Form) (m : Making) → Adds m (with_state_fn form m)
state_adds form m = headed_adds form (slice_get (parts_of form) 0) m
