-- What the making of a function of recursive ascent adds; and so that of any function of a module.
use Rattle.std.proofs.Common.{◌≡◌, ℕ, zero, suc, ◌+◌, ◌||◌, Bool, true, false, [], length, Option, Some, None, refl}
use Rattle.std.specs.Prelude.{slice_get, if◌then◌else◌}
use Rattle.lp_ascent_bodies.specs.declared.ascent.Lines.{Lines as Shared}
use Rattle.lp_ascent_bodies.specs.AscentArms.{Arming, arming_of, case_row, first_case, found_reduce, lines_below, reduce_cases, is_token}
use Rattle.lp_ascent_bodies.specs.AscentErrors.{error_names, links, no_links, other_cells, with_chain, with_end, with_found_location, Chaining}
use Rattle.lp_ascent_bodies.specs.AscentGotos.{Going, going_row, no_gotos}
use Rattle.lp_ascent_bodies.specs.AscentReductions.{ascent_line, ascent_lines, ascent_reduce, is_bottom, with_bottom, with_lookahead_start, with_start}
use Rattle.lp_ascent_bodies.specs.AscentStates.{Stating, after_row, arm_of, is_arm, is_line, is_reduce, is_shift, no_lines, state_row, with_headed, with_state_fn}
use Rattle.lp_form.specs.declared.part.Part.TheVariants as part
use Rattle.lp_view.specs.PartLists.{Form, is_a, hole_of, parts_of}
use Rattle.lp_maker.specs.Making.{Making, parameters, with_variant}
use Rattle.lp_maker.specs.Patterns.{form_of}
use Rattle.lp_maker.specs.Slots.{Names, after_slots}
use Rattle.lp_bodies.specs.Lines.{lines_of}
use Rattle.lp_bodies.specs.Reductions.{Work, work_of, part_function}
use Rattle.lp_bodies.specs.Tables.{Reading, reading_of}
use Rattle.lp_run.specs.Promised.{is_lookup, is_trial, is_reduction}
use Rattle.lp_run.specs.Functions.{Made, ascent_made, function_made, lookup_made, reduction_made, trial_made}
use Rattle.lp_question_laws.proofs.Gotos.LinkGrows.{Extends, both, either, is_of_tables, made_extends, one_function, one_text, one_variant, over_extends, same}

-- ---- arms
case_extends : (s : Reading) (row : Form) → Extends s.made (case_row s row).made
case_extends s row =
    let P : Reading → Type 0 = λ (t : Reading). Extends s.made t.made in
    either P (is_token row) _ _ (one_text (form_of s.made.prefix (hole_of 0 row)) s.made) (either P (is_a part.LastEnd row) _ _ (same s.made) (same s.made))

cases_extend : (line : Form) (s : Reading) → Extends s.made (reduce_cases line s).made
cases_extend line s =
    let first = first_case line s in
    let here : Extends s.made first.made = either (λ (t : Reading). Extends s.made t.made) (is_a part.ReduceEnd line) _ _ (same s.made) (one_text (form_of s.made.prefix (hole_of 0 line)) s.made) in
    both s.made first.made (reduce_cases line s).made here (over_extends (λ (t : Reading). t.made) case_row case_extends first (parts_of line))

bottom_extends : (line : Form) (m : Making) → Extends m (with_bottom line m)
bottom_extends line m =
    either (Extends m) (is_a part.AscentFixed line) _ _ (one_function (Some (part_function 2)) m) (either (Extends m) (is_a part.AscentOptional line) _ _ (one_function _ m) (same m))

line_extends : (shared : Shared) (w : Work) (line : Form) → Extends w.made (ascent_line shared w line).made
line_extends shared w line =
    either (λ (v : Work). Extends w.made v.made) (is_bottom line) _ _ (both w.made (with_start w.made) (with_lookahead_start line w.made) (one_function _ w.made) (bottom_extends line (with_start w.made))) (same w.made)

reduce_extends : (shared : Shared) (m : Making) (names : Names) (form : Form) → Extends m (ascent_reduce shared m names form).made
reduce_extends shared m names form =
    let w = ascent_lines shared m names form in
    both m w.made (with_variant (hole_of 0 form) w.made) (over_extends (λ (v : Work). v.made) (ascent_line shared) (line_extends shared) (work_of (lines_of names []) m) (parts_of form)) (one_variant (hole_of 0 form) w.made)

found_extends : (shared : Shared) (m : Making) (names : Names) (o : Option Form) → Extends m (found_reduce shared m names o).made
found_extends shared m names None = same m
found_extends shared m names (Some form) = reduce_extends shared m names form

-- ---- errors
links_extend : (end n : ℕ) (s : Chaining) → Extends s.made (links end n s).made
links_extend end zero s = same s.made
links_extend end (suc n) s = both s.made (links end n s).made (links end (suc n) s).made (links_extend end n s) (one_function _ (links end n s).made)

chain_extends : (names : Names) (form : Form) (m : Making) → Extends m (with_chain names form m)
chain_extends names form m =
    let first = with_end m in
    let none = no_links first in
    both m first (with_chain names form m) (one_function _ m) (both first none.made (with_chain names form m) (one_function _ first) (links_extend (length m.functions) (length (other_cells names form)) none))

location_extends : (names : Names) (o : Option Form) (m : Making) → Extends m (with_found_location names o m)
location_extends names None m = same m
location_extends names (Some form) m = either (Extends m) (is_a part.LocationFixed form) _ _ (same m) (either (Extends m) (is_a part.LocationChain form) _ _ (chain_extends names form m) (same m))

-- ---- rows of a state
arm_extends : (shared : Shared) (line : Form) (a : Arming) → Extends a.made (arm_of shared line a).made
arm_extends shared line a =
    let P : Arming → Type 0 = λ (b : Arming). Extends a.made b.made in
    let s = reading_of a.arms a.made in
    let tokens = reduce_cases line s in
    either P (is_shift line) _ _ (one_text (form_of a.made.prefix (hole_of 0 line)) a.made)
    (either P (is_reduce line) _ _ (both a.made tokens.made (found_reduce shared tokens.made a.names (lines_below line)).made (cases_extend line s) (found_extends shared tokens.made a.names (lines_below line)))
    (location_extends (error_names a.names) (slice_get (parts_of line) 0) a.made))

going_extends : (shared : Shared) (token made : ℕ) (g : Going) (line : Form) → Extends g.made (going_row shared token made g line).made
going_extends shared token made g line =
    let P : Going → Type 0 = λ (h : Going). Extends g.made h.made in
    either P (is_a part.EmptyCheck line) _ _ (same g.made) (either P (is_a part.GotoArm line) _ _ (one_variant (hole_of 0 line) g.made) (either P (is_a part.GotoOther line) _ _ (same g.made) (same g.made)))

after_extends : (s : Stating) (line : Form) → Extends s.made (after_row line s).made
after_extends s line =
    let P : Stating → Type 0 = λ (t : Stating). Extends s.made t.made in
    let next = s.lines.names.next in
    either P (is_a part.GotoReturn line) _ _ (same s.made)
    (either P (is_a part.GotoLoop line) _ _ (over_extends (λ (g : Going). g.made) (going_row s.shared next (next + 1)) (going_extends s.shared next (next + 1)) (no_gotos (after_slots 2 s.lines.names) s.made) (parts_of line)) (same s.made))

row_extends : (s : Stating) (line : Form) → Extends s.made (state_row s line).made
row_extends s line =
    let P : Stating → Type 0 = λ (t : Stating). Extends s.made t.made in
    either P (is_line line) _ _ (either P (is_a part.NextToken line) _ _ (same s.made) (same s.made))
    (either P (is_arm line) _ _ (arm_extends s.shared line (arming_of s.lines.names s.arms s.made)) (after_extends s line))

pub state_extends : (m : Making) (form : Form) → Extends m (with_state_fn form m)
state_extends m form = by (slice_get (parts_of form) 0)
  where
    by : (o : Option Form) → Extends m (with_headed form o m)
    by None = same m
    by (Some header) = over_extends (λ (s : Stating). s.made) state_row row_extends (no_lines header (parameters m.prefix header) m) (parts_of form)

pub ascent_extends : (m : Making) (form : Form) → Extends m (ascent_made m form).making
ascent_extends m form =
    let P : Made → Type 0 = λ (d : Made). Extends m d.making in
    either P (is_a part.StateFn form) _ _ (state_extends m form) (either P (is_a part.AscentSimulate form) _ _ (same m) (either P (is_a part.AscentAccepts form) _ _ (same m) (one_function _ m)))

-- ---- any function
pub any_extends : (m : Making) (form : Form) → Extends m (function_made m form).making
unfolding function_made
any_extends m form = by (is_of_tables form) refl
  where
    of_ascent : (a b c : Bool) → (a || (b || c)) ≡ false → Extends m (if a then lookup_made m form else (if b then trial_made m form else (if c then reduction_made m form else ascent_made m form))).making
    of_ascent true b c h = absurd cc
    of_ascent false true c h = absurd cc
    of_ascent false false true h = absurd cc
    of_ascent false false false h = ascent_extends m form

    by : (t : Bool) → is_of_tables form ≡ t → Extends m (function_made m form).making
    by true h = made_extends m form h
    by false h = of_ascent (is_lookup form) (is_trial form) (is_reduction form) h
