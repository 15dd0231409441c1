-- What the lines of a state's function make: texts and functions behind the others, variants, and nothing else.
use Rattle.std.proofs.Common.{ℕ, zero, suc, ◌+◌, List, [], ◌++◌, Option, Some, None, ap, ◌∙◌, append_assoc}
use Rattle.std.specs.Prelude.{length, slice_get}
use Rattle.lp_repr.specs.declared.repr.Grammar.{Grammar}
use Rattle.lp_core.specs.Store.{Program}
use Rattle.lp_form.specs.declared.part.Part.TheVariants as part
use Rattle.lp_view.specs.PartLists.{Form, is_a, hole_of, parts_of, over}
use Rattle.lp_maker.specs.Slots.{Names, after_slots}
use Rattle.lp_maker.specs.Making.{Making}
use Rattle.lp_bodies.specs.Lines.{lines_of}
use Rattle.lp_bodies.specs.Reductions.{Work, work_of}
use Rattle.lp_bodies.specs.Tables.{Reading, reading_of}
use Rattle.lp_ascent_bodies.specs.declared.ascent.Lines.{Lines as Shared}
use Rattle.lp_ascent_bodies.specs.AscentReductions.{is_bottom, with_start, with_lookahead_start, ascent_line, ascent_lines, ascent_reduce}
use Rattle.lp_ascent_bodies.specs.AscentArms.{Arming, arming_of, is_token, case_row, first_case, reduce_cases, lines_below, found_reduce, reduce_arm}
use Rattle.lp_ascent_bodies.specs.AscentErrors.{Chaining, links, no_links, with_end, other_cells, with_location, with_found_location, expected_error, error_names}
use Rattle.lp_ascent_bodies.specs.AscentGotos.{Going, no_gotos, going_row, goto_loop}
use Rattle.lp_ascent_bodies.specs.AscentStates.{Stating, is_line, is_shift, is_reduce, is_arm, arm_of, state_row}
use Rattle.lp_question_laws.proofs.Gotos.LinkGrows.{Extends, same, both, one_function, one_text, one_variant, either, over_extends}
use Rattle.lp_code_laws.proofs.Ends.Lists.{get_first}
use Rattle.lp_back_end_laws.proofs.Call.Linked.{IsIn}

-- ---- reductions
case_grows : (s : Reading) (row : Form) → Extends s.made (case_row s row).made
case_grows s row = either (λ (r : Reading). Extends s.made r.made) (is_token row) _ _ (one_text _ s.made) (either (λ (r : Reading). Extends s.made r.made) (is_a part.LastEnd row) _ _ (same s.made) (same s.made))

first_grows : (line : Form) (s : Reading) → Extends s.made (first_case line s).made
first_grows line s = either (λ (r : Reading). Extends s.made r.made) (is_a part.ReduceEnd line) _ _ (same s.made) (one_text _ s.made)

cases_grow : (line : Form) (s : Reading) → Extends s.made (reduce_cases line s).made
cases_grow line s = both s.made (first_case line s).made (reduce_cases line s).made (first_grows line s) (over_extends (λ r. r.made) case_row case_grows (first_case line s) (parts_of line))

bottom_grows : (m : Making) (line : Form) → Extends m (with_lookahead_start line m)
bottom_grows m line =
    let n = with_start m in
    both m n (with_lookahead_start line m) (one_function _ m) (either (Extends n) (is_a part.AscentFixed line) _ _ (one_function _ n) (either (Extends n) (is_a part.AscentOptional line) _ _ (one_function _ n) (same n)))

line_grows : (shared : Shared) (w : Work) (line : Form) → Extends w.made (ascent_line shared w line).made
line_grows shared w line = either (λ (u : Work). Extends w.made u.made) (is_bottom line) _ _ (bottom_grows w.made line) (same w.made)

reduction_grows : (shared : Shared) (m : Making) (names : Names) (form : Form) → Extends m (ascent_reduce shared m names form).made
reduction_grows shared m names form =
    let w = ascent_lines shared m names form in
    both m w.made (ascent_reduce shared m names form).made (over_extends (λ (w : Work). w.made) (ascent_line shared) (line_grows shared) (work_of (lines_of names []) m) (parts_of form)) (one_variant (hole_of 0 form) w.made)

found_grows : (shared : Shared) (m : Making) (names : Names) (o : Option Form) → Extends m (found_reduce shared m names o).made
found_grows shared m names None = same m
found_grows shared m names (Some form) = reduction_grows shared m names form

reduce_grows : (shared : Shared) (line : Form) (a : Arming) → Extends a.made (reduce_arm shared line a).made
reduce_grows shared line a =
    let s = reduce_cases line (reading_of a.arms a.made) in
    both a.made s.made (reduce_arm shared line a).made (cases_grow line (reading_of a.arms a.made)) (found_grows shared s.made a.names (lines_below line))

-- ---- errors
links_grow : (end n : ℕ) (s : Chaining) → Extends s.made (links end n s).made
links_grow end zero s = same s.made
links_grow end (suc n) s = (let t = links end n s in both s.made t.made (links end (suc n) s).made (links_grow end n s) (one_function _ t.made))

chain_grows : (m : Making) (names : Names) (form : Form) → Extends m (links (length m.functions) (length (other_cells names form)) (no_links (with_end m))).made
chain_grows m names form =
    let n = with_end m in
    let s = no_links n in
    both m s.made _ (both m n s.made (one_function _ m) (one_function _ n)) (links_grow (length m.functions) (length (other_cells names form)) s)

location_grows : (m : Making) (names : Names) (form : Form) → Extends m (with_location names form m)
location_grows m names form = either (Extends m) (is_a part.LocationFixed form) _ _ (same m) (either (Extends m) (is_a part.LocationChain form) _ _ (chain_grows m names form) (same m))

found_location_grows : (m : Making) (names : Names) (o : Option Form) → Extends m (with_found_location names o m)
found_location_grows m names None = same m
found_location_grows m names (Some form) = location_grows m names form

pub error_grows : (m : Making) (names : Names) (form : Form) → Extends m (expected_error m names form).made
error_grows m names form = found_location_grows m (error_names names) (slice_get (parts_of form) 0)

-- ---- gotos
going_grows : (shared : Shared) (token made : ℕ) (g : Going) (line : Form) → Extends g.made (going_row shared token made g line).made
going_grows shared token made g line =
    either (λ (h : Going). Extends g.made h.made) (is_a part.EmptyCheck line) _ _ (same g.made)
    (either (λ (h : Going). Extends g.made h.made) (is_a part.GotoArm line) _ _ (one_variant _ g.made) (either (λ (h : Going). Extends g.made h.made) (is_a part.GotoOther line) _ _ (same g.made) (same g.made)))

pub loop_grows : (shared : Shared) (m : Making) (names : Names) (form : Form) → Extends m (goto_loop shared m names form).made
loop_grows shared m names form = over_extends (λ (g : Going). g.made) (going_row shared names.next (names.next + 1)) (going_grows shared names.next (names.next + 1)) (no_gotos (after_slots 2 names) m) (parts_of form)

-- ---- lines
pub arm_grows : (shared : Shared) (line : Form) (a : Arming) → Extends a.made (arm_of shared line a).made
arm_grows shared line a =
    either (λ (b : Arming). Extends a.made b.made) (is_shift line) _ _ (one_text _ a.made)
    (either (λ (b : Arming). Extends a.made b.made) (is_reduce line) _ _ (reduce_grows shared line a) (error_grows a.made a.names line))

pub row_grows : (s : Stating) (line : Form) → Extends s.made (state_row s line).made
row_grows s line =
    either (λ (t : Stating). Extends s.made t.made) (is_line line) _ _ (either (λ (t : Stating). Extends s.made t.made) (is_a part.NextToken line) _ _ (same s.made) (same s.made))
    (either (λ (t : Stating). Extends s.made t.made) (is_arm line) _ _ (arm_grows s.shared line (arming_of s.lines.names s.arms s.made))
    (either (λ (t : Stating). Extends s.made t.made) (is_a part.GotoReturn line) _ _ (same s.made) (either (λ (t : Stating). Extends s.made t.made) (is_a part.GotoLoop line) _ _ (loop_grows s.shared s.made s.lines.names line) (same s.made))))

pub rows_grow : (s : Stating) (lines : List Form) → Extends s.made (over state_row s lines).made
rows_grow s lines = over_extends (λ (t : Stating). t.made) state_row row_grows s lines

-- ---- in a program
-- what was made before stands in it too
pub in_before : {g : Grammar} {p : Program} {variant : ℕ → ℕ} (m n : Making) → Extends m n → IsIn g p variant n → IsIn g p variant m
in_before m n e h = record {
  texts = (e.texts.0 ++ h.texts.0, h.texts.1 ∙ ap (λ ts. ts ++ h.texts.0) e.texts.1 ∙ append_assoc m.texts e.texts.0 h.texts.0);
  functions = λ i f at. h.functions i f (ap (λ fs. slice_get fs i) e.functions.1 ∙ get_first m.functions e.functions.0 i at);
  variants = λ i k name at is. h.variants i k name at (e.variants _ k is);
}
