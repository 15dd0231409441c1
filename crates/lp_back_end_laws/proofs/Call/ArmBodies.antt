-- The arms of a state function, form by form: each has its body, over names that know what those at the match do.
use Rattle.std.proofs.Common.{◌≡◌, ℕ, ◌≤◌, Bool, true, false, List, [], ◌∷◌, ◌++◌, length, take, codes, Option, Some, None, refl, ap, ◌∙◌, arith}
use Rattle.std.specs.Prelude.{slice_get, if◌then◌else◌}
use Rattle.lp_core.specs.Tree.{Tree}
use Rattle.lp_form.specs.declared.part.Part.TheVariants as part
use Rattle.lp_view.specs.PartLists.{Form, is_a, hole_of, parts_of, over}
use Rattle.lp_maker.specs.Slots.{Names, after_slots, bound, cut_to}
use Rattle.lp_maker.specs.Constructs.{one_after_another}
use Rattle.lp_maker.specs.Making.{Making, variant_tag}
use Rattle.lp_bodies.specs.Lines.{Lines, lines_of, with_let}
use Rattle.lp_bodies.specs.Tables.{Reading, reading_of}
use Rattle.lp_bodies.specs.Reductions.{Work, work_of, span_popped}
use Rattle.lp_ascent_bodies.specs.declared.ascent.Lines.{Lines as Shared}
use Rattle.lp_ascent_bodies.specs.AscentReductions.{take_line, is_bottom, is_ascent_call, bottom_line, with_lookahead_start, ascent_value, quiet_line, ascent_line, ascent_lines, return_line, returns, made_line, ascent_reduce}
use Rattle.lp_ascent_bodies.specs.AscentMoves.{take_row, take_rows, push_state, call_state, transition, found_transition}
use Rattle.lp_ascent_bodies.specs.AscentArms.{Arming, shift_lines, shift_arm, token_parts, symbol_line, is_token, token_case, end_case, case_row, first_case, reduce_cases, lines_below, found_reduce, reduce_arm}
use Rattle.lp_ascent_bodies.specs.AscentGotos.{arm_lines, goto_arm}
use Rattle.lp_code_laws.proofs.Ends.Lists.{take_first}
use Rattle.lp_code_laws.specs.Slots.Shows.{Extends}
use Rattle.lp_code_laws.proofs.Slots.Names.{extends_none, extends_both, extends_after, extends_bound}
use Rattle.lp_back_end_laws.proofs.Call.GotoArms.{goto_symbol}

-- a block ends: its names are those before it, with more slots given out
pub record IsCut (names later : Names) : Type 0 where
  pub known : later.known ≡ names.known
  pub next : names.next ≤ later.next

pub cut_back : {names later : Names} → Extends names later → IsCut names (cut_to (length names.known) later)
cut_back {names} {later} h = record { known = ap (take (length names.known)) h.known ∙ take_first names.known h.extra; next = h.next }

-- ---- the lines of a move extend the names
take_extends : (form : Form) (l : Lines) → Extends l.names (take_row l form).names
take_extends form l = by (is_a part.TakeLine form)
  where
    by : (b : Bool) → Extends l.names (if b then take_line form l else l).names
    by true = extends_bound _ l.names
    by false = extends_none l.names

takes_extend : (forms : List Form) (l : Lines) → Extends l.names (over take_row l forms).names
takes_extend [] l = extends_none l.names
takes_extend (form ∷ forms) l = extends_both (take_extends form l) (takes_extend forms (take_row l form))

return_extends : (shared : Shared) (b : Bool) (l : Lines) → Extends l.names (return_line shared b l).names
return_extends shared true l = extends_none l.names
return_extends shared false l = extends_none l.names

pub transition_extends : (made : Making) (shared : Shared) (form : Form) (l : Lines) → Extends l.names (transition made shared form l).names
transition_extends made shared form l =
    let taken = take_rows form l in
    let pushed = push_state shared form taken in
    let called = call_state made shared form pushed in
    extends_both (takes_extend (parts_of form) l) (extends_both (extends_after 1 taken.names) (return_extends shared (returns form) called))

pub found_extends : (made : Making) (shared : Shared) (o : Option Form) (l : Lines) → Extends l.names (found_transition made shared o l).names
found_extends made shared None l = extends_none l.names
found_extends made shared (Some form) l = transition_extends made shared form l

-- ---- a shift's arm
pub shift_extends : (made : Making) (shared : Shared) (names : Names) (line : Form) → Extends names (shift_lines made shared names line).names
shift_extends made shared names line =
    let l = symbol_line made.prefix names.next line (token_parts shared (lines_of names [])) in
    extends_both (extends_both (extends_after 3 names) (extends_bound _ (after_slots 3 names))) (found_extends made shared (slice_get (parts_of line) 0) l)

-- one arm more: its body stands behind those before it
pub record Armed (a after : Arming) (body : Tree) : Type 0 where
  pub cut : IsCut a.names after.names
  pub bodies : after.arms.bodies ≡ a.arms.bodies ++ body ∷ []

pub shift_armed : (shared : Shared) (line : Form) (a : Arming) → Armed a (shift_arm shared line a) (one_after_another (shift_lines a.made shared a.names line).parts)
shift_armed shared line a = record { cut = cut_back (shift_extends a.made shared a.names line); bodies = refl }

-- ---- a goto's arm
pub goto_extends : (m : Making) (shared : Shared) (made : ℕ) (names : Names) (line : Form) → Extends names (arm_lines m shared made names line).names
goto_extends m shared made names line =
    let l = goto_symbol made names line in
    extends_both (extends_bound _ names) (found_extends m shared (slice_get (parts_of line) 0) l)

pub goto_armed : (shared : Shared) (made : ℕ) (line : Form) (a : Arming) → Armed a (goto_arm shared made line a) (one_after_another (arm_lines a.made shared made a.names line).parts)
goto_armed shared made line a = record { cut = cut_back (goto_extends a.made shared made a.names line); bodies = refl }

-- ---- a reduction's arm
-- tests add no body
case_bodies : (s : Reading) (row : Form) → (case_row s row).arms.bodies ≡ s.arms.bodies
case_bodies s row = by (is_token row) (is_a part.LastEnd row)
  where
    by : (a b : Bool) → (if a then token_case (hole_of 0 row) s else (if b then end_case s else s)).arms.bodies ≡ s.arms.bodies
    by true b = refl
    by false true = refl
    by false false = refl

cases_bodies : (rows : List Form) (s : Reading) → (over case_row s rows).arms.bodies ≡ s.arms.bodies
cases_bodies [] s = refl
cases_bodies (row ∷ rows) s = cases_bodies rows (case_row s row) ∙ case_bodies s row

first_bodies : (line : Form) (s : Reading) → (first_case line s).arms.bodies ≡ s.arms.bodies
first_bodies line s = by (is_a part.ReduceEnd line)
  where
    by : (b : Bool) → (if b then end_case s else token_case (hole_of 0 line) s).arms.bodies ≡ s.arms.bodies
    by true = refl
    by false = refl

pub reduce_bodies : (line : Form) (s : Reading) → (reduce_cases line s).arms.bodies ≡ s.arms.bodies
reduce_bodies line s = cases_bodies (parts_of line) (first_case line s) ∙ first_bodies line s

-- lines of a reduction extend the names
quiet_extends : (made : Making) (line : Form) (l : Lines) → Extends l.names (quiet_line made line l).names
quiet_extends made line l = by (is_a part.TakeLine line) (is_a part.AscentPopped line) (is_ascent_call line) (is_a part.AscentCall line)
  where
    called : (b : Bool) → Extends l.names (with_let (codes "~nt") (ascent_value made line l.names) (lines_of (if b then l.names else after_slots 1 l.names) l.parts)).names
    called true = extends_bound _ l.names
    called false = extends_both (extends_after 1 l.names) (extends_bound _ (after_slots 1 l.names))

    by : (a b c d : Bool) → Extends l.names (if a then take_line line l else (if b then span_popped line l else (if c then with_let (codes "~nt") (ascent_value made line l.names) (lines_of (if d then l.names else after_slots 1 l.names) l.parts) else l))).names
    by true b c d = extends_bound _ l.names
    by false true c d = extends_both (extends_bound (codes "~start") l.names) (extends_bound (codes "~end") (bound (codes "~start") l.names))
    by false false true d = called d
    by false false false d = extends_none l.names

line_extends : (shared : Shared) (w : Work) (line : Form) → Extends w.lines.names (ascent_line shared w line).lines.names
line_extends shared w line = by (is_bottom line)
  where
    by : (b : Bool) → Extends w.lines.names (if b then work_of (bottom_line w.made shared line w.lines) (with_lookahead_start line w.made) else work_of (quiet_line w.made line w.lines) w.made).lines.names
    by true =
        let one = after_slots 1 w.lines.names in
        extends_both (extends_after 1 w.lines.names) (extends_both (extends_bound (codes "~start") one) (extends_bound (codes "~end") (bound (codes "~start") one)))
    by false = quiet_extends w.made line w.lines

lines_extend : (shared : Shared) (lines : List Form) (w : Work) → Extends w.lines.names (over (ascent_line shared) w lines).lines.names
lines_extend shared [] w = extends_none w.lines.names
lines_extend shared (line ∷ lines) w = extends_both (line_extends shared w line) (lines_extend shared lines (ascent_line shared w line))

pub reduce_extends : (shared : Shared) (made : Making) (names : Names) (form : Form) → Extends names (ascent_lines shared made names form).lines.names
reduce_extends shared made names form = lines_extend shared (parts_of form) (work_of (lines_of names []) made)

reduce_cut : (shared : Shared) (made : Making) (names : Names) (form : Form) → IsCut names (ascent_reduce shared made names form).names
reduce_cut shared made names form =
    let w = ascent_lines shared made names form in
    cut_back (extends_both (reduce_extends shared made names form) (return_extends shared (returns form) (made_line shared (variant_tag (hole_of 0 form) w.made) w.lines)))

found_cut : (shared : Shared) (made : Making) (names : Names) (o : Option Form) → IsCut names (found_reduce shared made names o).names
found_cut shared made names None = record { known = refl; next = omega arith }
found_cut shared made names (Some form) = reduce_cut shared made names form

pub reduce_armed : (shared : Shared) (line : Form) (a : Arming) → Armed a (reduce_arm shared line a) (found_reduce shared (reduce_cases line (reading_of a.arms a.made)).made a.names (lines_below line)).value
reduce_armed shared line a =
    let s = reduce_cases line (reading_of a.arms a.made) in
    let d = found_reduce shared s.made a.names (lines_below line) in
    record { cut = found_cut shared s.made a.names (lines_below line); bodies = ap (λ (bs : List Tree). bs ++ d.value ∷ []) (reduce_bodies line (reading_of a.arms a.made)) }
