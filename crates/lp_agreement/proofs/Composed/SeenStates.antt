-- The functions of recursive ascent don't depend on what can't be seen of their forms: those of states, of trials, and that of the start.
use Rattle.std.proofs.Common.{◌≡◌, [], ◌∷◌, if◌then◌else◌, Option, Some, None, option_map, slice_get, refl, ap, ◌∙◌}
use Rattle.lp_core.specs.declared.value.StateType.{StateType}
use Rattle.lp_form.specs.declared.part.Part.TheVariants as part
use Rattle.lp_view.specs.PartLists.{Form, is_a, parts_of}
use Rattle.lp_maker.specs.Constructs.{read, stuck}
use Rattle.lp_maker.specs.Making.{Making, parameters}
use Rattle.lp_maker.specs.Slots.{Names}
use Rattle.lp_bodies.specs.Arms.{Gathered, no_arms}
use Rattle.lp_bodies.specs.Reductions.{Done, function_done}
use Rattle.lp_bodies.specs.Source.{function}
use Rattle.lp_bodies.specs.Tables.{choice_at}
use Rattle.lp_ascent_bodies.specs.declared.ascent.Lines.{Lines as Shared}
use Rattle.lp_ascent_bodies.specs.AscentArms.{Arming, arming_of, done_arm, reduce_arm, shift_arm}
use Rattle.lp_ascent_bodies.specs.AscentErrors.{expected_error}
use Rattle.lp_ascent_bodies.specs.AscentReductions.{give_made}
use Rattle.lp_ascent_bodies.specs.AscentStarts.{start}
use Rattle.lp_ascent_bodies.specs.AscentStates.{Stating, after_row, arm_of, arm_row, headed, is_arm, is_line, is_reduce, is_shift, line_row, no_lines, state_body, state_done, state_fn, state_row, state_rows, state_under, with_after, with_arming, with_headed, with_state_fn}
use Rattle.lp_ascent_bodies.specs.AscentTrials.{ascent_accepts, ascent_row, ascent_simulate}
use Rattle.lp_agreement.proofs.Composed.Seen.{IsBlind, over_seen, parameters_seen, part_seen_at, vec_seen}
use Rattle.lp_agreement.proofs.Composed.SeenAscentArms.{expected_error_seen, reduce_arm_seen, shift_arm_seen}
use Rattle.lp_agreement.proofs.Composed.SeenGotos.{goto_loop_seen}
use Rattle.lp_agreement.proofs.Composed.Settled.{seen}

-- ---- the lines of a state
line_row_seen : (f : Form) (s : Stating) → line_row (seen f) s ≡ line_row f s
line_row_seen [] s = refl
line_row_seen (e ∷ es) s = refl

arm_of_seen : (shared : Shared) (f : Form) (a : Arming) → arm_of shared (seen f) a ≡ arm_of shared f a
arm_of_seen shared [] a = refl
arm_of_seen shared (e ∷ es) a =
    let line = e ∷ es in
    ap (λ (x : Arming). if is_shift line then x else (if is_reduce line then reduce_arm shared (seen line) a else done_arm a.arms (expected_error a.made a.names (seen line)))) (shift_arm_seen shared line a)
    ∙ ap (λ (x : Arming). if is_shift line then shift_arm shared line a else (if is_reduce line then x else done_arm a.arms (expected_error a.made a.names (seen line)))) (reduce_arm_seen shared line a)
    ∙ ap (λ (d : Done). if is_shift line then shift_arm shared line a else (if is_reduce line then reduce_arm shared line a else done_arm a.arms d)) (expected_error_seen a.made a.names line)

arm_row_seen : (f : Form) (s : Stating) → arm_row (seen f) s ≡ arm_row f s
arm_row_seen f s = ap (with_arming s) (arm_of_seen s.shared f (arming_of s.lines.names s.arms s.made))

after_row_seen : (f : Form) (s : Stating) → after_row (seen f) s ≡ after_row f s
after_row_seen [] s = refl
after_row_seen (e ∷ es) s =
    let line = e ∷ es in
    ap (λ (d : Done). if is_a part.GotoReturn line then record s { after = Some (give_made s.shared) } else (if is_a part.GotoLoop line then with_after s d else s)) (goto_loop_seen s.shared s.made s.lines.names line)

row_blind : IsBlind state_row
row_blind s [] = refl
row_blind s (e ∷ es) =
    let line = e ∷ es in
    ap (λ (x : Stating). if is_line line then x else (if is_arm line then arm_row (seen line) s else after_row (seen line) s)) (line_row_seen line s)
    ∙ ap (λ (x : Stating). if is_line line then line_row line s else (if is_arm line then x else after_row (seen line) s)) (arm_row_seen line s)
    ∙ ap (λ (x : Stating). if is_line line then line_row line s else (if is_arm line then arm_row line s else x)) (after_row_seen line s)

rows_seen : (f : Form) (s : Stating) → state_rows (seen f) s ≡ state_rows f s
rows_seen f s = over_seen state_row row_blind s f

-- ---- under a header
-- before the first line, where the list of states has this type
abbrev lines_with : Names → Making → Option StateType → Stating
lines_with names m kind = record (no_lines [] names m) { shared = record (no_lines [] names m).shared { kind = kind } }

no_lines_seen : (header : Form) (names : Names) (m : Making) → no_lines (seen header) names m ≡ no_lines header names m
no_lines_seen header names m = ap (lines_with names m) (vec_seen m.prefix header)

body_seen : (header f : Form) (m : Making) (names : Names) → state_body (seen header) (seen f) m names ≡ state_body header f m names
body_seen header f m names = ap (λ (s : Stating). state_done (state_rows (seen f) s)) (no_lines_seen header names m) ∙ ap state_done (rows_seen f (no_lines header names m))

under_seen : (m : Making) (header f : Form) → state_under m (seen header) (seen f) ≡ state_under m header f
under_seen m header f = ap (state_body (seen header) (seen f) m) (parameters_seen m.prefix header) ∙ body_seen header f m (parameters m.prefix header)

headed_seen : (m : Making) (f : Form) (o : Option Form) → headed m (seen f) (option_map seen o) ≡ headed m f o
headed_seen m f None = refl
headed_seen m f (Some header) =
    ap (λ (n : Names). function_done n.next (state_under m (seen header) (seen f))) (parameters_seen m.prefix header) ∙ ap (function_done (parameters m.prefix header).next) (under_seen m header f)

with_headed_seen : (f : Form) (o : Option Form) (m : Making) → with_headed (seen f) (option_map seen o) m ≡ with_headed f o m
with_headed_seen f None m = refl
with_headed_seen f (Some header) m = ap (λ (d : Done). d.made) (under_seen m header f)

pub state_fn_seen : (m : Making) (f : Form) → state_fn m (seen f) ≡ state_fn m f
state_fn_seen m f = ap (headed m (seen f)) (part_seen_at f 0) ∙ headed_seen m f (slice_get (parts_of f) 0)

pub with_state_fn_seen : (m : Making) (f : Form) → with_state_fn (seen f) m ≡ with_state_fn f m
with_state_fn_seen m f = ap (λ (o : Option Form). with_headed (seen f) o m) (part_seen_at f 0) ∙ with_headed_seen f (slice_get (parts_of f) 0) m

-- ---- trials
ascent_row_blind : IsBlind ascent_row
ascent_row_blind a [] = refl
ascent_row_blind a (e ∷ es) = refl

pub ascent_simulate_seen : (f : Form) → ascent_simulate (seen f) ≡ ascent_simulate f
ascent_simulate_seen f = ap (λ (a : Gathered). function 1 1 (choice_at (read 0) 1 stuck a)) (over_seen ascent_row ascent_row_blind no_arms f)

pub ascent_accepts_seen : (m : Making) (f : Form) → ascent_accepts m (seen f) ≡ ascent_accepts m f
ascent_accepts_seen m [] = refl
ascent_accepts_seen m (e ∷ es) = refl

-- ---- the start
pub start_seen : (m : Making) (names : Names) (f : Form) → start m names (seen f) ≡ start m names f
start_seen m names [] = refl
start_seen m names (e ∷ es) = refl
