-- The bodies that the printed lines of a state's arms are read as: one for each, in their order.
use Rattle.std.proofs.Common.{◌≡◌, ℕ, zero, suc, Bool, true, false, ◌||◌, List, [], ◌∷◌, ◌++◌, take, Some, slice_get, refl, sym, ap, ◌∙◌, append_assoc, append-nil}
use Rattle.std.specs.Prelude.{if◌then◌else◌}
use Rattle.std.specs.List.{AllByRecursion}
use Rattle.lp_core.specs.Tree.{Tree}
use Rattle.lp_form.specs.declared.part.Part.TheVariants as part
use Rattle.lp_view.specs.PartLists.{Form, is_a, parts_of, over}
use Rattle.lp_maker.specs.Constructs.{one_after_another}
use Rattle.lp_bodies.specs.Tables.{Reading, reading_of}
use Rattle.lp_ascent_bodies.specs.declared.ascent.Lines.{Lines as Shared}
use Rattle.lp_ascent_bodies.specs.AscentArms.{Arming, done_arm, is_token, case_row, first_case, reduce_cases, lines_below, found_reduce, shift_lines, shift_arm, reduce_arm}
use Rattle.lp_ascent_bodies.specs.AscentErrors.{expected_error}
use Rattle.lp_ascent_bodies.specs.AscentStates.{is_shift, is_reduce, arm_of}
use Rattle.lp_question_laws.proofs.Gotos.LinkGrows.{either}
use Rattle.lp_back_end_laws.specs.Call.Cases.{IsArmLine}

-- what an arm does: a shift's lines, or a reduction's
abbrev pub shift_body : Shared → Form → Arming → Tree
shift_body shared line a = one_after_another (shift_lines a.made shared a.names line).parts

abbrev pub reduce_body : Shared → Form → Arming → Tree
reduce_body shared line a = (found_reduce shared (reduce_cases line (reading_of a.arms a.made)).made a.names (lines_below line)).value

abbrev pub arm_body : Shared → Form → Arming → Tree
arm_body shared line a = if is_shift line then shift_body shared line a else reduce_body shared line a

abbrev pub next_arming : Shared → Arming → Form → Arming
next_arming shared a line = arm_of shared line a

-- the bodies of lines, one after another
abbrev pub bodies_of : Shared → Arming → List Form → List Tree
bodies_of shared a [] = []
bodies_of shared a (line ∷ lines) = arm_body shared line a ∷ bodies_of shared (arm_of shared line a) lines

abbrev SameBodies : Reading → Reading → Type 0
SameBodies s r = r.arms.bodies ≡ s.arms.bodies

row_same : (s : Reading) (row : Form) → SameBodies s (case_row s row)
row_same s row = either (SameBodies s) (is_token row) _ _ refl (either (SameBodies s) (is_a part.LastEnd row) _ _ refl refl)

rows_same : (s : Reading) (rows : List Form) → SameBodies s (over case_row s rows)
rows_same s [] = refl
rows_same s (row ∷ rows) = rows_same (case_row s row) rows ∙ row_same s row

first_same : (line : Form) (s : Reading) → SameBodies s (first_case line s)
first_same line s = either (SameBodies s) (is_a part.ReduceEnd line) _ _ refl refl

reduce_same : (line : Form) (s : Reading) → SameBodies s (reduce_cases line s)
reduce_same line s = rows_same (first_case line s) (parts_of line) ∙ first_same line s

-- an arm's line has one body
arm_has_body : (shared : Shared) (line : Form) (a : Arming) → IsArmLine line → (arm_of shared line a).arms.bodies ≡ a.arms.bodies ++ arm_body shared line a ∷ []
arm_has_body shared line a h = by (is_shift line) (is_reduce line) h.1
  where
    by : (b c : Bool) → (b || c) ≡ true → (if b then shift_arm shared line a else (if c then reduce_arm shared line a else done_arm a.arms (expected_error a.made a.names line))).arms.bodies ≡ a.arms.bodies ++ (if b then shift_body shared line a else reduce_body shared line a) ∷ []
    by true c is = refl
    by false true is = ap (λ (l : List Tree). l ++ reduce_body shared line a ∷ []) (reduce_same line (reading_of a.arms a.made))
    by false false is = absurd cc

pub lines_have_bodies : (shared : Shared) (a : Arming) (lines : List Form) → AllByRecursion IsArmLine lines → (over (next_arming shared) a lines).arms.bodies ≡ a.arms.bodies ++ bodies_of shared a lines
lines_have_bodies shared a [] h = sym (append-nil a.arms.bodies)
lines_have_bodies shared a (line ∷ lines) h =
    let b = arm_of shared line a in
    lines_have_bodies shared b lines h.1 ∙ ap (λ (l : List Tree). l ++ bodies_of shared b lines) (arm_has_body shared line a h.0) ∙ append_assoc a.arms.bodies (arm_body shared line a ∷ []) (bodies_of shared b lines)

-- the body of a line stands at the line's place, made from what was made before it
pub body_at : (shared : Shared) (a : Arming) (lines : List Form) (i : ℕ) (line : Form) → slice_get lines i ≡ Some line → slice_get (bodies_of shared a lines) i ≡ Some (arm_body shared line (over (next_arming shared) a (take i lines)))
body_at shared a [] i line at = absurd cc
body_at shared a (x ∷ lines) zero line at = (let same : x ≡ line = cc in ap (λ y. Some (arm_body shared y a)) same)
body_at shared a (x ∷ lines) (suc i) line at = body_at shared (arm_of shared x a) lines i line at
