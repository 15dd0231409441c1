-- The match of a state's function: its printed lines are read as cases that choose, by the lookahead, the arm of what the state does.
use Rattle.std.proofs.Common.{◌≡◌, ℕ, Bool, true, false, ◌||◌, List, [], ◌∷◌, ◌++◌, length, map, refl, sym, ap, ◌∙◌, subst}
use Rattle.std.specs.Prelude.{if◌then◌else◌}
use Rattle.std.specs.List.{flat_map, AllByRecursion}
use Rattle.lp_core.specs.Tree.{Tree}
use Rattle.lp_core.specs.Store.{Program}
use Rattle.lp_form.specs.declared.part.Part.TheVariants as part
use Rattle.lp_tree.specs.ProgramTree.{Item}
use Rattle.lp_build.specs.Built as built
use Rattle.lp_view.specs.PartLists.{Form, is_a, over}
use Rattle.lp_ascent_bodies.specs.AscentArms.{Arming, arming_of, done_arm}
use Rattle.lp_ascent_bodies.specs.AscentErrors.{expected_error}
use Rattle.lp_ascent_bodies.specs.AscentStates.{Stating, is_line, is_shift, is_reduce, line_row, arm_row, after_row, with_arming, state_row}
use Rattle.lp_question_laws.proofs.Tokens.Forms.{AreTexts}
use Rattle.lp_back_end_laws.specs.Call.Cases.{AreCasesOf, IsArmLine, line_soughts, forms_sought}
use Rattle.lp_back_end_laws.proofs.Call.ArmCases.{lines_gather, none_gather}
use Rattle.lp_back_end_laws.proofs.Call.CaseBodies.{next_arming, bodies_of, lines_have_bodies}

-- the lines of an error's arm
abbrev pub error_form : List Item → Form
error_form below = built.over part.ErrorArm [] below

-- the arms so far
abbrev pub arms_so_far : Stating → Arming
arms_so_far s = arming_of s.lines.names s.arms s.made

-- the error's body, behind those of these lines
abbrev pub error_body : Stating → List Form → List Item → Tree
error_body s lines below =
    (expected_error (over (next_arming s.shared) (arms_so_far s) lines).made (over (next_arming s.shared) (arms_so_far s) lines).names (error_form below)).value

second_of : {S : Type 0} (a b c d : Bool) (x y z : S) → a ≡ false → (b || c) ≡ true → (if a then x else (if b || (c || d) then y else z)) ≡ y
second_of true b c d x y z e f = absurd cc
second_of false true c d x y z e f = refl
second_of false false true d x y z e f = refl
second_of false false false d x y z e f = absurd cc

armed : (s : Stating) (line : Form) → IsArmLine line → state_row s line ≡ arm_row line s
armed s line h = second_of (is_line line) (is_shift line) (is_reduce line) (is_a part.ErrorArm line) (line_row line s) (arm_row line s) (after_row line s) h.0 h.1

module _ (p : Program) where
  -- the lines of arms are read as arms
  pub rows_armed : (s : Stating) (lines : List Form) → AllByRecursion IsArmLine lines → over state_row s lines ≡ with_arming s (over (next_arming s.shared) (arms_so_far s) lines)
  rows_armed s [] h = refl
  rows_armed s (line ∷ lines) h = ap (λ t. over state_row t lines) (armed s line h.0) ∙ rows_armed (arm_row line s) lines h.1

  -- the error's arm is one more body
  pub error_armed : (s : Stating) (below : List Item) → state_row s (error_form below) ≡ with_arming s (done_arm s.arms (expected_error s.made s.lines.names (error_form below)))
  error_armed s below = refl

  pub over_both : (s : Stating) (fs gs : List Form) → over state_row s (fs ++ gs) ≡ over state_row (over state_row s fs) gs
  over_both s [] gs = refl
  over_both s (f ∷ fs) gs = over_both (state_row s f) fs gs

  -- the match has the cases of these lines; its bodies are theirs, and the error's
  pub record IsMatchOf (prefix : List ℕ) (s : Stating) (lines : List Form) (below : List Item) (t : Stating) : Type 0 where
    pub tests : AreCasesOf p 0 (map (line_soughts prefix) lines) t.arms.cases
    pub bodies : t.arms.bodies ≡ bodies_of s.shared (arms_so_far s) lines ++ error_body s lines below ∷ []

  pub match_read : (s : Stating) (prefix : List ℕ) (lines : List Form) (below : List Item) → s.made.prefix ≡ prefix → s.arms.cases ≡ [] → s.arms.bodies ≡ [] → AllByRecursion IsArmLine lines → AreTexts p.texts (length s.made.texts) (forms_sought (flat_map (line_soughts prefix) lines))
      → IsMatchOf prefix s lines below (over state_row s (lines ++ error_form below ∷ []))
  match_read s prefix lines below same no_cases no_bodies arms texts =
      let after = over (next_arming s.shared) (arms_so_far s) lines in
      let g = lines_gather p s.shared prefix lines (arms_so_far s) [] same arms (none_gather p (arms_so_far s) no_cases no_bodies) texts in
      let error = expected_error after.made after.names (error_form below) in
      let is : over state_row s (lines ++ error_form below ∷ []) ≡ with_arming (with_arming s after) (done_arm after.arms error) = over_both s lines (error_form below ∷ []) ∙ ap (λ t. state_row t (error_form below)) (rows_armed s lines arms) in
      subst (IsMatchOf prefix s lines below) (sym is) (record { tests = g.cases; bodies = ap (λ (l : List Tree). l ++ error.value ∷ []) (lines_have_bodies s.shared (arms_so_far s) lines arms ∙ ap (λ (l : List Tree). l ++ bodies_of s.shared (arms_so_far s) lines) no_bodies) })
