-- Where user code stands, step by step.
use Rattle.std.proofs.Common.{◌≡◌, ℕ, ◌==◌, zero, suc, Bool, true, false, not, ◌&&◌, ◌||◌, List, [], ◌∷◌, take, drop, codes, refl, sym, ap, ◌∙◌, ⊎_elim}
use Rattle.std.proofs.lemmas.Bool.{and_parts, or_cases, eqb-true, not-true, both_ways}
use Rattle.lp_form.specs.Templates.{steps_of}
use Rattle.lp_form.specs.Templates as template
use Rattle.lp_write.specs.Lines.{blanks, lowered, indent_after_all}
use Rattle.lp_write.specs.declared.rust.Options.{Options}
use Rattle.lp_program.specs.OwnLines.{own_lines}
use Rattle.lp_program.specs.Printed.{Printed, taken, all_lines, printed}
use Rattle.lp_program.specs.Reads.{parts_in}
use Rattle.lp_program.specs.Trees.{Content, Forest, tree_count}
use Rattle.lp_program.specs.Trees.Forest.{bare, tree}
use Rattle.lp_reading_laws.specs.Printing.Levels.{holds_code, Test, trees_pass, taken_pass, steps_pass, tests_of}
use Rattle.lp_reading_laws.specs.Printing.TemplateTests.{has_code, is_class}
use Rattle.lp_reading_laws.specs.Printing.WellFormed.{taken_in}
use Rattle.lp_reading_laws.proofs.Printing.Forests.{front, behind, printed_front, printed_behind, taken_parts, none_taken}
use Rattle.lp_reading_laws.proofs.Printing.Steps.{not_taken, class_own, any_code}

tests_front : (options : Options) (prefix : List ℕ) (n : ℕ) (f : Forest) → take n (tests_of options prefix f) ≡ tests_of options prefix (front n f)
unfolding tests_of
tests_front options prefix zero f = refl
tests_front options prefix (suc n) bare = refl
tests_front options prefix (suc n) (tree c below after) =
    ap
    (λ (x : List Test). (λ indent. steps_pass options prefix c (tree_count below) (steps_of c.part) indent (printed options prefix below) (tests_of options prefix below)) ∷ x)
    (tests_front options prefix n after)

tests_behind : (options : Options) (prefix : List ℕ) (n : ℕ) (f : Forest) → drop n (tests_of options prefix f) ≡ tests_of options prefix (behind n f)
unfolding tests_of
tests_behind options prefix zero f = refl
tests_behind options prefix (suc n) bare = refl
tests_behind options prefix (suc n) (tree c below after) = tests_behind options prefix n after

pub code_parts : (options : Options) (prefix : List ℕ) (f : Forest) → holds_code (printed options prefix f) ≡ any_code (parts_in f)
unfolding printed
code_parts options prefix bare = refl
code_parts options prefix (tree c below after) = ap (λ b. has_code (steps_of c.part) || b) (code_parts options prefix after)

-- a step that has no parts below
pub plain_is : (options : Options) (prefix : List ℕ) (c : Content) (total i : ℕ) (s : template.Line) (others : List template.Line) (f : Forest) → is_class s.0 ≡ false →
    steps_pass options prefix c total (s ∷ others) i (printed options prefix f) (tests_of options prefix f)
    ≡ steps_pass options prefix c total others (indent_after_all i (own_lines options prefix c total s.1 s.0)) (printed options prefix f) (tests_of options prefix f)
unfolding steps_pass
plain_is options prefix c total i s others f n =
    let ps : List Printed = printed options prefix f in
    let qs : List Test = tests_of options prefix f in
    let j : ℕ = indent_after_all i (own_lines options prefix c total s.1 s.0) in
    ap (λ k. taken_pass j (take k ps) (take k qs) && steps_pass options prefix c total others (indent_after_all j (all_lines (take k ps))) (drop k ps) (drop k qs))
    (taken_parts options prefix s.0 f ∙ none_taken s.0 (parts_in f) (not_taken s.0 n))

pub plain_pass : (options : Options) (prefix : List ℕ) (c : Content) (total i : ℕ) (s : template.Line) (others : List template.Line) (f : Forest) → is_class s.0 ≡ false →
    steps_pass options prefix c total (s ∷ others) i (printed options prefix f) (tests_of options prefix f) ≡ true →
    steps_pass options prefix c total others (indent_after_all i (own_lines options prefix c total s.1 s.0)) (printed options prefix f) (tests_of options prefix f) ≡ true
plain_pass options prefix c total i s others f n h = sym (plain_is options prefix c total i s others f n) ∙ h

-- a step of a class
pub record ClassPasses (options : Options) (prefix : List ℕ) (c : Content) (total i : ℕ) (others : List template.Line) (now later : Forest) : Type 0 where
  pub level : any_code (parts_in now) ≡ true → (i ≡ 4) × (indent_after_all i (all_lines (printed options prefix now)) ≡ 4)
  pub inner : trees_pass i (printed options prefix now) (tests_of options prefix now) ≡ true
  pub outer : steps_pass options prefix c total others (indent_after_all i (all_lines (printed options prefix now))) (printed options prefix later) (tests_of options prefix later) ≡ true

taken_level : (options : Options) (prefix : List ℕ) (i : ℕ) (now : Forest) → taken_pass i (printed options prefix now) (tests_of options prefix now) ≡ true →
    any_code (parts_in now) ≡ true → (i ≡ 4) × (indent_after_all i (all_lines (printed options prefix now)) ≡ 4)
taken_level options prefix i now h a =
    let ps : List Printed = printed options prefix now in
    let k : ℕ = indent_after_all i (all_lines ps) in
    let q = and_parts (not (holds_code ps) || ((i == 4) && (k == 4))) (trees_pass i ps (tests_of options prefix now)) h in
    ⊎_elim
    (λ none. absurd (both_ways (holds_code ps) (not-true (holds_code ps) none) (code_parts options prefix now ∙ a)))
    (λ e. let r = and_parts (i == 4) (k == 4) e in (eqb-true i 4 r.0, eqb-true k 4 r.1))
    (or_cases (not (holds_code ps)) ((i == 4) && (k == 4)) q.0)

pub class_is : (options : Options) (prefix : List ℕ) (c : Content) (total i : ℕ) (s : template.Line) (others : List template.Line) (f : Forest) → is_class s.0 ≡ true →
    steps_pass options prefix c total (s ∷ others) i (printed options prefix f) (tests_of options prefix f)
    ≡ (taken_pass i (printed options prefix (front (taken_in s.0 (parts_in f)) f)) (tests_of options prefix (front (taken_in s.0 (parts_in f)) f))
    && steps_pass options prefix c total others (indent_after_all i (all_lines (printed options prefix (front (taken_in s.0 (parts_in f)) f))))
    (printed options prefix (behind (taken_in s.0 (parts_in f)) f)) (tests_of options prefix (behind (taken_in s.0 (parts_in f)) f)))
unfolding steps_pass
class_is options prefix c total i s others f y =
    let ps : List Printed = printed options prefix f in
    let qs : List Test = tests_of options prefix f in
    let n : ℕ = taken_in s.0 (parts_in f) in
    let now : Forest = front n f in
    let later : Forest = behind n f in
    ap (λ o. taken_pass (indent_after_all i o) (take (taken s.0 ps) ps) (take (taken s.0 ps) qs)
    && steps_pass options prefix c total others (indent_after_all (indent_after_all i o) (all_lines (take (taken s.0 ps) ps))) (drop (taken s.0 ps) ps) (drop (taken s.0 ps) qs)) (class_own options prefix c total s.1 s.0 y)
    ∙ ap (λ k. taken_pass i (take k ps) (take k qs) && steps_pass options prefix c total others (indent_after_all i (all_lines (take k ps))) (drop k ps) (drop k qs)) (taken_parts options prefix s.0 f)
    ∙ ap (λ x. taken_pass i x (take n qs) && steps_pass options prefix c total others (indent_after_all i (all_lines x)) (drop n ps) (drop n qs)) (printed_front options prefix n f)
    ∙ ap (λ x. taken_pass i (printed options prefix now) x && steps_pass options prefix c total others (indent_after_all i (all_lines (printed options prefix now))) (drop n ps) (drop n qs)) (tests_front options prefix n f)
    ∙ ap (λ x. taken_pass i (printed options prefix now) (tests_of options prefix now) && steps_pass options prefix c total others (indent_after_all i (all_lines (printed options prefix now))) x (drop n qs)) (printed_behind options prefix n f)
    ∙ ap (λ x. taken_pass i (printed options prefix now) (tests_of options prefix now) && steps_pass options prefix c total others (indent_after_all i (all_lines (printed options prefix now))) (printed options prefix later) x) (tests_behind options prefix n f)

pub class_passes : (options : Options) (prefix : List ℕ) (c : Content) (total i : ℕ) (s : template.Line) (others : List template.Line) (f : Forest) → is_class s.0 ≡ true →
    steps_pass options prefix c total (s ∷ others) i (printed options prefix f) (tests_of options prefix f) ≡ true →
    ClassPasses options prefix c total i others (front (taken_in s.0 (parts_in f)) f) (behind (taken_in s.0 (parts_in f)) f)
class_passes options prefix c total i s others f y h =
    let n : ℕ = taken_in s.0 (parts_in f) in
    let now : Forest = front n f in
    let later : Forest = behind n f in
    let q = and_parts (taken_pass i (printed options prefix now) (tests_of options prefix now)) (steps_pass options prefix c total others (indent_after_all i (all_lines (printed options prefix now))) (printed options prefix later) (tests_of options prefix later))
    (sym (class_is options prefix c total i s others f y) ∙ h) in
    record {
      level = taken_level options prefix i now q.0;
      inner = (and_parts (not (holds_code (printed options prefix now)) || ((i == 4) && (indent_after_all i (all_lines (printed options prefix now)) == 4))) (trees_pass i (printed options prefix now) (tests_of options prefix now)) q.0).1;
      outer = q.1;
    }

-- blanks at such an indent
pub blanks_at : (w : Bool) (i : ℕ) → (w ≡ true → i ≡ 4) → blanks w i ≡ blanks w 4
blanks_at true i h = ap (λ n. blanks true n) (h refl)
blanks_at false i h = refl

pub blanks_closing : (w : Bool) (i : ℕ) → (w ≡ true → i ≡ 4) → blanks w (lowered i (codes "}")) ≡ []
blanks_closing true i h = ap (λ n. blanks true (lowered n (codes "}"))) (h refl)
blanks_closing false i h = refl
