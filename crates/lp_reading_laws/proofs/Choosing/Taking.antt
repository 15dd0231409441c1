-- Trees whose first part shows a line take something off a text, and so do steps of which one shows a line.
use Rattle.std.proofs.Common.{◌≡◌, ℕ, ◌+◌, ◌<◌, ◌≤◌, true, false, ◌==◌, List, [], ◌∷◌, length, refl, ◌∙◌, ap, arith, ltb, ⊎_elim}
use Rattle.std.specs.List.{list_any}
use Rattle.std.specs.Str.{IsUtf8}
use Rattle.std.proofs.lemmas.Bool.{and_parts, both_ways, or_cases, or_left, or_right}
use Rattle.lp_form.specs.Classes.{members_of}
use Rattle.lp_form.specs.Templates.{Piece, steps_of}
use Rattle.lp_form.specs.Templates as template
use Rattle.lp_form.specs.declared.class.Class.{Class}
use Rattle.lp_form.specs.declared.part.Part.{Part}
use Rattle.lp_form.specs.declared.part.Part.TheVariants as part
use Rattle.lp_form.specs.declared.template.Step.{Step}
use Rattle.lp_form.specs.declared.template.Step.TheVariants as step
use Rattle.lp_spelling.specs.Lines.{line_of}
use Rattle.lp_program.specs.OwnLines.{hole}
use Rattle.lp_program.specs.Printed.{is_member}
use Rattle.lp_program.specs.Reads.{TakesOwn, parts_in, may_have, Task, Reads}
use Rattle.lp_program.specs.Reads.Reads.{no_tree, one_tree, no_step, one_step}
use Rattle.lp_program.specs.Reads.Task.{trees, steps}
use Rattle.lp_program.specs.Trees.{Content, Forest, tree_count}
use Rattle.lp_program.specs.Trees.Forest.{bare, tree}
use Rattle.lp_reading_laws.specs.FirstLines.Behind.{is_line, all_have_lines, shows_line}
use Rattle.lp_reading_laws.proofs.FirstLines.Apart.{all_at}
use Rattle.lp_reading_laws.proofs.Texts.Parts.{member_place}
use Rattle.lp_reading_laws.proofs.Choosing.Following.{Follows, follows_itself, follows_on, follows_short, line_follows, use_follows, own_follows}

-- a part of a class each of which shows a line
pub member_lines : (class : Class) (p : Part) → is_member class p ≡ true → all_have_lines class ≡ true → list_any (λ s. is_line s.0) (steps_of p) ≡ true
member_lines class p m h =
    let at = member_place class p m in
    ap (λ q. list_any (λ s. is_line s.0) (steps_of q)) at.2 ∙ all_at (λ q. list_any (λ s. is_line s.0) (steps_of q)) (members_of class) at.0 part.Program h at.1

line_shows : (s : Step) → is_line s ≡ true → shows_line s ≡ true
line_shows (step.One class) h = absurd (both_ways false refl h)
line_shows (step.Some class) h = absurd (both_ways false refl h)
line_shows _ h = h

lines_show : (ss : List template.Line) → list_any (λ s. is_line s.0) ss ≡ true → list_any (λ s. shows_line s.0) ss ≡ true
lines_show [] h = h
lines_show (s ∷ ss) h =
    ⊎_elim
    (λ y. or_left (shows_line s.0) (list_any (λ t. shows_line t.0) ss) (line_shows s.0 y))
    (λ z. or_right (shows_line s.0) (list_any (λ t. shows_line t.0) ss) (lines_show ss z))
    (or_cases (is_line s.0) (list_any (λ t. is_line t.0) ss) h)

abbrev pub TaskTakes : Task → List ℕ → List ℕ → Type 0
TaskTakes (trees bare) text rest = Unit {0}
TaskTakes (trees (tree c below after)) text rest = list_any (λ s. is_line s.0) (steps_of c.part) ≡ true → length rest < length text
TaskTakes (steps c count ss later) text rest = list_any (λ s. shows_line s.0) ss ≡ true → length rest < length text

-- the trees of a step
trees_take : (class : Class) (d : Content) (below after : Forest) (text own mid : List ℕ) → own ≡ text → is_member class d.part ≡ true → all_have_lines class ≡ true → TaskTakes (trees (tree d below after)) own mid → length mid < length text
trees_take class d below after text own mid e m h takes =
    let lt = takes (member_lines class d.part m h) in
    let same = ap length e in
    omega (arith, lt, same)

step_takes : (prefix : List ℕ) (c : Content) (count : ℕ) (pieces : List Piece) (text own mid : List ℕ) (s : Step) (now : Forest) → IsUtf8 text → may_have s (parts_in now) ≡ true → shows_line s ≡ true →
    TakesOwn prefix c count pieces s text own → length mid ≤ length own → TaskTakes (trees now) own mid → length mid < length text
step_takes prefix c count pieces text own mid (step.Line blanks) now u may shows takes short t = let lt = (line_follows (line_of prefix c.holes pieces) text own u takes).1 in omega (arith, lt, short)
step_takes prefix c count pieces text own mid step.Use now u may shows takes short t = let lt = (use_follows text (hole c 0) own u takes).1 in omega (arith, lt, short)
step_takes prefix c count pieces text own mid (step.One class) bare u may shows takes short t = absurd (both_ways false refl may)
step_takes prefix c count pieces text own mid (step.One class) (tree d below after) u may shows takes short t =
    let p = and_parts (length (parts_in (tree d below after)) == 1) _ may in
    trees_take class d below after text own mid takes (and_parts (is_member class d.part) _ p.1).0 shows t
step_takes prefix c count pieces text own mid (step.Some class) bare u may shows takes short t = absurd (both_ways false refl may)
step_takes prefix c count pieces text own mid (step.Some class) (tree d below after) u may shows takes short t =
    let p = and_parts (ltb 0 (length (parts_in (tree d below after)))) _ may in
    trees_take class d below after text own mid takes (and_parts (is_member class d.part) _ p.1).0 shows t
step_takes prefix c count pieces text own mid _ now u may shows takes short t = absurd (both_ways false refl shows)

pub task_takes : (prefix : List ℕ) (task : Task) (text rest : List ℕ) → IsUtf8 text → Reads prefix task text rest → Follows text rest × TaskTakes task text rest
task_takes prefix _ _ _ u (no_tree text) = (follows_itself text u, tt)
task_takes prefix _ _ _ u (one_tree c below after text mid rest count fills inner outer) =
    let a = task_takes prefix (steps c 0 (steps_of c.part) below) text mid u inner in
    let b = task_takes prefix (trees after) mid rest a.0.utf8 outer in (
      follows_on text mid rest a.0 b.0,
      λ h.
          let lt = a.1 (lines_show (steps_of c.part) h) in
          let short = follows_short mid rest b.0 in
          omega (arith, lt, short),
    )
task_takes prefix _ _ _ u (no_step c count text) = (follows_itself text u, λ h. absurd (both_ways false refl h))
task_takes prefix _ _ _ u (one_step c count s others now later text own mid rest may takes reads_now reads_later) =
    let o = own_follows prefix c count s.1 s.0 text own u takes in
    let a = task_takes prefix (trees now) own mid o.utf8 reads_now in
    let b = task_takes prefix (steps c (count + tree_count now) others later) mid rest a.0.utf8 reads_later in
    let first = follows_short text own o in
    let then = follows_short own mid a.0 in
    let last = follows_short mid rest b.0 in (
      follows_on text own rest o (follows_on own mid rest a.0 b.0),
      λ h.
          ⊎_elim
          (λ y. let lt = step_takes prefix c count s.1 text own mid s.0 now u may y takes then a.1 in omega (arith, lt, last))
          (λ z. let lt = b.1 z in omega (arith, lt, first, then))
          (or_cases (shows_line s.0) (list_any (λ t. shows_line t.0) others) h),
    )
