-- The lines of a text that reads as trees begin the first of them.
use Rattle.std.proofs.Common.{◌≡◌, ℕ, ◌+◌, ◌≤◌, zero, suc, Bool, true, false, ◌==◌, List, [], ◌∷◌, length, take, refl, sym, ◌∙◌, ap, subst, arith}
use Rattle.std.specs.List.{list_all}
use Rattle.std.proofs.lemmas.Bool.{and_parts, both_ways}
use Rattle.lp_form.specs.Classes.{members_of}
use Rattle.lp_form.specs.Templates.{Piece, steps_of, holes_of}
use Rattle.lp_form.specs.Templates as template
use Rattle.lp_form.specs.declared.class.Class.{Class}
use Rattle.lp_form.specs.declared.part.Part.{Part}
use Rattle.lp_form.specs.declared.part.Part.TheVariants as part
use Rattle.lp_form.specs.declared.template.Step.{Step}
use Rattle.lp_form.specs.declared.template.Step.TheVariants as step
use Rattle.lp_spelling.specs.Lines.{line_of}
use Rattle.lp_spelling.specs.LineHoles.{known_in}
use Rattle.lp_program.specs.Trees.{Content, Forest, tree_count}
use Rattle.lp_program.specs.Trees.Forest.{bare, tree}
use Rattle.lp_program.specs.Printed.{is_member}
use Rattle.lp_program.specs.Reads.{TakesOwn, graft, parts_in, may_have, Task, Reads}
use Rattle.lp_program.specs.Reads.Task.{trees, steps}
use Rattle.lp_program.specs.Reads.Reads.{no_tree, one_tree, no_step, one_step}
use Rattle.lp_reading_laws.specs.Holes.Found.{are_words, LineFound, LinesFound, known_behind}
use Rattle.lp_reading_laws.proofs.Holes.Asking.{lines_tell_all}
use Rattle.lp_reading_laws.proofs.Holes.Law.{holes_found}
use Rattle.lp_program.specs.Begins.{Lines, member, SomeMember, ReadsFirst, IsUseFirst, StepBegins, StepsBegin, Begins}
use Rattle.lp_reading_laws.proofs.FirstLines.Apart.{HolesFill, all_at}
use Rattle.lp_reading_laws.proofs.FirstLines.Printed.{behind_grows, is_bare, are_bare, templates_bare, none_known, taken_fill}
use Rattle.lp_reading_laws.specs.Texts.TextLines.{HasLines}
use Rattle.lp_reading_laws.specs.Texts.Laws.{AreParted, TreesBegun}
use Rattle.lp_reading_laws.proofs.Texts.Parts.{member_place}
use Rattle.lp_reading_laws.proofs.Texts.Shown.{taken_line, use_line, none_below, filled_read, TaskShown, task_shown}

-- parts stand at most so deep in front of all lines
abbrev steps_fit : (Part → Bool) → List template.Line → Bool
steps_fit go [] = true
steps_fit go ((step.Empty, pieces) ∷ ss) = steps_fit go ss
steps_fit go ((step.Note, pieces) ∷ ss) = steps_fit go ss
steps_fit go ((step.NoteAlways, pieces) ∷ ss) = steps_fit go ss
steps_fit go ((step.One class, pieces) ∷ ss) = list_all go (members_of class)
steps_fit go (s ∷ ss) = true

abbrev front_fits : ℕ → Part → Bool
front_fits zero p = false
front_fits (suc n) p = steps_fit (front_fits n) (steps_of p)

fronts_fit : (n : ℕ) (p : Part) → front_fits (suc (suc n)) p ≡ true
unfolding members_of steps_of
fronts_fit n part.Program = refl
fronts_fit n _ = refl

-- the parts of a class that lines begin
abbrev Within : ℕ → List ℕ → Class → Lines → Type 0
Within depth prefix class lines = SomeMember class (λ m. Begins depth prefix m lines)

-- what is asked of the holes of a task
abbrev TaskParted : List ℕ → Task → Type 0
TaskParted prefix (trees f) = AreParted prefix f
TaskParted prefix (steps c count ss later) = AreParted prefix later

-- a part whose lines are found from the n-th hole on, and of which no line was read, or parts don't stand too deep
pub record Going (prefix : List ℕ) (c : Content) (depth k : ℕ) (seen : Bool) (ss : List template.Line) : Type 0 where
  pub fills : HolesFill prefix (holes_of c.part) c.holes
  pub found : LinesFound prefix (holes_of c.part) c.holes k ss
  pub small : known_behind ss k ≤ length (holes_of c.part)
  pub bares : are_bare ss ≡ true
  pub fits : seen ≡ false → steps_fit (front_fits depth) ss ≡ true

abbrev TaskBegun : List ℕ → Task → List ℕ → Type 0
TaskBegun prefix (trees bare) text = Unit {0}
TaskBegun prefix (trees (tree c below after)) text = (lines : Lines) → HasLines text lines → (depth : ℕ) → front_fits depth c.part ≡ true → Begins depth prefix c.part lines
TaskBegun prefix (steps c count ss later) text =
    (lines : Lines) → HasLines text lines → (depth k : ℕ) (seen : Bool) → Going prefix c depth k seen ss → StepsBegin (Within depth prefix) prefix (holes_of c.part) seen (take k c.holes) ss lines

-- the steps behind one that reads nothing
later_begun : (prefix : List ℕ) (c : Content) (pieces : List Piece) (others : List template.Line) (more : ℕ) (later : Forest) (text mid : List ℕ) (lines : Lines) (depth k : ℕ) (seen : Bool) → mid ≡ text → (length pieces == 0) ≡ true →
    TaskBegun prefix (steps c more others later) mid → HasLines text lines → HolesFill prefix (holes_of c.part) c.holes → LinesFound prefix (holes_of c.part) c.holes (known_in pieces k) others →
    known_behind others (known_in pieces k) ≤ length (holes_of c.part) → are_bare others ≡ true → (seen ≡ false → steps_fit (front_fits depth) others ≡ true) →
    StepsBegin (Within depth prefix) prefix (holes_of c.part) seen (take k c.holes) others lines
later_begun prefix c pieces others more later text mid lines depth k seen e b begun h f l small bares fits =
    let same : known_in pieces k ≡ k = none_known pieces k b in
    begun lines (subst (λ (x : List ℕ). HasLines x lines) (sym e) h) depth k seen
    (record {
      fills = f;
      found = subst (λ j. LinesFound prefix (holes_of c.part) c.holes j others) same l;
      small = subst (λ j. known_behind others j ≤ length (holes_of c.part)) same small;
      bares = bares;
      fits = fits;
    })

step_begun : (prefix : List ℕ) (c : Content) (pieces : List Piece) (others : List template.Line) (count more : ℕ) (later : Forest) (text own mid rest : List ℕ) (s : Step) (now : Forest) → may_have s (parts_in now) ≡ true →
    TakesOwn prefix c count pieces s text own → TaskShown prefix (trees now) own mid → TaskBegun prefix (trees now) own → TaskBegun prefix (steps c more others later) mid → (lines : Lines) → HasLines text lines → (depth k : ℕ) (seen : Bool) →
    HolesFill prefix (holes_of c.part) c.holes → LineFound prefix (holes_of c.part) c.holes k pieces → LinesFound prefix (holes_of c.part) c.holes (known_in pieces k) others →
    known_behind others (known_in pieces k) ≤ length (holes_of c.part) → is_bare s pieces ≡ true → are_bare others ≡ true → (seen ≡ false → steps_fit (front_fits depth) ((s, pieces) ∷ others) ≡ true) →
    StepBegins s seen
    (ReadsFirst prefix (holes_of c.part) pieces (take k c.holes) lines (λ known x. StepsBegin (Within depth prefix) prefix (holes_of c.part) true known others x))
    (StepsBegin (Within depth prefix) prefix (holes_of c.part) seen (take k c.holes) others lines)
    (IsUseFirst lines)
    (λ class. Within depth prefix class lines)
step_begun prefix c pieces others count more later text own mid rest (step.Line blanks) bare may takes same none begun lines h depth k seen f one l small b bares fits =
    let t = taken_line (line_of prefix c.holes pieces) text own lines takes h in
    let grows = behind_grows others (known_in pieces k) in
    let next : StepsBegin (Within depth prefix) prefix (holes_of c.part) true (take (known_in pieces k) c.holes) others t.0
    = begun t.0 (subst (λ (x : List ℕ). HasLines x t.0) (sym same) t.2) depth (known_in pieces k) true
    (record { fills = f; found = l; small = small; bares = bares; fits = λ e. absurd (both_ways true e refl) }) in
    subst (λ (x : Lines). ReadsFirst prefix (holes_of c.part) pieces (take k c.holes) x (λ known y. StepsBegin (Within depth prefix) prefix (holes_of c.part) true known others y)) (sym t.1)
    (take (known_in pieces k) c.holes, one, taken_fill prefix (holes_of c.part) c.holes (length (take k c.holes)) (known_in pieces k) f (omega (arith, grows, small)), next)
step_begun prefix c pieces others count more later text own mid rest (step.Line blanks) (tree d below after) may takes same first begun lines h depth k seen f one l small b bares fits = absurd (none_below (length (parts_in after)) may)
step_begun prefix c pieces others count more later text own mid rest step.Empty bare may takes same none begun lines h depth k seen f one l small b bares fits = later_begun prefix c pieces others more later text mid lines depth k seen (same ∙ takes) b begun h f l small bares fits
step_begun prefix c pieces others count more later text own mid rest step.Empty (tree d below after) may takes same first begun lines h depth k seen f one l small b bares fits = absurd (none_below (length (parts_in after)) may)
step_begun prefix c pieces others count more later text own mid rest step.Note bare may takes same none begun lines h depth k seen f one l small b bares fits = later_begun prefix c pieces others more later text mid lines depth k seen (same ∙ takes) b begun h f l small bares fits
step_begun prefix c pieces others count more later text own mid rest step.Note (tree d below after) may takes same first begun lines h depth k seen f one l small b bares fits = absurd (none_below (length (parts_in after)) may)
step_begun prefix c pieces others count more later text own mid rest step.NoteAlways bare may takes same none begun lines h depth k seen f one l small b bares fits = later_begun prefix c pieces others more later text mid lines depth k seen (same ∙ takes) b begun h f l small bares fits
step_begun prefix c pieces others count more later text own mid rest step.NoteAlways (tree d below after) may takes same first begun lines h depth k seen f one l small b bares fits = absurd (none_below (length (parts_in after)) may)
step_begun prefix c pieces others count more later text own mid rest step.Use now may takes same first begun lines h depth k seen f one l small b bares fits = use_line text _ lines takes.front h
step_begun prefix c pieces others count more later text own mid rest (step.One class) now may takes same first begun lines h depth k true f one l small b bares fits = tt
step_begun prefix c pieces others count more later text own mid rest (step.One class) bare may takes same none begun lines h depth k false f one l small b bares fits = absurd (both_ways false refl may)
step_begun prefix c pieces others count more later text own mid rest (step.One class) (tree d below after) may takes same first begun lines h depth k false f one l small b bares fits =
    let p = and_parts (length (parts_in (tree d below after)) == 1) _ may in
    let at = member_place class d.part (and_parts (is_member class d.part) _ p.1).0 in
    let deep : front_fits depth (member class at.0) ≡ true = all_at (front_fits depth) (members_of class) at.0 part.Program (fits refl) at.1 in
    let begins : Begins depth prefix d.part lines = first lines (subst (λ (x : List ℕ). HasLines x lines) (sym takes) h) depth (ap (front_fits depth) at.2 ∙ deep) in
    (at.0, at.1, subst (λ q. Begins depth prefix q lines) at.2 begins)
step_begun prefix c pieces others count more later text own mid rest _ now may takes same first begun lines h depth k seen f one l small b bares fits = tt

-- trees in front of others
pub parted_parts : (prefix : List ℕ) (now later : Forest) → AreParted prefix (graft now later) → AreParted prefix now × AreParted prefix later
parted_parts prefix bare later h = (tt, h)
parted_parts prefix (tree c below after) later h = let r = parted_parts prefix after later h.2 in ((h.0, h.1, r.0), r.1)

part_begins : (prefix : List ℕ) (p : Part) (lines : Lines) (depth : ℕ) → front_fits depth p ≡ true →
    ((n : ℕ) → steps_fit (front_fits n) (steps_of p) ≡ true → StepsBegin (Within n prefix) prefix (holes_of p) false [] (steps_of p) lines) → Begins depth prefix p lines
unfolding Begins
part_begins prefix p lines zero h f = absurd (both_ways false refl h)
part_begins prefix p lines (suc n) h f = f n h

task_begun : (prefix : List ℕ) (task : Task) (text rest : List ℕ) → are_words prefix ≡ true → TaskParted prefix task → Reads prefix task text rest → TaskBegun prefix task text
unfolding LinesFound
task_begun prefix _ _ _ w a (no_tree text) = tt
task_begun prefix _ _ _ w a (one_tree c below after text mid rest count fills inner outer) = λ lines h depth fits.
    let f = filled_read prefix c count fills in
    let told : known_behind (steps_of c.part) 0 ≡ length (holes_of c.part) = lines_tell_all c.part in
    let begun = task_begun prefix (steps c 0 (steps_of c.part) below) text mid w a.1 inner in
    part_begins prefix c.part lines depth fits
    (λ n g. begun lines h n 0 false (record { fills = fills; found = (holes_found prefix c.part c.holes w f).0 a.0; small = omega (arith, told); bares = templates_bare c.part; fits = λ e. g }))
task_begun prefix _ _ _ w a (no_step c count text) = λ lines h depth k seen g. tt
task_begun prefix _ _ _ w a (one_step c count s others now later text own mid rest may takes reads_now reads_later) = λ lines h depth k seen g.
    let q = parted_parts prefix now later a in
    let found = g.found in
    let bares = and_parts (is_bare s.0 s.1) (are_bare others) g.bares in
    step_begun prefix c s.1 others count (count + tree_count now) later text own mid rest s.0 now may takes
    (task_shown prefix (trees now) own mid reads_now)
    (task_begun prefix (trees now) own mid w q.0 reads_now)
    (task_begun prefix (steps c (count + tree_count now) others later) mid rest w q.1 reads_later)
    lines h depth k seen g.fills found.0 found.1 g.small bares.0 bares.1 g.fits

pub trees_begun : TreesBegun
trees_begun prefix c below after text rest lines n w a reads h = task_begun prefix (trees (tree c below after)) text rest w a reads lines h (suc (suc n)) (fronts_fit n c.part)
