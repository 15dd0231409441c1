-- What a text that reads as trees, or that steps take something off, shows.
use Rattle.std.proofs.Common.{◌≡◌, ℕ, ◌+◌, ◌≤◌, suc, true, false, ◌==◌, List, [], ◌∷◌, ◌++◌, length, take, drop, codes, inl, inr, ⊎_elim, refl, sym, ◌∙◌, ap, subst, arith, eqb, ltb, take-append-drop}
use Rattle.std.specs.List.{starts_with}
use Rattle.std.proofs.Math.Dec.{leb}
use Rattle.std.proofs.lemmas.Bool.{and_parts, eqb-true, both_ways}
use Rattle.std.proofs.lemmas.List.{length-take}
use Rattle.lp_form.specs.Templates.{Piece, steps_of, holes_of}
use Rattle.lp_form.specs.Templates as template
use Rattle.lp_form.specs.declared.class.Class.{Class}
use Rattle.lp_form.specs.declared.part.Part.{Part}
use Rattle.lp_form.specs.declared.template.Step.{Step}
use Rattle.lp_form.specs.declared.template.Step.TheVariants as step
use Rattle.lp_spelling.specs.Counting.{settled, line_len, front_line}
use Rattle.lp_spelling.specs.Lines.{line_of}
use Rattle.lp_spelling.proofs.Reading.{starts_again}
use Rattle.lp_program.specs.Trees.{Content, Forest, tree_count}
use Rattle.lp_program.specs.Trees.Forest.{bare, tree}
use Rattle.lp_program.specs.Printed.{is_member}
use Rattle.lp_program.specs.Reads.{TakesLine, TakesOwn, parts_in, may_have, hole_count, KindsFill, Task, Reads}
use Rattle.lp_program.specs.Reads.Task.{trees, steps}
use Rattle.lp_program.specs.Reads.Reads.{no_tree, one_tree, no_step, one_step}
use Rattle.lp_reading_laws.specs.Holes.Found.{AreFilled}
use Rattle.lp_reading_laws.proofs.Holes.Places.{begins_within}
use Rattle.lp_program.specs.Begins.{Lines, SomeMember, IsUseFirst}
use Rattle.lp_reading_laws.specs.FirstLines.Opens.{Anything, IsFirst, StepOpens, StepsOpen, Opens}
use Rattle.lp_reading_laws.specs.Texts.TextLines.{HasLines}
use Rattle.lp_reading_laws.specs.Texts.TextLines.HasLines.{no_line, one_line}
use Rattle.lp_reading_laws.specs.Texts.Laws.{IsShown}
use Rattle.lp_reading_laws.proofs.Texts.Parts.{member_place}

-- the parts of a class that show lines
abbrev pub Below : ℕ → List ℕ → Class → Lines → Type 0
Below depth prefix class lines = SomeMember class (λ m. Opens depth prefix m lines)

-- less is known of what stands behind
step_weaker : (s : Step) (line others less uses : Type 0) (below : Class → Type 0) → (others → less) → StepOpens s line others uses below → StepOpens s line less uses below
step_weaker (step.Line blanks) line others less uses below f h = h
step_weaker step.Empty line others less uses below f h = f h
step_weaker step.Note line others less uses below f h = f h
step_weaker step.NoteAlways line others less uses below f h = f h
step_weaker step.Use line others less uses below f h = h
step_weaker (step.One class) line others less uses below f h = h
step_weaker (step.Some class) line others less uses below f h = h
step_weaker (step.Optional class) line others less uses below f h = ⊎_elim (λ a. inl a) (λ b. inr (f b)) h
step_weaker (step.Many class) line others less uses below f h = ⊎_elim (λ a. inl a) (λ b. inr (f b)) h
step_weaker (step.Pairs first second) line others less uses below f h = ⊎_elim (λ a. inl a) (λ b. inr (f b)) h
step_weaker _ line others less uses below f h = tt

pub steps_weaker : (below : Class → Lines → Type 0) (More Less : Lines → Type 0) (prefix : List ℕ) (holes : List (List ℕ)) (ss : List template.Line) (lines : Lines) → (More lines → Less lines) →
    StepsOpen below More prefix holes ss lines → StepsOpen below Less prefix holes ss lines
steps_weaker below More Less prefix holes [] lines f h = f h
steps_weaker below More Less prefix holes (s ∷ ss) lines f h =
    step_weaker s.0
    (IsFirst (line_of prefix holes s.1) lines (λ rest. StepsOpen below Anything prefix holes ss rest))
    (StepsOpen below More prefix holes ss lines)
    (StepsOpen below Less prefix holes ss lines)
    (IsUseFirst lines)
    (λ class. below class lines)
    (λ o. steps_weaker below More Less prefix holes ss lines f o) h

-- the line that is taken is the first of those of the text
pub taken_line : (l text own : List ℕ) (lines : Lines) → TakesLine l text own → HasLines text lines → (rest : Lines) × (lines ≡ l ∷ rest) × HasLines own rest
taken_line l text own _ t (no_line _ e) = let some = t.some in absurd (omega (arith, some, ap length e))
taken_line l text own _ t (one_line _ lines some h) = (lines, ap (λ (x : List ℕ). x ∷ lines) t.line_is, subst (λ (x : List ℕ). HasLines x lines) (sym t.rest_is) h)

-- the first line of a use
pub use_line : (text y : List ℕ) (lines : Lines) → settled text ≡ codes "use " ++ y → HasLines text lines → IsUseFirst lines
use_line text y _ e (no_line _ none) = let no : codes "use " ++ y ≡ [] = sym e ∙ none in absurd (omega (arith, ap length no))
use_line text y _ e (one_line _ lines some h) =
    let line : List ℕ = codes "use " ++ y in
    let long : 4 ≤ line_len line = omega arith in
    let size = length-take (line_len line) line in
    let whole : starts_with eqb (take (line_len line) line ++ drop (line_len line) line) (codes "use ") ≡ true
    = ap (λ (x : List ℕ). starts_with eqb x (codes "use ")) (take-append-drop (line_len line) line) ∙ starts_again (codes "use ") y in
    ap (λ (x : List ℕ). starts_with eqb (front_line x) (codes "use ")) e
    ∙ begins_within (codes "use ") (take (line_len line) line) (drop (line_len line) line) (omega (arith, long, size)) whole

-- what a task shows: a tree its lines, and steps theirs, or else nothing is taken
abbrev pub TaskShown : List ℕ → Task → List ℕ → List ℕ → Type 0
TaskShown prefix (trees bare) text rest = rest ≡ text
TaskShown prefix (trees (tree c below after)) text rest = (lines : Lines) → HasLines text lines → IsShown prefix c.part lines
TaskShown prefix (steps c count ss later) text rest =
    (lines : Lines) → HasLines text lines → (depth : ℕ) × StepsOpen (Below depth prefix) (λ x. rest ≡ text) prefix c.holes ss lines

-- a step and those behind it
abbrev StepShown : List ℕ → Content → Step → List Piece → List template.Line → List ℕ → List ℕ → Lines → Type 0
StepShown prefix c s pieces others text rest lines =
    (depth : ℕ) × StepOpens s
    (IsFirst (line_of prefix c.holes pieces) lines (λ x. StepsOpen (Below depth prefix) Anything prefix c.holes others x))
    (StepsOpen (Below depth prefix) (λ x. rest ≡ text) prefix c.holes others lines)
    (IsUseFirst lines)
    (λ class. Below depth prefix class lines)

-- what the steps behind show, where nothing is taken before them
later_shown : (prefix : List ℕ) (c : Content) (others : List template.Line) (count : ℕ) (later : Forest) (text mid rest : List ℕ) (lines : Lines) → mid ≡ text → TaskShown prefix (steps c count others later) mid rest → HasLines text lines →
    (depth : ℕ) × StepsOpen (Below depth prefix) (λ x. rest ≡ text) prefix c.holes others lines
later_shown prefix c others count later text mid rest lines e more h =
    let r = more lines (subst (λ (x : List ℕ). HasLines x lines) (sym e) h) in
    (r.0, steps_weaker (Below r.0 prefix) (λ x. rest ≡ mid) (λ x. rest ≡ text) prefix c.holes others lines (λ y. y ∙ e) r.1)

-- the first of the trees of a step is of its class
tree_shown : (prefix : List ℕ) (class : Class) (c : Content) (below after : Forest) (text own mid : List ℕ) (lines : Lines) → own ≡ text → is_member class c.part ≡ true →
    TaskShown prefix (trees (tree c below after)) own mid → HasLines text lines → (depth : ℕ) × Below depth prefix class lines
tree_shown prefix class c below after text own mid lines e m shown h =
    let r = shown lines (subst (λ (x : List ℕ). HasLines x lines) (sym e) h) in
    let at = member_place class c.part m in
    (r.0, (at.0, at.1, subst (λ p. Opens r.0 prefix p lines) at.2 r.1))

pub none_below : (n : ℕ) → (suc n == 0) ≡ true → ⊥
none_below n h = let e = eqb-true (suc n) 0 h in omega (arith, e)

step_shown : (prefix : List ℕ) (c : Content) (pieces : List Piece) (others : List template.Line) (count more : ℕ) (later : Forest) (text own mid rest : List ℕ) (s : Step) (now : Forest) → may_have s (parts_in now) ≡ true →
    TakesOwn prefix c count pieces s text own → TaskShown prefix (trees now) own mid → TaskShown prefix (steps c more others later) mid rest → (lines : Lines) → HasLines text lines → StepShown prefix c s pieces others text rest lines
step_shown prefix c pieces others count more later text own mid rest (step.Line blanks) bare fits takes trees_are steps_are lines h =
    let t = taken_line (line_of prefix c.holes pieces) text own lines takes h in
    let r = steps_are t.0 (subst (λ (x : List ℕ). HasLines x t.0) (sym trees_are) t.2) in
    let all : StepsOpen (Below r.0 prefix) Anything prefix c.holes others t.0 = steps_weaker (Below r.0 prefix) (λ x. rest ≡ mid) Anything prefix c.holes others t.0 (λ y. tt) r.1 in
    (r.0, subst (λ (x : Lines). IsFirst (line_of prefix c.holes pieces) x (λ y. StepsOpen (Below r.0 prefix) Anything prefix c.holes others y)) (sym t.1) (refl, all))
step_shown prefix c pieces others count more later text own mid rest (step.Line blanks) (tree d below after) fits takes trees_are steps_are lines h = absurd (none_below (length (parts_in after)) fits)
step_shown prefix c pieces others count more later text own mid rest step.Empty bare fits takes trees_are steps_are lines h = later_shown prefix c others more later text mid rest lines (trees_are ∙ takes) steps_are h
step_shown prefix c pieces others count more later text own mid rest step.Empty (tree d below after) fits takes trees_are steps_are lines h = absurd (none_below (length (parts_in after)) fits)
step_shown prefix c pieces others count more later text own mid rest step.Note bare fits takes trees_are steps_are lines h = later_shown prefix c others more later text mid rest lines (trees_are ∙ takes) steps_are h
step_shown prefix c pieces others count more later text own mid rest step.Note (tree d below after) fits takes trees_are steps_are lines h = absurd (none_below (length (parts_in after)) fits)
step_shown prefix c pieces others count more later text own mid rest step.NoteAlways bare fits takes trees_are steps_are lines h = later_shown prefix c others more later text mid rest lines (trees_are ∙ takes) steps_are h
step_shown prefix c pieces others count more later text own mid rest step.NoteAlways (tree d below after) fits takes trees_are steps_are lines h = absurd (none_below (length (parts_in after)) fits)
step_shown prefix c pieces others count more later text own mid rest step.Use now fits takes trees_are steps_are lines h = (0, use_line text _ lines takes.front h)
step_shown prefix c pieces others count more later text own mid rest (step.One class) bare fits takes trees_are steps_are lines h = absurd (both_ways false refl fits)
step_shown prefix c pieces others count more later text own mid rest (step.One class) (tree d below after) fits takes trees_are steps_are lines h =
    let p = and_parts (length (parts_in (tree d below after)) == 1) _ fits in
    tree_shown prefix class d below after text own mid lines takes (and_parts (is_member class d.part) _ p.1).0 trees_are h
step_shown prefix c pieces others count more later text own mid rest (step.Some class) bare fits takes trees_are steps_are lines h = absurd (both_ways false refl fits)
step_shown prefix c pieces others count more later text own mid rest (step.Some class) (tree d below after) fits takes trees_are steps_are lines h =
    let p = and_parts (ltb 0 (length (parts_in (tree d below after)))) _ fits in
    tree_shown prefix class d below after text own mid lines takes (and_parts (is_member class d.part) _ p.1).0 trees_are h
step_shown prefix c pieces others count more later text own mid rest (step.Optional class) bare fits takes trees_are steps_are lines h =
    let r = later_shown prefix c others more later text mid rest lines (trees_are ∙ takes) steps_are h in
    (r.0, inr r.1)
step_shown prefix c pieces others count more later text own mid rest (step.Optional class) (tree d below after) fits takes trees_are steps_are lines h =
    let p = and_parts (leb (length (parts_in (tree d below after))) 1) _ fits in
    let r = tree_shown prefix class d below after text own mid lines takes (and_parts (is_member class d.part) _ p.1).0 trees_are h in
    (r.0, inl r.1)
step_shown prefix c pieces others count more later text own mid rest (step.Many class) bare fits takes trees_are steps_are lines h =
    let r = later_shown prefix c others more later text mid rest lines (trees_are ∙ takes) steps_are h in
    (r.0, inr r.1)
step_shown prefix c pieces others count more later text own mid rest (step.Many class) (tree d below after) fits takes trees_are steps_are lines h =
    let r = tree_shown prefix class d below after text own mid lines takes (and_parts (is_member class d.part) _ fits).0 trees_are h in
    (r.0, inl r.1)
step_shown prefix c pieces others count more later text own mid rest (step.Pairs first second) bare fits takes trees_are steps_are lines h =
    let r = later_shown prefix c others more later text mid rest lines (trees_are ∙ takes) steps_are h in
    (r.0, inr r.1)
step_shown prefix c pieces others count more later text own mid rest (step.Pairs first second) (tree d below bare) fits takes trees_are steps_are lines h = absurd (both_ways false refl fits)
step_shown prefix c pieces others count more later text own mid rest (step.Pairs first second) (tree d below (tree e inner after)) fits takes trees_are steps_are lines h =
    let r = tree_shown prefix first d below (tree e inner after) text own mid lines takes (and_parts (is_member first d.part) _ fits).0 trees_are h in
    (r.0, inl r.1)
step_shown prefix c pieces others count more later text own mid rest _ now fits takes trees_are steps_are lines h = (0, tt)

-- the holes of a part that is read hold what they may
pub filled_read : (prefix : List ℕ) (c : Content) → length c.holes ≡ hole_count c.part → KindsFill prefix c.part c.holes → AreFilled prefix c.part c.holes
filled_read prefix c count fills = record { count = omega (arith, count); fills = fills }

part_opens : (prefix : List ℕ) (depth : ℕ) (p : Part) (holes : List (List ℕ)) (lines : Lines) → AreFilled prefix p holes → StepsOpen (Below depth prefix) Anything prefix holes (steps_of p) lines → Opens (suc depth) prefix p lines
unfolding Opens
part_opens prefix depth p holes lines f h = (holes, f, h)

pub task_shown : (prefix : List ℕ) (task : Task) (text rest : List ℕ) → Reads prefix task text rest → TaskShown prefix task text rest
task_shown prefix _ _ _ (no_tree text) = refl
task_shown prefix _ _ _ (one_tree c below after text mid rest count fills inner outer) = λ lines h.
    let s = task_shown prefix (steps c 0 (steps_of c.part) below) text mid inner lines h in
    let all : StepsOpen (Below s.0 prefix) Anything prefix c.holes (steps_of c.part) lines
    = steps_weaker (Below s.0 prefix) (λ x. mid ≡ text) Anything prefix c.holes (steps_of c.part) lines (λ y. tt) s.1 in
    (suc s.0, part_opens prefix s.0 c.part c.holes lines (filled_read prefix c count fills) all)
task_shown prefix _ _ _ (no_step c count text) = λ lines h. (0, refl)
task_shown prefix _ _ _ (one_step c count s others now later text own mid rest fits takes reads_now reads_later) = λ lines h.
    step_shown prefix c s.1 others count (count + tree_count now) later text own mid rest s.0 now fits takes
    (task_shown prefix (trees now) own mid reads_now)
    (task_shown prefix (steps c (count + tree_count now) others later) mid rest reads_later)
    lines h
