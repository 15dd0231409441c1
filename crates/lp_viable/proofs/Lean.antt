-- A tree is read without its notes, and without numbers where its part has no table.
use Rattle.std.proofs.Common.{◌≡◌, ℕ, ◌+◌, ℤ, Bool, true, false, List, [], ◌∷◌, get_or, Some, refl, sym, ap, ◌∙◌, subst}
use Rattle.std.specs.List.{list_any}
use Rattle.std.proofs.lemmas.Bool.{or_left, or_right}
use Rattle.lp_form.specs.Templates.{Piece, steps_of}
use Rattle.lp_form.specs.Templates as template
use Rattle.lp_form.specs.declared.part.Part.{Part}
use Rattle.lp_form.specs.declared.template.Step.{Step}
use Rattle.lp_form.specs.declared.template.Step.TheVariants as step
use Rattle.lp_spelling.specs.Lines.{line_of}
use Rattle.lp_program.specs.CodeReading.{IsUse, IsCode}
use Rattle.lp_program.specs.Reads.{TakesLine, TakesLines, TakesOwn, graft, parts_in, may_have, Task, Reads, trees, steps}
use Rattle.lp_program.specs.Reads.Reads.{no_tree, one_tree, no_step, one_step}
use Rattle.lp_program.specs.Trees.{Content, Forest, tree_count}
use Rattle.lp_program.specs.Trees.Forest.{bare, tree}
use Rattle.lp_viable.specs.StepTests.{is_table}

-- whether a step of them is a table
abbrev pub has_table : List template.Line → Bool
has_table ss = list_any (λ s. is_table s.0) ss

-- the numbers, where there is a table
abbrev pub lean_numbers : Bool → List ℤ → List ℤ
lean_numbers true numbers = numbers
lean_numbers false numbers = []

-- what a part holds, without what no text tells
abbrev pub lean : Content → Content
lean c = record { part = c.part; holes = c.holes; numbers = lean_numbers (has_table (steps_of c.part)) c.numbers; notes = [] }

-- trees of which each part holds that
unfoldable pub lean_trees : Forest → Forest
lean_trees bare = bare
lean_trees (tree c below after) = tree (lean c) (lean_trees below) (lean_trees after)

lean_graft : (f g : Forest) → lean_trees (graft f g) ≡ graft (lean_trees f) (lean_trees g)
unfolding lean_trees
lean_graft bare g = refl
lean_graft (tree c below after) g = ap (λ (x : Forest). tree (lean c) (lean_trees below) x) (lean_graft after g)

lean_parts : (f : Forest) → parts_in (lean_trees f) ≡ parts_in f
unfolding lean_trees
lean_parts bare = refl
lean_parts (tree c below after) = ap (λ (x : List Part). c.part ∷ x) (lean_parts after)

lean_count : (f : Forest) → tree_count (lean_trees f) ≡ tree_count f
unfolding lean_trees
lean_count bare = refl
lean_count (tree c below after) = ap (λ n. 1 + n) (lean_count after)

-- what a step itself takes depends on the holes, and on the numbers where it is a table
own_again : (prefix : List ℕ) (c d : Content) (count : ℕ) (pieces : List Piece) (s : Step) (text rest : List ℕ) → d.holes ≡ c.holes → (is_table s ≡ true → d.numbers ≡ c.numbers) → TakesOwn prefix c count pieces s text rest →
    TakesOwn prefix d count pieces s text rest
own_again prefix c d count pieces (step.Line b) text rest h n t = subst (λ (x : List (List ℕ)). TakesLine (line_of prefix x pieces) text rest) (sym h) t
own_again prefix c d count pieces (step.Each b) text rest h n t = subst (λ (x : List (List ℕ)). TakesLines count (line_of prefix x pieces) text rest) (sym h) t
own_again prefix c d count pieces step.Use text rest h n t = subst (λ (x : List (List ℕ)). IsUse text (get_or x 0 []) rest) (sym h) t
own_again prefix c d count pieces step.Code text rest h n t = subst (λ (x : List (List ℕ)). IsCode text (get_or x 0 []) rest) (sym h) t
own_again prefix c d count pieces step.Entries text rest h n t = t ∙ ap (λ (x : List ℤ). Some (x, rest)) (sym (n refl))
own_again prefix c d count pieces step.Empty text rest h n t = t
own_again prefix c d count pieces step.Note text rest h n t = t
own_again prefix c d count pieces step.NoteAlways text rest h n t = t
own_again prefix c d count pieces (step.One class) text rest h n t = t
own_again prefix c d count pieces (step.Optional class) text rest h n t = t
own_again prefix c d count pieces (step.Many class) text rest h n t = t
own_again prefix c d count pieces (step.Some class) text rest h n t = t
own_again prefix c d count pieces (step.Pairs first second) text rest h n t = t

abbrev lean_task : Task → Task
lean_task (trees f) = trees (lean_trees f)
lean_task (steps c count ss f) = steps (lean c) count ss (lean_trees f)

-- the steps that are left are some of the part's
abbrev AreIts : Task → Type 0
AreIts (trees f) = Unit {0}
AreIts (steps c count ss f) = has_table ss ≡ true → has_table (steps_of c.part) ≡ true

lean_reads : (prefix : List ℕ) (task : Task) (text rest : List ℕ) → AreIts task → Reads prefix task text rest → Reads prefix (lean_task task) text rest
unfolding lean_trees
lean_reads prefix _ _ _ k (no_tree text) = no_tree text
lean_reads prefix _ _ _ k (one_tree c below after text mid rest n f r more) =
    one_tree (lean c) (lean_trees below) (lean_trees after) text mid rest n f (lean_reads prefix (steps c 0 (steps_of c.part) below) text mid (λ h. h) r) (lean_reads prefix (trees after) mid rest tt more)
lean_reads prefix _ _ _ k (no_step c count text) = no_step (lean c) count text
lean_reads prefix _ _ _ k (one_step c count s others now later text own mid rest m t r more) =
    let same : is_table s.0 ≡ true → lean_numbers (has_table (steps_of c.part)) c.numbers ≡ c.numbers = λ h. ap (λ b. lean_numbers b c.numbers) (k (or_left (is_table s.0) (has_table others) h)) in
    let next : Reads prefix (steps (lean c) (count + tree_count now) others (lean_trees later)) mid rest = lean_reads prefix (steps c (count + tree_count now) others later) mid rest (λ h. k (or_right (is_table s.0) (has_table others) h)) more in
    subst (λ (x : Forest). Reads prefix (steps (lean c) count (s ∷ others) x) text rest) (sym (lean_graft now later))
    (one_step (lean c) count s others (lean_trees now) (lean_trees later) text own mid rest (ap (may_have s.0) (lean_parts now) ∙ m) (own_again prefix c (lean c) count s.1 s.0 text own refl same t) (lean_reads prefix (trees now) own mid tt r)
    (subst (λ n. Reads prefix (steps (lean c) (count + n) others (lean_trees later)) mid rest) (sym (lean_count now)) next))

-- trees are read without what doesn't count
pub lean_read : (prefix : List ℕ) (f : Forest) (text rest : List ℕ) → Reads prefix (trees f) text rest → Reads prefix (trees (lean_trees f)) text rest
lean_read prefix f text rest r = lean_reads prefix (trees f) text rest tt r
