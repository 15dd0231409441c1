-- What readings are made of.
use Rattle.std.proofs.Common.{◌≡◌, ℕ, ◌+◌, true, ◌==◌, List, [], ◌∷◌, length, refl}
use Rattle.lp_form.specs.Templates.{steps_of}
use Rattle.lp_form.specs.Templates as template
use Rattle.lp_program.specs.Reads.{TakesOwn, graft, parts_in, may_have, hole_count, KindsFill, Task, Reads}
use Rattle.lp_program.specs.Reads.Reads.{no_tree, one_tree, no_step, one_step}
use Rattle.lp_program.specs.Reads.Task.{trees, steps}
use Rattle.lp_program.specs.Trees.{Content, Forest, tree_count}
use Rattle.lp_program.specs.Trees.Forest.{bare, tree}
use Rattle.lp_reading_laws.proofs.Texts.Shown.{none_below}

-- a tree, and those after it
pub record TreeMade (prefix : List ℕ) (c : Content) (below after : Forest) (text rest : List ℕ) : Type 0 where
  pub mid : List ℕ
  pub count : length c.holes ≡ hole_count c.part
  pub fills : KindsFill prefix c.part c.holes
  pub inner : Reads prefix (steps c 0 (steps_of c.part) below) text mid
  pub outer : Reads prefix (trees after) mid rest

-- a step, and those behind it
pub record StepMade (prefix : List ℕ) (c : Content) (count : ℕ) (s : template.Line) (others : List template.Line) (f : Forest) (text rest : List ℕ) : Type 0 where
  pub now : Forest
  pub later : Forest
  pub own : List ℕ
  pub mid : List ℕ
  pub trees_are : f ≡ graft now later
  pub may : may_have s.0 (parts_in now) ≡ true
  pub takes : TakesOwn prefix c count s.1 s.0 text own
  pub reads : Reads prefix (trees now) own mid
  pub goes_on : Reads prefix (steps c (count + tree_count now) others later) mid rest

abbrev pub Made : List ℕ → Task → List ℕ → List ℕ → Type 0
Made prefix (trees bare) text rest = rest ≡ text
Made prefix (trees (tree c below after)) text rest = TreeMade prefix c below after text rest
Made prefix (steps c count [] f) text rest = rest ≡ text
Made prefix (steps c count (s ∷ others) f) text rest = StepMade prefix c count s others f text rest

pub made : (prefix : List ℕ) (task : Task) (text rest : List ℕ) → Reads prefix task text rest → Made prefix task text rest
made prefix _ _ _ (no_tree text) = refl
made prefix _ _ _ (one_tree c below after text mid rest count fills inner outer) = record { mid = mid; count = count; fills = fills; inner = inner; outer = outer }
made prefix _ _ _ (no_step c count text) = refl
made prefix _ _ _ (one_step c count s others now later text own mid rest may takes reads_now reads_later) =
    record { now = now; later = later; own = own; mid = mid; trees_are = refl; may = may; takes = takes; reads = reads_now; goes_on = reads_later }

-- a step that has no trees
pub no_trees : (prefix : List ℕ) (now : Forest) (own mid : List ℕ) → (length (parts_in now) == 0) ≡ true → Reads prefix (trees now) own mid → mid ≡ own
no_trees prefix bare own mid may reads = made prefix (trees bare) own mid reads
no_trees prefix (tree c below after) own mid may reads = absurd (none_below (length (parts_in after)) may)
