-- Printing from place to place along a list of parts.
use Rattle.std.specs.Prelude.{◌≡◌, ℕ, ◌≤◌, Bool, false, List, [], ◌∷◌, length, drop, Result, Ok, Err}
use Rattle.lp_form.specs.declared.template.Step.{Step}
use Rattle.lp_write.specs.declared.rust.Options.{Options}
use Rattle.lp_write.specs.declared.rust.WriteError.{WriteError}
use Rattle.lp_write.specs.Writes.{Ending, error_ending}
use Rattle.lp_write.specs.Writes.Ending.{complete}
use Rattle.lp_program.specs.Trees.{forest}
use Rattle.lp_program.specs.Printed.{Printed, printed, takes}
use Rattle.lp_tree.specs.declared.tree.Entry.{Entry}

-- the trees from a place on, each with its lines
abbrev pub printed_from : Options → List ℕ → List Entry → ℕ → List Printed
printed_from options prefix es at = printed options prefix (forest (drop at es))

-- whether a step takes the first of the trees
abbrev pub takes_next : Step → List Printed → Bool
takes_next step [] = false
takes_next step (tree ∷ trees) = takes step tree.0

-- a place after so many of the trees that stand from another place on
pub record IsAfter (options : Options) (prefix : List ℕ) (es : List Entry) (at count place : ℕ) : Type 0 where
  pub within : place ≤ length es
  pub left : printed_from options prefix es place ≡ drop count (printed_from options prefix es at)

-- how a call ended that answers a place
abbrev pub place_ending : Result ℕ WriteError → Ending
place_ending (Ok place) = complete
place_ending (Err error) = error_ending error
