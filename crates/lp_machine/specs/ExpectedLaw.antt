-- Expected lists by trials as lists, and their law.
use Rattle.std.specs.Prelude.{◌≡◌, ℕ, ◌+◌, List, [], ◌∷◌, ◌++◌, Option, Some, None}
use Rattle.std.specs.Option.{option_map}
use Rattle.lp_repr.specs.declared.values.RunItem.{RunItem}
use Rattle.lp_driver.specs.Values.{Text}
use Rattle.lp_driver.specs.DriverState.{last_of}
use Rattle.lp_machine.specs.declared.config.Listing.{Listing}
use Rattle.lp_machine.specs.declared.config.Left.TheVariants.{Pulls}
use Rattle.lp_machine.specs.declared.config.Config.{Config}
use Rattle.lp_machine.specs.declared.verdict.Verdict.{Verdict}
use Rattle.lp_machine.specs.declared.verdict.Verdict.TheVariants.{Yes, No, GoesOn}
use Rattle.lp_machine.specs.Tables.{Tables}
use Rattle.lp_machine.specs.ExpectedList.{verdict, says_after, names_with_action}
use Rattle.lp_machine.specs.StackMachine.{with_left}
use Rattle.lp_machine.specs.Moves.{tries_next, completes}
use Rattle.lp_machine.specs.Move.{moves}

-- the first list has some elements of the second, in its order
pub data IsPartOf : List Text → List Text → Type 0 where
  Neither : IsPartOf [] []
  Both : (x : Text) {xs ys : List Text} → IsPartOf xs ys → IsPartOf (x ∷ xs) (x ∷ ys)
  Second : (y : Text) {xs ys : List Text} → IsPartOf xs ys → IsPartOf xs (y ∷ ys)

-- a name before these, where its trial said yes; no list where the trial goes on
abbrev pub said_of : Text → Verdict → Option (List Text) → Option (List Text)
said_of name Yes names = option_map (λ l. name ∷ l) names
said_of name No names = names
said_of name (GoesOn stack) names = None

-- the names from terminal i on whose trials on a stack say yes, where each ends within n reductions
abbrev pub names_tried : Tables → ℕ → List ℕ → ℕ → List Text → Option (List Text)
names_tried t n stack i [] = Some []
names_tried t n stack i (name ∷ names) =
    said_of name (says_after t n (Some i) (verdict t stack (Some i))) (names_tried t n stack (i + 1) names)

-- each expected list with tried terminals is contained in the one with those that have an action in
-- the top state, both in terminal order
abbrev pub TriedHaveActions : Type 0
TriedHaveActions =
    (t : Tables) (n : ℕ) (stack : List ℕ) (found : List Text) → names_tried t n stack 0 t.names ≡ Some found → IsPartOf found (names_with_action t (last_of stack) 0 t.names)

-- the machine's moves at an error complete the list with exactly the tried terminals
abbrev pub MovesTryNames : Type 0
MovesTryNames =
    (t : Tables) (items : List RunItem) (n : ℕ) (c : Config) (listing : Listing) (found : List Text) → names_tried t n c.states 0 t.names ≡ Some found
    → (m : ℕ) × (moves t items m (tries_next t items (with_left c Pulls) listing 0) ≡ completes t items (with_left c Pulls) (record listing { found = listing.found ++ found }))
