-- How the lines of a reduction end.
use Rattle.std.specs.Prelude.{ℕ, Bool, true, false, List, [], ◌∷◌, ◌++◌, Result, Ok, Err, ◌≤◌, ℤ}
use Rattle.lp_repr.specs.declared.values.Loc.{Loc}
use Rattle.lp_driver.specs.Values.{Spanned, Value, Failure}
use Rattle.lp_core.specs.declared.value.Tag.TheVariants as tag
use Rattle.lp_core.specs.Datum.{Parsed, Failed}
use Rattle.lp_core.specs.Numbers.{index}
use Rattle.lp_core.specs.Reading.{wrapped}
use Rattle.lp_core.specs.Store.{Program, UserCall}
use Rattle.lp_core.specs.Tree.{Tree}
use Rattle.lp_core.specs.Val.{Val, Plain, Made, vals_of}
use Rattle.lp_code_laws.specs.Ends.Ends.{Moment, Outcome, Giving, Returning, Eval, EndsIn}
use Rattle.lp_code_laws.specs.Slots.Shows.{Keeps}
use Rattle.lp_question_laws.specs.Reductions.Stacks.{over_two}

-- an error, or a start's value, ends the parse
abbrev pub failed_val : Failure → Val
failed_val f = wrapped tag.Present (wrapped tag.Failure (Plain (Failed f)))

abbrev pub given_val : Value → Val
given_val v = wrapped tag.Present (wrapped tag.Success (Plain (Parsed v)))

-- how many symbols went, and the nonterminal
abbrev pub pair_val : ℕ → ℕ → Val
pair_val n nonterminal = Made tag.Tuple (vals_of (index n ∷ index nonterminal ∷ []))

-- what ends the parse returns; another value gives the pair
abbrev pub outcome_as : Bool → Result Value Failure → ℕ → ℕ → Moment → Outcome
outcome_as starts (Err f) n nonterminal m = Returning (failed_val f) m
outcome_as true (Ok v) n nonterminal m = Returning (given_val v) m
outcome_as false (Ok v) n nonterminal m = Giving (pair_val n nonterminal) m

-- and its symbol is on the list then
abbrev pub symbols_after : Bool → Result Value Failure → ℕ → Loc × Loc → List (Spanned Val) → List (Spanned Val)
symbols_after starts (Err f) variant at l = l
symbols_after true (Ok v) variant at l = l
symbols_after false (Ok v) variant at l = l ++ (at.0, wrapped (tag.Variant variant) (Plain (Parsed v)), at.1) ∷ []

-- a body ends so, in at most so many steps; the slots below a number hold the same
pub record Ended (p : Program) (body : Tree) (start : Moment) (below : ℕ) (before : List Val) (taken : ℕ) (ss : List ℤ) (l : List (Spanned Val)) (calls : List UserCall) (most : ℕ) (starts : Bool) (result : Result Value Failure) (variant n nonterminal : ℕ) (at : Loc × Loc) : Type 0 where
  pub now : List Val
  pub many : ℕ
  pub few : many ≤ most
  pub keeps : Keeps below before now
  pub ends : EndsIn p (Eval body) start many (outcome_as starts result n nonterminal (over_two now taken calls ss (symbols_after starts result variant at l)))
