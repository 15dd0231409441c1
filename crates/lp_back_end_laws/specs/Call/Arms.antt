-- The arms of a state function's match on the lookahead, by the numbers of terminals and productions.
use Rattle.std.specs.Prelude.{◌≡◌, ℕ, ◌+◌, Bool, true, false, List, [], ◌∷◌, ◌++◌, map, Option, Some, None, slice_get, if◌then◌else◌}
use Rattle.std.specs.List.{flat_map, list_any}
use Rattle.std.specs.Str.{bytes_eq}
use Rattle.lp_repr.specs.Numbering.{productions_of}
use Rattle.lp_repr.specs.declared.lr1.Lr1State.{Lr1State}
use Rattle.lp_repr.specs.declared.lr1.Token.{Token}
use Rattle.lp_repr.specs.declared.lr1.Token.TheVariants.{Terminal, Eof}
use Rattle.lp_repr.specs.declared.repr.Grammar.{Grammar}
use Rattle.lp_repr.specs.declared.repr.Production.{Production}
use Rattle.lp_machine.specs.Lookup.{same_token}
use Rattle.lp_driver.specs.Values as values
use Rattle.lp_machine.specs.declared.lookup.KnownTerminal.{KnownTerminal}
use Rattle.lp_machine.specs.declared.lookup.Act.{Act}
use Rattle.lp_machine.specs.declared.lookup.Act.TheVariants.{Shift, ReduceBy, NoAction}
use Rattle.lp_ascent.specs.ReduceLines.{is_reduced}

-- the tokens on which an arm is taken, and what the state does there
abbrev pub Arm : Type 0
Arm = List Token × Act

abbrev pub shift_arm : ℕ × ℕ → Arm
shift_arm shift = (Terminal shift.0 ∷ [], Shift shift.1)

-- a reduction, where it is by the production of a number and has tokens
abbrev pub arm_by : ℕ → List Token × ℕ → List Arm
arm_by n reduction = if is_reduced n reduction then (reduction.0, ReduceBy reduction.1) ∷ [] else []

-- the reductions by these productions, from a number on
abbrev pub arms_by : List (List Token × ℕ) → ℕ → List Production → List Arm
arms_by reductions n [] = []
arms_by reductions n (p ∷ ps) = flat_map (arm_by n) reductions ++ arms_by reductions (n + 1) ps

-- the shifts, then the reductions by production
abbrev pub arms_of : Grammar → Lr1State → List Arm
arms_of g s = map shift_arm s.shifts.entries ++ arms_by s.reductions 0 (productions_of g)

-- a token is this one
abbrev pub is_one : Token → Token → Bool
is_one token other = same_token other token

-- the lookahead has a terminal's form
abbrev pub has_form : Option KnownTerminal → values.Token → Bool
has_form None x = false
has_form (Some k) x = bytes_eq k.form x.form

-- the lookahead is this token: it has the form of that terminal, or it is the end of the items
abbrev pub is_seen : List KnownTerminal → Option values.Token → Token → Bool
is_seen terminals None (Terminal n) = false
is_seen terminals None Eof = true
is_seen terminals (Some x) (Terminal n) = has_form (slice_get terminals n) x
is_seen terminals (Some x) Eof = false

-- the lookahead matches at most one of the terminals
abbrev pub IsMatchedOnce : List KnownTerminal → values.Token → Type 0
IsMatchedOnce terminals x = (i j : ℕ) (a b : KnownTerminal) → slice_get terminals i ≡ Some a → a.form ≡ x.form → slice_get terminals j ≡ Some b → b.form ≡ x.form → i ≡ j

-- an arm fits, by a test of its tokens
abbrev pub fits : (Token → Bool) → Arm → Bool
fits test arm = list_any test arm.0

-- what is done by the first arm that fits
abbrev pub taken : (Token → Bool) → List Arm → Act
taken test [] = NoAction
taken test (arm ∷ arms) = if fits test arm then arm.1 else taken test arms
