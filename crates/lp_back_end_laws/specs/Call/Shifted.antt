-- Terminals that tables shift, and their patterns.
use Rattle.std.specs.Prelude.{◌≡◌, ℕ, ◌<◌, List, length, Some, slice_get}
use Rattle.lp_repr.specs.Numbering.{terminals_of}
use Rattle.lp_repr.specs.declared.lr1.Lr1State.{Lr1State}
use Rattle.lp_repr.specs.declared.repr.Grammar.{Grammar}
use Rattle.lp_repr.specs.declared.repr.TerminalString.{TerminalString}
use Rattle.lp_repr.specs.declared.repr.TokenPattern.{TokenPattern}
use Rattle.lp_repr.specs.Shown.{pattern_text}
use Rattle.lp_maker.specs.Patterns.{form_of}
use Rattle.lp_ascent.specs.ShiftLines.{pattern_at, shifted_pattern}
use Rattle.lp_table.specs.TokenLines.{own_pattern}
use Rattle.lp_question_laws.specs.Tokens.Told.{IsTold}

-- a state shifts the terminal of this number
pub record IsShifted (states : List Lr1State) (n : ℕ) : Type 0 where
  pub number : ℕ
  pub state : Lr1State
  pub there : slice_get states number ≡ Some state
  pub place : ℕ
  pub target : ℕ
  pub entry : slice_get state.shifts.entries place ≡ Some (n, target)

-- the printed pattern of a shift is read as the terminal's text
abbrev pub IsReadAsText : Grammar → ℕ → Type 0
IsReadAsText g n = (p : TokenPattern) → pattern_at g n ≡ Some p → form_of g.prefix (shifted_pattern g.prefix p) ≡ form_of g.prefix (pattern_text p)

abbrev pub AreShiftsRead : Grammar → List Lr1State → Type 0
AreShiftsRead g states = (n : ℕ) → IsShifted states n → IsReadAsText g n

-- a shift of a terminal that is there, and is read so
abbrev pub IsShiftRead : Grammar → ℕ × ℕ → Type 0
IsShiftRead g shift = (shift.0 < length (terminals_of g)) × IsReadAsText g shift.0

-- each pattern that has a hole is told, where a state shifts its terminal
abbrev pub AreShiftsTold : Grammar → List Lr1State → Type 0
AreShiftsTold g states = (i : ℕ) (t : TerminalString) (p : TokenPattern) → IsShifted states i → slice_get (terminals_of g) i ≡ Some t → own_pattern g t ≡ Some p → 0 < length p.holes → IsTold g.prefix p
