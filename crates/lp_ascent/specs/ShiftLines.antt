-- The shifts of a state.
use Rattle.std.specs.Prelude.{ℕ, ◌==◌, false, List, [], ◌∷◌, length, slice_get, Option, Some, None, if◌then◌else◌}
use Rattle.std.specs.BTreeMap.{get}
use Rattle.std.specs.List.{flat_map}
use Rattle.lp_repr.specs.NameOrder.{terminal_cmp}
use Rattle.lp_repr.specs.Numbering.{terminals_of}
use Rattle.lp_repr.specs.Shown.{pattern_text}
use Rattle.lp_repr.specs.declared.repr.Grammar.{Grammar}
use Rattle.lp_repr.specs.declared.repr.TerminalString.{TerminalString}
use Rattle.lp_repr.specs.declared.repr.TokenPattern.{TokenPattern}
use Rattle.lp_tree.specs.ProgramTree.{Item}
use Rattle.lp_build.specs.Ascent.{shift_holes, shift_part}
use Rattle.lp_build.specs.Built.{over}
use Rattle.lp_table.specs.TokenLines.{capture_names, named_pattern}
use Rattle.lp_ascent.specs.CallLines.{call_of}
use Rattle.lp_ascent.specs.Slots.{Layout, count_of}

-- the pattern of a terminal, and that of the terminal of a number
abbrev pub pattern_for : Grammar → Option TerminalString → Option TokenPattern
pattern_for g None = None
pattern_for g (Some terminal) = get terminal_cmp g.conversions terminal

abbrev pub pattern_at : Grammar → ℕ → Option TokenPattern
pattern_at g n = pattern_for g (slice_get (terminals_of g) n)

-- a pattern with names in its holes, and these names; one without holes has none
abbrev pub shifted_pattern : List ℕ → TokenPattern → List ℕ
shifted_pattern prefix p = if length p.holes == 0 then pattern_text p else named_pattern prefix p

abbrev pub shifted_names : List ℕ → TokenPattern → Option (List ℕ)
shifted_names prefix p = if length p.holes == 0 then None else Some (capture_names prefix (length p.holes))

-- the shift of a token of this pattern, with what is done then
abbrev pub shift_arm : List ℕ → ℕ → TokenPattern → List Item → List Item
shift_arm prefix symbol p below =
    over (shift_part (shifted_names prefix p)) (shift_holes (shifted_pattern prefix p) symbol (shifted_names prefix p)) below

-- a shift calls the function of the new state
abbrev pub shift_if : Grammar → List Layout → Layout → ℕ → Option TokenPattern → List Item
shift_if g ls l target None = []
shift_if g ls l target (Some p) = shift_arm g.prefix (count_of l) p (call_of g ls l target false)

-- the shift of the terminal of a number to a state, if the terminal has a pattern
abbrev pub shift_line : Grammar → List Layout → Layout → ℕ × ℕ → List Item
shift_line g ls l shift = shift_if g ls l shift.1 (pattern_at g shift.0)

unfoldable pub shift_lines : Grammar → List Layout → Layout → List (ℕ × ℕ) → List Item
shift_lines g ls l shifts = flat_map (shift_line g ls l) shifts
