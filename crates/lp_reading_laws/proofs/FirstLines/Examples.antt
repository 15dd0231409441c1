-- Worked examples: lines that are told apart at their front, at their end, by a line behind them, and by what a hole may hold.
use Rattle.std.proofs.Common.{◌≡◌, ℕ, true, false, List, [], ◌∷◌, get_or, codes, Option, Some, refl}
use Rattle.lp_form.specs.Classes.{members_of}
use Rattle.lp_form.specs.Templates.{Piece, steps_of, holes_of}
use Rattle.lp_form.specs.declared.class.Class.TheVariants as class
use Rattle.lp_form.specs.declared.part.Part.{Part}
use Rattle.lp_form.specs.declared.part.Part.TheVariants as part
use Rattle.lp_form.specs.declared.template.Slot.TheVariants.{Nothing}
use Rattle.lp_form.specs.declared.template.Step.TheVariants as step
use Rattle.lp_spelling.specs.Lines.{line_of}
use Rattle.lp_spelling.specs.HoleEnds.{first_at, left_by, times, is_alone, kind_len, hole_len}
use Rattle.lp_spelling.specs.Fillings.{are_filled, fits_behind}
use Rattle.lp_spelling.specs.LineReading.{after, new_at, slot_at, line_at}
use Rattle.lp_reading_laws.specs.FirstLines.ApartTests.{lines_apart, ends_apart, fronts_apart, is_apart_from, parts_apart}
use Rattle.lp_reading_laws.specs.FirstLines.Signs.{signs}
use Rattle.lp_reading_laws.specs.FirstLines.Behind.{class_tails, Follow}

-- the line of a part's step
abbrev pieces : Part → ℕ → List Piece
pieces p i = (get_or (steps_of p) i (step.Empty, [])).1

-- what is read of a line by it, where nothing is known
abbrev read : Part → ℕ → List ℕ → Option (List (List ℕ))
read p i line = line_at (codes "__") (holes_of p) (pieces p i) [] line

-- the first line of a production that is reduced in place is that of one with a function of its own; the next line tells
first_same : read part.ReduceCallArm 0 (codes "3 => {") ≡ Some (codes "3" ∷ [])
unfolding steps_of holes_of line_at slot_at new_at after hole_len is_alone left_by times kind_len first_at
first_same = refl

next_apart : ends_apart (pieces part.ReduceCallArm 1) (pieces part.SpanEmpty 0) ≡ true
unfolding steps_of
next_apart = refl

-- so the two are told, by what follows the first line
body_apart : is_apart_from part.ReduceCallArm part.ReduceBodyArm ≡ true
unfolding members_of steps_of holes_of lines_apart
body_apart = refl

-- a pattern whose names are captures begins with one, or not with the prefix
capture_fits : are_filled (codes "__") (codes "__tok0") ≡ true
unfolding are_filled fits_behind
capture_fits = refl

whole_not : are_filled (codes "__") (codes "__tok @ x") ≡ false
unfolding are_filled fits_behind
whole_not = refl

-- the front of both is the same, up to that pattern
shifts_apart : fronts_apart (signs (holes_of part.ShiftWhole) (pieces part.ShiftWhole 0)) (signs (holes_of part.ShiftArm) (pieces part.ShiftArm 0)) ≡ true
unfolding steps_of holes_of
shifts_apart = refl

shifts_end : ends_apart (pieces part.ShiftWhole 0) (pieces part.ShiftArm 0) ≡ false
unfolding steps_of
shifts_end = refl

-- of parts in the other order nothing is asked
other_order : is_apart_from part.ShiftArm part.ShiftWhole ≡ false
unfolding members_of steps_of holes_of lines_apart
other_order = refl

-- the body of an action is not told by its lines
bodies_not : parts_apart (members_of class.ActionBody) ≡ false
unfolding members_of steps_of holes_of lines_apart
bodies_not = refl

-- where a header ends, its clauses and a further clause may be missing
header_tails : class_tails class.HeaderState ≡ class.Clauses ∷ class.ClauseRow ∷ []
unfolding members_of steps_of
header_tails = refl

-- what follows the last step of a part may be its last line
end_follows : Follow 0 (codes "__") [] ((step.Line 0, (codes "}", Nothing) ∷ []) ∷ []) (codes "}" ∷ [])
unfolding line_of
end_follows = (refl, tt)
