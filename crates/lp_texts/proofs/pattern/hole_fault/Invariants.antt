use Rattle.std.proofs.Common.{◌≡◌, ℕ, ◌<◌, ◌≤◌, length, take, string_bytes}
use Rattle.lp_texts.specs.Brackets.{IsOutside}
use Rattle.lp_texts.specs.Pattern.{joined, IsWrongHole}
use Rattle.lp_texts.proofs.pattern.hole_fault.Given as goal

abbrev pub invariant-loop-i : goal.invariant-loop-i
invariant-loop-i l =
    (string_bytes l.before ≡ joined (take l.i l.pieces))
    × ((j : ℕ) (h : IsWrongHole l.pieces j) → h.number < l.i → ⊥)
    × (l.at ≤ length (string_bytes l.before))
    × IsOutside l.text l.at
