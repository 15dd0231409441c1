use Rattle.std.proofs.Common.{◌≡◌, ◌<◌, ◌≤◌, take, bit_or, true, false}
use Rattle.lp_sets.specs.Members.{spelled}
use Rattle.lp_sets.proofs.bits.Bits.union.Given as goal

-- the words so far were added, and the set is larger where any was new
abbrev pub invariant-loop-place : goal.invariant-loop-place
invariant-loop-place l =
    (bit_or l.initial.self (spelled (take l.place l.word-items)) ≡ l.self) × (l.grew ≡ false → l.self ≡ l.initial.self)
    × (l.initial.self ≤ l.self) × (l.grew ≡ true → l.initial.self < l.self)
