use Rattle.std.proofs.Common.{◌≡◌, take, bit_or, bit_and}
use Rattle.lp_sets.specs.Members.{spelled}
use Rattle.lp_sets.proofs.bits.Bits.add_common.Given as goal

-- what the words so far have in common with the other set was added
abbrev pub invariant-loop-place : goal.invariant-loop-place
invariant-loop-place l =
    bit_or l.initial.self (bit_and (spelled (take l.place l.word-items)) l.other) ≡ l.self
