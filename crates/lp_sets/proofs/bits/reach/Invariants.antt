use Rattle.std.proofs.Common.{◌≡◌, ◌+◌, ◌-◌, vec_len}
use Rattle.lp_sets.specs.Members.{spelled, AreNumberedWords}
use Rattle.lp_sets.proofs.bits.reach.Given as goal

abbrev pub invariant-loop-words : goal.invariant-loop-words
invariant-loop-words l = AreNumberedWords l.words.items × (spelled l.words.items ≡ spelled l.initial.words.items)

abbrev pub decreases-loop-words : goal.decreases-loop-words
decreases-loop-words l = l.place + 1 - vec_len l.words
