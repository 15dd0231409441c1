use Rattle.std.proofs.Common.{ℕ, List}
use Rattle.lp_emit.proofs.Firsts.{IsFirstBelow, IsLeastBelow, found}
use Rattle.lp_emit.proofs.clash.least_repeat.Given as goal

abbrev pub invariant-loop-place : goal.invariant-loop-place
invariant-loop-place l =
    ((q : List ℕ) → IsFirstBelow l.texts l.place q (found l.firsts q)) × IsLeastBelow l.texts l.place l.least
