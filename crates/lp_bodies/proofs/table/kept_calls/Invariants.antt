-- The calls so far, and those for the terminals that are left; the answer of its step is `call_more` of `Calls`.
use Rattle.std.proofs.Common.{◌≡◌, ◌++◌, length, drop}
use Rattle.lp_bodies.specs.Tables.{kept_calls}
use Rattle.lp_bodies.proofs.table.kept_calls.Given as goal

abbrev pub invariant-loop-terminal : goal.invariant-loop-terminal
invariant-loop-terminal l =
    l.calls.items ++ kept_calls l.closure l.captured (length l.calls.items) (drop l.terminal-index l.terminals) ≡ kept_calls l.closure l.captured 0 l.terminals
