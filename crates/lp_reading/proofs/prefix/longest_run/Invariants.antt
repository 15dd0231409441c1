use Rattle.std.proofs.Common.{take}
use Rattle.lp_reading.proofs.Runs.{RunsTo}
use Rattle.lp_reading.proofs.prefix.longest_run.Given as goal

-- the runs so far
abbrev pub invariant-loop-byte : goal.invariant-loop-byte
invariant-loop-byte l = RunsTo (take l.byte-index l.text) l.longest l.run
