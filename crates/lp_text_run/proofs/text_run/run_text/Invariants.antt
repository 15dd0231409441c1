use Rattle.std.proofs.Common.{string_bytes}
use Rattle.lp_text_run.specs.Blocks.{AreBlocks}
use Rattle.lp_text_run.proofs.text_run.run_text.Given as goal

-- the blocks of the lines so far
abbrev pub invariant-loop-i : goal.invariant-loop-i
invariant-loop-i l = AreBlocks l.program l.params l.lines l.i (string_bytes l.out)
