-- The lines so far.
use Rattle.std.proofs.Common.{◌≡◌, ◌++◌, map, take}
use Rattle.lp_write.specs.Headers.{listed}
use Rattle.lp_codegen.proofs.header.push_listed.Given as goal

abbrev pub invariant-loop-text : goal.invariant-loop-text
invariant-loop-text l =
    l.lines.items ≡ l.initial.lines.items ++ map (listed l.front) (take l.text-index l.texts)
