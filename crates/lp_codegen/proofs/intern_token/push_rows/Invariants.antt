-- The rows so far.
use Rattle.std.proofs.Common.{◌≡◌, ◌++◌, map, take}
use Rattle.lp_codegen.specs.TokenModules.{entry_line}
use Rattle.lp_codegen.proofs.intern_token.push_rows.Given as goal

abbrev pub invariant-loop-entry : goal.invariant-loop-entry
invariant-loop-entry l = l.lines.items ≡ l.initial.lines.items ++ map entry_line (take l.entry-index l.entries)
