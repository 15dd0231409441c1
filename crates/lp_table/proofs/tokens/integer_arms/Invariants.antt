-- The terminals so far, and those to come.
use Rattle.std.proofs.Common.{◌≡◌, ◌++◌, drop, map}
use Rattle.lp_build.specs.Tables.{integer_row as arm_row}
use Rattle.lp_table.specs.TokenLines.{integer_rows}
use Rattle.lp_table.proofs.tokens.integer_arms.Given as goal

abbrev pub invariant-loop-number : goal.invariant-loop-number
invariant-loop-number l =
    map arm_row l.arms.items ++ integer_rows l.grammar l.number (drop l.number l.terminals) ≡ integer_rows l.grammar 0 l.terminals
