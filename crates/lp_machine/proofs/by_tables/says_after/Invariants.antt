use Rattle.std.proofs.Common.{◌≡◌, ◌-◌, Some}
use Rattle.lp_machine.specs.TablesView.{tables_of}
use Rattle.lp_machine.specs.ExpectedList.{says_after, verdict}
use Rattle.lp_machine.proofs.by_tables.says_after.Given as goal

-- what the reductions that are left make of what it says so far
abbrev pub invariant-loop-looked : goal.invariant-loop-looked
invariant-loop-looked l =
    says_after (tables_of l.tables) (l.n - l.looked) (Some l.terminal) l.says ≡ says_after (tables_of l.tables) l.n (Some l.terminal) (verdict (tables_of l.tables) l.stack (Some l.terminal))
