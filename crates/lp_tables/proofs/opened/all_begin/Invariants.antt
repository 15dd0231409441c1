use Rattle.std.proofs.Common.{ℕ, ◌<◌, IsTrue}
use Rattle.lp_tables.specs.ItemSets.{has}
use Rattle.lp_tables.specs.Opening.{IsOpenedAt}
use Rattle.lp_tables.proofs.opened.all_begin.Given as goal

abbrev pub invariant-loop-production : goal.invariant-loop-production
invariant-loop-production l =
    (k : ℕ) → k < l.production → IsOpenedAt l.rules.all.items l.marks k → IsTrue (has l.set k 0)
