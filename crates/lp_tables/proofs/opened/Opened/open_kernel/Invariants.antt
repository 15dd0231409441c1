use Rattle.std.proofs.Common.{take}
use Rattle.lp_tables.specs.Opening.{FollowsKernel}
use Rattle.lp_tables.specs.Walk.{Marks}
use Rattle.lp_tables.proofs.opened.Opened.open_kernel.Given as goal

abbrev pub invariant-loop-item : goal.invariant-loop-item
invariant-loop-item l = Marks l.initial.self l.self (FollowsKernel l.rules.all.items (take l.item-index l.items))
