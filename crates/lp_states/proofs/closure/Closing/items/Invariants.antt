use Rattle.std.specs.BTreeMap.{IsOrdered}
use Rattle.lp_states.specs.ItemMaps.{item_cmp}
use Rattle.lp_states.proofs.ClosureSteps.{ClosedBelow}
use Rattle.lp_states.proofs.closure.Closing.items.Given as goal

abbrev pub invariant-loop-production : goal.invariant-loop-production
invariant-loop-production l = record {
  closed : ClosedBelow l.self.rules.all.items l.kernel l.asked.sets l.production l.items;
  ordered : IsOrdered item_cmp l.items;
}
