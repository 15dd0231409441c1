use Rattle.std.proofs.Common.{List, ◌++◌}
use Rattle.lp_repr.specs.declared.lr1.Item.{Item}
use Rattle.lp_states.specs.Actions.{ShowsItems}
use Rattle.lp_states.proofs.state.shown_items.Given as goal

-- what shows the items that are left shows all behind those so far
abbrev pub invariant-loop-item : goal.invariant-loop-item
invariant-loop-item l =
    (more : List Item) → ShowsItems l.item-iterator more → ShowsItems l.items.entries (l.shown.items ++ more)
