use Rattle.std.proofs.Common.{◌≡◌, ◌≤◌, length, drop}
use Rattle.std.specs.Option.{option_copied}
use Rattle.lp_repr.specs.ItemChoice.{longest_item}
use Rattle.lp_state_parts.proofs.state_parts.longest.Given as goal

abbrev pub invariant-loop-i : goal.invariant-loop-i
invariant-loop-i l = (l.i ≤ length l.items) × (option_copied l.best ≡ longest_item (drop l.i l.items))

abbrev pub decreases-loop-i : goal.decreases-loop-i
decreases-loop-i l = l.i
