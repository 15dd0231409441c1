-- The items so far.
use Rattle.std.proofs.Common.{◌≡◌, ◌∷◌}
use Rattle.lp_generated.specs.Generated.{each_below, level_items, number_item}
use Rattle.lp_generated.proofs.items.make_items.Given as goal

abbrev pub invariant-loop-level : goal.invariant-loop-level
invariant-loop-level l = l.items.items ≡ number_item 0 ∷ each_below level_items l.level
