use Rattle.std.proofs.Common.{map, ap, ◌∙◌}
use Rattle.lp_repr.specs.TypeTrees.{trees_of, type_tree}
use Rattle.lp_lower.proofs.Pairs.{pair_alike}
use Rattle.lp_lower.proofs.copies.copy_pattern.Goals as goal

pub returns : goal.returns
returns c = pair_alike _ _ _ _ c.in_ok-pieces.ensures (ap trees_of (c.in_ok-holes.ensures ∙ ap (map type_tree) c.as_slice.ensures))
