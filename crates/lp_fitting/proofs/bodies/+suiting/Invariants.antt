-- What is left to look at: what stands below a part, and the trees from a place on.
use Rattle.std.proofs.Common.{◌≡◌, ◌↔◌, ◌+◌, ◌*◌, ◌≤◌, [], length, map, take}
use denote.Shadow.{shadow}
use denote.Text.{Utf8}
use Rattle.lp_program.specs.Parameters.{last_parameter}
use Rattle.lp_program.specs.Trees.{content, forest}
use Rattle.lp_fitting.specs.Bodies.{BodiesSuit}
use Rattle.lp_fitting.proofs.Walking.{SuitFrom}
use Rattle.lp_fitting.proofs.bodies.+suiting.Given as goal

abbrev pub decreases-tree_suits : goal.decreases-tree_suits
decreases-tree_suits l = 2 * length l.below.now + 1

abbrev pub decreases-trees_suit : goal.decreases-trees_suit
decreases-trees_suit l = 2 * length l.entries.now

abbrev pub invariant-trees_suit-loop-at : goal.invariant-trees_suit-loop-at
invariant-trees_suit-loop-at l = record {
  reached : l.at ≤ l.next;
  within : l.next ≤ length l.entries;
  last : l.last ≡ last_parameter [] (map content (take l.at l.entries));
  text : shadow (Utf8 l.last);
  told : BodiesSuit l.prefix [] (forest l.entries) ↔ SuitFrom l.prefix l.entries l.next;
}
