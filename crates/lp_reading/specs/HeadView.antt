-- What stands before the rules, as its trees.
use Rattle.std.specs.Prelude.{map}
use Rattle.lp_repr.specs.TypeTrees.{clause_tree}
use Rattle.lp_reading.specs.declared.read_head.Head.{Head}
use Rattle.lp_reading.specs.declared.read_head.Lists.{Lists}
use Rattle.lp_reading.specs.Heads.{HeadTree, ListsTree, parameter_tree}

abbrev pub lists_tree : Lists → ListsTree
lists_tree l = record { type_parameters = l.type_parameters.items; parameters = map parameter_tree l.parameters.items; where_clauses = map clause_tree l.where_clauses.items }

abbrev pub head_tree : Head → HeadTree
head_tree h = record { attributes = h.attributes.items; uses = h.uses.items; codegen = h.codegen; lists = lists_tree h.lists }
