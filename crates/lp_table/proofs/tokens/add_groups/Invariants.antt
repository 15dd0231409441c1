-- What stood there, and the arms so far.
use Rattle.std.proofs.Common.{◌≡◌, ◌++◌, map, take}
use Rattle.std.specs.List.{flat_map}
use Rattle.lp_tree.specs.ProgramTree.{items}
use Rattle.lp_table.specs.KnownTerminals.{known_as}
use Rattle.lp_table.specs.TokenLines.{group_arm}
use Rattle.lp_table.proofs.tokens.add_groups.Given as goal

abbrev pub invariant-loop-group : goal.invariant-loop-group
invariant-loop-group l =
    flat_map items l.nodes.items
    ≡ flat_map items l.initial.nodes.items ++ flat_map (group_arm l.prefix (map known_as l.known)) (take l.group-index l.groups)
