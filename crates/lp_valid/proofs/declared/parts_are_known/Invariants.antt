use Rattle.std.proofs.Common.{◌≡◌, true, take}
use Rattle.std.specs.List.{list_all}
use Rattle.lp_valid.specs.Members.{holds}
use Rattle.lp_valid.specs.SymbolRules.{part_is_known_by}
use Rattle.lp_valid.proofs.declared.parts_are_known.Given as goal

abbrev pub invariant-loop-part : goal.invariant-loop-part
invariant-loop-part l = list_all (part_is_known_by l.grammar (holds l.terminals)) (take l.part-index l.parts) ≡ true
