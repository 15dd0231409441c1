-- The names so far.
use Rattle.std.proofs.Common.{◌≡◌, map, take}
use Rattle.std.specs.List.{flat_map}
use Rattle.std.specs.Map.Iter.{deref}
use Rattle.lp_parts.specs.Texts.{generic_name}
use Rattle.lp_parts.proofs.texts.generic_names.Given as goal

abbrev pub invariant-loop-parameter : goal.invariant-loop-parameter
invariant-loop-parameter l = map deref l.names.items ≡ flat_map generic_name (take l.parameter-index l.parameters)
