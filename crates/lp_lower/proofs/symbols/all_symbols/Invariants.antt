use Rattle.std.proofs.Common.{◌≡◌, map, take}
use Rattle.std.specs.List.{flat_map}
use Rattle.std.specs.Map.Iter.{deref}
use Rattle.lp_lower.specs.Symbols.{symbols_in}
use Rattle.lp_lower.proofs.symbols.all_symbols.Given as goal

abbrev pub invariant-loop-rule : goal.invariant-loop-rule
invariant-loop-rule l =
    map deref l.all.items ≡ flat_map symbols_in (take l.rule-index l.plain.rules)
