use Rattle.std.proofs.Common.{◌≡◌, map, drop}
use Rattle.lp_repr.specs.NameOrder.{terminal_cmp}
use Rattle.lp_lower.specs.Lowering.{declared_type, type_entry}
use Rattle.lp_lower.specs.Productions.{put_all}
use Rattle.lp_lower.proofs.tables.put_declared_types.Given as goal

-- what is put and what is to come
abbrev pub invariant-loop-terminal : goal.invariant-loop-terminal
invariant-loop-terminal l =
    put_all terminal_cmp (map type_entry l.types.entries) (map (declared_type l.plain) (drop l.terminal-index l.plain.conversions)) ≡ put_all terminal_cmp (map type_entry l.initial.types.entries) (map (declared_type l.plain) l.plain.conversions)
