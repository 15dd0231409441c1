use Rattle.std.proofs.Common.{◌≡◌, map}
use Rattle.std.specs.Prelude.{string_bytes}
use Rattle.lp_machine.proofs.by_tables.texts_of.Given as goal

abbrev pub invariant-loop-name : goal.invariant-loop-name
invariant-loop-name l = map string_bytes l.texts.items ≡ l.yielded
