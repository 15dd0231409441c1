use Rattle.std.proofs.Common.{◌≡◌, map}
use Rattle.std.specs.Prelude.{string_bytes}
use Rattle.lp_turns.proofs.readings.strings_of.Given as goal

abbrev pub invariant-loop-text : goal.invariant-loop-text
invariant-loop-text l = map string_bytes l.strings.items ≡ l.yielded
