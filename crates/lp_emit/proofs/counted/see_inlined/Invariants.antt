-- The symbols so far are counted.
use Rattle.std.proofs.Common.{◌≡◌, ◌<◌, ◌^◌, length, take}
use Rattle.std.specs.List.{flat_map}
use Rattle.lp_actions.specs.Parameters.{symbols_of}
use Rattle.lp_emit.proofs.counted.see_inlined.Given as goal

abbrev pub invariant-loop-symbol : goal.invariant-loop-symbol
invariant-loop-symbol l = (l.all ≡ length (flat_map symbols_of (take l.symbol-index l.symbols))) × (l.all < 2 ^ 64)
