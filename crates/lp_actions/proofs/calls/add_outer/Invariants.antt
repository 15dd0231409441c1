-- The arguments so far, and those to come.
use Rattle.std.proofs.Common.{◌≡◌, ◌≤◌, ◌++◌, drop}
use Rattle.lp_actions.specs.Inlines.{outer_from}
use Rattle.lp_actions.proofs.calls.add_outer.Given as goal

abbrev pub invariant-loop-symbol : goal.invariant-loop-symbol
invariant-loop-symbol l = record {
  counted : l.number ≤ l.symbol-index;
  added : l.pieces.items ++ outer_from l.prefix l.number l.before (drop l.symbol-index l.symbols)
      ≡ l.initial.pieces.items ++ outer_from l.prefix 0 0 l.symbols;
}
