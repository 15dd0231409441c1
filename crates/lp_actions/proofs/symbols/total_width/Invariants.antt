-- The width of the symbols so far.
use Rattle.std.proofs.Common.{◌≡◌, take}
use Rattle.lp_actions.specs.Inlines.{total_width}
use Rattle.lp_actions.proofs.symbols.total_width.Given as goal

abbrev pub invariant-loop-symbol : goal.invariant-loop-symbol
invariant-loop-symbol l = l.total ≡ total_width (take l.symbol-index l.symbols)
