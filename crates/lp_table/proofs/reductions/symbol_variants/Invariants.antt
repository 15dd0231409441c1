-- The variants so far.
use Rattle.std.proofs.Common.{◌≡◌, map, take}
use Rattle.lp_table.specs.ReductionLines.{symbol_variant}
use Rattle.lp_table.proofs.reductions.symbol_variants.Given as goal

abbrev pub invariant-loop-symbol : goal.invariant-loop-symbol
invariant-loop-symbol l = l.variants.items ≡ map (symbol_variant l.shared.grammar.now) (take l.symbol-index l.symbols)
