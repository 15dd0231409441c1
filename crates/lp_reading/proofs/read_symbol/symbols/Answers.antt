use Rattle.std.proofs.Common.{refl}
use Rattle.lp_reading.specs.Symbols.{symbols}
use Rattle.lp_types.proofs.Steps.{answers_as, where_no, where_yes}
use Rattle.lp_reading.proofs.read_symbol.symbols.Goals as goal

pub returns-then-passes : goal.returns-then-passes
unfolding symbols
returns-then-passes c = answers_as _ _ _ _ _ c.no_symbols.ensures (where_yes _ _ _ _ _ _ _ c.passes.ensures c.if-passes.true refl)

pub returns-else-passes : goal.returns-else-passes
unfolding symbols
returns-else-passes c = answers_as _ _ _ _ _ c.some_symbols.ensures (where_no _ _ _ _ _ _ _ c.passes.ensures c.if-passes.false refl)
