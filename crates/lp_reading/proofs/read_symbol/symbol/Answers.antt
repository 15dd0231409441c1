use Rattle.std.proofs.Common.{refl}
use Rattle.lp_reading.specs.Symbols.{symbol}
use Rattle.lp_types.proofs.Steps.{answers_as, where_no, where_yes}
use Rattle.lp_reading.proofs.read_symbol.symbol.Goals as goal

pub returns-then-passes : goal.returns-then-passes
unfolding symbol
returns-then-passes c = answers_as _ _ _ _ _ c.named_symbol.ensures (where_yes _ _ _ _ _ _ _ c.passes.ensures c.if-passes.true refl)

pub returns-else-passes : goal.returns-else-passes
unfolding symbol
returns-else-passes c = answers_as _ _ _ _ _ c.bare_symbol.ensures (where_no _ _ _ _ _ _ _ c.passes.ensures c.if-passes.false refl)
