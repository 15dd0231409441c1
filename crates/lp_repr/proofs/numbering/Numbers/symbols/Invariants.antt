use Rattle.std.proofs.Common.{◌≡◌, map, take}
use Rattle.lp_repr.specs.Numbering.{number_or_count}
use Rattle.lp_repr.proofs.numbering.Numbers.symbols.Given as goal

abbrev pub invariant-loop-symbol : goal.invariant-loop-symbol
invariant-loop-symbol l =
    l.all.items ≡ map (number_or_count l.self.grammar.now) (take l.symbol-index l.symbols)
