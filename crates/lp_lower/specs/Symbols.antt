-- The symbols of a plain grammar.
use Rattle.std.specs.Prelude.{List}
use Rattle.std.specs.List.{flat_map}
use Rattle.lp_syntax.specs.declared.plain.PlainGrammar.{PlainGrammar}
use Rattle.lp_syntax.specs.declared.plain.PlainRule.{PlainRule}
use Rattle.lp_syntax.specs.declared.plain.PlainSymbol.{PlainSymbol}

-- of a rule
abbrev pub symbols_in : PlainRule → List PlainSymbol
symbols_in r = flat_map (λ a. a.symbols) r.alternatives

-- of the grammar
abbrev pub symbols_of : PlainGrammar → List PlainSymbol
symbols_of g = flat_map symbols_in g.rules
