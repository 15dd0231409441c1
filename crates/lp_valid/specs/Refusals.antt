-- What a refusal may name.
use Rattle.std.specs.Prelude.{◌≤◌}
use Rattle.lp_repr.specs.declared.repr.Grammar.{Grammar}
use Rattle.lp_valid.specs.ValidGrammar.{IsLeastFailure}
use Rattle.lp_valid.specs.declared.grammars.GrammarFault.{GrammarFault}
use Rattle.lp_valid.specs.declared.grammars.GrammarFault.TheVariants as grammar

-- a refusal of a grammar names one of the ten rules, and its place
abbrev pub RefusesGrammar : Grammar → GrammarFault → Type 0
RefusesGrammar g (grammar.Rule rule place) = (1 ≤ rule) × (rule ≤ 10) × IsLeastFailure g rule place
RefusesGrammar g grammar.Memory = Unit {0}
