use Rattle.std.proofs.Common.{◌≡◌, ◌||◌, take}
use Rattle.lp_repr.specs.declared.repr.NonterminalString.{NonterminalString}
use Rattle.lp_valid.specs.Members.{has}
use Rattle.lp_valid.specs.StartRules.{stands_in}
use Rattle.lp_valid.proofs.starts.insert_right_side.Given as goal

abbrev pub invariant-loop-symbol : goal.invariant-loop-symbol
invariant-loop-symbol l = (q : NonterminalString) → has l.on_right q ≡ (has l.initial.on_right q || stands_in q (take l.symbol-index l.symbols))
