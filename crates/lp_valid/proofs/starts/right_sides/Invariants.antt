use Rattle.std.proofs.Common.{◌≡◌, take}
use Rattle.std.specs.List.{list_any}
use Rattle.lp_repr.specs.declared.repr.NonterminalString.{NonterminalString}
use Rattle.lp_valid.specs.Members.{has}
use Rattle.lp_valid.specs.StartRules.{stands_in}
use Rattle.lp_valid.proofs.starts.right_sides.Given as goal

abbrev pub invariant-loop-production : goal.invariant-loop-production
invariant-loop-production l = (q : NonterminalString) → has l.on_right q ≡ list_any (λ p. stands_in q p.now.symbols) (take l.production-index l.productions)
