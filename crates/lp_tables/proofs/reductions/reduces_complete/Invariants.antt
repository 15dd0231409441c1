use Rattle.std.proofs.Common.{ℕ, List, take}
use Rattle.std.specs.List.{AllByRecursion}
use Rattle.lp_repr.specs.declared.lr1.Token.{Token}
use Rattle.lp_tables.specs.Reductions.{IsComplete}
use Rattle.lp_tables.proofs.reductions.reduces_complete.Given as goal

abbrev pub invariant-loop-production : goal.invariant-loop-production
invariant-loop-production l =
    AllByRecursion (λ (r : List Token × ℕ). IsComplete l.rules.all.items l.state.items r.1) (take l.production-index l.production-items)
