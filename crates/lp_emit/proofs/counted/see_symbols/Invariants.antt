-- The symbols of the productions so far are counted.
use Rattle.std.proofs.Common.{take}
use Rattle.std.specs.Prelude.{All}
use Rattle.lp_back_end_laws.specs.Filled.InMemory.{IsProductionInMemory}
use Rattle.lp_emit.proofs.counted.see_symbols.Given as goal

abbrev pub invariant-loop-production : goal.invariant-loop-production
invariant-loop-production l = All (λ p. IsProductionInMemory p.now) (take l.production-index l.productions)
