use Rattle.std.proofs.Common.{◌≡◌, map, take}
use Rattle.lp_valid.specs.ProductionKeys.{key_of, production_key}
use Rattle.lp_valid.proofs.declared.keys.Given as goal

abbrev pub invariant-loop-production : goal.invariant-loop-production
invariant-loop-production l = map key_of l.all.items ≡ map (λ p. production_key p.now) (take l.production-index l.productions)
