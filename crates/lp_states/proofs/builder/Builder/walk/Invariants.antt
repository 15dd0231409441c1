use Rattle.std.proofs.Common.{◌≡◌, []}
use Rattle.lp_states.specs.Building.{IsBuilt}
use Rattle.lp_states.proofs.builder.Builder.walk.Given as goal

abbrev pub invariant-loop : goal.invariant-loop
invariant-loop l = record {
  closing : l.self.closing ≡ l.initial.self.closing;
  built : IsBuilt l.self.closing.rules.all.items l.nonterminal [] l.self;
}
