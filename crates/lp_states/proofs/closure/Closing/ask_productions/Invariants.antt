use Rattle.std.proofs.Common.{◌<◌, ℕ}
use Rattle.lp_repr.specs.Closure.{HasLeft}
use Rattle.lp_states.specs.ItemMaps.{ItemMap}
use Rattle.lp_states.specs.Asking.{Covers, IsSoundItem, IsSoundAsked, Widens}
use Rattle.lp_states.proofs.closure.Closing.ask_productions.Given as goal

-- the productions so far ask for what was asked
abbrev pub invariant-loop-production : goal.invariant-loop-production
invariant-loop-production l = record {
  widens : Widens l.initial.asked.sets l.initial.asked.work.items l.asked.sets l.asked.work.items;
  covers : (q : ℕ) → q < l.production → HasLeft l.self.rules.all.items q l.nonterminal → Covers l.self.rules.all.items l.asked.sets q 0 l.lookaheads;
  sound : (kernel : ItemMap) → ((q : ℕ) → HasLeft l.self.rules.all.items q l.nonterminal → IsSoundItem l.self.rules.all.items kernel q 0 l.lookaheads) → IsSoundAsked l.self.rules.all.items kernel l.initial.asked.sets → IsSoundAsked l.self.rules.all.items kernel l.asked.sets;
}
