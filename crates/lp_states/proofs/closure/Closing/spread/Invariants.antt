use Rattle.std.proofs.Common.{◌≡◌, ℕ, Some}
use Rattle.std.specs.BTreeMap.{get}
use Rattle.std.specs.Ordering.{nat_cmp}
use Rattle.lp_sets.specs.declared.tokens.TokenSet.{TokenSet}
use Rattle.lp_sets.specs.TokenSets.{HasToken}
use Rattle.lp_states.specs.ItemMaps.{ItemMap}
use Rattle.lp_states.specs.Asking.{AsksFor, IsSoundAsked, IsSpreadOrWork}
use Rattle.lp_states.proofs.closure.Closing.spread.Given as goal

abbrev pub invariant-loop : goal.invariant-loop
invariant-loop l = record {
  work : IsSpreadOrWork l.self.rules.all.items l.asked.sets l.asked.work.items;
  grows : (n : ℕ) (s : TokenSet) → get nat_cmp l.initial.asked.sets n ≡ Some s → AsksFor l.asked.sets n (HasToken s);
  sound : (kernel : ItemMap) → IsSoundAsked l.self.rules.all.items kernel l.initial.asked.sets → IsSoundAsked l.self.rules.all.items kernel l.asked.sets;
}
