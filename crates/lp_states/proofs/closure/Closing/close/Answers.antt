use Rattle.lp_states.specs.ItemMaps.{IsClosureOf, item_cmp, lookaheads_at, closed_at}
use Rattle.std.specs.BTreeMap.{IsOrdered}
use Rattle.std.proofs.Common.{◌≡◌, ℕ}
use Rattle.lp_states.proofs.Closures.{IsClosureOf-from_asked}
use Rattle.lp_states.proofs.AskingSteps.{covered_grown}
use Rattle.lp_states.proofs.Results.{both_if_ok}
use Rattle.lp_states.proofs.closure.Closing.close.Goals as goal

pub returns : goal.returns
returns c =
    let rules = c.args.self.now.rules.all.items in
    let kernel = c.args.kernel.now in
    let sets = c.spread.new.asked.sets in
    both_if_ok c.items.result (λ m. (p d : ℕ) → lookaheads_at m p d ≡ closed_at rules kernel sets p d) (IsOrdered item_cmp) (IsClosureOf rules kernel) (λ m exact ordered. IsClosureOf-from_asked rules kernel m sets (covered_grown rules kernel c.in_ok-asked.asked.sets sets c.in_ok-spread.ensures.grows c.in_ok-asked.ensures.covers) c.in_ok-spread.ensures.spread (c.in_ok-spread.ensures.sound kernel c.in_ok-asked.ensures.sound) exact ordered) c.items.ensures.exact c.items.ensures.ordered
