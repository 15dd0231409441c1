use Rattle.std.proofs.Common.{◌↔◌, ◌⊎◌}
use Rattle.lp_repr.specs.declared.lr1.Token.{Token}
use Rattle.lp_sets.specs.TokenSets.{HasToken}
use Rattle.lp_states.specs.Actions.{Shifted}
use Rattle.lp_states.proofs.state.shifted.Given as goal

-- what was found and what is left give all
abbrev pub invariant-loop-item : goal.invariant-loop-item
invariant-loop-item l =
    (t : Token) → (HasToken l.shifted t ⊎ Shifted l.rules.all.items l.item-iterator t) ↔ Shifted l.rules.all.items l.items.entries t
