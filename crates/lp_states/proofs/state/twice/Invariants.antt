use Rattle.std.proofs.Common.{◌↔◌}
use Rattle.lp_repr.specs.declared.lr1.Token.{Token}
use Rattle.lp_states.specs.Actions.{ActsTwice}
use Rattle.lp_states.proofs.ActionSteps.{TwiceLeft}
use Rattle.lp_states.proofs.state.twice.Given as goal

-- what was found and what is left give all
abbrev pub invariant-loop-item : goal.invariant-loop-item
invariant-loop-item l =
    (t : Token) → TwiceLeft l.rules.all.items l.twice l.once l.item-iterator t ↔ ActsTwice l.rules.all.items l.items.entries t
