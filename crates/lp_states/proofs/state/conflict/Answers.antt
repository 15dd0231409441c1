use Rattle.lp_repr.specs.declared.lr1.Token.{Token}
use Rattle.lp_states.specs.Actions.{ActsTwice}
use Rattle.lp_states.proofs.FirstToken.{first_token}
use Rattle.lp_states.proofs.state.conflict.Goals as goal

pub returns : goal.returns
returns c =
    rw (c.copied.ensures, c.first.ensures.value, c.deref.ensures.value) (first_token (λ (t : Token). ActsTwice c.args.rules.now.all.items c.args.items.now.entries t) c.in_ok-twice.twice c.in_ok-tokens.field-0.items c.in_ok-tokens.ensures c.in_ok-twice.ensures)
