use Rattle.std.proofs.Common.{◌≡◌, ap, ◌∙◌, Some}
use Rattle.lp_repr.specs.ItemChoice.{popped_item}
use Rattle.lp_state_parts.proofs.Parts.{pushed_from}
use Rattle.lp_state_parts.proofs.state_parts.will_push.Goals as goal

pub returns-in-Some : goal.returns-in-Some
returns-in-Some c =
    let items = c.args.state.now.items in
    let e : Some c.in-Some.item.now ≡ popped_item items = c.in-Some.ensures ∙ ap popped_item c.as_slice.ensures in
    pushed_from c.args.grammar.now items (Some c.in-Some.item.now) _ e c.requires c.after_dot.ensures
