use Rattle.std.proofs.Common.{◌≡◌, sym, ap, ◌∙◌, None, Some}
use Rattle.lp_repr.specs.ItemChoice.{popped_item}
use Rattle.lp_state_parts.proofs.Parts.{part_of, popped_part}
use Rattle.lp_state_parts.proofs.state_parts.will_pop.Goals as goal

pub returns-in-None : goal.returns-in-None
returns-in-None c =
    let items = c.args.state.now.items in
    let e : popped_item items ≡ None = ap popped_item (sym c.as_slice.ensures) ∙ sym c.in-None.ensures in
    sym (popped_part c.args.grammar.now items c.requires ∙ ap (part_of c.args.grammar.now) e)

pub returns-in-Some : goal.returns-in-Some
returns-in-Some c =
    let items = c.args.state.now.items in
    let e : popped_item items ≡ Some c.in-Some.item.now = ap popped_item (sym c.as_slice.ensures) ∙ sym c.in-Some.ensures in
    c.before_dot.ensures ∙ sym (popped_part c.args.grammar.now items c.requires ∙ ap (part_of c.args.grammar.now) e)
