use Rattle.std.proofs.Common.{◌≡◌, sym, ap, ◌∙◌, None, Some}
use Rattle.lp_repr.specs.ItemChoice.{longest_item}
use Rattle.lp_state_parts.proofs.Parts.{part_of, longest_part}
use Rattle.lp_state_parts.proofs.state_parts.max_prefix.Goals as goal

pub returns-in-None : goal.returns-in-None
returns-in-None c =
    let items = c.args.state.now.items in
    let e : longest_item items ≡ None = ap longest_item (sym c.as_slice.ensures) ∙ sym c.in-None.ensures in
    sym (longest_part c.args.grammar.now items c.requires ∙ ap (part_of c.args.grammar.now) e)

pub returns-in-Some : goal.returns-in-Some
returns-in-Some c =
    let items = c.args.state.now.items in
    let e : longest_item items ≡ Some c.in-Some.item.now = ap longest_item (sym c.as_slice.ensures) ∙ sym c.in-Some.ensures in
    c.before_dot.ensures ∙ sym (longest_part c.args.grammar.now items c.requires ∙ ap (part_of c.args.grammar.now) e)
