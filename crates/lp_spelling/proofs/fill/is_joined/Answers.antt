use Rattle.std.proofs.Common.{◌-◌, ◌+◌, arith, length, sym, ap, ◌∙◌}
use Rattle.lp_spelling.specs.Fillings.{is_joined, is_element, joined_within}
use Rattle.lp_spelling.proofs.Fitting.{joined_more, joined_wrong, joined_last, joined_over}
use Rattle.lp_spelling.proofs.fill.is_joined.Goals as goal

pub part_behind-rest-requires : goal.part_behind-rest-requires
part_behind-rest-requires c = sym c.holds.ensures ∙ c.if-not-holds.false

pub returns-then-not-holds : goal.returns-then-not-holds
unfolding is_joined
returns-then-not-holds c =
    let n = length c.args.text.now - (c.loop-i._i + 1) in
    c.is_element.ensures ∙ sym (joined_last (length c.args.text.now - c.loop-i._i) n _ _ _ c.loop-i.rest.now (omega arith) (sym c.holds.ensures ∙ c.if-not-holds.true)) ∙ c.loop-i.invariant

pub returns-then-not-is_element : goal.returns-then-not-is_element
unfolding is_joined
returns-then-not-is_element c =
    let n = length c.args.text.now - (c.loop-i._i + 1) in
    let wrong = ap (is_element c.args.prefix.now c.args.element) (sym c.part_before.ensures) ∙ sym c.is_element-in-loop-i.ensures ∙ c.if-not-is_element.true in
    sym (joined_wrong (length c.args.text.now - c.loop-i._i) n _ _ _ c.loop-i.rest.now (omega arith) (sym c.holds.ensures ∙ c.if-not-holds.false) wrong) ∙ c.loop-i.invariant

pub loop-i-preserved : goal.loop-i-preserved
loop-i-preserved c =
    let n = length c.args.text.now - (c.loop-i._i + 1) in
    let fits = ap (is_element c.args.prefix.now c.args.element) (sym c.part_before.ensures) ∙ sym c.is_element-in-loop-i.ensures ∙ c.if-not-is_element.false in
    ap (joined_within n c.args.prefix.now c.args.element c.args.separator.now) c.part_behind-rest.ensures
    ∙ sym (joined_more (length c.args.text.now - c.loop-i._i) n _ _ _ c.loop-i.rest.now (omega arith) (sym c.holds.ensures ∙ c.if-not-holds.false) fits)
    ∙ c.loop-i.invariant

pub returns : goal.returns
unfolding is_joined
returns c =
    sym (joined_over (length c.args.text.now - c.loop-i._i) c.args.prefix.now c.args.element c.args.separator.now c.loop-i.rest.now (omega arith)) ∙ c.loop-i.invariant
