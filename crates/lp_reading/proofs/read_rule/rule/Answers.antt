use Rattle.std.proofs.Common.{ap, refl, sym}
use Rattle.lp_reading.specs.Rules.{rule}
use Rattle.lp_repr.specs.TypeTrees.{type_tree}
use Rattle.lp_types.proofs.Steps.{no_memory, part_fails, read_then}
use Rattle.lp_types.specs.Left.{left}
use Rattle.lp_types.specs.Reading.{Read}
use Rattle.lp_reading.proofs.read_rule.rule.Goals as goal

pub returns-in_err-id : goal.returns-in_err-id
unfolding rule
returns-in_err-id c = part_fails _ _ _ _ _ _ _ c.in_err-id.ensures c.from_residual.ensures.1 (read_then _ _ _ _ _ c.next_place-place.ensures refl)

pub returns-in_err-expect : goal.returns-in_err-expect
unfolding rule
returns-in_err-expect c = part_fails _ _ _ _ _ _ _ c.in_err-expect.ensures c.from_residual-in_err-expect.ensures.1 (read_then _ _ _ _ _ c.next_place-place.ensures (read_then _ _ _ _ _ c.in_ok-id.ensures refl))

pub returns-in_err-ty : goal.returns-in_err-ty
unfolding rule
returns-in_err-ty c = part_fails _ _ _ _ _ _ _ c.in_err-ty.ensures c.from_residual-in_err-ty.ensures.1 (read_then _ _ _ _ _ c.next_place-place.ensures (read_then _ _ _ _ _ c.in_ok-id.ensures (read_then _ _ _ _ _ c.in_ok-expect.ensures refl)))

pub returns-in_err-expect-2 : goal.returns-in_err-expect-2
unfolding rule
returns-in_err-expect-2 c = part_fails _ _ _ _ _ _ _ c.in_err-expect-2.ensures c.from_residual-in_err-expect-2.ensures.1 (read_then _ _ _ _ _ c.next_place-place.ensures (read_then _ _ _ _ _ c.in_ok-id.ensures (read_then _ _ _ _ _ c.in_ok-expect.ensures (read_then _ _ _ _ _ c.in_ok-ty.ensures refl))))

pub returns-in_err-alternatives : goal.returns-in_err-alternatives
unfolding rule
returns-in_err-alternatives c = part_fails _ _ _ _ _ _ _ c.in_err-alternatives.ensures c.from_residual-in_err-alternatives.ensures.1 (read_then _ _ _ _ _ c.next_place-place.ensures (read_then _ _ _ _ _ c.in_ok-id.ensures (read_then _ _ _ _ _ c.in_ok-expect.ensures (read_then _ _ _ _ _ c.in_ok-ty.ensures (read_then _ _ _ _ _ c.in_ok-expect-2.ensures refl)))))

pub returns-in_err-name : goal.returns-in_err-name
returns-in_err-name c = no_memory _ _ _ _ c.from_residual-in_err-name.ensures.1

pub returns : goal.returns
unfolding rule
returns c = read_then _ _ _ _ _ c.next_place-place.ensures (read_then _ _ _ _ _ c.in_ok-id.ensures (read_then _ _ _ _ _ c.in_ok-expect.ensures (read_then _ _ _ _ _ c.in_ok-ty.ensures (read_then _ _ _ _ _ c.in_ok-expect-2.ensures (read_then _ _ _ _ _ c.in_ok-alternatives.ensures (ap (λ name. Read (record { public = c.args.public; inline = c.args.inline; name = record { 0 = name }; ty = type_tree c.in_ok-ty.ty; alternatives = c.in_ok-alternatives.alternatives.items; place = c.next_place-place.result }) (left c.rule_body.new.reader)) (sym c.in_ok-name.ensures)))))))
