-- what each reader answers, from what its parts answer
use Rattle.std.proofs.Common.{◌≡◌, arith, refl, sym, ap, ◌∙◌, map, suc}
use Rattle.std.specs.Option.{option_map}
use Rattle.lp_repr.specs.TypeTrees.{type_tree, lifetime_type, slice_type, reference_type, name_of}
use Rattle.lp_repr.proofs.TreeRows.{tuple_treed}
use Rattle.lp_types.specs.Left.{left}
use Rattle.lp_types.specs.Reading.{Read, lacks_memory}
use Rattle.lp_types.specs.Types.{argument_by, arguments_by, named_by, reference_by, slice_by, tuple_by, type_by, type_within, types_by}
use Rattle.lp_types.proofs.Lists.{begun, one_more_seen, ended, broke, ran_out}
use Rattle.lp_types.proofs.Steps.{read_then, where_yes, where_no, part_fails, handed_on, no_memory, fails_here, answers_as}
use Rattle.lp_types.proofs.reader.Reader.+type_reading.Goals as goal

pub ty-returns-in-None : goal.ty-returns-in-None
ty-returns-in-None t c = lacks_memory

pub ty-returns-in-Some : goal.ty-returns-in-Some
unfolding type_within
ty-returns-in-Some t c =
    let h = c.in-Some.ensures in
    let e : c.args.depth ≡ suc c.in-Some.inner = omega arith in
    answers_as _ _ _ _ _ c.shallow_type.ensures (ap (λ d. type_within d (left c.args.self.now)) e)

pub shallow_type-returns-then-is_tuple : goal.shallow_type-returns-then-is_tuple
unfolding type_by
shallow_type-returns-then-is_tuple t c = answers_as _ _ _ _ _ c.tuple.ensures (where_yes _ _ _ _ _ _ _ c.passes-is_tuple.ensures c.if-is_tuple.true refl)

pub shallow_type-returns-then-is_slice : goal.shallow_type-returns-then-is_slice
unfolding type_by
shallow_type-returns-then-is_slice t c = answers_as _ _ _ _ _ c.slice.ensures
    (where_no _ _ _ _ _ _ _ c.passes-is_tuple.ensures c.if-is_tuple.false
    (where_yes _ _ _ _ _ _ _ c.passes-is_slice.ensures c.if-is_slice.true refl))

pub shallow_type-returns-then-is_reference : goal.shallow_type-returns-then-is_reference
unfolding type_by
shallow_type-returns-then-is_reference t c = answers_as _ _ _ _ _ c.reference.ensures
    (where_no _ _ _ _ _ _ _ c.passes-is_tuple.ensures c.if-is_tuple.false
    (where_no _ _ _ _ _ _ _ c.passes-is_slice.ensures c.if-is_slice.false
    (where_yes _ _ _ _ _ _ _ c.passes-is_reference.ensures c.if-is_reference.true refl)))

pub shallow_type-returns : goal.shallow_type-returns
unfolding type_by
shallow_type-returns t c = answers_as _ _ _ _ _ c.named_type.ensures
    (where_no _ _ _ _ _ _ _ c.passes-is_tuple.ensures c.if-is_tuple.false
    (where_no _ _ _ _ _ _ _ c.passes-is_slice.ensures c.if-is_slice.false
    (where_no _ _ _ _ _ _ _ c.passes-is_reference.ensures c.if-is_reference.false
    (read_then _ _ _ _ _ c.passes-is_object.ensures refl))))

pub tuple-returns-in_err-types : goal.tuple-returns-in_err-types
unfolding tuple_by
tuple-returns-in_err-types t c = part_fails _ _ _ _ _ _ _ c.in_err-types.ensures c.from_residual.ensures.1 refl

pub tuple-returns : goal.tuple-returns
unfolding tuple_by
tuple-returns t c = read_then _ _ _ _ _ c.in_ok-types.ensures (ap (λ ty. Read ty (left c.types.new.self)) (sym (tuple_treed c.in_ok-types.types)))

pub slice-returns-in_err-element : goal.slice-returns-in_err-element
unfolding slice_by
slice-returns-in_err-element t c = part_fails _ _ _ _ _ _ _ c.in_err-element.ensures c.from_residual.ensures.1 refl

pub slice-returns-in_err-expect : goal.slice-returns-in_err-expect
unfolding slice_by
slice-returns-in_err-expect t c = part_fails _ _ _ _ _ _ _ c.in_err-expect.ensures c.from_residual-in_err-expect.ensures.1 (read_then _ _ _ _ _ c.in_ok-element.ensures refl)

pub slice-returns-in_err-boxed : goal.slice-returns-in_err-boxed
slice-returns-in_err-boxed t c = no_memory _ _ _ _ c.from_residual-in_err-boxed.ensures.1

pub slice-returns : goal.slice-returns
unfolding slice_by
slice-returns t c =
    read_then _ _ _ _ _ c.in_ok-element.ensures (read_then _ _ _ _ _ c.in_ok-expect.ensures (ap (λ ty. Read (slice_type (type_tree ty)) (left c.expect.new.self)) (sym c.in_ok-boxed.ensures.ok)))

pub reference-returns-in_err-referent : goal.reference-returns-in_err-referent
unfolding reference_by
reference-returns-in_err-referent t c = part_fails _ _ _ _ _ _ _ c.in_err-referent.ensures c.from_residual.ensures.1 (read_then _ _ _ _ _ c.takes-name.ensures (read_then _ _ _ _ _ c.passes-mutable.ensures refl))

pub reference-returns-in_err-lifetime : goal.reference-returns-in_err-lifetime
reference-returns-in_err-lifetime t c = no_memory _ _ _ _ c.from_residual-in_err-lifetime.ensures.1

pub reference-returns-in_err-boxed : goal.reference-returns-in_err-boxed
reference-returns-in_err-boxed t c = no_memory _ _ _ _ c.from_residual-in_err-boxed.ensures.1

pub reference-returns : goal.reference-returns
unfolding reference_by
reference-returns t c =
    read_then _ _ _ _ _ c.takes-name.ensures (read_then _ _ _ _ _ c.passes-mutable.ensures (read_then _ _ _ _ _ c.in_ok-referent.ensures
    (ap (λ name. Read (reference_type name c.passes-mutable.result (type_tree c.in_ok-referent.referent)) (left c.ty.new.self)) (sym c.in_ok-lifetime.ensures)
    ∙ ap (λ ty. Read (reference_type (name_of c.in_ok-lifetime.lifetime) c.passes-mutable.result (type_tree ty)) (left c.ty.new.self)) (sym c.in_ok-boxed.ensures.ok))))

pub types-loop-turn-init : goal.types-loop-turn-init
types-loop-turn-init t c = begun _ _ _ _ (ap (map type_tree) c.new-types.ensures.items) c.turns-turn-end.ensures

pub types-returns-in_err-next_type : goal.types-returns-in_err-next_type
unfolding types_by
types-returns-in_err-next_type t c = handed_on _ _ _ _ _ (broke _ _ _ _ _ _ _ c.loop-turn.invariant (omega arith) c.in_err-next_type.ensures) c.from_residual.ensures.1

pub types-returns-in-None : goal.types-returns-in-None
unfolding types_by
types-returns-in-None t c = ended _ _ _ _ _ _ _ c.loop-turn.invariant (omega arith) (c.in_ok-next_type.ensures ∙ ap (λ o. Read (option_map type_tree o) (left c.next_type.new.self)) c.in-None.is)

pub types-returns-in_err-push-in-Some : goal.types-returns-in_err-push-in-Some
types-returns-in_err-push-in-Some t c = no_memory _ _ _ _ c.from_residual-in_err-push-in-Some.ensures.1

pub types-loop-turn-preserved : goal.types-loop-turn-preserved
types-loop-turn-preserved t c = one_more_seen type_tree _ _ _ _ _ _ _ _ c.in-Some.ty _ c.loop-turn.invariant (omega arith) c.in_ok-next_type.ensures c.in-Some.is c.in_ok-push-in-Some.ensures.items

pub types-returns : goal.types-returns
unfolding types_by
types-returns t c = fails_here _ _ _ c.error.ensures (ran_out _ _ _ _ _ _ c.loop-turn.invariant (omega arith))

pub next_type-returns-then-passes : goal.next_type-returns-then-passes
next_type-returns-then-passes t c = where_yes _ _ _ _ _ _ _ c.passes.ensures c.if-passes.true refl

pub next_type-returns-in_err-ty : goal.next_type-returns-in_err-ty
next_type-returns-in_err-ty t c = part_fails _ _ _ _ _ _ _ c.in_err-ty.ensures c.from_residual.ensures.1 (where_no _ _ _ _ _ _ _ c.passes.ensures c.if-passes.false refl)

pub next_type-returns-in_err-separates : goal.next_type-returns-in_err-separates
next_type-returns-in_err-separates t c = part_fails _ _ _ _ _ _ _ c.in_err-separates.ensures c.from_residual-in_err-separates.ensures.1 (where_no _ _ _ _ _ _ _ c.passes.ensures c.if-passes.false (read_then _ _ _ _ _ c.in_ok-ty.ensures refl))

pub next_type-returns : goal.next_type-returns
next_type-returns t c = where_no _ _ _ _ _ _ _ c.passes.ensures c.if-passes.false (read_then _ _ _ _ _ c.in_ok-ty.ensures (read_then _ _ _ _ _ c.in_ok-separates.ensures refl))

pub argument-returns-in_err-name-in-Some : goal.argument-returns-in_err-name-in-Some
argument-returns-in_err-name-in-Some t c = no_memory _ _ _ _ c.from_residual.ensures.1

pub argument-returns-in_ok-name-in-Some : goal.argument-returns-in_ok-name-in-Some
unfolding argument_by
argument-returns-in_ok-name-in-Some t c = read_then _ _ _ _ _ c.in-Some.ensures (ap (λ name. Read (lifetime_type name) (left c.takes_where.new.self)) (sym c.in_ok-name-in-Some.ensures.ok))

pub argument-returns-in-None : goal.argument-returns-in-None
unfolding argument_by
argument-returns-in-None t c = answers_as _ _ _ _ _ c.ty.ensures (read_then _ _ _ _ _ c.in-None.ensures refl)

pub named_type-returns-in_err-path : goal.named_type-returns-in_err-path
unfolding named_by
named_type-returns-in_err-path t c = part_fails _ _ _ _ _ _ _ c.in_err-path.ensures c.from_residual.ensures.1 refl

pub named_type-returns-in_err-types : goal.named_type-returns-in_err-types
unfolding named_by
named_type-returns-in_err-types t c = part_fails _ _ _ _ _ _ _ c.in_err-types.ensures c.from_residual-in_err-types.ensures.1 (read_then _ _ _ _ _ c.in_ok-path.ensures refl)

pub named_type-returns : goal.named_type-returns
unfolding named_by
named_type-returns t c = read_then _ _ _ _ _ c.in_ok-path.ensures (read_then _ _ _ _ _ c.in_ok-types.ensures (ap (λ ty. Read ty (left c.arguments.new.self)) (sym c.named.ensures)))

pub arguments-returns-then-passes : goal.arguments-returns-then-passes
unfolding arguments_by
arguments-returns-then-passes t c = answers_as _ _ _ _ _ c.types.ensures (where_yes _ _ _ _ _ _ _ c.passes.ensures c.if-passes.true refl)

pub arguments-returns-else-passes : goal.arguments-returns-else-passes
unfolding arguments_by
arguments-returns-else-passes t c = where_no _ _ _ _ _ _ _ c.passes.ensures c.if-passes.false (ap (λ types. Read (map type_tree types) (left c.passes.new.self)) (sym c.new.ensures.items))
