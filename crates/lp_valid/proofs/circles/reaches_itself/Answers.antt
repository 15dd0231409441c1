use Rattle.std.proofs.Common.{◌≡◌, ◌∙◌, ◌<◌, length, refl, sym, subst, arith, Some, slice_get}
use Rattle.std.proofs.lemmas.Option.{slice_get_read, slice_get_past}
use Rattle.lp_repr.specs.declared.repr.ActionFnDefn.{ActionFnDefn}
use Rattle.lp_valid.specs.InlineRules.{kind_runs}
use Rattle.lp_valid.specs.Walk.{is_marked, Marks}
use Rattle.lp_valid.specs.declared.circles.Reached.{Reached}
use Rattle.lp_valid.proofs.Walks.{walk_begins, turn_of_action, turn_of_none, walk_ends, unmarked, mark_read, nothing_left}
use Rattle.lp_valid.proofs.circles.reaches_itself.Goals as goal

pub loop-reached-init : goal.loop-reached-init
loop-reached-init c =
    let xs = c.args.actions.now in
    let a = c.index-actions-number.result in
    let at : slice_get xs c.args.number ≡ Some a = slice_get_read xs _ c.args.number a refl c.requires c.index-actions-number.is in
    let s : Reached = record { reached = c.in_ok-vec.field-0; work = c.new.result } in
    walk_begins xs c.args.number a s c.reach_from.new.self at (sym c.in_ok-vec.field-0.ok.0 ∙ c.in_ok-vec.ensures.len) (unmarked c.in_ok-vec.field-0.items _ (c.in_ok-vec.ensures.items_if_clones_equal (λ y e. e))) c.new.ensures.items
    (subst (λ (x : ActionFnDefn). Marks s c.reach_from.new.self (kind_runs x.kind)) (sym c.index-actions-number.is) c.in_ok-reach_from.ensures.marks)

pub loop-reached-preserved-in_ok-reach_from-2 : goal.loop-reached-preserved-in_ok-reach_from-2
loop-reached-preserved-in_ok-reach_from-2 c =
    let xs = c.args.actions.now in
    let found = c.in-Some-get.ensures.lookup in
    turn_of_action xs c.args.number c.in-Some.reached c.in-Some-get.action.now c.loop-reached.state (record { reached = c.loop-reached.state.reached; work = c.pop.new.self }) c.reach_from-in-Some-get.new.self
    (slice_get_read xs _ c.in-Some.reached c.in-Some-get.action.now refl found.3.0 found.1) c.loop-reached.invariant refl c.in-Some.ensures.items c.in_ok-reach_from-2.ensures.marks

pub loop-reached-preserved : goal.loop-reached-preserved
loop-reached-preserved c =
    let xs = c.args.actions.now in
    turn_of_none xs c.args.number c.in-Some.reached c.loop-reached.state (record { reached = c.loop-reached.state.reached; work = c.pop.new.self }) (slice_get_past xs c.in-Some.reached c.in_default-get.ensures.lookup.3) c.loop-reached.invariant refl c.in-Some.ensures.items

pub index-requires : goal.index-requires
index-requires c = let size = c.loop-reached.invariant.size in let same = c.loop-reached.state.reached.ok.0 in omega (arith, size, same, c.requires)

pub returns : goal.returns
returns c =
    let s = c.loop-reached.state in
    let within : c.args.number < length s.reached.items = subst (λ n. c.args.number < n) (sym c.loop-reached.invariant.size) c.requires in
    let read : is_marked s c.args.number ≡ c.index.result.now = mark_read s.reached.items c.args.number c.index.result.now within c.index.ensures in (
      (λ yes. c.loop-reached.invariant.sound c.args.number (read ∙ yes)),
      (λ p. sym read ∙ walk_ends c.args.actions.now c.args.number s c.loop-reached.invariant (nothing_left s.work.items (sym s.work.ok.0 ∙ c.in_default.ensures.cases.0)) c.args.number p c.requires),
    )
