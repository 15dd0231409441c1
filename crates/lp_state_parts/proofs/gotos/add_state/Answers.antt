use Rattle.std.proofs.Common.{ap, subst, set, ◌∙◌}
use Rattle.lp_state_parts.specs.GotoPlaces.{IsPlaceFor, IsPlaceOf}
use Rattle.lp_state_parts.proofs.GotoArms.{with_state_grown, with_state_put_in}
use Rattle.lp_state_parts.proofs.gotos.add_state.Goals as goal

pub returns-in_ok-grow_arm-in-Ok : goal.returns-in_ok-grow_arm-in-Ok
returns-in_ok-grow_arm-in-Ok c =
    let place : IsPlaceOf c.args.arms.now.items c.args.target c.in-Ok.place =
    subst (λ xs. IsPlaceOf xs c.args.target c.in-Ok.place) c.as_slice.ensures.value c.in-Ok.ensures.found in
    ap (λ a. set c.args.arms.now.items c.in-Ok.place a) c.in_ok-grow_arm-in-Ok.ensures
    ∙ with_state_grown c.args.state c.args.target c.args.arms.now.items c.in-Ok.place c.index_mut.result.now place c.index_mut.ensures.value

pub returns-in_ok-insert_arm-in-Err : goal.returns-in_ok-insert_arm-in-Err
returns-in_ok-insert_arm-in-Err c =
    let place : IsPlaceFor c.args.arms.now.items c.args.target c.in-Err.place =
    subst (λ xs. IsPlaceFor xs c.args.target c.in-Err.place) c.as_slice.ensures.value c.in-Err.ensures.missing in
    c.in_ok-insert_arm-in-Err.ensures
    ∙ with_state_put_in c.args.state c.args.target c.args.arms.now.items c.in-Err.place place
