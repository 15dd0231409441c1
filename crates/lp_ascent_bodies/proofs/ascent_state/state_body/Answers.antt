use Rattle.std.proofs.Common.{◌≡◌, ap, ◌∙◌}
use Rattle.std.proofs.lemmas.Result.{IfOk-weaker}
use Rattle.lp_core.specs.Tree.{Tree}
use Rattle.lp_view.specs.PartLists.{listed}
use Rattle.lp_maker.specs.Making.{making}
use Rattle.lp_bodies.specs.Arms.{gathered}
use Rattle.lp_bodies.specs.Reductions.{done_of}
use Rattle.lp_ascent_bodies.specs.AscentStates.{state_value, state_rows, state_done}
use Rattle.lp_ascent_bodies.proofs.ascent_state.state_body.Goals as goal

pub returns : goal.returns
returns c =
    let form = listed c.args.form in
    let names = c.state_rows.new.scope in
    let made = making c.state_rows.new.maker in
    let state = c.state_rows.new.state in
    IfOk-weaker c.state_value.result (λ v. v ≡ state_value state.lines state.parts.items (gathered state.arms) state.after) _
    (λ v e. ap (λ (x : Tree). done_of x names made) e ∙ ap state_done (c.in_ok-state_rows.ensures ∙ ap (state_rows form) c.in_ok-state.ensures))
    c.state_value.ensures
