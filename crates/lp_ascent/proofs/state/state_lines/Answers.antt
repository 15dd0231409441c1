use Rattle.std.proofs.Common.{◌≡◌, List, map, ap, ◌∙◌}
use Rattle.std.proofs.lemmas.Result.{IfOk-weaker}
use Rattle.lp_tree.specs.ProgramTree.{items}
use Rattle.lp_ascent.specs.Slots.{layout_at, layout_of}
use Rattle.lp_ascent.specs.StateLines.{state_lines, state_with}
use Rattle.lp_ascent.specs.declared.slots.Slots.{Slots}
use Rattle.lp_ascent.proofs.state.state_lines.Goals as goal

pub returns : goal.returns
unfolding state_lines
returns c =
    let g = c.args.states.now.shared.grammar.now in
    let states = c.args.states.now.shared.states.now in
    let ls = map layout_of c.args.states.now.slots.items in
    let n = c.args.number in
    let l = layout_of c.slots_at-slots.result in
    let same : l ≡ layout_at ls n = c.slots_at-slots.ensures ∙ ap (λ (all : List Slots). layout_at (map layout_of all) n) c.as_slice.ensures.value in
    IfOk-weaker c.state_with.result
    (λ m. items m ≡ state_with g states ls n c.args.state.now l)
    (λ m. items m ≡ state_lines g states ls n c.args.state.now)
    (λ m e. e ∙ ap (state_with g states ls n c.args.state.now) same)
    c.state_with.ensures
