use Rattle.std.proofs.Common.{◌≡◌, ℕ, List, [], length, map, string_bytes, ap, ◌∙◌}
use Rattle.std.specs.Prelude.{nat_lt}
use Rattle.std.proofs.lemmas.Result.{IfOk-weaker}
use Rattle.lp_tree.specs.ProgramTree.{items}
use Rattle.lp_build.specs.Ascent.{loop_lines, loop_part}
use Rattle.lp_build.specs.Built.{over}
use Rattle.lp_ascent.specs.AnswerLines.{answer_names}
use Rattle.lp_ascent.specs.GotoLines.{gotos_of}
use Rattle.lp_ascent.specs.NamedGotos.{arm_of, named_as}
use Rattle.lp_ascent.specs.Slots.{count_of, layout_of}
use Rattle.lp_ascent.proofs.NamedRows.{frame_of}
use Rattle.lp_ascent.proofs.gotos.gotos_of.Goals as goal

pub returns-clause-items : goal.returns-clause-items
returns-clause-items c =
    let g = c.args.states.now.shared.grammar.now in
    let ls = map layout_of c.args.states.now.slots.items in
    let l = layout_of c.args.slots in
    let gotos = map named_as c.args.gotos.now in
    let top = c.optional_top.result in
    let arms = c.in_ok-arms.arms.items in
    let other = c.leaves_some-other.result in
    let calls = c.in_ok-calls.calls.items in
    let same_arms : arms ≡ map (arm_of (count_of l)) gotos = c.in_ok-arms.ensures ∙ ap (λ (n : ℕ). map (arm_of n) gotos) c.count.ensures in
    let same_other : other ≡ nat_lt (length gotos) (length (answer_names g)) =
    c.leaves_some-other.ensures
    ∙ ap (λ (names : List (List ℕ)). nat_lt (length gotos) (length names)) (ap (map string_bytes) c.as_slice.ensures.value ∙ c.args.states.now.names_listed) in
    IfOk-weaker c.loop_of.result
    (λ n. items n ≡ over (loop_part arms) [] (loop_lines top arms other calls))
    (λ n. items n ≡ gotos_of g ls l gotos)
    (λ n e. e ∙ frame_of g ls l gotos top arms other calls c.optional_top.ensures same_arms same_other c.in_ok-calls.ensures)
    c.loop_of.ensures.items
