use Rattle.std.proofs.Common.{◌≡◌, ℕ, List, map, string_bytes, ap, ◌∙◌}
use Rattle.std.proofs.lemmas.Result.{IfOk-weaker}
use Rattle.lp_tree.specs.ProgramTree.{items}
use Rattle.lp_ascent.specs.AnswerLines.{answer_names}
use Rattle.lp_ascent.specs.GotoLines.{goto_lines, gotos_of, named_gotos}
use Rattle.lp_ascent.specs.NamedGotos.{named_as}
use Rattle.lp_ascent.specs.Slots.{layout_of}
use Rattle.lp_ascent.proofs.gotos.goto_lines.Goals as goal

pub returns-clause-items : goal.returns-clause-items
unfolding goto_lines
returns-clause-items c =
    let g = c.args.states.now.shared.grammar.now in
    let ls = map layout_of c.args.states.now.slots.items in
    let l = layout_of c.args.slots in
    let gotos = c.args.gotos.now.entries in
    let named = map named_as c.as_slice-2.result.now in
    let same : named ≡ named_gotos (answer_names g) gotos =
    ap (map named_as) c.as_slice-2.ensures.value
    ∙ (c.in_ok-named.ensures
    ∙ ap (λ (names : List (List ℕ)). named_gotos names gotos) (ap (map string_bytes) c.as_slice.ensures.value ∙ c.args.states.now.names_listed)) in
    IfOk-weaker c.gotos_of.result
    (λ n. items n ≡ gotos_of g ls l named)
    (λ n. items n ≡ goto_lines g ls l gotos)
    (λ n e. e ∙ ap (gotos_of g ls l) same)
    c.gotos_of.ensures.items
