use Rattle.std.proofs.Common.{◌≡◌, ℕ, ◌-◌, List, [], ◌∷◌, ◌++◌, map, decimal, ap, ◌∙◌}
use Rattle.std.specs.Prelude.{nat_lt}
use Rattle.lp_form.specs.declared.part.Part.TheVariants as part
use Rattle.lp_tree.specs.ProgramTree.{head, items, parts_below}
use Rattle.lp_build.specs.Built.{leaf_if, text_rows}
use Rattle.lp_parts.specs.Texts.{arguments_of}
use Rattle.lp_table.specs.MachineLines.{phantom_text}
use Rattle.lp_ascent.specs.CallLines.{call_with, cells_from, handed_on, with_symbol}
use Rattle.lp_ascent.specs.Slots.{count_of, layout_of}
use Rattle.lp_ascent.proofs.Below.{transition_of}
use Rattle.lp_ascent.proofs.Results.{both_if_ok}
use Rattle.lp_ascent.proofs.calls.call_with.Goals as goal

pub returns : goal.returns
returns c =
    let shared = c.args.shared.now in
    let g = shared.grammar.now in
    let l = layout_of c.args.slots in
    let callee = layout_of c.args.callee in
    let target = c.args.target in
    let after = c.args.after_goto in
    let all = c.with_symbol-all.result in
    let first = c.saturating_sub-first.result in
    let arguments = c.in_ok-arguments.arguments in
    let symbols = c.in_ok-symbols.symbols in
    let phantom = c.in_ok-phantom.phantom in
    let takes = c.as_slice.result.now in
    let same_all : all ≡ with_symbol l = c.with_symbol-all.ensures in
    let same_first : first ≡ with_symbol l - count_of callee =
    c.saturating_sub-first.ensures ∙ (ap (λ (n : ℕ). n - c.count.result) same_all ∙ ap (λ (n : ℕ). with_symbol l - n) c.count.ensures) in
    let same_arguments : arguments ≡ arguments_of g.parameters = c.in_ok-arguments.ensures ∙ (c.as_str.ensures.value ∙ shared.arguments_shown) in
    let same_symbols : symbols ≡ handed_on g.prefix after (with_symbol l - count_of callee) (with_symbol l) =
    c.in_ok-symbols.ensures
    ∙ (ap (λ (p : List ℕ). handed_on p after first all) c.as_str-prefix.ensures
    ∙ (ap (λ (n : ℕ). handed_on g.prefix after n all) same_first ∙ ap (handed_on g.prefix after (with_symbol l - count_of callee)) same_all)) in
    let same_phantom : phantom ≡ phantom_text g = c.in_ok-phantom.ensures ∙ (c.as_str-2.ensures.value ∙ shared.phantom_shown) in
    let same_takes : takes ≡ cells_from l (with_symbol l - callee.fixed) =
    c.as_slice.ensures.value
    ∙ (c.in_ok-takes.ensures ∙ ap (cells_from l) (c.saturating_sub.ensures ∙ ap (λ (n : ℕ). n - callee.fixed) same_all)) in
    both_if_ok c.transition.result
    (λ n. head n ≡ (part.Transition, decimal target ∷ arguments ∷ symbols ∷ phantom ∷ [], []))
    (λ n. parts_below n ≡ text_rows part.TakeLine (map decimal takes) ++ leaf_if (nat_lt 1 callee.fixed) part.ReturnLine)
    (λ n. items n ≡ call_with g l callee target after)
    (λ n h b. transition_of n target arguments _ symbols _ phantom _ takes _ (nat_lt 1 callee.fixed) h b same_arguments same_symbols same_phantom same_takes)
    c.transition.ensures.head c.transition.ensures.below
