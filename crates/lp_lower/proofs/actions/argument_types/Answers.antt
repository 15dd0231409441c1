use Rattle.std.proofs.Common.{◌≡◌, ◌<◌, length, map, sym, ap, ◌∙◌, arith}
use Rattle.std.proofs.Math.ListN.{get_or}
use Rattle.std.proofs.lemmas.List.{take_all}
use Rattle.lp_repr.specs.TypeTrees.{type_tree}
use Rattle.lp_lower.specs.Naming.{target}
use Rattle.lp_lower.specs.TypeOf.{target_tree}
use Rattle.lp_syntax.specs.declared.plain.PlainSymbol.{PlainSymbol}
use Rattle.lp_lower.proofs.Walking.{mapped_more}
use Rattle.lp_lower.proofs.actions.argument_types.Goals as goal

pub loop-symbol-preserved : goal.loop-symbol-preserved
loop-symbol-preserved c =
    let g = c.args.names.now.plain.now in
    let symbols = c.args.alternative.now.symbols in
    let s = c.symbol-item.result in
    let i = c.loop-symbol.symbol-index in
    let less : i < length symbols = omega (arith, ap length c.as_slice-symbol-items.ensures) in
    let at : get_or symbols i s ≡ s = ap (λ l. get_or l i s) (sym c.as_slice-symbol-items.ensures) ∙ sym c.symbol-item.is in
    mapped_more type_tree (λ (x : PlainSymbol). target_tree g (target g x.kind)) symbols i s less at c.loop-symbol.types _ c.in_ok-ty.ty c.in_ok-push.ensures (c.in_ok-ty.ensures ∙ ap (target_tree g) c.target-target.ensures) c.loop-symbol.invariant

pub returns : goal.returns
returns c =
    let g = c.args.names.now.plain.now in
    let symbols = c.args.alternative.now.symbols in
    c.loop-symbol.invariant ∙ ap (map (λ (x : PlainSymbol). target_tree g (target g x.kind))) (take_all c.loop-symbol.symbol-index symbols (omega (arith, ap length c.as_slice-symbol-items.ensures)))
