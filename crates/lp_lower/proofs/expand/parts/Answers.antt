use Rattle.std.proofs.Common.{◌≡◌, ◌<◌, length, map, sym, ap, ◌∙◌, arith}
use Rattle.std.proofs.Math.ListN.{get_or}
use Rattle.std.proofs.lemmas.List.{take_all}
use Rattle.lp_lower.specs.Expansion.{options}
use Rattle.lp_lower.specs.Naming.{target}
use Rattle.lp_lower.specs.Pieces.{pieces_of}
use Rattle.lp_syntax.specs.declared.plain.PlainSymbol.{PlainSymbol}
use Rattle.lp_lower.proofs.Walking.{mapped_more}
use Rattle.lp_lower.proofs.expand.parts.Goals as goal

pub loop-symbol-preserved : goal.loop-symbol-preserved
loop-symbol-preserved c =
    let g = c.args.names.now.plain.now in
    let symbols = c.args.alternative.now.symbols in
    let s = c.symbol-item.result in
    let i = c.loop-symbol.symbol-index in
    let less : i < length symbols = omega (arith, ap length c.as_slice-symbol-items.ensures) in
    let at : get_or symbols i s ≡ s = ap (λ l. get_or l i s) (sym c.as_slice-symbol-items.ensures) ∙ sym c.symbol-item.is in
    let sources = c.args.sources.now in
    mapped_more pieces_of (λ (x : PlainSymbol). options g sources (target g x.kind)) symbols i s less at c.loop-symbol.parts.items _ c.in_ok-part.part c.in_ok-push.ensures.items (c.in_ok-part.ensures ∙ ap (options g sources) c.target-target.ensures) c.loop-symbol.invariant

pub returns : goal.returns
returns c =
    let g = c.args.names.now.plain.now in
    let sources = c.args.sources.now in
    let symbols = c.args.alternative.now.symbols in
    c.loop-symbol.invariant ∙ ap (map (λ (x : PlainSymbol). options g sources (target g x.kind))) (take_all c.loop-symbol.symbol-index symbols (omega (arith, ap length c.as_slice-symbol-items.ensures)))
