use Rattle.std.proofs.Common.{◌≡◌, ◌<◌, true, false, map, length, sym, ap, ◌∙◌, arith}
use Rattle.std.proofs.Math.ListN.{get_or, get_or-map}
use Rattle.std.proofs.lemmas.List.{length-map}
use Rattle.std.specs.Map.Iter.{deref}
use Rattle.lp_lower.specs.Naming.{target}
use Rattle.lp_lower.specs.Refusals.{is_inline_from}
use Rattle.lp_lower.proofs.Leasts.{least_step}
use Rattle.lp_lower.proofs.refusals.below.Goals as goal
use Rattle.lp_lower.proofs.refusals.below.Goals.{then-is_below, else-is_below}

pub loop-symbol-preserved : goal.loop-symbol-preserved
loop-symbol-preserved c =
    let g = c.args.names.now.plain.now in
    let x = c.symbol-item.result in
    let symbols = c.args.symbols.now in
    let i = c.loop-symbol.symbol-index in
    let less : i < length (map deref symbols) = omega (arith, length-map symbols deref) in
    let at : get_or (map deref symbols) i x.now ≡ x.now = get_or-map deref symbols i x ∙ ap deref (sym c.symbol-item.is) in
    let tested = c.is_below.ensures in
    let step = least_step (λ s. is_inline_from g.rules c.args.number (target g s.kind)) (λ s. s.place) (map deref symbols) i x.now less at in
    elim c.if-is_below.branch [
      | then-is_below w ↦ step true (sym w.if-is_below.true ∙ tested) c.loop-symbol.found _ c.loop-symbol.invariant (w.found-is ∙ w.least-found.ensures)
      | else-is_below w ↦ step false (sym w.if-is_below.false ∙ tested) c.loop-symbol.found _ c.loop-symbol.invariant w.found-is
    ]
