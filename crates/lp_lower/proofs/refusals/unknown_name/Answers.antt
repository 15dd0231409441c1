use Rattle.std.proofs.Common.{◌≡◌, ◌<◌, Bool, true, false, not, map, length, sym, ap, ◌∙◌, arith, Option}
use Rattle.std.specs.Prelude.{is_none}
use Rattle.std.proofs.Math.ListN.{get_or, get_or-map}
use Rattle.std.proofs.lemmas.List.{length-map}
use Rattle.std.specs.Map.Iter.{deref}
use Rattle.lp_lower.specs.Naming.{target}
use Rattle.lp_lower.specs.declared.names.Target.{Target}
use Rattle.lp_lower.proofs.Leasts.{least_step}
use Rattle.lp_lower.proofs.refusals.unknown_name.Goals as goal
use Rattle.lp_lower.proofs.refusals.unknown_name.Goals.{then-is_none, else-is_none}

swapped : (s r : Bool) → s ≡ not r → r ≡ not s
swapped s true e = sym (ap not e)
swapped s false e = sym (ap not e)

pub loop-symbol-preserved : goal.loop-symbol-preserved
loop-symbol-preserved c =
    let g = c.args.names.now.plain.now in
    let x = c.symbol-item.result in
    let symbols = c.args.symbols.now in
    let i = c.loop-symbol.symbol-index in
    let less : i < length (map deref symbols) = omega (arith, length-map symbols deref) in
    let at : get_or (map deref symbols) i x.now ≡ x.now = get_or-map deref symbols i x ∙ ap deref (sym c.symbol-item.is) in
    let tested : c.is_none.result ≡ is_none (target g x.now.kind) = swapped _ _ c.is_none.ensures ∙ ap (λ (o : Option Target). is_none o) c.target.ensures in
    let step = least_step (λ s. is_none (target g s.kind)) (λ s. s.place) (map deref symbols) i x.now less at in
    elim c.if-is_none.branch [
      | then-is_none w ↦ step true (sym w.if-is_none.true ∙ tested) c.loop-symbol.found _ c.loop-symbol.invariant (w.found-is ∙ w.least-found.ensures)
      | else-is_none w ↦ step false (sym w.if-is_none.false ∙ tested) c.loop-symbol.found _ c.loop-symbol.invariant w.found-is
    ]
