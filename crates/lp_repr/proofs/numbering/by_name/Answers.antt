use Rattle.std.proofs.Common.{◌≡◌, ◌-◌, map, cond, sym, ap, ◌∙◌, Some, arith}
use Rattle.std.proofs.Math.ListN.{get_or, get_or-map}
use Rattle.std.proofs.lemmas.List.{length-map}
use Rattle.std.specs.Map.Iter.{deref}
use Rattle.std.specs.Ordering.{eq_by_cmp}
use Rattle.std.specs.BTreeMap.{get}
use Rattle.lp_repr.proofs.Numbers.{place_before}
use Rattle.lp_repr.proofs.numbering.by_name.Goals as goal

pub loop-number-preserved : goal.loop-number-preserved
loop-number-preserved g c =
    let names = c.args.names.now in
    let found = c.index-names-number.result in
    let i = c.loop-number.number - 1 in
    let same : c.in_ok-clone.field-0 ≡ found.now = c.requires found.now c.in_ok-clone.field-0 c.in_ok-clone.ensures.cases in
    let at : get_or (map deref names) i found.now ≡ found.now = get_or-map deref names i found ∙ ap deref (sym c.index-names-number.is) in
    (omega arith, λ q. place_before g.met.T.Ord.total (map deref names) i c.loop-number.number found.now q _ _ (omega arith) (omega (arith, length-map names deref)) at (c.loop-number.invariant.1 q) (c.in_ok-insert.ensures.updates.0 q ∙ ap (λ (k : g.row.T.Denot). cond (eq_by_cmp g.T.Ord.cmp k q) (Some i) (get g.T.Ord.cmp c.loop-number.numbers q)) same))
