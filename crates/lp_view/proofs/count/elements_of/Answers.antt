use Rattle.std.proofs.Common.{ℕ, ◌+◌, List, get_or, ap, ◌∙◌, arith}
use Rattle.lp_form.specs.declared.template.Kind.TheVariants as kind
use Rattle.lp_view.specs.Weights.{elements_in}
use Rattle.lp_view.proofs.Totals.{greatest, total_add, total_same, total_done, listed_more, listed_none, listed_done}
use Rattle.lp_view.proofs.count.elements_of.Goals as goal
use Rattle.lp_view.proofs.count.elements_of.Goals.{then-i-kinds, else-i-kinds}

pub loop-i-preserved : goal.loop-i-preserved
loop-i-preserved c =
    let kinds = c.args.kinds.now in
    let holes = c.args.holes.now in
    let i = c.loop-i.i in
    elim c.if-i-kinds.branch [
      | then-i-kinds w ↦
          let hole = c.index-holes-i.result in
          let more = listed_more kinds holes i kind.Argument hole w.if-i-kinds.true c.loop-i-test.true c.index-holes-i.is in
          let value = w.elements_in.ensures ∙ ap (λ (t : List ℕ). elements_in (get_or kinds i kind.Argument) t) w.as_str.ensures in
          record {
            whole = total_add greatest _ c.loop-i.count _ (elements_in (get_or kinds i kind.Argument) hole) _ w.elements_in.result c.if-i-kinds.count c.loop-i.invariant.whole more value (w.count-is ∙ w.saturating_add-count.ensures);
            fits = omega (arith, w.count-is, w.saturating_add-count.ensures);
          }
      | else-i-kinds w ↦ record {
        whole = total_same greatest _ c.loop-i.count _ _ c.if-i-kinds.count c.loop-i.invariant.whole (listed_none kinds _ i w.if-i-kinds.false) (listed_none kinds _ (i + 1) (omega (arith, w.if-i-kinds.false))) w.count-is;
        fits = omega (arith, w.count-is);
      }
    ]

pub returns : goal.returns
returns c =
    let none = listed_done c.args.kinds.now c.args.holes.now c.loop-i.i c.loop-i-test.false in
    total_done greatest _ c.loop-i.count _ c.loop-i.invariant.whole none c.loop-i.invariant.fits
