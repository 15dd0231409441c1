use Rattle.std.proofs.Common.{arith}
use Rattle.lp_tree.specs.ProgramTree.{item}
use Rattle.lp_view.specs.Weights.{weight_of}
use Rattle.lp_view.proofs.Totals.{greatest, total_more, total_done, sum_more, sum_none}
use Rattle.lp_view.proofs.count.node_count.Goals as goal

pub loop-entry-preserved : goal.loop-entry-preserved
loop-entry-preserved c =
    let parts = c.deref-entry-items.result.now in
    let i = c.loop-entry.entry-index in
    let part = c.entry-item.result in
    let more = sum_more weight_of item parts i part c.loop-entry-test.true c.entry-item.is in
    record {
      whole = total_more greatest _ c.loop-entry.count _ (weight_of (item part)) _ c.weight.result c.saturating_add-count.result c.loop-entry.invariant.whole more c.weight.ensures c.saturating_add-count.ensures;
      fits = omega arith;
    }

pub returns : goal.returns
returns c =
    let none = sum_none weight_of item c.deref-entry-items.result.now c.loop-entry.entry-index c.loop-entry-test.false in
    total_done greatest _ c.loop-entry.count _ c.loop-entry.invariant.whole none c.loop-entry.invariant.fits
