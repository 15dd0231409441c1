use Rattle.lp_write.specs.Rows.{IsEntryText}
use Rattle.lp_write.proofs.Texts.{zip-more}
use Rattle.lp_write.proofs.rows.entry_texts.Goals as goal

pub loop-entry-preserved : goal.loop-entry-preserved
loop-entry-preserved g c =
    rw c.in_ok-push.ensures.items
    (zip-more (IsEntryText g.C.Display.output) c.args.row.now c.loop-entry.texts.items c.loop-entry.entry-index
    c.entry-item.result _ c.entry-item.is c.loop-entry-test.true c.loop-entry.invariant c.in_ok-entry_text.ensures)
