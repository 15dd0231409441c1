use Rattle.std.proofs.Common.{take}
use Rattle.lp_write.specs.Rows.{AreEntryTexts}
use Rattle.lp_write.proofs.rows.entry_texts.Given as goal

abbrev pub invariant-loop-entry : goal.invariant-loop-entry
invariant-loop-entry g l = AreEntryTexts g.C.Display.output (take l.entry-index l.row) l.texts.items
