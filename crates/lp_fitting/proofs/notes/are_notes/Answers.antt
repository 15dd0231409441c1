use Rattle.std.proofs.Common.{refl, arith}
use Rattle.lp_fitting.proofs.Each.{each_stops, each_goes_on, each_ends}
use Rattle.lp_fitting.proofs.Parts.{IsPlain}
use Rattle.lp_fitting.proofs.notes.are_notes.Goals as goal

pub returns-then-not-is_note : goal.returns-then-not-is_note
returns-then-not-is_note c =
    each_stops IsPlain c.args.notes.now c.loop-part.part-index c.part-item.result c.part-item.result c.is_note.result (omega arith) c.part-item.is refl c.is_note.ensures c.if-not-is_note.true

pub loop-part-preserved : goal.loop-part-preserved
loop-part-preserved c =
    each_goes_on IsPlain c.args.notes.now c.loop-part.part-index c.part-item.result c.part-item.result c.is_note.result (omega arith) c.part-item.is refl c.is_note.ensures c.if-not-is_note.false
    c.loop-part.invariant

pub returns : goal.returns
returns c = each_ends IsPlain c.args.notes.now c.loop-part.part-index (omega arith) c.loop-part.invariant
