-- Looking changes nothing but the line that is noted, and what is left to be asked is what was asked; none of the parts that were tried begins.
use Rattle.std.proofs.Common.{◌≡◌, ◌+◌, ◌*◌, ◌≤◌}
use Rattle.lp_program.specs.Starting.{OfNewLook, MemberStarts}
use Rattle.lp_program.proofs.Beginning.{AsksOf}
use Rattle.lp_program.proofs.Looked.{AheadBegun}
use Rattle.lp_program.proofs.Picking.{NoneOf}
use Rattle.lp_program.proofs.read.reader.Reader.+looking.Given as goal

abbrev pub decreases-begins : goal.decreases-begins
decreases-begins l = 2 * l.depth

abbrev pub decreases-pick : goal.decreases-pick
decreases-pick l = 2 * l.depth + 1

abbrev pub invariant-begins-loop-step : goal.invariant-begins-loop-step
invariant-begins-loop-step l = record {
  kept : l.self ≡ record l.initial.self { looked = l.self.looked };
  looked : l.initial.self.looked ≤ l.self.looked;
  asks : AsksOf l.depth l.initial.self.prefix.now l.fn.part l.self.looked l.initial.self.cursor l.step-index l.lines l.known.items l.cursor;
  ahead : AheadBegun l.initial.self.prefix.now l.fn.part l.step-index l.lines l.known.items l.initial.self l.self.looked l.cursor;
}

abbrev pub invariant-pick-loop-part : goal.invariant-pick-loop-part
invariant-pick-loop-part l = record {
  kept : l.self ≡ record l.initial.self { looked = l.self.looked };
  looked : l.initial.self.looked ≤ l.self.looked;
  none : NoneOf l.depth l.initial.self.prefix.now l.fn.class l.self.looked l.initial.self.cursor l.part-index;
  begun : OfNewLook l.initial.self.looked l.initial.self.cursor l.self.looked (MemberStarts l.initial.self.prefix.now l.fn.class);
}
