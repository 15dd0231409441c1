use Rattle.std.proofs.Common.{refl, arith}
use Rattle.lp_fitting.specs.Fitting.{HolesFit}
use Rattle.lp_fitting.proofs.Each.{each_stops, each_goes_on, each_ends}
use Rattle.lp_fitting.proofs.fitting.are_fitting.Goals as goal

pub returns-then-not-branch : goal.returns-then-not-branch
returns-then-not-branch c =
    each_stops (HolesFit c.args.prefix.now) c.args.entries.now c.loop-entry.entry-index c.entry-item.result c.entry-item.result c.in_ok-is_entry_fitting.field-0 (omega arith) c.entry-item.is refl
    c.in_ok-is_entry_fitting.ensures c.if-not-branch.true

pub loop-entry-preserved : goal.loop-entry-preserved
loop-entry-preserved c =
    each_goes_on (HolesFit c.args.prefix.now) c.args.entries.now c.loop-entry.entry-index c.entry-item.result c.entry-item.result c.in_ok-is_entry_fitting.field-0 (omega arith) c.entry-item.is refl
    c.in_ok-is_entry_fitting.ensures c.if-not-branch.false c.loop-entry.invariant

pub returns : goal.returns
returns c = each_ends (HolesFit c.args.prefix.now) c.args.entries.now c.loop-entry.entry-index (omega arith) c.loop-entry.invariant
