use Rattle.std.proofs.Common.{All, refl, subst, length, arith}
use Rattle.std.proofs.lemmas.List.{take_all}
use Rattle.std.proofs.lemmas.List.Elements.{All-more}
use Rattle.lp_parts.specs.Entries.{EntriesFit}
use Rattle.lp_assembly.proofs.fits.first_unfit.Goals as goal

pub loop-number-preserved : goal.loop-number-preserved
loop-number-preserved c =
    All-more EntriesFit c.args.states.now c.loop-number.number c.index-states-number.result c.loop-number-test.true
    c.loop-number.invariant
    (subst EntriesFit c.index-states-number.is (c.entries_fit.ensures c.if-not-entries_fit.false))

pub returns : goal.returns
returns c = subst (All EntriesFit) (take_all c.loop-number.number c.args.states.now c.loop-number-test.false) c.loop-number.invariant
