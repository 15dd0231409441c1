use Rattle.std.proofs.Common.{All, subst}
use Rattle.std.proofs.lemmas.List.{take_all}
use Rattle.std.proofs.lemmas.List.Elements.{All-more}
use Rattle.lp_repr.specs.declared.lr1.StartStates.{StartStates}
use Rattle.lp_parts.specs.Entries.{EntriesFit}
use Rattle.lp_assembly.specs.Built.{AllFit}
use Rattle.lp_assembly.proofs.fits.all_fit.Goals as goal

pub loop-list-preserved : goal.loop-list-preserved
loop-list-preserved c =
    let P : StartStates → Type 0 = λ x. All EntriesFit x.states in
    let fits : P c.list-item.result = subst (All EntriesFit) c.as_slice.ensures c.in-None.ensures in
    All-more P c.args.lists.now c.loop-list.list-index c.list-item.result c.loop-list-test.true c.loop-list.invariant (subst P c.list-item.is fits)

pub returns : goal.returns
returns c = λ _. subst AllFit (take_all c.loop-list.list-index c.args.lists.now c.loop-list-test.false) c.loop-list.invariant
