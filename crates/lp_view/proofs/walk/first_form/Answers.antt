use Rattle.std.proofs.Common.{◌<◌, length, map, ap, sym, ◌∙◌, arith}
use Rattle.lp_tree.specs.ProgramTree.{item}
use Rattle.lp_tree.specs.declared.tree.Entry.{Entry}
use Rattle.lp_view.specs.PartLists.{forms_among, is_form}
use Rattle.lp_view.proofs.FormSteps.{form_here}
use Rattle.lp_view.proofs.walk.first_form.Goals as goal

pub returns-then-is_form-clause-forms : goal.returns-then-is_form-clause-forms
returns-then-is_form-clause-forms c =
    let entries = c.args.entries.now in
    let less : c.loop-at.at < length entries = omega arith in
    form_here entries c.loop-at.at c.end_of.result c.index-entries-at.result (forms_among (map item entries)) less c.index-entries-at.is (ap (λ (e : Entry). is_form e.part) c.index-entries-at.is ∙ sym c.is_form.ensures ∙ c.if-is_form.true) c.end_of.ensures.place c.loop-at.invariant
