use Rattle.std.proofs.Common.{sym, ap, ◌∙◌}
use Rattle.lp_program.specs.Places.{takes_next}
use Rattle.lp_program.specs.Printed.{takes}
use Rattle.lp_program.proofs.Printing.{tree-first, tree-none}
use Rattle.lp_program.proofs.print.walk.takes_next.Goals as goal

pub returns-then-at-below-clause-next : goal.returns-then-at-below-clause-next
returns-then-at-below-clause-next c =
    λ options prefix.
    c.takes.ensures
    ∙ ap (λ e. takes c.args.step e.part) (sym c.index-below-at.is)
    ∙ sym (ap (takes_next c.args.step) (tree-first options prefix c.args.below.now c.args.at c.index-below-at.result c.if-at-below.true c.index-below-at.is))

pub returns-else-at-below-clause-next : goal.returns-else-at-below-clause-next
returns-else-at-below-clause-next c =
    λ options prefix.
    sym (ap (takes_next c.args.step) (tree-none options prefix c.args.below.now c.args.at c.if-at-below.false))
