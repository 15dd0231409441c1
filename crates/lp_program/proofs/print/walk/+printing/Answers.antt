use Rattle.std.proofs.Common.{arith, rules, ◌∙◌, sym}
use Rattle.std.proofs.lemmas.Result.{err_from_is_err_and}
use Rattle.lp_write.specs.Writes.{options_of, writing}
use Rattle.lp_write.specs.Writes.Ending.{complete}
use Rattle.lp_program.specs.Places.{place_ending}
use Rattle.lp_program.proofs.Printing.{tree-after, tree-lines}
use Rattle.lp_program.proofs.Progress.{stopped-more}
use Rattle.lp_program.proofs.Runs.{first-place, first-lines, first-none, none-after, none-lines, runs-start, runs-stopped, runs-more, runs-place, runs-lines, step-one, step-run}
use Rattle.lp_program.proofs.Stepping.{steps-start, steps-stopped, steps-more, steps-end}
use Rattle.lp_program.proofs.print.walk.+printing.Goals as goal

pub print_first-returns-then-takes_next-clause-place : goal.print_first-returns-then-takes_next-clause-place
print_first-returns-then-takes_next-clause-place g t c =
    first-place c.print_tree.result (options_of c.args.out.now) c.args.prefix.now c.args.below.now c.args.at c.args.step
    (sym (c.takes_next.ensures.next (options_of c.args.out.now) c.args.prefix.now) ∙ c.if-takes_next.true) c.print_tree.ensures.place

pub print_first-returns-then-takes_next-clause-lines : goal.print_first-returns-then-takes_next-clause-lines
print_first-returns-then-takes_next-clause-lines g t c =
    first-lines (place_ending c.print_tree.result) _ _ c.args.step _
    (sym (c.takes_next.ensures.next (options_of c.args.out.now) c.args.prefix.now) ∙ c.if-takes_next.true) c.print_tree.ensures.lines

pub print_first-returns-clause-place : goal.print_first-returns-clause-place
print_first-returns-clause-place g t c =
    none-after (options_of c.args.out.now) c.args.prefix.now c.args.below.now c.args.at _ (search rules)
    (first-none c.args.step _ (sym (c.takes_next.ensures.next (options_of c.args.out.now) c.args.prefix.now) ∙ c.if-takes_next.false))

pub print_first-returns-clause-lines : goal.print_first-returns-clause-lines
print_first-returns-clause-lines g t c =
    none-lines _ _ _
    (first-none c.args.step _ (sym (c.takes_next.ensures.next (options_of c.args.out.now) c.args.prefix.now) ∙ c.if-takes_next.false))

pub print_run-trees-init : goal.print_run-trees-init
print_run-trees-init g t c =
    runs-start c.args.step c.args.prefix.now c.args.below.now c.args.from (writing g.W.Sink.told c.args.out.now) (search rules)

pub print_run-returns-in_err-at-clause-lines : goal.print_run-returns-in_err-at-clause-lines
print_run-returns-in_err-at-clause-lines g t c =
    let p = err_from_is_err_and c.from_residual.result c.from_residual.ensures.1 in
    rw (p.1, p.2)
    (runs-stopped c.args.step c.args.prefix.now c.args.below.now c.args.from c.trees.at _ _ _ _ c.trees.invariant
    (sym (c.takes_next.ensures.next (options_of c.args.out.now) c.args.prefix.now) ∙ c.trees-test.true) c.in_err-at.ensures.lines)

pub print_run-trees-preserved : goal.print_run-trees-preserved
print_run-trees-preserved g t c =
    runs-more c.args.step c.args.prefix.now c.args.below.now c.args.from c.trees.at _ _ _ _ c.trees.invariant
    (sym (c.takes_next.ensures.next (options_of c.args.out.now) c.args.prefix.now) ∙ c.trees-test.true) c.in_ok-at.ensures.place
    c.in_ok-at.ensures.lines

pub print_run-returns-clause-place : goal.print_run-returns-clause-place
print_run-returns-clause-place g t c =
    runs-place c.args.step c.args.prefix.now c.args.below.now c.args.from c.trees.at _ _ c.trees.invariant
    (sym (c.takes_next.ensures.next (options_of c.args.out.now) c.args.prefix.now) ∙ c.trees-test.false)

pub print_run-returns-clause-lines : goal.print_run-returns-clause-lines
print_run-returns-clause-lines g t c =
    runs-lines c.args.step c.args.prefix.now c.args.below.now c.args.from c.trees.at _ _ c.trees.invariant
    (sym (c.takes_next.ensures.next (options_of c.args.out.now) c.args.prefix.now) ∙ c.trees-test.false)

pub print_step-returns-in_err-print_own-clause-lines : goal.print_step-returns-in_err-print_own-clause-lines
print_step-returns-in_err-print_own-clause-lines g t c =
    let p = err_from_is_err_and c.from_residual.result c.from_residual.ensures.1 in
    rw (p.1, p.2) (stopped-more _ _ _ _ _ c.in_err-print_own.ensures)

pub print_step-returns-then-takes_one-clause-lines : goal.print_step-returns-then-takes_one-clause-lines
print_step-returns-then-takes_one-clause-lines g t c =
    step-one c.args.prefix.now c.args.below.now c.args.at c.args.step (place_ending c.print_first.result) _ _ _ _
    (sym c.takes_one.ensures ∙ c.if-takes_one.true) c.in_ok-print_own.ensures c.print_first.ensures.lines

pub print_step-returns-else-takes_one-clause-lines : goal.print_step-returns-else-takes_one-clause-lines
print_step-returns-else-takes_one-clause-lines g t c =
    step-run c.args.prefix.now c.args.below.now c.args.at c.args.step (place_ending c.print_run.result) _ _ _ _
    (sym c.takes_one.ensures ∙ c.if-takes_one.false) c.in_ok-print_own.ensures c.print_run.ensures.lines

pub print_tree-returns-in_err-print_part-clause-lines : goal.print_tree-returns-in_err-print_part-clause-lines
print_tree-returns-in_err-print_part-clause-lines g t c =
    let p = err_from_is_err_and c.from_residual.result c.from_residual.ensures.1 in
    rw (p.1, p.2)
    (tree-lines _ _ _ (options_of c.args.out.now) c.args.prefix.now c.args.below.now c.args.at c.end_of-end.result c.index-below-at.result
    (search rules) c.index-below-at.is (c.end_of-end.ensures.place c.index-below-at.result) c.in_err-print_part.ensures)

pub print_tree-returns-clause-place : goal.print_tree-returns-clause-place
print_tree-returns-clause-place g t c =
    tree-after (options_of c.args.out.now) c.args.prefix.now c.args.below.now c.args.at c.end_of-end.result (search rules) c.end_of-end.ensures.place

pub print_tree-returns-clause-lines : goal.print_tree-returns-clause-lines
print_tree-returns-clause-lines g t c =
    tree-lines complete _ _ (options_of c.args.out.now) c.args.prefix.now c.args.below.now c.args.at c.end_of-end.result c.index-below-at.result
    (search rules) c.index-below-at.is (c.end_of-end.ensures.place c.index-below-at.result) c.in_ok-print_part.ensures

pub print_part-loop-step-init : goal.print_part-loop-step-init
print_part-loop-step-init g t c = steps-start _ _ _ _ _ (omega arith)

pub print_part-returns-in_err-at : goal.print_part-returns-in_err-at
print_part-returns-in_err-at g t c =
    let p = err_from_is_err_and c.from_residual.result c.from_residual.ensures.1 in
    rw (p.1, p.2)
    (steps-stopped c.args.prefix.now c.args.entry.now c.args.below.now c.steps-step-items.result.now c.loop-step.step-index c.loop-step.at _ _ _ _ _
    c.loop-step.invariant c.loop-step-test.true c.steps-step-items.ensures c.in_err-at.ensures.lines)

pub print_part-loop-step-preserved : goal.print_part-loop-step-preserved
print_part-loop-step-preserved g t c =
    steps-more c.args.prefix.now c.args.entry.now c.args.below.now c.steps-step-items.result.now c.loop-step.step-index c.loop-step.at _ _ _ _ _
    c.loop-step.invariant c.loop-step-test.true c.in_ok-at.ensures.place c.in_ok-at.ensures.lines

pub print_part-returns : goal.print_part-returns
print_part-returns g t c =
    steps-end c.args.prefix.now c.args.entry.now c.args.below.now c.steps-step-items.result.now c.loop-step.step-index c.loop-step.at _ _
    c.loop-step.invariant c.loop-step-test.false c.steps-step-items.ensures
