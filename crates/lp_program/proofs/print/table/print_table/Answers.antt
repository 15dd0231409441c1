use Rattle.std.proofs.Common.{◌-◌, arith, take, drop, length, map, rules, subst}
use Rattle.std.proofs.lemmas.List.{take_rest}
use Rattle.std.proofs.lemmas.Result.{err_from_is_err_and}
use Rattle.lp_write.specs.Writes.{options_of, write_ending, writing}
use Rattle.lp_program.specs.TableRows.{last_lines, row_lines, table_lines}
use Rattle.lp_program.proofs.Progress.{Left, left-last, left-more, left-stopped}
use Rattle.lp_program.proofs.Rows.{rows-last, rows-next}
use Rattle.lp_program.proofs.print.table.print_table.Goals as goal
use Rattle.lp_tree.specs.ProgramTree.{noted}

pub returns-in_err-print_row : goal.returns-in_err-print_row
returns-in_err-print_row g c =
    let p = err_from_is_err_and c.from_residual.result c.from_residual.ensures.1 in
    let row = take (c.max-end.result - c.loop-i.from) (drop c.loop-i.from c.args.numbers.now) in
    rw (p.1, p.2)
    (left-stopped (λ o. row_lines o c.loop-i.i row (noted c.index-notes-i.result)) _ _ _ _ _ _ _ c.loop-i.invariant.left
    (rows-next (options_of c.args.out.now) c.args.numbers.now c.args.notes.now c.loop-i.i c.loop-i.from c.max-end.result c.index-notes-i.result
    c.index-notes-i.is c.loop-i-test.true c.loop-i.invariant.within (search rules)) c.in_err-print_row.ensures)

pub loop-i-preserved : goal.loop-i-preserved
loop-i-preserved g c =
    let row = take (c.max-end.result - c.loop-i.from) (drop c.loop-i.from c.args.numbers.now) in
    record {
      within = search rules;
      left = left-more (λ o. row_lines o c.loop-i.i row (noted c.index-notes-i.result)) _ _ _ _ _ _ c.loop-i.invariant.left
          (rows-next (options_of c.args.out.now) c.args.numbers.now c.args.notes.now c.loop-i.i c.loop-i.from c.max-end.result c.index-notes-i.result
          c.index-notes-i.is c.loop-i-test.true c.loop-i.invariant.within (search rules)) c.in_ok-print_row.ensures;
    }

pub returns : goal.returns
returns g c =
    let o = options_of c.args.out.now in
    let numbers = c.args.numbers.now in
    let notes = c.args.notes.now in
    let a = writing g.W.Sink.told c.args.out.now in
    let b = writing g.W.Sink.told c.loop-i.out in
    left-last (λ x. last_lines x (length notes) (drop c.loop-i.from numbers)) (write_ending c.print_last.result) _ _ _ _
    (subst (λ rest. Left a b (table_lines o numbers (map noted notes)) rest)
    (rows-last o numbers notes c.loop-i.i c.loop-i.from c.loop-i-test.false (omega arith)) c.loop-i.invariant.left)
    (rw (take_rest numbers c.loop-i.from) at c.print_last.ensures)
