use Rattle.std.proofs.Common.{[], ◌∷◌, ◌++◌, codes, map, if◌then◌else◌, refl}
use Rattle.std.proofs.lemmas.Result.{err_from_is_err_and}
use Rattle.std.specs.Fmt.{decimal}
use Rattle.lp_write.specs.Lines.Line.{line}
use Rattle.lp_write.specs.Writes.{write_ending}
use Rattle.lp_program.specs.TableRows.{commented, entry_lines}
use Rattle.lp_program.proofs.Progress.{left-all, left-last, left-more, left-stopped, stopped-more}
use Rattle.lp_program.proofs.print.table.print_row.Goals as goal

pub returns-in_err-print_state : goal.returns-in_err-print_state
returns-in_err-print_state g c =
    let p = err_from_is_err_and c.from_residual.result c.from_residual.ensures.1 in
    rw (p.1, p.2) (stopped-more _ _ _ (line (codes "// State " ++ decimal c.args.state) ∷ []) _ c.in_err-print_state.ensures)

pub returns-in_err-print_comment_lines : goal.returns-in_err-print_comment_lines
returns-in_err-print_comment_lines g c =
    let p = err_from_is_err_and c.from_residual-in_err-print_comment_lines.result c.from_residual-in_err-print_comment_lines.ensures.1 in
    rw (p.1, p.2)
    (left-stopped (λ o. if o.comments then map line c.args.row.now.lines.items else []) _ _ _ _ _ _ _
    (left-more (λ o. line (codes "// State " ++ decimal c.args.state) ∷ []) _ _ _ _ _ _ (left-all _ _) refl c.in_ok-print_state.ensures)
    refl (rw c.as_slice.ensures.value at c.in_err-print_comment_lines.ensures))

pub returns : goal.returns
returns g c =
    left-last (λ o. entry_lines o (commented c.args.numbers.now c.args.row.now.comments.items)) (write_ending c.print_entries.result) _ _ _ _
    (left-more (λ o. if o.comments then map line c.args.row.now.lines.items else []) _ _ _ _ _ _
    (left-more (λ o. line (codes "// State " ++ decimal c.args.state) ∷ []) _ _ _ _ _ _ (left-all _ _) refl c.in_ok-print_state.ensures)
    refl (rw c.as_slice.ensures.value at c.in_ok-print_comment_lines.ensures))
    (rw c.as_slice-2.ensures.value at c.print_entries.ensures)
