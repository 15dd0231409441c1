use Rattle.std.proofs.Common.{Err, ap, inl, inr, refl, ◌∙◌}
use Rattle.std.proofs.lemmas.Result.{err_from_is_err_and}
use Rattle.lp_codegen.proofs.actions.emit_action_code.Goals as goal

pub returns-in_err-functions : goal.returns-in_err-functions
returns-in_err-functions g c =
    let p = err_from_is_err_and c.from_residual.result c.from_residual.ensures.1 in inl (p.1 ∙ ap Err p.2, refl)

pub returns : goal.returns
returns g c =
    inr (c.in_ok-functions.functions.items, c.in_ok-functions.ensures, rw (c.as_str.ensures, c.as_slice.ensures.value) at c.print_nodes.ensures)
