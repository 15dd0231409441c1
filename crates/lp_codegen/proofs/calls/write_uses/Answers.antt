use Rattle.std.proofs.Common.{[], ◌∷◌}
use Rattle.std.proofs.lemmas.Result.{err_from_is_err_and}
use Rattle.lp_write.proofs.Writing.{none-part}
use Rattle.lp_write.specs.Uses.{all_uses}
use Rattle.lp_write.specs.Writes.{write_ending}
use Rattle.lp_codegen.proofs.Steps.{continued, stopped}
use Rattle.lp_codegen.specs.Generators.{is_interned}
use Rattle.lp_codegen.specs.Modules.{inside_of, token_use}
use Rattle.lp_codegen.proofs.calls.write_uses.Goals as goal

pub returns-in_err-front : goal.returns-in_err-front
returns-in_err-front g c =
    let p = err_from_is_err_and c.from_residual.result c.from_residual.ensures.1 in rw (p.1, p.2) (none-part _ _)

pub returns-in_err-last : goal.returns-in_err-last
returns-in_err-last g c =
    let p = err_from_is_err_and c.from_residual-in_err-last.result c.from_residual-in_err-last.ensures.1 in rw (p.1, p.2) (none-part _ _)

pub returns-in_err-write_uses : goal.returns-in_err-write_uses
returns-in_err-write_uses g c =
    let p = err_from_is_err_and c.from_residual-in_err-write_uses.result c.from_residual-in_err-write_uses.ensures.1 in
    rw (p.1, p.2)
    (stopped _ _ _ (all_uses (inside_of c.args.action_module.now) c.args.grammar.now.prefix c.args.grammar.now.uses)
    (token_use (is_interned c.args.grammar.now) c.args.action_module.now c.args.prefix.now ∷ [])
    (rw (c.as_str.ensures, c.in_ok-front.ensures) at c.in_err-write_uses.ensures))

pub returns : goal.returns
returns g c =
    continued (write_ending c.write_line.result) _ _ _
    (all_uses (inside_of c.args.action_module.now) c.args.grammar.now.prefix c.args.grammar.now.uses)
    (token_use (is_interned c.args.grammar.now) c.args.action_module.now c.args.prefix.now ∷ [])
    (rw (c.as_str.ensures, c.in_ok-front.ensures) at c.in_ok-write_uses.ensures)
    (rw (c.as_str-2.ensures, c.in_ok-last.ensures) at c.write_line.ensures)
