use Rattle.std.proofs.lemmas.Result.{err_from_is_err_and}
use Rattle.lp_write.specs.Writes.{write_ending}
use Rattle.lp_codegen.proofs.Steps.{continued, stopped}
use Rattle.lp_codegen.specs.Generators.{uses_of}
use Rattle.lp_codegen.specs.Modules.{module_head}
use Rattle.lp_codegen.proofs.calls.open_module.Goals as goal

pub returns-in_err-write_head : goal.returns-in_err-write_head
returns-in_err-write_head g c =
    let p = err_from_is_err_and c.from_residual.result c.from_residual.ensures.1 in
    rw (p.1, p.2)
    (stopped _ _ _ (module_head c.args.prefix.now c.args.start.now)
    (uses_of c.args.grammar.now c.args.action_module.now c.args.prefix.now) c.in_err-write_head.ensures)

pub returns : goal.returns
returns g c =
    continued (write_ending c.write_uses.result) _ _ _ (module_head c.args.prefix.now c.args.start.now)
    (uses_of c.args.grammar.now c.args.action_module.now c.args.prefix.now) c.in_ok-write_head.ensures c.write_uses.ensures
