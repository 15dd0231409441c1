use Rattle.std.proofs.Common.{◌++◌, codes}
use Rattle.std.proofs.lemmas.Result.{err_from_is_err_and}
use Rattle.lp_write.specs.Uses.{all_uses}
use Rattle.lp_write.specs.Writes.{error_ending, write_ending}
use Rattle.lp_write.specs.Writes.Ending.{complete}
use Rattle.lp_codegen.proofs.Steps.{continued, stopped}
use Rattle.lp_codegen.specs.TokenModules.{builder_lines, token_head}
use Rattle.lp_codegen.proofs.intern_token.compile.Goals as goal

pub returns-in_err-write_head : goal.returns-in_err-write_head
returns-in_err-write_head g c =
    let p = err_from_is_err_and c.from_residual.result c.from_residual.ensures.1 in
    rw (p.1, p.2)
    (stopped _ _ _
    ((token_head c.args.grammar.now.prefix) ++ (all_uses (codes "super::") c.args.grammar.now.prefix c.args.grammar.now.uses))
    (builder_lines c.args.grammar.now.prefix c.args.intern_token.now.match_entries)
    (stopped _ _ _ (token_head c.args.grammar.now.prefix) (all_uses (codes "super::") c.args.grammar.now.prefix c.args.grammar.now.uses)
    c.in_err-write_head.ensures))

pub returns-in_err-write_uses : goal.returns-in_err-write_uses
returns-in_err-write_uses g c =
    let p = err_from_is_err_and c.from_residual-in_err-write_uses.result c.from_residual-in_err-write_uses.ensures.1 in
    rw (p.1, p.2)
    (stopped _ _ _
    ((token_head c.args.grammar.now.prefix) ++ (all_uses (codes "super::") c.args.grammar.now.prefix c.args.grammar.now.uses))
    (builder_lines c.args.grammar.now.prefix c.args.intern_token.now.match_entries)
    (continued (error_ending c.in_err-write_uses.field-0.0) _ _ _ (token_head c.args.grammar.now.prefix)
    (all_uses (codes "super::") c.args.grammar.now.prefix c.args.grammar.now.uses) c.in_ok-write_head.ensures c.in_err-write_uses.ensures))

pub returns : goal.returns
returns g c =
    continued (write_ending c.write_builder.result) _ _ _
    ((token_head c.args.grammar.now.prefix) ++ (all_uses (codes "super::") c.args.grammar.now.prefix c.args.grammar.now.uses))
    (builder_lines c.args.grammar.now.prefix c.args.intern_token.now.match_entries)
    (continued complete _ _ _ (token_head c.args.grammar.now.prefix) (all_uses (codes "super::") c.args.grammar.now.prefix c.args.grammar.now.uses)
    c.in_ok-write_head.ensures c.in_ok-write_uses.ensures)
    c.write_builder.ensures
