use Rattle.std.proofs.Common.{[], ◌∷◌, ◌++◌, codes}
use Rattle.std.proofs.lemmas.Result.{err_from_is_err_and}
use Rattle.lp_write.specs.Headers.{header_lines}
use Rattle.lp_write.specs.Writes.{error_ending, write_ending}
use Rattle.lp_write.specs.Writes.Ending.{complete}
use Rattle.lp_codegen.proofs.Steps.{continued, stopped}
use Rattle.lp_codegen.specs.Generators.{front_of, header_of, visibility_in}
use Rattle.lp_codegen.proofs.calls.write_parser.Goals as goal

pub returns-in_err-write_front : goal.returns-in_err-write_front
returns-in_err-write_front g c =
    let p = err_from_is_err_and c.from_residual.result c.from_residual.ensures.1 in
    rw (p.1, p.2)
    (stopped _ _ _
    ((front_of c.args.grammar.now c.args.start.now c.args.name.now c.args.action_module.now c.args.prefix.now) ++ (header_lines (visibility_in c.args.grammar.now c.args.start.now) (header_of c.args.grammar.now c.args.start.now c.args.prefix.now c.args.repeatable)))
    (codes "{" ∷ [])
    (stopped _ _ _ (front_of c.args.grammar.now c.args.start.now c.args.name.now c.args.action_module.now c.args.prefix.now) (header_lines (visibility_in c.args.grammar.now c.args.start.now) (header_of c.args.grammar.now c.args.start.now c.args.prefix.now c.args.repeatable))
    c.in_err-write_front.ensures))

pub returns-in_err-write_parse_header : goal.returns-in_err-write_parse_header
returns-in_err-write_parse_header g c =
    let p = err_from_is_err_and c.from_residual-in_err-write_parse_header.result c.from_residual-in_err-write_parse_header.ensures.1 in
    rw (p.1, p.2)
    (stopped _ _ _
    ((front_of c.args.grammar.now c.args.start.now c.args.name.now c.args.action_module.now c.args.prefix.now) ++ (header_lines (visibility_in c.args.grammar.now c.args.start.now) (header_of c.args.grammar.now c.args.start.now c.args.prefix.now c.args.repeatable)))
    (codes "{" ∷ [])
    (continued (error_ending c.in_err-write_parse_header.field-0.0) _ _ _ (front_of c.args.grammar.now c.args.start.now c.args.name.now c.args.action_module.now c.args.prefix.now) (header_lines (visibility_in c.args.grammar.now c.args.start.now) (header_of c.args.grammar.now c.args.start.now c.args.prefix.now c.args.repeatable))
    c.in_ok-write_front.ensures c.in_err-write_parse_header.ensures))

pub returns : goal.returns
returns g c =
    continued (write_ending c.write_line.result) _ _ _
    ((front_of c.args.grammar.now c.args.start.now c.args.name.now c.args.action_module.now c.args.prefix.now) ++ (header_lines (visibility_in c.args.grammar.now c.args.start.now) (header_of c.args.grammar.now c.args.start.now c.args.prefix.now c.args.repeatable)))
    (codes "{" ∷ [])
    (continued complete _ _ _ (front_of c.args.grammar.now c.args.start.now c.args.name.now c.args.action_module.now c.args.prefix.now) (header_lines (visibility_in c.args.grammar.now c.args.start.now) (header_of c.args.grammar.now c.args.start.now c.args.prefix.now c.args.repeatable))
    c.in_ok-write_front.ensures c.in_ok-write_parse_header.ensures)
    c.write_line.ensures
