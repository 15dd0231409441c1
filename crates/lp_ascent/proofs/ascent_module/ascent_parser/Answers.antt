use Rattle.std.proofs.Common.{◌≡◌, ap, ◌∙◌}
use Rattle.std.proofs.lemmas.Result.{IfOk-weaker}
use Rattle.lp_table.specs.Starts.{start_of}
use Rattle.lp_tree.specs.ProgramTree.{items}
use Rattle.lp_ascent.specs.BuiltAscent.{ascent_parser, parser_over}
use Rattle.lp_ascent.proofs.ascent_module.ascent_parser.Goals as goal

pub returns : goal.returns
unfolding ascent_parser
returns c =
    let g = c.args.shared.now.grammar.now in
    let s = start_of c.args.shared.now.start in
    IfOk-weaker c.parser_over.result
    (λ n. items n ≡ parser_over g s (items c.in_ok-body.body))
    (λ n. items n ≡ ascent_parser g c.args.shared.now.states.now s)
    (λ n e. e ∙ ap (parser_over g s) c.in_ok-body.ensures)
    c.parser_over.ensures
