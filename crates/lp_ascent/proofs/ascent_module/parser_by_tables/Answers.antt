use Rattle.std.proofs.Common.{◌≡◌, [], ◌∷◌}
use Rattle.std.specs.Prelude.{false}
use Rattle.std.proofs.lemmas.Result.{IfOk-weaker}
use Rattle.lp_build.specs.Functions.{parser_part}
use Rattle.lp_table.specs.FrameLines.{is_interned, parser_parts, table_parser}
use Rattle.lp_table.specs.Starts.{start_of}
use Rattle.lp_tree.specs.ProgramTree.{items, parts_below}
use Rattle.lp_ascent.specs.BuiltAscent.{parser_lines}
use Rattle.lp_ascent.proofs.Below.{below_of}
use Rattle.lp_ascent.proofs.ascent_module.parser_by_tables.Goals as goal

pub returns : goal.returns
unfolding table_parser parser_parts
returns c =
    let g = c.args.shared.now.grammar.now in
    let s = start_of c.args.shared.now.start in
    let body = items c.args.body in
    IfOk-weaker c.table_parser.result
    (λ n. items n ≡ table_parser g s body)
    (λ n. parts_below n ≡ parser_lines g s body)
    (λ n e. below_of n (parser_part false (is_interned g)) (s.visibility ∷ s.public_name ∷ []) (parser_lines g s body) e)
    c.table_parser.ensures
