use Rattle.std.proofs.Common.{sym, ◌∙◌}
use Rattle.lp_view.specs.PartLists.{listed}
use Rattle.lp_run.specs.Named.{is_parser, parser_of}
use Rattle.lp_view.proofs.Firsts.{that_found, that_passed, that_missed}
use Rattle.lp_run.proofs.named.parser_of.Goals as goal

pub loop-row-preserved : goal.loop-row-preserved
loop-row-preserved c =
    let at = c.loop-row in
    that_passed is_parser (parser_of (listed c.args.items)) c.next.result c.in-Some.row at.row-iterator c.next.new.self c.in-Some.is c.next.ensures.steps (sym c.is_parser.ensures ∙ c.if-is_parser.false) at.invariant

pub returns-then-is_parser : goal.returns-then-is_parser
returns-then-is_parser c =
    let at = c.loop-row in
    that_found is_parser (parser_of (listed c.args.items)) c.next.result c.in-Some.row at.row-iterator c.next.new.self c.in-Some.is c.next.ensures.steps (sym c.is_parser.ensures ∙ c.if-is_parser.true) at.invariant

pub returns : goal.returns
returns c =
    let at = c.loop-row in
    that_missed is_parser (parser_of (listed c.args.items)) c.next.result at.row-iterator c.next.new.self c.in-None.is c.next.ensures.steps at.invariant
