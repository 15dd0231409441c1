use Rattle.std.proofs.Common.{rules, ◌≡◌, Some, subst}
use Rattle.lp_prepared.specs.Causes.{Written}
use Rattle.lp_prepared.specs.Command.{command_of}
use Rattle.lp_prepared.proofs.Caused.{caused_written}
use Rattle.lp_prepared.proofs.LinesTold.{line_written}
use Rattle.lp_prepared.proofs.Telling.{answered_written, told_written, wrote}
use Rattle.lp_prepared.proofs.TextTold.{text_written}
use Rattle.lp_tool.proofs.tool.run_tool.Goals as goal

pub returns-in-Ok-clause-wrote : goal.returns-in-Ok-clause-wrote
returns-in-Ok-clause-wrote g c =
    let same : c.as_slice.result.now ≡ c.in-Ok.prepared.output.items = search rules in
    let written = subst (λ output. Written (g.K.Sink.told c.args.sink.now) (g.K.Sink.told c.written-status.new.sink) output c.written-status.result) same c.written-status.ensures.wrote in
    wrote (command_of c.args.words.now) (g.S.Source.left c.args.source.now) c.in-Ok.prepared.grammar c.in-Ok.prepared.tables.items c.in-Ok.prepared.text_len c.in-Ok.prepared.output.items (g.K.Sink.told c.args.sink.now) (g.K.Sink.told c.written-status.new.sink) c.written-status.result c.in-Ok.ensures.prepared written

pub returns-in-Ok-clause-answered : goal.returns-in-Ok-clause-answered
returns-in-Ok-clause-answered g c = answered_written c.in-Ok.prepared.grammar c.written-status.result c.written-status.ensures.ended

pub returns-in-Ok-clause-causes : goal.returns-in-Ok-clause-causes
returns-in-Ok-clause-causes g c = caused_written (command_of c.args.words.now) (g.S.Source.left c.args.source.now) _ _ c.written-status.result c.in-Ok.ensures.goes c.written-status.ensures.ended

pub returns-in-Ok-clause-told : goal.returns-in-Ok-clause-told
returns-in-Ok-clause-told g c = told_written (Some c.in-Ok.prepared.grammar) c.written-status.result c.written-status.ensures.ended

pub returns-in-Ok-clause-line : goal.returns-in-Ok-clause-line
returns-in-Ok-clause-line g c = line_written (command_of c.args.words.now) (g.S.Source.left c.args.source.now) (Some c.in-Ok.prepared.grammar) c.written-status.result c.written-status.ensures.ended

pub returns-in-Ok-clause-text : goal.returns-in-Ok-clause-text
returns-in-Ok-clause-text g c = text_written (command_of c.args.words.now) (g.S.Source.left c.args.source.now) c.in-Ok.prepared.grammar c.written-status.result c.written-status.ensures.ended c.in-Ok.ensures.spelled
