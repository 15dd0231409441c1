use Rattle.std.proofs.Common.{rules, string_bytes}
use Rattle.lp_write.specs.Sinks.{Broke, Took}
use Rattle.lp_emit.proofs.emit.emit_parsers.Goals as goal

pub returns-in-Ok-clause-whole : goal.returns-in-Ok-clause-whole
returns-in-Ok-clause-whole g c =
    let took : Took (g.K.Sink.told c.args.sink.now) (g.K.Sink.told c.write_all.new.sink) (string_bytes c.in_ok-text.text) = search rules in
    (string_bytes c.in_ok-text.text, c.in_ok-text.ensures.text, took)

pub returns-clause-sink : goal.returns-clause-sink
returns-clause-sink g c =
    let broke : Broke (g.K.Sink.told c.args.sink.now) (g.K.Sink.told c.write_all.new.sink) (string_bytes c.in_ok-text.text) = search rules in
    (string_bytes c.in_ok-text.text, c.in_ok-text.ensures.text, broke)
