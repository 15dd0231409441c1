use Rattle.std.proofs.Common.{◌∙◌}
use Rattle.lp_ascent.proofs.Steps.{patterns_next}
use Rattle.lp_ascent.proofs.reductions.patterns_among.Goals as goal

pub loop-number-preserved : goal.loop-number-preserved
loop-number-preserved c =
    patterns_next c.args.grammar.now c.args.tokens.now c.loop-number.number c.loop-number.patterns.items c.args.terminals.now c.index-terminals-number.result c.add_terminal.new.patterns.items
    c.loop-number-test.true c.index-terminals-number.is c.in_ok-add_terminal.ensures
    ∙ c.loop-number.invariant
