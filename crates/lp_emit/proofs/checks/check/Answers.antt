use Rattle.std.proofs.Common.{rules}
use Rattle.lp_emit.specs.Causes.{Refuses}
use Rattle.lp_emit.proofs.checks.check.Goals as goal

pub returns-in_err-check_asked : goal.returns-in_err-check_asked
returns-in_err-check_asked c = let refused : Refuses c.args.grammar.now c.args.states.now c.in_err-check_asked.field-0.0 = c.in_err-check_asked.ensures c.args.states.now in search rules

pub returns-in_err-check_rules : goal.returns-in_err-check_rules
returns-in_err-check_rules c = let refused : Refuses c.args.grammar.now c.args.states.now c.in_err-check_rules.field-0.0 = c.in_err-check_rules.ensures c.args.states.now in search rules

pub returns-in_err-check_ascent : goal.returns-in_err-check_ascent
returns-in_err-check_ascent c = let refused : Refuses c.args.grammar.now c.args.states.now c.in_err-check_ascent.field-0.0 = c.in_err-check_ascent.ensures c.args.states.now in search rules
