use Rattle.std.proofs.Common.{rules, string_bytes}
use Rattle.std.proofs.lemmas.Str.{IsUtf8-string_bytes}
use Rattle.lp_emit.specs.Causes.{Refuses}
use Rattle.lp_emitted.proofs.Fitting.{emitted_entries_fit}
use Rattle.lp_emit.proofs.Emissions.{emission, emittable, refuses}
use Rattle.lp_emit.proofs.emit.emitted_text.Goals as goal

pub returns-in_err-check_fit-clause-cause : goal.returns-in_err-check_fit-clause-cause
returns-in_err-check_fit-clause-cause c =
    let refused : Refuses c.args.grammar.now c.args.states.now c.in_err-check_fit.field-0.0 =
    refuses c.args.grammar.now c.args.states.now c.in_ok-program.program c.in_err-check_fit.field-0.0 c.in_ok-check.ensures c.in_ok-program.ensures.0 c.in_err-check_fit.ensures in
    search rules

pub returns-clause-text : goal.returns-clause-text
returns-clause-text c =
    emission c.args.grammar.now c.args.states.now c.args.options.now (λ t. string_bytes t) (λ t. IsUtf8-string_bytes t) c.printed.result c.in_ok-program.program c.in_ok-check.ensures c.in_ok-see_counted.ensures c.see_states.ensures c.in_ok-program.ensures c.in_ok-check_fit.ensures c.printed.ensures.text

pub build_program-requires : goal.build_program-requires
build_program-requires c = emitted_entries_fit c.args.grammar.now c.args.states.now (emittable c.args.grammar.now c.args.states.now c.in_ok-check.ensures)
