use Rattle.std.proofs.Common.{rules, ◌≡◌, string_bytes, subst}
use Rattle.lp_emit.specs.Causes.{Refuses}
use Rattle.lp_emit.specs.Texts.{IsEmission}
use Rattle.lp_prepared.proofs.Telling.{told_refused}
use Rattle.lp_prepared.proofs.prepared.emitted.Goals as goal

pub returns-in-Err-clause-told : goal.returns-in-Err-clause-told
returns-in-Err-clause-told c =
    let cause : Refuses c.args.file.now.lowered c.args.file.now.tables.items c.in-Err.error = search rules in
    told_refused c.requires.spelled.0 c.args.file.now.plain c.args.file.now.lowered c.args.file.now.tables.items c.in-Err.error c.refused.result c.requires.spelled.1 c.requires.lowered c.requires.tables cause c.refused.ensures.refusal

pub returns-in-Ok-clause-text : goal.returns-in-Ok-clause-text
returns-in-Ok-clause-text c =
    let same : c.as_slice.result.now ≡ c.args.file.now.tables.items = search rules in
    subst (λ tables. IsEmission c.args.file.now.lowered tables c.args.options.now (string_bytes c.in-Ok.text)) same c.in-Ok.ensures.text
