use Rattle.std.proofs.Common.{rules, ◌≡◌, IfErr, length, Some, string_bytes, subst}
use Rattle.lp_emit.specs.Causes.{MayBeEmitted}
use Rattle.lp_emit.specs.Texts.{IsEmission}
use Rattle.lp_prepared.specs.LinesTold.{IsBeforeLines}
use Rattle.lp_prepared.proofs.LinesTold.{before_told}
use Rattle.lp_prepared.proofs.Telling.{made_emit}
use Rattle.lp_prepared.proofs.prepared.prepare_emit.Goals as goal

pub returns-in-Err-clause-told : goal.returns-in-Err-clause-told
returns-in-Err-clause-told c =
    c.with.ensures.told c.in_ok-file.file.lowered c.in_ok-file.ensures.file.lowered c.in-Err.ensures.told c.in-Err.ensures.stops

pub returns-in-Ok-clause-prepared : goal.returns-in-Ok-clause-prepared
returns-in-Ok-clause-prepared c =
    let g = c.in_ok-file.file.lowered in
    let tables = c.in_ok-file.file.tables.items in
    let may : MayBeEmitted c.in_ok-file.file.lowered c.in_ok-file.file.tables.items = search rules in
    let told : IsEmission c.in_ok-file.file.lowered c.in_ok-file.file.tables.items c.args.options (string_bytes c.in-Ok.text) = search rules in
    let same : string_bytes c.in-Ok.text ≡ c.into_bytes.result.items = search rules in
    let text : IsEmission c.in_ok-file.file.lowered c.in_ok-file.file.tables.items c.args.options c.into_bytes.result.items = subst (IsEmission c.in_ok-file.file.lowered c.in_ok-file.file.tables.items c.args.options) same told in
    let len : c.len.result ≡ length c.into_bytes.result.items = search rules in
    made_emit c.args.options (Some c.args.bytes.now) c.in_ok-file.file.plain g tables c.len.result c.into_bytes.result.items c.in_ok-file.ensures.file.lowered c.in_ok-file.ensures.file.tables may text len

pub returns-in_err-file-clause-no_line : goal.returns-in_err-file-clause-no_line
returns-in_err-file-clause-no_line c =
    let before : IfErr c.from_residual.result (λ stop. IsBeforeLines stop.status) = search rules in
    before_told c.from_residual.result before

-- what is told of the text
pub returns-in-Err-clause-text : goal.returns-in-Err-clause-text
returns-in-Err-clause-text c =
    let of_text = c.in_ok-file.ensures.file.tail in
    (of_text.0, c.in_ok-file.file.tail.items, of_text.1, c.with.ensures.text of_text.0 of_text.2 c.in-Err.ensures.grammar)

pub returns-in-Ok-clause-spelled : goal.returns-in-Ok-clause-spelled
returns-in-Ok-clause-spelled c =
    let of_text = c.in_ok-file.ensures.file.tail in
    (of_text.0, c.in_ok-file.file.tail.items, of_text.1, of_text.2)

pub emitted-requires-clause-spelled : goal.emitted-requires-clause-spelled
emitted-requires-clause-spelled c = (c.in_ok-file.ensures.file.tail.0, c.in_ok-file.ensures.file.tail.2)
