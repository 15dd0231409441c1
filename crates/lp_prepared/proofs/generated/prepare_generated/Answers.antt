use Rattle.std.proofs.Common.{rules, ◌≡◌, ◌∙◌, ap, IfErr, Some, true, false, length, string_bytes, subst, sym}
use Rattle.lp_emit.specs.Causes.{MayBeEmitted}
use Rattle.lp_emit.specs.Texts.{IsEmission}
use Rattle.lp_generated.specs.Generated.{grammar_text}
use Rattle.lp_prepared.specs.Command.{looks}
use Rattle.lp_prepared.specs.Outputs.{IsReport}
use Rattle.lp_prepared.specs.Causes.{IsOfFile}
use Rattle.lp_prepared.specs.LinesTold.{IsBeforeLines}
use Rattle.lp_prepared.specs.TextTold.{OfText, Spells, ToldOfText}
use Rattle.lp_prepared.specs.declared.command.Command.TheVariants as asked
use Rattle.lp_prepared.proofs.LinesTold.{before_told}
use Rattle.lp_prepared.proofs.Telling.{made_make, report_of}
use Rattle.lp_prepared.proofs.TextTold.{generated_text, text_file}
use Rattle.lp_prepared.proofs.generated.prepare_generated.Goals as goal

pub returns-in-Err-clause-told : goal.returns-in-Err-clause-told
returns-in-Err-clause-told c =
    c.with.ensures.told c.in_ok-file.file.lowered c.in_ok-file.ensures.file.lowered c.in-Err.ensures.told c.in-Err.ensures.stops

pub returns-clause-prepared : goal.returns-clause-prepared
returns-clause-prepared c =
    let g = c.in_ok-file.file.lowered in
    let tables = c.in_ok-file.file.tables.items in
    let may : MayBeEmitted c.in_ok-file.file.lowered c.in_ok-file.file.tables.items = c.in-Ok-emitted.ensures.emitted in
    let usual : c.default.result ≡ looks false true = search rules in
    let told : IsEmission c.in_ok-file.file.lowered c.in_ok-file.file.tables.items c.default.result (string_bytes c.in-Ok-emitted.text) = c.in-Ok-emitted.ensures.text in
    let text : IsEmission c.in_ok-file.file.lowered c.in_ok-file.file.tables.items (looks false true) (string_bytes c.in-Ok-emitted.text) = subst (λ o. IsEmission c.in_ok-file.file.lowered c.in_ok-file.file.tables.items o (string_bytes c.in-Ok-emitted.text)) usual told in
    let len : c.len.result ≡ length (string_bytes c.in-Ok-emitted.text) = search rules in
    let size : length (string_bytes c.in-Ok-emitted.text) ≡ c.len.result = search rules in
    let bytes : string_bytes c.in-Ok-report.output ≡ c.into_bytes.result.items = search rules in
    let lines : IsReport c.in_ok-file.file.lowered c.in_ok-file.file.tables.items c.args.levels (string_bytes c.in-Ok-emitted.text) (length (string_bytes c.in-Ok-emitted.text)) (string_bytes c.in-Ok-report.output) =
    subst (λ t. IsReport c.in_ok-file.file.lowered c.in_ok-file.file.tables.items c.args.levels t (length t) (string_bytes c.in-Ok-report.output)) c.as_str-2.ensures.value c.in-Ok-report.ensures in
    let report = report_of g tables c.args.levels (string_bytes c.in-Ok-emitted.text) (length (string_bytes c.in-Ok-emitted.text)) c.len.result (string_bytes c.in-Ok-report.output) c.into_bytes.result.items size bytes lines in
    λ left. made_make c.args.levels left c.in_ok-file.file.plain g tables c.len.result c.into_bytes.result.items (string_bytes c.in-Ok-emitted.text) c.in_ok-file.ensures.file.lowered c.in_ok-file.ensures.file.tables may text len report

pub returns-in_err-file-clause-no_line : goal.returns-in_err-file-clause-no_line
returns-in_err-file-clause-no_line c =
    let before : IfErr c.from_residual.result (λ stop. IsBeforeLines stop.status) = search rules in
    before_told c.from_residual.result before

-- what is told of the text
pub returns-in_err-file-clause-text : goal.returns-in_err-file-clause-text
returns-in_err-file-clause-text c =
    let stops : IfErr c.from_residual.result (λ stop. IsOfFile stop.status) = search rules in
    let told : IfErr c.from_residual.result (λ stop. OfText c.as_bytes.result.now (ToldOfText stop.grammar stop.status)) = search rules in
    let made : c.as_bytes.result.now ≡ grammar_text c.args.levels = c.as_bytes.ensures.value ∙ (c.as_str.ensures.value ∙ (c.in-Ok.ensures ∙ ap grammar_text c.from.ensures)) in
    λ left. generated_text c.from_residual.result c.args.levels left c.as_bytes.result.now made stops told

pub returns-in-Err-clause-text : goal.returns-in-Err-clause-text
returns-in-Err-clause-text c =
    let of_text = c.in_ok-file.ensures.file.tail in
    let stops : IsOfFile c.with.result.status = search rules in
    let told : OfText c.as_bytes.result.now (ToldOfText c.with.result.grammar c.with.result.status) =
    (of_text.0, c.in_ok-file.file.tail.items, of_text.1, c.with.ensures.text of_text.0 of_text.2 c.in-Err.ensures.grammar) in
    let made : c.as_bytes.result.now ≡ grammar_text c.args.levels = c.as_bytes.ensures.value ∙ (c.as_str.ensures.value ∙ (c.in-Ok.ensures ∙ ap grammar_text c.from.ensures)) in
    λ left. text_file (Some (asked.Make c.args.levels)) left c.with.result.grammar c.with.result.status stops (subst (λ b. OfText b (ToldOfText c.with.result.grammar c.with.result.status)) made told)

pub returns-clause-spelled : goal.returns-clause-spelled
returns-clause-spelled c =
    let of_text = c.in_ok-file.ensures.file.tail in
    let made : c.as_bytes.result.now ≡ grammar_text c.args.levels = c.as_bytes.ensures.value ∙ (c.as_str.ensures.value ∙ (c.in-Ok.ensures ∙ ap grammar_text c.from.ensures)) in
    let spelled : OfText c.as_bytes.result.now (Spells c.in_ok-file.file.plain) = (of_text.0, c.in_ok-file.file.tail.items, of_text.1, of_text.2) in
    λ left. subst (λ b. OfText b (Spells c.in_ok-file.file.plain)) made spelled

pub emitted-requires-clause-spelled : goal.emitted-requires-clause-spelled
emitted-requires-clause-spelled c = (c.in_ok-file.ensures.file.tail.0, c.in_ok-file.ensures.file.tail.2)

pub report-requires-clause-text : goal.report-requires-clause-text
report-requires-clause-text c =
    let usual : c.default.result ≡ looks false true = search rules in
    let told : IsEmission c.in_ok-file.file.lowered c.in_ok-file.file.tables.items c.default.result (string_bytes c.in-Ok-emitted.text) = c.in-Ok-emitted.ensures.text in
    subst (IsEmission c.in_ok-file.file.lowered c.in_ok-file.file.tables.items (looks false true)) (sym c.as_str-2.ensures.value) (subst (λ o. IsEmission c.in_ok-file.file.lowered c.in_ok-file.file.tables.items o (string_bytes c.in-Ok-emitted.text)) usual told)
