use Rattle.std.proofs.Common.{rules, IfErr, Some, refl}
use Rattle.lp_emit.specs.Causes.{MayBeEmitted}
use Rattle.lp_prepared.specs.Outputs.{IsRunOutput}
use Rattle.lp_prepared.specs.LinesTold.{IsBeforeLines}
use Rattle.lp_prepared.proofs.LinesTold.{before_run_told}
use Rattle.lp_prepared.proofs.Telling.{made_run, tail_in}
use Rattle.lp_prepared.proofs.prepared.prepare_run.Goals as goal

pub returns-in-Err-clause-told : goal.returns-in-Err-clause-told
returns-in-Err-clause-told c =
    c.with.ensures.told c.in_ok-file.file.lowered c.in_ok-file.ensures.file.lowered c.in-Err.ensures.told c.in-Err.ensures.stops

pub returns-in-Ok-clause-prepared : goal.returns-in-Ok-clause-prepared
returns-in-Ok-clause-prepared c =
    let g = c.in_ok-file.file.lowered in
    let tables = c.in_ok-file.file.tables.items in
    let tail = c.in_ok-file.file.tail.items in
    let may : MayBeEmitted c.in_ok-file.file.lowered c.in_ok-file.file.tables.items = search rules in
    let run : IsRunOutput c.in_ok-file.file.lowered c.in_ok-file.file.tables.items c.args.options c.in_ok-file.file.tail.items c.in-Ok.text_len c.in-Ok.output.items = search rules in
    made_run c.args.options (Some c.args.bytes.now) c.in_ok-file.file.plain g tables tail c.in-Ok.text_len c.in-Ok.output.items c.in_ok-file.ensures.file.lowered c.in_ok-file.ensures.file.tables may (tail_in c.args.bytes.now c.in_ok-file.ensures.file.tail.0 tail tail c.in_ok-file.ensures.file.tail.1 refl) run

pub returns-in_err-file-clause-line : goal.returns-in_err-file-clause-line
returns-in_err-file-clause-line c =
    let before : IfErr c.from_residual.result (λ stop. IsBeforeLines stop.status) = search rules in
    before_run_told c.from_residual.result (Some c.args.bytes.now) before

pub returns-in-Err-clause-line : goal.returns-in-Err-clause-line
returns-in-Err-clause-line c =
    let tail = c.in_ok-file.file.tail.items in
    let of_file = tail_in c.args.bytes.now c.in_ok-file.ensures.file.tail.0 tail tail c.in_ok-file.ensures.file.tail.1 refl in
    c.with.ensures.line c.in_ok-file.file.lowered (Some c.args.bytes.now) tail c.in_ok-file.ensures.file.lowered of_file c.in-Err.ensures.lines

-- what is told of the text
pub returns-in-Err-clause-text : goal.returns-in-Err-clause-text
returns-in-Err-clause-text c =
    let of_text = c.in_ok-file.ensures.file.tail in
    (of_text.0, c.in_ok-file.file.tail.items, of_text.1, c.with.ensures.text of_text.0 of_text.2 c.in-Err.ensures.grammar)

pub returns-in-Ok-clause-spelled : goal.returns-in-Ok-clause-spelled
returns-in-Ok-clause-spelled c =
    let of_text = c.in_ok-file.ensures.file.tail in
    (of_text.0, c.in_ok-file.file.tail.items, of_text.1, of_text.2)

pub text_and_runs-requires-clause-spelled : goal.text_and_runs-requires-clause-spelled
text_and_runs-requires-clause-spelled c = (c.in_ok-file.ensures.file.tail.0, c.in_ok-file.ensures.file.tail.2)
