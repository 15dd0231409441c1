use Rattle.std.proofs.Common.{rules, ◌≡◌, ◌≤◌, ◌∙◌, IfErr, Some, length}
use Rattle.lp_prepared.specs.Causes.{IsOfReading}
use Rattle.lp_prepared.specs.Command.{command_of}
use Rattle.lp_prepared.specs.declared.command.Command.TheVariants as asked
use Rattle.lp_prepared.specs.LinesTold.{IsBeforeLines}
use Rattle.lp_prepared.proofs.Caused.{few, file_caused, past, past_reading, reading_caused, reads}
use Rattle.lp_prepared.proofs.LinesTold.{before_run_told, before_told, emit_told, make_told, run_told, told_of_source}
use Rattle.lp_prepared.proofs.Telling.{prepared_of}
use Rattle.lp_prepared.proofs.TextTold.{emit_spelled, emit_text, make_spelled, make_text, reading_told, run_spelled, run_text}
use Rattle.lp_prepared.proofs.prepared.prepare.Goals as goal

pub returns-in_ok-bytes-in-Some-Emit-clause-prepared : goal.returns-in_ok-bytes-in-Some-Emit-clause-prepared
returns-in_ok-bytes-in-Some-Emit-clause-prepared g c =
    let named : command_of c.args.words.now ≡ Some (asked.Emit c.in-Some-Emit.options) = search rules in
    let same : c.as_slice.result.now ≡ c.in_ok-bytes-in-Some-Emit.bytes.items = search rules in
    prepared_of c.prepare_emit.result (asked.Emit c.in-Some-Emit.options) (command_of c.args.words.now) (g.S.Source.left c.args.source.now) c.as_slice.result.now named (λ told e. same ∙ c.in_ok-bytes-in-Some-Emit.ensures.bytes told e) c.prepare_emit.ensures.prepared

pub returns-in_ok-bytes-in-Some-Run-clause-prepared : goal.returns-in_ok-bytes-in-Some-Run-clause-prepared
returns-in_ok-bytes-in-Some-Run-clause-prepared g c =
    let named : command_of c.args.words.now ≡ Some (asked.Run c.in-Some-Run.options) = search rules in
    let same : c.as_slice-in-Some-Run.result.now ≡ c.in_ok-bytes-in-Some-Run.bytes.items = search rules in
    prepared_of c.prepare_run.result (asked.Run c.in-Some-Run.options) (command_of c.args.words.now) (g.S.Source.left c.args.source.now) c.as_slice-in-Some-Run.result.now named (λ told e. same ∙ c.in_ok-bytes-in-Some-Run.ensures.bytes told e) c.prepare_run.ensures.prepared

-- what is told of token lines
pub returns-in_err-bytes-in-Some-Emit-clause-line : goal.returns-in_err-bytes-in-Some-Emit-clause-line
returns-in_err-bytes-in-Some-Emit-clause-line g c =
    let named : command_of c.args.words.now ≡ Some (asked.Emit c.in-Some-Emit.options) = search rules in
    let before : IfErr c.from_residual.result (λ stop. IsBeforeLines stop.status) = search rules in
    emit_told c.from_residual.result (command_of c.args.words.now) c.in-Some-Emit.options (g.S.Source.left c.args.source.now) named (before_told c.from_residual.result before)

pub returns-in_ok-bytes-in-Some-Emit-clause-line : goal.returns-in_ok-bytes-in-Some-Emit-clause-line
returns-in_ok-bytes-in-Some-Emit-clause-line g c =
    let named : command_of c.args.words.now ≡ Some (asked.Emit c.in-Some-Emit.options) = search rules in
    emit_told c.prepare_emit.result (command_of c.args.words.now) c.in-Some-Emit.options (g.S.Source.left c.args.source.now) named c.prepare_emit.ensures.no_line

pub returns-in-Some-Make-clause-line : goal.returns-in-Some-Make-clause-line
returns-in-Some-Make-clause-line g c =
    let named : command_of c.args.words.now ≡ Some (asked.Make c.in-Some-Make.levels) = search rules in
    make_told c.prepare_generated.result (command_of c.args.words.now) c.in-Some-Make.levels (g.S.Source.left c.args.source.now) named c.prepare_generated.ensures.no_line

pub returns-in_err-bytes-in-Some-Run-clause-line : goal.returns-in_err-bytes-in-Some-Run-clause-line
returns-in_err-bytes-in-Some-Run-clause-line g c =
    let named : command_of c.args.words.now ≡ Some (asked.Run c.in-Some-Run.options) = search rules in
    let before : IfErr c.from_residual-in_err-bytes-in-Some-Run.result (λ stop. IsBeforeLines stop.status) = search rules in
    run_told c.from_residual-in_err-bytes-in-Some-Run.result (command_of c.args.words.now) c.in-Some-Run.options (g.S.Source.left c.args.source.now) named
    (before_run_told c.from_residual-in_err-bytes-in-Some-Run.result (g.S.Source.left c.args.source.now) before)

pub returns-in_ok-bytes-in-Some-Run-clause-line : goal.returns-in_ok-bytes-in-Some-Run-clause-line
returns-in_ok-bytes-in-Some-Run-clause-line g c =
    let named : command_of c.args.words.now ≡ Some (asked.Run c.in-Some-Run.options) = search rules in
    let same : c.as_slice-in-Some-Run.result.now ≡ c.in_ok-bytes-in-Some-Run.bytes.items = search rules in
    run_told c.prepare_run.result (command_of c.args.words.now) c.in-Some-Run.options (g.S.Source.left c.args.source.now) named
    (told_of_source c.prepare_run.result (g.S.Source.left c.args.source.now) c.as_slice-in-Some-Run.result.now (λ told e. same ∙ c.in_ok-bytes-in-Some-Run.ensures.bytes told e) c.prepare_run.ensures.line)

-- what is told of the source
pub returns-in_err-bytes-in-Some-Emit-clause-causes : goal.returns-in_err-bytes-in-Some-Emit-clause-causes
returns-in_err-bytes-in-Some-Emit-clause-causes g c =
    let named : command_of c.args.words.now ≡ Some (asked.Emit c.in-Some-Emit.options) = search rules in
    reading_caused c.from_residual.result (command_of c.args.words.now) _ _ _ (reads (command_of c.args.words.now) (asked.Emit c.in-Some-Emit.options) named tt) (search rules)

pub returns-in_err-bytes-in-Some-Run-clause-causes : goal.returns-in_err-bytes-in-Some-Run-clause-causes
returns-in_err-bytes-in-Some-Run-clause-causes g c =
    let named : command_of c.args.words.now ≡ Some (asked.Run c.in-Some-Run.options) = search rules in
    reading_caused c.from_residual-in_err-bytes-in-Some-Run.result (command_of c.args.words.now) _ _ _ (reads (command_of c.args.words.now) (asked.Run c.in-Some-Run.options) named tt) (search rules)

pub returns-in_ok-bytes-in-Some-Emit-clause-causes : goal.returns-in_ok-bytes-in-Some-Emit-clause-causes
returns-in_ok-bytes-in-Some-Emit-clause-causes g c =
    let named : command_of c.args.words.now ≡ Some (asked.Emit c.in-Some-Emit.options) = search rules in
    let few = few (g.S.Source.left c.args.source.now) c.in_ok-bytes-in-Some-Emit.bytes.items c.in_ok-bytes-in-Some-Emit.ensures.bytes c.in_ok-bytes-in-Some-Emit.ensures.few in
    file_caused c.prepare_emit.result (command_of c.args.words.now) (g.S.Source.left c.args.source.now) _ _ (past (command_of c.args.words.now) (asked.Emit c.in-Some-Emit.options) (g.S.Source.left c.args.source.now) named few) c.prepare_emit.ensures.stops

pub returns-in_ok-bytes-in-Some-Run-clause-causes : goal.returns-in_ok-bytes-in-Some-Run-clause-causes
returns-in_ok-bytes-in-Some-Run-clause-causes g c =
    let named : command_of c.args.words.now ≡ Some (asked.Run c.in-Some-Run.options) = search rules in
    let few = few (g.S.Source.left c.args.source.now) c.in_ok-bytes-in-Some-Run.bytes.items c.in_ok-bytes-in-Some-Run.ensures.bytes c.in_ok-bytes-in-Some-Run.ensures.few in
    file_caused c.prepare_run.result (command_of c.args.words.now) (g.S.Source.left c.args.source.now) _ _ (past (command_of c.args.words.now) (asked.Run c.in-Some-Run.options) (g.S.Source.left c.args.source.now) named few) c.prepare_run.ensures.stops

pub returns-in-Some-Make-clause-causes : goal.returns-in-Some-Make-clause-causes
returns-in-Some-Make-clause-causes g c =
    let named : command_of c.args.words.now ≡ Some (asked.Make c.in-Some-Make.levels) = search rules in
    file_caused c.prepare_generated.result (command_of c.args.words.now) (g.S.Source.left c.args.source.now) _ _ (past (command_of c.args.words.now) (asked.Make c.in-Some-Make.levels) (g.S.Source.left c.args.source.now) named tt) c.prepare_generated.ensures.stops

-- that the source was read to its end
pub returns-in_ok-bytes-in-Some-Emit-clause-goes : goal.returns-in_ok-bytes-in-Some-Emit-clause-goes
returns-in_ok-bytes-in-Some-Emit-clause-goes g c =
    let named : command_of c.args.words.now ≡ Some (asked.Emit c.in-Some-Emit.options) = search rules in
    let few = few (g.S.Source.left c.args.source.now) c.in_ok-bytes-in-Some-Emit.bytes.items c.in_ok-bytes-in-Some-Emit.ensures.bytes c.in_ok-bytes-in-Some-Emit.ensures.few in
    past_reading c.prepare_emit.result (command_of c.args.words.now) (g.S.Source.left c.args.source.now) (past (command_of c.args.words.now) (asked.Emit c.in-Some-Emit.options) (g.S.Source.left c.args.source.now) named few)

pub returns-in_ok-bytes-in-Some-Run-clause-goes : goal.returns-in_ok-bytes-in-Some-Run-clause-goes
returns-in_ok-bytes-in-Some-Run-clause-goes g c =
    let named : command_of c.args.words.now ≡ Some (asked.Run c.in-Some-Run.options) = search rules in
    let few = few (g.S.Source.left c.args.source.now) c.in_ok-bytes-in-Some-Run.bytes.items c.in_ok-bytes-in-Some-Run.ensures.bytes c.in_ok-bytes-in-Some-Run.ensures.few in
    past_reading c.prepare_run.result (command_of c.args.words.now) (g.S.Source.left c.args.source.now) (past (command_of c.args.words.now) (asked.Run c.in-Some-Run.options) (g.S.Source.left c.args.source.now) named few)

pub returns-in-Some-Make-clause-goes : goal.returns-in-Some-Make-clause-goes
returns-in-Some-Make-clause-goes g c =
    let named : command_of c.args.words.now ≡ Some (asked.Make c.in-Some-Make.levels) = search rules in
    past_reading c.prepare_generated.result (command_of c.args.words.now) (g.S.Source.left c.args.source.now) (past (command_of c.args.words.now) (asked.Make c.in-Some-Make.levels) (g.S.Source.left c.args.source.now) named tt)

-- what is told of the text
pub returns-in_err-bytes-in-Some-Emit-clause-text : goal.returns-in_err-bytes-in-Some-Emit-clause-text
returns-in_err-bytes-in-Some-Emit-clause-text g c =
    let ended : IfErr c.from_residual.result (λ stop. IsOfReading stop.status) = search rules in
    reading_told c.from_residual.result (command_of c.args.words.now) (g.S.Source.left c.args.source.now) ended

pub returns-in_ok-bytes-in-Some-Emit-clause-text : goal.returns-in_ok-bytes-in-Some-Emit-clause-text
returns-in_ok-bytes-in-Some-Emit-clause-text g c =
    let named : command_of c.args.words.now ≡ Some (asked.Emit c.in-Some-Emit.options) = search rules in
    let same : c.as_slice.result.now ≡ c.in_ok-bytes-in-Some-Emit.bytes.items = search rules in
    let few : length c.as_slice.result.now ≤ 16777216 = rw same c.in_ok-bytes-in-Some-Emit.ensures.few in
    emit_text c.prepare_emit.result (command_of c.args.words.now) c.in-Some-Emit.options (g.S.Source.left c.args.source.now) c.as_slice.result.now named few (λ told e. same ∙ c.in_ok-bytes-in-Some-Emit.ensures.bytes told e) c.prepare_emit.ensures.stops c.prepare_emit.ensures.text

pub returns-in_ok-bytes-in-Some-Emit-clause-spelled : goal.returns-in_ok-bytes-in-Some-Emit-clause-spelled
returns-in_ok-bytes-in-Some-Emit-clause-spelled g c =
    let named : command_of c.args.words.now ≡ Some (asked.Emit c.in-Some-Emit.options) = search rules in
    let same : c.as_slice.result.now ≡ c.in_ok-bytes-in-Some-Emit.bytes.items = search rules in
    let few : length c.as_slice.result.now ≤ 16777216 = rw same c.in_ok-bytes-in-Some-Emit.ensures.few in
    emit_spelled c.prepare_emit.result (command_of c.args.words.now) c.in-Some-Emit.options (g.S.Source.left c.args.source.now) c.as_slice.result.now named few (λ told e. same ∙ c.in_ok-bytes-in-Some-Emit.ensures.bytes told e) c.prepare_emit.ensures.spelled

pub returns-in_err-bytes-in-Some-Run-clause-text : goal.returns-in_err-bytes-in-Some-Run-clause-text
returns-in_err-bytes-in-Some-Run-clause-text g c =
    let ended : IfErr c.from_residual-in_err-bytes-in-Some-Run.result (λ stop. IsOfReading stop.status) = search rules in
    reading_told c.from_residual-in_err-bytes-in-Some-Run.result (command_of c.args.words.now) (g.S.Source.left c.args.source.now) ended

pub returns-in_ok-bytes-in-Some-Run-clause-text : goal.returns-in_ok-bytes-in-Some-Run-clause-text
returns-in_ok-bytes-in-Some-Run-clause-text g c =
    let named : command_of c.args.words.now ≡ Some (asked.Run c.in-Some-Run.options) = search rules in
    let same : c.as_slice-in-Some-Run.result.now ≡ c.in_ok-bytes-in-Some-Run.bytes.items = search rules in
    let few : length c.as_slice-in-Some-Run.result.now ≤ 16777216 = rw same c.in_ok-bytes-in-Some-Run.ensures.few in
    run_text c.prepare_run.result (command_of c.args.words.now) c.in-Some-Run.options (g.S.Source.left c.args.source.now) c.as_slice-in-Some-Run.result.now named few (λ told e. same ∙ c.in_ok-bytes-in-Some-Run.ensures.bytes told e) c.prepare_run.ensures.stops c.prepare_run.ensures.text

pub returns-in_ok-bytes-in-Some-Run-clause-spelled : goal.returns-in_ok-bytes-in-Some-Run-clause-spelled
returns-in_ok-bytes-in-Some-Run-clause-spelled g c =
    let named : command_of c.args.words.now ≡ Some (asked.Run c.in-Some-Run.options) = search rules in
    let same : c.as_slice-in-Some-Run.result.now ≡ c.in_ok-bytes-in-Some-Run.bytes.items = search rules in
    let few : length c.as_slice-in-Some-Run.result.now ≤ 16777216 = rw same c.in_ok-bytes-in-Some-Run.ensures.few in
    run_spelled c.prepare_run.result (command_of c.args.words.now) c.in-Some-Run.options (g.S.Source.left c.args.source.now) c.as_slice-in-Some-Run.result.now named few (λ told e. same ∙ c.in_ok-bytes-in-Some-Run.ensures.bytes told e) c.prepare_run.ensures.spelled

pub returns-in-Some-Make-clause-text : goal.returns-in-Some-Make-clause-text
returns-in-Some-Make-clause-text g c =
    let named : command_of c.args.words.now ≡ Some (asked.Make c.in-Some-Make.levels) = search rules in
    make_text c.prepare_generated.result (command_of c.args.words.now) c.in-Some-Make.levels (g.S.Source.left c.args.source.now) named (c.prepare_generated.ensures.text (g.S.Source.left c.args.source.now))

pub returns-in-Some-Make-clause-spelled : goal.returns-in-Some-Make-clause-spelled
returns-in-Some-Make-clause-spelled g c =
    let named : command_of c.args.words.now ≡ Some (asked.Make c.in-Some-Make.levels) = search rules in
    make_spelled c.prepare_generated.result (command_of c.args.words.now) c.in-Some-Make.levels (g.S.Source.left c.args.source.now) named (c.prepare_generated.ensures.spelled (g.S.Source.left c.args.source.now))
