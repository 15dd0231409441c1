use Rattle.std.proofs.Common.{rules, ◌≡◌, [], ◌++◌, ◌∙◌, ap, true, false, length, string_bytes, subst}
use Rattle.lp_generated.specs.Generated.{token_list}
use Rattle.lp_program.specs.Choosing.{IsRefused}
use Rattle.lp_program.specs.declared.read.reader.ReadFault.TheVariants.{NoForm}
use Rattle.lp_round_trip.proofs.Law.{emission_is_not_refused}
use Rattle.lp_run.specs.RunTold.{run_finish}
use Rattle.lp_prepared.specs.Command.{looks}
use Rattle.lp_prepared.specs.Outputs.{IsFirstName, course_text, first_count, size_text}
use Rattle.lp_prepared.specs.Runs.{values_of}
use Rattle.lp_prepared.proofs.ByTables.{first_told, start_over}
use Rattle.lp_prepared.proofs.Reporting.{reported}
use Rattle.lp_prepared.proofs.generated.report.Goals as goal

-- what is emitted is read
pub read_back-requires : goal.read_back-requires
read_back-requires c = λ line refused. emission_is_not_refused c.args.file.now.lowered c.args.file.now.tables.items (looks false true) c.args.text.now c.requires.text line refused

-- a run from a public name is over
pub run_over-requires : goal.run_over-requires
run_over-requires c =
    let g = c.args.file.now.lowered in
    let tables = c.args.file.now.tables.items in
    let first : IsFirstName c.args.file.now.lowered c.unwrap-start.result.now = search rules in
    let start : c.as_str.result.now ≡ (c.unwrap-start.result.now).0 = search rules in
    let values : c.as_slice-3.result.now ≡ values_of c.args.file.now.lowered = search rules in
    λ finish runs.
    start_over c.args.file.now.plain g tables (looks false true) c.args.text.now c.requires.lowered c.requires.emitted c.requires.text c.in_ok-program.program (c.unwrap-start.result.now).0 c.as_slice-2.result.now [] 1000000 finish
    (first_told c.args.file.now.plain g tables (looks false true) c.args.text.now c.requires.lowered c.requires.emitted c.requires.text c.in_ok-program.program c.in_ok-program.ensures c.unwrap-start.result.now first c.as_str.result.now c.as_slice-2.result.now c.as_slice-3.result.now start values finish runs)

pub returns : goal.returns
returns c =
    let g = c.args.file.now.lowered in
    let tables = c.args.file.now.tables.items in
    let first : IsFirstName c.args.file.now.lowered c.unwrap-start.result.now = search rules in
    let start : c.as_str.result.now ≡ (c.unwrap-start.result.now).0 = search rules in
    let values : c.as_slice-3.result.now ≡ values_of c.args.file.now.lowered = search rules in
    let listed : c.as_slice-2.result.now ≡ token_list c.args.levels = c.as_slice-2.ensures.value ∙ (c.in_ok-items.ensures ∙ ap token_list c.from.ensures) in
    let sizes : string_bytes c.in_ok-output.output ≡ size_text (first_count c.args.file.now.tables.items) (length c.args.text.now) = search rules in
    let told : string_bytes c.write_run.new.output ≡ string_bytes c.in_ok-output.output ++ course_text c.in_ok-run.run'.events c.in_ok-run.run'.outcome c.in_ok-run.run'.steps = search rules in
    reported g tables c.args.levels c.args.text.now (length c.args.text.now) c.in_ok-program.program c.unwrap-start.result.now c.in_ok-run.run' c.as_str.result.now c.as_slice-2.result.now c.as_slice-3.result.now (string_bytes c.in_ok-output.output) (string_bytes c.write_run.new.output)
    c.in_ok-program.ensures first start values listed c.in_ok-run.ensures
    (first_told c.args.file.now.plain g tables (looks false true) c.args.text.now c.requires.lowered c.requires.emitted c.requires.text c.in_ok-program.program c.in_ok-program.ensures c.unwrap-start.result.now first c.as_str.result.now c.as_slice-2.result.now c.as_slice-3.result.now start values (run_finish c.in_ok-run.run') c.in_ok-run.ensures)
    sizes told
