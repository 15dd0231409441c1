use Rattle.std.proofs.Common.{rules, ◌≡◌, ◌++◌, [], Some, None, string_bytes}
use Rattle.lp_driver.specs.declared.answers.RunError.TheVariants as error
use Rattle.lp_lines.specs.Blocks.{block_text}
use Rattle.lp_text_run.proofs.Blocks.{of_line}
use Rattle.lp_text_run.proofs.Courses.{ended, ended_course, stuck, stuck_course}
use Rattle.lp_text_run.proofs.text_run.run_line.Goals as goal

pub returns-in_ok-append_run-in-Ok-clause-block : goal.returns-in_ok-append_run-in-Ok-clause-block
returns-in_ok-append_run-in-Ok-clause-block c =
    let start : c.as_str-start.result.now ≡ c.args.line.now.start = search rules in
    let items : c.as_slice-items.result.now ≡ c.args.line.now.items = search rules in
    let failing : c.as_slice-failing.result.now ≡ c.args.line.now.failing = search rules in
    let course = ended_course c.args.program.now c.as_str-start.result.now c.as_slice-items.result.now c.args.params.now c.as_slice-failing.result.now c.args.line.now.budget c.in-Ok.run' c.in-Ok.ensures in
    let runs = of_line c.args.program.now c.as_str-start.result.now c.as_slice-items.result.now c.args.params.now c.as_slice-failing.result.now c.args.line.now (ended c.in-Ok.run') start items failing course in
    let told : string_bytes c.append_run.new.out ≡ string_bytes c.args.out.now ++ block_text c.args.number c.args.line.now.start c.in-Ok.run'.events (Some c.in-Ok.run'.outcome) (Some c.in-Ok.run'.steps) = search rules in
    (ended c.in-Ok.run', runs, told)

pub returns-in_ok-append_stuck-in-Err-Stuck-clause-block : goal.returns-in_ok-append_stuck-in-Err-Stuck-clause-block
returns-in_ok-append_stuck-in-Err-Stuck-clause-block c =
    let start : c.as_str-start.result.now ≡ c.args.line.now.start = search rules in
    let items : c.as_slice-items.result.now ≡ c.args.line.now.items = search rules in
    let failing : c.as_slice-failing.result.now ≡ c.args.line.now.failing = search rules in
    let is : c.in-Err-Stuck.field-0 ≡ error.Stuck c.in-Err-Stuck.steps = search rules in
    let course = stuck_course c.args.program.now c.as_str-start.result.now c.as_slice-items.result.now c.args.params.now c.as_slice-failing.result.now c.args.line.now.budget c.in-Err-Stuck.field-0 c.in-Err-Stuck.steps is c.in-Err-Stuck.ensures in
    let runs = of_line c.args.program.now c.as_str-start.result.now c.as_slice-items.result.now c.args.params.now c.as_slice-failing.result.now c.args.line.now (stuck c.in-Err-Stuck.steps) start items failing course in
    let told : string_bytes c.append_stuck.new.out ≡ string_bytes c.args.out.now ++ block_text c.args.number c.args.line.now.start [] None (Some c.in-Err-Stuck.steps) = search rules in
    (stuck c.in-Err-Stuck.steps, runs, told)
