use Rattle.std.proofs.Common.{rules, IfErr, ◌∷◌, ◌++◌, ◌∙◌, codes, ap, subst, string_bytes}
use Rattle.lp_program.specs.Choosing.{IsRefused}
use Rattle.lp_program.specs.declared.read.reader.ReadFault.TheVariants as read
use Rattle.lp_round_trip.proofs.Law.{emission_is_not_refused}
use Rattle.lp_text_run.specs.Blocks.{IsRunFault}
use Rattle.lp_text_run.specs.declared.text_run.TextRunFault.TheVariants as fault
use Rattle.lp_prepared.specs.LinesTold.{IsOfNoLine}
use Rattle.lp_prepared.specs.Outputs.{AreLinesOf}
use Rattle.lp_prepared.proofs.LinesTold.{read_told}
use Rattle.lp_prepared.proofs.ByTables.{line_told, never_miscounted, never_without_start}
use Rattle.lp_prepared.proofs.Reporting.{runs_of}
use Rattle.lp_prepared.proofs.prepared.text_and_runs.Goals as goal

pub token_lines-requires : goal.token_lines-requires
token_lines-requires c = record { tables = (c.args.file.now.tables.items, c.requires.tables) }

pub returns-in_err-text-clause-lines : goal.returns-in_err-text-clause-lines
returns-in_err-text-clause-lines c =
    let none : IfErr c.from_residual-in_err-text.result IsOfNoLine = search rules in
    let read : AreLinesOf c.args.file.now.lowered c.args.file.now.tail.items c.in_ok-lines.lines.items = search rules in
    read_told c.from_residual-in_err-text.result c.args.file.now.lowered c.args.file.now.tail.items (c.in_ok-lines.lines.items, read) none

-- the output of the runs, from its parts
pub returns-in-Ok-joined-clause-output : goal.returns-in-Ok-joined-clause-output
returns-in-Ok-joined-clause-output c = record {
  text = string_bytes c.in_ok-text.text;
  emission = c.in_ok-text.ensures.text;
  len = c.in-Ok-joined.ensures.length;
  lines = c.in_ok-lines.lines.items;
  read = subst (λ tail. AreLinesOf c.args.file.now.lowered tail c.in_ok-lines.lines.items) c.as_slice.ensures.value c.in_ok-lines.ensures.lines;
  blocks = c.in-Ok-run_text.blocks.items;
  told = runs_of c.args.file.now.lowered (string_bytes c.in_ok-text.text) c.as_str.result.now c.in-Ok.params.items c.as_slice-3.result.now c.in_ok-lines.lines.items c.as_slice-2.result.now c.in-Ok-run_text.blocks.items c.as_str.ensures.value c.as_slice-3.ensures.value c.as_slice-2.ensures.value c.in-Ok.ensures c.in-Ok-run_text.ensures.blocks;
  by_tables = line_told c.args.file.now.plain c.args.file.now.lowered c.args.file.now.tables.items c.args.options.now (string_bytes c.in_ok-text.text) c.requires.lowered c.in_ok-text.ensures.emitted c.in_ok-text.ensures.text c.args.file.now.tail.items c.in_ok-lines.lines.items
      (subst (λ tail. AreLinesOf c.args.file.now.lowered tail c.in_ok-lines.lines.items) c.as_slice.ensures.value c.in_ok-lines.ensures.lines);
  whole = c.in-Ok-joined.ensures.whole ∙ ap (λ b. string_bytes c.in_ok-text.text ++ (codes "---" ++ 10 ∷ b)) c.as_slice-in-Ok-run_text.ensures.value;
}

-- what is emitted is read
pub unreachable-requires : goal.unreachable-requires
unreachable-requires c =
    let line = c.in-Err-NoForm.field-0-0 in
    let refused : IsRunFault c.as_str.result.now c.as_slice-3.result.now c.as_slice-2.result.now (fault.NoForm line)
    = subst (IsRunFault c.as_str.result.now c.as_slice-3.result.now c.as_slice-2.result.now) c.in-Err-NoForm.field-0-is c.in-Err-NoForm.ensures.fault in
    emission_is_not_refused c.args.file.now.lowered c.args.file.now.tables.items c.args.options.now (string_bytes c.in_ok-text.text) c.in_ok-text.ensures.text line
    (subst (λ t. IsRefused t (read.NoForm line)) c.as_str.ensures.value refused.0)

pub unreachable-requires-in-Err-NoStart : goal.unreachable-requires-in-Err-NoStart
unreachable-requires-in-Err-NoStart c =
    let number = c.in-Err-NoStart.field-0-0 in
    let why : IsRunFault c.as_str.result.now c.as_slice-3.result.now c.as_slice-2.result.now (fault.NoStart number)
    = subst (IsRunFault c.as_str.result.now c.as_slice-3.result.now c.as_slice-2.result.now) c.in-Err-NoStart.field-0-is c.in-Err-NoStart.ensures.fault in
    never_without_start c.args.file.now.plain c.args.file.now.lowered c.args.file.now.tables.items c.args.options.now (string_bytes c.in_ok-text.text) c.requires.lowered c.in_ok-text.ensures.emitted c.in_ok-text.ensures.text c.args.file.now.tail.items c.in_ok-lines.lines.items
    (subst (λ tail. AreLinesOf c.args.file.now.lowered tail c.in_ok-lines.lines.items) c.as_slice.ensures.value c.in_ok-lines.ensures.lines)
    c.as_str.result.now c.as_slice-3.result.now c.as_slice-2.result.now c.as_str.ensures.value (c.as_slice-3.ensures.value ∙ c.in-Ok.ensures) c.as_slice-2.ensures.value number why

pub unreachable-requires-in-Err-ParameterCount : goal.unreachable-requires-in-Err-ParameterCount
unreachable-requires-in-Err-ParameterCount c =
    let number = c.in-Err-ParameterCount.field-0-0 in
    let why : IsRunFault c.as_str.result.now c.as_slice-3.result.now c.as_slice-2.result.now (fault.ParameterCount number)
    = subst (IsRunFault c.as_str.result.now c.as_slice-3.result.now c.as_slice-2.result.now) c.in-Err-ParameterCount.field-0-is c.in-Err-ParameterCount.ensures.fault in
    never_miscounted c.args.file.now.plain c.args.file.now.lowered c.args.file.now.tables.items c.args.options.now (string_bytes c.in_ok-text.text) c.requires.lowered c.in_ok-text.ensures.emitted c.in_ok-text.ensures.text c.args.file.now.tail.items c.in_ok-lines.lines.items
    (subst (λ tail. AreLinesOf c.args.file.now.lowered tail c.in_ok-lines.lines.items) c.as_slice.ensures.value c.in_ok-lines.ensures.lines)
    c.as_str.result.now c.as_slice-3.result.now c.as_slice-2.result.now c.as_str.ensures.value (c.as_slice-3.ensures.value ∙ c.in-Ok.ensures) c.as_slice-2.ensures.value number why
