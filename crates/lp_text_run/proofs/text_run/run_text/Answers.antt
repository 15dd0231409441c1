use Rattle.std.proofs.Common.{rules, ◌+◌, IfErr, length, refl, string_bytes, sym, subst}
use Rattle.std.proofs.lemmas.Option.{slice_get_read}
use Rattle.lp_program.specs.Choosing.{IsRefused}
use Rattle.lp_program.specs.declared.read.reader.ReadFault.TheVariants as read
use Rattle.lp_viable.specs.Misfits.{IsMisfit, TellsMisfit}
use Rattle.lp_text_run.specs.Blocks.{AreBlocks, IsLineFault}
use Rattle.lp_text_run.proofs.Blocks.{blocks_more, fault_of}
use Rattle.lp_text_run.proofs.text_run.run_text.Goals as goal

pub loop-i-preserved : goal.loop-i-preserved
loop-i-preserved c =
    let at = slice_get_read c.args.lines.now (length c.args.lines.now) c.loop-i.i c.index-lines-i.result refl c.loop-i-test.true c.index-lines-i.is in
    let block = c.in_ok-run_line.ensures.block in
    blocks_more c.in-Ok.program c.args.params.now c.args.lines.now c.loop-i.i c.index-lines-i.result (string_bytes c.loop-i.out) (string_bytes c.run_line.new.out) block.0 at c.loop-i.invariant block.1 block.2

pub returns-in_err-run_line-clause-fault : goal.returns-in_err-run_line-clause-fault
returns-in_err-run_line-clause-fault c =
    let at = slice_get_read c.args.lines.now (length c.args.lines.now) c.loop-i.i c.index-lines-i.result refl c.loop-i-test.true c.index-lines-i.is in
    let why : IfErr c.from_residual.result (IsLineFault c.in-Ok.program c.args.params.now c.index-lines-i.result (c.loop-i.i + 1)) = search rules in
    fault_of c.args.text.now c.in-Ok.program c.args.params.now c.args.lines.now c.loop-i.i c.index-lines-i.result (string_bytes c.loop-i.out) c.from_residual.result c.in-Ok.ensures.program at c.loop-i.invariant why

pub returns-clause-blocks : goal.returns-clause-blocks
returns-clause-blocks c =
    let all : AreBlocks c.in-Ok.program c.args.params.now c.args.lines.now (length c.args.lines.now) c.into_bytes.result.items = search rules in
    (c.in-Ok.program, c.in-Ok.ensures.program, all)

pub returns-in-Err-NoForm-clause-fault : goal.returns-in-Err-NoForm-clause-fault
returns-in-Err-NoForm-clause-fault c =
    let refused = subst (IsRefused c.args.text.now) c.in-Err-NoForm.field-0-is c.in-Err-NoForm.ensures.refused in
    let misfit = subst (TellsMisfit c.args.text.now) c.in-Err-NoForm.field-0-is c.in-Err-NoForm.ensures.misfit in
    subst (λ line. IsRefused c.args.text.now (read.NoForm line) × IsMisfit c.args.text.now line) (sym c.in-Err-NoForm.line-is) (refused, misfit)
