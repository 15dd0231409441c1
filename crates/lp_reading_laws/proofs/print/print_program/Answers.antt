use Rattle.lp_write.specs.Writes.{writing}
use Rattle.lp_reading_laws.proofs.Printing.Printing.{indent_kept}
use Rattle.lp_reading_laws.proofs.print.print_program.Goals as goal

pub returns-clause-indent : goal.returns-clause-indent
returns-clause-indent g c =
    indent_kept c.print_program.result (writing g.W.Sink.told c.args.out.now) (writing g.W.Sink.told c.print_program.new.out) c.args.program.now c.print_program.ensures
