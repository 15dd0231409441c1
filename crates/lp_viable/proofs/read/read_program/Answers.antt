use Rattle.lp_viable.proofs.Misfits.{program_told, tells_misfit}
use Rattle.lp_viable.proofs.read.read_program.Goals as goal

pub returns-clause-program : goal.returns-clause-program
returns-clause-program c = program_told c.args.text.now c.read_program.result c.read_program.ensures.reads c.read_program.ensures.chosen

pub returns-clause-misfit : goal.returns-clause-misfit
returns-clause-misfit c = tells_misfit c.args.text.now c.read_program.result c.utf8.text c.read_program.ensures.refused c.read_program.ensures.begun
