use Rattle.lp_reading_laws.proofs.Printing.Existing.{each_is_read, same_to_norm}
use Rattle.lp_reading_laws.proofs.Printing.Law.{reads_back, code_is_level, indent_returns}
use Rattle.lp_reading_laws.proofs.Printing.LaidReads.{laid_out, read_back}
use Rattle.lp_reading_laws.proofs.laws.programs.Goals as goal

pub returns-clause-text : goal.returns-clause-text
returns-clause-text c = reads_back

pub returns-clause-level : goal.returns-clause-level
returns-clause-level c = code_is_level

pub returns-clause-indent : goal.returns-clause-indent
returns-clause-indent c = indent_returns

pub returns-clause-read : goal.returns-clause-read
returns-clause-read c = each_is_read

pub returns-clause-codes : goal.returns-clause-codes
returns-clause-codes c = same_to_norm

pub returns-clause-lines : goal.returns-clause-lines
returns-clause-lines c = λ text program. (laid_out text program, read_back text program)
