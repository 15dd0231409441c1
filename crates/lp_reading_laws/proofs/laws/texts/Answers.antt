use Rattle.lp_reading_laws.proofs.Printing.Endings.{uses_end, codes_end}
use Rattle.lp_reading_laws.proofs.Printing.Filling.{lines_fill, attributes_fill, terminals_fill}
use Rattle.lp_reading_laws.proofs.laws.texts.Goals as goal

pub returns-clause-uses : goal.returns-clause-uses
returns-clause-uses c = uses_end

pub returns-clause-codes : goal.returns-clause-codes
returns-clause-codes c = codes_end

pub returns-clause-lines : goal.returns-clause-lines
returns-clause-lines c = lines_fill

pub returns-clause-attributes : goal.returns-clause-attributes
returns-clause-attributes c = attributes_fill

pub returns-clause-terminals : goal.returns-clause-terminals
returns-clause-terminals c = terminals_fill
