use Rattle.lp_reading_laws.proofs.Printing.TableLines.{table_reads}
use Rattle.lp_reading_laws.proofs.laws.tables.Goals as goal

pub returns : goal.returns
returns c = table_reads
