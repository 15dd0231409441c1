-- A name is ASCII.
use Rattle.std.proofs.Common.{sym}
use Rattle.lp_lines.proofs.Numbers.{ascii_name}
use Rattle.lp_lines.proofs.vocabulary.fault.Goals as goal

pub ascii_text-requires : goal.ascii_text-requires
ascii_text-requires c = ascii_name c.args.name.now (sym c.if-is_name.ensures)
