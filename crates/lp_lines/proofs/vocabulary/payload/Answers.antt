-- A payload is ASCII.
use Rattle.std.proofs.Common.{sym}
use Rattle.lp_lines.proofs.Numbers.{ascii_payload}
use Rattle.lp_lines.proofs.vocabulary.payload.Goals as goal

pub ascii_text-requires : goal.ascii_text-requires
ascii_text-requires c = ascii_payload c.args.text.now (sym c.if-is_payload.ensures)
