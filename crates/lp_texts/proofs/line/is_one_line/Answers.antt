use Rattle.lp_texts.proofs.Scanning.{one_line}
use Rattle.lp_texts.proofs.line.is_one_line.Goals as goal

pub returns : goal.returns
returns c = one_line c.args.text.now c.in_ok-line_fault.field-0 c.is_none.result c.is_none.ensures c.in_ok-line_fault.ensures
