use Rattle.lp_spelling.proofs.Cursors.{line_there}
use Rattle.lp_spelling.proofs.cursor.Cursor.line.Goals as goal

pub returns : goal.returns
returns c = let s = c.args.self.now in line_there s.line _ _ s.start_is s.line_is
