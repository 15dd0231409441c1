use Rattle.lp_build.proofs.Nodes.{same_below, same_head}
use Rattle.lp_build.proofs.note_lines.Goals as goal

pub returns-clause-head : goal.returns-clause-head
returns-clause-head c = same_head c.note.new.self c.args.node.now c.note.ensures.items

pub returns-clause-below : goal.returns-clause-below
returns-clause-below c = same_below c.note.new.self c.args.node.now c.note.ensures.items
