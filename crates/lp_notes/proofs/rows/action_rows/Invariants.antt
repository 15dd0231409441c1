-- The rows so far, and those to come.
use Rattle.std.proofs.Common.{◌≡◌, ◌++◌, drop, map}
use Rattle.lp_tree.specs.ProgramTree.{noted}
use Rattle.lp_notes.specs.Notes.{action_rows}
use Rattle.lp_notes.proofs.rows.action_rows.Given as goal

abbrev pub invariant-loop-state : goal.invariant-loop-state
invariant-loop-state l =
    map noted l.rows.items ++ action_rows l.source.comments l.source.grammar.now l.end l.left (drop l.state-index l.states)
    ≡ action_rows l.source.comments l.source.grammar.now 0 l.entries l.states
