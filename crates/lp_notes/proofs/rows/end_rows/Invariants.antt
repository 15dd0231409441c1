-- The rows so far, and those to come.
use Rattle.std.proofs.Common.{◌≡◌, ◌++◌, drop, map}
use Rattle.lp_tree.specs.ProgramTree.{noted}
use Rattle.lp_notes.specs.Notes.{end_rows}
use Rattle.lp_notes.proofs.rows.end_rows.Given as goal

abbrev pub invariant-loop-place : goal.invariant-loop-place
invariant-loop-place l =
    map noted l.rows.items ++ end_rows l.source.comments l.source.grammar.now l.place (drop l.place l.entries)
    ≡ end_rows l.source.comments l.source.grammar.now 0 l.entries
