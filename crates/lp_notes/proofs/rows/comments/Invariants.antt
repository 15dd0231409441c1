-- The comments so far, and those to come.
use Rattle.std.proofs.Common.{◌≡◌, ◌++◌, drop}
use Rattle.lp_notes.specs.Notes.{comments_from}
use Rattle.lp_notes.proofs.rows.comments.Given as goal

abbrev pub invariant-loop-terminal : goal.invariant-loop-terminal
invariant-loop-terminal l =
    l.comments.items ++ comments_from l.source.grammar.now l.terminal (drop l.terminal l.entries)
    ≡ comments_from l.source.grammar.now 0 l.entries
