-- The entries so far, with their notes, and how far the walk has come.
use Rattle.std.proofs.Common.{◌≡◌, map}
use Rattle.lp_tree.specs.ProgramTree.{entry_notes, item}
use Rattle.lp_notes.specs.Modules.{states_by}
use Rattle.lp_notes.specs.Notes.{notes_from}
use Rattle.lp_notes.proofs.Walks.{walked}
use Rattle.lp_notes.proofs.notes.noted_entries.Given as goal

abbrev pub invariant-loop-entry : goal.invariant-loop-entry
invariant-loop-entry l = record {
  parts : map item l.noted.items ≡ map item l.yielded;
  place : l.place ≡ walked l.initial.place (map item l.yielded);
  notes : map entry_notes l.noted.items ≡ notes_from l.source.comments l.source.grammar.now (states_by l.modules) l.initial.place (map item l.yielded);
}
