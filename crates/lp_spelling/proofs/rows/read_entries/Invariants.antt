-- The numbers so far, and those that the rest gives, are those of the table; and the place is reached from its start.
use Rattle.std.proofs.Common.{◌-◌, drop, length}
use Rattle.lp_spelling.specs.TableReading.{entries}
use Rattle.lp_spelling.proofs.Tables.{SoFar, Reached}
use Rattle.lp_spelling.proofs.rows.read_entries.Given as goal

abbrev pub invariant-loop-i : goal.invariant-loop-i
invariant-loop-i l = record {
  so_far : SoFar l.text (length l.text - l.from - l._i) l.at l.at_front l.numbers.items (entries (drop l.from l.text));
  reached : Reached l.text l.from (length l.text - l.from - l._i) l.at l.at_front;
}
