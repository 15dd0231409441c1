-- What the rows that are left make, after those so far.
use Rattle.std.proofs.Common.{◌≡◌}
use Rattle.lp_view.specs.PartLists.{listed, parts_left, over}
use Rattle.lp_maker.specs.Making.{making}
use Rattle.lp_bodies.specs.Tables.{with_terminal, with_terminals}
use Rattle.lp_bodies.proofs.table.make_terminals.Given as goal

abbrev pub invariant-loop-row : goal.invariant-loop-row
invariant-loop-row l =
    over with_terminal (making l.maker) (parts_left l.row-iterator) ≡ with_terminals (listed l.fn.form) (making l.fn.maker)
