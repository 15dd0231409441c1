-- What the rows that are left bind, after those so far.
use Rattle.std.proofs.Common.{◌≡◌}
use Rattle.lp_view.specs.PartLists.{listed, parts_left, over}
use Rattle.lp_maker.specs.Making.{bind_row, parameters}
use Rattle.lp_maker.proofs.maker.Maker.parameters.Given as goal

abbrev pub invariant-loop-row : goal.invariant-loop-row
invariant-loop-row l =
    over (bind_row l.self.prefix.now) l.scope (parts_left l.row-iterator) ≡ parameters l.self.prefix.now (listed l.fn.header)
