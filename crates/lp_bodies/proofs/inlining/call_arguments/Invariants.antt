-- The arguments in the rows that are left, after those so far.
use Rattle.std.proofs.Common.{◌≡◌}
use Rattle.lp_view.specs.PartLists.{listed, parts_left, over}
use Rattle.lp_bodies.specs.Inlining.{argument_row, call_arguments}
use Rattle.lp_bodies.proofs.inlining.call_arguments.Given as goal

abbrev pub invariant-loop-row : goal.invariant-loop-row
invariant-loop-row l =
    over (argument_row l.maker.prefix.now l.scope) l.args.items (parts_left l.row-iterator) ≡ call_arguments l.maker.prefix.now l.scope (listed l.fn.line)
