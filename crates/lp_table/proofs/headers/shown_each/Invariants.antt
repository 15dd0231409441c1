-- The texts so far.
use Rattle.std.proofs.Common.{◌≡◌, map, take}
use Rattle.lp_table.proofs.headers.shown_each.Given as goal

abbrev pub invariant-loop-value : goal.invariant-loop-value
invariant-loop-value g l = l.pieces.items ≡ map g.T.Shown.text (take l.value-index l.values)
