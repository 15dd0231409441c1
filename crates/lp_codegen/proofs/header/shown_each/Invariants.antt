-- The texts so far.
use Rattle.std.proofs.Common.{◌≡◌, map, take}
use Rattle.lp_codegen.proofs.header.shown_each.Given as goal

abbrev pub invariant-loop-value : goal.invariant-loop-value
invariant-loop-value g l = l.texts.items ≡ map g.T.Shown.text (take l.value-index l.values)
