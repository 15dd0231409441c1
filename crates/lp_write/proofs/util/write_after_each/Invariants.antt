use Rattle.std.proofs.Common.{map, take, IfSome}
use Rattle.std.specs.Fmt.{HasWritten, IsPlainFormatter}
use Rattle.lp_write.specs.Texts.{after_each}
use Rattle.lp_write.proofs.util.write_after_each.Given as goal

abbrev pub invariant-loop-element : goal.invariant-loop-element
invariant-loop-element g l =
    IfSome (after_each l.text (map g.S.Display.output (take l.element-index l.elements)))
    (λ bs. IsPlainFormatter l.fn.f → HasWritten g.W.Write.write_str_gives l.fn.f bs l.f)
