use Rattle.std.proofs.Common.{◌≡◌, codes, take}
use Rattle.std.specs.List.{join_by}
use Rattle.std.specs.Fmt.{HasWritten, IsPlainFormatter}
use Rattle.lp_repr.specs.Escapes.{escaped_text}
use Rattle.lp_repr.proofs.Joining.{separator_after}
use Rattle.lp_repr.proofs.values.write_literals.Given as goal

abbrev pub invariant-loop-text : goal.invariant-loop-text
invariant-loop-text g l =
    (l.separator ≡ separator_after (take l.text-index l.texts)) × (IsPlainFormatter l.fn.f → HasWritten g.W.Write.write_str_gives l.fn.f (join_by escaped_text (codes ", ") (take l.text-index l.texts)) l.f)
