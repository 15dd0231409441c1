use Rattle.std.proofs.Common.{◌≡◌, codes, take}
use Rattle.std.specs.List.{join_by}
use Rattle.std.specs.Fmt.{HasWritten, IsPlainFormatter}
use Rattle.lp_repr.specs.ShownValues.{spanned_text}
use Rattle.lp_repr.proofs.Joining.{separator_after}
use Rattle.lp_repr.proofs.values.write_each_spanned.Given as goal

abbrev pub invariant-loop-spanned : goal.invariant-loop-spanned
invariant-loop-spanned g l =
    (l.separator ≡ separator_after (take l.spanned-index l.list)) × (IsPlainFormatter l.fn.f → HasWritten g.W.Write.write_str_gives l.fn.f (join_by (spanned_text g.L.Shown.text g.T.Shown.text) (codes ", ") (take l.spanned-index l.list)) l.f)
