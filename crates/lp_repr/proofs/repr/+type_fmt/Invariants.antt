use Rattle.std.proofs.Common.{◌≡◌, codes, take}
use Rattle.std.specs.List.{join_by}
use Rattle.std.specs.Fmt.{HasWritten, IsPlainFormatter}
use Rattle.lp_repr.specs.ShownTypes.{type_text}
use Rattle.lp_repr.proofs.Joining.{separator_after}
use Rattle.lp_repr.proofs.repr.+type_fmt.Given as goal

abbrev pub invariant-write_types-loop-ty : goal.invariant-write_types-loop-ty
invariant-write_types-loop-ty g l =
    (l.separator ≡ separator_after (take l.ty-index l.types)) × (IsPlainFormatter l.fn.f → HasWritten g.W.Write.write_str_gives l.fn.f (join_by type_text (codes ", ") (take l.ty-index l.types)) l.f)
