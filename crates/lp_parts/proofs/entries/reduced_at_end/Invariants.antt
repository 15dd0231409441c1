use Rattle.std.proofs.Common.{◌≡◌, None, take}
use Rattle.lp_parts.specs.Entries.{is_eof, reduced_on}
use Rattle.lp_parts.proofs.entries.reduced_at_end.Given as goal

abbrev pub invariant-loop-reduction : goal.invariant-loop-reduction
invariant-loop-reduction l = reduced_on is_eof (take l.reduction-index l.reductions) ≡ None
