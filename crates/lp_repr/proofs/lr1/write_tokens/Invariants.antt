use Rattle.std.proofs.Common.{◌≡◌, codes, take}
use Rattle.std.specs.List.{join_by}
use Rattle.std.specs.Fmt.{HasWritten, IsPlainFormatter}
use Rattle.lp_repr.specs.ShownItems.{named_token_text}
use Rattle.lp_repr.proofs.Joining.{separator_after}
use Rattle.lp_repr.proofs.lr1.write_tokens.Given as goal

abbrev pub invariant-loop-token : goal.invariant-loop-token
invariant-loop-token g l =
    (l.separator ≡ separator_after (take l.token-index l.tokens)) × (IsPlainFormatter l.fn.f → HasWritten g.W.Write.write_str_gives l.fn.f (join_by (named_token_text l.terminals) (codes ", ") (take l.token-index l.tokens)) l.f)
