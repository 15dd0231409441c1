use Rattle.std.proofs.Common.{subst, IfOk}
use Rattle.std.specs.Ordering.{is_eq}
use Rattle.lp_repr.specs.Names.{same_terminal}
use Rattle.lp_repr.specs.contracts.repr.TerminalStringOrd.TheImpl as order
use Rattle.lp_valid.specs.Places.{IsFirstFailing, IsNewBy}
use Rattle.lp_valid.proofs.Lookups.{terminal_ties}
use Rattle.lp_valid.proofs.NewThings.{first_alike}
use Rattle.lp_valid.proofs.grammars.failing_distinct_terminals.Goals as goal

pub returns : goal.returns
returns c = subst (λ ts. IfOk c.failing_repeat.result (IsFirstFailing (IsNewBy same_terminal ts))) c.as_slice.ensures (first_alike (λ s t. is_eq ((order.cmp-value).it s t)) same_terminal terminal_ties c.as_slice.result.now c.failing_repeat.result c.failing_repeat.ensures)
