use Rattle.std.proofs.Common.{length, arith, ⊎_elim}
use Rattle.std.proofs.lemmas.Bool.{cases_lt}
use Rattle.lp_repr.specs.declared.repr.ActionFnDefn.{ActionFnDefn}
use Rattle.lp_valid.specs.Members.{holds}
use Rattle.lp_valid.specs.SymbolRules.{kind_is_known_by}
use Rattle.lp_valid.proofs.FirstFailing.{passes_past}
use Rattle.lp_valid.proofs.declared.first_unknown_action.Goals as goal

pub returns : goal.returns
returns c = λ k. ⊎_elim (λ less. c.loop-place.invariant k (omega arith)) (λ past. passes_past (λ (a : ActionFnDefn). kind_is_known_by c.args.grammar.now (holds c.args.terminals.now) a.kind) c.args.actions.now k past) (cases_lt k (length c.args.actions.now))
