use Rattle.std.proofs.Common.{length, arith, ⊎_elim}
use Rattle.std.specs.Map.Iter.{deref_pair}
use Rattle.std.proofs.lemmas.Bool.{cases_lt}
use Rattle.lp_valid.specs.Members.{holds}
use Rattle.lp_valid.specs.SymbolRules.{production_is_known_by}
use Rattle.lp_valid.proofs.FirstFailing.{passes_past}
use Rattle.lp_valid.proofs.declared.first_unknown.Goals as goal

pub returns : goal.returns
returns c = λ k. ⊎_elim (λ less. c.loop-place.invariant k (omega arith)) (λ past. passes_past (λ e. production_is_known_by c.args.grammar.now (holds c.args.terminals.now) (deref_pair e)) c.args.placed.now k past) (cases_lt k (length c.args.placed.now))
