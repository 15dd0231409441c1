use Rattle.std.proofs.Common.{length, arith, ⊎_elim}
use Rattle.std.specs.Map.Iter.{deref_pair}
use Rattle.std.proofs.lemmas.Bool.{cases_lt}
use Rattle.lp_valid.specs.Members.{has}
use Rattle.lp_valid.specs.StartRules.{is_start_unless}
use Rattle.lp_valid.proofs.FirstFailing.{passes_past}
use Rattle.lp_valid.proofs.starts.first_other.Goals as goal

pub returns : goal.returns
returns c = λ k. ⊎_elim (λ less. c.loop-place.invariant k (omega arith)) (λ past. passes_past (λ e. is_start_unless c.args.grammar.now (has c.args.on_right.now) (deref_pair e)) c.args.starts.now k past) (cases_lt k (length c.args.starts.now))
