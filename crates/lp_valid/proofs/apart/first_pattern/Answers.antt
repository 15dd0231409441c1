use Rattle.std.proofs.Common.{◌||◌, Bor, length, arith, ⊎_elim}
use Rattle.std.proofs.lemmas.Bool.{cases_lt}
use Rattle.lp_repr.specs.Shown.{pattern_text}
use Rattle.lp_repr.specs.declared.repr.TokenPattern.{TokenPattern}
use Rattle.lp_valid.specs.PrefixRules.{lacks}
use Rattle.lp_valid.proofs.FirstFailing.{passes_past}
use Rattle.lp_valid.proofs.apart.first_pattern.Goals as goal

pub returns : goal.returns
returns c = λ k. ⊎_elim (λ less. c.loop-place.invariant k (omega arith)) (λ past. passes_past (λ (p : Bor TokenPattern). lacks c.args.grammar.now.prefix (pattern_text p.now)) c.args.patterns.now k past) (cases_lt k (length c.args.patterns.now))
