use Rattle.std.proofs.Common.{subst}
use Rattle.lp_lower.specs.Lowering.{IsLowering}
use Rattle.lp_syntax.specs.declared.plain.PlainGrammar.{PlainGrammar}
use Rattle.lp_lower.proofs.lowering.lower.Goals as goal

pub returns-clause-lowered : goal.returns-clause-lowered
returns-clause-lowered c = let P : PlainGrammar → Type 0 = λ g. IsLowering g c.in_ok-lowered.field-0 in subst P c.in_ok-names.ensures c.in_ok-lowered.ensures
