use Rattle.std.proofs.Common.{[], ◌∷◌}
use Rattle.lp_repr.specs.ShownTypes.{type_text}
use Rattle.lp_texts.specs.declared.faults.TextKind.TheVariants.{TypeText}
use Rattle.lp_texts.specs.TextRules.{AnswersLine}
use Rattle.lp_texts.proofs.Counting.{counts_none, counts_map}
use Rattle.lp_texts.proofs.types.check_optional.Goals as goal

pub returns-in-None : goal.returns-in-None
returns-in-None c = rw c.in-None.is (counts_none TypeText AnswersLine c.args.from)

pub returns-in-Some : goal.returns-in-Some
returns-in-Some c = rw c.in-Some.is (counts_map TypeText type_text AnswersLine (c.in-Some.ty ∷ []) c.args.from c.check_one.result c.check_one.ensures)
