use Rattle.std.proofs.Common.{map, subst}
use Rattle.lp_repr.specs.ShownTypes.{type_text}
use Rattle.lp_texts.specs.Counted.{Counts}
use Rattle.lp_texts.specs.declared.faults.TextKind.TheVariants.{TypeText}
use Rattle.lp_texts.specs.TextRules.{AnswersLine}
use Rattle.lp_texts.proofs.Counting.{counts_none, counts_map}
use Rattle.lp_texts.proofs.types.check_kind.Goals as goal

pub returns-in-User : goal.returns-in-User
returns-in-User c =
    rw c.in-User.is
    (subst (λ l. Counts TypeText AnswersLine (map type_text l) c.args.from c.check_slice.result) c.as_slice-types.ensures
    (counts_map TypeText type_text AnswersLine c.as_slice-types.result.now c.args.from c.check_slice.result c.check_slice.ensures))

pub returns-in-Lookaround : goal.returns-in-Lookaround
returns-in-Lookaround c = rw c.in-Lookaround.is (counts_none TypeText AnswersLine c.args.from)

pub returns-in-Inline : goal.returns-in-Inline
returns-in-Inline c = rw c.in-Inline.is (counts_none TypeText AnswersLine c.args.from)
