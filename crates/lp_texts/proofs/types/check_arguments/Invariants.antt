use Rattle.std.proofs.Common.{take, Ok}
use Rattle.std.specs.List.{flat_map}
use Rattle.lp_texts.specs.Counted.{Counts}
use Rattle.lp_texts.specs.TypeTexts.{argument_texts}
use Rattle.lp_texts.specs.TextRules.{AnswersLine}
use Rattle.lp_texts.specs.declared.faults.TextKind.TheVariants.{TypeText}
use Rattle.lp_texts.proofs.types.check_arguments.Given as goal

abbrev pub invariant-loop-action : goal.invariant-loop-action
invariant-loop-action l = Counts TypeText AnswersLine (flat_map (λ a. argument_texts a.kind) (take l.action-index l.actions)) l.from (Ok l.number)
