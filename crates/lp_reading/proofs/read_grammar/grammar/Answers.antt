use Rattle.std.proofs.Common.{ap, map, refl, sym, ◌∙◌}
use Rattle.lp_reading.specs.ExternView.{extern_tree}
use Rattle.lp_reading.specs.Grammars.{file_tree, grammar}
use Rattle.lp_reading.specs.HeadView.{head_tree}
use Rattle.lp_reading.specs.Rules.{rule_tree}
use Rattle.lp_types.proofs.Steps.{no_memory, part_fails, read_then}
use Rattle.lp_types.specs.Left.{left}
use Rattle.lp_types.specs.Reading.{Read}
use Rattle.std.proofs.lemmas.List.{map-append}
use Rattle.lp_reading.proofs.read_grammar.grammar.Goals as goal

pub returns-in_err-head-clause-file : goal.returns-in_err-head-clause-file
unfolding grammar
returns-in_err-head-clause-file c = part_fails _ _ _ _ _ _ _ c.in_err-head.ensures c.from_residual.ensures.1 refl

pub returns-in_err-before-clause-file : goal.returns-in_err-before-clause-file
unfolding grammar
returns-in_err-before-clause-file c = part_fails _ _ _ _ _ _ _ c.in_err-before.ensures c.from_residual-in_err-before.ensures.1 (read_then _ _ _ _ _ c.in_ok-head.ensures refl)

pub returns-in_err-block-clause-file : goal.returns-in_err-block-clause-file
unfolding grammar
returns-in_err-block-clause-file c = part_fails _ _ _ _ _ _ _ c.in_err-block.ensures c.from_residual-in_err-block.ensures.1 (read_then _ _ _ _ _ c.in_ok-head.ensures (read_then _ _ _ _ _ c.in_ok-before.ensures refl))

pub returns-in_err-behind-clause-file : goal.returns-in_err-behind-clause-file
unfolding grammar
returns-in_err-behind-clause-file c = part_fails _ _ _ _ _ _ _ c.in_err-behind.ensures c.from_residual-in_err-behind.ensures.1 (read_then _ _ _ _ _ c.in_ok-head.ensures (read_then _ _ _ _ _ c.in_ok-before.ensures (read_then _ _ _ _ _ c.in_ok-block.ensures refl)))

pub returns-in_err-expect_end-clause-file : goal.returns-in_err-expect_end-clause-file
unfolding grammar
returns-in_err-expect_end-clause-file c = part_fails _ _ _ _ _ _ _ c.in_err-expect_end.ensures c.from_residual-in_err-expect_end.ensures.1 (read_then _ _ _ _ _ c.in_ok-head.ensures (read_then _ _ _ _ _ c.in_ok-before.ensures (read_then _ _ _ _ _ c.in_ok-block.ensures (read_then _ _ _ _ _ c.in_ok-behind.ensures refl))))

pub returns-in_err-all-clause-file : goal.returns-in_err-all-clause-file
returns-in_err-all-clause-file c = no_memory _ _ _ _ c.from_residual-in_err-all.ensures.1

pub returns-clause-file : goal.returns-clause-file
unfolding grammar
returns-clause-file c = read_then _ _ _ _ _ c.in_ok-head.ensures (read_then _ _ _ _ _ c.in_ok-before.ensures (read_then _ _ _ _ _ c.in_ok-block.ensures (read_then _ _ _ _ _ c.in_ok-behind.ensures (read_then _ _ _ _ _ c.in_ok-expect_end.ensures (ap (λ rules. Read (file_tree (head_tree c.in_ok-head.head) (extern_tree c.in_ok-block.block) rules) (left c.rules-2.new.reader)) (sym (ap (map rule_tree) c.in_ok-all.ensures ∙ map-append rule_tree _ _)) ∙ ap (λ file. Read file (left c.rules-2.new.reader)) (sym c.plain.ensures.file))))))
