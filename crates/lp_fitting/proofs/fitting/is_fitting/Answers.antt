use Rattle.std.proofs.Common.{sym, ◌∙◌}
use Rattle.lp_fitting.proofs.Parts.{program_fails, program_told}
use Rattle.lp_fitting.proofs.fitting.is_fitting.Goals as goal

pub returns-then-not-branch : goal.returns-then-not-branch
returns-then-not-branch c =
    program_fails c.args.program.now c.as_str-prefix.result.now c.as_slice-entries.result.now c.as_str-prefix.ensures c.as_slice-entries.ensures.value c.in_ok-are_fitting.field-0 c.if-not-branch.true c.in_ok-are_fitting.ensures

pub returns : goal.returns
returns c =
    program_told c.args.program.now c.as_str-prefix.result.now c.as_slice-entries.result.now c.as_str-prefix.ensures c.as_slice-entries.ensures.value c.bodies_suit.result (sym c.is_empty.ensures ∙ c.if-is_empty.false) c.as_str-prefix.utf8
    (c.in_ok-are_fitting.ensures.0 c.if-not-branch.false) c.bodies_suit.ensures
