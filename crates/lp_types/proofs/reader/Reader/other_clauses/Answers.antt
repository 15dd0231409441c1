use Rattle.std.proofs.Common.{refl}
use Rattle.lp_types.specs.Clauses.{other_clauses}
use Rattle.lp_types.proofs.Steps.{read_then, where_yes, where_no, part_fails, answers_as}
use Rattle.lp_types.proofs.reader.Reader.other_clauses.Goals as goal

pub returns-then-not-is_forall : goal.returns-then-not-is_forall
unfolding other_clauses
returns-then-not-is_forall c = answers_as _ _ _ _ _ c.type_clauses.ensures (where_no _ _ _ _ _ _ _ c.passes-is_forall.ensures c.if-not-is_forall.true refl)

pub returns-in_err-names : goal.returns-in_err-names
unfolding other_clauses
returns-in_err-names c = part_fails _ _ _ _ _ _ _ c.in_err-names.ensures c.from_residual.ensures.1 (where_yes _ _ _ _ _ _ _ c.passes-is_forall.ensures c.if-not-is_forall.false refl)

pub returns : goal.returns
unfolding other_clauses
returns c = answers_as _ _ _ _ _ c.type_clauses-2.ensures (where_yes _ _ _ _ _ _ _ c.passes-is_forall.ensures c.if-not-is_forall.false (read_then _ _ _ _ _ c.in_ok-names.ensures refl))
