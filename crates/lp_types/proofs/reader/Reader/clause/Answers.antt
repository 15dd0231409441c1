use Rattle.std.proofs.Common.{refl, ap, sym, true, None}
use Rattle.lp_repr.specs.TypeTrees.{lifetime_type}
use Rattle.lp_types.specs.Clauses.{clause, subject_clauses}
use Rattle.lp_types.specs.Left.{left}
use Rattle.lp_types.proofs.Steps.{read_then, no_memory, answers_as}
use Rattle.lp_types.proofs.reader.Reader.clause.Goals as goal

pub returns-in_err-name-in-Some : goal.returns-in_err-name-in-Some
returns-in_err-name-in-Some c = no_memory _ _ _ _ c.from_residual.ensures.1

pub returns-in_ok-name-in-Some : goal.returns-in_ok-name-in-Some
unfolding clause
returns-in_ok-name-in-Some c = answers_as _ _ _ _ _ c.lifetime_clauses.ensures
    (read_then _ _ _ _ _ c.in-Some.ensures (ap (λ name. subject_clauses None (lifetime_type name) true (left c.takes.new.self)) (sym c.in_ok-name-in-Some.ensures.ok)))

pub returns-in-None : goal.returns-in-None
unfolding clause
returns-in-None c = answers_as _ _ _ _ _ c.other_clauses.ensures (read_then _ _ _ _ _ c.in-None.ensures refl)
