use Rattle.std.proofs.Common.{refl, ap, sym}
use Rattle.lp_types.specs.Clauses.{more_clauses}
use Rattle.lp_types.specs.Left.{left}
use Rattle.lp_types.specs.Reading.{Read}
use Rattle.lp_types.proofs.Steps.{where_yes, where_no}
use Rattle.lp_types.proofs.reader.Reader.more_clauses.Goals as goal

pub returns-then-not-is_comma : goal.returns-then-not-is_comma
unfolding more_clauses
returns-then-not-is_comma c = where_no _ _ _ _ _ _ _ c.passes-is_comma.ensures c.if-not-is_comma.true refl

pub returns : goal.returns
unfolding more_clauses
returns c = where_yes _ _ _ _ _ _ _ c.passes-is_comma.ensures c.if-not-is_comma.false (ap (λ b. Read b (left c.passes-is_comma.new.self)) (sym c.goes_on.ensures))
