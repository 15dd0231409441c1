use Rattle.std.proofs.Common.{refl}
use Rattle.lp_reading.specs.Patterns.{more_patterns}
use Rattle.lp_types.proofs.Steps.{answers_as, where_no, where_yes}
use Rattle.lp_reading.proofs.read_pattern.more_patterns.Goals as goal

pub returns-then-not-is_comma : goal.returns-then-not-is_comma
unfolding more_patterns
returns-then-not-is_comma c = answers_as _ _ _ _ _ c.closed.ensures (where_no _ _ _ _ _ _ _ c.passes-is_comma.ensures c.if-not-is_comma.true refl)

pub returns-then-is_last : goal.returns-then-is_last
unfolding more_patterns
returns-then-is_last c = where_yes _ _ _ _ _ _ _ c.passes-is_comma.ensures c.if-not-is_comma.false (where_yes _ _ _ _ _ _ _ c.passes-is_last.ensures c.if-is_last.true refl)

pub returns : goal.returns
unfolding more_patterns
returns c = where_yes _ _ _ _ _ _ _ c.passes-is_comma.ensures c.if-not-is_comma.false (where_no _ _ _ _ _ _ _ c.passes-is_last.ensures c.if-is_last.false refl)
