use Rattle.std.proofs.Common.{refl}
use Rattle.lp_reading.specs.Symbols.{sign}
use Rattle.lp_types.proofs.Steps.{fails_here, where_no, where_yes}
use Rattle.lp_reading.proofs.read_symbol.sign.Goals as goal

pub returns-then-is_lookahead : goal.returns-then-is_lookahead
unfolding sign
returns-then-is_lookahead c = where_yes _ _ _ _ _ _ _ c.passes-is_lookahead.ensures c.if-is_lookahead.true refl

pub returns-then-is_lookbehind : goal.returns-then-is_lookbehind
unfolding sign
returns-then-is_lookbehind c = where_no _ _ _ _ _ _ _ c.passes-is_lookahead.ensures c.if-is_lookahead.false (where_yes _ _ _ _ _ _ _ c.passes-is_lookbehind.ensures c.if-is_lookbehind.true refl)

pub returns-then-is_error : goal.returns-then-is_error
unfolding sign
returns-then-is_error c = where_no _ _ _ _ _ _ _ c.passes-is_lookahead.ensures c.if-is_lookahead.false (where_no _ _ _ _ _ _ _ c.passes-is_lookbehind.ensures c.if-is_lookbehind.false (where_yes _ _ _ _ _ _ _ c.passes-is_error.ensures c.if-is_error.true refl))

pub returns : goal.returns
unfolding sign
returns c = fails_here _ _ _ c.error.ensures (where_no _ _ _ _ _ _ _ c.passes-is_lookahead.ensures c.if-is_lookahead.false (where_no _ _ _ _ _ _ _ c.passes-is_lookbehind.ensures c.if-is_lookbehind.false (where_no _ _ _ _ _ _ _ c.passes-is_error.ensures c.if-is_error.false refl)))
