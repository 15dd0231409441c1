use Rattle.std.proofs.Common.{refl}
use Rattle.lp_reading.specs.Rules.{next_rule}
use Rattle.lp_types.proofs.Steps.{answers_as, where_no, where_yes}
use Rattle.lp_reading.proofs.read_rule.next_rule.Goals as goal

pub returns-then-is_marked : goal.returns-then-is_marked
unfolding next_rule
returns-then-is_marked c = answers_as _ _ _ _ _ c.inline_rule.ensures (where_yes _ _ _ _ _ _ _ c.passes-is_marked.ensures c.if-is_marked.true refl)

pub returns-then-is_public : goal.returns-then-is_public
unfolding next_rule
returns-then-is_public c = answers_as _ _ _ _ _ c.some_rule.ensures (where_no _ _ _ _ _ _ _ c.passes-is_marked.ensures c.if-is_marked.false (where_yes _ _ _ _ _ _ _ c.passes-is_public.ensures c.if-is_public.true refl))

pub returns : goal.returns
unfolding next_rule
returns c = answers_as _ _ _ _ _ c.private_rule.ensures (where_no _ _ _ _ _ _ _ c.passes-is_marked.ensures c.if-is_marked.false (where_no _ _ _ _ _ _ _ c.passes-is_public.ensures c.if-is_public.false refl))
