use Rattle.lp_types.proofs.Gathered.{GatheredTo}
use Rattle.lp_types.proofs.tokens.with_codes.Given as goal

abbrev pub invariant-loop-turn : goal.invariant-loop-turn
invariant-loop-turn l = GatheredTo l.fn.plain.items l.list.items l.place l.pending.items
