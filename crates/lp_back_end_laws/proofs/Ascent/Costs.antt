-- What a move of recursive ascent costs, and what comes before the first one, is little beside the square of the program's weight.
use Rattle.std.proofs.Common.{ℕ, ◌+◌, max, arith}
use Rattle.lp_repr.specs.declared.repr.Grammar.{Grammar}
use Rattle.lp_question_laws.specs.Actions.Nesting.{action_cost}
use Rattle.lp_agreement.proofs.Composed.AscentAgreement.{IsLittle}
use Rattle.lp_back_end_laws.proofs.Filled.Costs.{sizes_within}

-- what a move costs at most
abbrev pub move_cost : Grammar → ℕ
move_cost g = max 5 (action_cost g + 4)

pub move_is_little : (g : Grammar) → IsLittle g (move_cost g + 5)
move_is_little g = (let h = sizes_within g.action_fn_defns in omega (arith, h))
