use Rattle.std.proofs.Common.{arith, ap, ◌∙◌, map, ◌∷◌, [], ◌++◌}
use Rattle.std.proofs.lemmas.List.{map-append}
use Rattle.lp_repr.specs.TypeTrees.{bound_tree, clause_tree}
use Rattle.lp_types.proofs.Lists.{chain_begun, chain_one_more, chain_ended, chain_broke, chain_ran_out}
use Rattle.lp_types.proofs.Steps.{handed_on, no_memory, fails_here}
use Rattle.lp_types.proofs.reader.Reader.bound_clauses.Goals as goal

pub loop-turn-init : goal.loop-turn-init
loop-turn-init c = chain_begun _ _ _ _ _ (ap (map clause_tree) c.new-clauses.ensures.items) c.turns-turn-end.ensures

pub returns-in_err-found : goal.returns-in_err-found
returns-in_err-found c = handed_on _ _ _ _ _ (chain_broke _ _ _ _ _ _ _ _ c.loop-turn.invariant (omega arith) c.in_err-found.ensures) c.from_residual.ensures.1

pub returns-in_err-clause : goal.returns-in_err-clause
returns-in_err-clause c = no_memory _ _ _ _ c.from_residual-in_err-clause.ensures.1

pub returns-in_err-push : goal.returns-in_err-push
returns-in_err-push c = no_memory _ _ _ _ c.from_residual-in_err-push.ensures.1

pub returns-then-not-more : goal.returns-then-not-more
returns-then-not-more c = chain_ended _ _ _ _ _ _ _ _ _ (bound_tree c.in_ok-found.found.0, c.in_ok-found.found.1) c.loop-turn.invariant (omega arith) c.in_ok-found.ensures c.if-not-more.true
    (ap (map clause_tree) c.in_ok-push.ensures.items ∙ map-append clause_tree _ _ ∙ ap (λ clause. map clause_tree c.loop-turn.clauses.items ++ clause ∷ []) c.in_ok-clause.ensures)

pub loop-turn-preserved : goal.loop-turn-preserved
loop-turn-preserved c = chain_one_more _ _ _ _ _ _ _ _ _ (bound_tree c.in_ok-found.found.0, c.in_ok-found.found.1) c.loop-turn.invariant (omega arith) c.in_ok-found.ensures c.if-not-more.false
    (ap (map clause_tree) c.in_ok-push.ensures.items ∙ map-append clause_tree _ _ ∙ ap (λ clause. map clause_tree c.loop-turn.clauses.items ++ clause ∷ []) c.in_ok-clause.ensures)

pub returns : goal.returns
returns c = fails_here _ _ _ c.error.ensures (chain_ran_out _ _ _ _ _ _ _ c.loop-turn.invariant (omega arith))
