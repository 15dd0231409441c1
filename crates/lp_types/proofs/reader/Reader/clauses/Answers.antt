use Rattle.std.proofs.Common.{arith, ap, ◌∙◌, map}
use Rattle.std.proofs.lemmas.List.{map-append}
use Rattle.lp_repr.specs.TypeTrees.{clause_tree}
use Rattle.lp_types.specs.Clauses.{clauses}
use Rattle.lp_types.proofs.Lists.{chain_begun, chain_one_more, chain_ended, chain_broke, chain_ran_out}
use Rattle.lp_types.proofs.Steps.{handed_on, no_memory, fails_here}
use Rattle.lp_types.proofs.reader.Reader.clauses.Goals as goal

pub loop-turn-init : goal.loop-turn-init
loop-turn-init c = chain_begun _ _ _ _ _ (ap (map clause_tree) c.new-clauses.ensures.items) c.turns-turn-end.ensures

pub returns-in_err-found : goal.returns-in_err-found
unfolding clauses
returns-in_err-found c = handed_on _ _ _ _ _ (chain_broke _ _ _ _ _ _ _ _ c.loop-turn.invariant (omega arith) c.in_err-found.ensures) c.from_residual.ensures.1

pub returns-in_err-append : goal.returns-in_err-append
returns-in_err-append c = no_memory _ _ _ _ c.from_residual-in_err-append.ensures.1

pub returns-then-not-more : goal.returns-then-not-more
unfolding clauses
returns-then-not-more c = chain_ended _ _ _ _ _ _ _ _ _ (map clause_tree c.in_ok-found.found.0.items, c.in_ok-found.found.1) c.loop-turn.invariant (omega arith) c.in_ok-found.ensures c.if-not-more.true (ap (map clause_tree) c.in_ok-append.ensures.items ∙ map-append clause_tree _ _)

pub loop-turn-preserved : goal.loop-turn-preserved
loop-turn-preserved c = chain_one_more _ _ _ _ _ _ _ _ _ (map clause_tree c.in_ok-found.found.0.items, c.in_ok-found.found.1) c.loop-turn.invariant (omega arith) c.in_ok-found.ensures c.if-not-more.false (ap (map clause_tree) c.in_ok-append.ensures.items ∙ map-append clause_tree _ _)

pub returns : goal.returns
unfolding clauses
returns c = fails_here _ _ _ c.error.ensures (chain_ran_out _ _ _ _ _ _ _ c.loop-turn.invariant (omega arith))
