use Rattle.std.proofs.Common.{subst}
use Rattle.lp_valid.specs.Places.{IsFirstFailing}
use Rattle.lp_valid.specs.ValidGrammar.{Says}
use Rattle.lp_valid.proofs.LeastFailure.{one_more_holds}
use Rattle.lp_valid.proofs.grammars.passes.Goals as goal

pub returns-in-None : goal.returns-in-None
returns-in-None c = one_more_holds c.args._grammar.now c.args.rule c.requires.lesser (λ r e. subst (IsFirstFailing (Says c.args._grammar.now r)) c.in-None.is (c.requires.this r e))

pub returns-in-Some : goal.returns-in-Some
returns-in-Some c = (c.requires.low, c.requires.high, (c.requires.lesser, λ r e. subst (IsFirstFailing (Says c.args._grammar.now r)) c.in-Some.is (c.requires.this r e)))
