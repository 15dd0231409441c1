use Rattle.std.proofs.Common.{ap, refl, Ok, Err}
use Rattle.lp_tok.specs.Token.{item_of}
use Rattle.lp_tok.proofs.SeenSoFar.{given_none, given_more, given_all}
use Rattle.lp_tok.proofs.tokenizer.first_error.Goals as goal

-- an error was given
pub loop-item-preserved-in-Err : goal.loop-item-preserved-in-Err
loop-item-preserved-in-Err c = given_more _ _ _ _ _ _ _ (Err c.in-Err.fault) c.loop-item.invariant (ap item_of c.in-Err.is) c.in-Some.ensures.steps (λ items. refl)

-- a token was given
pub loop-item-preserved : goal.loop-item-preserved
loop-item-preserved c = given_more _ _ _ _ _ _ _ (item_of (Ok c.in_default-item.field-0)) c.loop-item.invariant (ap item_of c.in_default-item.is) c.in-Some.ensures.steps (λ items. refl)

-- nothing is left
pub returns : goal.returns
returns c = given_all _ _ _ _ c.loop-item.invariant c.in_default.ensures.steps.0

-- no item was given yet
pub loop-item-init : goal.loop-item-init
loop-item-init c = given_none _ _ _ (λ items. (c.new-tokens.ensures.tokens items).0) c.new-tokens.ensures.whole c.new-tokens.ensures.begins
