use Rattle.std.proofs.Common.{subst, refl, [], ap, ◌∙◌}
use Rattle.lp_tok.specs.Scans.{has_closer}
use Rattle.lp_tok.proofs.Unclosed.{none_at_end}
use Rattle.lp_tok.specs.Tokens.{AreTokens, tokens_none}
use Rattle.lp_tok.proofs.Lefts.{left_alone, alone_follows}
use Rattle.lp_tok.proofs.Readings.{next_token, next_error, no_tokens, nothing_left}
use Rattle.lp_tok.proofs.Orders.{token_in_order, error_in_order}
use Rattle.lp_tok.proofs.tokenizer.TokenizerIterator.next.Goals as goal

-- a token was read, and the text after it is left
pub returns-in-Token-clause-steps : goal.returns-in-Token-clause-steps
returns-in-Token-clause-steps c =
    let read = c.in-Token.ensures in
    let alone = c.whole.ensures.behind in (
      λ items rest. next_token _ _ _ _ _ _ _ _ _ _ _ _ items c.whole.ensures.value
          (left_alone c.in-Token.start (alone_follows c.whole.result c.in-Token.start read.1 alone))
          (left_alone c.in-Token.stop (alone_follows c.whole.result c.in-Token.stop read.2 alone))
          (left_alone c.in-Token.after (alone_follows c.whole.result c.in-Token.after read.3 alone))
          c.place.ensures.value c.place-in-Token.ensures.value (read.0 c.args.self.now.end) rest,
      token_in_order _ _ c.whole.result c.in-Token.start c.in-Token.stop c.in-Token.after _ _ _ c.whole.ensures.text refl refl read.1 read.5 read.6 read.3 read.7 c.place.ensures.bytes c.place-in-Token.ensures.bytes,
    )

-- an error was read, and nothing is left
pub returns-in-Broken-clause-steps : goal.returns-in-Broken-clause-steps
returns-in-Broken-clause-steps c =
    let read = c.in-Broken.ensures in (
      λ items rest. next_error _ _ _ _ _ _ _ items c.whole.ensures.value
          (left_alone c.in-Broken.at (alone_follows c.whole.result c.in-Broken.at read.1 c.whole.ensures.behind))
          c.place-in-Broken.ensures.value (read.0 c.args.self.now.end) (no_tokens _ _ items nothing_left rest),
      error_in_order _ _ c.whole.result c.in-Broken.at c.in-Broken.code _ c.whole.ensures.text refl refl read.1 c.place-in-Broken.ensures.bytes (λ items rest. no_tokens _ _ items nothing_left rest),
    )

-- nothing is left
pub returns-in-End-clause-steps : goal.returns-in-End-clause-steps
returns-in-End-clause-steps c = (
  subst (λ x. AreTokens c.args.self.now.end x []) c.whole.ensures.value (c.in-End.ensures c.args.self.now.end),
  tokens_none _ nothing_left,
)

-- where no `]` was left, none is left after the token
pub is_unclosed-self-requires : goal.is_unclosed-self-requires
is_unclosed-self-requires c closed = none_at_end c.whole.result c.in-Token.after c.in-Token.ensures.3 (ap has_closer c.whole.ensures.text ∙ c.args.self.now.none_left closed)
