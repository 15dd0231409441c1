use Rattle.std.proofs.Common.{arith, ap, ◌∙◌}
use Rattle.lp_tok.specs.Token.{Text}
use Rattle.lp_tok.specs.Tokens.{tokens_breaks, tokens_unclosed}
use Rattle.lp_tok.proofs.Lefts.{follows_follows, follows_itself, size_follows}
use Rattle.lp_tok.proofs.Readings.{cut_tokens}
use Rattle.lp_tok.proofs.Orders.{text_follows}
use Rattle.lp_tok.proofs.tokenizer.read_cut.Goals as goal

pub returns-in-Stops : goal.returns-in-Stops
returns-in-Stops c =
    let cut = c.in-Stops.ensures in (
      λ end items rest. cut_tokens _ _ _ c.args.kind _ end items c.requires.piece cut.0 (c.with_text.ensures ∙ ap (Text c.args.kind) c.before-in-Stops.ensures.text) rest,
      follows_itself _,
      follows_follows _ _ _ c.requires.follows cut.1,
      follows_follows _ _ _ c.requires.follows cut.1,
      omega (arith, c.requires.shorter, size_follows c.args.code c.in-Stops.end cut.1),
      follows_follows _ _ _ c.requires.follows cut.1,
      follows_itself _,
      text_follows _ _ _ _ c.with_text.ensures (c.args.code, c.in-Stops.end, c.requires.follows, c.before-in-Stops.ensures.bytes, follows_itself _),
    )

pub returns-in-Broken : goal.returns-in-Broken
returns-in-Broken c = (λ end. tokens_breaks _ _ _ c.args.kind _ c.requires.piece c.in-Broken.ensures.0, follows_follows _ _ _ c.requires.follows c.in-Broken.ensures.1, omega (arith, c.requires.shorter))

pub returns-in-Unclosed : goal.returns-in-Unclosed
returns-in-Unclosed c = (λ end. tokens_unclosed _ _ c.args.kind c.requires.piece c.in-Unclosed.ensures, follows_itself _, omega (arith, c.requires.shorter))
