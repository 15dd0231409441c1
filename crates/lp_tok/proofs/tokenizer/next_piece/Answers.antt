use Rattle.std.proofs.Common.{IsUtf8, subst}
use Rattle.lp_tok.proofs.Unclosed.{hash_alone}
use Rattle.lp_tok.proofs.tokenizer.next_piece.Goals as goal

-- no attribute ends, so the `#` is a token of its own
pub returns-in-Some-clause-value : goal.returns-in-Some-clause-value
returns-in-Some-clause-value c =
    let utf8 = subst IsUtf8 c.as_bytes.ensures.value c.as_bytes.ensures.utf8 in
    hash_alone c.args.start c.in-Some.after c.requires.alone utf8 (c.requires.none_left c.if-unclosed.true) c.in-Some.ensures.value
