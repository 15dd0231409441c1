use Rattle.std.proofs.Common.{◌≡◌, ◌+◌, ap, ◌∙◌, length, arith}
use Rattle.lp_types.specs.Left.{left_of}
use Rattle.lp_reading.proofs.Wholes.{read_as, not_read}
use Rattle.lp_reading.proofs.top.parse_grammar.Goals as goal

pub returns-in_err-free_prefix-clause-file : goal.returns-in_err-free_prefix-clause-file
returns-in_err-free_prefix-clause-file c = not_read _ _ _ _ _ c.from_residual.ensures.1

pub returns-in_err-tokens-clause-file : goal.returns-in_err-tokens-clause-file
returns-in_err-tokens-clause-file c = not_read _ _ _ _ _ c.from_residual-in_err-tokens.ensures.1

pub returns-clause-file : goal.returns-clause-file
returns-clause-file c =
    let end : length c.args.input.now ≡ length c.args.input.now + 0 = omega arith in
    read_as _ _ _ _ _ _ _ _ c.in_ok-tokens.ensures (c.new-reader.ensures ∙ ap (left_of c.in_ok-tokens.tokens.list.items c.in_ok-tokens.tokens.error) end) c.grammar.ensures.file
