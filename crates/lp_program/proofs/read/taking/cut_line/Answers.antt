use Rattle.std.proofs.Common.{◌≡◌, true, false, inl, inr, sym, ◌∙◌}
use Rattle.lp_tok.specs.contracts.tok.ErrorCodePartialEq.TheImpl as equality
use Rattle.lp_tok.specs.declared.tok.ErrorCode.TheVariants.{ExpectedStringLiteral}
use Rattle.lp_tok.specs.Cut.{FailsCut}
use Rattle.lp_program.proofs.Cuts.{code_is, code_other, fails_there, fails_on}
use Rattle.lp_program.proofs.read.taking.cut_line.Goals as goal

pub returns-in-Err : goal.returns-in-Err
returns-in-Err c =
    let fails : FailsCut c.args.cursor.text.now c.args.from c.in-Err.error = rw c.text-text.ensures at c.in-Err.ensures in
    let code : (equality.ghosts).eq c.in-Err.error.code ExpectedStringLiteral ≡ true = sym c.eq.ensures ∙ c.if-eq.true in
    inr (inl (c.in-Err.error.location, fails_there c.args.cursor.text.now c.args.from c.in-Err.error fails (code_is c.in-Err.error.code code), c.line_from-in-Err.ensures))

pub returns-in-Err-2 : goal.returns-in-Err-2
returns-in-Err-2 c =
    let fails : FailsCut c.args.cursor.text.now c.args.from c.in-Err.error = rw c.text-text.ensures at c.in-Err.ensures in
    let code : (equality.ghosts).eq c.in-Err.error.code ExpectedStringLiteral ≡ false = sym c.eq.ensures ∙ c.if-eq.false in
    inr (inr (λ at. fails_on c.args.cursor.text.now c.args.from c.in-Err.error fails (code_other c.in-Err.error.code code), c.past_last-in-Err-2.ensures))
