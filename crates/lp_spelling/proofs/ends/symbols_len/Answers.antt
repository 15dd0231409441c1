use Rattle.std.proofs.Common.{arith, ap, sym, ◌∙◌}
use Rattle.lp_spelling.specs.HoleEnds.{ends_symbols}
use Rattle.lp_spelling.proofs.HoleSteps.{first_more, first_here}
use Rattle.lp_spelling.proofs.ends.symbols_len.Goals as goal

pub returns-then-ends_symbols-clause-value : goal.returns-then-ends_symbols-clause-value
returns-then-ends_symbols-clause-value c =
    let test = ends_symbols c.args.prefix.now in
    let there = ap test (sym c.rest_from.ensures) ∙ sym c.ends_symbols.ensures ∙ c.if-ends_symbols.true in
    let e = first_here test c.args.text.now c.loop-i.i (omega arith) there in
    omega (arith, e, c.loop-i.invariant)

pub loop-i-preserved : goal.loop-i-preserved
loop-i-preserved c =
    let test = ends_symbols c.args.prefix.now in
    let there = ap test (sym c.rest_from.ensures) ∙ sym c.ends_symbols.ensures ∙ c.if-ends_symbols.false in
    let e = first_more test c.args.text.now c.loop-i.i (omega arith) there in
    omega (arith, e, c.loop-i.invariant)
