use Rattle.std.proofs.Common.{arith, sym, ap, ◌∙◌}
use Rattle.lp_spelling.specs.Fillings.{is_fitting, are_filled}
use Rattle.lp_spelling.proofs.Fitting.{fits_more, fits_stop, fits_over}
use Rattle.lp_spelling.proofs.fill.are_filled.Goals as goal

pub returns-then-not-is_fitting : goal.returns-then-not-is_fitting
unfolding are_filled
returns-then-not-is_fitting c =
    let prefix = c.args.prefix.now in
    let wrong = ap (is_fitting prefix c.loop-i.last) (sym c.rest_from.ensures) ∙ sym c.is_fitting.ensures ∙ c.if-not-is_fitting.true in
    sym (fits_stop prefix c.loop-i.last c.args.text.now c.loop-i.i (omega arith) wrong) ∙ c.loop-i.invariant

pub loop-i-preserved : goal.loop-i-preserved
loop-i-preserved c =
    let prefix = c.args.prefix.now in
    let fits = ap (is_fitting prefix c.loop-i.last) (sym c.rest_from.ensures) ∙ sym c.is_fitting.ensures ∙ c.if-not-is_fitting.false in
    sym (fits_more prefix c.loop-i.last c.args.text.now c.loop-i.i (omega arith) fits) ∙ c.loop-i.invariant

pub returns : goal.returns
unfolding are_filled
returns c = sym (fits_over c.args.prefix.now c.loop-i.last c.args.text.now c.loop-i.i (omega arith)) ∙ c.loop-i.invariant
