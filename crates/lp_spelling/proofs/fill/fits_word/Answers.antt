use Rattle.lp_spelling.proofs.Fitting.{fits_of, digits_utf8}
use Rattle.lp_spelling.proofs.fill.fits_word.Goals as goal

pub returns-in-Ok : goal.returns-in-Ok
returns-in-Ok c = fits_of c.args.text.now c.in-Ok.digits.now c.parse.result c.is_ok.result c.in-Ok.ensures.cases.0 c.requires.some c.requires.digits c.parse.ensures.value.0 c.is_ok.ensures.value

pub returns-in-Err : goal.returns-in-Err
returns-in-Err c = absurd (c.in-Err.ensures.cases.0 (digits_utf8 c.args.text.now c.requires.digits))
