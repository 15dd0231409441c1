-- What isn't a numeral has no number; a numeral is ASCII, and `parse` reads it.
use Rattle.std.proofs.Common.{sym, ◌∙◌}
use Rattle.std.proofs.lemmas.Str.{IsUtf8-from_ascii}
use Rattle.lp_lines.proofs.Numbers.{ascii_numeral, number_not, number_parsed}
use Rattle.lp_lines.proofs.scan.number.Goals as goal

pub returns-then-not-is_numeral : goal.returns-then-not-is_numeral
returns-then-not-is_numeral c = sym (number_not c.args.text.now (sym c.if-not-is_numeral.ensures))

pub returns-in-Err : goal.returns-in-Err
returns-in-Err c =
    absurd (c.in-Err.ensures.cases.0 (IsUtf8-from_ascii c.args.text.now (ascii_numeral c.args.text.now (sym c.if-not-is_numeral.ensures))))

pub returns-in-Ok : goal.returns-in-Ok
returns-in-Ok c =
    let read = rw c.in-Ok.ensures.cases.0 at c.parse.ensures.value.0 in
    c.ok.ensures.value ∙ number_parsed c.args.text.now c.parse.result (sym c.if-not-is_numeral.ensures) read
