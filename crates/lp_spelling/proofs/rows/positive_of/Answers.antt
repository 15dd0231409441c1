use Rattle.std.proofs.Common.{ℤ, Some, ap, sym, ◌∙◌, rules}
use Rattle.std.proofs.lemmas.Int.{to_z-of_z}
use mir.Syntax.{w32}
use mir.Val.{SFits}
use Rattle.lp_spelling.specs.Fillings.{is_number}
use Rattle.lp_spelling.proofs.Tables.{some_of, positive_read, positive_none}
use Rattle.lp_spelling.proofs.rows.positive_of.Goals as goal

pub returns-then-not-is_number : goal.returns-then-not-is_number
returns-then-not-is_number c = sym (positive_none c.args.text.now (ap is_number (sym c.as_bytes.ensures.value) ∙ sym c.is_number.ensures ∙ c.if-not-is_number.true))

pub returns-in-Ok : goal.returns-in-Ok
returns-in-Ok c =
    let fits : SFits w32 c.in-Ok.number = search rules in
    ap (λ (z : ℤ). Some z) (to_z-of_z w32 c.in-Ok.number fits) ∙ sym (ap some_of c.in-Ok.is)
    ∙ positive_read c.args.text.now c.parse.result c.parse.ensures.value.0 (ap is_number (sym c.as_bytes.ensures.value) ∙ sym c.is_number.ensures ∙ c.if-not-is_number.false)

pub returns-in-Err : goal.returns-in-Err
returns-in-Err c =
    sym (ap some_of c.in-Err.is)
    ∙ positive_read c.args.text.now c.parse.result c.parse.ensures.value.0 (ap is_number (sym c.as_bytes.ensures.value) ∙ sym c.is_number.ensures ∙ c.if-not-is_number.false)
