use Rattle.std.proofs.Common.{ℤ, Some, ap, sym, ◌∙◌, rules}
use Rattle.std.proofs.lemmas.Int.{to_z-of_z}
use mir.Syntax.{w32}
use mir.Val.{SFits}
use Rattle.lp_spelling.proofs.Tables.{some_of, negative_read, negative_none, negative_zero}
use Rattle.lp_spelling.proofs.rows.negative_of.Goals as goal

pub returns-then-not-is_number : goal.returns-then-not-is_number
returns-then-not-is_number c = sym (negative_none c.args.digits.now (sym c.is_number.ensures ∙ c.if-not-is_number.true))

pub returns-then-is_same : goal.returns-then-is_same
returns-then-is_same c = sym (negative_zero c.args.digits.now (sym c.is_number.ensures ∙ c.if-not-is_number.false) (sym c.is_same.ensures ∙ c.if-is_same.true))

pub returns-in-Ok : goal.returns-in-Ok
returns-in-Ok c =
    let fits : SFits w32 c.in-Ok.number = search rules in
    ap (λ (z : ℤ). Some z) (to_z-of_z w32 c.in-Ok.number fits) ∙ sym (ap some_of c.in-Ok.is)
    ∙ negative_read c.args.text.now c.args.digits.now c.parse.result c.requires c.parse.ensures.value.0 (sym c.is_number.ensures ∙ c.if-not-is_number.false) (sym c.is_same.ensures ∙ c.if-is_same.false)

pub returns-in-Err : goal.returns-in-Err
returns-in-Err c =
    sym (ap some_of c.in-Err.is)
    ∙ negative_read c.args.text.now c.args.digits.now c.parse.result c.requires c.parse.ensures.value.0 (sym c.is_number.ensures ∙ c.if-not-is_number.false) (sym c.is_same.ensures ∙ c.if-is_same.false)
