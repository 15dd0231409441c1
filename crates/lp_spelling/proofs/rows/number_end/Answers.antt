use Rattle.std.proofs.Common.{◌+◌, arith, length, drop, ap, ◌∙◌, length-drop}
use Rattle.std.specs.List.{prefix_len}
use Rattle.lp_spelling.specs.HoleEnds.{is_digit}
use Rattle.lp_spelling.proofs.rows.number_end.Goals as goal

pub overflow_add-end : goal.overflow_add-end
overflow_add-end c =
    let size = length-drop c.sign_len-sign.result c.args.text.now in
    let rest = ap length c.rest_from.ensures in
    omega (arith, c.digit_run.ensures.bound, rest, c.sign_len-sign.ensures.bound, size)

pub returns : goal.returns
returns c =
    let text = c.args.text.now in
    let sign = c.sign_len-sign.result in
    let size = length-drop sign text in
    let digits = c.digit_run.ensures.value ∙ ap (prefix_len is_digit) c.rest_from.ensures in
    record {
      value = ap (λ n. sign + n) digits ∙ ap (λ s. s + prefix_len is_digit (drop s text)) c.sign_len-sign.ensures.value;
      bound = omega (arith, c.digit_run.ensures.bound, ap length c.rest_from.ensures, c.sign_len-sign.ensures.bound, size);
    }
