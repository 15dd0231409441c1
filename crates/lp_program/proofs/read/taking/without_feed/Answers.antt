use Rattle.std.proofs.Common.{◌-◌, arith, take, length, codes, sym, ◌∙◌}
use Rattle.std.proofs.lemmas.Bool.{cond-true, cond-false, MatchBool-at_true}
use Rattle.std.proofs.lemmas.Str.Pattern.{ends_text}
use Rattle.lp_program.proofs.read.taking.without_feed.Goals as goal

pub overflow_sub-text : goal.overflow_sub-text
overflow_sub-text c = let m = MatchBool-at_true _ _ c.if-not-ends_with.false c.ends_with.ensures.cases in omega (arith, m.2, m.1.0)

pub split_at-requires : goal.split_at-requires
split_at-requires c = let m = MatchBool-at_true _ _ c.if-not-ends_with.false c.ends_with.ensures.cases in m.1.2

pub returns-then-not-ends_with : goal.returns-then-not-ends_with
returns-then-not-ends_with c =
    let e = ends_text c.ends_with.result (codes "\n") c.args.text.now c.ends_with.ensures.cases in
    sym (cond-false _ (take (length c.args.text.now - 1) c.args.text.now) c.args.text.now (sym e ∙ c.if-not-ends_with.true))

pub returns : goal.returns
returns c =
    let e = ends_text c.ends_with.result (codes "\n") c.args.text.now c.ends_with.ensures.cases in
    c.split_at.ensures.front ∙ sym (cond-true _ (take (length c.args.text.now - 1) c.args.text.now) c.args.text.now (sym e ∙ c.if-not-ends_with.false))
