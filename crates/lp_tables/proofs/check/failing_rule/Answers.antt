use Rattle.std.proofs.Common.{◌≡◌, ◌∙◌, ◌+◌, get_or, sym, arith}
use Rattle.std.proofs.lemmas.Bool.{false≢true}
use Rattle.lp_tables.specs.Gathering.{known_by}
use Rattle.lp_tables.specs.TableRules.{number}
use Rattle.lp_tables.specs.declared.check.TableRule.TheVariants.{States}
use Rattle.lp_tables.proofs.LeastRule.{all_rules, number_at, from_one, one_more_holds, first_fails, none_fails}
use Rattle.lp_tables.proofs.check.failing_rule.Goals as goal

pub loop-rule-init : goal.loop-rule-init
loop-rule-init c = λ r upto. absurd (let some = from_one r in omega arith)

pub returns-then-not-branch : goal.returns-then-not-branch
returns-then-not-branch c =
    let g = known_by c.args.tables.now in
    let ss = c.args.tables.now.states.now in
    let i = c.loop-rule.rule-index in
    let rule = get_or all_rules i States in
    let e : number rule ≡ i + 1 = number_at i (omega arith) States in
    first_fails g ss c.args.state i c.number.result rule e c.number.ensures c.loop-rule.invariant (λ says. false≢true (sym c.if-not-branch.true ∙ c.in_ok-holds.ensures.1 says))

pub loop-rule-preserved : goal.loop-rule-preserved
loop-rule-preserved c =
    let g = known_by c.args.tables.now in
    let ss = c.args.tables.now.states.now in
    let i = c.loop-rule.rule-index in
    let rule = get_or all_rules i States in
    let e : number rule ≡ i + 1 = number_at i (omega arith) States in
    one_more_holds g ss c.args.state i rule e c.loop-rule.invariant (c.in_ok-holds.ensures.0 c.if-not-branch.false)

pub returns : goal.returns
returns c = none_fails (known_by c.args.tables.now) c.args.tables.now.states.now c.args.state c.loop-rule.rule-index (omega arith) c.loop-rule.invariant
