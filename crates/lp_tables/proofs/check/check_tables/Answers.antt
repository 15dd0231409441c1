use Rattle.std.proofs.Common.{◌≡◌, ◌∙◌, ℕ, ◌<◌, length, refl, sym, subst, arith, eqb-true, below_more}
use Rattle.std.proofs.lemmas.Bool.{eqb-false}
use Rattle.lp_tables.specs.Gathering.{known_by}
use Rattle.lp_tables.specs.TableRules.{Says, IsFirstFailingRule}
use Rattle.lp_tables.specs.declared.check.TableRule.{TableRule}
use Rattle.lp_tables.specs.declared.check.TableRule.TheVariants.{States}
use Rattle.lp_tables.proofs.LeastRule.{from_one, refuse, accept, names_rule}
use Rattle.lp_tables.proofs.check.check_tables.Goals as goal

pub returns-then-is_empty-clause-exact : goal.returns-then-is_empty-clause-exact
returns-then-is_empty-clause-exact c =
    let ss = c.args.states.now in
    let none : length ss ≡ 0 = eqb-true (length ss) 0 (sym c.is_empty.ensures ∙ c.if-is_empty.true) in
    (λ v. (let some : 0 < length ss = v.some_state in omega arith), (λ lesser less. absurd (omega arith), (States, refl, λ says. (let some : 0 < length ss = says in omega arith), λ lesser less. absurd (let one = from_one lesser in omega arith))))

pub returns-in-Some-clause-exact : goal.returns-in-Some-clause-exact
returns-in-Some-clause-exact c =
    let t = c.in_ok-tables.tables in
    let told = c.in_ok-tables.ensures in
    refuse c.args.grammar.now c.args.start c.args.states.now (known_by t) t.states.now c.in-Some.rule c.loop-state.state c.in_ok-rule.field-0 told.known told.kept c.in-Some.is c.loop-state.invariant c.in_ok-rule.ensures

pub returns-in-Some-clause-refusal : goal.returns-in-Some-clause-refusal
returns-in-Some-clause-refusal c = λ some.
    let t = c.in_ok-tables.tables in
    names_rule (known_by t) t.states.now c.args.states.now c.in-Some.rule c.loop-state.state c.in_ok-rule.field-0 c.in_ok-tables.ensures.kept c.in-Some.is some (omega arith) c.in_ok-rule.ensures

pub loop-state-preserved : goal.loop-state-preserved
loop-state-preserved c =
    let t = c.in_ok-tables.tables in
    below_more (λ (i : ℕ). (r : TableRule) → Says (known_by t) t.states.now r i) c.loop-state.state c.loop-state.invariant (subst (IsFirstFailingRule (known_by t) t.states.now c.loop-state.state) c.in_default.is c.in_ok-rule.ensures)

pub returns-clause-exact : goal.returns-clause-exact
returns-clause-exact c =
    let t = c.in_ok-tables.tables in
    let told = c.in_ok-tables.ensures in
    let ss = c.args.states.now in
    let not_none = eqb-false (length ss) 0 (sym c.is_empty.ensures ∙ c.if-is_empty.false) in
    accept c.args.grammar.now c.args.start ss (known_by t) t.states.now c.loop-state.state told.known told.kept (omega arith) (omega arith) c.loop-state.invariant
