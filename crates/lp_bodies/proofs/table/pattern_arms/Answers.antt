use Rattle.std.proofs.Common.{ℕ, List, Bor, map}
use Rattle.lp_view.specs.Elements.{patterns}
use Rattle.lp_maker.specs.Making.{making}
use Rattle.lp_bodies.specs.Arms.{gathered, no_arms}
use Rattle.lp_bodies.specs.Tables.{reading_of, pattern_arms}
use Rattle.lp_bodies.proofs.Patterns.{arms_step, arms_done}
use Rattle.lp_bodies.proofs.table.pattern_arms.Goals as goal

pub loop-pattern-preserved : goal.loop-pattern-preserved
loop-pattern-preserved c =
    let at = c.loop-pattern in
    let names = map (λ (x : Bor (List ℕ)). x.now) c.args.names.now in
    let whole = pattern_arms c.args.variant c.args.token names (reading_of no_arms (making c.args.maker.now)) (patterns c.args.text.now) in
    arms_step c.args.variant c.args.token names (reading_of (gathered at.arms) (making at.maker)) (reading_of (gathered c.pattern_arm.new.arms) (making c.pattern_arm.new.maker)) whole c.next.result c.in-Some.pattern at.pattern-iterator c.next.new.self c.in-Some.is c.next.ensures.steps c.in_ok-pattern_arm.ensures at.invariant

pub returns : goal.returns
returns c =
    let at = c.loop-pattern in
    let names = map (λ (x : Bor (List ℕ)). x.now) c.args.names.now in
    let whole = pattern_arms c.args.variant c.args.token names (reading_of no_arms (making c.args.maker.now)) (patterns c.args.text.now) in
    arms_done c.args.variant c.args.token names (reading_of (gathered at.arms) (making at.maker)) whole c.next.result at.pattern-iterator c.next.new.self c.in-None.is c.next.ensures.steps at.invariant
