use Rattle.std.proofs.Common.{arith}
use Rattle.lp_states.proofs.AskingLemmas.{widens_none, widens_both}
use Rattle.lp_states.proofs.AskingSteps.{covered_more}
use Rattle.lp_states.proofs.closure.Closing.ask_productions.Goals as goal

pub loop-production-init : goal.loop-production-init
loop-production-init c = record {
  widens = widens_none c.args.asked.now.sets c.args.asked.now.work.items;
  covers = λ q l h. let r = (c.productions_of-range.ensures q).1 h in absurd (omega (arith, l, r.0));
  sound = λ kernel items before. before;
}

pub loop-production-preserved : goal.loop-production-preserved
loop-production-preserved c =
    let rules = c.args.self.now.rules.all.items in
    let k = c.loop-production.production in
    let left = (c.productions_of-range.ensures k).0 (c.loop-production.auto.production, c.loop-production-test.true) in
    let now = c.in_ok-ask_item.ensures in
    record {
      widens = widens_both c.loop-production.invariant.widens now.widens;
      covers = covered_more rules c.loop-production.asked.sets c.ask_item.new.asked.sets c.args.nonterminal k c.args.lookaheads.now now.widens.grows c.loop-production.invariant.covers now.covers;
      sound = λ kernel items before. now.sound kernel (items k left) (c.loop-production.invariant.sound kernel items before);
    }

pub returns : goal.returns
returns c = record {
  widens = c.loop-production.invariant.widens;
  covers = λ q l. let r = (c.productions_of-range.ensures q).1 l in c.loop-production.invariant.covers q (omega (arith, r.1, c.loop-production-test.false)) l;
  sound = c.loop-production.invariant.sound;
}
