use Rattle.lp_states.proofs.AskingLemmas.{grows_both}
use Rattle.lp_states.proofs.closure.Closing.spread.Goals as goal

pub loop-init : goal.loop-init
loop-init c = record { work = c.requires.work; grows = λ n s e. (s, e, λ t h. h); sound = λ kernel h. h }

pub loop-preserved : goal.loop-preserved
loop-preserved c =
    let now = c.in_ok-spread_one-in-Some.ensures in
    record {
      work = now.work;
      grows = grows_both c.args.asked.now.sets c.loop.asked.sets c.spread_one.new.asked.sets c.loop.invariant.grows now.grows;
      sound = λ kernel h. now.sound kernel (c.loop.invariant.sound kernel h);
    }
