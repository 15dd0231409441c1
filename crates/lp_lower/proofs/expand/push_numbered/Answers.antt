use Rattle.std.proofs.Common.{◌≡◌, ◌+◌, sym, arith, append-nil}
use Rattle.lp_lower.proofs.Numbered.{numbered_more}
use Rattle.lp_lower.proofs.expand.push_numbered.Goals as goal

pub loop-combination-init : goal.loop-combination-init
loop-combination-init c = record {
  number = let e : c.args.first ≡ c.args.first + 0 = omega arith in e;
  same = sym (append-nil c.args.all.now);
}

pub loop-combination-preserved : goal.loop-combination-preserved
loop-combination-preserved c = numbered_more c.args.all.now c.args.first c.loop-combination.all c.loop-combination.action c.loop-combination.yielded c.in-Some.combination _ _ c.in_ok-push.ensures c.in_ok-action.ensures c.loop-combination.invariant
