use Rattle.lp_write.specs.Headers.{listed}
use Rattle.lp_write.proofs.Texts.{each-behind}
use Rattle.lp_codegen.proofs.header.push_listed.Goals as goal

pub loop-text-preserved : goal.loop-text-preserved
loop-text-preserved c =
    each-behind (listed c.args.front.now) c.args.texts.now c.loop-text.text-index c.text-item.result _ _ _ _ c.text-item.is
    c.loop-text-test.true c.loop-text.invariant c.in_ok-format.ensures.ok c.in_ok-push.ensures.items
