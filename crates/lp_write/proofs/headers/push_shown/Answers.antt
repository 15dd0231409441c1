use Rattle.std.proofs.Common.{[], ◌∷◌, ◌++◌, string_bytes}
use Rattle.lp_write.specs.Texts.{IsShownAs}
use Rattle.lp_write.proofs.Texts.{zip-more, behind-more}
use Rattle.lp_write.proofs.headers.push_shown.Goals as goal

pub loop-x-preserved : goal.loop-x-preserved
loop-x-preserved g c =
    let text = string_bytes c.in_ok-to_string.field-0 in
    let so_far = c.loop-x.invariant in (
      so_far.0 ++ text ∷ [],
      zip-more (λ x t. IsShownAs (g.T.Display.output x) t) c.args.shown.now so_far.0 c.loop-x.x-index c.x-item.result text
          c.x-item.is c.loop-x-test.true so_far.1 c.in_ok-to_string.ensures.ok,
      behind-more _ _ _ so_far.0 text so_far.2 c.in_ok-push.ensures.items,
    )
