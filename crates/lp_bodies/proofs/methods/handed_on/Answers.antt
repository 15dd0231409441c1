use Rattle.std.proofs.Common.{◌≡◌, ap, ◌∙◌, append-nil}
use Rattle.std.proofs.lemmas.Result.{on_ok_weaker}
use Rattle.lp_maker.specs.Making.{making, call_named}
use Rattle.lp_bodies.specs.Actions.{takes}
use Rattle.lp_bodies.specs.MachineMethods.{with_method}
use Rattle.lp_bodies.proofs.methods.handed_on.Goals as goal

pub returns-clause-made : goal.returns-clause-made
returns-clause-made c =
    let m = making c.args.maker.now in
    let name = c.args.name.now in
    let params = c.args.params in
    let same : c.in_ok-body.body ≡ call_named name (takes params) m =
    c.in_ok-body.ensures ∙ ap (λ t. call_named t c.in_ok-args.args.items m) (append-nil name) ∙ ap (λ ts. call_named name ts m) c.in_ok-args.ensures in
    on_ok_weaker c.method.result (λ e. e ∙ ap (λ b. with_method params b m) same) c.method.ensures.made
