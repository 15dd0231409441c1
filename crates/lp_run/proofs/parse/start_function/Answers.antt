use Rattle.lp_view.specs.PartLists.{listed}
use Rattle.lp_maker.specs.Making.{making}
use Rattle.lp_bodies.specs.Reductions.{done_of}
use Rattle.lp_ascent_bodies.specs.AscentStarts.{start}
use Rattle.lp_run.proofs.Whole.{called_by}
use Rattle.lp_run.proofs.parse.start_function.Goals as goal

pub returns : goal.returns
returns c =
    let names = c.args.names in
    let d = done_of c.in_ok-body.body c.start.new.scope (making c.start.new.maker) in
    called_by c.slots-params.result names.next c.in_ok-number.number c.function-function.result d (start (making c.args.maker.now) names (listed c.args.form)) (making c.closure.new.self)
    c.slots-params.ensures c.function-function.ensures c.in_ok-number.ensures.number c.in_ok-number.ensures.made c.in_ok-body.ensures
