use Rattle.std.specs.Prelude.{map}
use Rattle.lp_core.specs.Store.{call_of, held}
use Rattle.lp_turns.proofs.Told.{begins}
use Rattle.lp_turns.proofs.runner.standing.Goals as goal

pub returns : goal.returns
returns c = λ left.
    begins (map held c.args.cells.items) left c.new-env.result.items (map call_of c.into_events-events.result.items) c.args.calls c.new-env.ensures.items c.into_events-events.ensures
