use Rattle.std.proofs.Common.{subst}
use Rattle.lp_starts.specs.Tables.{ShiftsAscend}
use Rattle.lp_starts.proofs.Steps.{states_valid}
use Rattle.lp_starts.proofs.states.build_states.Goals as goal

pub returns-clause-valid : goal.returns-clause-valid
returns-clause-valid c valid name is =
    states_valid c.args.grammar.now c.args.start name c.in_ok-states.states.items valid is c.in_ok-states.ensures.states (subst ShiftsAscend c.as_slice.ensures.value c.shifts_ascend.ensures)
