use Rattle.lp_machine.proofs.ExpectedLists.{tried_have_actions, moves_try_names}
use Rattle.lp_machine.proofs.laws.expected_lists.Goals as goal

pub returns-clause-contained : goal.returns-clause-contained
returns-clause-contained c = tried_have_actions

pub returns-clause-listed : goal.returns-clause-listed
returns-clause-listed c = moves_try_names
