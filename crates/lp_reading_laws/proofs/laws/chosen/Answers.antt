use Rattle.lp_reading_laws.proofs.Choosing.Chosen.{trees_are_chosen}
use Rattle.lp_reading_laws.proofs.Choosing.Existing.{each_is_told, some_is_chosen, never_refused}
use Rattle.lp_reading_laws.proofs.Choosing.Law.{prefixes_are_shown, programs_are_chosen, programs_are_one, chosen_is_it}
use Rattle.lp_reading_laws.proofs.laws.chosen.Goals as goal

pub returns-clause-trees : goal.returns-clause-trees
returns-clause-trees c = trees_are_chosen

pub returns-clause-shown : goal.returns-clause-shown
returns-clause-shown c = prefixes_are_shown

pub returns-clause-chosen : goal.returns-clause-chosen
returns-clause-chosen c = programs_are_chosen

pub returns-clause-one : goal.returns-clause-one
returns-clause-one c = programs_are_one

pub returns-clause-told : goal.returns-clause-told
returns-clause-told c = each_is_told

pub returns-clause-some : goal.returns-clause-some
returns-clause-some c = some_is_chosen

pub returns-clause-same : goal.returns-clause-same
returns-clause-same c = chosen_is_it

pub returns-clause-never : goal.returns-clause-never
returns-clause-never c = never_refused
