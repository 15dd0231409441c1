use Rattle.lp_emitted.proofs.Forests.{built_is_shaped}
use Rattle.lp_emitted.proofs.Halves.{shaped_is_well_formed}
use Rattle.lp_emitted.proofs.One.{built_is_one}
use Rattle.lp_emitted.proofs.laws.built.Goals as goal

pub returns-clause-shaped : goal.returns-clause-shaped
returns-clause-shaped c = built_is_shaped

pub returns-clause-well_formed : goal.returns-clause-well_formed
returns-clause-well_formed c = shaped_is_well_formed

pub returns-clause-one : goal.returns-clause-one
returns-clause-one c = built_is_one
