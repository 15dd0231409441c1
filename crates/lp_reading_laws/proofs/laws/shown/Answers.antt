use Rattle.lp_reading_laws.proofs.Texts.Law.{trees_shown, trees_chosen, steps_ended, tails_ended}
use Rattle.lp_reading_laws.proofs.Texts.Begun.{trees_begun}
use Rattle.lp_reading_laws.proofs.laws.shown.Goals as goal

pub returns-clause-shown : goal.returns-clause-shown
returns-clause-shown c = trees_shown

pub returns-clause-chosen : goal.returns-clause-chosen
returns-clause-chosen c = trees_chosen

pub returns-clause-ended : goal.returns-clause-ended
returns-clause-ended c = steps_ended

pub returns-clause-begun : goal.returns-clause-begun
returns-clause-begun c = trees_begun

pub returns-clause-tails : goal.returns-clause-tails
returns-clause-tails c = tails_ended
