use Rattle.lp_lower.proofs.frame.sum.Goals as goal

pub returns-in-Some : goal.returns-in-Some
returns-in-Some c = c.in-Some.ensures.1
