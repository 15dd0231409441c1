use Rattle.lp_spelling.proofs.Reading.{stripped}
use Rattle.lp_spelling.proofs.line.after_front.Goals as goal

pub returns-clause-exact : goal.returns-clause-exact
returns-clause-exact c = stripped c.args.front.now c.args.text.now c.strip_prefix.result c.strip_prefix.ensures.cases
