use Rattle.lp_view.proofs.Separators.{none_split, some_split}
use Rattle.lp_view.proofs.joined.parted.Goals as goal

pub returns-in-None-clause-before : goal.returns-in-None-clause-before
returns-in-None-clause-before c = (none_split c.args.separator.now c.args.text.now c.in-None.ensures.cases).0

pub returns-in-None-clause-behind : goal.returns-in-None-clause-behind
returns-in-None-clause-behind c = (none_split c.args.separator.now c.args.text.now c.in-None.ensures.cases).1

pub returns-in-Some-clause-before : goal.returns-in-Some-clause-before
returns-in-Some-clause-before c = (some_split c.args.separator.now c.args.text.now c.in-Some.cut.0.now c.in-Some.cut.1.now c.in-Some.ensures.cases).0

pub returns-in-Some-clause-behind : goal.returns-in-Some-clause-behind
returns-in-Some-clause-behind c = (some_split c.args.separator.now c.args.text.now c.in-Some.cut.0.now c.in-Some.cut.1.now c.in-Some.ensures.cases).1
