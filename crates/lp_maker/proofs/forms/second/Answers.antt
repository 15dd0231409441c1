use Rattle.lp_view.specs.PartLists.{listed, parts_of}
use Rattle.lp_maker.proofs.Rows.{second_of}
use Rattle.lp_maker.proofs.forms.second.Goals as goal

pub returns : goal.returns
returns c = second_of c.next-before.result c.next.result c.parts-parts.result c.next-before.new.self c.next.new.self (parts_of (listed c.args.form)) c.parts-parts.ensures c.next-before.ensures.steps c.next.ensures.steps
