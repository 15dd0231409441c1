use Rattle.lp_view.specs.PartLists.{listed, parts_of}
use Rattle.lp_maker.proofs.Rows.{first_of}
use Rattle.lp_maker.proofs.forms.first.Goals as goal

pub returns : goal.returns
returns c = first_of c.next.result c.parts-parts.result c.next.new.self (parts_of (listed c.args.form)) c.parts-parts.ensures c.next.ensures.steps
