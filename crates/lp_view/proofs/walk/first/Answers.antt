use Rattle.std.proofs.Common.{◌∙◌, ap, sym}
use Rattle.std.specs.Option.{option_map}
use Rattle.std.proofs.lemmas.Option.{slice_get-map}
use Rattle.lp_tree.specs.ProgramTree.{item}
use Rattle.lp_view.proofs.walk.first.Goals as goal

pub returns : goal.returns
returns c = ap (option_map item) c.first.ensures.value ∙ sym (slice_get-map item c.args.entries.now 0)
