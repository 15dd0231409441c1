use Rattle.std.proofs.Common.{sym, ap, suc, ◌∙◌, add-one}
use Rattle.lp_types.proofs.Lefts.{size_left}
use Rattle.lp_types.proofs.reader.Reader.turns.Goals as goal

pub returns : goal.returns
returns c = let r = c.args.self.now in add-one _ ∙ ap suc (sym (size_left r.rest.now r.error r.end))
