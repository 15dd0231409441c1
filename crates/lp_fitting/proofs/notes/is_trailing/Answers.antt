use Rattle.lp_fitting.proofs.Blanks.{trailing}
use Rattle.lp_fitting.proofs.notes.is_trailing.Goals as goal

pub returns : goal.returns
returns c = trailing c.args.text.now c.trim_start_matches.result.now c.is_comment.result c.trim_start_matches.ensures.matches c.is_comment.ensures
