use Rattle.std.proofs.lemmas.Str.{IsCharBoundary-start}
use Rattle.lp_texts.proofs.code.halt.Goals as goal

pub code_end-requires : goal.code_end-requires
code_end-requires c = IsCharBoundary-start _ c.as_str.utf8
