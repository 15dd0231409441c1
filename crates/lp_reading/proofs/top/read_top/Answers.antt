use Rattle.std.proofs.Common.{ap}
use Rattle.lp_reading.specs.Tops.{top_by}
use Rattle.lp_types.specs.Left.{left}
use Rattle.lp_types.proofs.Steps.{answers_as}
use Rattle.lp_reading.proofs.top.read_top.Goals as goal

pub returns-in-File : goal.returns-in-File
returns-in-File c = answers_as _ _ _ _ _ c.read_file.ensures (ap (λ want. top_by want (left c.args.reader.now)) c.in-File.is)

pub returns-in-Pattern : goal.returns-in-Pattern
returns-in-Pattern c = answers_as _ _ _ _ _ c.read_pattern.ensures (ap (λ want. top_by want (left c.args.reader.now)) c.in-Pattern.is)

pub returns-in-TypeRef : goal.returns-in-TypeRef
returns-in-TypeRef c = answers_as _ _ _ _ _ c.read_type.ensures (ap (λ want. top_by want (left c.args.reader.now)) c.in-TypeRef.is)

pub returns-in-Clauses : goal.returns-in-Clauses
returns-in-Clauses c = answers_as _ _ _ _ _ c.read_clauses.ensures (ap (λ want. top_by want (left c.args.reader.now)) c.in-Clauses.is)
