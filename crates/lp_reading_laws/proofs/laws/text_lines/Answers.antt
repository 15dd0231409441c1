use Rattle.lp_reading_laws.proofs.Texts.Existing.{lines_exist, lines_are_these}
use Rattle.lp_reading_laws.proofs.laws.text_lines.Goals as goal

pub returns-clause-exist : goal.returns-clause-exist
returns-clause-exist c = lines_exist

pub returns-clause-these : goal.returns-clause-these
returns-clause-these c = lines_are_these
