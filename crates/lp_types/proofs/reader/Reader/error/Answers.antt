use Rattle.lp_types.specs.Reading.{same_error, want_of_memory}
use Rattle.lp_types.proofs.reader.Reader.error.Goals as goal

pub returns-in-Ok : goal.returns-in-Ok
returns-in-Ok c = same_error _ c.in-Ok.ensures

pub returns-in-Err : goal.returns-in-Err
returns-in-Err c = want_of_memory
