-- What a refusal tells, from what the reader says of it.
use Rattle.std.proofs.Common.{ℕ, List, Result, Ok, Err, IfOk, IfErr}
use Rattle.std.specs.Str.{IsUtf8}
use Rattle.lp_program.specs.Choosing.{IsChosen, IsProgramOf, IsRefused}
use Rattle.lp_program.specs.Reads.{ReadsAs}
use Rattle.lp_program.specs.Starting.{IsBegun}
use Rattle.lp_program.specs.declared.read.reader.ReadFault.{ReadFault}
use Rattle.lp_program.specs.declared.read.reader.ReadFault.TheVariants as fault
use Rattle.lp_tree.specs.declared.tree.Program.{Program}
use Rattle.lp_viable.specs.Misfits.{IsMisfit, TellsMisfit}
use Rattle.lp_viable.proofs.Dead.{refused_is_dead, refused_is_untold}
use Rattle.lp_viable.proofs.Viable.{begun_is_viable}

pub misfit_told : (text : List ℕ) (line : ℕ) → IsUtf8 text → IsRefused text (fault.NoForm line) → IsBegun text (fault.NoForm line) → IsMisfit text line
misfit_told text line u refused begun = record {
  within = begun.0;
  before = begun_is_viable text line u begun;
  dead = λ numbers other v agree program. (refused_is_dead text line u numbers refused other v agree program, refused_is_untold text line u numbers refused other v agree program);
}

fault_told : (text : List ℕ) (why : ReadFault) → IsUtf8 text → IsRefused text why → IsBegun text why → TellsMisfit text why
fault_told text (fault.NoForm line) u refused begun = misfit_told text line u refused begun
fault_told text fault.Memory u refused begun = tt

-- the same of what a call answered
pub tells_misfit : (text : List ℕ) (result : Result Program ReadFault) → IsUtf8 text → IfErr result (IsRefused text) → IfErr result (IsBegun text) → IfErr result (TellsMisfit text)
tells_misfit text (Ok program) u refused begun = tt
tells_misfit text (Err why) u refused begun = fault_told text why u refused begun

pub program_told : (text : List ℕ) (result : Result Program ReadFault) → IfOk result (ReadsAs text) → IfOk result (IsChosen text) → IfOk result (IsProgramOf text)
program_told text (Ok program) reads chosen = (reads, chosen)
program_told text (Err why) reads chosen = tt
