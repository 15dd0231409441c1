-- What a call that writes lines appends, and where it stands when it stops early.
use Rattle.std.specs.Prelude.{◌≡◌, ℕ, ◌-◌, ◌≤◌, List, ◌++◌, length, take, drop, Result, Ok, Err}
use Rattle.lp_write.specs.Sinks.{Told, Took, Rose}
use Rattle.lp_write.specs.Lines.{Line, lines_bytes, next_bytes, indent_after_all}
use Rattle.lp_write.specs.declared.rust.RustWrite.{RustWrite}
use Rattle.lp_write.specs.declared.rust.Options.{Options}
use Rattle.lp_write.specs.declared.sinks.Failed.{Failed}
use Rattle.lp_write.specs.declared.rust.WriteError.{WriteError}
use Rattle.lp_write.specs.declared.rust.WriteError.TheVariants.{Fault, Memory}

-- the sink of a writer
abbrev pub sink_of : {W : Type 0} → RustWrite W → W
sink_of w = w.write

-- the indent of a writer
abbrev pub indent_of : {W : Type 0} → RustWrite W → ℕ
indent_of w = w.indent

-- the options of a writer
abbrev pub options_of : {W : Type 0} → RustWrite W → Options
options_of w = w.options

-- what a writer means: what its sink tells, its indent and its options
pub record Writing : Type 0 where
  pub told : Told
  pub indent : ℕ
  pub options : Options

-- what this writer means, with what its sink tells
abbrev pub writing : {W : Type 0} → (W → Told) → RustWrite W → Writing
writing told w = record { told = told (sink_of w); indent = indent_of w; options = options_of w }

-- these lines were appended, all of them
pub record AppendsAll (old new : Writing) (lines : List Line) : Type 0 where
  pub took : Took old.told new.told (lines_bytes old.options.whitespace old.indent lines)
  pub indent : new.indent ≡ indent_after_all old.indent lines
  pub options : new.options ≡ old.options

-- some of these lines were appended whole, and of the next one less than all of its bytes; the
-- indent is the one after the whole lines
pub record AppendsPart (old new : Writing) (lines : List Line) : Type 0 where
  pub whole : ℕ
  pub part : ℕ
  pub fits : whole ≤ length lines
  pub short : part ≤ length (next_bytes old.options.whitespace new.indent (drop whole lines)) - 1
  pub took : Took old.told new.told
      (lines_bytes old.options.whitespace old.indent (take whole lines)
      ++ take part (next_bytes old.options.whitespace new.indent (drop whole lines)))
  pub indent : new.indent ≡ indent_after_all old.indent (take whole lines)
  pub options : new.options ≡ old.options

-- the same, and the sink's count of faults rose
pub record Faults (old new : Writing) (lines : List Line) : Type 0 where
  pub part : AppendsPart old new lines
  pub rose : Rose old.told.faults new.told.faults

-- how a call that writes ends: all is written, a write failed, or memory was wanting
pub data Ending : Type 0 where
  complete : Ending
  faulted : Ending
  wanting : Ending

-- a call that was to append these lines ended so
abbrev pub Writes : Ending → Writing → Writing → List Line → Type 0
Writes complete old new lines = AppendsAll old new lines
Writes faulted old new lines = Faults old new lines
Writes wanting old new lines = AppendsPart old new lines

-- how a call ended that takes no memory
abbrev pub ending : Result (Unit {0}) Failed → Ending
ending (Ok done) = complete
ending (Err failed) = faulted

-- how a call ended that takes memory
abbrev pub error_ending : WriteError → Ending
error_ending Fault = faulted
error_ending Memory = wanting

abbrev pub write_ending : Result (Unit {0}) WriteError → Ending
write_ending (Ok done) = complete
write_ending (Err error) = error_ending error
