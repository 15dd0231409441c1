-- What is told of the command and of the source.
use Rattle.std.proofs.Common.{◌≡◌, ◌≢◌, ◌≤◌, ℕ, List, length, Option, Some, None, Result, Ok, Err, IfErr, OnOk, subst, sym}
use Rattle.lp_prepared.specs.Causes.{AreFew, Causes, IsOfFile, IsOfWriting, IsPastReading, ReadsSource, StopsReading}
use Rattle.lp_prepared.specs.declared.command.Command.{Command}
use Rattle.lp_prepared.specs.declared.file.Stop.{Stop}
use Rattle.lp_status.specs.declared.status.Status.{Status}
use Rattle.lp_status.specs.declared.status.Status.TheVariants as status

-- where reading is past, there is a command
past_command : (command : Option Command) (left : Option (List ℕ)) → IsPastReading command left → command ≢ None
past_command None left p = λ _. p
past_command (Some command) left p = λ e. cc

reads_command : (command : Option Command) → ReadsSource command → command ≢ None
reads_command None r = λ _. r
reads_command (Some command) r = λ e. cc

caused_file : (command : Option Command) (left : Option (List ℕ)) (old new : ℕ) (s : Status) → IsPastReading command left → IsOfFile s → Causes command left old new s
caused_file command left old new status.Done p o = absurd o
caused_file command left old new status.Usage p o = absurd o
caused_file command left old new (status.Grammar place) p o = p
caused_file command left old new (status.Conflict start path token) p o = p
caused_file command left old new (status.TooManyStates start paths) p o = p
caused_file command left old new (status.Refused error) p o = p
caused_file command left old new (status.TokenLine line) p o = p
caused_file command left old new status.TooLong p o = absurd o
caused_file command left old new status.ReadFault p o = absurd o
caused_file command left old new status.WriteFault p o = absurd o
caused_file command left old new status.Memory p o = past_command command left p

-- of a call that wrote
pub caused_written : (command : Option Command) (left : Option (List ℕ)) (old new : ℕ) (s : Status) → IsPastReading command left → IsOfWriting s → Causes command left old new s
caused_written command left old new status.Done p o = p
caused_written command left old new status.WriteFault p o = p
caused_written command left old new status.Usage p o = absurd o
caused_written command left old new (status.Grammar place) p o = absurd o
caused_written command left old new (status.Conflict start path token) p o = absurd o
caused_written command left old new (status.TooManyStates start paths) p o = absurd o
caused_written command left old new (status.Refused error) p o = absurd o
caused_written command left old new (status.TokenLine line) p o = absurd o
caused_written command left old new status.TooLong p o = absurd o
caused_written command left old new status.ReadFault p o = absurd o
caused_written command left old new status.Memory p o = absurd o

caused_reading : (command : Option Command) (left : Option (List ℕ)) (old new : ℕ) (s : Status) → ReadsSource command → StopsReading left old new s → Causes command left old new s
caused_reading command left old new status.TooLong r t = (r, t)
caused_reading command left old new status.ReadFault r t = (r, t)
caused_reading command left old new status.Memory r t = reads_command command r
caused_reading command left old new status.Done r t = absurd t
caused_reading command left old new status.Usage r t = absurd t
caused_reading command left old new (status.Grammar place) r t = absurd t
caused_reading command left old new (status.Conflict start path token) r t = absurd t
caused_reading command left old new (status.TooManyStates start paths) r t = absurd t
caused_reading command left old new (status.Refused error) r t = absurd t
caused_reading command left old new (status.TokenLine line) r t = absurd t
caused_reading command left old new status.WriteFault r t = absurd t

-- the same of calls, by the command that is named
pub file_caused : {A : Type 0} (result : Result A Stop) (named : Option Command) (left : Option (List ℕ)) (old new : ℕ) → IsPastReading named left → IfErr result (λ stop. IsOfFile stop.status) → IfErr result (λ stop. Causes named left old new stop.status)
file_caused (Ok a) named left old new p o = o
file_caused (Err stop) named left old new p o = caused_file named left old new stop.status p o

pub reading_caused : {A : Type 0} (result : Result A Stop) (named : Option Command) (left : Option (List ℕ)) (old new : ℕ) → ReadsSource named → IfErr result (λ stop. StopsReading left old new stop.status) → IfErr result (λ stop. Causes named left old new stop.status)
reading_caused (Ok a) named left old new r t = t
reading_caused (Err stop) named left old new r t = caused_reading named left old new stop.status r t

pub past_reading : {A : Type 0} (result : Result A Stop) (named : Option Command) (left : Option (List ℕ)) → IsPastReading named left → OnOk result (IsPastReading named left)
past_reading (Ok a) named left p = p
past_reading (Err stop) named left p = tt

-- a command that reads, and where it has read
pub reads : (named : Option Command) (command : Command) → named ≡ Some command → ReadsSource (Some command) → ReadsSource named
reads named command e r = subst ReadsSource (sym e) r

pub past : (named : Option Command) (command : Command) (left : Option (List ℕ)) → named ≡ Some command → IsPastReading (Some command) left → IsPastReading named left
past named command left e p = subst (λ (c : Option Command). IsPastReading c left) (sym e) p

pub few : (left : Option (List ℕ)) (read : List ℕ) → ((bytes : List ℕ) → left ≡ Some bytes → read ≡ bytes) → length read ≤ 16777216 → AreFew left
few left read same h = λ bytes e. subst (λ (b : List ℕ). length b ≤ 16777216) (same bytes e) h
