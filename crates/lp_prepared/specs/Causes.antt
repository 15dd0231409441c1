-- What each status of the tool tells of its words, its source and its sink.
use Rattle.std.specs.Prelude.{◌≡◌, ◌≢◌, ℕ, ◌≤◌, List, length, Option, Some, None}
use Rattle.lp_plain.specs.Front.{IsTooLong}
use Rattle.lp_write.specs.Sinks.{Told, Took, Broke, Rose}
use Rattle.lp_prepared.specs.declared.command.Command.{Command}
use Rattle.lp_prepared.specs.declared.command.Command.TheVariants.{Emit, Run, Make}
use Rattle.lp_status.specs.declared.status.Status.{Status}
use Rattle.lp_status.specs.declared.status.Status.TheVariants.{Done, Usage, TooLong, ReadFault, WriteFault, Memory}

-- a command that reads its source
abbrev pub ReadsSource : Option Command → Type 0
ReadsSource None = ⊥
ReadsSource (Some (Emit options)) = Unit {0}
ReadsSource (Some (Run options)) = Unit {0}
ReadsSource (Some (Make levels)) = ⊥

-- no more bytes were left than are read, where they are told
abbrev pub AreFew : Option (List ℕ) → Type 0
AreFew left = (bytes : List ℕ) → left ≡ Some bytes → length bytes ≤ 16777216

-- the source was read to its end, or the command reads none
abbrev pub IsPastReading : Option Command → Option (List ℕ) → Type 0
IsPastReading None left = ⊥
IsPastReading (Some (Emit options)) left = AreFew left
IsPastReading (Some (Run options)) left = AreFew left
IsPastReading (Some (Make levels)) left = Unit {0}

-- what a status tells of the command and of the source, by the bytes that were left and the counts of
-- faults before and after: its cause, or that none of these causes holds
abbrev pub Causes : Option Command → Option (List ℕ) → ℕ → ℕ → Status → Type 0
Causes command left old new Usage = command ≡ None
Causes command left old new TooLong = ReadsSource command × IsTooLong left
Causes command left old new ReadFault = ReadsSource command × Rose old new
Causes command left old new Memory = command ≢ None
Causes command left old new _ = IsPastReading command left

-- all of an output was written, or a part of it
abbrev pub Written : Told → Told → List ℕ → Status → Type 0
Written old new output Done = Took old new output
Written old new output WriteFault = Broke old new output
Written old new output _ = ⊥

-- a status of a call that wrote
abbrev pub IsOfWriting : Status → Type 0
IsOfWriting Done = Unit {0}
IsOfWriting WriteFault = Unit {0}
IsOfWriting _ = ⊥

-- a status of a call that wrote nothing
abbrev pub IsStop : Status → Type 0
IsStop Done = ⊥
IsStop WriteFault = ⊥
IsStop _ = Unit {0}

-- a status of a source that was not read to its end
abbrev pub IsOfReading : Status → Type 0
IsOfReading TooLong = Unit {0}
IsOfReading ReadFault = Unit {0}
IsOfReading Memory = Unit {0}
IsOfReading _ = ⊥

-- a status that speaks neither of the words nor of the source nor of the sink
abbrev pub IsOfFile : Status → Type 0
IsOfFile Done = ⊥
IsOfFile Usage = ⊥
IsOfFile TooLong = ⊥
IsOfFile ReadFault = ⊥
IsOfFile WriteFault = ⊥
IsOfFile _ = Unit {0}

-- why a source was not read to its end
abbrev pub StopsReading : Option (List ℕ) → ℕ → ℕ → Status → Type 0
StopsReading left old new TooLong = IsTooLong left
StopsReading left old new ReadFault = Rose old new
StopsReading left old new Memory = Unit {0}
StopsReading left old new _ = ⊥
