-- Sources and sinks over a reader and a writer of the runtime.
use Rattle.std.specs.Prelude.{ℕ, List, Option, None}
use Rattle.lp_write.specs.Sinks.{Told}
use Rattle.lp_write.specs.declared.standard.StdinSource.{StdinSource}
use Rattle.lp_write.specs.declared.standard.StdoutSink.{StdoutSink}

-- the reader below a source, and how many of its reads failed
abbrev pub reader_of : {R : Type 0} → StdinSource R → R
reader_of s = s.reader

abbrev pub failed_reads : {R : Type 0} → StdinSource R → ℕ
failed_reads s = s.faults

-- the writer below a sink, and how many of its writes failed
abbrev pub writer_below : {W : Type 0} → StdoutSink W → W
writer_below s = s.writer

abbrev pub failed_writes : {W : Type 0} → StdoutSink W → ℕ
failed_writes s = s.faults

-- no content is told
abbrev pub untold : Option (List ℕ)
untold = None

-- no content and no number are told
abbrev pub only_faults : ℕ → Told
only_faults faults = record { held = untold; taken = None; faults = faults }
