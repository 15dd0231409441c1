-- A source and a sink in memory: what they hold, and how a read and a write go on.
use Rattle.std.specs.Prelude.{ℕ, ◌-◌, Bool, ◌||◌, ◌&&◌, ◌==◌, nat_lt, List, ◌++◌, length, take, drop, min, Some}
use Rattle.std.specs.List.{list_any}
use Rattle.lp_write.specs.Sinks.{Told, counted}
use Rattle.lp_write.specs.declared.memory.MemorySink.{MemorySink}
use Rattle.lp_write.specs.declared.memory.MemorySource.{MemorySource}

-- the bytes held, the room left, the most that a write takes, the numbers of the writes that fail,
-- the number of the next write, and how many failed
pub record Holding : Type 0 where
  pub bytes : List ℕ
  pub room : ℕ
  pub most : ℕ
  pub failing : List ℕ
  pub writes : ℕ
  pub faults : ℕ

-- what a sink in memory holds
abbrev pub holding : MemorySink → Holding
holding s = record {
  bytes = s.bytes.items;
  room = s.room;
  most = s.most;
  failing = s.failing.items;
  writes = s.writes;
  faults = s.faults;
}

-- what a sink tells that holds so
abbrev pub told_by : Holding → Told
told_by s = record { held = Some s.bytes; taken = Some (length s.bytes); faults = s.faults }

-- the number is listed
abbrev pub is_listed : List ℕ → ℕ → Bool
is_listed failing number = list_any (λ k. k == number) failing

-- the next write of this piece fails: it is listed, or there is no room for a piece that isn't empty
abbrev pub fails : Holding → List ℕ → Bool
fails s piece = is_listed s.failing s.writes || (nat_lt 0 (length piece) && s.room == 0)

-- how many bytes of the piece a write takes
abbrev pub takes : Holding → List ℕ → ℕ
takes s piece = min (min (length piece) s.most) s.room

-- after a write that took bytes
abbrev pub after_write : Holding → List ℕ → Holding
after_write s piece = record s {
  bytes = s.bytes ++ take (takes s piece) piece;
  room = s.room - takes s piece;
  writes = counted s.writes;
}

-- after a write that failed
abbrev pub after_fault : Holding → Holding
after_fault s = record s { writes = counted s.writes; faults = counted s.faults }

-- the bytes left, the most that a read gives, the numbers of the reads that fail, the number of the
-- next read, and how many failed
pub record Giving : Type 0 where
  pub left : List ℕ
  pub most : ℕ
  pub failing : List ℕ
  pub reads : ℕ
  pub faults : ℕ

-- what a source in memory has to give
abbrev pub giving : MemorySource → Giving
giving s = record {
  left = drop s.given s.bytes.items;
  most = s.most;
  failing = s.failing.items;
  reads = s.reads;
  faults = s.faults;
}

-- how many bytes a read into a buffer of this length gives
abbrev pub gives : Giving → ℕ → ℕ
gives s room = min (min room s.most) (length s.left)

-- after a read that gave bytes
abbrev pub after_read : Giving → ℕ → Giving
after_read s room = record s { left = drop (gives s room) s.left; reads = counted s.reads }

-- after a read that failed
abbrev pub after_failed_read : Giving → Giving
after_failed_read s = record s { reads = counted s.reads; faults = counted s.faults }
