-- What a text in memory that grows tells.
use Rattle.std.specs.Prelude.{Some, length}
use Rattle.lp_write.specs.Sinks.{Told}
use Rattle.lp_emit.specs.declared.growing.GrowingSink.{GrowingSink}

abbrev pub told_of : GrowingSink → Told
told_of s = record { held = Some s.bytes.items; taken = Some (length s.bytes.items); faults = s.faults }
