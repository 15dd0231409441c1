use Rattle.std.proofs.Common.{take}
use Rattle.std.specs.Fmt.{HasWritten, IsPlainFormatter}
use Rattle.lp_lines.specs.Blocks.{events_text}
use Rattle.lp_lines.proofs.block.write_events.Given as goal

-- the lines of the calls so far
abbrev pub invariant-loop-event : goal.invariant-loop-event
invariant-loop-event g l =
    IsPlainFormatter l.fn.f → HasWritten g.W.Write.write_str_gives l.fn.f (events_text (take l.event-index l.events)) l.f
