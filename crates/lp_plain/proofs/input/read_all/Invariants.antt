use Rattle.std.proofs.Common.{◌≡◌, ◌-◌, ◌≤◌, vec_len}
use Rattle.lp_write.specs.Sinks.{preceded}
use Rattle.lp_plain.proofs.input.read_all.Given as goal

-- what was left is what was taken and what is left now
abbrev pub invariant-loop-chunk : goal.invariant-loop-chunk
invariant-loop-chunk g l =
    let source = g.S.Source in
    (source.left l.fn.source ≡ preceded l.bytes.items (source.left l.source))
    × (source.faults l.fn.source ≤ source.faults l.source)

abbrev pub decreases-loop-chunk : goal.decreases-loop-chunk
decreases-loop-chunk g l = 16777217 - vec_len l.bytes
