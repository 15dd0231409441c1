-- The payloads of the names so far.
use Rattle.std.proofs.Common.{◌≡◌, map, take}
use Rattle.lp_bodies.specs.Tables.{payloads}
use Rattle.lp_bodies.proofs.table.payloads.Given as goal

abbrev pub invariant-loop-name : goal.invariant-loop-name
invariant-loop-name l =
    l.all.items ≡ payloads l.maker.prefix.now l.token l.pattern (map (λ name. name.now) (take l.name-index l.names))
