use Rattle.std.proofs.Common.{◌≡◌, drop}
use Rattle.lp_lower.specs.Places.{least, least_of}
use Rattle.lp_lower.specs.Refusals.{order_places, inline_order}
use Rattle.lp_lower.proofs.refusals.inline_order.Given as goal

-- the least of the place found and those to come
abbrev pub invariant-loop-number : goal.invariant-loop-number
invariant-loop-number l =
    least l.found (least_of (order_places l.names.plain.now l.number (drop l.number l.names.plain.now.rules))) ≡ inline_order l.names.plain.now
