use Rattle.std.proofs.Common.{◌≡◌, ◌≤◌, drop, length}
use Rattle.std.specs.List.{position_from}
use Rattle.std.specs.BTreeMap.{get}
use Rattle.lp_repr.specs.Names.{same_text}
use Rattle.lp_lower.specs.Naming.{text_cmp}
use Rattle.lp_lower.proofs.names.rule_numbers.Given as goal

-- the names from this number on
abbrev pub invariant-loop-number : goal.invariant-loop-number
invariant-loop-number l =
    (l.number ≤ length l.rules) × ((q : _) → get text_cmp l.numbers q ≡ position_from (λ r. same_text r.name.0 q) l.number (drop l.number l.rules))

abbrev pub decreases-loop-number : goal.decreases-loop-number
decreases-loop-number l = l.number
