use Rattle.std.proofs.Common.{◌≡◌, ◌≤◌, drop, length}
use Rattle.std.specs.List.{position_from}
use Rattle.std.specs.BTreeMap.{get}
use Rattle.lp_repr.specs.Names.{same_terminal}
use Rattle.lp_repr.specs.declared.repr.TerminalString.TheVariants.{Bare}
use Rattle.lp_lower.specs.Naming.{text_cmp}
use Rattle.lp_lower.proofs.names.bare_numbers.Given as goal

-- the names from this number on
abbrev pub invariant-loop-number : goal.invariant-loop-number
invariant-loop-number l =
    (l.number ≤ length l.terminals) × ((q : _) → get text_cmp l.numbers q ≡ position_from (λ t. same_terminal t.name (Bare q)) l.number (drop l.number l.terminals))

abbrev pub decreases-loop-number : goal.decreases-loop-number
decreases-loop-number l = l.number
