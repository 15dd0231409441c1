use Rattle.std.proofs.Common.{◌≡◌, ◌+◌, ◌-◌, ◌≤◌, length}
use Rattle.std.specs.Prelude.{min, ◌^◌}
use Rattle.std.specs.List.{flat_map}
use Rattle.lp_repr.specs.Numbering.{productions_of}
use Rattle.lp_repr.proofs.numbering.production_count.Given as goal

-- those so far and those to come
abbrev pub invariant-loop-data : goal.invariant-loop-data
invariant-loop-data l =
    (l.count ≤ 2 ^ 64 - 1) × (min (l.count + length (flat_map (λ d. d.productions) l.data-iterator)) (2 ^ 64 - 1) ≡ min (length (productions_of l.grammar)) (2 ^ 64 - 1))
