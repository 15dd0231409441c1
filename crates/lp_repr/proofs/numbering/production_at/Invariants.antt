use Rattle.std.proofs.Common.{◌≡◌}
use Rattle.std.specs.List.{slice_get, flat_map}
use Rattle.lp_repr.specs.Numbering.{productions_of}
use Rattle.lp_repr.proofs.numbering.production_at.Given as goal

abbrev pub invariant-loop-data : goal.invariant-loop-data
invariant-loop-data l =
    slice_get (flat_map (λ d. d.productions) l.data-iterator) l.left ≡ slice_get (productions_of l.grammar) l.number
