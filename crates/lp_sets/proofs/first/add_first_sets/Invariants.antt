use Rattle.std.proofs.Common.{◌≡◌, ℕ, ◌<◌, false, Some, slice_get, get_or}
use Rattle.lp_repr.specs.declared.numbering.Rule.{Rule}
use Rattle.lp_sets.specs.Members.{Has}
use Rattle.lp_sets.specs.FirstTables.{first_terminals, AreSoundFirsts}
use Rattle.lp_sets.proofs.first.add_first_sets.Given as goal

-- where nothing was added, the productions so far add nothing
abbrev pub invariant-loop-rule : goal.invariant-loop-rule
invariant-loop-rule l =
    AreSoundFirsts l.rules l.sets.items × (l.grew ≡ false → (p t : ℕ) (r : Rule) → p < l.rule-index → slice_get l.rules p ≡ Some r → Has (first_terminals l.empty l.sets.items r.right) t → Has (get_or l.sets.items r.left 0) t)
