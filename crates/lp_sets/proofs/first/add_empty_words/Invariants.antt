use Rattle.std.proofs.Common.{◌≡◌, ℕ, ◌<◌, true, false, Some, slice_get}
use Rattle.lp_repr.specs.declared.numbering.Rule.{Rule}
use Rattle.lp_sets.specs.Members.{Has}
use Rattle.lp_sets.specs.FirstTables.{vanishes, IsSoundEmpty}
use Rattle.lp_sets.proofs.first.add_empty_words.Given as goal

-- where nothing was added, the productions so far add nothing
abbrev pub invariant-loop-rule : goal.invariant-loop-rule
invariant-loop-rule l =
    IsSoundEmpty l.rules l.empty × (l.grew ≡ false → (p : ℕ) (r : Rule) → p < l.rule-index → slice_get l.rules p ≡ Some r → vanishes l.empty r.right ≡ true → Has l.empty r.left)
