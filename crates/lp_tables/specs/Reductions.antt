-- Reductions of complete items, and tokens that stand once.
use Rattle.std.specs.Prelude.{◌≡◌, ℕ, List, Some, IfSome, IsTrue, length, slice_get}
use Rattle.std.specs.BTreeSet.{BTreeSet}
use Rattle.lp_repr.specs.Closure.{HasItem}
use Rattle.lp_repr.specs.declared.lr1.Item.{Item}
use Rattle.lp_repr.specs.declared.lr1.Token.{Token}
use Rattle.lp_repr.specs.declared.numbering.Rule.{Rule}
use Rattle.lp_tables.specs.ItemSets.{has}

-- the production stands among the items with its dot at the end
abbrev pub IsComplete : List Rule → List Item → ℕ → Type 0
IsComplete rules items p = IfSome (slice_get rules p) (λ rule. HasItem items p (length rule.right))

-- the same of a set
abbrev pub IsCompleteIn : List Rule → BTreeSet (ℕ × ℕ) → ℕ → Type 0
IsCompleteIn rules set p = IfSome (slice_get rules p) (λ rule. IsTrue (has set p (length rule.right)))

-- no token stands at two places
abbrev pub StandOnce : List Token → Type 0
StandOnce tokens = (i j : ℕ) (t : Token) → slice_get tokens i ≡ Some t → slice_get tokens j ≡ Some t → i ≡ j
