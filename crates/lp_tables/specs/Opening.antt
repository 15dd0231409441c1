-- The nonterminals that a closure opens: those before which a dot stands in it.
use Rattle.std.specs.Prelude.{◌≡◌, ◌↔◌, ℕ, ◌<◌, Bool, false, List, Some, IsTrue, slice_index_or}
use Rattle.lp_repr.specs.Closure.{next_symbol, HasLeft, HasItem}
use Rattle.lp_repr.specs.ValidTables.{IsClosureOf}
use Rattle.lp_repr.specs.declared.lr1.Item.{Item}
use Rattle.lp_repr.specs.declared.lr1.Lr1State.{Lr1State}
use Rattle.lp_repr.specs.declared.numbering.Rule.{Rule}
use Rattle.lp_repr.specs.declared.numbering.SymbolNumber.TheVariants.{Nonterminal}

-- the second nonterminal stands first in a production of the first one
abbrev pub Leads : List Rule → ℕ → ℕ → Type 0
Leads rules n m = (q : ℕ) × HasLeft rules q n × (next_symbol rules q 0 ≡ Some (Nonterminal m))

-- the least set that holds the first ones and, with each nonterminal, those to which it leads
pub data Opens (rules : List Rule) (First : ℕ → Type 0) : ℕ → Type 0 where
  first : (n : ℕ) → First n → Opens rules First n
  onward : (n m : ℕ) → Opens rules First n → Leads rules n m → Opens rules First m

-- the nonterminal follows a dot that isn't first
abbrev pub FollowsKernel : List Rule → List Item → ℕ → Type 0
FollowsKernel rules items n = (p : ℕ) × (d : ℕ) × HasItem items p d × (0 < d) × (next_symbol rules p d ≡ Some (Nonterminal n))

-- of the nonterminals that have productions, those that are opened are marked
abbrev pub AreOpened : List Rule → (ℕ → Type 0) → List Bool → Type 0
AreOpened rules First marks = (q n : ℕ) → HasLeft rules q n → IsTrue (slice_index_or marks n false) ↔ Opens rules First n

-- the production stands under a marked nonterminal
abbrev pub IsOpenedAt : List Rule → List Bool → ℕ → Type 0
IsOpenedAt rules marks q = (n : ℕ) × HasLeft rules q n × IsTrue (slice_index_or marks n false)

-- the items with the dot first are exactly the productions of the marked nonterminals
abbrev pub BeginsOpened : List Rule → List Bool → List Item → Type 0
BeginsOpened rules marks items = (q : ℕ) → HasItem items q 0 ↔ IsOpenedAt rules marks q

-- the state is the closure of those of its items that have a symbol before the dot
abbrev pub IsClosed : List Rule → Lr1State → Type 0
IsClosed rules s = IsClosureOf rules (λ p d. HasItem s.items p d × (0 < d)) s
