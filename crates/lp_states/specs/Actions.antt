-- What the items of a state give, as a list by production and dot.
use Rattle.std.specs.Prelude.{◌≡◌, ◌⊎◌, ℕ, ◌+◌, List, [], ◌∷◌, Some, None, if◌then◌else◌, option_and_then}
use Rattle.std.specs.Ordering.{eq_by_cmp}
use Rattle.std.specs.BTreeMap as tree
use Rattle.std.specs.BTreeMap.{BTreeMap}
use Rattle.std.specs.declared.cmp.Ordering.{Ordering}
use Rattle.lp_repr.specs.Closure.{next_symbol}
use Rattle.lp_repr.specs.declared.numbering.SymbolNumber.{SymbolNumber}
use Rattle.lp_repr.specs.declared.numbering.SymbolNumber.TheVariants as symbol
use Rattle.lp_repr.specs.declared.numbering.Rule.{Rule}
use Rattle.lp_repr.specs.declared.lr1.Item.{Item}
use Rattle.lp_repr.specs.declared.lr1.Token.{Token}
use Rattle.lp_repr.specs.declared.lr1.Token.TheVariants.{Terminal}
use Rattle.lp_repr.specs.contracts.numbering.SymbolNumberOrd.TheImpl as symbol_ord
use Rattle.lp_sets.specs.declared.tokens.TokenSet.{TokenSet}
use Rattle.lp_sets.specs.TokenSets.{HasToken, ListsTokens}
use Rattle.lp_states.specs.ItemMaps.{ItemMap, item_cmp, lookaheads_at, Stands, IsPut}

-- an item with its lookaheads
abbrev pub Entry : Type 0
Entry = (ℕ × ℕ) × TokenSet

-- the item shifts the token, or is reduced on it
abbrev pub ShiftsAt : List Rule → Entry → Token → Type 0
ShiftsAt rules e t = (n : ℕ) × (t ≡ Terminal n) × (next_symbol rules e.0.0 e.0.1 ≡ Some (symbol.Terminal n))

abbrev pub ReducesAt : List Rule → Entry → Token → Type 0
ReducesAt rules e t = (next_symbol rules e.0.0 e.0.1 ≡ None) × HasToken e.1 t

-- one of the items does, two of them do
abbrev pub Shifted : List Rule → List Entry → Token → Type 0
Shifted rules [] t = ⊥
Shifted rules (e ∷ es) t = ShiftsAt rules e t ⊎ Shifted rules es t

abbrev pub Reduced : List Rule → List Entry → Token → Type 0
Reduced rules [] t = ⊥
Reduced rules (e ∷ es) t = ReducesAt rules e t ⊎ Reduced rules es t

abbrev pub ReducedTwice : List Rule → List Entry → Token → Type 0
ReducedTwice rules [] t = ⊥
ReducedTwice rules (e ∷ es) t = (ReducesAt rules e t × Reduced rules es t) ⊎ ReducedTwice rules es t

-- the items have two actions on the token
abbrev pub ActsTwice : List Rule → List Entry → Token → Type 0
ActsTwice rules es t = (Shifted rules es t × Reduced rules es t) ⊎ ReducedTwice rules es t

-- the order of symbols: terminals by number, then nonterminals by number
abbrev pub symbol_cmp : SymbolNumber → SymbolNumber → Ordering
symbol_cmp = (symbol_ord.ghosts).cmp

-- the sets of items that are moved over each symbol
pub record AreMoved (rules : List Rule) (items : ItemMap) (found : BTreeMap SymbolNumber ItemMap) : Type 0 where
  pub ordered : tree.IsOrdered symbol_cmp found
  pub each_ordered : (x : SymbolNumber) (k : ItemMap) → tree.get symbol_cmp found x ≡ Some k → tree.IsOrdered item_cmp k
  pub some : (x : SymbolNumber) (k : ItemMap) → tree.get symbol_cmp found x ≡ Some k → (p : ℕ) × (e : ℕ) × Stands items p e × (next_symbol rules p e ≡ Some x)
  pub all : (x : SymbolNumber) (p e : ℕ) (s : TokenSet) → lookaheads_at items p e ≡ Some s → next_symbol rules p e ≡ Some x → (k : ItemMap) × (tree.get symbol_cmp found x ≡ Some k) × (lookaheads_at k p (e + 1) ≡ Some s)
  pub only : (x : SymbolNumber) (k : ItemMap) (p d : ℕ) (s : TokenSet) → tree.get symbol_cmp found x ≡ Some k → lookaheads_at k p d ≡ Some s → (e : ℕ) × (d ≡ e + 1) × (lookaheads_at items p e ≡ Some s) × (next_symbol rules p e ≡ Some x)

-- one item more, moved over its symbol
pub record IsMovedIn (old new : BTreeMap SymbolNumber ItemMap) (x : SymbolNumber) (p e : ℕ) (s : TokenSet) : Type 0 where
  pub ordered : tree.IsOrdered symbol_cmp new
  pub kernel : ItemMap
  pub kernel_ordered : tree.IsOrdered item_cmp kernel
  pub put : IsPut symbol_cmp old new x kernel
  pub items : (q : ℕ × ℕ) → tree.get item_cmp kernel q ≡ (if eq_by_cmp item_cmp (p, e + 1) q then Some s else option_and_then (λ k. tree.get item_cmp k q) (tree.get symbol_cmp old x))

-- items as a state prints them
abbrev pub ShowsItems : List Entry → List Item → Type 0
ShowsItems [] [] = Unit {0}
ShowsItems [] (i ∷ is) = ⊥
ShowsItems (e ∷ es) [] = ⊥
ShowsItems (e ∷ es) (i ∷ is) =
    ((i.production ≡ e.0.0) × (i.index ≡ e.0.1) × ListsTokens e.1 i.lookahead) × ShowsItems es is
