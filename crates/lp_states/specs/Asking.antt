-- What a closure asks for: nonterminals whose productions it adds, with the lookaheads of these.
use Rattle.std.specs.Prelude.{◌≡◌, ◌⊎◌, ℕ, List, Some, Contains}
use Rattle.std.specs.Ordering.{nat_cmp}
use Rattle.std.specs.BTreeMap as tree
use Rattle.std.specs.BTreeMap.{BTreeMap}
use Rattle.lp_repr.specs.Closure.{next_symbol, HasLeft, InClosure}
use Rattle.lp_repr.specs.declared.numbering.SymbolNumber.TheVariants as symbol
use Rattle.lp_repr.specs.declared.numbering.Rule.{Rule}
use Rattle.lp_repr.specs.declared.lr1.Token.{Token}
use Rattle.lp_repr.specs.declared.lr1.Token.TheVariants.{Terminal}
use Rattle.lp_sets.specs.declared.tokens.TokenSet.{TokenSet}
use Rattle.lp_sets.specs.TokenSets.{HasToken}
use Rattle.lp_sets.specs.FirstSets.{DerivesEmpty, BeginsWith}
use Rattle.lp_states.specs.ItemSets.{InLookaheads, word_after}
use Rattle.lp_states.specs.ItemMaps.{ItemMap, Stands, StandsOn}

-- what was asked for, by nonterminal
abbrev pub AskedMap : Type 0
AskedMap = BTreeMap ℕ TokenSet

-- the token may follow the symbol after the dot of an item with these lookaheads
abbrev pub MayFollow : List Rule → ℕ → ℕ → TokenSet → Token → Type 0
MayFollow rules p d s t =
    ((n : ℕ) × (t ≡ Terminal n) × BeginsWith rules (word_after rules p d) n)
    ⊎ (DerivesEmpty rules (word_after rules p d) × HasToken s t)

-- the nonterminal is asked for, with a set in which the test holds of each token
abbrev pub AsksFor : AskedMap → ℕ → (Token → Type 0) → Type 0
AsksFor sets n On = (s : TokenSet) × (tree.get nat_cmp sets n ≡ Some s) × ((t : Token) → On t → HasToken s t)

-- what an item asks for is there
abbrev pub Covers : List Rule → AskedMap → ℕ → ℕ → TokenSet → Type 0
Covers rules sets p d s = (n : ℕ) → next_symbol rules p d ≡ Some (symbol.Nonterminal n) → AsksFor sets n (MayFollow rules p d s)

-- an item that stands in the closure of a kernel
pub record IsSoundItem (rules : List Rule) (kernel : ItemMap) (p d : ℕ) (s : TokenSet) : Type 0 where
  pub core : InClosure rules (Stands kernel) p d
  pub lookaheads : (t : Token) → HasToken s t → InLookaheads rules (Stands kernel) (StandsOn kernel) p d t

-- each production of what was asked for does so, with its lookaheads
abbrev pub IsSoundAsked : List Rule → ItemMap → AskedMap → Type 0
IsSoundAsked rules kernel sets = (n q : ℕ) (s : TokenSet) → tree.get nat_cmp sets n ≡ Some s → HasLeft rules q n → IsSoundItem rules kernel q 0 s

-- the productions of the nonterminal ask for nothing more
abbrev pub IsSpread : List Rule → AskedMap → ℕ → TokenSet → Type 0
IsSpread rules sets n s = (q : ℕ) → HasLeft rules q n → Covers rules sets q 0 s

-- more was asked for, and what is new stands in the work
pub record Widens (old : AskedMap) (old_work : List ℕ) (new : AskedMap) (new_work : List ℕ) : Type 0 where
  pub grows : (n : ℕ) (s : TokenSet) → tree.get nat_cmp old n ≡ Some s → AsksFor new n (HasToken s)
  pub changed : (n : ℕ) (s : TokenSet) → tree.get nat_cmp new n ≡ Some s → (tree.get nat_cmp old n ≡ Some s) ⊎ Contains new_work n
  pub kept : (n : ℕ) → Contains old_work n → Contains new_work n

-- each nonterminal is spread or stands in the work
abbrev pub IsSpreadOrWork : List Rule → AskedMap → List ℕ → Type 0
IsSpreadOrWork rules sets work = (n : ℕ) (s : TokenSet) → tree.get nat_cmp sets n ≡ Some s → IsSpread rules sets n s ⊎ Contains work n
