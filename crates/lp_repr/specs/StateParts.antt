-- The parts of a state.
use Rattle.std.specs.Prelude.{◌≡◌, ◌≢◌, ℕ, ◌<◌, ◌≤◌, Bool, List, [], ◌∷◌, ◌++◌, map, length, take, drop, Option, Some, None, unwrap_or, nat_lt, if◌then◌else◌, slice_get}
use Rattle.std.specs.Option.{option_map}
use Rattle.std.specs.BTreeMap.{values}
use Rattle.lp_repr.specs.Numbering.{productions_of}
use Rattle.lp_repr.specs.declared.repr.Grammar.{Grammar}
use Rattle.lp_repr.specs.declared.repr.Production.{Production}
use Rattle.lp_repr.specs.declared.repr.NonterminalString.{NonterminalString}
use Rattle.lp_repr.specs.declared.repr.Symbol.{Symbol}
use Rattle.lp_repr.specs.declared.lr1.Item.{Item}
use Rattle.lp_repr.specs.declared.lr1.Lr1State.{Lr1State}

-- the symbols of an item's production, none where no production has the number
abbrev pub symbols_of : Grammar → Item → List Symbol
symbols_of g item = unwrap_or (option_map (λ p. p.symbols) (slice_get (productions_of g) item.production)) []

-- the nonterminal of an item's production
abbrev pub nonterminal_of : Grammar → Item → Option NonterminalString
nonterminal_of g item = option_map (λ p. p.nonterminal) (slice_get (productions_of g) item.production)

-- what stands before the dot of an item
abbrev pub before_dot : Grammar → Item → List Symbol
before_dot g item = take item.index (symbols_of g item)

-- what stands after it
abbrev pub after_dot : Grammar → Item → List Symbol
after_dot g item = drop item.index (symbols_of g item)

-- the item names a production, and its dot stands within it
abbrev pub IsInRange : Grammar → Item → Type 0
IsInRange g item = (item.production < length (productions_of g)) × (item.index ≤ length (symbols_of g item))

-- each item does
abbrev pub AreInRange : Grammar → List Item → Type 0
AreInRange g [] = Unit {0}
AreInRange g (x ∷ xs) = IsInRange g x × AreInRange g xs

-- the longest of some lists, the first of those
abbrev pub longest : List (List Symbol) → List Symbol
longest [] = []
longest (x ∷ xs) = if nat_lt (length x) (length (longest xs)) then longest xs else x

-- x or the shorter y, where an empty one counts for nothing
abbrev pub shorter : List Symbol → List Symbol → List Symbol
shorter [] ys = ys
shorter (x ∷ xs) [] = x ∷ xs
shorter (x ∷ xs) (y ∷ ys) = if nat_lt (length (y ∷ ys)) (length (x ∷ xs)) then y ∷ ys else x ∷ xs

-- the shortest of some lists that is not empty, the first of those, else the empty one
abbrev pub shortest : List (List Symbol) → List Symbol
shortest [] = []
shortest (x ∷ xs) = shorter x (shortest xs)

-- the longest part before a dot
abbrev pub max_prefix_of : Grammar → List Item → List Symbol
max_prefix_of g items = longest (map (before_dot g) items)

-- the shortest part before a dot that is not empty
abbrev pub will_pop_of : Grammar → List Item → List Symbol
will_pop_of g items = shortest (map (before_dot g) items)

-- the item is the first of those with its part before the dot
pub record IsFirstWith (g : Grammar) (items : List Item) (part : List Symbol) (item : Item) : Type 0 where
  pub place : ℕ
  pub at : slice_get items place ≡ Some item
  pub has : before_dot g item ≡ part
  pub first : (k : ℕ) (other : Item) → k < place → slice_get items k ≡ Some other → before_dot g other ≢ part

-- the rest of the first item that has the part that is popped, nothing where there is no item
abbrev pub IsPushed : Grammar → List Item → List Symbol → Type 0
IsPushed g [] rest = rest ≡ []
IsPushed g (x ∷ xs) rest = (item : Item) × IsFirstWith g (x ∷ xs) (will_pop_of g (x ∷ xs)) item × (rest ≡ after_dot g item)

-- the nonterminal of that item, none exactly where there is no item
abbrev pub IsProduced : Grammar → List Item → Option NonterminalString → Type 0
IsProduced g [] name = name ≡ None
IsProduced g (x ∷ xs) name = (item : Item) × IsFirstWith g (x ∷ xs) (will_pop_of g (x ∷ xs)) item × (name ≡ nonterminal_of g item)

-- the targets of the shifts by terminal, then of the gotos
abbrev pub successors_of : Lr1State → List ℕ
successors_of s = values s.shifts ++ values s.gotos
