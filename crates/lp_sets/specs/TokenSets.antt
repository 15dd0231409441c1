-- Sets of tokens.
use Rattle.std.specs.Prelude.{◌<◌, ◌↔◌, List, IsTrue, ◌&&◌, ◌||◌, bit_and, bit_or, AllPairs, Contains}
use Rattle.lp_repr.specs.declared.lr1.Token.{Token}
use Rattle.lp_repr.specs.declared.lr1.Token.TheVariants.{Terminal, Eof}
use Rattle.lp_sets.specs.declared.tokens.TokenSet.{TokenSet}
use Rattle.lp_sets.specs.Members.{Has}

-- the token stands in the set
abbrev pub HasToken : TokenSet → Token → Type 0
HasToken s (Terminal n) = Has s.terminals n
HasToken s Eof = IsTrue s.end

-- the tokens of two sets, and those that are in both
abbrev pub union_of : TokenSet → TokenSet → TokenSet
union_of s t = record { terminals = bit_or s.terminals t.terminals; end = s.end || t.end }

abbrev pub common_of : TokenSet → TokenSet → TokenSet
common_of s t = record { terminals = bit_and s.terminals t.terminals; end = s.end && t.end }

-- the order of tokens: terminals by number, the end of input last
abbrev pub IsBefore : Token → Token → Type 0
IsBefore (Terminal m) (Terminal n) = m < n
IsBefore (Terminal m) Eof = Unit {0}
IsBefore Eof t = ⊥

-- the tokens of a set in this order
pub record ListsTokens (s : TokenSet) (tokens : List Token) : Type 0 where
  pub ordered : AllPairs IsBefore tokens
  pub exact : (t : Token) → Contains tokens t ↔ HasToken s t
