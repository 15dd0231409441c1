-- What has to hold of a grammar and its states, so that they may be emitted.
use Rattle.std.specs.Prelude.{◌≡◌, ℕ, ◌<◌, ◌≤◌, IsTrue, List, [], length, min, max, fold, Option, Some, None, IfSome, slice_get}
use Rattle.std.specs.BTreeMap.{keys}
use Rattle.lp_repr.specs.Names.{same_nonterminal}
use Rattle.lp_repr.specs.Numbering.{productions_of}
use Rattle.lp_repr.specs.ValidTables.{IsValidTables}
use Rattle.lp_repr.specs.declared.lr1.StartStates.{StartStates}
use Rattle.lp_repr.specs.declared.repr.Grammar.{Grammar}
use Rattle.lp_repr.specs.declared.repr.NonterminalString.{NonterminalString}
use Rattle.lp_texts.specs.TextRules.{TextsMeet}
use Rattle.lp_valid.specs.ValidGrammar.{IsValidGrammar}

-- there is no start
abbrev pub HasNoStart : Grammar → Type 0
HasNoStart g = g.start_nonterminals.entries ≡ []

-- the greatest of a number and of the lengths of some lists of states
abbrev pub greatest_of : ℕ → List StartStates → ℕ
greatest_of n states = fold (λ most list. max most (length list.states)) n states

-- what the integers that number states have to hold: the productions, counted up to the greatest number,
-- and the states of each start
abbrev pub greatest_count : Grammar → List StartStates → ℕ
greatest_count g states = greatest_of (min (length (productions_of g)) 18446744073709551615) states

-- the counts fit
abbrev pub CountsFit : Grammar → List StartStates → Type 0
CountsFit g states = greatest_count g states ≤ 2147483647

-- a start has a list under its name that is not empty, and where there is no start there is no list
abbrev pub HasItsList : Option NonterminalString → Option StartStates → Type 0
HasItsList None None = Unit {0}
HasItsList None (Some list) = ⊥
HasItsList (Some name) None = ⊥
HasItsList (Some name) (Some list) = IsTrue (same_nonterminal list.start name) × (0 < length list.states)

-- the start and the list of this number fit: starts are numbered by key order
abbrev pub IsListed : Grammar → List StartStates → ℕ → Type 0
IsListed g states start = HasItsList (slice_get (keys g.start_nonterminals) start) (slice_get states start)

-- and the tables in its list are valid
abbrev pub IsTabled : Grammar → List StartStates → ℕ → Type 0
IsTabled g states start = IsListed g states start × IfSome (slice_get states start) (λ list. IsValidTables g start list.states)

-- each start has its list, whose tables are valid, and there are no more lists
abbrev pub AreTabled : Grammar → List StartStates → Type 0
AreTabled g states = (start : ℕ) → IsTabled g states start

-- there is a start, the grammar is valid, the counts fit, the tables are valid, and each text meets its rule
pub record IsEmittable (g : Grammar) (states : List StartStates) : Type 0 where
  pub start : ¬ HasNoStart g
  pub valid : IsValidGrammar g
  pub counts : CountsFit g states
  pub tabled : AreTabled g states
  pub texts : TextsMeet g
