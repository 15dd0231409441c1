-- Configurations of the stack machine whose stacks are paths, and what is left of them.
use Rattle.std.specs.Prelude.{◌≡◌, ℕ, ◌-◌, ◌≤◌, List, [], ◌∷◌, ◌++◌, length, drop, Option, Some, false, slice_get}
use Rattle.lp_repr.specs.Numbering as by_rule
use Rattle.lp_repr.specs.declared.numbering.Rule as by_symbols
use Rattle.lp_repr.specs.declared.numbering.SymbolNumber.{SymbolNumber}
use Rattle.lp_repr.specs.declared.numbering.SymbolNumber.TheVariants as symbol
use Rattle.lp_repr.specs.declared.lr1.Lr1State.{Lr1State}
use Rattle.lp_repr.specs.declared.lr1.Token.TheVariants.{Terminal, Eof}
use Rattle.lp_repr.specs.declared.repr.Grammar.{Grammar}
use Rattle.lp_driver.specs.DriverState.{last_of}
use Rattle.lp_machine.specs.declared.lookup.Rule.{Rule}
use Rattle.lp_machine.specs.declared.config.Lookahead.{Lookahead}
use Rattle.lp_machine.specs.declared.config.Left.{Left}
use Rattle.lp_machine.specs.declared.config.Left.TheVariants.{Pulls, Shifts, Calls, Reduces, Tries, Simulates, Looks, Checks, Drops, Over}
use Rattle.lp_machine.specs.declared.config.Config.{Config}
use Rattle.lp_machine.specs.GrammarTables.{rules_of}
use Rattle.lp_machine.specs.ExpectedList.{goto_from}
use Rattle.lp_machine.specs.ReductionSpan.{below}
use Rattle.lp_machine.specs.Lookup.{act_at, goto_at}
use Rattle.lp_machine.specs.Tables.{Tables}
use Rattle.lp_turn_laws.specs.Paths.Walks.{edge_at, Has, IsPath}

-- the tables look up states and productions in these
pub record LooksUp (g : Grammar) (states : List Lr1State) (t : Tables) : Type 0 where
  pub action : (s i : ℕ) → t.action s i ≡ act_at states s (Terminal i)
  pub at_eof : (s : ℕ) → t.at_eof s ≡ act_at states s Eof
  pub goto : (s n : ℕ) → t.goto s n ≡ goto_at states s n
  pub rule : (p : ℕ) → t.rule p ≡ slice_get (rules_of g) p

-- a stack is a path, over some symbols
abbrev pub IsOnPath : List Lr1State → List ℕ → Type 0
IsOnPath states stack = (xs : List SymbolNumber) × IsPath states stack xs

-- a stack is a path over as many symbols as there are triples
pub record StandsOn (states : List Lr1State) (stack : List ℕ) (count : ℕ) : Type 0 where
  pub symbols : List SymbolNumber
  pub path : IsPath states stack symbols
  pub same_count : count ≡ length symbols

-- the top state has a complete item of the production that a machine's rule is of
pub record IsReducible (g : Grammar) (states : List Lr1State) (stack : List ℕ) (rule : Rule) : Type 0 where
  pub state : ℕ
  pub top : last_of stack ≡ Some state
  pub production : ℕ
  pub by_symbols : by_symbols.Rule
  pub at : slice_get (by_rule.rules_of g) production ≡ Some by_symbols
  pub known : slice_get (rules_of g) production ≡ Some rule
  pub complete : Has states state production (length by_symbols.right)

-- a reduction that ends no run: its symbols are on top of the stack, and the machine's goto under them leads on
pub record IsMade (states : List Lr1State) (t : Tables) (stack : List ℕ) (xs : List SymbolNumber) (rule : Rule) (right : List SymbolNumber) : Type 0 where
  pub fits : rule.length ≤ length xs
  pub same : drop (length xs - rule.length) xs ≡ right
  pub to : ℕ
  pub goto : goto_from t (last_of (below rule.length stack)) rule.nonterminal ≡ Some to
  pub path : IsPath states (below rule.length stack ++ to ∷ []) (below rule.length xs ++ symbol.Nonterminal rule.nonterminal ∷ [])

-- the top state leads over the lookahead's terminal to this state
pub record IsShift (states : List Lr1State) (stack : List ℕ) (lookahead : Option Lookahead) (to : ℕ) : Type 0 where
  pub state : ℕ
  pub top : last_of stack ≡ Some state
  pub token : Lookahead
  pub ahead : lookahead ≡ Some token
  pub edge : edge_at states state (symbol.Terminal token.index) ≡ Some to

-- the state at this place of a stack leads over a terminal to this state
pub record IsMended (states : List Lr1State) (stack : List ℕ) (place to : ℕ) : Type 0 where
  pub state : ℕ
  pub at : slice_get stack place ≡ Some state
  pub terminal : ℕ
  pub edge : edge_at states state (symbol.Terminal terminal) ≡ Some to

-- what is left can be done on a stack with a lookahead
abbrev pub LeftStands : Grammar → List Lr1State → List ℕ → Option Lookahead → Left → Type 0
LeftStands g states stack lookahead Pulls = Unit {0}
LeftStands g states stack lookahead (Shifts to) = IsShift states stack lookahead to
LeftStands g states stack lookahead (Calls rule calls result) = IsReducible g states stack rule
LeftStands g states stack lookahead (Reduces rule value) = IsReducible g states stack rule × (rule.is_start ≡ false)
LeftStands g states stack lookahead (Tries listing i) = Unit {0}
LeftStands g states stack lookahead (Simulates listing i trial) = IsOnPath states trial
LeftStands g states stack lookahead (Looks places) = Unit {0}
LeftStands g states stack lookahead (Checks place to trial) = IsMended states stack place to × IsOnPath states trial
LeftStands g states stack lookahead Drops = Unit {0}
LeftStands g states stack lookahead (Over result) = Unit {0}

-- the stack is a path with a triple for each symbol, and what is left can be done
pub record IsStanding (g : Grammar) (states : List Lr1State) (c : Config) : Type 0 where
  pub stands : StandsOn states c.states (length c.triples)
  pub left : LeftStands g states c.states c.lookahead c.left
