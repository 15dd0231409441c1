-- Reductions on stacks of states, the top last, with the symbols of their paths.
use Rattle.std.specs.Prelude.{◌≡◌, ℕ, ◌-◌, ◌≤◌, List, [], ◌∷◌, ◌++◌, length, take, drop, Some}
use Rattle.lp_driver.specs.DriverState.{last_of}
use Rattle.lp_repr.specs.declared.numbering.Rule.{Rule}
use Rattle.lp_repr.specs.declared.numbering.SymbolNumber.{SymbolNumber}
use Rattle.lp_repr.specs.declared.numbering.SymbolNumber.TheVariants.{Nonterminal}
use Rattle.lp_repr.specs.declared.lr1.Lr1State.{Lr1State}
use Rattle.lp_turn_laws.specs.Paths.Walks.{edge_at, IsPath}

-- how many are left under the last n
abbrev pub under : {A : Type 0} → ℕ → List A → List A
under n xs = take (length xs - n) xs

-- a production's symbols are on top of a stack, and the goto under them is there
pub record IsReduced (states : List Lr1State) (stack : List ℕ) (xs : List SymbolNumber) (r : Rule) : Type 0 where
  pub fits : length r.right ≤ length xs
  pub same : drop (length xs - length r.right) xs ≡ r.right
  pub state : ℕ
  pub top : last_of (under (length r.right) stack) ≡ Some state
  pub to : ℕ
  pub goto : edge_at states state (Nonterminal r.left) ≡ Some to
  pub path : IsPath states (under (length r.right) stack ++ to ∷ []) (under (length r.right) xs ++ Nonterminal r.left ∷ [])
