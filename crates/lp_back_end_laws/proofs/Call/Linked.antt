-- A program with the functions of the states of tables, made where all of them are declared.
use Rattle.std.specs.Prelude.{◌≡◌, ℕ, ◌<◌, List, ◌++◌, length, codes, decimal, Some, slice_get}
use Rattle.lp_repr.specs.Numbering.{nonterminals_of}
use Rattle.lp_repr.specs.declared.lr1.Lr1State.{Lr1State}
use Rattle.lp_repr.specs.declared.repr.Grammar.{Grammar}
use Rattle.lp_repr.specs.declared.repr.NonterminalString.{NonterminalString}
use Rattle.lp_driver.specs.Values.{Text}
use Rattle.lp_core.specs.declared.expr.Function.{Function}
use Rattle.lp_core.specs.declared.value.StateType.{StateType}
use Rattle.lp_core.specs.Store.{Program}
use Rattle.lp_view.specs.PartLists.{Form}
use Rattle.lp_maker.specs.Making.{Making, number_in}
use Rattle.lp_maker.specs.Texts.{state_type_of}
use Rattle.lp_ascent_bodies.specs.AscentStates.{state_fn, with_state_fn}
use Rattle.lp_ascent.specs.AnswerLines.{answer_name}
use Rattle.lp_ascent.specs.Slots.{layouts_of}
use Rattle.lp_ascent.specs.StateLines.{state_with}
use Rattle.lp_table.specs.Starts.{state_text}
use Rattle.lp_back_end_laws.specs.Call.Slots.{layout}
use Rattle.lp_back_end_laws.proofs.Call.Pulls.{HasClosure}

-- the printed function of a state
abbrev pub state_form : Grammar → List Lr1State → ℕ → Lr1State → Form
state_form g states q s = state_with g states (layouts_of g states) q s (layout g states q)

-- what was made stands in a program: its texts and functions under their numbers, and nonterminals have these numbers as variants
pub record IsIn (g : Grammar) (p : Program) (variant : ℕ → ℕ) (m : Making) : Type 0 where
  pub texts : (ts : List Text) × (p.texts ≡ m.texts ++ ts)
  pub functions : (i : ℕ) (f : Function) → slice_get m.functions i ≡ Some (Some f) → slice_get p.functions i ≡ Some f
  pub variants : (n k : ℕ) (name : NonterminalString) → slice_get (nonterminals_of g) n ≡ Some name → number_in (answer_name name) m.variants ≡ Some k → variant n ≡ k

-- the functions of states, of actions and of expected lists have these numbers
pub record HasStates (g : Grammar) (states : List Lr1State) (p : Program) (function action variant : ℕ → ℕ) (kind : StateType) (expected : ℕ) : Type 0 where
  pub kind_is : state_type_of (state_text g states) ≡ Some kind
  -- what was made before the function of a state
  pub maker : ℕ → Making
  pub prefix : (q : ℕ) → q < length states → (maker q).prefix ≡ g.prefix
  pub state_named : (q n : ℕ) → q < length states → n < length states → number_in (codes "state" ++ decimal n) (maker q).names ≡ Some (function n)
  pub action_named : (q n : ℕ) → q < length states → n < length g.action_fn_defns → number_in (codes "super::action" ++ decimal n) (maker q).names ≡ Some (action n)
  pub expected_named : (q : ℕ) → q < length states → number_in (codes "expected") (maker q).names ≡ Some expected
  pub closure : (q : ℕ) → q < length states → HasClosure p (maker q).item_closure
  pub there : (q : ℕ) (s : Lr1State) → slice_get states q ≡ Some s → slice_get p.functions (function q) ≡ Some (state_fn (maker q) (state_form g states q s))
  pub made : (q : ℕ) (s : Lr1State) → slice_get states q ≡ Some s → IsIn g p variant (with_state_fn (state_form g states q s) (maker q))
  -- no two nonterminals are one variant
  pub apart : (i j : ℕ) → i < length (nonterminals_of g) → j < length (nonterminals_of g) → variant i ≡ variant j → i ≡ j
