-- Where a state's function comes to its match on the lookahead, and how it goes on from there.
use Rattle.std.specs.Prelude.{◌≡◌, ◌⊎◌, ℕ, ◌+◌, ◌*◌, ◌<◌, ◌≤◌, true, false, List, [], codes, Option, Err, IsSome, Some, None, length, slice_get}
use Rattle.std.specs.Str.{bytes_eq}
use Rattle.lp_repr.specs.declared.lr1.Lr1State.{Lr1State}
use Rattle.lp_repr.specs.declared.numbering.SymbolNumber.TheVariants.{Nonterminal}
use Rattle.lp_repr.specs.declared.repr.Grammar.{Grammar}
use Rattle.lp_repr.specs.declared.values.RunItem.{RunItem}
use Rattle.lp_driver.specs.Values.{Failure, Spanned, Token}
use Rattle.lp_machine.specs.declared.config.Config.{Config}
use Rattle.lp_machine.specs.declared.config.Left.TheVariants.{Over}
use Rattle.lp_machine.specs.Move.{moves}
use Rattle.lp_machine.specs.RunEnds.{ended}
use Rattle.lp_machine.specs.Tables.{Tables}
use Rattle.lp_core.specs.declared.value.StateType.{StateType}
use Rattle.lp_core.specs.declared.value.Tag.TheVariants as tag
use Rattle.lp_core.specs.CaseMeaning.{chosen}
use Rattle.lp_core.specs.Eval.{count, run, run_call}
use Rattle.lp_core.specs.Flow.{State, Flow, Gives, Returns, Spent, Stuck}
use Rattle.lp_core.specs.OpMeaning.{failure_val}
use Rattle.lp_core.specs.Prefix.{IsPrefix}
use Rattle.lp_core.specs.Reading.{wrapped}
use Rattle.lp_core.specs.Store.{Program, UserCall}
use Rattle.lp_core.specs.Tree.{Tree, Loop, trees_of}
use Rattle.lp_core.specs.Val.{Val}
use Rattle.lp_code_laws.specs.Ends.Ends.{Moment, at}
use Rattle.lp_view.specs.PartLists.{Form}
use Rattle.lp_maker.specs.Making.{Making}
use Rattle.lp_maker.specs.Slots.{Names}
use Rattle.lp_code_laws.specs.Slots.Shows.{Shows}
use Rattle.lp_bodies.specs.Arms.{Gathered}
use Rattle.lp_tree.specs.ProgramTree.{Item}
use Rattle.lp_ascent_bodies.specs.declared.ascent.Lines.{Lines as Shared}
use Rattle.lp_ascent_bodies.specs.AscentArms.{Arming}
use Rattle.lp_ascent_bodies.specs.AscentErrors.{expected_error}
use Rattle.lp_ascent_bodies.specs.AscentReductions.{give_made}
use Rattle.lp_ascent.specs.GotoLines.{goes_on}
use Rattle.lp_ascent.specs.Slots.{is_cell, layouts_of}
use Rattle.lp_turn_laws.specs.Paths.Walks.{edge_at}
use Rattle.lp_back_end_laws.specs.Call.Slots.{layout}
use Rattle.lp_back_end_laws.specs.Call.Frames.{AreSlots, AreApart, Emptied}
use Rattle.lp_back_end_laws.specs.Call.Standing.{as_users, look_val, IsTaken, Sees, Follows, OnTop, Entry, Reduced}
use Rattle.lp_back_end_laws.specs.Call.Law.{Answers, Takes}
use Rattle.lp_back_end_laws.specs.Call.Turns.{Looping, ShowsFrame, Turning, TurnAnswers}
use Rattle.lp_back_end_laws.proofs.Call.ArmBodies.{IsCut}
use Rattle.lp_back_end_laws.proofs.Call.CaseBodies.{arm_body, next_arming}
use Rattle.lp_back_end_laws.proofs.Call.Linked.{IsIn}
use Rattle.lp_back_end_laws.proofs.Call.StateMatch.{error_form}

-- ---- the code
-- the arm of a line: its body is chosen on this lookahead; it was made behind those of the lines before it
pub record ArmAt (p : Program) (g : Grammar) (variant : ℕ → ℕ) (before : Making) (shared : Shared) (names : Names) (arms : Gathered) (many : ℕ) (look : Val) (line : Form) (a : Arming) : Type 0 where
  pub index : ℕ
  pub is : chosen p arms.cases (count (trees_of arms.bodies)) look ≡ Some index
  pub body : slice_get arms.bodies index ≡ Some (arm_body shared line a)
  pub cut : IsCut names a.names
  pub room : (next_arming shared a line).names.next ≤ many
  pub prefix : a.made.prefix ≡ before.prefix
  pub knows : a.made.names ≡ before.names
  pub made : IsIn g p variant (next_arming shared a line).made

-- the arm of the error, which comes last
pub record ErrorAt (p : Program) (g : Grammar) (variant : ℕ → ℕ) (before : Making) (names : Names) (arms : Gathered) (many : ℕ) (look : Val) (below : List Item) (a : Arming) : Type 0 where
  pub index : ℕ
  pub is : chosen p arms.cases (count (trees_of arms.bodies)) look ≡ Some index
  pub body : slice_get arms.bodies index ≡ Some (expected_error a.made a.names (error_form below)).value
  pub cut : IsCut names a.names
  pub room : a.names.next + 2 ≤ many
  pub prefix : a.made.prefix ≡ before.prefix
  pub knows : a.made.names ≡ before.names
  pub made : IsIn g p variant (expected_error a.made a.names (error_form below)).made

-- what follows the match of a state that goes on: its loop where it has a goto, else what was made is given
pub record After (g : Grammar) (states : List Lr1State) (q : ℕ) (s : Lr1State) (shared : Shared) (names : Names) (many : ℕ) (loop : Looping) (after : Option Tree) : Type 0 where
  pub loops : goes_on g (layouts_of g states) s ≡ true → (n to : ℕ) → edge_at states q (Nonterminal n) ≡ Some to → after ≡ Some (Loop loop.turn)
  pub gives : goes_on g (layouts_of g states) s ≡ true → s.gotos.entries ≡ [] → after ≡ Some (give_made shared)
  pub cut : IsCut names loop.names
  pub made : loop.made ≡ shared.made
  pub many_are : loop.many ≡ many

-- ---- the machine and the frame
-- at the match on the lookahead: the frame's own slots are full, and the machine sees the lookahead
pub record AtMatch (g : Grammar) (states : List Lr1State) (t : Tables) (items : List RunItem) (kind : StateType) (keys : List (List ℕ)) (given : List Val) (shared : Shared) (names : Names) (many q : ℕ) (c : Config) (list : ℕ) (own : List Val) (look : Option (Spanned Token)) (m : Moment) : Type 0 where
  pub on_top : OnTop states q c
  pub mending : c.mending ≡ None
  pub look_taken : IsTaken items look
  pub sees : Sees t items c look
  pub follows : Follows c list (at m 0)
  pub own_are : AreSlots (layout g states q) (is_cell (layout g states q)) 0 c.triples m.store.cells own
  pub apart : AreApart own
  -- the names of the lines
  pub many_are : length m.store.env ≡ many
  pub shown : ShowsFrame names m.store.env keys given list own
  pub look_shown : Shows names m.store.env (codes "~lookahead") (look_val look)
  pub look_slot : look_shown.slot ≡ shared.lookahead
  -- the slot of the result has no other name
  pub kind_is : shared.kind ≡ Some kind
  pub result : Val
  pub result_there : slice_get m.store.env shared.made ≡ Some result
  pub result_below : shared.made < names.next
  pub result_apart : (key : List ℕ) (v : Val) → bytes_eq (codes "~result") key ≡ false → (h : Shows names m.store.env key v) → (shared.made ≡ h.slot → ⊥)

-- ---- how it goes on, over the cells of the frame; only a return leaves it
module _ (g : Grammar) (states : List Lr1State) (t : Tables) (items : List RunItem) (variant : ℕ → ℕ) (most : ℕ) where
  pub record MatchResult (s : ℕ) (c : Config) (own : List Val) (st : State) (v : Val) (st' : State) : Type 0 where
    pub made : ℕ
    pub d : ℕ
    pub inner : Val
    pub reduced : Reduced states t items variant s c d inner (moves t items made c)
    pub value : v ≡ wrapped tag.Success inner
    pub takes : Takes s d reduced.rule
    pub cells : Emptied (layout g states s) d own st.store.cells st'.store.cells
    pub taken : st'.store.taken ≡ (moves t items made c).taken
    pub calls : st'.calls ≡ as_users (moves t items made c).calls
    pub steps : st.left + 2 ≤ st'.left + most * (made + 1)

  pub record MatchFails (c : Config) (st : State) (v : Val) (st' : State) : Type 0 where
    pub made : ℕ
    pub failure : Failure
    pub over : (moves t items made c).left ≡ Over (Err failure)
    pub value : v ≡ wrapped tag.Failure (failure_val failure)
    pub calls : st'.calls ≡ as_users (moves t items made c).calls
    pub steps : st.left + 2 ≤ st'.left + most * (made + 1)

  pub record MatchSpent (c : Config) (st : State) (calls : List UserCall) : Type 0 where
    pub made : ℕ
    pub first : IsPrefix calls (as_users (moves t items made c).calls)
    pub early : (k : ℕ) → IsSome (ended (moves t items k c).left) → st.left + 2 < most * (k + 1)

  abbrev pub MatchAnswers : ℕ → Config → List Val → State → Flow → Type 0
  MatchAnswers s c own st (Gives v st') = ⊥
  MatchAnswers s c own st (Returns v st') = MatchResult s c own st v st' ⊎ MatchFails c st v st'
  MatchAnswers s c own st (Spent calls) = MatchSpent c st calls
  MatchAnswers s c own st (Stuck left calls) = ⊥

  -- ---- calls and loops with fewer steps left
  abbrev pub LawBelow : ℕ → Program → (ℕ → ℕ) → List Val → Type 0
  LawBelow n p function given =
      (s : ℕ) (c : Config) (list : ℕ) (slots vs : List Val) (st : State) → st.left < n → Entry g states t items given s c list slots vs st → Answers g states t items variant most s c slots st (run_call p (function s) vs st)

  abbrev pub LoopBelow : ℕ → Program → List (List ℕ) → List Val → (ℕ → Looping) → Type 0
  LoopBelow n p keys given loops =
      (s : ℕ) (c : Config) (list : ℕ) (own : List Val) (now : Config) (st : State) → st.left < n → (h : Turning g states t items variant most keys given (loops s) s c list own now st)
      → TurnAnswers g states t items variant most s c own h.d now st (run p (Loop (loops s).turn) st)
