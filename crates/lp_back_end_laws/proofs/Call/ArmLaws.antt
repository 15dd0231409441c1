-- What the arms of a state's match are to answer, the error's and the loop: with these the law of a call is proved.
use Rattle.std.proofs.Common.{◌≡◌, ◌⊎◌, ℕ, ◌<◌, ◌≤◌, false, List, ◌∷◌, Option, Some, slice_get}
use Rattle.lp_repr.specs.Numbering.{productions_of}
use Rattle.lp_repr.specs.declared.lr1.Lr1State.{Lr1State}
use Rattle.lp_repr.specs.declared.lr1.Token as lr1
use Rattle.lp_repr.specs.declared.lr1.Token.TheVariants.{Terminal}
use Rattle.lp_repr.specs.declared.repr.Grammar.{Grammar}
use Rattle.lp_repr.specs.declared.repr.Production.{Production}
use Rattle.lp_repr.specs.declared.repr.TokenPattern.{TokenPattern}
use Rattle.lp_repr.specs.declared.values.RunItem.{RunItem}
use Rattle.lp_driver.specs.declared.answers.Expecting.TheVariants.{Trial}
use Rattle.lp_driver.specs.Values.{Spanned, Text, Token}
use Rattle.lp_core.specs.declared.value.StateType.{StateType}
use Rattle.lp_core.specs.Eval.{run, run_block}
use Rattle.lp_core.specs.Flow.{State}
use Rattle.lp_core.specs.Store.{Program}
use Rattle.lp_core.specs.Tree.{Tree, Loop, trees_of}
use Rattle.lp_core.specs.Val.{Val}
use Rattle.lp_machine.specs.declared.config.Config.{Config}
use Rattle.lp_machine.specs.declared.lookup.Act.TheVariants.{Shift, ReduceBy, NoAction}
use Rattle.lp_machine.specs.GrammarTables.{grammar_tables}
use Rattle.lp_machine.specs.Lookup.{act_at}
use Rattle.lp_machine.specs.Tables.{Tables}
use Rattle.lp_maker.specs.Slots.{Names}
use Rattle.lp_bodies.specs.Arms.{Gathered}
use Rattle.lp_ascent.specs.CallLines.{call_of}
use Rattle.lp_ascent.specs.ReduceLines.{reduction_arm}
use Rattle.lp_ascent.specs.ShiftLines.{pattern_at, shift_arm}
use Rattle.lp_ascent.specs.Slots.{count_of, layouts_of}
use Rattle.lp_ascent.specs.StateLines.{error_location}
use Rattle.lp_ascent_bodies.specs.declared.ascent.Lines.{Lines as Shared}
use Rattle.lp_ascent_bodies.specs.AscentArms.{Arming}
use Rattle.lp_ascent_bodies.specs.AscentStates.{after_parts, token_match}
use Rattle.lp_code_laws.specs.Ends.Ends.{Moment, at}
use Rattle.lp_back_end_laws.specs.Call.Slots.{layout}
use Rattle.lp_back_end_laws.specs.Call.Standing.{Holds, look_val}
use Rattle.lp_back_end_laws.specs.Call.Turns.{Looping, Turning, TurnAnswers}
use Rattle.lp_back_end_laws.proofs.Call.Acting.{Does, IsUnknown}
use Rattle.lp_back_end_laws.proofs.Call.LoopCode.{LoopCode}
use Rattle.lp_back_end_laws.proofs.Call.Matching.{ArmAt, ErrorAt, After, AtMatch, LawBelow, LoopBelow, MatchAnswers}
use Rattle.lp_back_end_laws.proofs.Call.Setting.{Setting}

module _ {g : Grammar} {start : ℕ} {states : List Lr1State} {params : List Text} {failing : List ℕ} {items : List RunItem} {p : Program} {keys : List (List ℕ)} {given : List Val} {function action variant : ℕ → ℕ} {kind : StateType} {expected most cost : ℕ}
    (setting : Setting g start states params failing items p keys given function action variant kind expected most cost) (loops : ℕ → Looping) where
  abbrev t : Tables
  t = grammar_tables g states Trial params failing

  -- a match, and what follows it
  abbrev pub BlockAnswers : ℕ → Config → List Val → Shared → Gathered → Option Tree → Moment → Val → ℕ → Type 0
  BlockAnswers q c own shared arms after m w left = MatchAnswers g states t items variant most q c own (at m left) (run_block p (trees_of (token_match shared arms ∷ after_parts after)) w (at m left))

  abbrev pub ShiftLaw : ℕ → Type 0
  ShiftLaw n =
      (q : ℕ) (s : Lr1State) → slice_get states q ≡ Some s → (shared : Shared) (names : Names) (arms : Gathered) (many : ℕ) (c : Config) (list : ℕ) (own : List Val) (x : Spanned Token) (m : Moment) → AtMatch g states t items kind keys given shared names many q c list own (Some x) m
      → (h : Holds t c x) (to : ℕ) → act_at states q (Terminal h.index) ≡ Shift to → (pattern : TokenPattern) → pattern_at g h.index ≡ Some pattern
      → (a : Arming) → ArmAt p g variant (setting.code.maker q) shared names arms many (look_val (Some x)) (shift_arm g.prefix (count_of (layout g states q)) pattern (call_of g (layouts_of g states) (layout g states q) to false)) a → (after : Option Tree) → After g states q s shared names many (loops q) after
      → LawBelow g states t items variant most n p function given → LoopBelow g states t items variant most n p keys given loops → (w : Val) (left : ℕ) → left < n → BlockAnswers q c own shared arms after m w left

  abbrev pub ReductionLaw : ℕ → Type 0
  ReductionLaw n =
      (q : ℕ) (s : Lr1State) → slice_get states q ≡ Some s → (shared : Shared) (names : Names) (arms : Gathered) (many : ℕ) (c : Config) (list : ℕ) (own : List Val) (look : Option (Spanned Token)) (m : Moment) → AtMatch g states t items kind keys given shared names many q c list own look m
      → (k : ℕ) (production : Production) → Does states t q c look (ReduceBy k) → slice_get (productions_of g) k ≡ Some production → (tokens : List lr1.Token) (a : Arming)
      → ArmAt p g variant (setting.code.maker q) shared names arms many (look_val look) (reduction_arm g (layout g states q) production tokens) a → (after : Option Tree) → After g states q s shared names many (loops q) after
      → LoopBelow g states t items variant most n p keys given loops → (w : Val) (left : ℕ) → left < n → BlockAnswers q c own shared arms after m w left

  abbrev pub ErrorLaw : Type 0
  ErrorLaw =
      (q : ℕ) (s : Lr1State) → slice_get states q ≡ Some s → (shared : Shared) (names : Names) (arms : Gathered) (many : ℕ) (c : Config) (list : ℕ) (own : List Val) (look : Option (Spanned Token)) (m : Moment) → AtMatch g states t items kind keys given shared names many q c list own look m
      → Does states t q c look NoAction ⊎ IsUnknown t look → (a : Arming) → ErrorAt p g variant (setting.code.maker q) names arms many (look_val look) (error_location (layout g states q)) a → (after : Option Tree) (w : Val) (left : ℕ) → BlockAnswers q c own shared arms after m w left

  abbrev pub TurnLaw : ℕ → Type 0
  TurnLaw n =
      (q : ℕ) (s : Lr1State) → slice_get states q ≡ Some s → LoopCode g states p variant kind (setting.code.maker q) q s (loops q) → LawBelow g states t items variant most n p function given → LoopBelow g states t items variant most n p keys given loops
      → (c : Config) (list : ℕ) (own : List Val) (now : Config) (st : State) (h : Turning g states t items variant most keys given (loops q) q c list own now st) → st.left ≤ n → TurnAnswers g states t items variant most q c own h.d now st (run p (Loop (loops q).turn) st)
