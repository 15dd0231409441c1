-- The questions that a driver asks of a definition, and how they may be answered.
use Rattle.std.specs.Prelude.{◌≡◌, ℕ, ◌<◌, ◌≤◌, ℤ, List, Option, Bool, true, false, Result, Ok, Err}
use Rattle.lp_repr.specs.declared.values.Loc.{Loc}
use Rattle.lp_repr.specs.declared.values.RunItem.{RunItem}
use Rattle.lp_repr.specs.declared.values.Recovery.{Recovery}
use Rattle.lp_driver.specs.declared.answers.Stop.{Stop}
use Rattle.lp_driver.specs.declared.answers.Stop.TheVariants as stop
use Rattle.lp_driver.specs.declared.answers.Simulated.{Simulated}
use Rattle.lp_driver.specs.Values.{Text, Token, Spanned, Ending}

-- S is the definition's own type of symbols
pub data Question (S : Type 0) : Type 0 where
  To_triple : (item : RunItem) → Question S
  Start_location : Question S
  Start_state : Question S
  Token_to_index : (token : Token) → Question S
  Action : (state : ℤ) (index : ℕ) → Question S
  Error_action : (state : ℤ) → Question S
  Eof_action : (state : ℤ) → Question S
  Goto : (state : ℤ) (nonterminal : ℕ) → Question S
  Token_to_symbol : (index : ℕ) (token : Token) → Question S
  Expected : (states : List ℤ) → Question S
  Uses_recovery : Question S
  Error_symbol : (recovery : Recovery) → Question S
  Reduce : (production : ℤ) (start : Option Loc) (states : List ℤ) (symbols : List (Spanned S)) → Question S
  Simulate_reduce : (production : ℤ) → Question S

-- the stacks after a reduction, and how the parse ends, if it does
pub record Reduced (S : Type 0) : Type 0 where
  pub states : List ℤ
  pub symbols : List (Spanned S)
  pub ending : Option Ending

-- what an answer to a question is
abbrev pub Reply : {S : Type 0} → Question S → Type 0
Reply (To_triple item) = RunItem
Reply Start_location = Loc
Reply Start_state = ℤ
Reply (Token_to_index token) = Option ℕ
Reply (Action state index) = ℤ
Reply (Error_action state) = ℤ
Reply (Eof_action state) = ℤ
Reply (Goto state nonterminal) = ℤ
Reply {S} (Token_to_symbol index token) = S
Reply (Expected states) = List Text
Reply Uses_recovery = Bool
Reply {S} (Error_symbol recovery) = S
Reply {S} (Reduce production start states symbols) = Reduced S
Reply (Simulate_reduce production) = Simulated

-- why there is no answer, want of memory aside
pub data Halt : Type 0 where
  Spent : Halt
  Stuck : Halt

-- an answer or none, and the definition after the question
pub data Said (A D : Type 0) : Type 0 where
  Says : (answer : A) (after : D) → Said A D
  Halts : (why : Halt) (after : D) → Said A D

-- a call gave this, or found no memory
abbrev pub Meets : {T A D : Type 0} → Result T Stop → (T → A) → D → Said A D → Type 0
Meets (Ok x) view after said = said ≡ Says (view x) after
Meets (Err stop.Spent) view after said = said ≡ Halts Spent after
Meets (Err stop.Stuck) view after said = said ≡ Halts Stuck after
Meets (Err stop.Memory) view after said = Unit {0}

-- an answer to this question makes no step
abbrev pub is_free : {S : Type 0} → Question S → Bool
is_free (To_triple item) = true
is_free _ = false

-- An answer lowers the number of steps left, or keeps it where it's free. No call raises it.
-- Spent comes only with none left, and Stuck only where the definition says so.
abbrev pub Lowers : {A D : Type 0} → (D → ℕ) → (D → Bool) → Bool → ℕ → Said A D → Type 0
Lowers left is_stuck true before (Says answer after) = left after ≤ before
Lowers left is_stuck false before (Says answer after) = left after < before
Lowers left is_stuck free before (Halts Spent after) = left after ≡ 0
Lowers left is_stuck free before (Halts Stuck after) = (left after ≤ before) × (is_stuck after ≡ true)

-- what a definition answers, at each question
abbrev pub Answers : Type 0 → Type 0 → Type 0
Answers S D = (q : Question S) → D → Said (Reply q) D

abbrev pub IsLawful : {S D : Type 0} → Answers S D → (D → ℕ) → (D → Bool) → Type 0
IsLawful {S} {D} answers left is_stuck = (q : Question S) (d : D) → Lowers left is_stuck (is_free q) (left d) (answers q d)
