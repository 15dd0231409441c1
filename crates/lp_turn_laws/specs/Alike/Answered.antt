-- How a definition answers by tables, in how many steps, and after which calls of user code.
use Rattle.std.specs.Prelude.{◌≡◌, ℕ, ◌+◌, ◌*◌, ◌<◌, ◌≤◌, ℤ, pos, zero, suc, negsuc, List, [], ◌∷◌, ◌++◌, length, map, Option, Some, None, Bool, true, false, is_some, Result, Ok, Err}
use Rattle.lp_repr.specs.declared.lr1.Lr1State.{Lr1State}
use Rattle.lp_repr.specs.declared.numbering.SymbolNumber.{SymbolNumber}
use Rattle.lp_repr.specs.declared.numbering.SymbolNumber.TheVariants as by_number
use Rattle.lp_repr.specs.declared.repr.Grammar.{Grammar}
use Rattle.lp_repr.specs.declared.values.Loc.{Loc}
use Rattle.lp_repr.specs.declared.values.Loc.TheVariants.{Default}
use Rattle.lp_repr.specs.declared.values.Recovery.{Recovery}
use Rattle.lp_repr.specs.declared.values.RunItem.{RunItem}
use Rattle.lp_driver.specs.DriverState.{last_of}
use Rattle.lp_driver.specs.Questions.{Answers, To_triple, Start_location, Start_state, Token_to_index, Action, Error_action, Eof_action, Goto, Token_to_symbol, Expected, Uses_recovery, Error_symbol, Reduce, Simulate_reduce, Reduced, Said, Says, Halts, Spent}
use Rattle.lp_driver.specs.Values.{Text, Token, Spanned, Value, Failure, Recovered, Gives, Fails}
use Rattle.lp_machine.specs.declared.calls.Acted.{Acted}
use Rattle.lp_machine.specs.declared.calls.Call.{Call}
use Rattle.lp_machine.specs.declared.lookup.Act.{Act}
use Rattle.lp_machine.specs.declared.lookup.Act.TheVariants.{Shift, ReduceBy, NoAction}
use Rattle.lp_machine.specs.declared.lookup.Rule.{Rule}
use Rattle.lp_machine.specs.ExpectedList.{action_on_error, goto_from}
use Rattle.lp_machine.specs.ReductionSpan.{below, popped, empty_place, span}
use Rattle.lp_machine.specs.TableAnswers.{located_item, simulated_by}
use Rattle.lp_machine.specs.Tables.{Tables}
use Rattle.lp_turn_laws.specs.Paths.Standing.{IsOnPath, IsReducible}
use Rattle.lp_turn_laws.specs.Paths.Walks.{IsPath}
use Rattle.lp_turn_laws.specs.Alike.Looks.{begun, looks, IsComplete}
use Rattle.lp_turn_laws.specs.Alike.Symbols.{AreAlike}

-- a list begins with another
abbrev pub IsFront : {A : Type 0} → List A → List A → Type 0
IsFront {A} xs ys = (rest : List A) × (ys ≡ xs ++ rest)

-- the driver's number for what a state does
abbrev pub entry : Act → ℤ
entry NoAction = pos zero
entry (Shift to) = pos (suc to)
entry (ReduceBy p) = negsuc p

-- an answer after these calls within so many steps, or a halt for want of these
pub data Answered {D U A : Type 0} (left : D → ℕ) (seen : D → List U) (Ready : D → Type 0) (d : D) (most : ℕ) (calls : List U) (Good : A → Type 0) : Said A D → Type 0 where
  Tells : (x : A) (after : D) → Ready after → left d ≤ left after + most → seen after ≡ calls → Good x → Answered left seen Ready d most calls Good (Says x after)
  Lacks : (after : D) → left d < most → IsFront (seen after) calls → Answered left seen Ready d most calls Good (Halts Spent after)

-- an expected list is what so many looks find; a halt comes for want of the steps of looks that don't complete it
pub data Listed {D U : Type 0} (left : D → ℕ) (seen : D → List U) (t : Tables) (cost : ℕ) (stack : List ℕ) (d : D) : Said (List Text) D → Type 0 where
  Lists : (n : ℕ) (names : List Text) (after : D) → seen after ≡ seen d → IsComplete t (looks t stack n begun) → names ≡ (looks t stack n begun).found → Listed left seen t cost stack d (Says names after)
  Short : (n : ℕ) (after : D) → left d < cost * (n + 1) → IsFront (seen after) (seen d) → ((k : ℕ) → IsComplete t (looks t stack k begun) → n ≤ k) → Listed left seen t cost stack d (Halts Spent after)

-- with a list it is ready again, after at most the steps of any number of looks that completes the list
abbrev pub Leaves : {D : Type 0} → (D → ℕ) → (D → Type 0) → Tables → ℕ → List ℕ → D → Said (List Text) D → Type 0
Leaves left Ready t cost stack d (Says names after) = Ready after × ((n : ℕ) → IsComplete t (looks t stack n begun) → left d ≤ left after + cost * (n + 1))
Leaves left Ready t cost stack d (Halts why after) = Unit {0}

-- the stacks after a reduction that goes on, with its symbol
pub record GoesOn {S : Type 0} (Is : SymbolNumber → S → Value → Type 0) (t : Tables) (rule : Rule) (stack : List ℕ) (mine : List (Spanned S)) (at : Loc × Loc) (value : Value) (r : Reduced S) : Type 0 where
  pub ending : r.ending ≡ None
  pub symbol : S
  pub is : Is (by_number.Nonterminal rule.nonterminal) symbol value
  pub states : (to : ℕ) → goto_from t (last_of (below rule.length stack)) rule.nonterminal ≡ Some to → r.states ≡ map pos (below rule.length stack ++ to ∷ [])
  pub symbols : r.symbols ≡ below rule.length mine ++ (at.0, symbol, at.1) ∷ []

-- what a reduction gives whose action gave this
abbrev pub IsValued : {S : Type 0} → (SymbolNumber → S → Value → Type 0) → Tables → Rule → List ℕ → List (Spanned S) → Loc × Loc → Value → Reduced S → Bool → Type 0
IsValued Is t rule stack mine at value r true = r.ending ≡ Some (Gives value)
IsValued Is t rule stack mine at value r false = GoesOn Is t rule stack mine at value r

abbrev pub IsResult : {S : Type 0} → (SymbolNumber → S → Value → Type 0) → Tables → Rule → List ℕ → List (Spanned S) → Loc × Loc → Result Value Failure → Reduced S → Type 0
IsResult Is t rule stack mine at (Ok value) r = IsValued Is t rule stack mine at value r rule.is_start
IsResult Is t rule stack mine at (Err f) r = r.ending ≡ Some (Fails f)

-- what the action of a reduction does
abbrev pub acted_on : Tables → Rule → Option Loc → List (Spanned Value) → ℕ → Acted
acted_on t rule start triples made = t.act rule.action (popped rule.length triples) (empty_place start triples, empty_place start triples) made

-- where its symbol stands
abbrev pub span_of : Rule → Option Loc → List (Spanned Value) → Loc × Loc
span_of rule start triples = span (popped rule.length triples) (empty_place start triples)

-- what is asked while an error is mended is answered by the tables too, with the error terminal e
pub record MendsBy {S D U : Type 0} (answers : Answers S D) (left : D → ℕ) (seen : D → List U) (Ready : D → Type 0)
    (g : Grammar) (states : List Lr1State) (t : Tables) (Is : SymbolNumber → S → Value → Type 0) (cost e : ℕ) : Type 0 where
  pub error_action : (stack : List ℕ) (q : ℕ) → IsOnPath states stack → last_of stack ≡ Some q → (d : D) → Ready d
      → Answered left seen Ready d cost (seen d) (λ x. x ≡ entry (action_on_error t (Some q))) (answers (Error_action (pos q)) d)
  pub goto : (stack : List ℕ) (q to nt : ℕ) → IsOnPath states stack → last_of stack ≡ Some q → goto_from t (Some q) nt ≡ Some to → (d : D) → Ready d
      → Answered left seen Ready d cost (seen d) (λ x. x ≡ pos to) (answers (Goto (pos q) nt) d)
  pub simulate : (p : ℕ) (rule : Rule) (stack : List ℕ) → t.rule p ≡ Some rule → (r : IsReducible g states stack rule) → r.production ≡ p → IsOnPath states stack → (d : D) → Ready d
      → Answered left seen Ready d cost (seen d) (λ x. simulated_by (Some rule) ≡ Some x) (answers (Simulate_reduce (pos p)) d)
  pub error_symbol : (r : Recovery) (d : D) → Ready d → Answered left seen Ready d cost (seen d) (λ x. Is (by_number.Terminal e) x (Recovered r)) (answers (Error_symbol r) d)
  pub listed : (stack : List ℕ) → IsOnPath states stack → (d : D) → Ready d → Leaves left Ready t cost stack d (answers (Expected (map pos stack)) d)

-- a definition answers each question by the tables, where its driver may stand: a question costs at most so many steps, an expected list for each look and once more,
-- and a reduction for each call of user code and once more
pub record AnswersBy {S D U : Type 0} (answers : Answers S D) (left : D → ℕ) (seen : D → List U) (Ready : D → Type 0) (told : Call → U)
    (g : Grammar) (states : List Lr1State) (t : Tables) (Is : SymbolNumber → S → Value → Type 0) (Known : Token → Type 0) (cost : ℕ) : Type 0 where
  pub to_triple : (item : RunItem) (d : D) → Ready d → Answered left seen Ready d cost (seen d) (λ x. x ≡ located_item t.is_located item) (answers (To_triple item) d)
  pub start_location : (d : D) → Ready d → Answered left seen Ready d cost (seen d) (λ x. x ≡ Default) (answers Start_location d)
  pub start_state : (d : D) → Ready d → Answered left seen Ready d cost (seen d) (λ x. x ≡ pos 0) (answers Start_state d)
  pub token_to_index : (token : Token) → Known token → (d : D) → Ready d → Answered left seen Ready d cost (seen d) (λ x. x ≡ t.terminal token) (answers (Token_to_index token) d)
  pub action : (stack : List ℕ) (q : ℕ) (token : Token) (i : ℕ) → IsOnPath states stack → last_of stack ≡ Some q → Known token → t.terminal token ≡ Some i → (d : D) → Ready d
      → Answered left seen Ready d cost (seen d) (λ x. x ≡ entry (t.action q i)) (answers (Action (pos q) i) d)
  pub eof_action : (stack : List ℕ) (q : ℕ) → IsOnPath states stack → last_of stack ≡ Some q → (d : D) → Ready d
      → Answered left seen Ready d cost (seen d) (λ x. x ≡ entry (t.at_eof q)) (answers (Eof_action (pos q)) d)
  pub token_to_symbol : (token : Token) (i : ℕ) → Known token → t.terminal token ≡ Some i → (d : D) → Ready d
      → Answered left seen Ready d cost (seen d) (λ x. Is (by_number.Terminal i) x (t.value i token)) (answers (Token_to_symbol i token) d)
  pub uses_recovery : (d : D) → Ready d → Answered left seen Ready d cost (seen d) (λ x. x ≡ is_some t.error) (answers Uses_recovery d)
  pub expected : (stack : List ℕ) → IsOnPath states stack → (d : D) → Ready d → Listed left seen t cost stack d (answers (Expected (map pos stack)) d)
  pub reduce : (p : ℕ) (rule : Rule) (stack : List ℕ) (xs : List SymbolNumber) (mine : List (Spanned S)) (triples : List (Spanned Value)) (start : Option Loc) (calls : List Call)
      → t.rule p ≡ Some rule → (r : IsReducible g states stack rule) → r.production ≡ p → IsPath states stack xs → AreAlike Is xs mine triples → (d : D) → Ready d → seen d ≡ map told calls
      → (let acted = acted_on t rule start triples (length calls) in
      Answered left seen Ready d (cost * (length acted.calls + 1)) (map told (calls ++ acted.calls)) (λ x. IsResult Is t rule stack mine (span_of rule start triples) acted.result x)
      (answers (Reduce (pos p) start (map pos stack) mine) d))
  pub mending : (e : ℕ) → t.error ≡ Some e → MendsBy answers left seen Ready g states t Is cost e
