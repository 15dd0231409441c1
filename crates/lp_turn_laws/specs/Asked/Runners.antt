-- Programs that are asked by the driver, while their questions are answered.
use Rattle.std.specs.Prelude.{◌≡◌, ℕ, List, [], Option}
use Rattle.lp_driver.specs.Questions.{Said}
use Rattle.lp_core.specs.Store.{UserCall, Held}
use Rattle.lp_maker.specs.declared.methods.Methods.{Methods}
use Rattle.lp_turns.specs.Asking.{Asking}
use Rattle.lp_turns.specs.declared.runner.Runner.{Runner}
use Rattle.lp_code_laws.specs.Ends.Ends.{Moment, moment}
use Rattle.lp_turn_laws.specs.Alike.Answered.{Answered}

-- it asks this program by these methods
pub record Asks (asked : Asking) (methods : Methods) (closure : Option ℕ) (d : Runner) : Type 0 where
  pub program : d.asked ≡ asked
  pub by : d.methods ≡ methods
  pub source : d.closure ≡ closure

abbrev pub left : Runner → ℕ
left d = d.left

abbrev pub seen : Runner → List UserCall
seen d = d.calls

-- where a question is asked: no slots, and these cells
abbrev pub asking_over : List Held → Runner → Moment
asking_over cells d = moment (record { env = []; cells = cells; taken = 0 }) d.calls

-- an answer within so many steps without a call of user code, which leaves the program and its methods
abbrev pub Replies : {A : Type 0} → Asking → Methods → Option ℕ → Runner → ℕ → (A → Type 0) → Said A Runner → Type 0
Replies asked methods closure d most Good said = Answered left seen (Asks asked methods closure) d most d.calls Good said
