-- Runs of the stack machine over a grammar's tables, told in the words of a program's run.
use Rattle.std.specs.Prelude.{◌≡◌, ℕ, List, Option, Some, slice_get}
use Rattle.lp_repr.specs.declared.lr1.Lr1State.{Lr1State}
use Rattle.lp_repr.specs.declared.repr.Grammar.{Grammar}
use Rattle.lp_repr.specs.declared.values.RunItem.{RunItem}
use Rattle.lp_repr.specs.declared.values.RunItem.TheVariants as item
use Rattle.lp_driver.specs.declared.answers.Expecting.{Expecting}
use Rattle.lp_driver.specs.Values.{Text, Token}
use Rattle.lp_core.specs.Store.{UserCall}
use Rattle.lp_machine.specs.declared.calls.Call.{Call}
use Rattle.lp_machine.specs.declared.config.Config.{Config}
use Rattle.lp_machine.specs.declared.lookup.KnownTerminal.{KnownTerminal}
use Rattle.lp_machine.specs.GrammarTables.{grammar_tables, known_among}
use Rattle.lp_machine.specs.Move.{moves}
use Rattle.lp_machine.specs.Moves.{first}

-- a call of user code as a program makes it
abbrev pub as_user : Call → UserCall
as_user c = record { number = c.number; code = c.code; params = c.params; args = c.args; place = c.place }

-- the machine over these states, with these values of the parameters and calls that fail, after so many moves
abbrev pub at : Grammar → List Lr1State → Expecting → List RunItem → List Text → List ℕ → ℕ → Config
at g states expecting items params failing m =
    let t = grammar_tables g states expecting params failing in moves t items m (first t items)

-- the terminal of this number has the token's form
pub record IsMatched (g : Grammar) (token : Token) (i : ℕ) : Type 0 where
  pub terminal : KnownTerminal
  pub there : slice_get (known_among g g.terminals.all) i ≡ Some terminal
  pub form : terminal.form ≡ token.form

-- a token matches at most one terminal
abbrev pub MatchesOne : Grammar → RunItem → Type 0
MatchesOne g (item.Fault name) = Unit {0}
MatchesOne g (item.Token a token b) = (i j : ℕ) → IsMatched g token i → IsMatched g token j → i ≡ j
