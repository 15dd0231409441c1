-- Texts of one grammar by both back ends.
use Rattle.std.specs.Prelude.{◌≡◌, ℕ, List, length, All, Some, slice_get}
use Rattle.lp_repr.specs.declared.lr1.StartStates.{StartStates}
use Rattle.lp_repr.specs.declared.repr.Algorithm.{Algorithm}
use Rattle.lp_repr.specs.declared.repr.Grammar.{Grammar}
use Rattle.lp_repr.specs.declared.repr.NonterminalString.{NonterminalString}
use Rattle.lp_repr.specs.declared.values.RunItem.{RunItem}
use Rattle.lp_driver.specs.Values.{Text, Ending}
use Rattle.lp_core.specs.Store.{UserCall}
use Rattle.lp_run.specs.ProgramRun.{Ended}
use Rattle.lp_run.specs.RunTold.{RunsProgram}
use Rattle.lp_program.specs.Choosing.{IsProgramOf}
use Rattle.lp_tree.specs.declared.tree.Program.{Program}
use Rattle.lp_write.specs.declared.rust.Options.{Options}
use Rattle.lp_agrees.specs.Machine.{MatchesOne}
use Rattle.lp_emit.specs.Texts.{IsEmission}

-- two runs of a parser ended alike
pub record AreAlike (e other : Ending) (calls others : List UserCall) : Type 0 where
  pub same_ending : e ≡ other
  pub same_calls : calls ≡ others

-- the texts that are emitted of one grammar and its states by these kinds of code: where runs of both end, they make the same calls of user code, in order and with the same arguments and spans, and end with the same value or
-- the same error, its place and its expected list included
abbrev pub BackEndsAgree : Type 0
BackEndsAgree =
    (g : Grammar) (code other_code : Algorithm) (states : List StartStates) (options other_options : Options) (text other : List ℕ)
    → IsEmission (record g { algorithm = code }) states options text → IsEmission (record g { algorithm = other_code }) states other_options other
    → (i : ℕ) (names : NonterminalString × NonterminalString) (list : StartStates) → slice_get g.start_nonterminals.entries i ≡ Some names → slice_get states i ≡ Some list
    → (items : List RunItem) (params : List Text) (failing : List ℕ) (budget other_budget : ℕ) → length params ≡ length g.parameters → All (MatchesOne g) items
    → (read other_read : Program) → IsProgramOf text read → IsProgramOf other other_read
    → (e other_end : Ending) (calls others : List UserCall) (steps other_steps : ℕ) → RunsProgram read names.0.0 items params failing budget (Ended e calls steps) → RunsProgram other_read names.0.0 items params failing other_budget (Ended other_end others other_steps)
    → AreAlike e other_end calls others
