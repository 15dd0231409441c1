-- Expected lists: the terminals with an action in a state, and those whose trial says yes.
use Rattle.std.specs.Prelude.{ℕ, zero, suc, ◌+◌, List, [], ◌∷◌, ◌++◌, length, Option, Some, None, Bool, true, false, nat_lt, if◌then◌else◌}
use Rattle.lp_driver.specs.Values.{Text}
use Rattle.lp_driver.specs.DriverState.{last_of}
use Rattle.lp_machine.specs.declared.lookup.Act.{Act}
use Rattle.lp_machine.specs.declared.lookup.Act.TheVariants.{Shift, ReduceBy, NoAction}
use Rattle.lp_machine.specs.declared.lookup.Rule.{Rule}
use Rattle.lp_machine.specs.Tables.{Tables}
use Rattle.lp_machine.specs.declared.verdict.Verdict.{Verdict}
use Rattle.lp_machine.specs.declared.verdict.Verdict.TheVariants.{Yes, No, GoesOn}
use Rattle.lp_machine.specs.ReductionSpan.{below}

abbrev pub has_action : Act → Bool
has_action NoAction = false
has_action _ = true

module _ (t : Tables) where
  -- what the top state does on a terminal, or at the end of input
  abbrev pub action_on : Option ℕ → Option ℕ → Act
  action_on None terminal = NoAction
  action_on (Some state) None = t.at_eof state
  action_on (Some state) (Some terminal) = t.action state terminal

  -- what the top state does on the error terminal, where errors are mended
  abbrev pub action_on_error_of : Option ℕ → Option ℕ → Act
  action_on_error_of None state = NoAction
  action_on_error_of (Some e) state = action_on state (Some e)

  abbrev pub action_on_error : Option ℕ → Act
  action_on_error state = action_on_error_of t.error state

  abbrev pub pushed : List ℕ → Option ℕ → Verdict
  pushed stack None = No
  pushed stack (Some state) = GoesOn (stack ++ state ∷ [])

  -- the state after the top of a stack and a nonterminal
  abbrev pub goto_from : Option ℕ → ℕ → Option ℕ
  goto_from None nonterminal = None
  goto_from (Some state) nonterminal = t.goto state nonterminal

  -- a reduction takes its states off and pushes the goto; the start's says yes
  abbrev pub reduced_stack : List ℕ → Rule → Verdict
  reduced_stack stack rule = pushed (below rule.length stack) (goto_from (last_of (below rule.length stack)) rule.nonterminal)

  abbrev pub verdict_by_rule : List ℕ → Option Rule → Verdict
  verdict_by_rule stack None = No
  verdict_by_rule stack (Some rule) = if rule.is_start then Yes else reduced_stack stack rule

  abbrev pub verdict_by : List ℕ → Act → Verdict
  verdict_by stack NoAction = No
  verdict_by stack (Shift to) = Yes
  verdict_by stack (ReduceBy p) = verdict_by_rule stack (t.rule p)

  -- one look of a trial at its stack
  abbrev pub verdict : List ℕ → Option ℕ → Verdict
  verdict stack terminal = verdict_by stack (action_on (last_of stack) terminal)

  -- what a trial says within so many reductions
  abbrev pub says_after : ℕ → Option ℕ → Verdict → Verdict
  says_after n terminal Yes = Yes
  says_after n terminal No = No
  says_after zero terminal (GoesOn stack) = GoesOn stack
  says_after (suc n) terminal (GoesOn stack) = says_after n terminal (verdict stack terminal)

  -- the names from terminal i on whose terminals have an action in the top state
  abbrev pub names_with_action : Option ℕ → ℕ → List Text → List Text
  names_with_action state i [] = []
  names_with_action state i (name ∷ names) =
      if has_action (action_on state (Some i)) then name ∷ names_with_action state (i + 1) names else names_with_action state (i + 1) names
