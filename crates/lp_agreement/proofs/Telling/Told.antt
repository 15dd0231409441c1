-- Where a program answers its driver by the tables, a run of `parse` ends as the machine does.
use Rattle.std.proofs.Common.{◌≡◌, ℕ, zero, suc, ◌+◌, ◌*◌, ◌<◌, ◌≤◌, List, [], Option, Some, None, refl, sym, subst, arith}
use Rattle.std.proofs.Math.Nat.{mul-le-mul_right}
use Rattle.lp_repr.specs.declared.lr1.Lr1State.{Lr1State}
use Rattle.lp_repr.specs.declared.numbering.SymbolNumber.{SymbolNumber}
use Rattle.lp_repr.specs.declared.repr.Grammar.{Grammar}
use Rattle.lp_repr.specs.declared.values.RunItem.{RunItem}
use Rattle.lp_driver.specs.declared.answers.Expecting.TheVariants.{Trial}
use Rattle.lp_driver.specs.DriverState.{Next}
use Rattle.lp_driver.specs.Turns as driver
use Rattle.lp_driver.specs.Values.{Text, Token, Value}
use Rattle.lp_core.specs.Store.{Program}
use Rattle.lp_core.specs.Val.{Val}
use Rattle.lp_machine.specs.GrammarTables.{grammar_tables}
use Rattle.lp_machine.specs.Tables.{Tables}
use Rattle.lp_maker.specs.declared.methods.Methods.{Methods}
use Rattle.lp_turns.specs.declared.runner.Runner.{Runner}
use Rattle.lp_turns.specs.DriverCall.{program_answers, stuck_of}
use Rattle.lp_turns.specs.DriverCallLaw.{program_law}
use Rattle.lp_turns.specs.Readings.{field_values}
use Rattle.lp_run.specs.ProgramRun.{driver_finish, first_asked, driven, with_fields, by_driver}
use Rattle.lp_turn_laws.specs.Paths.Over.{IsOver}
use Rattle.lp_turn_laws.specs.Alike.Answered.{AnswersBy}
use Rattle.lp_turn_laws.specs.Alike.Course.{AreKnown, rate}
use Rattle.lp_turn_laws.specs.Alike.Runs.{Course, Comes, Stops}
use Rattle.lp_turn_laws.proofs.Alike.Runs.{run_follows}
use Rattle.lp_turn_laws.specs.Asked.Runners.{Asks, left, seen}
use Rattle.lp_agrees.specs.Agrees.{Told}
use Rattle.lp_agrees.specs.Machine.{as_user}

-- a budget that is one more than some steps
budget_less : (n budget c most k : ℕ) → suc n ≡ budget → n < c * (k + 1) → c < most → budget < most * (k + 1)
budget_less n budget c most k is less more =
    let m : (c + 1) * (k + 1) ≤ most * (k + 1) = mul-le-mul_right (k + 1) (omega arith) in
    omega (arith, m)

none_less : (budget most k : ℕ) → budget ≡ 0 → 0 < most → budget < most * (k + 1)
none_less budget most k is some = omega arith

module _ (g : Grammar) (states : List Lr1State) (items : List RunItem) (params : List Text) (failing : List ℕ) (cost most budget : ℕ) (more : rate (grammar_tables g states Trial params failing) * cost < most) where
  abbrev t : Tables
  t = grammar_tables g states Trial params failing

  -- what a driver's course tells
  course_told : (d : Runner) (next : Next Val Runner) → suc d.left ≡ budget → Course left seen as_user t cost items d next → Told g states Trial items params failing most budget (driver_finish budget next)
  course_told d _ is (Comes e x m so calls) = (m, so, sym calls)
  course_told d _ is (Stops x m front bound) = (refl, (m, front), λ k e h. budget_less d.left budget (rate t * cost) most k is (bound k e h) more)

  module _ {start : ℕ} (over_tables : IsOver g start states t) (Is : SymbolNumber → Val → Value → Type 0) (Known : Token → Type 0) (p : Program) (methods : Methods) (fields : List (Option ℕ)) (closure : Option ℕ)
      (by : AnswersBy program_answers left seen (Asks (record { program = p; fields = fields }) methods closure) as_user g states t Is Known cost) (known : AreKnown Known items)
      (on_items : p.items ≡ items) (vs : List Val) (has_fields : field_values [] fields ≡ Some vs) where
    started_told : (n : ℕ) → suc n ≡ budget → Told g states Trial items params failing most budget (driven items budget (first_asked p methods fields closure n))
    started_told n is =
        let d : Runner = first_asked p methods fields closure n in
        course_told d (driver.run program_answers (suc n) items d) is
        (run_follows program_answers left seen (Asks (record { program = p; fields = fields }) methods closure) as_user over_tables Is Known cost by refl items known stuck_of program_law d (record { program = refl; by = refl; source = refl }) refl)

    steps_told : (n : ℕ) → n ≡ budget → Told g states Trial items params failing most budget (by_driver p methods fields closure budget n)
    steps_told zero is = (refl, (0, (_, refl)), λ k e h. none_less budget most k (sym is) (omega arith))
    steps_told (suc n) is =
        subst (λ (o : Option (List Val)). Told g states Trial items params failing most budget (with_fields o (driven p.items budget (first_asked p methods fields closure n)))) (sym has_fields)
        (subst (λ (is : List RunItem). Told g states Trial items params failing most budget (driven is budget (first_asked p methods fields closure n))) (sym on_items) (started_told n is))

    -- a run of `parse` by the driver
    pub driver_told : Told g states Trial items params failing most budget (by_driver p methods fields closure budget budget)
    driver_told = steps_told budget refl
