-- Where a parse begins, and whether errors are mended: each a method whose call is one step.
use Rattle.std.proofs.Common.{◌≡◌, ℕ, suc, ◌≤◌, ℤ, pos, Bool, [], Option, Some, refl, ap, ◌∙◌}
use Rattle.std.specs.Prelude.{slice_get}
use Rattle.std.specs.Option.{option_map}
use Rattle.lp_repr.specs.declared.values.Loc.TheVariants.{Default}
use Rattle.lp_driver.specs.Questions.{Start_location, Start_state, Uses_recovery}
use Rattle.lp_core.specs.declared.expr.Function.{Function}
use Rattle.lp_core.specs.declared.expr.Leaf.TheVariants as leaf
use Rattle.lp_core.specs.declared.value.StateType.{StateType}
use Rattle.lp_core.specs.Eval.{run, enter}
use Rattle.lp_core.specs.Effect.{gave}
use Rattle.lp_core.specs.Flow.{flow, leave, spend}
use Rattle.lp_core.specs.Numbers.{number, truth}
use Rattle.lp_core.specs.Reading.{location, location_of, state_of, truth_of}
use Rattle.lp_core.specs.Store.{Program}
use Rattle.lp_core.specs.Tree as tree
use Rattle.lp_maker.specs.Constructs.{state, fitted}
use Rattle.lp_maker.specs.declared.methods.Methods.{Methods}
use Rattle.lp_bodies.specs.Source.{function, default_location}
use Rattle.lp_turns.specs.Asking.{Asking}
use Rattle.lp_turns.specs.declared.runner.Runner.{Runner}
use Rattle.lp_turns.specs.DriverCall.{program_answers}
use Rattle.lp_code_laws.specs.Ends.Ends.{Moment, at, Enter, Giving, EndsIn}
use Rattle.lp_question_laws.proofs.Gotos.GotoCode.{IsState}
use Rattle.lp_turn_laws.specs.Asked.Runners.{Asks, asking_over, Replies}
use Rattle.lp_turn_laws.proofs.Asked.Asked.{asks_replies}

module _ (d : Runner) (f : ℕ) where
  abbrev p : Program
  p = d.asked.program

  abbrev m : Moment
  m = asking_over [] d

  location_ends : slice_get p.functions f ≡ Some (function 0 0 default_location) → EndsIn p (Enter f []) m 1 (Giving (location Default) m)
  location_ends there = record { runs = λ left. ap (λ (o : Option Function). spend (at m (suc left)) (enter p o (run p) [])) there }

  state_ends : (kind : StateType) → IsState kind 0 → slice_get p.functions f ≡ Some (function 0 0 (state (Some kind) (Some (pos 0)))) → EndsIn p (Enter f []) m 1 (Giving (number kind (pos 0)) m)
  state_ends kind is there = record {
    runs = λ left. ap (λ (o : Option Function). spend (at m (suc left)) (enter p o (run p) [])) (there ∙ ap (λ (n : Option ℤ). Some (function 0 0 (fitted kind n))) is.fits)
        ∙ ap (λ (n : Option ℤ). leave [] 0 (flow (at m left) (gave (option_map (number kind) n) (at m left).store))) is.fits;
  }

  truth_ends : (b : Bool) → slice_get p.functions f ≡ Some (function 0 0 (tree.Plain (leaf.Bool b))) → EndsIn p (Enter f []) m 1 (Giving (truth b) m)
  truth_ends b there = record { runs = λ left. ap (λ (o : Option Function). spend (at m (suc left)) (enter p o (run p) [])) there }

module _ (asked : Asking) (methods : Methods) (closure : Option ℕ) (d : Runner) (h : Asks asked methods closure d) (most : ℕ) (few : 1 ≤ most) where
  pub location_replies : slice_get d.asked.program.functions d.methods.start_location ≡ Some (function 0 0 default_location) → Replies asked methods closure d most (λ x. x ≡ Default) (program_answers Start_location d)
  location_replies there =
      asks_replies asked methods closure location_of d.methods.start_location [] d most (λ x. x ≡ Default) 1 (location Default) (asking_over [] d) Default h (location_ends d d.methods.start_location there) refl refl refl few

  pub state_replies : (kind : StateType) → IsState kind 0 → slice_get d.asked.program.functions d.methods.start_state ≡ Some (function 0 0 (state (Some kind) (Some (pos 0)))) → Replies asked methods closure d most (λ x. x ≡ pos 0) (program_answers Start_state d)
  state_replies kind is there =
      asks_replies asked methods closure state_of d.methods.start_state [] d most (λ x. x ≡ pos 0) 1 (number kind (pos 0)) (asking_over [] d) (pos 0) h (state_ends d d.methods.start_state kind is there) refl refl refl few

  pub recovery_replies : (b : Bool) → slice_get d.asked.program.functions d.methods.uses_error_recovery ≡ Some (function 0 0 (tree.Plain (leaf.Bool b))) → Replies asked methods closure d most (λ x. x ≡ b) (program_answers Uses_recovery d)
  recovery_replies b there =
      asks_replies asked methods closure truth_of d.methods.uses_error_recovery [] d most (λ x. x ≡ b) 1 (truth b) (asking_over [] d) b h (truth_ends d d.methods.uses_error_recovery b there) refl refl refl few
