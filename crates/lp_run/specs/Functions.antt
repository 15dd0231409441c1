-- The functions of a module and of actions, made where all of them are declared.
use Rattle.std.specs.Prelude.{ℕ, List, [], ◌∷◌, Option, Some, None, slice_get, if◌then◌else◌}
use Rattle.lp_core.specs.declared.expr.Function.{Function}
use Rattle.lp_form.specs.declared.part.Part.TheVariants as part
use Rattle.lp_view.specs.PartLists.{Form, is_a, hole_of, parts_of}
use Rattle.lp_maker.specs.Slots.{no_names}
use Rattle.lp_maker.specs.Constructs.{stuck, function_of}
use Rattle.lp_maker.specs.Making.{Making, defined, with_function, with_variant}
use Rattle.lp_bodies.specs.Actions.{action_function, with_action}
use Rattle.lp_bodies.specs.Reductions.{reduce_function, with_reduce, reduce_fn, with_reduce_fn, pop_function}
use Rattle.lp_bodies.specs.Tables.{lookup_function, goto_function, integer_function, with_integers, symbol_function, with_symbols, expected_function, expected_closure, expected_states_function, with_states_closure}
use Rattle.lp_bodies.specs.Trials.{simulate_function, accepts_function}
use Rattle.lp_ascent_bodies.specs.AscentStates.{state_fn, with_state_fn}
use Rattle.lp_ascent_bodies.specs.AscentTrials.{ascent_simulate, ascent_accepts, ascent_expected, with_ascent_expected}
use Rattle.lp_run.specs.Promised.{is_action_lookup, is_lookup, is_trial, is_reduction}

-- a function, and what was made besides
pub record Made : Type 0 where
  pub function : Function
  pub making : Making

abbrev pub made_of : Function → Making → Made
made_of function making = record { function = function; making = making }

-- as `panic!`
abbrev pub without_meaning : Function
without_meaning = function_of 0 no_names stuck

abbrev pub lookup_made : Making → Form → Made
lookup_made m form =
    if is_action_lookup form then made_of (lookup_function m form) m else (if is_a part.GotoFn form then made_of (goto_function form) m else (if is_a part.TokenToInteger form then made_of (integer_function m form) (with_integers form m) else made_of (symbol_function m form) (with_symbols form m)))

-- under a header, where there is one
abbrev pub expected_made : Making → Option Form → Made
expected_made m None = made_of without_meaning m
expected_made m (Some header) = made_of (expected_states_function m header) (with_states_closure m)

abbrev pub accepts_made : Making → Option Form → Made
accepts_made m None = made_of without_meaning m
accepts_made m (Some header) = made_of (accepts_function m header) m

abbrev pub trial_made : Making → Form → Made
trial_made m form =
    if is_a part.Expected form then made_of (expected_function m) (with_function (Some (expected_closure m)) m) else (if is_a part.ExpectedFromStates form then expected_made m (slice_get (parts_of form) 0) else (if is_a part.SimulateReduce form then made_of (simulate_function m.prefix form) m else accepts_made m (slice_get (parts_of form) 0)))

abbrev pub reduction_made : Making → Form → Made
reduction_made m form =
    if is_a part.Pop form then made_of (pop_function m form) (with_variant (hole_of 0 form) m) else (if is_a part.ReduceFn form then made_of (reduce_fn m form) (with_reduce_fn form m) else (if is_a part.Reduce form then made_of (reduce_function m form) (with_reduce form m) else made_of without_meaning m))

-- a function of recursive ascent
abbrev pub ascent_made : Making → Form → Made
ascent_made m form =
    if is_a part.StateFn form then made_of (state_fn m form) (with_state_fn form m) else (if is_a part.AscentSimulate form then made_of (ascent_simulate form) m else (if is_a part.AscentAccepts form then made_of (ascent_accepts m form) m else made_of (ascent_expected m) (with_ascent_expected m)))

-- the function of a form of a module
unfoldable pub function_made : Making → Form → Made
function_made m form =
    if is_lookup form then lookup_made m form else (if is_trial form then trial_made m form else (if is_reduction form then reduction_made m form else ascent_made m form))

-- a function stands under its number
abbrev pub placed : ℕ → Made → Making
placed number made = defined number made.function made.making

abbrev pub one_made : Making → ℕ × Form → Making
one_made m one = placed one.0 (function_made m one.1)

-- the functions of a module
abbrev pub all_made : Making → List (ℕ × Form) → Making
all_made m [] = m
all_made m (one ∷ others) = all_made (one_made m one) others

abbrev pub action_made : Making → ℕ × Form → Making
action_made m one = defined one.0 (action_function m one.1) (with_action one.1 m)

-- the functions of actions
abbrev pub actions_made : Making → List (ℕ × Form) → Making
actions_made m [] = m
actions_made m (one ∷ others) = actions_made (action_made m one) others
