-- What a run of a module is: the calls of user code, the outcome and the steps of its `parse`.
use Rattle.std.specs.Prelude.{ℕ, zero, suc, ◌-◌, List, [], map, Option, Some, None}
use Rattle.std.specs.List.{range_with_len}
use Rattle.lp_repr.specs.declared.values.RunItem.{RunItem}
use Rattle.lp_driver.specs.Values.{Text, Ending}
use Rattle.lp_driver.specs.Questions as halt
use Rattle.lp_driver.specs.DriverState.{Next, Goes_on, Ends, Halted}
use Rattle.lp_driver.specs.Turns.{run}
use Rattle.lp_core.specs.declared.expr.Table.{Table}
use Rattle.lp_core.specs.Val.{Val}
use Rattle.lp_core.specs.Store.{UserCall, Program}
use Rattle.lp_core.specs.Flow.{Flow}
use Rattle.lp_core.specs.Flow as flow
use Rattle.lp_core.specs.Eval.{run_call}
use Rattle.lp_maker.specs.declared.methods.Methods.{Methods}
use Rattle.lp_turns.specs.declared.runner.Runner.{Runner}
use Rattle.lp_turns.specs.Readings.{result_of, param_val, field_values}
use Rattle.lp_turns.specs.DriverCall.{begin, program_answers}
use Rattle.lp_run.specs.ParseMethod.{Parse, By_driver, By_call}
use Rattle.lp_run.specs.Module.{Module, program_on}

-- how a run ends
pub data Finish : Type 0 where
  -- no parse module has the name
  NoStart : Finish
  -- there are more or fewer values than parameters
  ParameterCount : Finish
  -- a value or an error, after these calls of user code and so many steps
  Ended : (ending : Ending) (calls : List UserCall) (steps : ℕ) → Finish
  -- one step more would be made than there are
  Spent : (calls : List UserCall) (steps : ℕ) → Finish
  -- it goes no further
  Stuck : (steps : ℕ) → Finish

-- what the values of the grammar's parameters are
abbrev pub parameters : ℕ → List Val
parameters n = map param_val (range_with_len 0 n)

-- a result is an `Ok` of what stands for a term, or an `Err` of a parse error
abbrev pub value_finish : ℕ → Option Ending → List UserCall → ℕ → Finish
value_finish budget None calls left = Stuck (budget - left)
value_finish budget (Some ending) calls left = Ended ending calls (budget - left)

-- `parse` by a call
abbrev pub call_finish : ℕ → Flow → Finish
call_finish budget (flow.Gives v st) = value_finish budget (result_of v) st.calls st.left
call_finish budget (flow.Returns v st) = Stuck (budget - st.left)
call_finish budget (flow.Spent calls) = Spent calls budget
call_finish budget (flow.Stuck left calls) = Stuck (budget - left)

abbrev pub by_call : Program → ℕ → ℕ → ℕ → Finish
by_call p f params budget = call_finish budget (run_call p f (parameters params) (begin [] [] budget))

-- `parse` by the driver; no run goes on after more turns than there are steps
abbrev pub driver_finish : ℕ → Next Val Runner → Finish
driver_finish budget (Goes_on w d) = Spent d.calls budget
driver_finish budget (Ends ending d) = Ended ending d.calls (budget - d.left)
driver_finish budget (Halted halt.Spent d) = Spent d.calls budget
driver_finish budget (Halted halt.Stuck d) = Stuck (budget - d.left)

-- the program that is asked first
abbrev pub first_asked : Program → Methods → List (Option ℕ) → Option ℕ → ℕ → Runner
first_asked p methods fields closure left =
    record { asked = record { program = p; fields = fields }; methods = methods; closure = closure; calls = []; left = left }

-- the driver's turns on the items
abbrev pub driven : List RunItem → ℕ → Runner → Finish
driven items budget d = driver_finish budget (run program_answers (suc d.left) items d)

-- a field that is no parameter is stuck
abbrev pub with_fields : Option (List Val) → Finish → Finish
with_fields None finish = Stuck 1
with_fields (Some vs) finish = finish

abbrev pub after_step : Program → Methods → List (Option ℕ) → Option ℕ → ℕ → ℕ → Finish
after_step p methods fields closure budget left = with_fields (field_values [] fields) (driven p.items budget (first_asked p methods fields closure left))

-- the call of `parse` is a step
abbrev pub by_driver : Program → Methods → List (Option ℕ) → Option ℕ → ℕ → ℕ → Finish
by_driver p methods fields closure budget zero = Spent [] budget
by_driver p methods fields closure budget (suc left) = after_step p methods fields closure budget left

abbrev pub parsed : Parse → ℕ → Option ℕ → Program → ℕ → Finish
parsed (By_driver methods fields) params closure p budget = by_driver p methods fields closure budget budget
parsed (By_call f) params closure p budget = by_call p f params budget

-- a run of a module that has these tables
abbrev pub module_run : Module → List Table → List RunItem → List Text → List ℕ → ℕ → Finish
module_run m tables items params failing budget = parsed m.parse m.params m.closure (program_on m tables items params failing) budget
