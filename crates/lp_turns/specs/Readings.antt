-- What the values that a program's methods give are read as.
use Rattle.std.specs.Prelude.{ℕ, ℤ, List, [], ◌∷◌, ◌++◌, Bool, Option, Some, None}
use Rattle.std.specs.Option.{option_map, option_and_then}
use Rattle.lp_repr.specs.declared.values.Loc.{Loc}
use Rattle.lp_repr.specs.declared.values.RunItem.{RunItem}
use Rattle.lp_repr.specs.declared.values.RunItem.TheVariants as item
use Rattle.lp_repr.specs.declared.values.UserError.TheVariants as user
use Rattle.lp_repr.specs.declared.values.ParseError.TheVariants as failure
use Rattle.lp_driver.specs.declared.answers.Simulated.{Simulated}
use Rattle.lp_driver.specs.declared.answers.Simulated.TheVariants as simulated
use Rattle.lp_driver.specs.Values.{Text, Token, Spanned, Failure, Ending, Gives, Fails}
use Rattle.lp_core.specs.declared.value.Tag.{Tag}
use Rattle.lp_core.specs.declared.value.Tag.TheVariants as tag
use Rattle.lp_core.specs.Datum.{Datum, Failed, Param, Cell}
use Rattle.lp_core.specs.Val.{Val, Plain}
use Rattle.lp_core.specs.Reading.{datum, parts_of, index_of, term_of, one, two, option_val, location}
use Rattle.lp_core.specs.Store.{Held, States, Symbols}
use Rattle.lp_core.specs.OpMeaning.{place, spanned_token}

-- an option of a `usize`
abbrev pub index_in : Tag × List Val → Option (Option ℕ)
index_in (tag.Present, vs) = option_map Some (option_and_then index_of (one vs))
index_in (tag.Absent, vs) = Some None
index_in _ = None

abbrev pub index_option : Val → Option (Option ℕ)
index_option v = option_and_then index_in (parts_of v)

-- a parse error
abbrev pub failure_in : Datum → Option Failure
failure_in (Failed f) = Some f
failure_in _ = None

abbrev pub failure_of : Val → Option Failure
failure_of v = option_and_then failure_in (datum v)

-- the name of the fault that a parse error tells of
abbrev pub fault_in : Failure → Option Text
fault_in (failure.User (user.Fault name)) = Some name
fault_in _ = None

abbrev pub fault_of : Val → Option Text
fault_of v = option_and_then fault_in (failure_of v)

-- an item without its locations, where these are not kept
abbrev pub located_item : Bool → RunItem → RunItem
located_item located (item.Fault name) = item.Fault name
located_item located (item.Token a token b) = item.Token (place located a) token (place located b)

-- `Ok` of a token with its span, or `Err` of a fault
abbrev pub token_item : Spanned Token → RunItem
token_item t = item.Token t.0 t.1 t.2

abbrev pub item_in : Tag × List Val → Option RunItem
item_in (tag.Success, vs) = option_map token_item (option_and_then spanned_token (one vs))
item_in (tag.Failure, vs) = option_map item.Fault (option_and_then fault_of (one vs))
item_in _ = None

abbrev pub item_of : Val → Option RunItem
item_of v = option_and_then item_in (parts_of v)

-- the result of a parse: `Ok` of what stands for a term, or `Err` of a parse error
abbrev pub success_in : List Val → Option Ending
success_in vs = option_map Gives (option_and_then term_of (one vs))

abbrev pub error_in : List Val → Option Ending
error_in vs = option_map Fails (option_and_then failure_of (one vs))

abbrev pub result_in : Tag × List Val → Option Ending
result_in (tag.Success, vs) = success_in vs
result_in (tag.Failure, vs) = error_in vs
result_in _ = None

abbrev pub result_of : Val → Option Ending
result_of v = option_and_then result_in (parts_of v)

-- how a reduction ends the parse, if it does
abbrev pub some_result : List Val → Option (Option Ending)
some_result vs = option_map Some (option_and_then result_of (one vs))

abbrev pub reduction_in : Tag × List Val → Option (Option Ending)
reduction_in (tag.Present, vs) = some_result vs
reduction_in (tag.Absent, vs) = Some None
reduction_in _ = None

abbrev pub reduction_of : Val → Option (Option Ending)
reduction_of v = option_and_then reduction_in (parts_of v)

-- what a reduction would do
abbrev pub reduce_with : Option ℕ → Option ℕ → Option Simulated
reduce_with (Some pop) (Some nonterminal) = Some (simulated.Reduce pop nonterminal)
reduce_with _ _ = None

abbrev pub would_reduce : List Val → Option Simulated
would_reduce vs = option_and_then (λ r. reduce_with (index_of r.0) (index_of r.1)) (two vs)

abbrev pub simulated_in : Tag × List Val → Option Simulated
simulated_in (tag.Accept, vs) = Some simulated.Accept
simulated_in (tag.Reduce, vs) = would_reduce vs
simulated_in _ = None

abbrev pub simulated_of : Val → Option Simulated
simulated_of v = option_and_then simulated_in (parts_of v)

-- the two stacks that cells hold
abbrev pub pair_of : {A : Type 0} → List A → Option (A × A)
pair_of (a ∷ b ∷ []) = Some (a, b)
pair_of _ = None

abbrev pub stacks_in : Held × Held → Option (List ℤ × List (Spanned Val))
stacks_in (States states, Symbols symbols) = Some (states, symbols)
stacks_in _ = None

abbrev pub stacks_of : List Held → Option (List ℤ × List (Spanned Val))
stacks_of cells = option_and_then stacks_in (pair_of cells)

-- the fields of the machine are parameters of the grammar, by number: their values, after these
abbrev pub with_value : List Val → Val → List Val
with_value vs v = vs ++ v ∷ []

abbrev pub param_val : ℕ → Val
param_val n = Plain (Param n)

abbrev pub field_values : List Val → List (Option ℕ) → Option (List Val)
field_values vs [] = Some vs
field_values vs (o ∷ fields) = option_and_then (λ n. field_values (with_value vs (param_val n)) fields) o

abbrev pub cell_val : ℕ → Val
cell_val n = Plain (Cell n)

-- the fields of the machine, the production, the start of the lookahead and the two lists
abbrev pub reduce_arguments : List Val → Val → Option Loc → List Val
reduce_arguments fields production start =
    with_value (with_value (with_value (with_value fields production) (option_val (option_map location start))) (cell_val 0)) (cell_val 1)
