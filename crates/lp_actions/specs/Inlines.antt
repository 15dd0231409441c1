-- Actions some of whose symbols are inlined actions: the spans of these, their calls, and the outer call.
use Rattle.std.specs.Prelude.{ℕ, ◌+◌, ◌-◌, ◌&&◌, nat_lt, Bool, not, List, [], ◌∷◌, ◌++◌, fold, length, map, slice_get, codes, decimal, if◌then◌else◌}
use Rattle.std.specs.List.{flat_map, range_with_len}
use Rattle.lp_form.specs.declared.part.Part.TheVariants as part
use Rattle.lp_repr.specs.declared.repr.Grammar.{Grammar}
use Rattle.lp_repr.specs.declared.repr.InlinedSymbol.{InlinedSymbol}
use Rattle.lp_repr.specs.declared.repr.InlinedSymbol.TheVariants.{Original, Inlined}
use Rattle.lp_tree.specs.ProgramTree.{Item, leaf}
use Rattle.lp_build.specs.Actions.{call_part, outer_part}
use Rattle.lp_build.specs.Built.{over, row, text_rows}
use Rattle.lp_parts.specs.Texts.{generic_name}
use Rattle.lp_table.specs.Headers.{names_of}
use Rattle.lp_table.specs.Starts.{fallible_or_not}
use Rattle.lp_actions.specs.Parameters.{width}

-- how many arguments symbols take together
abbrev pub total_width : List InlinedSymbol → ℕ
total_width symbols = fold (λ n s. n + width s) 0 symbols

-- whether an action of a number is fallible
abbrev pub action_fails : Grammar → ℕ → Bool
action_fails g action = fallible_or_not (slice_get g.action_fn_defns action)

-- the type parameters that aren't lifetimes
abbrev pub type_arguments : Grammar → List (List ℕ)
type_arguments g = flat_map generic_name g.type_parameters

-- an argument by its number, and where it starts and ends
abbrev pub argument : List ℕ → ℕ → List ℕ
argument prefix n = prefix ++ decimal n

abbrev pub start_of : List ℕ → ℕ → List ℕ
start_of prefix n = prefix ++ (decimal n ++ codes ".0")

abbrev pub end_of : List ℕ → ℕ → List ℕ
end_of prefix n = prefix ++ (decimal n ++ codes ".2")

-- the locations around an action that takes no symbols
abbrev pub location_behind : List ℕ → List ℕ
location_behind prefix = codes "*" ++ (prefix ++ codes "lookbehind")

abbrev pub location_ahead : List ℕ → List ℕ
location_ahead prefix = codes "*" ++ (prefix ++ codes "lookahead")

-- where an inlined action of so many arguments starts, after others of a total: at its first argument,
-- else at the end of the one before, else at the first of all, else behind
abbrev pub span_start : List ℕ → ℕ → ℕ → ℕ → List ℕ
span_start prefix before count total =
    if nat_lt 0 count then start_of prefix before
    else (if nat_lt 0 before then end_of prefix (before - 1)
    else (if nat_lt 0 total then start_of prefix 0 else location_behind prefix))

-- where it ends: at its last argument, else at the start of the next one, else at the end of the last of
-- all, else ahead
abbrev pub span_end : List ℕ → ℕ → ℕ → ℕ → List ℕ
span_end prefix before count total =
    if nat_lt 0 count then end_of prefix (before + (count - 1))
    else (if nat_lt before total then start_of prefix before
    else (if nat_lt 0 total then end_of prefix (total - 1) else location_ahead prefix))

-- an inlined action counts
abbrev pub inlined_count : InlinedSymbol → ℕ
inlined_count (Original s) = 0
inlined_count (Inlined action symbols) = 1

-- the span of an inlined action
abbrev pub span_if : List ℕ → ℕ → ℕ → ℕ → InlinedSymbol → List Item
span_if prefix total n before (Original s) = []
span_if prefix total n before (Inlined action inner) =
    row part.InlineSpan (decimal n ∷ span_start prefix before (length inner) total ∷ span_end prefix before (length inner) total ∷ []) ∷ []

-- the spans of inlined actions, from a number and a place on
abbrev pub spans_from : List ℕ → ℕ → ℕ → ℕ → List InlinedSymbol → List Item
spans_from prefix total n before [] = []
spans_from prefix total n before (s ∷ ss) =
    span_if prefix total n before s ++ spans_from prefix total (n + inlined_count s) (before + width s) ss

-- the arguments of an inlined action: the parameters, then its arguments, or its span
abbrev pub span_start_name : List ℕ → ℕ → List ℕ
span_start_name prefix n = codes "&" ++ (prefix ++ (codes "start" ++ decimal n))

abbrev pub span_end_name : List ℕ → ℕ → List ℕ
span_end_name prefix n = codes "&" ++ (prefix ++ (codes "end" ++ decimal n))

abbrev pub argument_behind : List ℕ → ℕ → ℕ → List ℕ
argument_behind prefix before place = argument prefix (before + place)

abbrev pub own_arguments : List ℕ → ℕ → ℕ → ℕ → List (List ℕ)
own_arguments prefix n before count =
    if nat_lt 0 count then map (argument_behind prefix before) (range_with_len 0 count)
    else span_start_name prefix n ∷ span_end_name prefix n ∷ []

abbrev pub inner_arguments : Grammar → ℕ → ℕ → ℕ → List (List ℕ)
inner_arguments g n before count = names_of g ++ own_arguments g.prefix n before count

-- the call of an inlined action
abbrev pub inline_call : Grammar → ℕ → ℕ → ℕ → ℕ → List Item
inline_call g n before action count =
    over (call_part (type_arguments g)) (decimal n ∷ decimal action ∷ [])
    ((text_rows part.TypeArgument (type_arguments g) ++ text_rows part.ArgumentRow (inner_arguments g n before count))
    ++ leaf (if action_fails g action then part.CallEndFallible else part.CallEndPlain) [])

abbrev pub call_if : Grammar → ℕ → ℕ → InlinedSymbol → List Item
call_if g n before (Original s) = []
call_if g n before (Inlined action inner) = inline_call g n before action (length inner)

-- the calls of inlined actions, from a number and a place on
abbrev pub calls_from : Grammar → ℕ → ℕ → List InlinedSymbol → List Item
calls_from g n before [] = []
calls_from g n before (s ∷ ss) = call_if g n before s ++ calls_from g (n + inlined_count s) (before + width s) ss

-- the arguments of the outer action, from a number and a place on
abbrev pub result_name : List ℕ → ℕ → List ℕ
result_name prefix n = prefix ++ (codes "temp" ++ decimal n)

abbrev pub outer_argument : List ℕ → ℕ → ℕ → InlinedSymbol → List ℕ
outer_argument prefix n before (Original s) = argument prefix before
outer_argument prefix n before (Inlined action inner) = result_name prefix n

abbrev pub outer_from : List ℕ → ℕ → ℕ → List InlinedSymbol → List (List ℕ)
outer_from prefix n before [] = []
outer_from prefix n before (s ∷ ss) =
    outer_argument prefix n before s ∷ outer_from prefix (n + inlined_count s) (before + width s) ss

abbrev pub outer_arguments : Grammar → List InlinedSymbol → List (List ℕ)
outer_arguments g symbols = names_of g ++ outer_from g.prefix 0 0 symbols

-- the outer call, under `Ok` where it can't fail but the function can
abbrev pub outer_call : Grammar → Bool → ℕ → List InlinedSymbol → List Item
outer_call g fallible outer symbols =
    over (outer_part (fallible && not (action_fails g outer)) (type_arguments g)) (decimal outer ∷ [])
    (text_rows part.TypeArgument (type_arguments g) ++ text_rows part.ArgumentRow (outer_arguments g symbols))

-- the lines of inlined actions
abbrev pub inline_lines : Grammar → Bool → ℕ → List InlinedSymbol → List Item
inline_lines g fallible outer symbols =
    over part.InlineBody [] ((spans_from g.prefix (total_width symbols) 0 0 symbols ++ calls_from g 0 0 symbols) ++ outer_call g fallible outer symbols)
