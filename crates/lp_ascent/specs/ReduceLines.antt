-- The reductions of a state.
use Rattle.std.specs.Prelude.{ℕ, ◌+◌, ◌-◌, ◌==◌, ◌&&◌, not, nat_le, nat_lt, Bool, List, [], ◌∷◌, ◌++◌, length, slice_get, take, decimal, Option, Some, None, if◌then◌else◌}
use Rattle.std.specs.BTreeMap.{get}
use Rattle.std.specs.List.{flat_map, list_any}
use Rattle.lp_form.specs.declared.part.Part.TheVariants as part
use Rattle.lp_repr.specs.NameOrder.{terminal_cmp}
use Rattle.lp_repr.specs.Numbering.{productions_of, terminals_of}
use Rattle.lp_repr.specs.Shown.{pattern_text}
use Rattle.lp_repr.specs.declared.lr1.Token.{Token}
use Rattle.lp_repr.specs.declared.repr.Grammar.{Grammar}
use Rattle.lp_repr.specs.declared.repr.Production.{Production}
use Rattle.lp_repr.specs.declared.repr.TerminalString.{TerminalString}
use Rattle.lp_repr.specs.declared.repr.TokenPattern.{TokenPattern}
use Rattle.lp_tree.specs.ProgramTree.{Item, leaf}
use Rattle.lp_build.specs.Ascent.{ascent_span, first_holes, first_part, more_tokens}
use Rattle.lp_build.specs.Built.{leaf_if, over}
use Rattle.lp_build.specs.declared.ascent_reduce.AscentSpan.{AscentSpan}
use Rattle.lp_build.specs.declared.ascent_reduce.AscentSpan.TheVariants as span
use Rattle.lp_parts.specs.Entries.{is_eof, is_terminal}
use Rattle.lp_parts.specs.Texts.{arguments_of, generic_names_text, location_text}
use Rattle.lp_table.specs.ReductionLines.{span_arguments}
use Rattle.lp_table.specs.Starts.{is_fallible}
use Rattle.lp_ascent.specs.AnswerLines.{answer_name}
use Rattle.lp_ascent.specs.CallLines.{slot_list, taken_lines}
use Rattle.lp_ascent.specs.Slots.{Layout, count_of, is_cell}

-- the pattern of the terminal of a number, where the token is that terminal
abbrev pub pattern_if : Option TokenPattern → List (List ℕ)
pattern_if None = []
pattern_if (Some p) = pattern_text p ∷ []

abbrev pub token_pattern : ℕ → Option TokenPattern → Token → List (List ℕ)
token_pattern n p token = if is_terminal n token then pattern_if p else []

-- the pattern of a terminal of a number for each token that is the terminal
abbrev pub terminal_patterns : Grammar → List Token → ℕ → TerminalString → List (List ℕ)
terminal_patterns g tokens n t = flat_map (token_pattern n (get terminal_cmp g.conversions t)) tokens

-- the patterns of the terminals among tokens, by number
abbrev pub patterns_from : Grammar → List Token → ℕ → List TerminalString → List (List ℕ)
patterns_from g tokens n [] = []
patterns_from g tokens n (t ∷ ts) =
    terminal_patterns g tokens n t ++ patterns_from g tokens (n + 1) ts

unfoldable pub token_patterns : Grammar → List Token → List (List ℕ)
token_patterns g tokens = patterns_from g tokens 0 (terminals_of g)

-- the end of input is the last token; where it isn't there, the last pattern is that of the last token
abbrev pub ends : List Token → Bool
ends tokens = list_any is_eof tokens

abbrev pub but_last : Bool → List (List ℕ) → List (List ℕ)
but_last ends patterns = if ends then patterns else take (length patterns - 1) patterns

abbrev pub last_pattern : Bool → List (List ℕ) → Option (List ℕ)
last_pattern ends patterns = if ends then None else slice_get patterns (length patterns - 1)

-- the first of the slots that a reduction by a production pops
abbrev pub first_popped : Layout → Production → ℕ
first_popped l p = count_of l - length p.symbols

-- the span of so many popped slots, or of none above the top slot
abbrev pub empty_span : Layout → ℕ → AscentSpan
empty_span l top = if is_cell l top then span.Optional top else span.Fixed top

abbrev pub popped_span : Grammar → Layout → ℕ → AscentSpan
popped_span g l popped =
    if count_of l == 0 then span.Bottom (location_text g)
    else (if nat_lt 0 popped then span.Symbols (count_of l - popped) (count_of l - 1) else empty_span l (count_of l - 1))

-- the arguments of an action: the parameters, then the popped slots, or the span of none
abbrev pub popped_slots : List ℕ → ℕ → ℕ → List ℕ
popped_slots prefix first end = if nat_le end first then span_arguments prefix else slot_list prefix first end

abbrev pub popped_arguments : Grammar → ℕ → ℕ → List ℕ
popped_arguments g first end = arguments_of g.parameters ++ popped_slots g.prefix first end

-- what a reduction does: it takes the cells that it pops, finds the span, calls the action, and answers the nonterminal
unfoldable pub reduction_of : Grammar → Layout → Production → List Item
reduction_of g l p =
    over part.ReduceLines (answer_name p.nonterminal ∷ [])
    (((taken_lines l (first_popped l p) ++ ascent_span (popped_span g l (length p.symbols)))
    ++ leaf (if is_fallible g p then part.AscentCallFallible else part.AscentCall) (decimal p.action ∷ generic_names_text g ∷ popped_arguments g (first_popped l p) (count_of l) ∷ []))
    ++ leaf_if (nat_lt 0 (length p.symbols)) part.ReturnLine)

-- a reduction on tokens of these patterns, and of this last one
abbrev pub arm_on : List (List ℕ) → Option (List ℕ) → List Item → List Item
arm_on patterns last below = over (first_part patterns last) (first_holes patterns last) (more_tokens patterns last ++ below)

abbrev pub arm_by : Bool → List (List ℕ) → List Item → List Item
arm_by ends patterns below = arm_on (but_last ends patterns) (last_pattern ends patterns) below

abbrev pub reduction_arm : Grammar → Layout → Production → List Token → List Item
reduction_arm g l p tokens = arm_by (ends tokens) (token_patterns g tokens) (reduction_of g l p)

-- a reduction that is by the production of a number, where it has tokens
abbrev pub is_reduced : ℕ → List Token × ℕ → Bool
is_reduced n reduction = (reduction.1 == n) && not (length reduction.0 == 0)

abbrev pub reduction_line : Grammar → Layout → ℕ → Production → List Token × ℕ → List Item
reduction_line g l n p reduction = if is_reduced n reduction then reduction_arm g l p reduction.0 else []

-- the reductions, by production
abbrev pub reductions_from : Grammar → Layout → List (List Token × ℕ) → ℕ → List Production → List Item
reductions_from g l reductions n [] = []
reductions_from g l reductions n (p ∷ ps) =
    flat_map (reduction_line g l n p) reductions ++ reductions_from g l reductions (n + 1) ps

unfoldable pub reduction_lines : Grammar → Layout → List (List Token × ℕ) → List Item
reduction_lines g l reductions = reductions_from g l reductions 0 (productions_of g)
