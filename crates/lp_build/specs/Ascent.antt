-- State functions of recursive ascent, and what their trials ask.
use Rattle.std.specs.Prelude.{ℕ, Bool, List, [], ◌∷◌, ◌++◌, map, drop, decimal, Option, Some, None, if◌then◌else◌}
use Rattle.lp_form.specs.declared.part.Part.{Part}
use Rattle.lp_form.specs.declared.part.Part.TheVariants as part
use Rattle.lp_tree.specs.ProgramTree.{Item, Note, all_notes, is_part, items, leaf, unnoted}
use Rattle.lp_tree.specs.declared.tree.Node.{Node}
use Rattle.lp_tree.specs.declared.tree.Reduced.{Reduced}
use Rattle.lp_build.specs.Built.{first_notes, first_parts, leaf_if, over, row, text_rows}
use Rattle.lp_build.specs.declared.ascent.ErrorLocation.{ErrorLocation}
use Rattle.lp_build.specs.declared.ascent.ErrorLocation.TheVariants as location
use Rattle.lp_build.specs.declared.ascent.GotoLoopArm.{GotoLoopArm}
use Rattle.lp_build.specs.declared.ascent.ReturnVariant.{ReturnVariant}
use Rattle.lp_build.specs.declared.ascent.TrialArm.{TrialArm}
use Rattle.lp_build.specs.declared.ascent_reduce.AscentSpan.{AscentSpan}
use Rattle.lp_build.specs.declared.ascent_reduce.AscentSpan.TheVariants as span
use Rattle.lp_build.specs.declared.ascent_reduce.Reduction.{Reduction}

abbrev pub return_row : ReturnVariant → Item
return_row v = row part.ReturnRow (v.nonterminal ∷ v.contents ∷ [])

-- a shift takes the token apart where it has captures
abbrev pub shift_part : Option (List ℕ) → Part
shift_part None = part.ShiftWhole
shift_part (Some names) = part.ShiftArm

abbrev pub shift_holes : List ℕ → ℕ → Option (List ℕ) → List (List ℕ)
shift_holes pattern symbol None = pattern ∷ decimal symbol ∷ []
shift_holes pattern symbol (Some names) = pattern ∷ decimal symbol ∷ names ∷ []

-- where the location of an error at the end of input comes from
abbrev pub location_lines : ErrorLocation → List Item
location_lines (location.Fixed slot) = leaf part.LocationFixed (decimal slot ∷ [])
location_lines location.Default = leaf part.LocationDefault []
location_lines (location.Chain slots) = over part.LocationChain [] (text_rows part.LocationRow (map decimal slots.items))

-- what a reduction of a trial pops and produces; the start's reduces nothing
abbrev pub tried : ℕ → Option Reduced → Item
tried production None = row part.AscentAccept (decimal production ∷ [])
tried production (Some r) = row part.AscentArm (decimal production ∷ decimal r.pop ∷ decimal r.nonterminal ∷ [])

abbrev pub trial_row : TrialArm → Item
trial_row a = tried a.production a.reduced

-- the lines that find the span of a reduction
abbrev pub ascent_span : AscentSpan → List Item
ascent_span (span.Symbols first last) = leaf part.AscentPopped (decimal first ∷ decimal last ∷ [])
ascent_span (span.Fixed slot) = leaf part.AscentFixed (decimal slot ∷ [])
ascent_span (span.Optional slot) = leaf part.AscentOptional (decimal slot ∷ [])
ascent_span (span.Bottom location) = leaf part.AscentBottom (location ∷ [])

-- the call of the action of a reduction
abbrev pub call_line : Reduction → List Item
call_line r =
    leaf (if r.fallible then part.AscentCallFallible else part.AscentCall) (decimal r.action ∷ r.type_arguments ∷ r.arguments ∷ [])

-- the lines of a reduction after its tokens
abbrev pub reduction_lines : Reduction → List Item
reduction_lines r =
    over part.ReduceLines (r.nonterminal ∷ [])
    (((text_rows part.TakeLine (map decimal r.takes.items) ++ ascent_span r.span) ++ call_line r) ++ leaf_if r.returns part.ReturnLine)

-- the line of a reduction's first token: its only one, the end of input, or the first of several
abbrev pub first_part : List (List ℕ) → Option (List ℕ) → Part
first_part [] None = part.ReduceEnd
first_part [] (Some pattern) = part.ReduceToken
first_part (t ∷ ts) last = part.ReduceMany

abbrev pub first_holes : List (List ℕ) → Option (List ℕ) → List (List ℕ)
first_holes [] None = []
first_holes [] (Some pattern) = pattern ∷ []
first_holes (t ∷ ts) last = t ∷ []

-- the last of several tokens, or the end of input
abbrev pub last_token : Option (List ℕ) → List Item
last_token None = leaf part.LastEnd []
last_token (Some pattern) = leaf part.LastToken (pattern ∷ [])

-- the tokens after the first of several
abbrev pub more_tokens : List (List ℕ) → Option (List ℕ) → List Item
more_tokens [] last = []
more_tokens (t ∷ ts) last = text_rows part.TokenRow ts ++ last_token last

-- the parts of the header of a state function, and those of what is none
abbrev pub header_parts : Node → List Item
header_parts n = if is_part part.HeaderState n then items n else []

abbrev pub but_header : Node → List Item
but_header n = if is_part part.HeaderState n then [] else items n

-- the notes of both
abbrev pub header_notes : Node → List (List Note)
header_notes n = if is_part part.HeaderState n then all_notes n else []

abbrev pub but_header_notes : Node → List (List Note)
but_header_notes n = if is_part part.HeaderState n then [] else all_notes n

-- the gotos of a frame; without arms it answers the result
abbrev pub loop_part : List GotoLoopArm → Part
loop_part [] = part.GotoReturn
loop_part (a ∷ arms) = part.GotoLoop

-- the check of the top slot, where it is optional
abbrev pub check_lines : Option ℕ → List Item
check_lines None = []
check_lines (Some slot) = leaf part.EmptyCheck (decimal slot ∷ [])

-- an arm with the first of the transitions
abbrev pub goto_lines : GotoLoopArm → List Node → List Item
goto_lines a transitions = over part.GotoArm (a.nonterminal ∷ decimal a.symbol ∷ []) (first_parts transitions)

-- the arms, each with the next transition
abbrev pub goto_rows : List GotoLoopArm → List Node → List Item
goto_rows [] transitions = []
goto_rows (a ∷ arms) transitions = goto_lines a transitions ++ goto_rows arms (drop 1 transitions)

-- the notes of an arm with the first of the transitions: those of the transition
abbrev pub goto_notes : List Node → List (List Note)
goto_notes transitions = [] ∷ first_notes transitions

-- the notes of the arms, each with the next transition
abbrev pub goto_row_notes : List GotoLoopArm → List Node → List (List Note)
goto_row_notes [] transitions = []
goto_row_notes (a ∷ arms) transitions = goto_notes transitions ++ goto_row_notes arms (drop 1 transitions)

-- what is below the gotos of a frame
abbrev pub loop_lines : Option ℕ → List GotoLoopArm → Bool → List Node → List Item
loop_lines top [] other transitions = []
loop_lines top (a ∷ arms) other transitions =
    (check_lines top ++ goto_rows (a ∷ arms) transitions) ++ leaf_if other part.GotoOther

-- and its notes
abbrev pub loop_notes : Option ℕ → List GotoLoopArm → Bool → List Node → List (List Note)
loop_notes top [] other transitions = []
loop_notes top (a ∷ arms) other transitions =
    (unnoted (check_lines top) ++ goto_row_notes (a ∷ arms) transitions) ++ unnoted (leaf_if other part.GotoOther)
