-- Action functions.
use Rattle.std.specs.Prelude.{ℕ, Bool, true, false, List, [], ◌∷◌, ◌++◌, map, decimal, if◌then◌else◌}
use Rattle.std.specs.List.{flat_map}
use Rattle.lp_form.specs.declared.part.Part.{Part}
use Rattle.lp_form.specs.declared.part.Part.TheVariants as part
use Rattle.lp_tree.specs.ProgramTree.{Item, leaf}
use Rattle.lp_build.specs.Built.{over, row, text_rows}
use Rattle.lp_build.specs.declared.action.ActionBody.{ActionBody}
use Rattle.lp_build.specs.declared.action.ActionBody.TheVariants as body
use Rattle.lp_build.specs.declared.action.InlineCall.{InlineCall}
use Rattle.lp_build.specs.declared.action.InlineSpan.{InlineSpan}
use Rattle.lp_build.specs.declared.action.OuterCall.{OuterCall}

-- the span of an inlined action
abbrev pub span_row : InlineSpan → Item
span_row s = row part.InlineSpan (decimal s.number ∷ s.start ∷ s.end ∷ [])

-- the call of an inlined action
abbrev pub call_part : List (List ℕ) → Part
call_part [] = part.InlineCall
call_part (t ∷ ts) = part.InlineCallTyped

abbrev pub call_lines : InlineCall → List Item
call_lines c =
    over (call_part c.type_arguments.items) (decimal c.number ∷ decimal c.action ∷ [])
    ((text_rows part.TypeArgument c.type_arguments.items ++ text_rows part.ArgumentRow c.arguments.items)
    ++ leaf (if c.fallible then part.CallEndFallible else part.CallEndPlain) [])

-- the outer call
abbrev pub outer_part : Bool → List (List ℕ) → Part
outer_part false [] = part.OuterCall
outer_part false (t ∷ ts) = part.OuterCallTyped
outer_part true [] = part.OuterCallOk
outer_part true (t ∷ ts) = part.OuterCallOkTyped

abbrev pub outer_lines : OuterCall → List Item
outer_lines c =
    over (outer_part c.wrapped c.type_arguments.items) (decimal c.action ∷ [])
    (text_rows part.TypeArgument c.type_arguments.items ++ text_rows part.ArgumentRow c.arguments.items)

-- the body of an action function
abbrev pub body_lines : ActionBody → List Item
body_lines (body.User code) = leaf part.UserBody (code ∷ [])
body_lines body.Lookahead = leaf part.LookaheadBody []
body_lines body.Lookbehind = leaf part.LookbehindBody []
body_lines (body.Inline spans calls outer) =
    over part.InlineBody [] ((map span_row spans.items ++ flat_map call_lines calls.items) ++ outer_lines outer)

abbrev pub action_part : ActionBody → Bool → Part
action_part (body.User code) unused = if unused then part.ActionFnUnused else part.ActionFn
action_part body.Lookahead unused = if unused then part.LookaroundUnused else part.Lookaround
action_part body.Lookbehind unused = if unused then part.LookaroundUnused else part.Lookaround
action_part (body.Inline spans calls outer) unused = if unused then part.ActionFnUnused else part.ActionFn
