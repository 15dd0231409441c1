-- Action functions: one per action of a grammar, by number.
use Rattle.std.specs.Prelude.{ℕ, ◌+◌, nat_lt, Bool, List, [], ◌∷◌, ◌++◌, length, if◌then◌else◌}
use Rattle.lp_form.specs.declared.part.Part.{Part}
use Rattle.lp_form.specs.declared.part.Part.TheVariants as part
use Rattle.lp_repr.specs.declared.repr.ActionFnDefn.{ActionFnDefn}
use Rattle.lp_repr.specs.declared.repr.ActionFnDefnKind.{ActionFnDefnKind}
use Rattle.lp_repr.specs.declared.repr.ActionFnDefnKind.TheVariants.{User, Lookaround, Inline}
use Rattle.lp_repr.specs.declared.repr.Grammar.{Grammar}
use Rattle.lp_repr.specs.declared.repr.LookaroundActionFn.TheVariants.{Lookahead, Lookbehind}
use Rattle.lp_tree.specs.ProgramTree.{Item, leaf}
use Rattle.lp_build.specs.Built.{over}
use Rattle.lp_build.specs.declared.functions.FunctionName.TheVariants as name
use Rattle.lp_table.specs.Headers.{grammar_header}
use Rattle.lp_actions.specs.Inlines.{inline_lines}
use Rattle.lp_actions.specs.Parameters.{action_parameters, return_text}

-- the body of an action's function
abbrev pub kind_lines : Grammar → Bool → ActionFnDefnKind → List Item
kind_lines g fallible (User patterns types code) = leaf part.UserBody (code ∷ [])
kind_lines g fallible (Lookaround Lookahead) = leaf part.LookaheadBody []
kind_lines g fallible (Lookaround Lookbehind) = leaf part.LookbehindBody []
kind_lines g fallible (Inline outer symbols) = inline_lines g fallible outer symbols

-- the function of a body, which calls user code or gives a location
abbrev pub calling_part : Bool → Part
calling_part unused = if unused then part.ActionFnUnused else part.ActionFn

abbrev pub kind_part : ActionFnDefnKind → Bool → Part
kind_part (User patterns types code) unused = calling_part unused
kind_part (Lookaround place) unused = if unused then part.LookaroundUnused else part.Lookaround
kind_part (Inline outer symbols) unused = calling_part unused

-- the grammar has parameters
abbrev pub has_parameters : Grammar → Bool
has_parameters g = nat_lt 0 (length g.parameters)

-- the function of the action of a number
abbrev pub action_lines : Grammar → ℕ → ActionFnDefn → List Item
action_lines g n a =
    over (kind_part a.kind (has_parameters g)) []
    (grammar_header g (name.Action n) [] (action_parameters g a.kind) (return_text g a) ++ kind_lines g a.fallible a.kind)

-- those of actions from a number on
abbrev pub functions_from : Grammar → ℕ → List ActionFnDefn → List Item
functions_from g n [] = []
functions_from g n (a ∷ rest) = action_lines g n a ++ functions_from g (n + 1) rest

-- those of all actions of a grammar
unfoldable pub action_functions : Grammar → List Item
action_functions g = functions_from g 0 g.action_fn_defns
