-- The function of an action in a program.
use Rattle.std.specs.Prelude.{◌≡◌, ℕ, Bool, true, List, [], ◌∷◌, ◌++◌, length, codes, decimal, Some, slice_get}
use Rattle.lp_form.specs.declared.part.Part.TheVariants as part
use Rattle.lp_repr.specs.NormalCode.{norm_of}
use Rattle.lp_repr.specs.declared.repr.ActionFnDefn.{ActionFnDefn}
use Rattle.lp_repr.specs.declared.repr.ActionFnDefnKind.{ActionFnDefnKind}
use Rattle.lp_repr.specs.declared.repr.ActionFnDefnKind.TheVariants.{User, Lookaround, Inline}
use Rattle.lp_repr.specs.declared.repr.Grammar.{Grammar}
use Rattle.lp_repr.specs.declared.repr.LookaroundActionFn.TheVariants.{Lookahead, Lookbehind}
use Rattle.lp_tree.specs.ProgramTree.{leaf}
use Rattle.lp_build.specs.declared.functions.FunctionName.TheVariants as name
use Rattle.lp_table.specs.Headers.{grammar_header}
use Rattle.lp_actions.specs.Inlines.{inline_lines}
use Rattle.lp_actions.specs.Parameters.{action_parameters, return_text}
use Rattle.lp_view.specs.PartLists.{Form, is_a, parts_of}
use Rattle.lp_core.specs.Store.{Program}
use Rattle.lp_maker.specs.Making.{Making, number_in}
use Rattle.lp_bodies.specs.Actions.{action_function, code_of}

-- the body of an action's function; code may have other blanks in front
abbrev pub IsBody : Grammar → Bool → ActionFnDefnKind → Form → Type 0
IsBody g fallible (User patterns types code) body = (is_a part.UserBody body ≡ true) × (code_of body ≡ norm_of code)
IsBody g fallible (Lookaround Lookahead) body = body ≡ leaf part.LookaheadBody []
IsBody g fallible (Lookaround Lookbehind) body = body ≡ leaf part.LookbehindBody []
IsBody g fallible (Inline outer symbols) body = body ≡ inline_lines g fallible outer symbols

-- the form of an action's function: its header and its body
pub record IsActionForm (g : Grammar) (n : ℕ) (a : ActionFnDefn) (form : Form) : Type 0 where
  pub body : Form
  pub parts : parts_of form ≡ grammar_header g (name.Action n) [] (action_parameters g a.kind) (return_text g a) ∷ body ∷ []
  pub is_body : IsBody g a.fallible a.kind body

-- a program has the function of an action under its name, and the text of its code
pub record HasAction (p : Program) (g : Grammar) (names : List (List ℕ × ℕ)) (n : ℕ) (a : ActionFnDefn) : Type 0 where
  pub number : ℕ
  pub named : number_in (codes "super::action" ++ decimal n) names ≡ Some number
  pub maker : Making
  pub knows : maker.names ≡ names
  pub prefix : maker.prefix ≡ g.prefix
  pub form : Form
  pub is : IsActionForm g n a form
  pub there : slice_get p.functions number ≡ Some (action_function maker form)
  pub text : is_a part.UserBody is.body ≡ true → slice_get p.texts (length maker.texts) ≡ Some (code_of is.body)

-- it has those of all actions
abbrev pub HasActions : Program → Grammar → List (List ℕ × ℕ) → Type 0
HasActions p g names = (n : ℕ) (a : ActionFnDefn) → slice_get g.action_fn_defns n ≡ Some a → HasAction p g names n a
