-- The functions of actions as they are built are the forms of the actions.
use Rattle.std.proofs.Common.{◌≡◌, ℕ, ◌+◌, Bool, true, false, List, [], ◌∷◌, ◌++◌, refl, ap, sym, ◌∙◌, append-nil}
use Rattle.lp_repr.specs.declared.repr.ActionFnDefn.{ActionFnDefn}
use Rattle.lp_repr.specs.declared.repr.ActionFnDefnKind.{ActionFnDefnKind}
use Rattle.lp_repr.specs.declared.repr.ActionFnDefnKind.TheVariants.{User, Lookaround, Inline}
use Rattle.lp_repr.specs.declared.repr.Grammar.{Grammar}
use Rattle.lp_repr.specs.declared.repr.LookaroundActionFn.TheVariants.{Lookahead, Lookbehind}
use Rattle.lp_build.specs.Built.{over}
use Rattle.lp_build.specs.declared.functions.FunctionName.TheVariants as name
use Rattle.lp_tree.specs.ProgramTree.{Item}
use Rattle.lp_table.specs.Headers.{header_lines, grammar_header}
use Rattle.lp_actions.specs.ActionFunctions.{kind_lines, kind_part, has_parameters, action_lines, functions_from, action_functions}
use Rattle.lp_actions.specs.Parameters.{action_parameters, return_text}
use Rattle.lp_view.specs.PartLists.{Form, parts_of}
use Rattle.lp_run.specs.Promised.{is_action, is_source}
use Rattle.lp_question_laws.proofs.Gotos.Whole.{AreWhole, IsWhole, flat, parts_over}
use Rattle.lp_question_laws.specs.Actions.Forms.{IsAction, AreActions}
use Rattle.lp_question_laws.specs.Actions.Stands.{IsBody}

-- the function of each action as a form
abbrev pub action_forms : Grammar → ℕ → List ActionFnDefn → List Form
action_forms g n [] = []
action_forms g n (a ∷ rest) = action_lines g n a ∷ action_forms g (n + 1) rest

forms_flat : (g : Grammar) (n : ℕ) (actions : List ActionFnDefn) → functions_from g n actions ≡ flat (action_forms g n actions)
forms_flat g n [] = refl
forms_flat g n (a ∷ rest) = ap (λ l. action_lines g n a ++ l) (forms_flat g (n + 1) rest)

-- they are the functions of the program
pub functions_flat : (g : Grammar) → action_functions g ≡ flat (action_forms g 0 g.action_fn_defns)
unfolding action_functions
functions_flat g = forms_flat g 0 g.action_fn_defns

pub forms_whole : (g : Grammar) (n : ℕ) (actions : List ActionFnDefn) → AreWhole (action_forms g n actions)
forms_whole g n [] = tt
forms_whole g n (a ∷ rest) = (refl, forms_whole g (n + 1) rest)

header_whole : (g : Grammar) (n : ℕ) (texts : List (List ℕ)) (answer : List ℕ) → IsWhole (grammar_header g (name.Action n) [] texts answer)
unfolding header_lines
header_whole g n texts answer = refl

body_whole : (g : Grammar) (fallible : Bool) (kind : ActionFnDefnKind) → IsWhole (kind_lines g fallible kind)
body_whole g fallible (User patterns types code) = refl
body_whole g fallible (Lookaround Lookahead) = refl
body_whole g fallible (Lookaround Lookbehind) = refl
body_whole g fallible (Inline outer symbols) = refl

built_body : (g : Grammar) (fallible : Bool) (kind : ActionFnDefnKind) → IsBody g fallible kind (kind_lines g fallible kind)
built_body g fallible (User patterns types code) = (refl, refl)
built_body g fallible (Lookaround Lookahead) = refl
built_body g fallible (Lookaround Lookbehind) = refl
built_body g fallible (Inline outer symbols) = refl

is_taken : (kind : ActionFnDefnKind) (unused : Bool) (below : List Item) → (is_action (over (kind_part kind unused) [] below) ≡ true) × (is_source (over (kind_part kind unused) [] below) ≡ false)
is_taken (User patterns types code) true below = (refl, refl)
is_taken (User patterns types code) false below = (refl, refl)
is_taken (Lookaround place) true below = (refl, refl)
is_taken (Lookaround place) false below = (refl, refl)
is_taken (Inline outer symbols) true below = (refl, refl)
is_taken (Inline outer symbols) false below = (refl, refl)

built_action : (g : Grammar) (n : ℕ) (a : ActionFnDefn) → IsAction g n a (action_lines g n a)
built_action g n a =
    let head = grammar_header g (name.Action n) [] (action_parameters g a.kind) (return_text g a) in
    let body = kind_lines g a.fallible a.kind in
    let taken = is_taken a.kind (has_parameters g) (head ++ body) in
    record {
      is = record {
        body = body;
        parts = ap (λ below. parts_of (over (kind_part a.kind (has_parameters g)) [] (head ++ below))) (sym (append-nil body))
            ∙ parts_over (kind_part a.kind (has_parameters g)) [] (head ∷ body ∷ []) (header_whole g n (action_parameters g a.kind) (return_text g a), (body_whole g a.fallible a.kind, tt));
        is_body = built_body g a.fallible a.kind;
      };
      taken = taken.0;
      no_source = taken.1;
    }

pub forms_are : (g : Grammar) (n : ℕ) (actions : List ActionFnDefn) → AreActions g n actions (action_forms g n actions)
forms_are g n [] = tt
forms_are g n (a ∷ rest) = (built_action g n a, forms_are g (n + 1) rest)
