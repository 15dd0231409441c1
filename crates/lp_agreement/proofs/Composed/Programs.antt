-- The parts of a program that was built, and what a name enters in it.
use Rattle.std.proofs.Common.{◌≡◌, ℕ, ◌+◌, ◌<◌, List, [], ◌∷◌, ◌++◌, map, length, Option, Some, None, slice_get, refl, ap, ◌∙◌}
use Rattle.std.proofs.lemmas.Option.{slice_get_within}
use Rattle.lp_form.specs.declared.part.Part.TheVariants as part
use Rattle.lp_repr.specs.declared.lr1.StartStates.{StartStates}
use Rattle.lp_repr.specs.declared.repr.ActionFnDefn.{ActionFnDefn}
use Rattle.lp_repr.specs.declared.repr.Grammar.{Grammar}
use Rattle.lp_repr.specs.declared.repr.InternToken.{InternToken}
use Rattle.lp_repr.specs.declared.repr.NonterminalString.{NonterminalString}
use Rattle.lp_tree.specs.ProgramTree.{leaf, program_items}
use Rattle.lp_tree.specs.declared.tree.Program.{Program}
use Rattle.lp_build.specs.Built as built
use Rattle.lp_view.specs.PartLists.{Form, parts_of, first_given}
use Rattle.lp_table.specs.Starts.{start_for}
use Rattle.lp_actions.specs.ActionFunctions.{action_functions, action_lines, functions_from}
use Rattle.lp_assembly.specs.Built.{IsBuilt, front_lines, intern_lines, token_lines, triple_lines}
use Rattle.lp_run.specs.Named.{named, entered_by}
use Rattle.lp_question_laws.proofs.Gotos.Whole.{IsWhole, flat}
use Rattle.lp_agreement.proofs.Composed.Modules.{IsOther, items_by, module_forms, module_given, modules_are}
use Rattle.lp_agreement.proofs.Composed.Rows.{AreForms, no_form, one_form, forms_then, forms_flat, parts_are, GiveNone, given_behind, given_front, none-append, none_map}

-- ---- what stands before the modules and behind them
abbrev pub attribute_form : List ℕ → Form
attribute_form text = leaf part.Attribute (text ∷ [])

abbrev pub use_form : List ℕ → Form
use_form text = leaf part.UseLine (text ∷ [])

abbrev pub front_forms : Grammar → List Form
front_forms g = (map attribute_form g.module_attributes ++ map use_form g.uses) ++ leaf part.StandardUses [] ∷ []

abbrev pub token_forms : Grammar → Option InternToken → List Form
token_forms g None = []
token_forms g (Some tokens) = intern_lines g tokens.match_entries ∷ []

-- the functions of actions from a number on
abbrev pub action_forms : Grammar → ℕ → List ActionFnDefn → List Form
action_forms g n [] = []
action_forms g n (a ∷ rest) = action_lines g n a ∷ action_forms g (n + 1) rest

-- all parts of the program
abbrev pub program_forms : Grammar → List StartStates → List Form
program_forms g states =
    (((front_forms g ++ module_forms g states (length g.start_nonterminals.entries)) ++ token_forms g g.intern_token) ++ action_forms g 0 g.action_fn_defns) ++ triple_lines g ∷ []

front_are : (g : Grammar) → AreForms (front_lines g) (front_forms g)
front_are g =
    forms_then (forms_then (forms_flat attribute_form (λ text. refl) g.module_attributes) (forms_flat use_form (λ text. refl) g.uses)) (one_form (leaf part.StandardUses []) refl)

tokens_are : (g : Grammar) (tokens : Option InternToken) → AreForms (token_lines g tokens) (token_forms g tokens)
tokens_are g None = no_form
tokens_are g (Some tokens) = one_form (intern_lines g tokens.match_entries) refl

actions_from : (g : Grammar) (n : ℕ) (actions : List ActionFnDefn) → AreForms (functions_from g n actions) (action_forms g n actions)
actions_from g n [] = no_form
actions_from g n (a ∷ rest) = forms_then (one_form (action_lines g n a) refl) (actions_from g (n + 1) rest)

actions_are : (g : Grammar) → AreForms (action_functions g) (action_forms g 0 g.action_fn_defns)
unfolding action_functions
actions_are g = actions_from g 0 g.action_fn_defns

triple_whole : (g : Grammar) → IsWhole (triple_lines g)
triple_whole g = refl

-- in front of the modules no name enters any
pub front_give_none : (g : Grammar) (name : List ℕ) → GiveNone (entered_by name) (front_forms g)
front_give_none g name =
    none-append (entered_by name) (map attribute_form g.module_attributes ++ map use_form g.uses) (leaf part.StandardUses [] ∷ [])
    (none-append (entered_by name) (map attribute_form g.module_attributes) (map use_form g.uses) (none_map (entered_by name) attribute_form (λ text. refl) g.module_attributes) (none_map (entered_by name) use_form (λ text. refl) g.uses))
    (refl, tt)

module _ (g : Grammar) (states : List StartStates) (program : Program) (is_built : IsBuilt g states program) where
  program_are : AreForms ((((front_lines g ++ is_built.modules) ++ token_lines g g.intern_token) ++ action_functions g) ++ triple_lines g) (program_forms g states)
  program_are =
      forms_then (forms_then (forms_then (forms_then (front_are g) (modules_are g states (length g.start_nonterminals.entries) is_built.modules is_built.each)) (tokens_are g g.intern_token)) (actions_are g)) (one_form (triple_lines g) (triple_whole g))

  pub program_parts : parts_of (program_items program) ≡ program_forms g states
  program_parts = ap parts_of is_built.parts ∙ parts_are part.Program [] program_are

  pub program_flat : program_items program ≡ built.over part.Program [] (flat (program_forms g states))
  program_flat = is_built.parts ∙ ap (built.over part.Program []) program_are.are

  -- the first start of a name is entered by it
  pub named_is : (name : List ℕ) (i : ℕ) (names : NonterminalString × NonterminalString) (list : StartStates) → slice_get g.start_nonterminals.entries i ≡ Some names → slice_get states i ≡ Some list → names.0.0 ≡ name
      → ((j : ℕ) → j < i → IsOther name (slice_get g.start_nonterminals.entries j)) → named program name ≡ Some (items_by g.algorithm.codegen g list.states (start_for g names.0 names.1))
  named_is name i names list at has is first =
      let f = entered_by name in
      let modules = module_forms g states (length g.start_nonterminals.entries) in
      let items = items_by g.algorithm.codegen g list.states (start_for g names.0 names.1) in
      let given : first_given f modules ≡ Some items = module_given g states name i names list at has is first (length g.start_nonterminals.entries) (slice_get_within g.start_nonterminals.entries i names at) in
      let here : first_given f (front_forms g ++ modules) ≡ Some items = given_behind f (front_forms g) modules (front_give_none g name) ∙ given in
      let more : first_given f ((front_forms g ++ modules) ++ token_forms g g.intern_token) ≡ Some items = given_front f (front_forms g ++ modules) (token_forms g g.intern_token) items here in
      let all : first_given f (((front_forms g ++ modules) ++ token_forms g g.intern_token) ++ action_forms g 0 g.action_fn_defns) ≡ Some items =
      given_front f ((front_forms g ++ modules) ++ token_forms g g.intern_token) (action_forms g 0 g.action_fn_defns) items more in
      ap (first_given f) program_parts ∙ given_front f (((front_forms g ++ modules) ++ token_forms g g.intern_token) ++ action_forms g 0 g.action_fn_defns) (triple_lines g ∷ []) items all
