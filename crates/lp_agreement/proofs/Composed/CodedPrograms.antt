-- A built program whose user code is as it reads: the same items are entered by a name, and their code is the same.
use Rattle.std.proofs.Common.{◌≡◌, ℕ, zero, suc, ◌+◌, ◌<◌, Bool, true, false, List, [], ◌∷◌, ◌++◌, length, map, codes, is_some, Option, Some, None, slice_get, refl, sym, ap, ◌∙◌, subst}
use Rattle.std.proofs.lemmas.List.{map-append}
use Rattle.std.proofs.lemmas.Option.{slice_get_within}
use Rattle.lp_core.specs.declared.expr.Function.{Function}
use Rattle.lp_form.specs.Templates.{steps_of}
use Rattle.lp_form.specs.declared.part.Part.TheVariants as part
use Rattle.lp_repr.specs.declared.lr1.Lr1State.{Lr1State}
use Rattle.lp_repr.specs.declared.lr1.StartStates.{StartStates}
use Rattle.lp_repr.specs.declared.repr.ActionFnDefn.{ActionFnDefn}
use Rattle.lp_repr.specs.declared.repr.Grammar.{Grammar}
use Rattle.lp_repr.specs.declared.repr.LrCodeGeneration.{LrCodeGeneration}
use Rattle.lp_repr.specs.declared.repr.LrCodeGeneration.TheVariants.{RecursiveAscent, TableDriven, TestAll}
use Rattle.lp_repr.specs.declared.repr.NonterminalString.{NonterminalString}
use Rattle.lp_tree.specs.ProgramTree.{leaf, program_items}
use Rattle.lp_tree.specs.declared.tree.Program.{Program}
use Rattle.lp_view.specs.PartLists.{Form, parts_of, over, first_given}
use Rattle.lp_actions.specs.ActionFunctions.{action_lines}
use Rattle.lp_assembly.specs.Built.{IsBuilt, triple_lines}
use Rattle.lp_maker.specs.Making.{Making, defined, unmade}
use Rattle.lp_maker.specs.Slots.{Names}
use Rattle.lp_bodies.specs.Actions.{action_function, with_action}
use Rattle.lp_bodies.specs.Source.{is_located}
use Rattle.lp_ascent.specs.BuiltAscent.{built_ascent}
use Rattle.lp_emitted.proofs.AscentModules.{built_ascent_one}
use Rattle.lp_emitted.proofs.TableModules.{built_table_one}
use Rattle.lp_run.specs.Entered.{finished_module, made_after, module_made, with_parse, with_source}
use Rattle.lp_run.specs.Functions.{action_made, actions_made, all_made}
use Rattle.lp_run.specs.Named.{entered_by, items_under}
use Rattle.lp_run.specs.ParseMethod.{parameters_of}
use Rattle.lp_run.specs.Promised.{Beginning, Promising, promising_of, promised, is_source, beginning_of, beginning_row, beginning, module_rows}
use Rattle.lp_table.specs.BuiltTable.{built_table}
use Rattle.lp_table.specs.Starts.{Start, start_for}
use Rattle.lp_agreement.proofs.Composed.Beginnings.{AreActions, AreIdle, IsAction, IsIdle, actions_act, all_rows, beginning_is, front_idle, idle-append, modules_idle, promised_action, tokens_idle, triple_located, triple_source}
use Rattle.lp_agreement.proofs.Composed.CodedActions.{action_coded, function_coded, number_coded}
use Rattle.lp_agreement.proofs.Composed.Codes.{maps_fixed, no_code, parts_coded, takes_fixed}
use Rattle.lp_agreement.proofs.Composed.Modules.{IsOther, items_by, module_by, module_forms, module_given, reexport_form, start_forms}
use Rattle.lp_agreement.proofs.Composed.Programs.{action_forms, attribute_form, front_forms, front_give_none, program_parts, token_forms, use_form}
use Rattle.lp_agreement.proofs.Composed.Rows.{given_behind, given_front}
use Rattle.lp_agreement.proofs.Composed.Settled.{coded}

module _ (whitespace : Bool) where
  abbrev c : Form → Form
  c = map (coded whitespace)

  -- ---- modules have no user code
  table_fixed : (g : Grammar) (states : List Lr1State) (st : Start) → c (built_table g states st) ≡ built_table g states st
  unfolding no_code
  table_fixed g states st = takes_fixed whitespace {items = built_table g states st} (built_table_one {T = no_code} g states st (λ k d h. tt) (record { actions = tt; ends = tt }))

  ascent_fixed : (g : Grammar) (states : List Lr1State) (st : Start) → c (built_ascent g states st) ≡ built_ascent g states st
  unfolding no_code
  ascent_fixed g states st = takes_fixed whitespace {items = built_ascent g states st} (built_ascent_one {T = no_code} g states st (λ k d h. tt) (record { actions = tt; ends = tt }))

  module_fixed : (code : LrCodeGeneration) (g : Grammar) (states : List Lr1State) (st : Start) → c (module_by code g states st) ≡ module_by code g states st
  module_fixed RecursiveAscent g states st = ascent_fixed g states st
  module_fixed TableDriven g states st = table_fixed g states st
  module_fixed TestAll g states st = table_fixed g states st

  reexport_fixed : (g : Grammar) (names : NonterminalString × NonterminalString) → c (reexport_form g names) ≡ reexport_form g names
  unfolding steps_of
  reexport_fixed g names = refl

  start_fixed : (g : Grammar) (names : Option (NonterminalString × NonterminalString)) (list : Option StartStates) → map c (start_forms g names list) ≡ start_forms g names list
  start_fixed g None list = refl
  start_fixed g (Some names) None = refl
  start_fixed g (Some names) (Some list) =
      ap (λ (f : Form). f ∷ c (reexport_form g names) ∷ []) (module_fixed g.algorithm.codegen g list.states (start_for g names.0 names.1)) ∙ ap (λ (f : Form). module_by g.algorithm.codegen g list.states (start_for g names.0 names.1) ∷ f ∷ []) (reexport_fixed g names)

  modules_fixed : (g : Grammar) (states : List StartStates) (n : ℕ) → map c (module_forms g states n) ≡ module_forms g states n
  modules_fixed g states zero = refl
  modules_fixed g states (suc n) =
      let more = start_forms g (slice_get g.start_nonterminals.entries n) (slice_get states n) in
      map-append c (module_forms g states n) more ∙ ap (λ (fs : List Form). fs ++ map c more) (modules_fixed g states n) ∙ ap (λ (fs : List Form). module_forms g states n ++ fs) (start_fixed g (slice_get g.start_nonterminals.entries n) (slice_get states n))

  -- ---- the parts of the program
  abbrev coded_forms : Grammar → List StartStates → List Form
  coded_forms g states =
      (((map c (front_forms g) ++ module_forms g states (length g.start_nonterminals.entries)) ++ map c (token_forms g g.intern_token)) ++ map c (action_forms g 0 g.action_fn_defns)) ++ c (triple_lines g) ∷ []

  split : (a b d e : List Form) (f : Form) → map c ((((a ++ b) ++ d) ++ e) ++ f ∷ []) ≡ (((map c a ++ map c b) ++ map c d) ++ map c e) ++ c f ∷ []
  split a b d e f =
      map-append c (((a ++ b) ++ d) ++ e) (f ∷ [])
      ∙ ap (λ (x : List Form). x ++ c f ∷ []) (map-append c ((a ++ b) ++ d) e ∙ ap (λ (x : List Form). x ++ map c e) (map-append c (a ++ b) d ∙ ap (λ (x : List Form). x ++ map c d) (map-append c a b)))

  module _ (g : Grammar) (states : List StartStates) (program : Program) (is_built : IsBuilt g states program) where
    coded_program_parts : parts_of (c (program_items program)) ≡ coded_forms g states
    coded_program_parts =
        let modules = module_forms g states (length g.start_nonterminals.entries) in
        parts_coded whitespace (program_items program) ∙ ap (map c) (program_parts g states program is_built)
        ∙ split (front_forms g) modules (token_forms g g.intern_token) (action_forms g 0 g.action_fn_defns) (triple_lines g)
        ∙ ap (λ (x : List Form). (((map c (front_forms g) ++ x) ++ map c (token_forms g g.intern_token)) ++ map c (action_forms g 0 g.action_fn_defns)) ++ c (triple_lines g) ∷ []) (modules_fixed g states (length g.start_nonterminals.entries))

    -- ---- entering by a name
    front_fixed : map c (front_forms g) ≡ front_forms g
    unfolding steps_of
    front_fixed =
        map-append c (map attribute_form g.module_attributes ++ map use_form g.uses) (leaf part.StandardUses [] ∷ [])
        ∙ ap (λ (x : List Form). x ++ leaf part.StandardUses [] ∷ []) (map-append c (map attribute_form g.module_attributes) (map use_form g.uses)
        ∙ ap (λ (x : List Form). x ++ map c (map use_form g.uses)) (maps_fixed whitespace attribute_form (λ t. refl) g.module_attributes)
        ∙ ap (λ (x : List Form). map attribute_form g.module_attributes ++ x) (maps_fixed whitespace use_form (λ t. refl) g.uses))

    -- the first start of a name
    pub coded_named : (name : List ℕ) (i : ℕ) (names : NonterminalString × NonterminalString) (list : StartStates) → slice_get g.start_nonterminals.entries i ≡ Some names → slice_get states i ≡ Some list → names.0.0 ≡ name
        → ((j : ℕ) → j < i → IsOther name (slice_get g.start_nonterminals.entries j)) → items_under name (c (program_items program)) ≡ Some (items_by g.algorithm.codegen g list.states (start_for g names.0 names.1))
    coded_named name i names list at has is first =
        let f = entered_by name in
        let modules = module_forms g states (length g.start_nonterminals.entries) in
        let tokens = map c (token_forms g g.intern_token) in
        let actions = map c (action_forms g 0 g.action_fn_defns) in
        let items = items_by g.algorithm.codegen g list.states (start_for g names.0 names.1) in
        let given : first_given f modules ≡ Some items = module_given g states name i names list at has is first (length g.start_nonterminals.entries) (slice_get_within g.start_nonterminals.entries i names at) in
        let here : first_given f (map c (front_forms g) ++ modules) ≡ Some items = ap (λ (x : List Form). first_given f (x ++ modules)) front_fixed ∙ given_behind f (front_forms g) modules (front_give_none g name) ∙ given in
        let more : first_given f ((map c (front_forms g) ++ modules) ++ tokens) ≡ Some items = given_front f (map c (front_forms g) ++ modules) tokens items here in
        ap (first_given f) coded_program_parts
        ∙ given_front f (((map c (front_forms g) ++ modules) ++ tokens) ++ actions) (c (triple_lines g) ∷ []) items (given_front f ((map c (front_forms g) ++ modules) ++ tokens) actions items more)

  -- ---- what stands beside the modules
  idle_coded : (f : Form) → IsIdle f → IsIdle (c f)
  idle_coded [] is = is
  idle_coded (e ∷ es) is = record { no_source = is.no_source; no_action = is.no_action }

  idles_coded : (fs : List Form) → AreIdle fs → AreIdle (map c fs)
  idles_coded [] are = tt
  idles_coded (f ∷ fs) are = (idle_coded f are.0, idles_coded fs are.1)

  act_coded : (f : Form) → IsAction f → IsAction (c f)
  act_coded [] is = is
  act_coded (e ∷ es) is = record { no_source = is.no_source; is_one = is.is_one }

  acts_coded : (fs : List Form) → AreActions fs → AreActions (map c fs)
  acts_coded [] are = tt
  acts_coded (f ∷ fs) are = (act_coded f are.0, acts_coded fs are.1)

  abbrev coded_promise : ℕ × Form → ℕ × Form
  coded_promise r = (r.0, c r.1)

  abbrev coded_promising : Promising → Promising
  coded_promising s = promising_of (map coded_promise s.promises) s.made

  abbrev coded_beginning : Beginning → Beginning
  coded_beginning b = record { located = b.located; actions = coded_promising b.actions }

  promised_coded : (g : Grammar) (n : ℕ) (a : ActionFnDefn) (s : Promising) → promised_action (coded_promising s) (c (action_lines g n a)) ≡ coded_promising (promised_action s (action_lines g n a))
  promised_coded g n a s =
      let f = action_lines g n a in
      ap (λ (rest : List ℕ). promised (codes "super::action") rest (coded_promising s) (c f)) (number_coded whitespace g n a)
      ∙ ap (λ (ps : List (ℕ × Form)). promising_of ps (promised_action s f).made) (sym (map-append coded_promise s.promises ((length s.made.functions, f) ∷ [])))

  all_promised : (g : Grammar) (n : ℕ) (actions : List ActionFnDefn) (s : Promising) → over promised_action (coded_promising s) (map c (action_forms g n actions)) ≡ coded_promising (over promised_action s (action_forms g n actions))
  all_promised g n [] s = refl
  all_promised g n (a ∷ rest) s = ap (λ (t : Promising). over promised_action t (map c (action_forms g (n + 1) rest))) (promised_coded g n a s) ∙ all_promised g (n + 1) rest (promised_action s (action_lines g n a))

  triple_is_source : (f : Form) → is_source f ≡ true → is_source (c f) ≡ true
  triple_is_source [] is = is
  triple_is_source (e ∷ es) is = is

  located_coded : (f : Form) → is_located (c f) ≡ is_located f
  located_coded [] = refl
  located_coded (e ∷ es) = refl

  abbrev beginning_at : Bool → Promising → Beginning
  beginning_at located s = record { located = located; actions = s }

  module _ (g : Grammar) (states : List StartStates) (program : Program) (is_built : IsBuilt g states program) where
    coded_beginning_is : (m : Making) → beginning m (c (program_items program)) ≡ coded_beginning (beginning m (program_items program))
    coded_beginning_is m =
        let modules = module_forms g states (length g.start_nonterminals.entries) in
        let tokens = map c (token_forms g g.intern_token) in
        let acts = action_forms g 0 g.action_fn_defns in
        ap (over beginning_row (beginning_of false [] m)) (coded_program_parts g states program is_built)
        ∙ all_rows m ((map c (front_forms g) ++ modules) ++ tokens) (map c acts) (c (triple_lines g))
        (idle-append (map c (front_forms g) ++ modules) tokens (idle-append (map c (front_forms g)) modules (idles_coded (front_forms g) (front_idle g)) (modules_idle g states (length g.start_nonterminals.entries))) (idles_coded (token_forms g g.intern_token) (tokens_idle g g.intern_token)))
        (acts_coded acts (actions_act g 0 g.action_fn_defns)) (triple_is_source (triple_lines g) (triple_source g))
        ∙ ap (λ (l : Bool). beginning_at l (over promised_action (promising_of [] m) (map c acts))) (located_coded (triple_lines g) ∙ triple_located g)
        ∙ ap (beginning_at (is_some g.types.loc)) (all_promised g 0 g.action_fn_defns (promising_of [] m))
        ∙ ap coded_beginning (sym (beginning_is g states program is_built m))

  -- ---- the functions of actions
  -- promises of a grammar's actions
  abbrev pub AreOf : Grammar → List (ℕ × Form) → Type 0
  AreOf g [] = Unit {0}
  AreOf g (r ∷ rs) = ((n : ℕ) × (a : ActionFnDefn) × (r.1 ≡ action_lines g n a)) × AreOf g rs

  of-append : (g : Grammar) (rs ts : List (ℕ × Form)) → AreOf g rs → AreOf g ts → AreOf g (rs ++ ts)
  of-append g [] ts a b = b
  of-append g (r ∷ rs) ts a b = (a.0, of-append g rs ts a.1 b)

  promises_of_actions : (g : Grammar) (n : ℕ) (actions : List ActionFnDefn) (s : Promising) → AreOf g s.promises → AreOf g (over promised_action s (action_forms g n actions)).promises
  promises_of_actions g n [] s are = are
  promises_of_actions g n (a ∷ rest) s are =
      promises_of_actions g (n + 1) rest (promised_action s (action_lines g n a)) (of-append g s.promises ((length s.made.functions, action_lines g n a) ∷ []) are ((n, a, refl), tt))

  actions_coded : (g : Grammar) (m : Making) (rs : List (ℕ × Form)) → AreOf g rs → actions_made m (map coded_promise rs) ≡ actions_made m rs
  actions_coded g m [] are = refl
  actions_coded g m (r ∷ rs) are =
      let n = are.0.0 in
      let a = are.0.1 in
      let P : Form → Type 0 = λ (f : Form). action_made m (r.0, c f) ≡ action_made m (r.0, f) in
      let here : P (action_lines g n a) =
      ap (λ (f : Function). defined r.0 f (with_action (c (action_lines g n a)) m)) (function_coded whitespace g n a m) ∙ ap (λ (x : Making). defined r.0 (action_function m (action_lines g n a)) x) (action_coded whitespace g n a m) in
      let same : P r.1 = subst P (sym are.0.2) here in
      ap (λ (x : Making). actions_made x (map coded_promise rs)) same ∙ actions_coded g (action_made m r) rs are.1

  -- ---- the code of items
  module _ (g : Grammar) (states : List StartStates) (program : Program) (is_built : IsBuilt g states program) where
    after_coded : (items : Form) (names : Names) (b : Beginning) → AreOf g b.actions.promises → made_after items names (coded_beginning b) ≡ made_after items names b
    unfolding made_after
    after_coded items names b are =
        let s = module_rows (with_source items b.located b.actions.made) items in
        ap (with_parse items names) (actions_coded g (all_made s.made s.promises) b.actions.promises are)

    beginning_of_actions : (m : Making) → AreOf g (beginning m (program_items program)).actions.promises
    beginning_of_actions m = subst (λ (b : Beginning). AreOf g b.actions.promises) (sym (beginning_is g states program is_built m)) (promises_of_actions g 0 g.action_fn_defns (promising_of [] m) tt)

    pub module_coded : (prefix : List ℕ) (items : Form) → module_made prefix (c (program_items program)) items ≡ module_made prefix (program_items program) items
    unfolding module_made
    module_coded prefix items =
        let names = parameters_of prefix items in
        let b = beginning (unmade prefix) (program_items program) in
        ap (λ (x : Beginning). finished_module names.next x.located (made_after items names x)) (coded_beginning_is g states program is_built (unmade prefix))
        ∙ ap (finished_module names.next b.located) (after_coded items names b (beginning_of_actions (unmade prefix)))
