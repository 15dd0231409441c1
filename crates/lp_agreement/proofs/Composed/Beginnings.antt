-- What stands beside the modules of a built program: whether items keep their locations, and the actions that are promised.
use Rattle.std.proofs.Common.{◌≡◌, ℕ, zero, suc, ◌+◌, slice_get, Bool, true, false, if◌then◌else◌, List, [], ◌∷◌, ◌++◌, length, map, codes, is_some, Option, Some, None, refl, ap, ◌∙◌}
use Rattle.lp_form.specs.declared.part.Part.TheVariants as part
use Rattle.lp_repr.specs.declared.lr1.Lr1State.{Lr1State}
use Rattle.lp_repr.specs.declared.lr1.StartStates.{StartStates}
use Rattle.lp_repr.specs.declared.repr.ActionFnDefn.{ActionFnDefn}
use Rattle.lp_repr.specs.declared.repr.ActionFnDefnKind.{ActionFnDefnKind}
use Rattle.lp_repr.specs.declared.repr.ActionFnDefnKind.TheVariants.{User, Lookaround, Inline}
use Rattle.lp_repr.specs.declared.repr.Grammar.{Grammar}
use Rattle.lp_repr.specs.declared.repr.InternToken.{InternToken}
use Rattle.lp_repr.specs.declared.repr.LrCodeGeneration.{LrCodeGeneration}
use Rattle.lp_repr.specs.declared.repr.LrCodeGeneration.TheVariants.{RecursiveAscent, TableDriven, TestAll}
use Rattle.lp_repr.specs.declared.repr.NonterminalString.{NonterminalString}
use Rattle.lp_repr.specs.declared.repr.TypeRepr.{TypeRepr}
use Rattle.lp_tree.specs.ProgramTree.{Item, leaf, program_items}
use Rattle.lp_tree.specs.declared.tree.Program.{Program}
use Rattle.lp_build.specs.Built as built
use Rattle.lp_build.specs.Frame.{triple_part}
use Rattle.lp_build.specs.declared.frame.Triples.{Triples}
use Rattle.lp_build.specs.declared.frame.Triples.TheVariants.{Located, Plain}
use Rattle.lp_view.specs.PartLists.{Form, is_a, over}
use Rattle.lp_actions.specs.ActionFunctions.{has_parameters, kind_part}
use Rattle.lp_assembly.specs.Built.{IsBuilt, implementations, joined_clauses, triple_lines}
use Rattle.lp_maker.specs.Making.{Making}
use Rattle.lp_bodies.specs.Source.{is_located}
use Rattle.lp_run.specs.Promised.{Beginning, Promising, promising_of, promised, header_number, is_source, is_action, with_action_form, beginning_of, beginning_row, beginning}
use Rattle.lp_table.specs.FrameLines.{module_parts}
use Rattle.lp_table.specs.Starts.{Start, start_for}
use Rattle.lp_question_laws.proofs.Gotos.GotoCode.{over-append}
use Rattle.lp_agreement.proofs.Composed.Modules.{module_by, module_forms, start_forms}
use Rattle.lp_agreement.proofs.Composed.Programs.{action_forms, attribute_form, front_forms, program_parts, token_forms, use_form}

-- ---- parts that stand for nothing there
pub record IsIdle (form : Form) : Type 0 where
  pub no_source : is_source form ≡ false
  pub no_action : is_action form ≡ false

abbrev pub AreIdle : List Form → Type 0
AreIdle [] = Unit {0}
AreIdle (f ∷ fs) = IsIdle f × AreIdle fs

pub idle-append : (fs gs : List Form) → AreIdle fs → AreIdle gs → AreIdle (fs ++ gs)
idle-append [] gs a b = b
idle-append (f ∷ fs) gs a b = (a.0, idle-append fs gs a.1 b)

pub idle_map : {A : Type 0} (to : A → Form) → ((a : A) → IsIdle (to a)) → (xs : List A) → AreIdle (map to xs)
idle_map to idle [] = tt
idle_map to idle (a ∷ xs) = (idle a, idle_map to idle xs)

idle_row : (b : Beginning) (f : Form) → IsIdle f → beginning_row b f ≡ b
idle_row b f is = ap (λ (t : Bool). if t then record b { located = is_located f } else (if is_action f then with_action_form b f else b)) is.no_source ∙ ap (λ (t : Bool). if t then with_action_form b f else b) is.no_action

pub idle_rows : (b : Beginning) (fs : List Form) → AreIdle fs → over beginning_row b fs ≡ b
idle_rows b [] are = refl
idle_rows b (f ∷ fs) are = ap (λ (x : Beginning). over beginning_row x fs) (idle_row b f are.0) ∙ idle_rows b fs are.1

-- ---- actions
-- an action is promised under its printed number
abbrev pub promised_action : Promising → Form → Promising
promised_action s form = promised (codes "super::action") (header_number form) s form

pub record IsAction (form : Form) : Type 0 where
  pub no_source : is_source form ≡ false
  pub is_one : is_action form ≡ true

abbrev pub AreActions : List Form → Type 0
AreActions [] = Unit {0}
AreActions (f ∷ fs) = IsAction f × AreActions fs

action_row : (b : Beginning) (f : Form) → IsAction f → beginning_row b f ≡ with_action_form b f
action_row b f is = ap (λ (t : Bool). if t then record b { located = is_located f } else (if is_action f then with_action_form b f else b)) is.no_source ∙ ap (λ (t : Bool). if t then with_action_form b f else b) is.is_one

pub action_rows : (b : Beginning) (fs : List Form) → AreActions fs → over beginning_row b fs ≡ record b { actions = over promised_action b.actions fs }
action_rows b [] are = refl
action_rows b (f ∷ fs) are = ap (λ (x : Beginning). over beginning_row x fs) (action_row b f are.0) ∙ action_rows (with_action_form b f) fs are.1

-- parts of which all stand for nothing, then actions, then how items become triples
pub all_rows : (m : Making) (front actions : List Form) (triple : Form) → AreIdle front → AreActions actions → is_source triple ≡ true
    → over beginning_row (beginning_of false [] m) ((front ++ actions) ++ triple ∷ []) ≡ record { located = is_located triple; actions = over promised_action (promising_of [] m) actions }
all_rows m front actions triple idle are source =
    let b = beginning_of false [] m in
    let c : Beginning = record b { actions = over promised_action b.actions actions } in
    over-append beginning_row b (front ++ actions) (triple ∷ [])
    ∙ ap (λ (x : Beginning). beginning_row x triple) (over-append beginning_row b front actions ∙ ap (λ (x : Beginning). over beginning_row x actions) (idle_rows b front idle) ∙ action_rows b actions are)
    ∙ ap (λ (t : Bool). if t then record c { located = is_located triple } else (if is_action triple then with_action_form c triple else c)) source

-- ---- the built program
kind_acts : (kind : ActionFnDefnKind) (unused : Bool) (below : List Item) → IsAction (built.over (kind_part kind unused) [] below)
kind_acts (User patterns types code) true below = record { no_source = refl; is_one = refl }
kind_acts (User patterns types code) false below = record { no_source = refl; is_one = refl }
kind_acts (Lookaround place) true below = record { no_source = refl; is_one = refl }
kind_acts (Lookaround place) false below = record { no_source = refl; is_one = refl }
kind_acts (Inline outer symbols) true below = record { no_source = refl; is_one = refl }
kind_acts (Inline outer symbols) false below = record { no_source = refl; is_one = refl }

pub actions_act : (g : Grammar) (n : ℕ) (actions : List ActionFnDefn) → AreActions (action_forms g n actions)
actions_act g n [] = tt
actions_act g n (a ∷ rest) = (kind_acts a.kind (has_parameters g) _, actions_act g (n + 1) rest)

module_idle : (c : LrCodeGeneration) (g : Grammar) (states : List Lr1State) (st : Start) → IsIdle (module_by c g states st)
unfolding module_parts
module_idle RecursiveAscent g states st = record { no_source = refl; no_action = refl }
module_idle TableDriven g states st = record { no_source = refl; no_action = refl }
module_idle TestAll g states st = record { no_source = refl; no_action = refl }

start_idle : (g : Grammar) (names : Option (NonterminalString × NonterminalString)) (list : Option StartStates) → AreIdle (start_forms g names list)
start_idle g None list = tt
start_idle g (Some names) None = tt
start_idle g (Some names) (Some list) = (module_idle g.algorithm.codegen g list.states (start_for g names.0 names.1), (record { no_source = refl; no_action = refl }, tt))

pub modules_idle : (g : Grammar) (states : List StartStates) (n : ℕ) → AreIdle (module_forms g states n)
modules_idle g states zero = tt
modules_idle g states (suc n) =
    idle-append (module_forms g states n) (start_forms g (slice_get g.start_nonterminals.entries n) (slice_get states n)) (modules_idle g states n)
    (start_idle g (slice_get g.start_nonterminals.entries n) (slice_get states n))

pub front_idle : (g : Grammar) → AreIdle (front_forms g)
front_idle g =
    idle-append (map attribute_form g.module_attributes ++ map use_form g.uses) (leaf part.StandardUses [] ∷ [])
    (idle-append (map attribute_form g.module_attributes) (map use_form g.uses) (idle_map attribute_form (λ text. record { no_source = refl; no_action = refl }) g.module_attributes) (idle_map use_form (λ text. record { no_source = refl; no_action = refl }) g.uses))
    (record { no_source = refl; no_action = refl }, tt)

pub tokens_idle : (g : Grammar) (tokens : Option InternToken) → AreIdle (token_forms g tokens)
tokens_idle g None = tt
tokens_idle g (Some tokens) = (record { no_source = refl; no_action = refl }, tt)

-- how items become triples
triple_by : (clauses : Option (List ℕ)) (triples : Triples) (holes : List (List ℕ)) → (is_source (leaf (triple_part clauses triples) holes) ≡ true) × (is_located (leaf (triple_part clauses triples) holes) ≡ is_a part.ToTripleLocated (leaf (triple_part None triples) holes))
triple_by (Some c) (Located t e) holes = (refl, refl)
triple_by None (Located t e) holes = (refl, refl)
triple_by (Some c) (Plain t e) holes = (refl, refl)
triple_by None (Plain t e) holes = (refl, refl)

pub triple_source : (g : Grammar) → is_source (triple_lines g) ≡ true
triple_source g = (triple_by (joined_clauses g.where_clauses) (implementations g g.types.loc) []).0

located_by : (g : Grammar) (location : Option TypeRepr) (holes : List (List ℕ)) → is_a part.ToTripleLocated (leaf (triple_part None (implementations g location)) holes) ≡ is_some location
located_by g None holes = refl
located_by g (Some ty) holes = refl

-- items keep their locations where the grammar has a type of them
pub triple_located : (g : Grammar) → is_located (triple_lines g) ≡ is_some g.types.loc
triple_located g = (triple_by (joined_clauses g.where_clauses) (implementations g g.types.loc) []).1 ∙ located_by g g.types.loc []

-- what a built program begins with
abbrev pub built_beginning : Grammar → Making → Beginning
built_beginning g m = record { located = is_some g.types.loc; actions = over promised_action (promising_of [] m) (action_forms g 0 g.action_fn_defns) }

pub beginning_is : (g : Grammar) (states : List StartStates) (program : Program) → IsBuilt g states program → (m : Making) → beginning m (program_items program) ≡ built_beginning g m
beginning_is g states program is_built m =
    let modules = module_forms g states (length g.start_nonterminals.entries) in
    let front = (front_forms g ++ modules) ++ token_forms g g.intern_token in
    ap (over beginning_row (beginning_of false [] m)) (program_parts g states program is_built)
    ∙ all_rows m front (action_forms g 0 g.action_fn_defns) (triple_lines g)
    (idle-append (front_forms g ++ modules) (token_forms g g.intern_token) (idle-append (front_forms g) modules (front_idle g) (modules_idle g states (length g.start_nonterminals.entries))) (tokens_idle g g.intern_token))
    (actions_act g 0 g.action_fn_defns) (triple_source g)
    ∙ ap (λ (l : Bool). beginning_located l (over promised_action (promising_of [] m) (action_forms g 0 g.action_fn_defns))) (triple_located g)
  where
    beginning_located : Bool → Promising → Beginning
    beginning_located l s = record { located = l; actions = s }
