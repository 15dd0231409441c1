-- What is made of a module, step by step.
use Rattle.std.proofs.Common.{◌≡◌, ℕ, Bool, List, map, Option, Some, ap, ◌∙◌}
use Rattle.std.specs.Prelude.{length}
use Rattle.lp_core.specs.declared.expr.Function.{Function}
use Rattle.lp_view.specs.PartLists.{Form}
use Rattle.lp_maker.specs.Making.{Making, Entries, unmade, finished, with_function}
use Rattle.lp_maker.specs.Slots.{Names}
use Rattle.lp_bodies.specs.Reductions.{Done, function_done}
use Rattle.lp_run.specs.Promised.{Beginning, Promising, beginning, beginning_of, promising_of, module_rows}
use Rattle.lp_run.specs.Functions.{all_made, actions_made}
use Rattle.lp_run.specs.ParseMethod.{Parse, By_call, Parsing, parsing_of, by_function, parse_made, parameters_of}
use Rattle.lp_run.specs.Module.{Module}
use Rattle.lp_run.specs.Entered.{Ready, ready_of, with_source, with_parse, with_functions, made_after, finished_module, module_with, module_made}

-- a call of a function that was made of this
pub called_by : (params count number : ℕ) (function : Function) (d whole : Done) (made : Making) → params ≡ count → function ≡ function_done params d → number ≡ length d.made.functions → made ≡ with_function (Some function) d.made → d ≡ whole
    → parsing_of (By_call number) made ≡ by_function count whole
called_by params count number function d whole made counted is numbered makes same =
    ap (λ (n : ℕ). parsing_of (By_call n) made) numbered
    ∙ ap (parsing_of (By_call (length d.made.functions))) (makes ∙ ap (λ (f : Function). with_function (Some f) d.made) is)
    ∙ ap (by_function params) same
    ∙ ap (λ (n : ℕ). by_function n whole) counted

module _ (items : Form) (names : Names) (actions : List (ℕ × Form)) (closure : Option ℕ) (parsing : Parsing) where
  functions_made : (s : Promising) (m n : Making) → m ≡ all_made s.made s.promises → n ≡ actions_made m actions → closure ≡ n.item_closure → parsing ≡ parse_made n items names
      → ready_of closure parsing ≡ with_functions items names actions s
  functions_made s m n all acted same h =
      ap (λ (c : Option ℕ). ready_of c parsing) same ∙ ap (ready_of n.item_closure) h
      ∙ ap (with_parse items names) (acted ∙ ap (λ (x : Making). actions_made x actions) all)

  pub all_after : (located : Bool) (m sourced declared functions acted : Making) (promises : List (ℕ × Form)) → sourced ≡ with_source items located m → promising_of promises declared ≡ module_rows sourced items
      → functions ≡ all_made declared promises → acted ≡ actions_made functions actions → closure ≡ acted.item_closure → parsing ≡ parse_made acted items names
      → ready_of closure parsing ≡ made_after items names (beginning_of located actions m)
  unfolding made_after
  all_after located m sourced declared functions acted promises source rows all actions_are same h =
      functions_made (promising_of promises declared) functions acted all actions_are same h
      ∙ ap (with_functions items names actions) (rows ∙ ap (λ (x : Making). module_rows x items) source)

abbrev module_by : List Function → List Entries → List (List ℕ) → Parse → ℕ → Option ℕ → Bool → Module
module_by functions tables texts parse params closure located =
    record { functions = functions; tables = tables; texts = texts; parse = parse; params = params; closure = closure; located = located }

-- a module by its parts
pub finished_is : (functions : List Function) (tables : List Entries) (texts : List (List ℕ)) (params count : ℕ) (located : Bool) (r : Ready) → functions ≡ map finished r.parsing.made.functions → tables ≡ r.parsing.made.tables → texts ≡ r.parsing.made.texts → params ≡ count
    → module_by functions tables texts r.parsing.parse params r.closure located ≡ finished_module count located r
finished_is functions tables texts params count located r e f g h =
    ap (λ (x : List Function). module_by x tables texts r.parsing.parse params r.closure located) e
    ∙ ap (λ (x : List Entries). module_by (map finished r.parsing.made.functions) x texts r.parsing.parse params r.closure located) f
    ∙ ap (λ (x : List (List ℕ)). module_by (map finished r.parsing.made.functions) r.parsing.made.tables x r.parsing.parse params r.closure located) g
    ∙ ap (λ (x : ℕ). module_by (map finished r.parsing.made.functions) r.parsing.made.tables r.parsing.made.texts r.parsing.parse x r.closure located) h

pub entered_known : (prefix other : List ℕ) (program items : Form) (start : Making) (names : Names) (b : Beginning) (r : Ready) (m : Module) → prefix ≡ other → start ≡ unmade prefix → names ≡ parameters_of prefix items → b ≡ beginning start program
    → m ≡ finished_module names.next b.located r → r ≡ made_after items names b → m ≡ module_made other program items
unfolding module_made
entered_known prefix other program items start names b r m same began named begun is h =
    is ∙ ap (finished_module names.next b.located) h
    ∙ ap (λ (x : Names). module_with items x b) named
    ∙ ap (module_with items (parameters_of prefix items)) (begun ∙ ap (λ (x : Making). beginning x program) began)
    ∙ ap (λ (x : List ℕ). module_with items (parameters_of x items) (beginning (unmade x) program)) same
