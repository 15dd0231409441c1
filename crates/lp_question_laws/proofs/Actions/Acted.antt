-- The call of an action's function does what the tables' action does.
use Rattle.std.proofs.Common.{◌≡◌, ℕ, ◌*◌, ◌<◌, ◌≤◌, ◌^◌, true, List, length, map, Some, refl, arith}
use Rattle.std.specs.Prelude.{slice_get}
use Rattle.std.proofs.Math.Nat.{mul-add}
use Rattle.lp_repr.specs.declared.lr1.Lr1State.{Lr1State}
use Rattle.lp_repr.specs.declared.repr.ActionFnDefn.{ActionFnDefn}
use Rattle.lp_repr.specs.declared.repr.Grammar.{Grammar}
use Rattle.lp_repr.specs.declared.values.Loc.{Loc}
use Rattle.lp_driver.specs.declared.answers.Expecting.{Expecting}
use Rattle.lp_driver.specs.Values.{Text, Spanned, Value}
use Rattle.lp_core.specs.Store.{Program}
use Rattle.lp_core.specs.Val.{Val}
use Rattle.lp_machine.specs.declared.calls.Acted.{Acted}
use Rattle.lp_machine.specs.GrammarTables.{grammar_tables, params_among}
use Rattle.lp_maker.specs.declared.methods.Methods.{Methods}
use Rattle.lp_maker.specs.Making.{number_in}
use Rattle.lp_table.specs.Headers.{names_of}
use Rattle.lp_table.specs.Starts.{Start}
use Rattle.lp_view.specs.PartLists.{Form}
use Rattle.lp_run.specs.Entered.{module_made}
use Rattle.lp_turns.specs.Asking.{Asking}
use Rattle.lp_valid.specs.ActionRules.{kind_takes}
use Rattle.lp_valid.specs.ValidGrammar.{IsValidGrammar}
use Rattle.lp_code_laws.specs.Ends.Ends.{Moment}
use Rattle.lp_question_laws.proofs.Gotos.GotoAnswered.{built_items}
use Rattle.lp_question_laws.specs.Tables.Acts.{Acts, arguments}
use Rattle.lp_question_laws.proofs.Tables.Built.{RunsBuilt}
use Rattle.lp_question_laws.specs.Actions.Forms.{HasForms}
use Rattle.lp_question_laws.specs.Actions.Nesting.{action_cost}
use Rattle.lp_question_laws.specs.Actions.Params.{AreParams}
use Rattle.lp_question_laws.specs.Actions.Performs.{Performs, quiet}
use Rattle.lp_question_laws.specs.Actions.Stands.{HasActions}
use Rattle.lp_question_laws.proofs.Actions.Depth.{IsPlainGrammar, all_act, size_some, size_within}
use Rattle.lp_question_laws.proofs.Actions.Linked.{action_name}
use Rattle.lp_question_laws.proofs.Actions.LinkedModule.{names_made, has_actions}
use Rattle.lp_question_laws.proofs.Actions.Nested.{all_nest}
use Rattle.lp_question_laws.proofs.Actions.Rules.{quiet_small}

some_cost : (g : Grammar) (n : ℕ) (a : ActionFnDefn) → slice_get g.action_fn_defns n ≡ Some a → 1 ≤ action_cost g
some_cost g n a there =
    let s = size_some a.kind in
    let w = size_within g.action_fn_defns n a there in
    omega (arith, s, w)

acts_as : (p : Program) (f : ℕ) (args : List Val) (fallible : _) (extra : ℕ) (acted : Acted) (most : ℕ) (m : Moment) → extra ≤ 1 → 1 ≤ most → Performs p f args fallible extra acted most m → Acts p f args fallible acted most m
acts_as p f args fallible extra acted most m small some r =
    let k = mul-add most (length acted.calls) 1 in
    record { steps = r.steps; few = (let w = r.few in let one : most * 1 ≡ most = omega arith in omega (arith, w, k, one, small, some)); ends = r.ends }

-- a program with the functions of all actions
module _ (p : Program) (g : Grammar) (names : List (List ℕ × ℕ)) (actions : HasActions p g names) (valid : IsValidGrammar g) (plain : IsPlainGrammar g) (held : List ℕ → Val)
    (states : List Lr1State) (expecting : Expecting) (params : List Text) (failing : List ℕ) (are : AreParams p (map held (names_of g)) (params_among g.parameters params g.parameters)) (same : p.failing ≡ failing) where
  -- under an action's name stands a function that does what its action does
  pub action_acts : (n : ℕ) (a : ActionFnDefn) → slice_get g.action_fn_defns n ≡ Some a → (f : ℕ) × (number_in (action_name n) names ≡ Some f)
      × ((xs : List (Spanned Value)) (place : Loc × Loc) (m : Moment) → kind_takes a.kind (length xs) ≡ true
      → Acts p f (arguments (map held (names_of g)) xs place) a.fallible ((grammar_tables g states expecting params failing).act n xs place (length m.calls)) (action_cost g) m)
  action_acts n a there =
      let has = actions n a there in (
        has.number,
        has.named,
        λ xs place m takes_so. acts_as p has.number (arguments (map held (names_of g)) xs place) a.fallible (quiet a.kind) ((grammar_tables g states expecting params failing).act n xs place (length m.calls)) (action_cost g) m (quiet_small a.kind) (some_cost g n a there)
            (all_act p g names actions valid plain held (params_among g.parameters params g.parameters) are failing same (length g.action_fn_defns) n a there (action_cost g) (all_nest g valid n a there) xs place m takes_so),
      )

module _ {prefix : List ℕ} {program : Form} {g : Grammar} {states : List Lr1State} {st : Start} {asked : Asking} {methods : Methods} (runs : RunsBuilt prefix program g states st asked methods) where
  -- in a program that runs the built module
  pub built_acts : asked.program.texts ≡ (module_made prefix program (built_items g states st)).texts → HasForms g program → prefix ≡ g.prefix → length g.action_fn_defns < 2 ^ 64 → IsValidGrammar g → IsPlainGrammar g
      → (held : List ℕ → Val) (expecting : Expecting) (params : List Text) → AreParams asked.program (map held (names_of g)) (params_among g.parameters params g.parameters)
      → (n : ℕ) (a : ActionFnDefn) → slice_get g.action_fn_defns n ≡ Some a → (f : ℕ) × (number_in (action_name n) (names_made runs) ≡ Some f)
      × ((xs : List (Spanned Value)) (place : Loc × Loc) (m : Moment) → kind_takes a.kind (length xs) ≡ true
      → Acts asked.program f (arguments (map held (names_of g)) xs place) a.fallible ((grammar_tables g states expecting params asked.program.failing).act n xs place (length m.calls)) (action_cost g) m)
  built_acts texts forms same small valid plain held expecting params are =
      action_acts asked.program g (names_made runs) (has_actions runs texts forms same small) valid plain held states expecting params asked.program.failing are refl
