-- A start agrees with its tables where the runs of its items are told by these; of a module by tables they are, where it answers its driver by the tables.
use Rattle.std.proofs.Common.{◌≡◌, ℕ, ◌+◌, ◌*◌, ◌<◌, ◌≤◌, nat_lt, true, false, All, List, ◌++◌, length, codes, Option, Some, None, IfSome, slice_get, arith, refl, sym, ap, ◌∙◌, subst}
use Rattle.std.specs.List.{list_all}
use Rattle.std.specs.Str.{bytes_eq}
use Rattle.std.proofs.lemmas.Bool.{and_parts, eq-eqb}
use Rattle.std.proofs.lemmas.Option.{slice_get_within}
use Rattle.lp_repr.specs.Numbering.{productions_of}
use Rattle.lp_repr.specs.ValidTables.{IsValidTables}
use Rattle.lp_repr.specs.declared.lr1.StartStates.{StartStates}
use Rattle.lp_repr.specs.declared.repr.Grammar.{Grammar}
use Rattle.lp_repr.specs.declared.repr.NonterminalString.{NonterminalString}
use Rattle.lp_repr.specs.declared.values.RunItem.{RunItem}
use Rattle.lp_driver.specs.declared.answers.Expecting.TheVariants.{Trial}
use Rattle.lp_driver.specs.Values.{Text}
use Rattle.lp_tree.specs.ProgramTree.{program_items}
use Rattle.lp_tree.specs.declared.tree.Program.{Program}
use Rattle.lp_view.specs.Weights.{weight}
use Rattle.lp_write.specs.declared.rust.Options.{Options}
use Rattle.lp_program.specs.Reads.{is_prefix}
use Rattle.lp_spelling.specs.HoleEnds.{is_word}
use Rattle.lp_reading_laws.proofs.Holes.Words.{prefix_words}
use Rattle.lp_texts.specs.Identifiers.{is_identifier}
use Rattle.lp_assembly.specs.Built.{IsBuilt}
use Rattle.lp_fitting.specs.Fitting.{IsFitting}
use Rattle.lp_emitted.specs.Emittable.{IsEmittable}
use Rattle.lp_emitted.proofs.Fitting.{emitted_has_prefix}
use Rattle.lp_table.specs.Starts.{start_for}
use Rattle.lp_run.specs.Entered.{module_made}
use Rattle.lp_run.specs.Module.{Module}
use Rattle.lp_run.specs.ParseMethod.{parameters_of}
use Rattle.lp_run.specs.ProgramRun.{Finish}
use Rattle.lp_run.specs.RunTold.{RunsModule}
use Rattle.lp_question_laws.proofs.Gotos.LinkHeaders.{IsWordy}
use Rattle.lp_question_laws.proofs.Gotos.GotoAnswered.{built_items}
use Rattle.lp_view.specs.PartLists.{Form}
use Rattle.lp_agrees.specs.Machine.{MatchesOne}
use Rattle.lp_agrees.specs.Agrees.{Agrees, Told}
use Rattle.lp_agrees.specs.Emission.{IsByTables}
use Rattle.lp_agreement.proofs.Composed.Answers.{AnswersRestBuilt, answers_all}
use Rattle.lp_agreement.proofs.Composed.Counts.{productions_fit, states_fit}
use Rattle.lp_agreement.proofs.Composed.Counting.{cost_less, counted}
use Rattle.lp_agreement.proofs.Composed.Entering.{EntersCode}
use Rattle.lp_agreement.proofs.Composed.Modules.{IsOther}
use Rattle.lp_agreement.proofs.Composed.Names.{words_lack}
use Rattle.lp_agreement.proofs.Composed.Parameters.{parameters_counted}
use Rattle.lp_agreement.proofs.Composed.Plain.{parameters_plain}
use Rattle.lp_agreement.proofs.Composed.Runs.{module_runs}
use Rattle.lp_agreement.proofs.Composed.Told.{built_told}
use Rattle.lp_agreement.proofs.Composed.ProgramWeights.{built_counts}
use Rattle.lp_agreement.proofs.Composed.Weights.{steps_of_actions, symbols_of}

-- no two starts have one public name
abbrev pub AreApart : Grammar → Type 0
AreApart g =
    (i j : ℕ) (names other : NonterminalString × NonterminalString) → j < i → slice_get g.start_nonterminals.entries i ≡ Some names → slice_get g.start_nonterminals.entries j ≡ Some other → bytes_eq other.0.0 names.0.0 ≡ false

pub others : (g : Grammar) → AreApart g → (i : ℕ) (names : NonterminalString × NonterminalString) → slice_get g.start_nonterminals.entries i ≡ Some names → (j : ℕ) → j < i → IsOther names.0.0 (slice_get g.start_nonterminals.entries j)
others g apart i names at j less = by (slice_get g.start_nonterminals.entries j) refl
  where
    by : (o : Option (NonterminalString × NonterminalString)) → slice_get g.start_nonterminals.entries j ≡ o → IsOther names.0.0 o
    by None e = tt
    by (Some other) e = apart i j names other less at e

-- the prefix is of word bytes
pub prefix_wordy : (g : Grammar) (states : List StartStates) (built : Program) → IsEmittable g states → IsBuilt g states built → IsFitting built → IsWordy g.prefix
prefix_wordy g states built may is_built fits =
    let is : is_prefix built.prefix ≡ true = emitted_has_prefix g states built may is_built fits in
    let words : list_all is_word built.prefix ≡ true = prefix_words built.prefix fits.prefix_utf8 (and_parts (nat_lt 0 (length built.prefix)) (is_identifier (built.prefix ++ codes "lalrpop_util")) is).1 in
    let own : list_all is_word g.prefix ≡ true = ap (list_all is_word) (sym is_built.prefix) ∙ words in
    record { no_and = words_lack 38 refl g.prefix own; no_open = words_lack 40 refl g.prefix own; no_colon = words_lack 58 refl g.prefix own }

-- the built module of a start answers the questions about items, tokens, expected lists and reductions by the tables, whatever it is run on
abbrev pub StartAnswers : Grammar → Program → StartStates → NonterminalString × NonterminalString → ℕ → Type 0
StartAnswers g built list names cost =
    (items : List RunItem) (params : List Text) (failing : List ℕ) → length params ≡ length g.parameters → AnswersRestBuilt g.prefix (program_items built) g list.states (start_for g names.0 names.1) items params failing cost

-- a cost that is no more than what a program weighs at least, and not too small
pub record IsCost (g : Grammar) (cost : ℕ) : Type 0 where
  pub some : 2 ≤ cost
  pub few : cost ≤ 33 + symbols_of (productions_of g) + steps_of_actions g.action_fn_defns

pub valid_at : (g : Grammar) (states : List StartStates) (i : ℕ) (list : StartStates) → slice_get states i ≡ Some list → IfSome (slice_get states i) (λ l. IsValidTables g i l.states) → IsValidTables g i list.states
valid_at g states i list has valid = subst (λ (o : Option StartStates). IfSome o (λ l. IsValidTables g i l.states)) has valid

-- ---- a start whose items are entered
-- runs of the code of these items are told by the machine over a start's states, a move costing at most so much
abbrev pub IsTold : Grammar → Program → StartStates → Form → ℕ → Type 0
IsTold g built list form most =
    (items : List RunItem) (params : List Text) (failing : List ℕ) (budget : ℕ) → length params ≡ length g.parameters → All (MatchesOne g) items
    → (finish : Finish) → RunsModule (module_made g.prefix (program_items built) form) items params failing budget finish → Told g list.states Trial items params failing most budget finish

-- so the start agrees with them where they are entered, and have the grammar's parameters
pub agrees_entered : (g : Grammar) (built read : Program) (name : List ℕ) (list : StartStates) (form : Form) → EntersCode read name (module_made g.prefix (program_items built) form) (parameters_of g.prefix form).next
    → (parameters_of g.prefix form).next ≡ length g.parameters → IsTold g built list form (weight read * weight read) → Agrees read g list.states Trial name
agrees_entered g built read name list form code counted told items params failing budget enough known finish runs =
    told items params failing budget enough known finish
    (subst (λ (m : Module). RunsModule m items params failing budget finish) code.is
    (module_runs items params failing budget finish read name code.items code.enters (eq-eqb _ (length params) (code.counts ∙ counted ∙ sym enough)) runs))

-- ---- by tables
module _ (g : Grammar) (states : List StartStates) (built : Program) (may : IsEmittable g states) (is_built : IsBuilt g states built) (fits : IsFitting built) (by : IsByTables g.algorithm.codegen) (cost : ℕ) (is_cost : IsCost g cost)
    (i : ℕ) (names : NonterminalString × NonterminalString) (list : StartStates) (at : slice_get g.start_nonterminals.entries i ≡ Some names) (has : slice_get states i ≡ Some list) where
  -- where the module of a start answers by the tables, its runs are told by the machine
  pub tables_told : StartAnswers g built list names cost → (heavy : ℕ) → counted (program_items built) ≤ heavy → IsTold g built list (built_items g list.states (start_for g names.0 names.1)) (heavy * heavy)
  tables_told answers heavy weighs items params failing budget enough known finish run =
      let st = start_for g names.0 names.1 in
      let tables = valid_at g states i list has (may.tabled i).1 in
      let begins = slice_get_within g.start_nonterminals.entries i names at in
      let least = built_counts g states i names list at has built is_built by in
      let few : 9 * cost < heavy * heavy = cost_less cost heavy (let few = is_cost.few in omega (arith, few, least, weighs)) (omega (arith, least, weighs)) in
      let all = answers_all g.prefix (program_items built) g i list.states st may.valid tables begins (states_fit g states may i list has) (productions_fit g states may) items params failing cost is_cost.some (answers items params failing enough) in
      built_told (program_items built) g i list.states st may.valid tables begins (prefix_wordy g states built may is_built fits) (parameters_plain g states built is_built by fits i names list at has) items params failing cost (heavy * heavy) few all known budget finish run

  -- and it takes the grammar's parameters
  pub tables_counted : (parameters_of g.prefix (built_items g list.states (start_for g names.0 names.1))).next ≡ length g.parameters
  tables_counted = parameters_counted g list.states (start_for g names.0 names.1) (prefix_wordy g states built may is_built fits) (parameters_plain g states built is_built by fits i names list at has)
