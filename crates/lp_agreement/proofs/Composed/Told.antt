-- Where the built module answers its driver by the tables, what a run of it tells.
use Rattle.std.proofs.Common.{◌≡◌, ℕ, ◌*◌, ◌<◌, ◌≤◌, false, List, map, length, All, None, refl, sym, ap, ◌∙◌, subst, arith}
use Rattle.std.proofs.Math.Nat.{mul-le-mul_right}
use Rattle.std.specs.Prelude.{if◌then◌else◌, position}
use Rattle.lp_repr.specs.ValidTables.{IsValidTables}
use Rattle.lp_repr.specs.declared.lr1.Lr1State.{Lr1State}
use Rattle.lp_repr.specs.declared.repr.Grammar.{Grammar}
use Rattle.lp_repr.specs.declared.values.Loc.{Loc}
use Rattle.lp_repr.specs.declared.values.RunItem.{RunItem}
use Rattle.lp_repr.specs.declared.values.RunItem.TheVariants as item
use Rattle.lp_driver.specs.declared.answers.Expecting.TheVariants.{Trial}
use Rattle.lp_driver.specs.Values.{Text, Token}
use Rattle.lp_core.specs.declared.expr.Table.{Table}
use Rattle.lp_machine.specs.GrammarTables.{grammar_tables, error_of, is_error}
use Rattle.lp_maker.specs.Making.{entries_of}
use Rattle.lp_turns.specs.DriverCall.{program_answers}
use Rattle.lp_valid.specs.ValidGrammar.{IsValidGrammar}
use Rattle.lp_view.specs.PartLists.{Form}
use Rattle.lp_table.specs.Starts.{Start}
use Rattle.lp_run.specs.ProgramRun.{Finish}
use Rattle.lp_run.specs.RunTold.{IsCounted, RunsModule}
use Rattle.lp_question_laws.proofs.Gotos.GotoAnswered.{built_items}
use Rattle.lp_question_laws.proofs.Gotos.LinkHeaders.{IsWordy}
use Rattle.lp_question_laws.proofs.Gotos.LinkModule.{complete}
use Rattle.lp_turn_laws.proofs.Paths.Over.{is_over}
use Rattle.lp_turn_laws.specs.Alike.Answered.{AnswersBy}
use Rattle.lp_turn_laws.specs.Alike.Course.{AreKnown}
use Rattle.lp_turn_laws.specs.Alike.Course.{rate}
use Rattle.lp_turn_laws.proofs.Alike.Rates.{rate_most}
use Rattle.lp_turn_laws.specs.Asked.Runners.{Asks, left, seen}
use Rattle.lp_agrees.specs.Agrees.{Told}
use Rattle.lp_agrees.specs.Machine.{as_user, IsMatched, MatchesOne}
use Rattle.lp_question_laws.specs.Tables.Symbols.{IsSymbol}
use Rattle.lp_agreement.proofs.Telling.Told.{driver_told}
use Rattle.lp_agreement.proofs.Composed.Fields.{fields_valued}
use Rattle.lp_agreement.proofs.Composed.Parameters.{ArePlain}
use Rattle.std.proofs.lemmas.Option.{get_or_from_slice_get, slice_get_within}
use Rattle.lp_agreement.proofs.Composed.Runs.{asked_on, built_module, own_fields, own_methods, run_by_driver}

-- a token matches at most one terminal
abbrev pub IsKnown : Grammar → Token → Type 0
IsKnown g token = (i j : ℕ) → IsMatched g token i → IsMatched g token j → i ≡ j

one_known : (g : Grammar) (x : RunItem) (a b : Loc) (token : Token) → x ≡ item.Token a token b → MatchesOne g x → IsKnown g token
one_known g x a b token is one = subst (MatchesOne g) is one

pub all_known : (g : Grammar) (items : List RunItem) → All (MatchesOne g) items → AreKnown (IsKnown g) items
all_known g items all = record { at = λ k a b token is. one_known g _ a b token (get_or_from_slice_get items k (item.Token a token b) (item.Token a token b) is) (all k (item.Token a token b) (slice_get_within items k (item.Token a token b) is)) }

pub no_error : (g : Grammar) → g.uses_error_recovery ≡ false → error_of g ≡ None
no_error g off = ap (λ (b : _). if b then position is_error g.terminals.all else None) off

-- over each choice of its tables, the built module answers each question by the grammar's tables
abbrev pub AnswersBuilt : List ℕ → Form → (g : Grammar) → List Lr1State → Start → List RunItem → List Text → List ℕ → ℕ → Type 0
AnswersBuilt prefix program g states st items params failing cost =
    (tables : List Table) → map entries_of tables ≡ (built_module prefix program g states st).tables → All IsCounted tables
    → AnswersBy program_answers left seen (Asks (asked_on prefix program g states st tables items params failing) (own_methods prefix program g states st) (built_module prefix program g states st).closure) as_user g states
    (grammar_tables g states Trial params failing) (IsSymbol g (complete prefix program (built_items g states st))) (IsKnown g) cost

rate_less : (n cost most : ℕ) → n ≤ 9 → 9 * cost < most → n * cost < most
rate_less n cost most few more = (let m : n * cost ≤ 9 * cost = mul-le-mul_right cost few in omega (arith, m, more))

module _ (program : Form) (g : Grammar) (start : ℕ) (states : List Lr1State) (st : Start) (valid : IsValidGrammar g) (tabled : IsValidTables g start states) (begins : start < length g.start_nonterminals.entries)
    (wordy : IsWordy g.prefix) (plain : ArePlain g.prefix g.parameters) (items : List RunItem) (params : List Text) (failing : List ℕ) (cost most : ℕ) (more : 9 * cost < most) where
  -- so a run of it ends as the machine does
  pub built_told : AnswersBuilt g.prefix program g states st items params failing cost → All (MatchesOne g) items → (budget : ℕ) (finish : Finish) → RunsModule (built_module g.prefix program g states st) items params failing budget finish
      → Told g states Trial items params failing most budget finish
  built_told answers known budget finish runs =
      let asked = asked_on g.prefix program g states st runs.0 items params failing in
      let values = fields_valued program g states st wordy plain in
      subst (Told g states Trial items params failing most budget) (sym (runs.3 ∙ run_by_driver g.prefix program g states st runs.0 items params failing budget))
      (driver_told g states items params failing cost most budget (rate_less (rate (grammar_tables g states Trial params failing)) cost most (rate_most (grammar_tables g states Trial params failing)) more) (is_over g start states Trial params failing valid tabled begins) (IsSymbol g (complete g.prefix program (built_items g states st))) (IsKnown g) asked.program
      (own_methods g.prefix program g states st) (own_fields g.prefix program g states st) (built_module g.prefix program g states st).closure (answers runs.0 runs.1 runs.2) (all_known g items known) refl values.0 values.1)
