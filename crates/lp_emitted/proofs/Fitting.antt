-- The uses, user code and tables of a grammar that may be emitted fit.
use Rattle.std.proofs.Common.{◌≡◌, ℕ, ◌≤◌, min, Bool, true, false, if◌then◌else◌, List, [], ◌∷◌, ◌++◌, length, get_or, slice_get, slice_index_or, codes, All, FitsSigned, Some, None, IfSome, IsUtf8, ◌<◌, ap, ◌∙◌, subst, arith}
use Rattle.std.specs.BTreeMap.{values}
use Rattle.std.specs.Int.{w32}
use Rattle.std.proofs.lemmas.List.Elements.{All-cons, All-nil}
use Rattle.std.proofs.lemmas.Option.{slice_get-get_or}
use Rattle.std.proofs.lemmas.Str.{IsCharBoundary-after_ascii, IsUtf8-drop, IsUtf8-nil}
use Rattle.lp_form.specs.Templates.{steps_of}
use Rattle.lp_form.specs.Templates as template
use Rattle.lp_form.specs.declared.template.Step.{Step}
use Rattle.lp_form.specs.declared.template.Step.TheVariants as step
use Rattle.lp_repr.specs.Numbering.{productions_of, terminals_of}
use Rattle.lp_repr.specs.ValidTables.{IsValidTables}
use Rattle.lp_repr.specs.declared.lr1.StartStates.{StartStates}
use Rattle.lp_repr.specs.declared.repr.ActionFnDefnKind.{ActionFnDefnKind}
use Rattle.lp_repr.specs.declared.repr.ActionFnDefnKind.TheVariants.{User, Lookaround, Inline}
use Rattle.lp_repr.specs.declared.repr.Grammar.{Grammar}
use Rattle.lp_texts.specs.UserCode.{AnswersAction}
use Rattle.lp_texts.specs.declared.faults.TextKind.TheVariants.{Use, Code}
use Rattle.lp_tree.specs.declared.tree.Entry.{Entry}
use Rattle.lp_tree.specs.declared.tree.Program.{Program}
use Rattle.lp_program.specs.OwnLines.{hole}
use Rattle.lp_program.specs.Reads.{is_prefix}
use Rattle.lp_program.specs.Trees.{Content, content}
use Rattle.lp_reading_laws.specs.Printing.WellFormed.{IsCodeText, IsUseText, IsWellFormed, StepFits}
use Rattle.lp_parts.specs.Entries.{EntriesFit}
use Rattle.lp_assembly.specs.Built.{AllFit, IsBuilt}
use Rattle.lp_fitting.specs.Fitting.{HolesFit, IsFitting}
use Rattle.lp_emitted.specs.Emittable.{IsEmittable, greatest_of}
use Rattle.lp_emitted.specs.Laws.{EmittedReadsBack}
use Rattle.lp_emitted.specs.TextsFit.{AreStepsFit, StepsFit}
use Rattle.lp_emitted.proofs.Actions.{KindTold}
use Rattle.lp_emitted.proofs.EntriesFit.{actions_fit, ends_fit, kept_greatest, length-rules_from, tables_fit, within_greatest}
use Rattle.lp_emitted.proofs.Forests.{EntryTold, built_is_shaped, built_told}
use Rattle.lp_emitted.proofs.Halves.{shaped_is_well_formed}
use Rattle.lp_emitted.proofs.Prefixes.{prefix_fits}
use Rattle.lp_emitted.proofs.Programs.{Given}
use Rattle.lp_emitted.proofs.Rows.{StepTold, StepsTold, Told}
use Rattle.lp_emitted.proofs.Tables.{TablesTold}
use Rattle.lp_reading_laws.proofs.Printing.Endings.{codes_end, uses_end}
use Rattle.lp_reading_laws.proofs.Printing.Law.{reads_back}

-- what is asked of them, where they are UTF-8
abbrev pub fitting : Told
fitting = record { use_text = λ t. IsUtf8 t → IsUseText t; code = λ t. IsUtf8 t → IsCodeText t; table = All (FitsSigned w32) }

behind_super : (text : List ℕ) → IsUtf8 (codes "super::" ++ text) → IsUtf8 text
behind_super text utf8 = IsUtf8-drop (codes "super::" ++ text) 7 utf8 (IsCharBoundary-after_ascii (codes "super::" ++ text) 6 utf8 (omega arith) (omega arith))

inner_fits : (b : Bool) (text : List ℕ) → (IsUtf8 text → IsUseText text × IsUseText (codes "super::" ++ text)) → IsUtf8 (if b then codes "super::" ++ text else text) → IsUseText (if b then codes "super::" ++ text else text)
inner_fits true text u utf8 = (u (behind_super text utf8)).1
inner_fits false text u utf8 = (u utf8).0

kind_fits : (kind : ActionFnDefnKind) → AnswersAction kind None → KindTold fitting kind
kind_fits (User patterns types code) meets = λ utf8. codes_end code utf8 meets
kind_fits (Lookaround place) meets = tt
kind_fits (Inline outer symbols) meets = tt

list_fits : (g : Grammar) (states : List StartStates) → IsEmittable g states → (start : ℕ) (list : StartStates) → slice_get states start ≡ Some list → All EntriesFit list.states
list_fits g states m start list e =
    let n : ℕ = min (length (productions_of g)) 18446744073709551615 in
    let few = within_greatest n states start list e in
    let least = kept_greatest n states in
    let counts : greatest_of n states ≤ 2147483647 = m.counts in
    let same = length-rules_from g 0 (values g.nonterminals) in
    let valid : IsValidTables g start list.states = subst (λ o. IfSome o (λ l. IsValidTables g start l.states)) e (m.tabled start).1 in
    tables_fit g start list.states (omega (arith, few, counts)) (omega (arith, least, counts, same)) valid

-- the entries of what may be emitted fit
pub emitted_entries_fit : (g : Grammar) (states : List StartStates) → IsEmittable g states → AllFit states
emitted_entries_fit g states m = λ k d lt. list_fits g states m k (get_or states k d) (slice_get-get_or states k d lt)

tables_told : (g : Grammar) (states : List StartStates) → IsEmittable g states → (start : ℕ) (list : StartStates) → slice_get states start ≡ Some list → TablesTold fitting g list.states
tables_told g states m start list e =
    let fits = list_fits g states m start list e in
    record { actions = actions_fit (length (terminals_of g)) list.states fits; ends = ends_fit list.states fits }

given_fits : (g : Grammar) (states : List StartStates) → IsEmittable g states → Given fitting g states
given_fits g states m = record {
  uses = λ k d lt utf8. (uses_end _ utf8 (m.texts Use k d lt)).0;
  inner = λ k d lt. inner_fits _ _ (λ utf8. uses_end _ utf8 (m.texts Use k d lt));
  codes = λ k d lt. kind_fits _ (m.texts Code k d lt);
  tables = tables_told g states m;
}

-- the first text of a part, if it has one
first_utf8 : (holes : List (List ℕ)) → All IsUtf8 holes → IsUtf8 (get_or holes 0 [])
first_utf8 [] all = IsUtf8-nil
first_utf8 (h ∷ hs) all = all 0 [] (omega arith)

-- the steps of a part, by what is asked
step_fits : (c : Content) (s : Step) → IsUtf8 (hole c 0) → StepTold fitting s c.holes c.numbers → StepFits c s
step_fits c step.Use utf8 t = t utf8
step_fits c step.Code utf8 t = t utf8
step_fits c step.Entries utf8 t = t
step_fits c _ utf8 t = tt

steps_fit : (c : Content) (steps : List template.Line) → IsUtf8 (hole c 0) → StepsTold fitting steps c.holes c.numbers → All (λ s. StepFits c s.0) steps
steps_fit c [] utf8 t = All-nil (λ (s : template.Line). StepFits c s.0)
steps_fit c (s ∷ steps) utf8 t = All-cons (λ (x : template.Line). StepFits c x.0) s steps (step_fits c s.0 utf8 t.0) (steps_fit c steps utf8 t.1)

entry_fits : {prefix : List ℕ} (e : Entry) → HolesFit prefix e → EntryTold fitting e → StepsFit e
entry_fits e fits t = steps_fit (content e) (steps_of e.part) (first_utf8 e.holes.items fits.utf8) t

pub emitted_fits : (g : Grammar) (states : List StartStates) (program : Program) → IsEmittable g states → IsBuilt g states program → IsFitting program → AreStepsFit program
emitted_fits g states program m built fits =
    λ k d lt. entry_fits (slice_index_or program.entries.items k d) (fits.parts k d lt) (built_told g states program (given_fits g states m) built k d lt)

pub emitted_has_prefix : (g : Grammar) (states : List StartStates) (program : Program) → IsEmittable g states → IsBuilt g states program → IsFitting program → is_prefix program.prefix ≡ true
emitted_has_prefix g states program m built fits =
    ap is_prefix built.prefix ∙ prefix_fits g states m (subst IsUtf8 built.prefix fits.prefix_utf8) (subst (λ (p : List ℕ). 0 < length p) built.prefix fits.prefix_some)

pub emitted_is_well_formed : (g : Grammar) (states : List StartStates) (program : Program) → IsEmittable g states → IsBuilt g states program → IsFitting program → IsWellFormed program
emitted_is_well_formed g states program m built fits =
    shaped_is_well_formed program (built_is_shaped g states program built) (emitted_has_prefix g states program m built fits) fits (emitted_fits g states program m built fits)

-- so its text reads as it
pub emitted_reads_back : EmittedReadsBack
emitted_reads_back g states program options read m b fits i = reads_back options program read (emitted_is_well_formed g states program m b fits) i
