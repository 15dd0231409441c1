-- A program of recursive ascent has the functions that an expected list is made by.
use Rattle.std.proofs.Common.{◌≡◌, ℕ, ◌<◌, ◌^◌, List, [], ◌∷◌, length, Some, refl, sym, ap, ◌∙◌, subst, codes}
use Rattle.std.specs.Prelude.{slice_get}
use Rattle.std.specs.BTreeMap.{values}
use Rattle.std.specs.List.{flat_map}
use Rattle.lp_form.specs.declared.part.Part.TheVariants as part
use Rattle.lp_repr.specs.Numbering.{terminals_of}
use Rattle.lp_repr.specs.ValidTables.{IsValidTables}
use Rattle.lp_repr.specs.declared.lr1.Lr1State.{Lr1State}
use Rattle.lp_repr.specs.declared.repr.Grammar.{Grammar}
use Rattle.lp_tree.specs.ProgramTree.{leaf}
use Rattle.lp_core.specs.Store.{Program}
use Rattle.lp_driver.specs.Values.{Text}
use Rattle.lp_maker.specs.Making.{Making, number_in}
use Rattle.lp_ascent_bodies.specs.AscentTrials.{ascent_accepts, ascent_expected, with_ascent_expected}
use Rattle.lp_parts.specs.Entries.{action_entries}
use Rattle.lp_table.specs.Starts.{Start, state_text}
use Rattle.lp_table.specs.TableLines.{terminal_name}
use Rattle.lp_valid.specs.ValidGrammar.{IsValidGrammar}
use Rattle.lp_view.specs.PartLists.{Form}
use Rattle.lp_run.specs.Functions.{function_made}
use Rattle.lp_question_laws.proofs.Gotos.Goto.{Counts}
use Rattle.lp_question_laws.proofs.Gotos.LinkTerminals.{AreNamed}
use Rattle.lp_question_laws.proofs.Gotos.Simulate.{AllSmall, reductions}
use Rattle.lp_question_laws.proofs.Tokens.Known.{other_known}
use Rattle.lp_question_laws.proofs.Expected.Built.{names_are}
use Rattle.lp_question_laws.proofs.Expected.LookUps.{types_of}
use Rattle.lp_question_laws.proofs.Expected.Lists.{expected_code}
use Rattle.lp_back_end_laws.proofs.Call.Expected.{HasTrials, accepts_code, keep_code}
use Rattle.lp_back_end_laws.proofs.Call.TrialForms.{accepts_is, closure_is, expected_is}
use Rattle.lp_back_end_laws.proofs.Ascent.Runs.{RunsAscent}
use Rattle.lp_back_end_laws.proofs.Ascent.Linking.{Told}
use Rattle.lp_back_end_laws.proofs.Ascent.ModuleTables.{tables_told}
use Rattle.lp_back_end_laws.proofs.Ascent.NamedRows.{accepts_told, expected_told}
use Rattle.lp_back_end_laws.proofs.Ascent.Having.{function_there, texts_are, whole}
use Rattle.lp_back_end_laws.proofs.Ascent.HavingStates.{expected, kind, number_so}
use Rattle.lp_back_end_laws.proofs.Ascent.LookUps.{action_row, goto_row, looks_up, simulate_row, tables}

module _ (g : Grammar) (states : List Lr1State) (m : Making) where
  accepts_made : (function_made m (leaf part.AscentAccepts (state_text g states ∷ []))).function ≡ ascent_accepts m (leaf part.AscentAccepts (state_text g states ∷ []))
  unfolding function_made
  accepts_made = refl

  expected_made : (function_made m (leaf part.AscentExpected (state_text g states ∷ []))).function ≡ ascent_expected m
  unfolding function_made
  expected_made = refl

  with_expected : (function_made m (leaf part.AscentExpected (state_text g states ∷ []))).making ≡ with_ascent_expected m
  unfolding function_made
  with_expected = refl

module _ {prefix : List ℕ} {program : Form} {g : Grammar} {states : List Lr1State} {st : Start} {p : Program} (runs : RunsAscent prefix program g states st p) (same : prefix ≡ g.prefix) (counts : Counts g states)
    {start : ℕ} (grammar : IsValidGrammar g) (valid : IsValidTables g start states) (starts : start < length g.start_nonterminals.entries) (begins : slice_get (values g.start_nonterminals) start ≡ Some st.nonterminal)
    (params : List Text) (failing : List ℕ) (small : AllSmall (reductions g states st)) (terminals_fit : length (terminals_of g) < 2 ^ 64) (entries_fit : length (action_entries (length (terminals_of g)) states) < 2 ^ 64) where
  accepts_row : Told prefix (whole runs) (codes "accepts") (leaf part.AscentAccepts (state_text g states ∷ []))
  accepts_row = accepts_told g states st prefix program

  expected_row : Told prefix (whole runs) (codes "expected") (leaf part.AscentExpected (state_text g states ∷ []))
  expected_row = expected_told g states st prefix program

  -- a name has one number, whatever was made
  knows : (name : List ℕ) (k : ℕ) (m : Making) → (whole runs).names ≡ m.names → number_in name (whole runs).names ≡ Some k → number_in name m.names ≡ Some k
  knows name k m e h = ap (number_in name) (sym e) ∙ h

  accepts_there : slice_get p.functions accepts_row.number ≡ Some (accepts_code (kind runs same counts) (action_row runs counts).number (simulate_row runs counts).number (goto_row runs counts).number)
  accepts_there =
      let r = accepts_row in
      let e = r.stays.names in
      function_there runs r.number _ r.there
      ∙ ap Some (accepts_made g states r.maker)
      ∙ ap Some (accepts_is r.maker (leaf part.AscentAccepts (state_text g states ∷ [])) (kind runs same counts) (action_row runs counts).number (simulate_row runs counts).number (goto_row runs counts).number (types_of g states counts).read
      (knows (codes "action") (action_row runs counts).number r.maker e (action_row runs counts).named)
      (knows (codes "simulate") (simulate_row runs counts).number r.maker e (simulate_row runs counts).named)
      (knows (codes "goto") (goto_row runs counts).number r.maker e (goto_row runs counts).named))

  expected_there : slice_get p.functions expected_row.number ≡ Some (expected_code (length expected_row.maker.functions) expected_row.maker.terminals)
  expected_there =
      let r = expected_row in
      function_there runs r.number _ r.there ∙ ap Some (expected_made g states r.maker ∙ expected_is r.maker)

  closure_there : slice_get p.functions (length expected_row.maker.functions) ≡ Some (keep_code accepts_row.number)
  closure_there =
      let r = expected_row in
      let code = keep_code accepts_row.number in
      let made : slice_get (with_ascent_expected r.maker).functions (length r.maker.functions) ≡ Some (Some code) = closure_is r.maker accepts_row.number (knows (codes "accepts") accepts_row.number r.maker r.stays.names accepts_row.named) in
      function_there runs (length r.maker.functions) code
      (r.after.kept (length r.maker.functions) code (ap (λ (m : Making). slice_get m.functions (length r.maker.functions)) (with_expected g states r.maker) ∙ made))

  -- the terminals' texts are their names
  named : AreNamed p.texts expected_row.maker.terminals (tables runs counts grammar valid starts begins params failing small terminals_fit entries_fit).names
  named =
      let made = whole runs in
      let t = tables runs counts grammar valid starts begins params failing small terminals_fit entries_fit in
      let printed : AreNamed made.texts made.terminals (flat_map terminal_name (terminals_of g)) = (tables_told g states st prefix program).named in
      let all : AreNamed made.texts made.terminals t.names = subst (AreNamed made.texts made.terminals) (names_are g (terminals_of g) (other_known g grammar)) printed in
      subst (λ (ns : List ℕ). AreNamed p.texts ns t.names) expected_row.stays.terminals (subst (λ (texts : List Text). AreNamed texts made.terminals t.names) (sym (texts_are runs)) all)

  -- the functions of trials, over what the tables have
  pub has_trials : HasTrials p (kind runs same counts) states (tables runs counts grammar valid starts begins params failing small terminals_fit entries_fit) (expected runs same counts)
  has_trials = record {
    action = (action_row runs counts).number;
    simulate = (simulate_row runs counts).number;
    goto = (goto_row runs counts).number;
    looks_up = looks_up runs counts grammar valid starts begins params failing small terminals_fit entries_fit;
    accepts = accepts_row.number;
    accepts_there = accepts_there;
    closure = length expected_row.maker.functions;
    closure_there = closure_there;
    texts = expected_row.maker.terminals;
    named = named;
    expected_there = ap (slice_get p.functions) (sym (number_so (codes "expected") (whole runs).names expected_row.number expected_row.named)) ∙ expected_there;
  }
