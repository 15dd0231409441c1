-- The patterns of a grammar whose program by recursive ascent fits are read as they are meant; and so are its texts.
use Rattle.std.proofs.Common.{◌≡◌, ℕ, ◌+◌, ◌-◌, ◌<◌, ◌==◌, Bool, true, false, List, [], ◌∷◌, ◌++◌, length, codes, decimal, Option, Some, None, slice_get, refl, sym, ap, subst, ◌∙◌, arith, append-nil, if◌then◌else◌}
use Rattle.std.specs.Prelude.{is_some}
use Rattle.std.specs.BTreeMap.{get}
use Rattle.std.specs.Option.{option_map_or}
use Rattle.std.proofs.lemmas.Bool.{ne_eqb}
use Rattle.std.proofs.lemmas.Option.{none-some, same_Some, slice_get_within}
use Rattle.lp_form.specs.Templates.{holes_of}
use Rattle.lp_form.specs.declared.part.Part.TheVariants as part
use Rattle.lp_repr.specs.NameOrder.{terminal_cmp}
use Rattle.lp_repr.specs.Numbering.{terminals_of}
use Rattle.lp_repr.specs.Shown.{pattern_text}
use Rattle.lp_repr.specs.declared.lr1.StartStates.{StartStates}
use Rattle.lp_repr.specs.declared.lr1.Lr1State.{Lr1State}
use Rattle.lp_repr.specs.declared.repr.Grammar.{Grammar}
use Rattle.lp_repr.specs.declared.repr.LrCodeGeneration.TheVariants.{RecursiveAscent}
use Rattle.lp_repr.specs.declared.repr.NonterminalString.{NonterminalString}
use Rattle.lp_repr.specs.declared.repr.TerminalString.{TerminalString}
use Rattle.lp_repr.specs.declared.repr.TokenPattern.{TokenPattern}
use Rattle.lp_driver.specs.Values.{Text}
use Rattle.lp_core.specs.Store as core
use Rattle.lp_machine.specs.GrammarTables.{error_of, is_error}
use Rattle.lp_maker.specs.Patterns.{form_of}
use Rattle.lp_tree.specs.ProgramTree.{Item}
use Rattle.lp_tree.specs.declared.tree.Program.{Program}
use Rattle.lp_build.specs.Ascent.{shift_holes, shift_part}
use Rattle.lp_build.specs.Built.{over}
use Rattle.lp_valid.specs.TerminalRules as valid
use Rattle.lp_valid.specs.ValidGrammar.{IsValidGrammar, error_terminal}
use Rattle.lp_assembly.specs.Built.{IsBuilt}
use Rattle.lp_fitting.specs.Fitting.{IsFitting}
use Rattle.lp_emitted.specs.Emittable.{IsEmittable}
use Rattle.lp_reading_laws.specs.Printing.WellFormed.{HolesFill}
use Rattle.lp_spelling.specs.Fillings.{Fits, are_filled, fits_behind, has_shape}
use Rattle.lp_texts.specs.declared.faults.TextKind.TheVariants.{Pattern}
use Rattle.lp_table.specs.Starts.{Start, start_for}
use Rattle.lp_table.specs.TokenLines.{capture_names, named_pattern, own_pattern}
use Rattle.lp_ascent.specs.BuiltAscent.{built_ascent}
use Rattle.lp_ascent.specs.CallLines.{call_of}
use Rattle.lp_ascent.specs.ShiftLines.{pattern_at, pattern_for, shift_arm, shift_if, shift_line, shifted_pattern}
use Rattle.lp_ascent.specs.Slots.{count_of, layout_at, layouts_of}
use Rattle.lp_question_laws.proofs.Tables.Errors.{at_place, errors_mended, same_error}
use Rattle.lp_question_laws.proofs.Reductions.Texts.{names_of}
use Rattle.lp_question_laws.specs.Tokens.Told.{StandsNowhere}
use Rattle.lp_question_laws.proofs.Tokens.Apart.{Filled}
use Rattle.lp_question_laws.proofs.Tokens.FormOf.{AllWord, longer_nowhere, words as all_word}
use Rattle.lp_question_laws.proofs.Tokens.Known.{other_known, own_there, owns, terminals_known}
use Rattle.lp_question_laws.proofs.Tokens.ToldBy.{text_nowhere, told_by}
use Rattle.lp_back_end_laws.specs.Call.Shifted.{AreShiftsRead, AreShiftsTold, IsShifted}
use Rattle.lp_back_end_laws.proofs.Call.ReadPatterns.{IsPlain, form_shifted, form_unnamed, terminals_many, terminals_read}
use Rattle.lp_back_end_laws.proofs.Call.Setting.{IsRead}
use Rattle.lp_agreement.proofs.Composed.Plain.{Each, ItemFits, ascent_fits}
use Rattle.lp_back_end_laws.specs.Filled.InMemory.{IsInMemory}
use Rattle.lp_back_end_laws.proofs.Filled.Names.{some, words}
use Rattle.lp_back_end_laws.proofs.Ascent.ActionRuns.{given_by}
use Rattle.lp_back_end_laws.proofs.Ascent.ReadFits.{shift_in}
use Rattle.lp_back_end_laws.proofs.Ascent.ReadParameters.{given_many, given_same, given_set, keys}

-- ---- the error terminal
-- where it has no number, there is none
no_error : (g : Grammar) → IsValidGrammar g → error_of g ≡ None → (k : ℕ) (t : TerminalString) → slice_get (terminals_of g) k ≡ Some t → is_error t ≡ false
no_error g rules never k t at = by (is_error t) refl
  where
    ts : List TerminalString
    ts = terminals_of g

    by : (b : Bool) → is_error t ≡ b → is_error t ≡ false
    by false e = e
    by true e =
        let is : valid.is_error t ≡ true = same_error t ∙ e in
        let last : k + 1 ≡ length ts = at_place (λ (u : TerminalString). valid.is_error u ≡ true → k + 1 ≡ length ts) (slice_get ts k) t at ((rules error_terminal k).0 (slice_get_within ts k t at)) is in
        let place : length ts - 1 ≡ k = omega (arith, last) in
        let ends : option_map_or valid.is_error (slice_get ts (length ts - 1)) false ≡ g.uses_error_recovery = (rules error_terminal (length ts)).1 (omega arith) in
        let used : g.uses_error_recovery ≡ true = sym ends ∙ ap (λ j. option_map_or valid.is_error (slice_get ts j) false) place ∙ ap (λ o. option_map_or valid.is_error o false) at ∙ is in
        let bad : true ≡ false = sym used ∙ errors_mended g rules ∙ ap is_some never in
        absurd cc

-- ---- the pattern of a shift
-- a pattern that may stand where one with names in its holes does
hole_filled : (prefix : List ℕ) (holes : List (List ℕ)) (text : List ℕ) → HolesFill prefix (holes_of part.ShiftArm) (text ∷ holes) → are_filled prefix text ≡ true
unfolding Fits has_shape holes_of
hole_filled prefix holes text h = ((h 0 (omega arith)).0).1.0

filled_alone : (prefix text : List ℕ) → are_filled prefix text ≡ true → Filled prefix text
unfolding are_filled
filled_alone prefix text h = record { before = 0; behind = []; apart_before = refl; apart_behind = tt; fits = ap (fits_behind prefix 0) (append-nil text) ∙ h }

-- the printed shift of a pattern without captures, or with them
abbrev arm_by : List ℕ → ℕ → TokenPattern → List Item → Bool → List Item
arm_by prefix symbol p below b =
    over (shift_part (if b then None else Some (capture_names prefix (length p.holes)))) (shift_holes (if b then pattern_text p else named_pattern prefix p) symbol (if b then None else Some (capture_names prefix (length p.holes)))) below

arm_filled : (prefix : List ℕ) (symbol : ℕ) (p : TokenPattern) (below : List Item) → 0 < length p.holes → Each (ItemFits prefix) (shift_arm prefix symbol p below) → Filled prefix (named_pattern prefix p)
arm_filled prefix symbol p below holes e =
    let b : (length p.holes == 0) ≡ false = ne_eqb (length p.holes) 0 (λ none. omega (arith, none, holes)) in
    let fits : Each (ItemFits prefix) (arm_by prefix symbol p below false) = subst (λ c. Each (ItemFits prefix) (arm_by prefix symbol p below c)) b e in
    filled_alone prefix (named_pattern prefix p) (hole_filled prefix (decimal symbol ∷ capture_names prefix (length p.holes) ∷ []) (named_pattern prefix p) fits.0.fills)

-- of a state of the module
shift_filled : (g : Grammar) (states : List Lr1State) (st : Start) → Each (ItemFits g.prefix) (built_ascent g states st) → (n : ℕ) (p : TokenPattern) → IsShifted states n → pattern_at g n ≡ Some p → 0 < length p.holes → Filled g.prefix (named_pattern g.prefix p)
shift_filled g states st e n p h is holes =
    let ls = layouts_of g states in
    let l = layout_at ls h.number in
    let line : Each (ItemFits g.prefix) (shift_line g ls l (n, h.target)) = shift_in (ItemFits g.prefix) g states st h.number h.state h.there h.place (n, h.target) h.entry e in
    arm_filled g.prefix (count_of l) p (call_of g ls l h.target false) holes (subst (λ o. Each (ItemFits g.prefix) (shift_if g ls l h.target o)) is line)

-- ---- a grammar
module _ (g : Grammar) (states : List StartStates) (built : Program) (by : g.algorithm.codegen ≡ RecursiveAscent) (memory : IsInMemory g) (may : IsEmittable g states) (is_built : IsBuilt g states built) (fits : IsFitting built)
    (i : ℕ) (names : NonterminalString × NonterminalString) (list : StartStates) (at : slice_get g.start_nonterminals.entries i ≡ Some names) (has : slice_get states i ≡ Some list) where
  -- the pattern of each terminal that is shifted is told
  pub shifts_told : AreShiftsTold g list.states
  shifts_told n t p h there own holes =
      let k = other_known g may.valid n t there (owns g t p own) in
      let pattern : k.pattern ≡ p = same_Some k.pattern p (sym (own_there g t k) ∙ own) in
      let is : pattern_at g n ≡ Some p = ap (pattern_for g) there ∙ k.there ∙ ap Some pattern in
      told_by g may.valid (may.texts Pattern) (some g states built may is_built fits) (words g states built may is_built fits) memory.patterns n t p there own
      (shift_filled g list.states (start_for g names.0 names.1) (ascent_fits g states built is_built fits i names list at has by) n p h is holes)

  prefix_words : AllWord g.prefix
  prefix_words = all_word g.prefix (words g states built may is_built fits)

  text_apart : (t : TerminalString) (p : TokenPattern) → get terminal_cmp g.conversions t ≡ Some p → StandsNowhere (g.prefix ++ codes "tok") (pattern_text p)
  text_apart t p is = longer_nowhere g.prefix (codes "tok") (pattern_text p) (text_nowhere g may.valid t p is)

  module _ (never : error_of g ≡ None) where
    -- and read as the terminal's text
    shifts_read : AreShiftsRead g list.states
    shifts_read n h p is = of (slice_get (terminals_of g) n) refl is
      where
        of : (o : Option TerminalString) → slice_get (terminals_of g) n ≡ o → pattern_for g o ≡ Some p → form_of g.prefix (shifted_pattern g.prefix p) ≡ form_of g.prefix (pattern_text p)
        of None there e = absurd (none-some p e)
        of (Some t) there e =
            let k = other_known g may.valid n t there (no_error g may.valid never n t there) in
            let pattern : k.pattern ≡ p = same_Some k.pattern p (sym k.there ∙ e) in
            let own : own_pattern g t ≡ Some p = own_there g t k ∙ ap Some pattern in
            let apart = text_apart t p e in
            form_shifted g p prefix_words apart (shifts_told n t p h there own) ∙ sym (form_unnamed g.prefix (pattern_text p) apart)

    legible : (n : ℕ) (t : TerminalString) → slice_get (terminals_of g) n ≡ Some t → IsPlain g list.states prefix_words n t
    legible n t there = (no_error g may.valid never n t there, λ k. record { apart = text_apart t k.pattern k.there; told = λ h holes. shifts_told n t k.pattern h there (own_there g t k) holes })

    -- the grammar's texts are read as they are meant, in a program whose parameters were given
    pub is_read : (p : core.Program) (params : List Text) → p.params ≡ params → length params ≡ length g.parameters → IsRead g list.states (names_of g.parameters) (given_by g)
    is_read p params given many = record {
      prefix = prefix_words;
      some_prefix = some g states built may is_built fits;
      told = shifts_told;
      shifts = shifts_read;
      terminals = terminals_read g list.states prefix_words (terminals_known g may.valid) legible;
      terminals_many = terminals_many g list.states prefix_words (terminals_known g may.valid) legible;
      keys_are = refl;
      keys_plain = keys g states built by may is_built fits i names list at has;
      given_many = given_many g;
      given_set = given_set p g params given many;
      given_same = given_same g;
    }
