-- The names of the parameters of a grammar whose program by recursive ascent fits: plain words, and what they hold.
use Rattle.std.proofs.Common.{◌≡◌, ℕ, zero, suc, ◌+◌, true, List, [], ◌∷◌, ◌++◌, length, map, get_or, IsUtf8, Some, slice_get, refl, sym, ap, subst, ◌∙◌, arith, length-append}
use Rattle.std.specs.List.{list_all}
use Rattle.std.specs.Option.{option_map}
use Rattle.std.proofs.Math.Seq.{take-append_seam}
use Rattle.std.proofs.lemmas.List.{length-map}
use Rattle.std.proofs.lemmas.List.Elements.{All-head}
use Rattle.std.proofs.lemmas.Option.{get_or_from_slice_get, slice_get-map}
use Rattle.std.proofs.lemmas.Str.{IsCharBoundary-before_ascii, IsUtf8-take}
use Rattle.lp_form.specs.declared.part.Part.TheVariants as part
use Rattle.lp_repr.specs.ShownTypes.{type_text}
use Rattle.lp_repr.specs.declared.lr1.StartStates.{StartStates}
use Rattle.lp_repr.specs.declared.repr.Grammar.{Grammar}
use Rattle.lp_repr.specs.declared.repr.LrCodeGeneration.TheVariants.{RecursiveAscent}
use Rattle.lp_repr.specs.declared.repr.NonterminalString.{NonterminalString}
use Rattle.lp_repr.specs.declared.repr.Parameter.{Parameter}
use Rattle.lp_driver.specs.Values.{Text}
use Rattle.lp_core.specs.Store as core
use Rattle.lp_tree.specs.declared.tree.Program.{Program}
use Rattle.lp_build.specs.Built.{text_rows}
use Rattle.lp_assembly.specs.Built.{IsBuilt}
use Rattle.lp_fitting.specs.Fitting.{IsFitting}
use Rattle.lp_emitted.specs.Emittable.{IsEmittable}
use Rattle.lp_spelling.specs.HoleEnds.{is_word}
use Rattle.lp_table.specs.Headers.{declared_text}
use Rattle.lp_table.specs.Starts.{start_for}
use Rattle.lp_code_laws.proofs.Slots.Slots.{get_behind}
use Rattle.lp_question_laws.proofs.Reductions.Texts.{AllKeys, names_of}
use Rattle.lp_question_laws.specs.Actions.Params.{AreSet}
use Rattle.lp_question_laws.proofs.Actions.Depth.{IsPlainGrammar}
use Rattle.lp_question_laws.proofs.Actions.Held.{are_held, held_by}
use Rattle.lp_question_laws.proofs.Actions.Parameters as actions
use Rattle.lp_question_laws.proofs.Actions.Plain.{names_are_plain, names_are_words}
use Rattle.lp_question_laws.proofs.Actions.PlainGrammar.{plain_grammar}
use Rattle.lp_question_laws.proofs.Actions.UserCalls.{params_set}
use Rattle.lp_machine.specs.GrammarTables.{params_among}
use Rattle.lp_agreement.proofs.Composed.Parameters.{ArePlain}
use Rattle.lp_agreement.proofs.Composed.Plain.{Each, ItemFits, ascent_fits}
use Rattle.lp_back_end_laws.specs.Filled.InMemory.{IsInMemory}
use Rattle.lp_back_end_laws.proofs.Filled.InMemory.{inlined}
use Rattle.lp_back_end_laws.proofs.Filled.Names.{all_keys, named_words, some}
use Rattle.lp_back_end_laws.proofs.Ascent.ActionRuns.{given_by}
use Rattle.lp_back_end_laws.proofs.Ascent.ReadFits.{declared_in}

-- what stands before a colon in a text
before_colon : (name rest : List ℕ) → IsUtf8 (name ++ 58 ∷ rest) → IsUtf8 name
before_colon name rest utf8 =
    let text = name ++ 58 ∷ rest in
    let many : length text ≡ length name + suc (length rest) = length-append name (58 ∷ rest) in
    let byte : get_or text (length name) 0 ≡ 58 = get_or_from_slice_get text (length name) 58 0 (get_behind name 58 rest) in
    subst IsUtf8 (take-append_seam name (58 ∷ rest)) (IsUtf8-take text (length name) utf8 (IsCharBoundary-before_ascii text (length name) (omega (arith, many)) (omega (arith, byte))))

names_utf8 : (prefix : List ℕ) (ps : List Parameter) → Each (ItemFits prefix) (text_rows part.ParameterRow (map declared_text ps)) → (i : ℕ) (p : Parameter) → slice_get ps i ≡ Some p → IsUtf8 p.name
names_utf8 prefix [] e i p at = absurd cc
names_utf8 prefix (q ∷ ps) e zero p at =
    let same : q ≡ p = cc in
    subst (λ (x : Parameter). IsUtf8 x.name) same (before_colon q.name (32 ∷ type_text q.ty) (All-head IsUtf8 (declared_text q) [] e.0.utf8))
names_utf8 prefix (q ∷ ps) e (suc i) p at = names_utf8 prefix ps e.1 i p at

-- names whose bytes are those of words
plain_words : (prefix : List ℕ) (ps : List Parameter) → actions.ArePlain prefix ps → ((i : ℕ) (p : Parameter) → slice_get ps i ≡ Some p → list_all is_word p.name ≡ true) → ArePlain prefix ps
plain_words prefix [] are words = tt
plain_words prefix (p ∷ ps) are words = (record { words = words 0 p refl; some = are.0.some; named = are.0.not_blank; apart = are.0.apart }, plain_words prefix ps are.1 (λ i q at. words (suc i) q at))

module _ (g : Grammar) (states : List StartStates) (built : Program) (by : g.algorithm.codegen ≡ RecursiveAscent) (may : IsEmittable g states) (is_built : IsBuilt g states built) (fits : IsFitting built)
    (i : ℕ) (names : NonterminalString × NonterminalString) (list : StartStates) (at : slice_get g.start_nonterminals.entries i ≡ Some names) (has : slice_get states i ≡ Some list) where
  utf8 : (j : ℕ) (p : Parameter) → slice_get g.parameters j ≡ Some p → IsUtf8 p.name
  utf8 = names_utf8 g.prefix g.parameters (declared_in (ItemFits g.prefix) g list.states (start_for g names.0 names.1) (ascent_fits g states built is_built fits i names list at has by))

  -- the names of parameters are plain
  pub parameters_plain : ArePlain g.prefix g.parameters
  parameters_plain = plain_words g.prefix g.parameters (names_are_plain g may.valid utf8) (names_are_words g may.valid utf8)

  pub keys : AllKeys g.prefix (names_of g.parameters)
  keys = all_keys g.prefix g.parameters parameters_plain

  -- so the grammar is plain
  pub is_plain : IsInMemory g → IsPlainGrammar g
  is_plain memory = plain_grammar g may.valid (named_words g states built may is_built fits) (some g states built may is_built fits) utf8 (inlined g memory)

-- ---- what the names hold
pub given_many : (g : Grammar) → length (given_by g) ≡ length (names_of g.parameters)
given_many g = length-map (names_of g.parameters) (held_by g)

-- in a program whose parameters were given
pub given_set : (p : core.Program) (g : Grammar) (params : List Text) → p.params ≡ params → length params ≡ length g.parameters → AreSet (given_by g)
given_set p g params given many = params_set p (given_by g) (params_among g.parameters params g.parameters) (are_held p g params given many)

-- of one name, one value
pub given_same : (g : Grammar) (i j : ℕ) (key : List ℕ) → slice_get (names_of g.parameters) i ≡ Some key → slice_get (names_of g.parameters) j ≡ Some key → slice_get (given_by g) i ≡ slice_get (given_by g) j
given_same g i j key here there =
    slice_get-map (held_by g) (names_of g.parameters) i ∙ ap (option_map (held_by g)) (here ∙ sym there) ∙ sym (slice_get-map (held_by g) (names_of g.parameters) j)
