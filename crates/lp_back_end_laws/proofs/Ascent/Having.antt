-- A program of recursive ascent has what was made: functions, texts, the closure of the token source, and numbers of variants.
use Rattle.std.proofs.Common.{◌≡◌, ℕ, ◌+◌, ◌<◌, List, [], ◌∷◌, ◌++◌, length, Option, Some, None, refl, ap, sym, subst, ◌∙◌, arith}
use Rattle.std.specs.Prelude.{slice_get, Bool, unwrap_or}
use Rattle.lp_repr.specs.Numbering.{nonterminals_of}
use Rattle.lp_repr.specs.declared.lr1.Lr1State.{Lr1State}
use Rattle.lp_repr.specs.declared.repr.Grammar.{Grammar}
use Rattle.lp_repr.specs.declared.repr.NonterminalString.{NonterminalString}
use Rattle.lp_core.specs.declared.expr.Function.{Function}
use Rattle.lp_core.specs.declared.value.Tag.TheVariants as tag
use Rattle.lp_core.specs.Store.{Program}
use Rattle.lp_table.specs.Starts.{Start}
use Rattle.lp_view.specs.PartLists.{Form}
use Rattle.lp_maker.specs.Making.{Making, first_numbered, number_in, unmade, variant_tag}
use Rattle.lp_run.specs.Named.{parser_of}
use Rattle.lp_run.specs.Entered.{module_made}
use Rattle.lp_run.specs.Promised.{beginning}
use Rattle.lp_ascent.specs.AnswerLines.{answer_name}
use Rattle.lp_turn_laws.proofs.Paths.Reductions.{at_within}
use Rattle.lp_question_laws.proofs.Gotos.LinkMaps.{get_more, numbered_here, numbered_kept}
use Rattle.lp_question_laws.proofs.Gotos.LinkModule.{finished_there}
use Rattle.lp_question_laws.proofs.Tokens.Closure as made_source
use Rattle.lp_question_laws.proofs.Tokens.Closure.{Source, source_made, Without, With}
use Rattle.lp_question_laws.proofs.Tokens.Triples.{HasSource}
use Rattle.lp_back_end_laws.proofs.Call.Linked.{IsIn}
use Rattle.lp_back_end_laws.proofs.Call.Pulls.{HasClosure}
use Rattle.lp_agreement.proofs.Composed.AscentModules.{ascent_form}
use Rattle.lp_back_end_laws.specs.Filled.BackEndLaw.{AreNamedApart}
use Rattle.lp_back_end_laws.proofs.Ascent.Runs.{RunsAscent, ascent_module}
use Rattle.lp_back_end_laws.proofs.Ascent.Grows.{numbered_all}
use Rattle.lp_back_end_laws.proofs.Ascent.Stays.{Stays}
use Rattle.lp_back_end_laws.proofs.Ascent.Variants.{AreInRow, row_all, row_first, row_none}
use Rattle.lp_back_end_laws.proofs.Ascent.Begins.{starts}
use Rattle.lp_back_end_laws.proofs.Ascent.Linking.{begins, closure_stays, source_stays, sourced, variants_made}
use Rattle.lp_back_end_laws.proofs.Ascent.ModuleRows.{all_names}
use Rattle.lp_back_end_laws.proofs.Ascent.NamedRows.{items_are, last}
use Rattle.lp_back_end_laws.proofs.Ascent.StartRow.{AscentMade, ascent_made, start_code, started_last}

-- ---- numbers that stay
pub all_keep_numbers : (q : List ℕ) (k : ℕ) (vs : List (List ℕ)) (es : List (List ℕ × ℕ)) → number_in q es ≡ Some k → number_in q (numbered_all vs es) ≡ Some k
all_keep_numbers q k [] es h = h
all_keep_numbers q k (v ∷ vs) es h = all_keep_numbers q k vs (first_numbered v (length es) es) (numbered_kept q v (length es) k es h)

-- ---- numbers of variants
module _ (g : Grammar) (es : List (List ℕ × ℕ)) where
  -- the number of a name, or one that no name has
  abbrev named_or : ℕ → Option ℕ → ℕ
  named_or n o = unwrap_or o (length es + n)

  abbrev variant_by : ℕ → Option NonterminalString → ℕ
  variant_by n None = length es + n
  variant_by n (Some name) = named_or n (number_in (answer_name name) es)

  abbrev pub variant_of : ℕ → ℕ
  variant_of n = variant_by n (slice_get (nonterminals_of g) n)

  pub variant_is : (n k : ℕ) (name : NonterminalString) → slice_get (nonterminals_of g) n ≡ Some name → number_in (answer_name name) es ≡ Some k → variant_of n ≡ k
  variant_is n k name at named = ap (variant_by n) at ∙ ap (named_or n) named

  -- nonterminals of different names have different ones
  module _ (row : AreInRow es) (clash : AreNamedApart g) where
    by_numbers : (i j : ℕ) (a b : NonterminalString) → slice_get (nonterminals_of g) i ≡ Some a → slice_get (nonterminals_of g) j ≡ Some b → (o u : Option ℕ) → number_in (answer_name a) es ≡ o → number_in (answer_name b) es ≡ u → named_or i o ≡ named_or j u → i ≡ j
    by_numbers i j a b at there None None is so e = omega (arith, e)
    by_numbers i j a b at there None (Some l) is so e = (let less = row.few (answer_name b) l so in absurd (omega (arith, less, e)))
    by_numbers i j a b at there (Some k) None is so e = (let less = row.few (answer_name a) k is in absurd (omega (arith, less, e)))
    by_numbers i j a b at there (Some k) (Some l) is so e = clash i j a b at there (row.apart (answer_name a) (answer_name b) l (is ∙ ap Some e) so)

    pub variants_apart : (i j : ℕ) → i < length (nonterminals_of g) → j < length (nonterminals_of g) → variant_of i ≡ variant_of j → i ≡ j
    variants_apart i j few less e =
        let a = at_within (nonterminals_of g) i few in
        let b = at_within (nonterminals_of g) j less in
        by_numbers i j a.0 b.0 a.1 b.1 (number_in (answer_name a.0) es) (number_in (answer_name b.0) es) refl refl (sym (ap (variant_by i) a.1) ∙ e ∙ ap (variant_by j) b.1)

-- ---- the program
module _ {prefix : List ℕ} {program : Form} {g : Grammar} {states : List Lr1State} {st : Start} {p : Program} (runs : RunsAscent prefix program g states st p) where
  abbrev pub whole : Making
  whole = last g states st prefix program

  abbrev pub variant : ℕ → ℕ
  variant = variant_of g (started_last g states st prefix program).variants

  made : AscentMade g states st prefix program (ascent_module prefix program g states st)
  made = ascent_made g states st prefix program

  -- a function that was made is the program's
  pub function_there : (j : ℕ) (f : Function) → slice_get whole.functions j ≡ Some (Some f) → slice_get p.functions j ≡ Some f
  function_there j f h =
      ap (λ (fs : List Function). slice_get fs j) (runs.functions ∙ made.functions)
      ∙ finished_there (whole.functions ++ Some (start_code g states st prefix program) ∷ []) j f (get_more whole.functions (Some (start_code g states st prefix program) ∷ []) j (Some f) h)

  pub texts_are : p.texts ≡ whole.texts
  texts_are = runs.texts ∙ made.texts

  pub variants_in_row : AreInRow (started_last g states st prefix program).variants
  variants_in_row =
      let v = variants_made prefix program (ascent_form g states st) (all_names g states st) (items_are g states st prefix program) in
      row_first (answer_name st.nonterminal) whole.variants (subst AreInRow (sym v.1) (row_all v.0 [] row_none))

  -- what was made before the `parse` method is in the program
  pub is_in : (m : Making) → Stays m whole → IsIn g p variant m
  is_in m stays = record {
    texts = (stays.texts.0, texts_are ∙ stays.texts.1);
    functions = λ i f h. function_there i f (stays.kept i f h);
    variants = λ n k name at named.
        (let later : number_in (answer_name name) whole.variants ≡ Some k = ap (number_in (answer_name name)) stays.variants.1 ∙ all_keep_numbers (answer_name name) k stays.variants.0 m.variants named in
        variant_is g (started_last g states st prefix program).variants n k name at (numbered_kept (answer_name name) (answer_name st.nonterminal) (length whole.variants) k whole.variants later));
  }

  -- the start's variant is that of its nonterminal
  pub start_variant : (k : ℕ) → slice_get (nonterminals_of g) k ≡ Some st.nonterminal → variant_tag (answer_name st.nonterminal) whole ≡ tag.Variant (variant k)
  start_variant k at = by (number_in (answer_name st.nonterminal) whole.variants) refl
    where
      by : (o : Option ℕ) → number_in (answer_name st.nonterminal) whole.variants ≡ o → variant_tag (answer_name st.nonterminal) whole ≡ tag.Variant (variant k)
      by None is =
          let n = length whole.variants in
          ap (λ (u : Option ℕ). tag.Variant (unwrap_or u n)) is
          ∙ ap (λ (x : ℕ). tag.Variant x) (sym (variant_is g (started_last g states st prefix program).variants k n st.nonterminal at (numbered_here (answer_name st.nonterminal) n whole.variants is)))
      by (Some n) is =
          ap (λ (u : Option ℕ). tag.Variant (unwrap_or u (length whole.variants))) is
          ∙ ap (λ (x : ℕ). tag.Variant x) (sym (variant_is g (started_last g states st prefix program).variants k n st.nonterminal at (numbered_kept (answer_name st.nonterminal) (answer_name st.nonterminal) (length whole.variants) n whole.variants is)))

  -- ---- the closure of the token source
  located_is : (m : Making) → p.located ≡ (beginning (unmade prefix) program).located
  unfolding module_made
  located_is m = runs.located

  abbrev keeps : Bool
  keeps = (beginning (unmade prefix) program).located

  source_there : (low n : ℕ) → Source keeps low (sourced prefix program (ascent_form g states st)).functions n → HasClosure p (Some n)
  source_there low n h =
      let stay = source_stays prefix program (ascent_form g states st) (all_names g states st) (items_are g states st prefix program) in
      let there : (j : ℕ) (f : Function) → slice_get (sourced prefix program (ascent_form g states st)).functions j ≡ Some (Some f) → slice_get p.functions j ≡ Some f = λ j f at. function_there j f (stay j f at) in
      subst (λ (b : Bool). HasSource p b n) (sym (located_is whole)) (record {
        first = h.first;
        error = h.error;
        fault = h.fault;
        first_there = there h.first _ h.first_there.1;
        error_there = λ e. there h.error _ (h.error_there e).1;
        fault_there = there h.fault _ h.fault_there.1;
        item_there = there n _ h.item_there.1;
      })

  closure_by : (low : ℕ) (o : Option ℕ) → made_source.HasClosure keeps low (sourced prefix program (ascent_form g states st)).functions o → HasClosure p o
  closure_by low _ Without = tt
  closure_by low _ (With n h) = source_there low n h

  pub closure_there : HasClosure p whole.item_closure
  closure_there =
      let items = ascent_form g states st in
      let b = begins prefix program items in
      subst (HasClosure p) (sym (closure_stays prefix program items (all_names g states st) (items_are g states st prefix program)))
      (closure_by (length b.actions.made.functions) (sourced prefix program items).item_closure (source_made b.located b.actions.made (parser_of items) (starts prefix program).item_closure))
