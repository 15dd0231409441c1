-- No two nonterminals have one escaped name, where no text stands twice among them.
use Rattle.std.proofs.Common.{◌≡◌, ◌⊎◌, inl, inr, ℕ, ◌<◌, ◌≤◌, length, Some, sym, ap, ◌∙◌, arith}
use Rattle.std.specs.Prelude.{slice_get}
use Rattle.std.specs.Option.{option_map}
use Rattle.std.proofs.lemmas.Bool.{cases_lt}
use Rattle.std.proofs.lemmas.List.{length-map}
use Rattle.std.proofs.lemmas.Option.{slice_get-map, slice_get_within}
use Rattle.lp_repr.specs.Numbering.{nonterminals_of}
use Rattle.lp_repr.specs.declared.repr.Grammar.{Grammar}
use Rattle.lp_repr.specs.declared.repr.NonterminalString.{NonterminalString}
use Rattle.lp_ascent.specs.AnswerLines.{answer_name, answer_names}
use Rattle.lp_back_end_laws.specs.Filled.BackEndLaw.{AreNamedApart}

module _ (g : Grammar) (once : (first second : ℕ) → first < second → second < length (answer_names g) → slice_get (answer_names g) first ≡ slice_get (answer_names g) second → ⊥) where
  named_at : (i : ℕ) (a : NonterminalString) → slice_get (nonterminals_of g) i ≡ Some a → slice_get (answer_names g) i ≡ Some (answer_name a)
  named_at i a at = slice_get-map answer_name (nonterminals_of g) i ∙ ap (option_map answer_name) at

  never : (i j : ℕ) (a b : NonterminalString) → slice_get (nonterminals_of g) i ≡ Some a → slice_get (nonterminals_of g) j ≡ Some b → answer_name a ≡ answer_name b → i < j → ⊥
  never i j a b at there same less =
      let within : j < length (nonterminals_of g) = slice_get_within (nonterminals_of g) j b there in
      once i j less (omega (arith, within, length-map (nonterminals_of g) answer_name)) (named_at i a at ∙ ap Some same ∙ sym (named_at j b there))

  pub named_apart : AreNamedApart g
  named_apart i j a b at there same = by (cases_lt i j) (cases_lt j i)
    where
      by : (i < j) ⊎ (j ≤ i) → (j < i) ⊎ (i ≤ j) → i ≡ j
      by (inl less) other = absurd (never i j a b at there same less)
      by (inr le) (inl less) = absurd (never j i b a there at (sym same) less)
      by (inr le) (inr ge) = omega (arith, le, ge)
