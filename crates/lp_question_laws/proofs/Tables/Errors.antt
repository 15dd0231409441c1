-- The error terminal of a valid grammar: where errors are mended there is one, and it stands last.
use Rattle.std.proofs.Common.{◌≡◌, ℕ, zero, suc, ◌+◌, ◌-◌, Bool, true, false, IsTrue, IfSome, List, [], ◌∷◌, length, Option, Some, None, refl, sym, ap, subst, ◌∙◌, arith}
use Rattle.std.specs.Prelude.{◌||◌, slice_get, is_some, position, if◌then◌else◌}
use Rattle.std.specs.List.{list_any}
use Rattle.std.specs.Option.{option_map_or}
use Rattle.std.proofs.lemmas.Iterator.Adapters.{position_from-zero}
use Rattle.std.proofs.lemmas.Option.{slice_get_within}
use Rattle.lp_repr.specs.Numbering.{terminals_of}
use Rattle.lp_repr.specs.declared.repr.Grammar.{Grammar}
use Rattle.lp_repr.specs.declared.repr.TerminalString.{TerminalString}
use Rattle.lp_repr.specs.declared.repr.TerminalString.TheVariants.{Quoted, Bare, Error}
use Rattle.lp_valid.specs.TerminalRules as valid
use Rattle.lp_valid.specs.ValidGrammar.{IsValidGrammar, error_terminal}
use Rattle.lp_machine.specs.GrammarTables.{is_error, error_of}
use Rattle.lp_turn_laws.proofs.Paths.Starts.{found_at, is_found}

pub same_error : (t : TerminalString) → valid.is_error t ≡ is_error t
same_error (Quoted s) = refl
same_error (Bare s) = refl
same_error Error = refl

-- what stands somewhere is found
stands : (ts : List TerminalString) (k : ℕ) → option_map_or valid.is_error (slice_get ts k) false ≡ true → list_any is_error ts ≡ true
stands [] k h = absurd cc
stands (t ∷ ts) zero h = ap (λ (b : Bool). b || list_any is_error ts) (sym (same_error t) ∙ h)
stands (t ∷ ts) (suc k) h = by (is_error t) (stands ts k h)
  where
    by : (b : Bool) → list_any is_error ts ≡ true → (b || list_any is_error ts) ≡ true
    by true e = refl
    by false e = e

found : (ts : List TerminalString) → list_any is_error ts ≡ true → is_some (position is_error ts) ≡ true
found ts h = (let f = is_found is_error 0 ts h in ap is_some (position_from-zero is_error ts ∙ f.1))

mended_by : (ts : List TerminalString) (b : Bool) → valid.EndsInError ts b → b ≡ is_some (if b then position is_error ts else None)
mended_by ts true h = sym (found ts (stands ts (length ts - 1) h))
mended_by ts false h = refl

-- it has its number
by_used : (b : Bool) (o : Option ℕ) (e : ℕ) → (if b then o else None) ≡ Some e → o ≡ Some e
by_used true o e h = h
by_used false o e h = absurd cc

pub the_error : (t : TerminalString) → is_error t ≡ true → t ≡ Error
the_error (Quoted s) h = absurd cc
the_error (Bare s) h = absurd cc
the_error Error h = refl

pub at_place : {X : Type 0} (P : X → Type 0) (o : Option X) (x : X) → o ≡ Some x → IfSome o P → P x
at_place P None x is h = absurd cc
at_place P (Some y) x is h = (let same : y ≡ x = cc in subst P same h)

module _ (g : Grammar) where
  pub error_at : (e : ℕ) → error_of g ≡ Some e → slice_get (terminals_of g) e ≡ Some Error
  error_at e is =
      let ts = terminals_of g in
      let f = found_at is_error 0 ts e (sym (position_from-zero is_error ts) ∙ by_used g.uses_error_recovery (position is_error ts) e is) in
      let place : e ≡ f.0 = omega (arith, f.2) in
      ap (slice_get ts) place ∙ f.3 ∙ ap Some (the_error f.1 f.4)

  module _ (rules : IsValidGrammar g) where
    -- errors are mended where the error terminal has a number
    pub errors_mended : g.uses_error_recovery ≡ is_some (error_of g)
    errors_mended = mended_by (terminals_of g) g.uses_error_recovery ((rules error_terminal (length (terminals_of g))).1 (omega arith))

    -- which is that of the last one
    pub error_last : (e : ℕ) → error_of g ≡ Some e → e + 1 ≡ length (terminals_of g)
    error_last e is =
        let ts = terminals_of g in
        let at = error_at e is in
        at_place (λ t. IsTrue (valid.is_error t) → e + 1 ≡ length ts) (slice_get ts e) Error at ((rules error_terminal e).0 (slice_get_within ts e Error at)) refl
