-- The error terminal stands last, from the first place at which it stands.
use Rattle.std.proofs.Common.{◌≡◌, ℕ, ◌+◌, ◌-◌, ◌<◌, ◌≤◌, Bool, true, false, not, List, length, refl, arith, sym, ap, ◌∙◌, ◌⊎◌, inl, inr, position, Option, Some, None, IsTrue, IfSome, slice_get}
use Rattle.std.proofs.lemmas.Bool.{cases_lt}
use Rattle.lp_valid.proofs.FirstFailing.{first_where}
use Rattle.std.proofs.lemmas.Option.{slice_get_within}
use Rattle.lp_repr.specs.declared.repr.TerminalString.{TerminalString}
use Rattle.lp_valid.specs.Places.{EachPasses, IsFirstFailing}
use Rattle.lp_valid.specs.TerminalRules.{is_error, ErrorIsLast}

-- another terminal
abbrev pub is_other : TerminalString → Bool
is_other t = not (is_error t)

at_other : (ts : List TerminalString) (place : ℕ) → EachPasses is_other ts place → ErrorIsLast ts place
at_other ts place =
    elim (slice_get ts place) as (λ o. IfSome o (λ t. IsTrue (is_other t)) → IfSome o (λ t. IsTrue (is_error t) → place + 1 ≡ length ts)) [
      | None ↦ λ _. tt
      | Some t ↦ λ other is. let e : not (is_error t) ≡ false = ap not is in let no_way : true ≡ false = sym other ∙ e in cc
    ]

at_last : (ts : List TerminalString) (place : ℕ) → length ts - 1 ≤ place → ErrorIsLast ts place
at_last ts place low =
    elim (slice_get ts place) as (λ o. slice_get ts place ≡ o → IfSome o (λ t. IsTrue (is_error t) → place + 1 ≡ length ts)) [
      | None ↦ λ _. tt
      | Some t ↦ λ e is. let within = slice_get_within ts place t e in omega arith
    ] refl

error_from_other : (b : Bool) → (not b ≡ true → ⊥) → b ≡ true
error_from_other true h = refl
error_from_other false h = absurd (h refl)

not_last : (ts : List TerminalString) (place : ℕ) → place < length ts - 1 → ¬ EachPasses is_other ts place → ¬ ErrorIsLast ts place
not_last ts place less =
    elim (slice_get ts place) as (λ o. (IfSome o (λ t. IsTrue (is_other t)) → ⊥) → IfSome o (λ t. IsTrue (is_error t) → place + 1 ≡ length ts) → ⊥) [
      | None ↦ λ h _. h tt
      | Some t ↦ λ h last. let e : place + 1 ≡ length ts = last (error_from_other (is_error t) h) in omega arith
    ]

pub none_stands : (ts : List TerminalString) → IsFirstFailing (EachPasses is_other ts) None → IsFirstFailing (ErrorIsLast ts) None
none_stands ts h = λ k. at_other ts k (h k)

pub stands_early : (ts : List TerminalString) (place : ℕ) → place < length ts - 1 → IsFirstFailing (EachPasses is_other ts) (Some place) → IsFirstFailing (ErrorIsLast ts) (Some place)
stands_early ts place less h = (not_last ts place less h.0, λ k below. at_other ts k (h.1 k below))

early_or_late : (ts : List TerminalString) (place k : ℕ) → length ts - 1 ≤ place → ((k : ℕ) → k < place → EachPasses is_other ts k) → (k < place) ⊎ (place ≤ k) → ErrorIsLast ts k
early_or_late ts place k low h (inl below) = at_other ts k (h k below)
early_or_late ts place k low h (inr past) = at_last ts k (omega arith)

pub stands_last : (ts : List TerminalString) (place : ℕ) → length ts - 1 ≤ place → IsFirstFailing (EachPasses is_other ts) (Some place) → IsFirstFailing (ErrorIsLast ts) None
stands_last ts place low h = λ k. early_or_late ts place k low h.1 (cases_lt k place)

twice_not : (b : Bool) → b ≡ not (not b)
twice_not true = refl
twice_not false = refl

-- the first place of the error terminal is the first at which no other stands
pub first_error : (ts : List TerminalString) (r : Option ℕ) → r ≡ position is_error ts → IsFirstFailing (EachPasses is_other ts) r
first_error ts r e = first_where is_other is_error (λ t. twice_not (is_error t)) ts r e
