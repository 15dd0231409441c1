-- What a whole text is read as.
use Rattle.std.proofs.Common.{◌≡◌, ℕ, List, Result, Ok, Err, sym, subst}
use Rattle.std.specs.Prelude.{IsErrAnd, IfOk}
use Rattle.lp_types.specs.declared.error.PlainError.{PlainError}
use Rattle.lp_types.specs.declared.error.PlainError.TheVariants.{Memory}
use Rattle.lp_types.specs.Left.{Left}
use Rattle.lp_types.specs.Reading.{Reading, Answers}
use Rattle.lp_types.specs.Spelled.{IsSpelling, IsReading, reads, no_room}

module _ {A B : Type 0} where
  pub read_as : (view : A → B) (reading : Reading B) (text : List ℕ) (offset : ℕ) (r : Result A PlainError) (tokens start rest : Left) → IsSpelling text offset tokens → start ≡ tokens → Answers view (reading start) r rest → IsReading view reading text offset r
  read_as view reading text offset r tokens start rest spelled same answers = reads tokens rest r spelled (subst (λ t. Answers view (reading t) r rest) same answers)

  pub not_read : (view : A → B) (reading : Reading B) (text : List ℕ) (offset : ℕ) (r : Result A PlainError) → IsErrAnd r (λ e. e ≡ Memory) → IsReading view reading text offset r
  not_read view reading text offset (Ok x) is = absurd is
  not_read view reading text offset (Err e) is = subst (λ x. IsReading view reading text offset (Err x)) (sym is) no_room

module _ {A E : Type 0} where
  -- what holds of a value holds as another fact
  pub if_ok_as : (P Q : A → Type 0) (r : Result A E) → IfOk r P → ((x : A) → P x → Q x) → IfOk r Q
  if_ok_as P Q (Ok x) h f = f x h
  if_ok_as P Q (Err e) h f = tt
