-- What a reading finds, step by step.
use Rattle.std.proofs.Common.{◌≡◌, Bool, true, false, Result, Ok, Err, sym, ap, ◌∙◌, subst}
use Rattle.std.specs.Prelude.{IsErrAnd}
use Rattle.lp_tok.specs.declared.tok.Tok.{Tok}
use Rattle.lp_types.specs.declared.error.PlainError.{PlainError}
use Rattle.lp_types.specs.declared.error.PlainError.TheVariants.{Memory}
use Rattle.lp_types.specs.Left.{Left, Fault}
use Rattle.lp_types.specs.Reading.{Found, Read, Fails, Reading, then, choose, passed, where_next, FailsWith, fails_so, lacks_memory, IsError, same_error, want_of_memory, Answers}

-- the first part is read
pub read_then : {A B : Type 0} (found : Found A) (f : A → Reading B) (x : A) (mid : Left) (answer : Found B) → found ≡ Read x mid → f x mid ≡ answer → then found f ≡ answer
unfolding then
read_then found f x mid answer e h = ap (λ y. then y f) e ∙ h

-- a choice, as it was read
pub chosen_yes : {A : Type 0} (found : Found Bool) (p q : Reading A) (mid : Left) (b : Bool) (answer : Found A) → found ≡ Read b mid → b ≡ true → p mid ≡ answer → then found (λ v. choose v p q) ≡ answer
unfolding choose
chosen_yes found p q mid b answer e is h = read_then found (λ v. choose v p q) b mid answer e (ap (λ v. choose v p q mid) is ∙ h)

pub chosen_no : {A : Type 0} (found : Found Bool) (p q : Reading A) (mid : Left) (b : Bool) (answer : Found A) → found ≡ Read b mid → b ≡ false → q mid ≡ answer → then found (λ v. choose v p q) ≡ answer
unfolding choose
chosen_no found p q mid b answer e is h = read_then found (λ v. choose v p q) b mid answer e (ap (λ v. choose v p q mid) is ∙ h)

-- the token comes next
pub where_yes : {A : Type 0} (t : Tok) (p q : Reading A) (ts mid : Left) (b : Bool) (answer : Found A) → passed t ts ≡ Read b mid → b ≡ true → p mid ≡ answer → where_next t p q ts ≡ answer
unfolding where_next
where_yes t p q ts mid b answer e is h = chosen_yes (passed t ts) p q mid b answer e is h

-- it doesn't
pub where_no : {A : Type 0} (t : Tok) (p q : Reading A) (ts mid : Left) (b : Bool) (answer : Found A) → passed t ts ≡ Read b mid → b ≡ false → q mid ≡ answer → where_next t p q ts ≡ answer
unfolding where_next
where_no t p q ts mid b answer e is h = chosen_no (passed t ts) p q mid b answer e is h

-- the first part fails
pub fails_then : {A B : Type 0} (found : Found A) (f : A → Reading B) (e : PlainError) → FailsWith found e → FailsWith (then found f) e
unfolding then
fails_then found f _ (fails_so e h) = fails_so e (ap (λ y. then y f) h)
fails_then found f _ lacks_memory = lacks_memory

-- the next token goes on nothing
pub fails_here : {A : Type 0} (found : Found A) (at : Fault) (e : PlainError) → IsError at e → found ≡ Fails at → FailsWith found e
fails_here found at _ (same_error e h) eq = fails_so e (eq ∙ ap Fails (sym h))
fails_here found at _ want_of_memory eq = lacks_memory

module _ {A : Type 0} where
  pub fails_as : (found other : Found A) (e : PlainError) → FailsWith other e → found ≡ other → FailsWith found e
  fails_as found other e h eq = let P : Found A → Type 0 = λ y. FailsWith y e in subst P (sym eq) h

module _ {A B : Type 0} where
  -- an error is handed on
  pub handed_on : (view : A → B) (found : Found B) (r : Result A PlainError) (rest : Left) (e : PlainError) → FailsWith found e → IsErrAnd r (λ x. x ≡ e) → Answers view found r rest
  handed_on view found (Ok x) rest e h is = absurd is
  handed_on view found (Err x) rest e h is = let P : PlainError → Type 0 = λ y. FailsWith found y in subst P (sym is) h

  -- want of memory is handed on
  pub no_memory : (view : A → B) (found : Found B) (r : Result A PlainError) (rest : Left) → IsErrAnd r (λ x. x ≡ Memory) → Answers view found r rest
  no_memory view found r rest is = handed_on view found r rest Memory lacks_memory is

  -- what is left to read answers
  pub answers_as : (view : A → B) (whole found : Found B) (r : Result A PlainError) (rest : Left) → Answers view found r rest → whole ≡ found → Answers view whole r rest
  answers_as view whole found r rest h eq = let P : Found B → Type 0 = λ y. Answers view y r rest in subst P (sym eq) h

module _ {A B C : Type 0} where
  -- the error of a part is handed on, after others were read
  pub part_fails : (view : C → B) (whole : Found B) (found : Found A) (f : A → Reading B) (r : Result C PlainError) (rest : Left) (e : PlainError) → FailsWith found e → IsErrAnd r (λ x. x ≡ e) → whole ≡ then found f → Answers view whole r rest
  part_fails view whole found f r rest e h is eq = handed_on view whole r rest e (fails_as whole (then found f) e (fails_then found f e h) eq) is
