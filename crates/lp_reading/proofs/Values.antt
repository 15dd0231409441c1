-- A literal's inside stands for what the definition reads.
use Rattle.std.proofs.Common.{◌≡◌, ℕ, ◌≤◌, Bool, true, false, List, [], ◌∷◌, zero, suc, length, refl, sym, ap, ◌∙◌, subst, inl, inr, arith}
use Rattle.std.specs.Prelude.{◌==◌, ◌&&◌, nat_lt, if◌then◌else◌, ◌+◌, ◌*◌, encode_utf8_all, Some}
use Rattle.std.specs.Str.{chars}
use Rattle.std.specs.Char.{digit_value}
use Rattle.std.proofs.lemmas.Bool.Decides.{eqb_tells}
use Rattle.lp_repr.specs.declared.values.ParseError.TheVariants.{User}
use Rattle.lp_tok.specs.declared.tok.Error.{Error}
use Rattle.lp_tok.specs.declared.tok.ErrorCode.{ErrorCode}
use Rattle.lp_tok.specs.declared.escapes.EscapeError.{EscapeError}
use Rattle.lp_tok.specs.declared.escapes.EscapeError.TheVariants as escapes
use Rattle.lp_tok.specs.Escapes.{IsFaultOf, Escaped, Stands, Fault, ascii_escape, escape, StandsFor, stands_none, stands_plain, stands_escape, FailsWith, fails_here, fails_plain, fails_escape}
use Rattle.lp_tok.specs.Signs.{quote, backslash}
use Rattle.lp_tok.specs.Tokens.{place}
use Rattle.lp_types.specs.Left.{Left}
use Rattle.lp_types.specs.declared.error.PlainError.{PlainError}
use Rattle.lp_types.specs.Reading.{Read, Fails, FailsWith as FailsSo, fails_so, lacks_memory}
use Rattle.lp_reading.specs.Literals.{Means, Wrong, with_char, from_escape, value_within, value_of, value_or_fault, error_of}

-- what follows an escape has at most so many characters
data Shorter : Escaped → ℕ → Type 0 where
  stands_short : (c : ℕ) (rest : List ℕ) (n : ℕ) → length rest ≤ n → Shorter (Stands c rest) n
  faults : (code : ErrorCode) (at : List ℕ) (n : ℕ) → Shorter (Fault code at) n

shorter_rest : (e : Escaped) (n : ℕ) → Shorter e n → (c : ℕ) (rest : List ℕ) → e ≡ Stands c rest → length rest ≤ n
shorter_rest _ n (stands_short d more _ h) c rest eq = let same : more ≡ rest = cc in subst (λ r. length r ≤ n) same h
shorter_rest _ n (faults code at _) c rest eq = absurd cc

shorter_if : (b : Bool) (x y : Escaped) (n : ℕ) → Shorter x n → Shorter y n → Shorter (if b then x else y) n
shorter_if true x y n p q = p
shorter_if false x y n p q = q

ascii_shorter : (start cs : List ℕ) → Shorter (ascii_escape start cs) (length cs)
ascii_shorter start [] = faults _ _ _
ascii_shorter start (high ∷ []) = faults _ _ _
ascii_shorter start (high ∷ low ∷ cs) =
    shorter_if (nat_lt (digit_value high) 8 && nat_lt (digit_value low) 16) _ _ _ (stands_short (digit_value high * 16 + digit_value low) cs (length (high ∷ low ∷ cs)) (omega arith)) (faults _ _ _)

ascii_shorter_behind : (c : ℕ) (start cs : List ℕ) → Shorter (ascii_escape start cs) (length (c ∷ cs))
ascii_shorter_behind c start [] = faults _ _ _
ascii_shorter_behind c start (high ∷ []) = faults _ _ _
ascii_shorter_behind c start (high ∷ low ∷ cs) =
    shorter_if (nat_lt (digit_value high) 8 && nat_lt (digit_value low) 16) _ _ _ (stands_short (digit_value high * 16 + digit_value low) cs (length (c ∷ high ∷ low ∷ cs)) (omega arith)) (faults _ _ _)

escape_shorter : (start cs : List ℕ) → Shorter (escape start cs) (length cs)
escape_shorter start [] = faults _ _ _
escape_shorter start (c ∷ cs) =
    let n : ℕ = length (c ∷ cs) in
    let plain = λ (d : ℕ). stands_short d cs n (omega arith) in
    shorter_if (c == backslash) _ _ _ (plain backslash)
    (shorter_if (c == quote) _ _ _ (plain quote)
    (shorter_if (c == 110) _ _ _ (plain 10)
    (shorter_if (c == 114) _ _ _ (plain 13)
    (shorter_if (c == 116) _ _ _ (plain 9)
    (shorter_if (c == 48) _ _ _ (plain 0)
    (shorter_if (c == 120) _ _ _ (ascii_shorter_behind c (c ∷ cs) cs) (faults _ _ _)))))))

after_escape : (cs rest : List ℕ) (c n : ℕ) → escape (backslash ∷ cs) cs ≡ Stands c rest → length (backslash ∷ cs) ≤ suc n → length rest ≤ n
after_escape cs rest c n e h = let short = shorter_rest _ (length cs) (escape_shorter (backslash ∷ cs) cs) c rest e in omega arith

plain_value : (c n : ℕ) (cs : List ℕ) → (c ≡ backslash → ⊥) → value_within (suc n) (c ∷ cs) ≡ with_char c (value_within n cs)
plain_value c n cs plain =
    let t : (c == backslash) ≡ false = elim (eqb_tells c backslash) [ inl h ↦ absurd (plain h.1) | inr h ↦ h.0 ] in
    ap (λ b. if b then from_escape (value_within n) (escape (c ∷ cs) cs) else with_char c (value_within n cs)) t

stands_value : (cs out : List ℕ) → StandsFor cs out → (n : ℕ) → length cs ≤ n → value_within n cs ≡ Means out
stands_value _ _ stands_none zero h = refl
stands_value _ _ stands_none (suc n) h = refl
stands_value _ _ (stands_plain c cs out plain more) zero h = absurd (omega arith)
stands_value _ _ (stands_plain c cs out plain more) (suc n) h = plain_value c n cs plain ∙ ap (with_char c) (stands_value cs out more n (omega arith))
stands_value _ _ (stands_escape c cs rest out e more) zero h = absurd (omega arith)
stands_value _ _ (stands_escape c cs rest out e more) (suc n) h = ap (from_escape (value_within n)) e ∙ ap (with_char c) (stands_value rest out more n (after_escape cs rest c n e h))

fails_value : (cs at : List ℕ) (code : ErrorCode) → FailsWith cs code at → (n : ℕ) → length cs ≤ n → value_within n cs ≡ Wrong code at
fails_value _ _ _ (fails_here cs at code e) zero h = absurd (omega arith)
fails_value _ _ _ (fails_here cs at code e) (suc n) h = ap (from_escape (value_within n)) e
fails_value _ _ _ (fails_plain c cs at code plain more) zero h = absurd (omega arith)
fails_value _ _ _ (fails_plain c cs at code plain more) (suc n) h = plain_value c n cs plain ∙ ap (with_char c) (fails_value cs at code more n (omega arith))
fails_value _ _ _ (fails_escape c cs rest at code e more) zero h = absurd (omega arith)
fails_value _ _ _ (fails_escape c cs rest at code e more) (suc n) h = ap (from_escape (value_within n)) e ∙ ap (with_char c) (fails_value rest at code more n (after_escape cs rest c n e h))

-- the text that a literal's inside stands for is its value
pub value_means : (inside value out : List ℕ) (end : ℕ) (ts : Left) → StandsFor (chars inside) out → value ≡ encode_utf8_all out → value_or_fault end (value_of inside) ts ≡ Read (Some value) ts
unfolding value_of
value_means inside value out end ts stands e =
    ap (λ v. value_or_fault end v ts) (stands_value (chars inside) out stands (length (chars inside)) (omega arith))
    ∙ ap (λ v. Read (Some v) ts) (sym e)

-- the error of its escapes is that of the definition
pub value_fails : (inside at : List ℕ) (e : Error) (end : ℕ) (ts : Left) → FailsWith (chars inside) e.code at → e.location ≡ place end at → value_or_fault end (value_of inside) ts ≡ Fails (User e)
unfolding value_of
value_fails inside at e end ts fails is =
    ap (λ v. value_or_fault end v ts) (fails_value (chars inside) at e.code fails (length (chars inside)) (omega arith))
    ∙ ap (λ l. Fails (User (record { location = l; code = e.code }))) (sym is)

-- and so does a call that answers it, or lacks memory
pub value_faults : (inside : List ℕ) (from : ℕ) (ts : Left) (fault : EscapeError) (e : PlainError) → IsFaultOf inside from fault → e ≡ error_of fault → FailsSo (value_or_fault (length inside + from) (value_of inside) ts) e
value_faults inside from ts (escapes.Bad error) e is same =
    let P : PlainError → Type 0 = λ x. FailsSo (value_or_fault (length inside + from) (value_of inside) ts) x in
    subst P (sym same) (fails_so (User error) (value_fails inside is.0 error (length inside + from) ts is.1 is.2))
value_faults inside from ts escapes.Memory e is same =
    let P : PlainError → Type 0 = λ x. FailsSo (value_or_fault (length inside + from) (value_of inside) ts) x in
    subst P (sym same) lacks_memory
