-- Digits at a front, where a text may be cut after them, and the names in a pattern.
use Rattle.std.proofs.Common.{◌≡◌, ℕ, zero, suc, ◌+◌, ◌-◌, ◌<◌, ◌≤◌, true, List, ◌++◌, length, get_or, ap, subst, ◌∙◌, append_assoc, Option, Some, None, arith}
use Rattle.std.specs.Char.{is_ascii_digit}
use Rattle.std.specs.Str.{IsCharBoundary, IsUtf8}
use Rattle.std.proofs.lemmas.Bool.Decides.{nat_tests}
use Rattle.std.proofs.lemmas.Str.{IsCharBoundary-start, IsCharBoundary-after_ascii}
use Rattle.std.specs.Prelude.{codes}
use Rattle.lp_maker.specs.Patterns.{after_digits, form_around, form_within}
use Rattle.lp_maker.specs.Texts.{cut_at}

-- a text may be cut after digits
pub cut_after : (s : List ℕ) (n : ℕ) → IsUtf8 s → n < length s + 1 → (0 < n → get_or s (n - 1) 0 < 128) → IsCharBoundary s n
cut_after s zero u within digit = IsCharBoundary-start s u
cut_after s (suc n) u within digit =
    let k : suc n - 1 ≡ n = omega arith in
    let more : n + 1 ≡ suc n = omega arith in
    let small : get_or s n 0 < 128 = subst (λ (m : ℕ). get_or s m 0 < 128) k (digit (omega arith)) in
    subst (λ (m : ℕ). IsCharBoundary s m) more (IsCharBoundary-after_ascii s n u (omega arith) small)

-- a text may be cut before an ASCII byte, and at its end
pub cut_before : (s : List ℕ) (n : ℕ) → n ≤ length s → (n < length s → get_or s n 0 < 128) → IsCharBoundary s n
cut_before s n within small = (within, λ l big. absurd (omega (arith, small l, big)))

-- where there is no name, the rest is the form's end
pub form_last : (n : ℕ) (name s done : List ℕ) → 0 < n → None ≡ cut_at name s → done ++ form_within 0 name s ≡ done ++ form_within n name s
form_last zero name s done pos e = absurd (omega arith)
form_last (suc n) name s done pos e =
    ap (λ (o : Option (List ℕ × List ℕ)). done ++ form_around (λ t. form_within n name t) s o) e

-- a name more
pub form_more : (n : ℕ) (name s a b old new : List ℕ) → 0 < n → Some (a, b) ≡ cut_at name s → new ≡ (old ++ a) ++ codes "_" → new ++ form_within (n - 1) name (after_digits b) ≡ old ++ form_within n name s
form_more zero name s a b old new pos e h = absurd (omega arith)
form_more (suc n) name s a b old new pos e h =
    let k : suc n - 1 ≡ n = omega arith in
    let rest : List ℕ = form_within n name (after_digits b) in
    ap (λ m. new ++ form_within m name (after_digits b)) k
    ∙ ap (λ (xs : List ℕ). xs ++ rest) h
    ∙ ap (λ (xs : List ℕ). xs ++ rest) (append_assoc old a (codes "_"))
    ∙ append_assoc old (a ++ codes "_") rest
    ∙ ap (λ (o : Option (List ℕ × List ℕ)). old ++ form_around (λ t. form_within n name t) s o) e

-- no name more
pub form_end : (n : ℕ) (name s done all : List ℕ) → n ≡ 0 → done ++ form_within n name s ≡ all → done ++ s ≡ all
form_end zero name s done all e h = h
form_end (suc n) name s done all e h = absurd (omega arith)

pub small_digit : (c : ℕ) → is_ascii_digit c ≡ true → c < 128
small_digit c h = grind (arith, nat_tests)
