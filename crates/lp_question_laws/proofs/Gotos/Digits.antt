-- Printed numbers are read back.
use Rattle.std.proofs.Common.{◌≡◌, ℕ, ◌<◌, ◌^◌, false, cond, List, [], ◌∷◌, get_or, drop, pos, neg_ℤ, Some, Ok, ap, sym, subst, ◌∙◌, arith, decimal, ◌==◌}
use Rattle.std.proofs.lemmas.Bool.{ne_eqb}
use Rattle.std.proofs.lemmas.Fmt.{decimal_is_IsNumeral}
use Rattle.std.proofs.lemmas.Str.Parse.{digit_from_value}
use Rattle.std.specs.Prelude.{FitsSigned}
use Rattle.std.specs.Int.{IsInRange}
use Rattle.std.specs.Str.Parse.{AllDigits, IsNumeral, digits_value, ParsesSigned, ParsesUnsigned, signed_digits_value, without_leading_plus, without_leading_sign}
use Rattle.lp_maker.specs.Numbers.{number_of, wide_number_of}
use Rattle.lp_maker.proofs.Parsed.{number_parsed, wide_number_parsed}
use mir.Syntax.{w64}

-- no byte of a text is this one
abbrev pub Lacks : ℕ → List ℕ → Type 0
Lacks c [] = Unit {0}
Lacks c (b ∷ bs) = (b ≡ c → ⊥) × Lacks c bs

digits_lack : (c : ℕ) → (IsInRange 48 57 c → ⊥) → (ds : List ℕ) → AllDigits 10 ds → Lacks c ds
digits_lack c out [] h = tt
digits_lack c out (d ∷ ds) h = (λ e. out (subst (IsInRange 48 57) e (digit_from_value d h.0)), digits_lack c out ds h.1)

-- a printed number holds digits alone
pub decimal_lacks : (c n : ℕ) → (IsInRange 48 57 c → ⊥) → n < 2 ^ 64 → Lacks c (decimal n)
decimal_lacks c n out small = digits_lack c out (decimal n) (decimal_is_IsNumeral n small).0.1

first_lacks : (c : ℕ) (s : List ℕ) → (0 ≡ c → ⊥) → Lacks c s → (get_or s 0 0 == c) ≡ false
first_lacks c [] h l = ne_eqb 0 c h
first_lacks c (b ∷ bs) h l = ne_eqb b c l.0

plus_stays : (s : List ℕ) → Lacks 43 s → without_leading_plus s ≡ s
plus_stays s l = ap (λ b. drop (cond b 1 0) s) (first_lacks 43 s (λ e. omega arith) l)

sign_stays : (s : List ℕ) → Lacks 43 s → Lacks 45 s → without_leading_sign s ≡ s
sign_stays s p m = ap (λ b. cond b (drop 1 s) (without_leading_plus s)) (first_lacks 45 s (λ e. omega arith) m) ∙ plus_stays s p

pub number_of_decimal : (n : ℕ) → n < 2 ^ 64 → number_of (decimal n) ≡ Some n
number_of_decimal n small =
    let d = decimal_is_IsNumeral n small in
    let e = plus_stays (decimal n) (decimal_lacks 43 n (λ r. omega arith) small) in
    let h : ParsesUnsigned {E = ℕ} 64 10 (decimal n) (Ok n) = subst (λ ds. (IsNumeral 10 ds × (digits_value 10 ds < 2 ^ 64)) × (n ≡ digits_value 10 ds)) (sym e) ((d.0, subst (λ m. m < 2 ^ 64) (sym d.1) small), sym d.1) in
    sym (number_parsed {E = ℕ} (decimal n) (Ok n) h)

pub wide_number_of_decimal : (n : ℕ) → n < 2 ^ 63 → wide_number_of (decimal n) ≡ Some (pos n)
wide_number_of_decimal n small =
    let less : n < 2 ^ 64 = omega arith in
    let d = decimal_is_IsNumeral n less in
    let minus = decimal_lacks 45 n (λ r. omega arith) less in
    let e = sign_stays (decimal n) (decimal_lacks 43 n (λ r. omega arith) less) minus in
    let v : signed_digits_value 10 (decimal n) ≡ pos n =
    ap (λ b. cond b (neg_ℤ (pos (digits_value 10 (without_leading_sign (decimal n))))) (pos (digits_value 10 (without_leading_sign (decimal n))))) (first_lacks 45 (decimal n) (λ e. omega arith) minus)
    ∙ ap (λ ds. pos (digits_value 10 ds)) e ∙ ap pos d.1 in
    let fits : FitsSigned w64 (pos n) = record { sfits = small } in
    let h : ParsesSigned {E = ℕ} w64 10 (decimal n) (Ok (pos n)) = ((subst (IsNumeral 10) (sym e) d.0, subst (FitsSigned w64) (sym v) fits), sym v) in
    sym (wide_number_parsed {E = ℕ} (decimal n) (Ok (pos n)) h)
