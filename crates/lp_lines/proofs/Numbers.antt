-- Bytes that pass a test, and numbers in decimal digits.
use Rattle.std.proofs.Common.{◌≡◌, ℕ, ◌^◌, ◌<◌, ◌≤◌, suc, zero, Bool, true, false, ◌&&◌, not, eqb, ltb, List, [], ◌∷◌, length, Option, Some, None, Result, Ok, Err, refl, sym, ap, ◌∙◌, ⊎_elim, arith, rules}
use Rattle.std.proofs.lemmas.Bool.{lt-ltb, le-ltb, cases_lt}
use Rattle.std.proofs.lemmas.Bool.Decides.{nat_tests}
use Rattle.std.proofs.lemmas.Str.Ascii.{IsAscii-nil, IsAscii-cons}
use Rattle.std.proofs.lemmas.Str.Parse.{IsNumeralModel, numerals_by_value, parse_digits}
use Rattle.std.specs.Char.{is_ascii_digit, is_ascii_alphabetic}
use Rattle.std.specs.List.{list_all}
use Rattle.std.specs.Result.{OkIff, result_ok}
use Rattle.std.specs.Str.{IsAscii}
use Rattle.std.specs.Str.Parse.{ParsesUnsigned, digits_value}
use Rattle.lp_lines.specs.Scan.{has_leading_zero, is_numeral, fit, fit_if, number_of, is_name, is_payload_byte, is_payload}

-- both sides of a test that holds
pub and_left : (a b : Bool) → (a && b) ≡ true → a ≡ true
and_left true b h = refl
and_left false b h = h

pub and_right : (a b : Bool) → (a && b) ≡ true → b ≡ true
and_right true b h = h
and_right false b h = cc

not_zero : (n : ℕ) → not (eqb n 0) ≡ true → 0 < n
not_zero zero h = cc
not_zero (suc n) h = omega arith

-- what passes a test of ASCII bytes is ASCII
pub ascii_if : (test : ℕ → Bool) → ((b : ℕ) → test b ≡ true → b < 128) → (s : List ℕ) → list_all test s ≡ true → IsAscii s
ascii_if test small [] h = IsAscii-nil
ascii_if test small (b ∷ bs) h =
    IsAscii-cons b bs (small b (and_left (test b) (list_all test bs) h)) (ascii_if test small bs (and_right (test b) (list_all test bs) h))

digit_is_ascii : (b : ℕ) → is_ascii_digit b ≡ true → b < 128
digit_is_ascii b h = grind (arith, nat_tests)

letter_is_ascii : (b : ℕ) → is_ascii_alphabetic b ≡ true → b < 128
letter_is_ascii b h = grind (arith, nat_tests)

payload_is_ascii : (b : ℕ) → is_payload_byte b ≡ true → b < 128
unfolding is_payload_byte
payload_is_ascii b h = grind (arith, nat_tests)

pub ascii_name : (s : List ℕ) → is_name s ≡ true → IsAscii s
unfolding is_name
ascii_name s h = ascii_if is_ascii_alphabetic letter_is_ascii s (and_right (not (eqb (length s) 0)) _ h)

pub ascii_payload : (s : List ℕ) → is_payload s ≡ true → IsAscii s
unfolding is_payload
ascii_payload s h = ascii_if is_payload_byte payload_is_ascii s (and_right (not (eqb (length s) 0)) _ h)

numeral_digits : (s : List ℕ) → is_numeral s ≡ true → list_all is_ascii_digit s ≡ true
unfolding is_numeral
numeral_digits s h =
    and_left (list_all is_ascii_digit s) (not (has_leading_zero s)) (and_right (not (eqb (length s) 0)) _ h)

numeral_some : (s : List ℕ) → is_numeral s ≡ true → 0 < length s
unfolding is_numeral
numeral_some s h =
    not_zero (length s) (and_left (not (eqb (length s) 0)) (list_all is_ascii_digit s && not (has_leading_zero s)) h)

pub ascii_numeral : (s : List ℕ) → is_numeral s ≡ true → IsAscii s
ascii_numeral s h = ascii_if is_ascii_digit digit_is_ascii s (numeral_digits s h)

own : IsNumeralModel (λ ds. list_all is_ascii_digit ds ≡ true) (digits_value 10)
own = numerals_by_value (λ ds. list_all is_ascii_digit ds ≡ true) (search rules)

-- what `parse` gives for digits, as the number that fits
fit_parsed : {E : Type 0} (len n : ℕ) (r : Result ℕ E) → OkIff r ((0 < len) × (n < 2 ^ 64)) n → 0 < len → result_ok r ≡ fit n
fit_parsed len n (Ok x) h some =
    let below : n < 2 ^ 64 = h.0.1 in
    let same : x ≡ n = h.1 in
    rw (lt-ltb n (2 ^ 64) below, same) refl
fit_parsed len n (Err e) h some =
    let big : 2 ^ 64 ≤ n = ⊎_elim (λ below. absurd (h (some, below))) (λ above. above) (cases_lt n (2 ^ 64)) in
    rw (le-ltb n (2 ^ 64) big) refl

-- the number of a text that isn't a numeral, and of one that is
pub number_not : (s : List ℕ) → is_numeral s ≡ false → number_of s ≡ None
unfolding number_of
number_not s h = ap (λ b. fit_if b (digits_value 10 s)) h

pub number_parsed : {E : Type 0} (s : List ℕ) (r : Result ℕ E) → is_numeral s ≡ true → ParsesUnsigned 64 10 s r → result_ok r ≡ number_of s
unfolding number_of
number_parsed s r h p =
    fit_parsed (length s) (digits_value 10 s) r (parse_digits own 64 s r p (numeral_digits s h)) (numeral_some s h) ∙ ap (λ b. fit_if b (digits_value 10 s)) (sym h)
