-- What `parse` gives, as functions.
use Rattle.std.proofs.Common.{◌≡◌, ℕ, ◌^◌, ◌<◌, Bool, true, false, ◌&&◌, ltb, List, [], ◌∷◌, length, ℤ, pos, negsuc, Some, Result, Ok, Err, refl, ap, arith}
use Rattle.std.proofs.lemmas.Bool.{lt-ltb, false≢true}
use Rattle.std.proofs.lemmas.Bool.Decides.{nat_tests}
use Rattle.std.specs.Prelude.{FitsSigned}
use Rattle.std.specs.Char.{digit_value}
use Rattle.std.specs.Result.{OkIff, result_ok}
use Rattle.std.specs.Str.Parse.{AllDigits, IsNumeral, ParsesUnsigned, ParsesSigned, digits_value, signed_digits_value, without_leading_plus, without_leading_sign}
use Rattle.lp_maker.specs.Numbers.{are_digits, is_numeral, some_if, number_of, is_wide, wide_number_of}
use mir.Syntax.{w64}

left_true : (a b : Bool) → (a && b) ≡ true → a ≡ true
left_true true b h = refl
left_true false b h = h

right_true : (a b : Bool) → (a && b) ≡ true → b ≡ true
right_true true b h = h
right_true false b h = absurd (false≢true h)

both_true : (a b : Bool) → a ≡ true → b ≡ true → (a && b) ≡ true
both_true true b g h = h
both_true false b g h = absurd (false≢true g)

below : (n m : ℕ) → ltb n m ≡ true → n < m
below n m h = grind (arith, nat_tests)

-- a result that is there where P holds, as a test of P says
ok_if : {E X : Type 0} (test : Bool) (P : Type 0) (v : X) (r : Result X E) → OkIff r P v → (test ≡ true → P) → (P → test ≡ true) → result_ok r ≡ some_if test v
ok_if true P v (Ok x) h f g = ap Some h.1
ok_if false P v (Ok x) h f g = absurd (false≢true (g h.0))
ok_if true P v (Err e) h f g = absurd (h (f refl))
ok_if false P v (Err e) h f g = refl

digits_to : (ds : List ℕ) → are_digits ds ≡ true → AllDigits 10 ds
digits_to [] h = tt
digits_to (c ∷ cs) h = (below (digit_value c) 10 (left_true (ltb (digit_value c) 10) (are_digits cs) h), digits_to cs (right_true (ltb (digit_value c) 10) (are_digits cs) h))

digits_from : (ds : List ℕ) → AllDigits 10 ds → are_digits ds ≡ true
digits_from [] h = refl
digits_from (c ∷ cs) h = both_true (ltb (digit_value c) 10) (are_digits cs) (lt-ltb (digit_value c) 10 h.0) (digits_from cs h.1)

numeral_to : (ds : List ℕ) → is_numeral ds ≡ true → IsNumeral 10 ds
numeral_to ds h = (below 0 (length ds) (left_true (ltb 0 (length ds)) (are_digits ds) h), digits_to ds (right_true (ltb 0 (length ds)) (are_digits ds) h))

numeral_from : (ds : List ℕ) → IsNumeral 10 ds → is_numeral ds ≡ true
numeral_from ds h = both_true (ltb 0 (length ds)) (are_digits ds) (lt-ltb 0 (length ds) h.0) (digits_from ds h.1)

pub number_parsed : {E : Type 0} (s : List ℕ) (r : Result ℕ E) → ParsesUnsigned 64 10 s r → result_ok r ≡ number_of s
number_parsed s r h =
    let ds = without_leading_plus s in
    let v = digits_value 10 ds in
    ok_if (is_numeral ds && ltb v (2 ^ 64)) (IsNumeral 10 ds × (v < 2 ^ 64)) v r h (λ t. (numeral_to ds (left_true (is_numeral ds) (ltb v (2 ^ 64)) t), below v (2 ^ 64) (right_true (is_numeral ds) (ltb v (2 ^ 64)) t))) (λ p. both_true (is_numeral ds) (ltb v (2 ^ 64)) (numeral_from ds p.0) (lt-ltb v (2 ^ 64) p.1))

wide_to : (z : ℤ) → is_wide z ≡ true → FitsSigned w64 z
wide_to (pos n) h = record { sfits = below n (2 ^ 63) h }
wide_to (negsuc n) h = record { sfits = below n (2 ^ 63) h }

wide_from : (z : ℤ) → FitsSigned w64 z → is_wide z ≡ true
wide_from (pos n) h = lt-ltb n (2 ^ 63) h.sfits
wide_from (negsuc n) h = lt-ltb n (2 ^ 63) h.sfits

pub wide_number_parsed : {E : Type 0} (s : List ℕ) (r : Result ℤ E) → ParsesSigned w64 10 s r → result_ok r ≡ wide_number_of s
wide_number_parsed s r h =
    let ds = without_leading_sign s in
    let v = signed_digits_value 10 s in
    ok_if (is_numeral ds && is_wide v) (IsNumeral 10 ds × FitsSigned w64 v) v r h (λ t. (numeral_to ds (left_true (is_numeral ds) (is_wide v) t), wide_to v (right_true (is_numeral ds) (is_wide v) t))) (λ p. both_true (is_numeral ds) (is_wide v) (numeral_from ds p.0) (wide_from v p.1))
