-- What `parse` gives, as a function.
use Rattle.std.proofs.Common.{◌≡◌, ℕ, ◌^◌, ◌<◌, Bool, true, false, ◌&&◌, ltb, List, [], ◌∷◌, length, Some, Result, Ok, Err, refl, ap, arith}
use Rattle.std.proofs.lemmas.Bool.{lt-ltb, false≢true}
use Rattle.std.proofs.lemmas.Bool.Decides.{nat_tests}
use Rattle.std.specs.Prelude.{if◌then◌else◌, None}
use Rattle.std.specs.Char.{digit_value}
use Rattle.std.specs.Result.{OkIff, result_ok}
use Rattle.std.specs.Str.Parse.{AllDigits, IsNumeral, ParsesUnsigned, digits_value, without_leading_plus}
use Rattle.lp_notes.specs.Numbers.{are_digits, is_numeral, printed_number}

left_true : (a b : Bool) → (a && b) ≡ true → a ≡ true
left_true true b h = refl
left_true false b h = h

right_true : (a b : Bool) → (a && b) ≡ true → b ≡ true
right_true true b h = h
right_true false b h = absurd (false≢true h)

both_true : (a b : Bool) → a ≡ true → b ≡ true → (a && b) ≡ true
both_true true b g h = h
both_true false b g h = absurd (false≢true g)

below : (n m : ℕ) → ltb n m ≡ true → n < m
below n m h = grind (arith, nat_tests)

-- a result that is there where P holds, as a test of P says
ok_if : {E X : Type 0} (test : Bool) (P : Type 0) (v : X) (r : Result X E) → OkIff r P v → (test ≡ true → P) → (P → test ≡ true) → result_ok r ≡ (if test then Some v else None)
ok_if true P v (Ok x) h f g = ap Some h.1
ok_if false P v (Ok x) h f g = absurd (false≢true (g h.0))
ok_if true P v (Err e) h f g = absurd (h (f refl))
ok_if false P v (Err e) h f g = refl

digits_to : (ds : List ℕ) → are_digits ds ≡ true → AllDigits 10 ds
digits_to [] h = tt
digits_to (c ∷ cs) h = (below (digit_value c) 10 (left_true (ltb (digit_value c) 10) (are_digits cs) h), digits_to cs (right_true (ltb (digit_value c) 10) (are_digits cs) h))

digits_from : (ds : List ℕ) → AllDigits 10 ds → are_digits ds ≡ true
digits_from [] h = refl
digits_from (c ∷ cs) h = both_true (ltb (digit_value c) 10) (are_digits cs) (lt-ltb (digit_value c) 10 h.0) (digits_from cs h.1)

numeral_to : (ds : List ℕ) → is_numeral ds ≡ true → IsNumeral 10 ds
numeral_to ds h = (below 0 (length ds) (left_true (ltb 0 (length ds)) (are_digits ds) h), digits_to ds (right_true (ltb 0 (length ds)) (are_digits ds) h))

numeral_from : (ds : List ℕ) → IsNumeral 10 ds → is_numeral ds ≡ true
numeral_from ds h = both_true (ltb 0 (length ds)) (are_digits ds) (lt-ltb 0 (length ds) h.0) (digits_from ds h.1)

pub number_parsed : {E : Type 0} (s : List ℕ) (r : Result ℕ E) → ParsesUnsigned 64 10 s r → result_ok r ≡ printed_number s
number_parsed s r h =
    let ds = without_leading_plus s in
    let v = digits_value 10 ds in
    ok_if (is_numeral ds && ltb v (2 ^ 64)) (IsNumeral 10 ds × (v < 2 ^ 64)) v r h (λ t. (numeral_to ds (left_true (is_numeral ds) (ltb v (2 ^ 64)) t), below v (2 ^ 64) (right_true (is_numeral ds) (ltb v (2 ^ 64)) t))) (λ p. both_true (is_numeral ds) (ltb v (2 ^ 64)) (numeral_from ds p.0) (lt-ltb v (2 ^ 64) p.1))
