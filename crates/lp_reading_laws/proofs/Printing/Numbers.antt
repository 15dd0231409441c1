-- Numbers of table entries, as they are printed, are read as they are.
use Rattle.std.proofs.Common.{◌≡◌, ℕ, ℤ, pos, negsuc, neg_ℤ, ◌+◌, ◌^◌, ◌==◌, ◌<◌, ◌≤◌, suc, true, false, not, ◌&&◌, List, [], ◌∷◌, ◌++◌, length, get_or, take, drop, codes, Some, None, refl, ap, ◌∙◌, arith, eqb, ltb, inl, inr, ◌⊎◌}
use Rattle.std.proofs.Math.Dec.{leb}
use Rattle.std.specs.List.{list_all, prefix_len, starts_with}
use Rattle.std.specs.Fmt.{decimal, signed_decimal}
use Rattle.std.specs.Str.{bytes_eq}
use Rattle.std.specs.Str.Parse.{AllDigits, digits_value}
use Rattle.std.proofs.lemmas.Bool.{and_parts, and_from, and_left, and_right, cases_eq, cond-true, cond-false, ne_eqb, lt-ltb, le-leb, le-ltb, leb-true, not_from_false, false_from_ne_true}
use Rattle.std.proofs.lemmas.Fmt.{decimal_is_IsNumeral, decimal_digit, first_decimal}
use Rattle.std.proofs.lemmas.List.{take_at, drop_at}
use Rattle.std.proofs.lemmas.Slice.Eq.{bytes_eq-Decides}
use Rattle.std.proofs.lemmas.Str.Parse.{digit_from_value}
use Rattle.lp_spelling.specs.HoleEnds.{is_digit}
use Rattle.lp_spelling.specs.Fillings.{is_number, leads_zero}
use Rattle.lp_spelling.specs.TableReading.{number_of, sign_len, number_end, entry_in}
use Rattle.lp_spelling.proofs.Tables.{entry_some}

-- a number of 32 bits
abbrev pub IsSmall : ℤ → Type 0
IsSmall (pos n) = n < 2 ^ 31
IsSmall (negsuc n) = n < 2 ^ 31

digit_list : (t : List ℕ) → AllDigits 10 t → list_all is_digit t ≡ true
digit_list [] h = refl
digit_list (b ∷ t) h =
    let r = digit_from_value b h.0 in
    and_from (is_digit b) (list_all is_digit t) (and_from (leb 48 b) (leb b 57) (le-leb 48 b r.0) (le-leb b 57 r.1)) (digit_list t h.1)

pub decimal_digits : (n : ℕ) → n < 2 ^ 64 → list_all is_digit (decimal n) ≡ true
decimal_digits n h = digit_list (decimal n) (decimal_is_IsNumeral n h).0.1

pub decimal_some : (n : ℕ) → n < 2 ^ 64 → 0 < length (decimal n)
decimal_some n h = (decimal_is_IsNumeral n h).0.0

decimal_leads : (n : ℕ) → n < 2 ^ 64 → leads_zero (decimal n) ≡ false
decimal_leads n h = elim (cases_eq n 0) [
  | inl e ↦
      let one : length (decimal n) ≡ 1 = ap (λ k. length (decimal k)) e ∙ ap length (decimal_digit 0 (omega arith)) in
      and_left (ltb 1 (length (decimal n))) _ (le-ltb 1 (length (decimal n)) (omega (arith, one)))
  | inr z ↦
      let f = first_decimal n (omega (arith, z)) h in
      and_right (ltb 1 (length (decimal n))) (get_or (decimal n) 0 0 == 48) (ne_eqb (get_or (decimal n) 0 0) 48 (λ e. omega (arith, e, f)))
]

decimal_number : (n : ℕ) → n < 2 ^ 64 → is_number (decimal n) ≡ true
unfolding is_number
decimal_number n h =
    let q = decimal_is_IsNumeral n h in
    let v = q.1 in
    and_from (ltb 0 (length (decimal n))) _ (lt-ltb 0 (length (decimal n)) q.0.0)
    (and_from (list_all is_digit (decimal n)) _ (decimal_digits n h)
    (and_from (not (leads_zero (decimal n))) _ (not_from_false (leads_zero (decimal n)) (decimal_leads n h))
    (lt-ltb (digits_value 10 (decimal n)) (2 ^ 64) (omega (arith, v, h)))))

digit_no_minus : (t : List ℕ) → list_all is_digit t ≡ true → starts_with eqb t (codes "-") ≡ false
digit_no_minus [] h = refl
digit_no_minus (b ∷ t) h =
    let q = and_parts (leb 48 b) (leb b 57) (and_parts (is_digit b) (list_all is_digit t) h).0 in
    let lo = leb-true 48 b q.0 in
    and_left (eqb 45 b) _ (ne_eqb 45 b (λ e. omega (arith, e, lo)))

small_64 : (n : ℕ) → n ≤ 2 ^ 31 → n < 2 ^ 64
small_64 n h = omega (arith, h)

number_pos : (n : ℕ) → n < 2 ^ 31 → number_of (decimal n) ≡ Some (pos n)
unfolding number_of
number_pos n h =
    let w = small_64 n (omega arith) in
    let v = (decimal_is_IsNumeral n w).1 in
    let fits : ltb (digits_value 10 (decimal n)) (2 ^ 31) ≡ true = lt-ltb (digits_value 10 (decimal n)) (2 ^ 31) (omega (arith, v, h)) in
    cond-false (starts_with eqb (decimal n) (codes "-")) _ _ (digit_no_minus (decimal n) (decimal_digits n w))
    ∙ cond-true (is_number (decimal n) && ltb (digits_value 10 (decimal n)) (2 ^ 31)) _ None (and_from (is_number (decimal n)) _ (decimal_number n w) fits)
    ∙ ap (λ k. Some (pos k)) v

number_neg : (n : ℕ) → n < 2 ^ 31 → number_of (45 ∷ decimal (suc n)) ≡ Some (negsuc n)
unfolding number_of
number_neg n h =
    let w = small_64 (suc n) (omega arith) in
    let v = (decimal_is_IsNumeral (suc n) w).1 in
    let f = first_decimal (suc n) (omega arith) w in
    let fits : leb (digits_value 10 (decimal (suc n))) (2 ^ 31) ≡ true = le-leb (digits_value 10 (decimal (suc n))) (2 ^ 31) (omega (arith, v, h)) in
    let some : bytes_eq (decimal (suc n)) (codes "0") ≡ false =
    false_from_ne_true _ (λ e. let same = ap (λ t. get_or t 0 0) ((bytes_eq-Decides (decimal (suc n)) (codes "0")).0 e) in omega (arith, same, f)) in
    cond-true (is_number (decimal (suc n)) && (not (bytes_eq (decimal (suc n)) (codes "0")) && leb (digits_value 10 (decimal (suc n))) (2 ^ 31))) _ None
    (and_from (is_number (decimal (suc n))) _ (decimal_number (suc n) w) (and_from (not (bytes_eq (decimal (suc n)) (codes "0"))) _ (not_from_false _ some) fits))
    ∙ ap (λ k. Some (neg_ℤ (pos k))) v

pub number_is : (z : ℤ) → IsSmall z → number_of (signed_decimal z) ≡ Some z
number_is (pos n) h = number_pos n h
number_is (negsuc n) h = number_neg n h

-- where the digits in front of a comma end
digits_end : (d rest : List ℕ) → list_all is_digit d ≡ true → prefix_len is_digit (d ++ 44 ∷ rest) ≡ length d
digits_end [] rest h = refl
digits_end (b ∷ d) rest h =
    let p = and_parts (is_digit b) (list_all is_digit d) h in
    let e = digits_end d rest p.1 in
    cond-true (is_digit b) (1 + prefix_len is_digit (d ++ 44 ∷ rest)) 0 p.0 ∙ omega (arith, e)

no_minus_more : (d rest : List ℕ) → list_all is_digit d ≡ true → starts_with eqb (d ++ 44 ∷ rest) (codes "-") ≡ false
no_minus_more [] rest h = refl
no_minus_more (b ∷ d) rest h = digit_no_minus (b ∷ []) (and_from (is_digit b) true (and_parts (is_digit b) (list_all is_digit d) h).0 refl)

end_pos : (n : ℕ) (rest : List ℕ) → n < 2 ^ 64 → number_end (decimal n ++ 44 ∷ rest) ≡ length (decimal n)
end_pos n rest h =
    let d = decimal_digits n h in
    let sign : sign_len (decimal n ++ 44 ∷ rest) ≡ 0 = cond-false (starts_with eqb (decimal n ++ 44 ∷ rest) (codes "-")) 1 0 (no_minus_more (decimal n) rest d) in
    let e = digits_end (decimal n) rest d in
    ap (λ s. s + prefix_len is_digit (drop s (decimal n ++ 44 ∷ rest))) sign ∙ omega (arith, e)

end_neg : (n : ℕ) (rest : List ℕ) → suc n < 2 ^ 64 → number_end (45 ∷ (decimal (suc n) ++ 44 ∷ rest)) ≡ length (45 ∷ decimal (suc n))
end_neg n rest h = let e = digits_end (decimal (suc n)) rest (decimal_digits (suc n) h) in omega (arith, e)

pub end_is : (z : ℤ) (rest : List ℕ) → IsSmall z → number_end (signed_decimal z ++ 44 ∷ rest) ≡ length (signed_decimal z)
end_is (pos n) rest h = end_pos n rest (small_64 n (omega (arith, h)))
end_is (negsuc n) rest h = end_neg n rest (small_64 (suc n) (omega (arith, h)))

-- an entry in front
pub entry_there : (z : ℤ) (rest : List ℕ) → IsSmall z → entry_in (signed_decimal z ++ 44 ∷ rest) ≡ Some (z, rest)
entry_there z rest h =
    let text : List ℕ = signed_decimal z ++ 44 ∷ rest in
    let e : number_end text ≡ length (signed_decimal z) = end_is z rest h in
    let front : take (number_end text) text ≡ signed_decimal z = ap (λ n. take n text) e ∙ take_at (signed_decimal z) (44 ∷ rest) (length (signed_decimal z)) refl in
    let back : drop (number_end text) text ≡ 44 ∷ rest = ap (λ n. drop n text) e ∙ drop_at (signed_decimal z) (44 ∷ rest) (length (signed_decimal z)) refl in
    entry_some text z (ap number_of front ∙ number_is z h) (ap (λ x. starts_with eqb x (codes ",")) back)
    ∙ ap (λ (x : List ℕ). Some (z, drop 1 x)) back

-- its first byte
pub record Opens (z : ℤ) : Type 0 where
  pub byte : ℕ
  pub others : List ℕ
  pub is : signed_decimal z ≡ byte ∷ others
  pub within : (byte ≡ 45) ⊎ (is_digit byte ≡ true)

decimal_opens : (t : List ℕ) → 0 < length t → list_all is_digit t ≡ true → (b : ℕ) × (x : List ℕ) × (t ≡ b ∷ x) × (is_digit b ≡ true)
decimal_opens [] l h = absurd (omega arith)
decimal_opens (b ∷ x) l h = (b, x, refl, (and_parts (is_digit b) (list_all is_digit x) h).0)

pub opens : (z : ℤ) → IsSmall z → Opens z
opens (pos n) h =
    let w = small_64 n (omega (arith, h)) in
    let d = decimal_opens (decimal n) (decimal_some n w) (decimal_digits n w) in
    record { byte = d.0; others = d.1; is = d.2; within = inr d.3 }
opens (negsuc n) h = record { byte = 45; others = decimal (suc n); is = refl; within = inl refl }
