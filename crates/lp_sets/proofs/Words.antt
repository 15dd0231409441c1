-- Words of 64 bits, and the number that they spell.
use Rattle.std.proofs.Common.{◌≡◌, ℕ, zero, suc, ◌+◌, ◌-◌, ◌*◌, ◌/◌, ◌%◌, ◌^◌, ◌<◌, ◌≤◌, inl, inr, List, [], ◌∷◌, ◌++◌, length, get_or, set, take, refl, sym, ap, ◌∙◌, ⊎_elim, add-zero, arith, bit_and, bit_or}
use Rattle.std.proofs.lemmas.Bool.{cases_lt}
use Rattle.std.proofs.Math.Nat.{mul_assoc}
use Rattle.std.proofs.lemmas.Nat.{le_or_l, pow-add, pow_pos, or_block, one_shl, shr-shr, shr_split, mod_below}
use Rattle.std.proofs.lemmas.List.{take_more, length-take-le, get_or_past}
use Rattle.std.proofs.lemmas.Nat.Bits.{bit_at_or, bit_at_and, bit_at_cat_low, bit_at_cat_high, bit_at-zero, bit_at_above, same_from_bits, same_from_bits_below}
use Rattle.std.specs.Int.{bit_at}
use Rattle.lp_sets.specs.Members.{Has, spelled, AreWords}

-- numbers with the same bits
pub or_assoc : (a b c : ℕ) → bit_or (bit_or a b) c ≡ bit_or a (bit_or b c)
or_assoc a b c = same_from_bits _ _ (λ i. omega (arith, bit_at_or (bit_or a b) c i, bit_at_or a b i, bit_at_or a (bit_or b c) i, bit_at_or b c i))

pub or_zero : (a : ℕ) → bit_or a 0 ≡ a
or_zero a = same_from_bits _ _ (λ i. omega (arith, bit_at_or a 0 i, bit_at-zero i))

-- a word at one place more
word_up : (w n : ℕ) → (w * 2 ^ (64 * n)) * 2 ^ 64 + 0 ≡ w * 2 ^ (64 * suc n)
word_up w n =
    let e : 64 * suc n ≡ 64 * n + 64 = omega arith in
    let up : 2 ^ (64 * suc n) ≡ 2 ^ (64 * n) * 2 ^ 64 = ap (λ (k : ℕ). 2 ^ k) e ∙ pow-add 2 (64 * n) 64 in
    let z : (w * 2 ^ (64 * n)) * 2 ^ 64 + 0 ≡ (w * 2 ^ (64 * n)) * 2 ^ 64 = omega arith in
    z ∙ mul_assoc w (2 ^ (64 * n)) (2 ^ 64) ∙ ap (λ (k : ℕ). w * k) (sym up)

word_here : (w : ℕ) → w * 2 ^ (64 * 0) ≡ w
word_here w = omega arith

-- one word more, or one word changed
or_up : (s w n x : ℕ) → x < 2 ^ 64 → bit_or s (w * 2 ^ (64 * n)) * 2 ^ 64 + x ≡ bit_or (s * 2 ^ 64 + x) (w * 2 ^ (64 * suc n))
or_up s w n x h =
    ap (λ (k : ℕ). bit_or s (w * 2 ^ (64 * n)) * 2 ^ 64 + k) (sym (or_zero x))
    ∙ sym (or_block 64 s (w * 2 ^ (64 * n)) x 0 h (pow_pos 64))
    ∙ ap (bit_or (s * 2 ^ 64 + x)) (word_up w n)

pub spelled-push : (xs : List ℕ) (w : ℕ) → AreWords xs → spelled (xs ++ w ∷ []) ≡ bit_or (spelled xs) (w * 2 ^ (64 * length xs))
spelled-push [] w h = omega (arith, word_here w)
spelled-push (x ∷ xs) w h =
    ap (λ (k : ℕ). k * 2 ^ 64 + x) (spelled-push xs w h.1) ∙ or_up (spelled xs) w (length xs) x h.0

pub spelled-set : (xs : List ℕ) (i w : ℕ) → i < length xs → w < 2 ^ 64 → AreWords xs → spelled (set xs i (bit_or (get_or xs i 0) w)) ≡ bit_or (spelled xs) (w * 2 ^ (64 * i))
spelled-set [] i w l v h = absurd (omega arith)
spelled-set (x ∷ xs) zero w l v h =
    ap (λ (k : ℕ). k * 2 ^ 64 + bit_or x w) (sym (or_zero (spelled xs)))
    ∙ sym (or_block 64 (spelled xs) 0 x w h.0 v)
    ∙ ap (bit_or (spelled xs * 2 ^ 64 + x)) (omega (arith, word_here w))
spelled-set (x ∷ xs) (suc i) w l v h =
    ap (λ (k : ℕ). k * 2 ^ 64 + x) (spelled-set xs i w (omega arith) v h.1) ∙ or_up (spelled xs) w i x h.0

-- a larger word
pub spelled-larger : (xs : List ℕ) (i w : ℕ) → i < length xs → get_or xs i 0 < w → spelled xs < spelled (set xs i w)
spelled-larger [] i w l h = absurd (omega arith)
spelled-larger (x ∷ xs) zero w l h = omega (arith, h)
spelled-larger (x ∷ xs) (suc i) w l h = omega (arith, spelled-larger xs i w (omega arith) h)

-- bits added to a number that is not the same
pub or_larger : (a b : ℕ) → (bit_or a b ≡ a → ⊥) → a < bit_or a b
or_larger a b n = elim (cases_lt a (bit_or a b)) [
  | inl l ↦ l
  | inr g ↦ absurd (n (omega (arith, le_or_l a b, g)))
]

-- a bit of one word
pub spelled-at : (xs : List ℕ) (k i : ℕ) → i < 64 → AreWords xs → bit_at (spelled xs) (64 * k + i) ≡ bit_at (get_or xs k 0) i
spelled-at [] k i h v = bit_at-zero (64 * k + i) ∙ sym (bit_at-zero i)
spelled-at (x ∷ xs) zero i h v =
    ap (bit_at (spelled xs * 2 ^ 64 + x)) (omega arith) ∙ bit_at_cat_low (spelled xs) 64 x i h
spelled-at (x ∷ xs) (suc k) i h v =
    let e : 64 * suc k + i - 64 ≡ 64 * k + i = omega arith in
    bit_at_cat_high (spelled xs) 64 x (64 * suc k + i) v.0 (omega arith)
    ∙ ap (bit_at (spelled xs)) e ∙ spelled-at xs k i h v.1

-- words stay words
pub AreWords-push : (xs : List ℕ) (w : ℕ) → AreWords xs → w < 2 ^ 64 → AreWords (xs ++ w ∷ [])
AreWords-push [] w h v = (v, tt)
AreWords-push (x ∷ xs) w h v = (h.0, AreWords-push xs w h.1 v)

pub AreWords-set : (xs : List ℕ) (i w : ℕ) → AreWords xs → w < 2 ^ 64 → AreWords (set xs i w)
AreWords-set [] i w h v = tt
AreWords-set (x ∷ xs) zero w h v = (v, h.1)
AreWords-set (x ∷ xs) (suc i) w h v = (h.0, AreWords-set xs i w h.1 v)

pub spelled-push_zero : (xs : List ℕ) → spelled (xs ++ 0 ∷ []) ≡ spelled xs
spelled-push_zero [] = refl
spelled-push_zero (x ∷ xs) = ap (λ (k : ℕ). k * 2 ^ 64 + x) (spelled-push_zero xs)

-- a bit of the word at a place, and of the number
pub word_bit : (xs : List ℕ) (n k w : ℕ) → AreWords xs → spelled xs ≡ n → w ≡ get_or xs k 0 → (i : ℕ) → i < 64 → bit_at w i ≡ bit_at n (64 * k + i)
word_bit xs n k w h e at i l = ap (λ (v : ℕ). bit_at v i) at ∙ sym (spelled-at xs k i l h) ∙ ap (λ (v : ℕ). bit_at v (64 * k + i)) e

-- the bit of a number as a word at its place
pub bit_as_word : (n : ℕ) → (1 * 2 ^ (n % 64) % 2 ^ 64) * 2 ^ (64 * (n / 64)) ≡ 2 ^ n
bit_as_word n =
    let one : 1 * 2 ^ (n % 64) % 2 ^ 64 ≡ 2 ^ (n % 64) = one_shl (n % 64) 64 (omega arith) in
    let e : n % 64 + 64 * (n / 64) ≡ n = omega arith in
    ap (λ (k : ℕ). k * 2 ^ (64 * (n / 64))) one ∙ sym (pow-add 2 (n % 64) (64 * (n / 64))) ∙ ap (λ (k : ℕ). 2 ^ k) e

pub AreWords-take : (xs : List ℕ) (k : ℕ) → AreWords xs → AreWords (take k xs)
AreWords-take xs zero h = tt
AreWords-take [] (suc k) h = tt
AreWords-take (x ∷ xs) (suc k) h = (h.0, AreWords-take xs k h.1)

-- the words so far
pub or_take : (xs : List ℕ) (k w s t : ℕ) → AreWords xs → k < length xs → w ≡ get_or xs k 0 → bit_or s (spelled (take k xs)) ≡ t → bit_or s (spelled (take (k + 1) xs)) ≡ bit_or t (w * 2 ^ (64 * k))
or_take xs k w s t h l at e =
    ap (λ (v : List ℕ). bit_or s (spelled v)) (take_more xs k 0 l)
    ∙ ap (bit_or s) (spelled-push (take k xs) (get_or xs k 0) (AreWords-take xs k h))
    ∙ sym (or_assoc s (spelled (take k xs)) (get_or xs k 0 * 2 ^ (64 * length (take k xs))))
    ∙ ap (λ (v : ℕ). bit_or v (get_or xs k 0 * 2 ^ (64 * length (take k xs)))) e
    ∙ ap (λ (v : ℕ). bit_or t (get_or xs k 0 * 2 ^ (64 * v))) (length-take-le k xs (omega arith))
    ∙ ap (λ (v : ℕ). bit_or t (v * 2 ^ (64 * k))) (sym at)

pub AreWords-at : (xs : List ℕ) (k : ℕ) → AreWords xs → get_or xs k 0 < 2 ^ 64
AreWords-at [] k h = pow_pos 64
AreWords-at (x ∷ xs) zero h = h.0
AreWords-at (x ∷ xs) (suc k) h = AreWords-at xs k h.1

-- the bits of a number that is moved up
moved_low : (a m i : ℕ) → i < m → bit_at (a * 2 ^ m) i ≡ 0
moved_low a m i l = ap (λ (v : ℕ). bit_at v i) (sym (add-zero (a * 2 ^ m))) ∙ bit_at_cat_low a m 0 i l ∙ bit_at-zero i

moved_high : (a m i : ℕ) → m ≤ i → bit_at (a * 2 ^ m) i ≡ bit_at a (i - m)
moved_high a m i l = ap (λ (v : ℕ). bit_at v i) (sym (add-zero (a * 2 ^ m))) ∙ bit_at_cat_high a m 0 i (pow_pos m) l

and_up_low : (w v o m i : ℕ) → i < m → bit_at (bit_and (w * 2 ^ m) o) i ≡ bit_at (bit_and w v * 2 ^ m) i
and_up_low w v o m i l = omega (arith, bit_at_and (w * 2 ^ m) o i, moved_low w m i l, moved_low (bit_and w v) m i l)

and_up_word : (w v o m i : ℕ) → m ≤ i → i - m < 64 → bit_at v (i - m) ≡ bit_at o (m + (i - m)) → bit_at (bit_and (w * 2 ^ m) o) i ≡ bit_at (bit_and w v * 2 ^ m) i
and_up_word w v o m i l b e =
    let same : m + (i - m) ≡ i = omega arith in
    let e2 : bit_at v (i - m) ≡ bit_at o i = e ∙ ap (bit_at o) same in
    omega (arith, e2, bit_at_and (w * 2 ^ m) o i, moved_high w m i l, moved_high (bit_and w v) m i l, bit_at_and w v (i - m))

and_up_past : (w v o m i : ℕ) → w < 2 ^ 64 → m ≤ i → 64 ≤ i - m → bit_at (bit_and (w * 2 ^ m) o) i ≡ bit_at (bit_and w v * 2 ^ m) i
and_up_past w v o m i h l b =
    omega (arith, bit_at_above w 64 (i - m) h b, bit_at_and (w * 2 ^ m) o i, moved_high w m i l, moved_high (bit_and w v) m i l, bit_at_and w v (i - m))

-- what a word has in common with the word of another number
and_up : (w v o m : ℕ) → w < 2 ^ 64 → ((i : ℕ) → i < 64 → bit_at v i ≡ bit_at o (m + i)) → bit_and (w * 2 ^ m) o ≡ bit_and w v * 2 ^ m
and_up w v o m h same =
    same_from_bits _ _ (λ i. ⊎_elim (λ (l : i < m). and_up_low w v o m i l) (λ (l : m ≤ i). ⊎_elim (λ (b : i - m < 64). and_up_word w v o m i l b (same (i - m) b)) (λ (b : 64 ≤ i - m). and_up_past w v o m i h l b) (cases_lt (i - m) 64)) (cases_lt i m))

and_or : (a b c : ℕ) → bit_and (bit_or a b) c ≡ bit_or (bit_and a c) (bit_and b c)
and_or a b c =
    same_from_bits _ _ (λ i. omega (arith, bit_at_and (bit_or a b) c i, bit_at_or a b i, bit_at_or (bit_and a c) (bit_and b c) i, bit_at_and a c i, bit_at_and b c i))

-- what the words so far have in common with another number
pub or_take_common : (xs : List ℕ) (o k v s t : ℕ) → AreWords xs → k < length xs → ((i : ℕ) → i < 64 → bit_at v i ≡ bit_at o (64 * k + i)) → bit_or s (bit_and (spelled (take k xs)) o) ≡ t → bit_or s (bit_and (spelled (take (k + 1) xs)) o) ≡ bit_or t (bit_and (get_or xs k 0) v * 2 ^ (64 * k))
or_take_common xs o k v s t h l same e =
    let w = get_or xs k 0 in
    let here = w * 2 ^ (64 * k) in
    let more : spelled (take (k + 1) xs) ≡ bit_or (spelled (take k xs)) here = ap spelled (take_more xs k 0 l) ∙ spelled-push (take k xs) w (AreWords-take xs k h) ∙ ap (λ (n : ℕ). bit_or (spelled (take k xs)) (w * 2 ^ (64 * n))) (length-take-le k xs (omega arith)) in
    ap (λ (n : ℕ). bit_or s (bit_and n o)) more
    ∙ ap (bit_or s) (and_or (spelled (take k xs)) here o)
    ∙ sym (or_assoc s (bit_and (spelled (take k xs)) o) (bit_and here o))
    ∙ ap (λ (n : ℕ). bit_or n (bit_and here o)) e
    ∙ ap (bit_or t) (and_up w v o (64 * k) (AreWords-at xs k h) same)

-- bits past the last word
spelled-past : (xs : List ℕ) (n : ℕ) → AreWords xs → 64 * length xs ≤ n → bit_at (spelled xs) n ≡ 0
spelled-past xs n h l =
    let e : n ≡ 64 * (n / 64) + n % 64 = omega arith in
    let past : length xs ≤ n / 64 = omega arith in
    ap (bit_at (spelled xs)) e ∙ spelled-at xs (n / 64) (n % 64) (omega arith) h ∙ ap (λ (w : ℕ). bit_at w (n % 64)) (get_or_past xs (n / 64) 0 past) ∙ bit_at-zero (n % 64)

pub has_within : (xs : List ℕ) (n : ℕ) → AreWords xs → Has (spelled xs) n → n < 64 * length xs
has_within xs n h at =
    ⊎_elim (λ (l : n < 64 * length xs). l) (λ (l : 64 * length xs ≤ n). absurd (omega (arith, at, spelled-past xs n h l))) (cases_lt n (64 * length xs))

-- the bits of a quotient
bit_at-quotient : (n m i : ℕ) → bit_at (n / 2 ^ m) i ≡ bit_at n (m + i)
bit_at-quotient n m i = ap (λ (v : ℕ). v % 2) (shr-shr n m i)

pub high_zero : (xs : List ℕ) (n m : ℕ) → AreWords xs → spelled xs ≡ n → 64 * length xs ≤ m → n / 2 ^ m ≡ 0
high_zero xs n m h e l =
    same_from_bits _ _ (λ i. bit_at-quotient n m i ∙ ap (λ (v : ℕ). bit_at v (m + i)) (sym e) ∙ spelled-past xs (m + i) h (omega arith) ∙ sym (bit_at-zero i))

bit_at-field : (n m i : ℕ) → i < 64 → bit_at (n / 2 ^ m % 2 ^ 64) i ≡ bit_at n (m + i)
bit_at-field n m i l =
    sym (bit_at_cat_low (n / 2 ^ m / 2 ^ 64) 64 (n / 2 ^ m % 2 ^ 64) i l)
    ∙ ap (λ (v : ℕ). bit_at v i) (shr_split (n / 2 ^ m) 64)
    ∙ bit_at-quotient n m i

-- a word is what stands at its place
pub word_value : (xs : List ℕ) (n k w : ℕ) → AreWords xs → spelled xs ≡ n → w ≡ get_or xs k 0 → w ≡ n / 2 ^ (64 * k) % 2 ^ 64
word_value xs n k w h e at =
    let below : w < 2 ^ 64 = rw at (AreWords-at xs k h) in
    same_from_bits_below 64 _ _ below (mod_below (n / 2 ^ (64 * k)) (2 ^ 64) (pow_pos 64)) (λ i l. word_bit xs n k w h e at i l ∙ sym (bit_at-field n (64 * k) i l))
