-- No line has the signs of two that pass the test.
use Rattle.std.proofs.Common.{◌≡◌, ℕ, ◌+◌, ◌-◌, ◌<◌, ◌≤◌, ◌==◌, zero, suc, Bool, true, false, not, ◌&&◌, ◌||◌, List, [], ◌∷◌, ◌++◌, length, reverse, get_or, drop, codes, inl, inr, ⊎_elim, refl, sym, ◌∙◌, ap, subst, arith, eqb, eq-eqb, append_assoc, length-append}
use Rattle.std.specs.List.{list_all, prefix_len, starts_with}
use Rattle.std.proofs.lemmas.Bool.{and_parts, and_from, or_cases, or_right, cases_Bool, cases_lt, cond-true, cond-false, eqb-true, not-true, both_ways, lt-ltb}
use Rattle.std.proofs.lemmas.List.{append_cancel_left, reverse-append, get_or_append_left, get_or-append_right, drop_at}
use Rattle.lp_form.specs.declared.template.Kind.{Kind}
use Rattle.lp_form.specs.declared.template.Kind.TheVariants as kind
use Rattle.lp_texts.specs.Brackets.{closes, leads_none}
use Rattle.lp_texts.specs.OneLine.{IsOneLine, begins_comment, needs_bracket, is_none_open, begins, is_wrong}
use Rattle.lp_texts.specs.OneLine.IsWrong.{outside}
use Rattle.lp_spelling.specs.HoleEnds.{is_digit, is_word, first_at}
use Rattle.lp_spelling.specs.Fillings.{holds, is_element, is_capture, is_fitting, fits_behind, are_filled, has_shape, line_part, Fits, Fills, is_name, without_front}
use Rattle.lp_spelling.proofs.Reading.{starts_again}
use Rattle.lp_reading_laws.specs.Holes.Found.{are_words}
use Rattle.lp_reading_laws.specs.Holes.LineTests.{is_without}
use Rattle.lp_reading_laws.proofs.Holes.Holding.{words_without, without-append}
use Rattle.lp_reading_laws.proofs.Holes.Places.{passes_at}
use Rattle.lp_reading_laws.specs.FirstLines.Signs.{Sign, Shows}
use Rattle.lp_reading_laws.specs.FirstLines.Signs.Sign.{byte, own, filled, unknown}
use Rattle.lp_reading_laws.specs.FirstLines.ApartTests.{differ, word_signs, breaks_within, has_text, breaks_first, is_refused, is_foreign, is_no_capture, fronts_apart}
use Rattle.lp_reading_laws.proofs.FirstLines.Digits.{DigitFirst, are_joined_digit, range_digit, number_digit}

-- lists with equal fronts
heads : (a b : ℕ) (s t : List ℕ) → a ∷ s ≡ b ∷ t → (a ≡ b) × (s ≡ t)
heads a b s t e = (cc, cc)

pub differ_sound : (s t x y : List ℕ) → differ s t ≡ true → s ++ x ≡ t ++ y → ⊥
differ_sound [] t x y h e = both_ways false refl h
differ_sound (a ∷ s) [] x y h e = both_ways false refl h
differ_sound (a ∷ s) (b ∷ t) x y h e =
    let p = heads a b (s ++ x) (t ++ y) e in
    ⊎_elim
    (λ n. both_ways (a == b) (not-true (a == b) n) (eq-eqb a b p.0))
    (λ d. differ_sound s t x y d p.1)
    (or_cases (not (a == b)) (differ s t) h)

-- two literal texts at the end of one
pub ends_sound : (s t x y : List ℕ) → differ (reverse s) (reverse t) ≡ true → x ++ s ≡ y ++ t → ⊥
ends_sound s t x y h e = differ_sound (reverse s) (reverse t) (reverse x) (reverse y) h (sym (reverse-append x s) ∙ ap reverse e ∙ reverse-append y t)

-- how many bytes of words stand in front
words_go : (w y : List ℕ) → list_all is_word w ≡ true → prefix_len is_word (w ++ y) ≡ length w + prefix_len is_word y
words_go [] y h = omega arith
words_go (b ∷ w) y h =
    let p = and_parts (is_word b) (list_all is_word w) h in
    let r = words_go w y p.1 in
    cond-true (is_word b) (1 + prefix_len is_word (w ++ y)) 0 p.0 ∙ omega (arith, r)

word_bytes : (prefix : List ℕ) (s : List Sign) (x : List ℕ) → are_words prefix ≡ true → Shows prefix s x → word_signs s ≤ prefix_len is_word x
unfolding Shows
word_bytes prefix [] x w h = omega arith
word_bytes prefix (byte b ∷ s) x w h = elim (cases_Bool (is_word b)) [
  | inl y ↦
      let r = word_bytes prefix s h.0 w h.2 in
      let n : word_signs (byte b ∷ s) ≡ suc (word_signs s) = cond-true (is_word b) (suc (word_signs s)) 0 y in
      let m : prefix_len is_word x ≡ 1 + prefix_len is_word h.0 = ap (prefix_len is_word) h.1 ∙ cond-true (is_word b) (1 + prefix_len is_word h.0) 0 y in
      omega (arith, r, n, m)
  | inr n ↦ let e : word_signs (byte b ∷ s) ≡ 0 = cond-false (is_word b) (suc (word_signs s)) 0 n in omega (arith, e)
]
word_bytes prefix (own ∷ s) x w h =
    let r = word_bytes prefix s h.0 w h.2 in
    let m : prefix_len is_word x ≡ length prefix + prefix_len is_word h.0 = ap (prefix_len is_word) h.1 ∙ words_go prefix h.0 w in
    let e : word_signs (own ∷ s) ≡ word_signs s = refl in
    omega (arith, r, m, e)
word_bytes prefix (filled k ∷ s) x w h = omega arith
word_bytes prefix (unknown ∷ s) x w h = omega arith

-- they end within n bytes
breaks_there : (prefix : List ℕ) (n : ℕ) (s : List Sign) (x : List ℕ) → breaks_within n s ≡ true → Shows prefix s x → prefix_len is_word x < n
unfolding Shows
breaks_there prefix zero s x b h = absurd (both_ways false refl b)
breaks_there prefix (suc n) [] x b h = absurd (both_ways false refl b)
breaks_there prefix (suc n) (byte c ∷ s) x b h = elim (cases_Bool (is_word c)) [
  | inl y ↦
      let more : breaks_within n s ≡ true = sym (ap (λ z. not z || breaks_within n s) y) ∙ b in
      let r = breaks_there prefix n s h.0 more h.2 in
      let m : prefix_len is_word x ≡ 1 + prefix_len is_word h.0 = ap (prefix_len is_word) h.1 ∙ cond-true (is_word c) (1 + prefix_len is_word h.0) 0 y in
      omega (arith, r, m)
  | inr z ↦ let m : prefix_len is_word x ≡ 0 = ap (prefix_len is_word) h.1 ∙ cond-false (is_word c) (1 + prefix_len is_word h.0) 0 z in omega (arith, m)
]
breaks_there prefix (suc n) (own ∷ s) x b h = absurd (both_ways false refl b)
breaks_there prefix (suc n) (filled k ∷ s) x b h = absurd (both_ways false refl b)
breaks_there prefix (suc n) (unknown ∷ s) x b h = absurd (both_ways false refl b)

-- the prefix and then words, where a word ends within the words
own_breaks : (prefix : List ℕ) (s t : List Sign) (x : List ℕ) → are_words prefix ≡ true → breaks_within (word_signs s) t ≡ true → Shows prefix (own ∷ s) x → Shows prefix t x → ⊥
unfolding Shows
own_breaks prefix s t x w b h k =
    let r = word_bytes prefix s h.0 w h.2 in
    let m : prefix_len is_word x ≡ length prefix + prefix_len is_word h.0 = ap (prefix_len is_word) h.1 ∙ words_go prefix h.0 w in
    let l = breaks_there prefix (word_signs s) t x b k in
    omega (arith, r, m, l)

-- a literal text in front
text_there : (prefix t : List ℕ) (s : List Sign) (x : List ℕ) → has_text t s ≡ true → Shows prefix s x → (rest : List ℕ) × (x ≡ t ++ rest)
unfolding Shows
text_there prefix [] s x h k = (x, refl)
text_there prefix (b ∷ t) [] x h k = absurd (both_ways false refl h)
text_there prefix (b ∷ t) (byte a ∷ s) x h k =
    let p = and_parts (a == b) (has_text t s) h in
    let r = text_there prefix t s k.0 p.1 k.2 in
    let e : a ≡ b = eqb-true a b p.0 in
    (r.0, k.1 ∙ ap (λ c. c ∷ k.0) e ∙ ap (λ (y : List ℕ). b ∷ y) r.1)
text_there prefix (b ∷ t) (own ∷ s) x h k = absurd (both_ways false refl h)
text_there prefix (b ∷ t) (filled q ∷ s) x h k = absurd (both_ways false refl h)
text_there prefix (b ∷ t) (unknown ∷ s) x h k = absurd (both_ways false refl h)

-- the front of two equal texts
front_of : (a b c d : List ℕ) → a ++ b ≡ c ++ d → length a ≤ length c → (e : List ℕ) × (c ≡ a ++ e) × (b ≡ e ++ d)
front_of [] b c d h le = (c, refl, h)
front_of (x ∷ a) b [] d h le = absurd (omega arith)
front_of (x ∷ a) b (y ∷ c) d h le =
    let p = heads x y (a ++ b) (c ++ d) h in
    let r = front_of a b c d p.1 (omega arith) in
    (r.0, ap (λ z. z ∷ c) (sym p.0) ∙ ap (λ (z : List ℕ). x ∷ z) r.1, r.2)

-- a byte that stands behind a shorter text is one of the longer
behind_shorter : (a : List ℕ) (b : ℕ) (r c d : List ℕ) → a ++ b ∷ r ≡ c ++ d → length a < length c → b ≡ get_or c (length a) 0
behind_shorter a b r c d e lt =
    let none : length a - length a ≡ 0 = omega arith in
    let here : get_or (a ++ b ∷ r) (length a) 0 ≡ b = get_or-append_right a (b ∷ r) (length a) (length a) 0 refl (omega arith) ∙ ap (λ n. get_or (b ∷ r) n 0) none in
    sym here ∙ ap (λ (y : List ℕ). get_or y (length a) 0) e ∙ get_or_append_left c d 0 (length a) lt

-- a name without the prefix is not in front of a text that begins with it
foreign_sound : (prefix n r y : List ℕ) (b : ℕ) → are_words prefix ≡ true → not (holds prefix n) ≡ true → is_word b ≡ false → n ++ b ∷ r ≡ prefix ++ y → ⊥
unfolding holds first_at
foreign_sound prefix n r y b w h nb e = elim (cases_lt (length n) (length prefix)) [
  | inl lt ↦
      let same : b ≡ get_or prefix (length n) 0 = behind_shorter n b r prefix y e lt in
      both_ways (is_word b) nb (ap is_word same ∙ passes_at is_word prefix (length n) w lt)
  | inr le ↦
      let f = front_of prefix y n (b ∷ r) (sym e) le in
      let there : holds prefix n ≡ true = held prefix n f.0 f.1 in
      both_ways (holds prefix n) (not-true (holds prefix n) h) there
]
  where
    held : (prefix n m : List ℕ) → n ≡ prefix ++ m → holds prefix n ≡ true
    held [] n m e = refl
    held (b ∷ prefix) [] m e = absurd cc
    held (b ∷ prefix) (c ∷ n) m e =
        let s : starts_with eqb (c ∷ n) (b ∷ prefix) ≡ true = ap (λ (z : List ℕ). starts_with eqb z (b ∷ prefix)) e ∙ starts_again (b ∷ prefix) m in
        let at : first_at (λ u. starts_with eqb u (b ∷ prefix)) (c ∷ n) ≡ 0 = cond-true (starts_with eqb (c ∷ n) (b ∷ prefix)) _ _ s in
        or_right (length (b ∷ prefix) == 0) _ (lt-ltb (first_at (λ u. starts_with eqb u (b ∷ prefix)) (c ∷ n)) (length (c ∷ n)) (omega (arith, at)))

-- a pattern in whose front the prefix and `tok` stand without a number
capture_sound : (prefix f y z : List ℕ) → are_words prefix ≡ true → are_filled prefix f ≡ true → (prefix ++ codes "tok ") ++ y ≡ f ++ (44 ∷ z) → ⊥
unfolding are_filled fits_behind
capture_sound prefix f y z w h e =
    let head : List ℕ = prefix ++ codes "tok " in
    let size : length head ≡ length prefix + 4 = length-append prefix (codes "tok ") in
    elim (cases_lt (length f) (length head)) [
      | inl lt ↦
          let same : 44 ≡ get_or head (length f) 0 = behind_shorter f 44 z head y (sym e) lt in
          let free : is_without 44 head ≡ true = without-append 44 prefix (codes "tok ") (words_without 44 prefix refl w) refl in
          both_ways (get_or head (length f) 0 == 44) (not-true (get_or head (length f) 0 == 44) (passes_at (λ b. not (b == 44)) head (length f) free lt)) (eq-eqb (get_or head (length f) 0) 44 (sym same))
      | inr le ↦
          let r = front_of head y f (44 ∷ z) e le in
          no_number prefix r.0 f (r.1 ∙ append_assoc prefix (codes "tok ") r.0) h
    ]
  where
    no_number : (prefix m f : List ℕ) → f ≡ prefix ++ (codes "tok " ++ m) → are_filled prefix f ≡ true → ⊥
    no_number prefix m [] e h =
        let n = ap length e ∙ length-append prefix (codes "tok " ++ m) in
        let k = length-append (codes "tok ") m in
        omega (arith, n, k)
    no_number prefix m (c ∷ t) e h =
        let p = and_parts (is_fitting prefix 0 (c ∷ t)) _ h in
        let starts : starts_with eqb (c ∷ t) prefix ≡ true = ap (λ (u : List ℕ). starts_with eqb u prefix) e ∙ starts_again prefix (codes "tok " ++ m) in
        ⊎_elim
        (λ n. both_ways (starts_with eqb (c ∷ t) prefix) (not-true (starts_with eqb (c ∷ t) prefix) n) starts)
        (λ q.
        let left : without_front prefix (c ∷ t) ≡ codes "tok " ++ m = ap (drop (length prefix)) e ∙ drop_at prefix (codes "tok " ++ m) (length prefix) refl in
        both_ways false refl (sym (ap is_capture left) ∙ (and_parts (not (is_word 0)) (is_capture (without_front prefix (c ∷ t))) q).1))
        (or_cases (not (starts_with eqb (c ∷ t) prefix)) _ p.0)

-- a text of one line doesn't begin with a closing bracket
closer_wrong : (c : ℕ) (t : List ℕ) → closes c ≡ true → IsOneLine (c ∷ t) → ⊥
closer_wrong c t h o =
    let wrong : is_wrong false [] c t ≡ true
    = or_right (begins_comment c t) _ (or_right (needs_bracket false c && is_none_open []) _ (and_from (closes c) (not (begins (λ d. d == c) [])) h refl)) in
    o 0 (outside c t [] refl (leads_none (c ∷ t) []) wrong)

-- a digit in front, and a byte that is none
digit_apart : (text rest line : List ℕ) (b : ℕ) → DigitFirst text → not (is_digit b) ≡ true → text ++ rest ≡ b ∷ line → ⊥
digit_apart [] rest line b d n e = d
digit_apart (c ∷ t) rest line b d n e = both_ways (is_digit b) (not-true (is_digit b) n) (sym (ap is_digit (heads c b (t ++ rest) line e).0) ∙ d)

-- a text in front of which a closing bracket stands is empty
closer_apart : (text rest line : List ℕ) (b : ℕ) → closes b ≡ true → IsOneLine text → text ++ rest ≡ b ∷ line → (rest ≡ b ∷ line → ⊥) → ⊥
closer_apart [] rest line b h o e again = again e
closer_apart (c ∷ t) rest line b h o e again = closer_wrong c t (ap closes (heads c b (t ++ rest) line e).0 ∙ h) o

refused_sound : (prefix : List ℕ) (k : Kind) (b : ℕ) (more : Bool) (text rest line : List ℕ) → is_refused k b more ≡ true → Fills prefix k text → text ++ rest ≡ b ∷ line →
    (more ≡ true → rest ≡ b ∷ line → ⊥) → ⊥
unfolding Fits has_shape line_part is_element
refused_sound prefix kind.Number b more text rest line h f e again = digit_apart text rest line b (number_digit text f.1.0) h e
refused_sound prefix kind.Ranges b more text rest line h f e again = digit_apart text rest line b (are_joined_digit prefix _ (codes " | ") text (λ x r. range_digit x r) f.1.0) h e
refused_sound prefix kind.Text b more text rest line h f e again =
    let p = and_parts (closes b) more h in
    closer_apart text rest line b p.0 f.1.1 e (again p.1)
refused_sound prefix k b more text rest line h f e again = absurd (both_ways false refl h)

broken_first : (prefix : List ℕ) (s : List Sign) (x : List ℕ) → breaks_first s ≡ true → Shows prefix s x → (b : ℕ) × (rest : List ℕ) × (is_word b ≡ false) × (x ≡ b ∷ rest)
unfolding Shows
broken_first prefix [] x h k = absurd (both_ways false refl h)
broken_first prefix (byte b ∷ s) x h k = (b, k.0, not-true (is_word b) h, k.1)
broken_first prefix (own ∷ s) x h k = absurd (both_ways false refl h)
broken_first prefix (filled q ∷ s) x h k = absurd (both_ways false refl h)
broken_first prefix (unknown ∷ s) x h k = absurd (both_ways false refl h)

foreign_front : (prefix : List ℕ) (k : Kind) (s : List Sign) (text rest y : List ℕ) → are_words prefix ≡ true → is_foreign k s ≡ true → Fills prefix k text → Shows prefix s rest → text ++ rest ≡ prefix ++ y → ⊥
unfolding Fits has_shape
foreign_front prefix kind.PlainName s text rest y w h f shown e =
    let b = broken_first prefix s rest h shown in
    foreign_sound prefix text b.1 y b.0 w (and_parts (is_name text) _ f.1.0).1 b.2 (sym (ap (λ (z : List ℕ). text ++ z) b.3) ∙ e)
foreign_front prefix k s text rest y w h f shown e = both_ways false refl h

capture_front : (prefix : List ℕ) (k : Kind) (s t : List Sign) (y text rest : List ℕ) → are_words prefix ≡ true → is_no_capture k s t ≡ true → Shows prefix s y → Fills prefix k text → Shows prefix t rest → prefix ++ y ≡ text ++ rest → ⊥
unfolding Fits has_shape
capture_front prefix kind.Filled s t y text rest w h shown f behind e =
    let p = and_parts (has_text (codes "tok ") s) (has_text (codes ",") t) h in
    let a = text_there prefix (codes "tok ") s y p.0 shown in
    let b = text_there prefix (codes ",") t rest p.1 behind in
    capture_sound prefix text a.0 b.0 w f.1.0
    (append_assoc prefix (codes "tok ") a.0 ∙ sym (ap (λ (z : List ℕ). prefix ++ z) a.1) ∙ e ∙ ap (λ (z : List ℕ). text ++ z) b.1)
capture_front prefix k s t y text rest w h shown f behind e = both_ways false refl h

pub fronts_sound : (prefix : List ℕ) (s t : List Sign) (x : List ℕ) → are_words prefix ≡ true → fronts_apart s t ≡ true → Shows prefix s x → Shows prefix t x → ⊥
unfolding Shows
fronts_sound prefix (byte a ∷ s) (byte b ∷ t) x w d h k =
    let p = heads a b h.0 k.0 (sym h.1 ∙ k.1) in
    ⊎_elim
    (λ n. both_ways (a == b) (not-true (a == b) n) (eq-eqb a b p.0))
    (λ m. fronts_sound prefix s t k.0 w m (subst (λ (z : List ℕ). Shows prefix s z) p.1 h.2) k.2)
    (or_cases (not (a == b)) (fronts_apart s t) d)
fronts_sound prefix (byte a ∷ s) [] x w d h k = let e : a ∷ h.0 ≡ [] = sym h.1 ∙ k in cc
fronts_sound prefix [] (byte b ∷ t) x w d h k = let e : b ∷ k.0 ≡ [] = sym k.1 ∙ h in cc
fronts_sound prefix (own ∷ s) (own ∷ t) x w d h k =
    let same : h.0 ≡ k.0 = append_cancel_left prefix h.0 k.0 (sym h.1 ∙ k.1) in
    fronts_sound prefix s t k.0 w d (subst (λ (z : List ℕ). Shows prefix s z) same h.2) k.2
fronts_sound prefix (own ∷ s) (byte b ∷ t) x w d h k = own_breaks prefix s (byte b ∷ t) x w d h k
fronts_sound prefix (byte a ∷ s) (own ∷ t) x w d h k = own_breaks prefix t (byte a ∷ s) x w d k h
fronts_sound prefix (filled q ∷ s) (byte b ∷ t) x w d h k =
    refused_sound prefix q b (fronts_apart s (byte b ∷ t)) h.0 h.1 k.0 d h.3 (sym h.2 ∙ k.1)
    (λ m e. fronts_sound prefix s (byte b ∷ t) h.1 w m h.4 (k.0, e, k.2))
fronts_sound prefix (filled q ∷ s) (own ∷ t) x w d h k = foreign_front prefix q s h.0 h.1 k.0 w d h.3 h.4 (sym h.2 ∙ k.1)
fronts_sound prefix (own ∷ s) (filled q ∷ t) x w d h k = capture_front prefix q s t h.0 k.0 k.1 w d h.2 k.3 k.4 (sym h.1 ∙ k.2)
fronts_sound prefix s t x w d h k = both_ways false refl d
