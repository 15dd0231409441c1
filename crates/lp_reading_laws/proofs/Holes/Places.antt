-- Places of a text at which others stand.
use Rattle.std.proofs.Common.{◌≡◌, ◌≢◌, ℕ, ◌+◌, ◌-◌, ◌<◌, ◌≤◌, ◌==◌, zero, suc, Bool, true, false, not, ◌&&◌, inl, inr, List, [], ◌∷◌, ◌++◌, length, get_or, drop, refl, sym, ◌∙◌, ap, arith, eq-eqb, eqb, length-drop}
use Rattle.std.specs.List.{list_all, starts_with}
use Rattle.std.proofs.lemmas.Bool.{false≢true, and_parts, and_from, cond-true, cond-false, cases_Bool, cases_lt, not-true, eqb-true, le-ltb, ltb-true, ltb-false, lt-ltb, false_from_ne_true, both_ways}
use Rattle.std.proofs.lemmas.List.{get_or-drop, get_or_append_left, get_or-append_right, get_or_past, drop-append-le}
use Rattle.lp_spelling.specs.HoleEnds.{first_at, is_somewhere, last_at}
use Rattle.lp_reading_laws.specs.Holes.LineTests.{is_without}

-- a text that begins with another has its bytes
pub same_byte : (s t : List ℕ) (j : ℕ) → starts_with eqb t s ≡ true → j < length s → get_or t j 0 ≡ get_or s j 0
same_byte [] t j h lt = absurd (omega arith)
same_byte (a ∷ s) [] j h lt = absurd (false≢true h)
same_byte (a ∷ s) (b ∷ t) zero h lt = sym (eqb-true a b (and_parts (eqb a b) _ h).0)
same_byte (a ∷ s) (b ∷ t) (suc j) h lt = same_byte s t j (and_parts (eqb a b) (starts_with eqb t s) h).1 (omega arith)

-- it begins with it whatever follows
pub begins_within : (s t r : List ℕ) → length s ≤ length t → starts_with eqb (t ++ r) s ≡ true → starts_with eqb t s ≡ true
begins_within [] t r le h = refl
begins_within (a ∷ s) [] r le h = absurd (omega arith)
begins_within (a ∷ s) (b ∷ t) r le h =
    let p = and_parts (eqb a b) (starts_with eqb (t ++ r) s) h in
    and_from (eqb a b) (starts_with eqb t s) p.0 (begins_within s t r (omega arith) p.1)

pub begins_more : (s t r : List ℕ) → starts_with eqb t s ≡ true → starts_with eqb (t ++ r) s ≡ true
begins_more [] t r h = refl
begins_more (a ∷ s) [] r h = absurd (false≢true h)
begins_more (a ∷ s) (b ∷ t) r h =
    let p = and_parts (eqb a b) (starts_with eqb t s) h in
    and_from (eqb a b) (starts_with eqb (t ++ r) s) p.0 (begins_more s t r p.1)

-- the first place is behind a text, at each place of which it doesn't go on
pub first_behind : (test : List ℕ → Bool) (x r : List ℕ) → test r ≡ true → ((i : ℕ) → i < length x → test (drop i (x ++ r)) ≡ false) → first_at test (x ++ r) ≡ length x
unfolding first_at
first_behind test [] [] y n = refl
first_behind test [] (b ∷ r) y n = cond-true (test (b ∷ r)) _ _ y
first_behind test (b ∷ x) r y n =
    let e : first_at test (x ++ r) ≡ length x = first_behind test x r y (λ i lt. n (suc i) (omega arith)) in
    cond-false (test (b ∷ (x ++ r))) _ _ (n 0 (omega arith)) ∙ omega (arith, e)

-- no place
pub nowhere : (test : List ℕ → Bool) (t : List ℕ) → ((i : ℕ) → i < length t → test (drop i t) ≡ false) → is_somewhere test t ≡ false
unfolding first_at
nowhere test [] n = refl
nowhere test (b ∷ t) n =
    let over = ltb-false (first_at test t) (length t) (nowhere test t (λ i lt. n (suc i) (omega arith))) in
    let e : first_at test (b ∷ t) ≡ suc (first_at test t) = cond-false (test (b ∷ t)) _ _ (n 0 (omega arith)) in
    le-ltb (first_at test (b ∷ t)) (length (b ∷ t)) (omega (arith, e, over))

somewhere_behind : (test : List ℕ → Bool) (x : List ℕ) (b : ℕ) (r : List ℕ) → test (b ∷ r) ≡ true → is_somewhere test (x ++ b ∷ r) ≡ true
unfolding first_at
somewhere_behind test [] b r y =
    let e : first_at test (b ∷ r) ≡ 0 = cond-true (test (b ∷ r)) _ _ y in
    lt-ltb (first_at test (b ∷ r)) (length (b ∷ r)) (omega (arith, e))
somewhere_behind test (a ∷ x) b r y =
    let next = ltb-true (first_at test (x ++ b ∷ r)) (length (x ++ b ∷ r)) (somewhere_behind test x b r y) in
    elim (cases_Bool (test (a ∷ (x ++ b ∷ r)))) [
      | inl t ↦
          let e : first_at test (a ∷ (x ++ b ∷ r)) ≡ 0 = cond-true (test (a ∷ (x ++ b ∷ r))) _ _ t in
          lt-ltb _ _ (omega (arith, e))
      | inr f ↦
          let e : first_at test (a ∷ (x ++ b ∷ r)) ≡ suc (first_at test (x ++ b ∷ r)) = cond-false (test (a ∷ (x ++ b ∷ r))) _ _ f in
          lt-ltb _ _ (omega (arith, e, next))
    ]

-- the last place is behind a text, where it doesn't go on later
pub last_behind : (test : List ℕ → Bool) (x : List ℕ) (b : ℕ) (r : List ℕ) → test (b ∷ r) ≡ true → ((i : ℕ) → i < length r → test (drop i r) ≡ false) → last_at test (x ++ b ∷ r) ≡ length x
unfolding last_at
last_behind test [] b r y n = cond-false (is_somewhere test r) _ _ (nowhere test r n) ∙ cond-true (test (b ∷ r)) _ _ y
last_behind test (a ∷ x) b r y n =
    let e = last_behind test x b r y n in
    cond-true (is_somewhere test (x ++ b ∷ r)) _ _ (somewhere_behind test x b r y) ∙ omega (arith, e)

-- the bytes of a text of which all pass
pub passes_at : (p : ℕ → Bool) (t : List ℕ) (i : ℕ) → list_all p t ≡ true → i < length t → p (get_or t i 0) ≡ true
passes_at p [] i h lt = absurd (omega arith)
passes_at p (b ∷ t) zero h lt = (and_parts (p b) (list_all p t) h).0
passes_at p (b ∷ t) (suc i) h lt = passes_at p t i (and_parts (p b) (list_all p t) h).1 (omega arith)

-- a byte that a text has, at its first and at its last place
same_shift : (c b : ℕ) (t : List ℕ) → (b == c) ≡ false → is_without c (b ∷ t) ≡ false → is_without c t ≡ false
same_shift c b t n h = sym (ap (λ y. not y && is_without c t) n) ∙ h

pub record First (c : ℕ) (t : List ℕ) : Type 0 where
  pub place : ℕ
  pub within : place < length t
  pub there : get_or t place 0 ≡ c
  pub before : (i : ℕ) → i < place → get_or t i 0 ≢ c

pub first_of : (c : ℕ) (t : List ℕ) → is_without c t ≡ false → First c t
first_of c [] h = absurd (false≢true (sym h))
first_of c (b ∷ t) h = elim (cases_Bool (b == c)) [
  | inl y ↦ record { place = 0; within = omega arith; there = eqb-true b c y; before = λ i lt. absurd (omega arith) }
  | inr n ↦
      let f = first_of c t (same_shift c b t n h) in
      let in_t = f.within in
      record { place = suc f.place; within = omega (arith, in_t); there = f.there; before = before_it c b t n f.place f.before }
]
  where
    before_it : (c b : ℕ) (t : List ℕ) → (b == c) ≡ false → (n : ℕ) → ((i : ℕ) → i < n → get_or t i 0 ≢ c) → (i : ℕ) → i < suc n → get_or (b ∷ t) i 0 ≢ c
    before_it c b t n m f zero lt = λ e. both_ways (b == c) n (eq-eqb b c e)
    before_it c b t n m f (suc i) lt = f i (omega arith)

pub record Last (c : ℕ) (t : List ℕ) : Type 0 where
  pub place : ℕ
  pub within : place < length t
  pub there : get_or t place 0 ≡ c
  pub behind : (i : ℕ) → place < i → i < length t → get_or t i 0 ≢ c

without_at : (c : ℕ) (t : List ℕ) (i : ℕ) → is_without c t ≡ true → i < length t → get_or t i 0 ≢ c
without_at c t i h lt = λ e. both_ways (get_or t i 0 == c) (not-true (get_or t i 0 == c) (passes_at (λ b. not (b == c)) t i h lt)) (eq-eqb (get_or t i 0) c e)

pub last_of : (c : ℕ) (t : List ℕ) → is_without c t ≡ false → Last c t
last_of c [] h = absurd (false≢true (sym h))
last_of c (b ∷ t) h = elim (cases_Bool (is_without c t)) [
  | inl y ↦ record { place = 0; within = omega arith; there = first_is c b t y h; behind = none_behind c b t y }
  | inr n ↦
      let l = last_of c t n in
      let in_t = l.within in
      record { place = suc l.place; within = omega (arith, in_t); there = l.there; behind = more_behind c b t l.place l.behind }
]
  where
    first_is : (c b : ℕ) (t : List ℕ) → is_without c t ≡ true → is_without c (b ∷ t) ≡ false → b ≡ c
    first_is c b t y h = elim (cases_Bool (b == c)) [
      | inl e ↦ eqb-true b c e
      | inr n ↦ absurd (both_ways (is_without c t) (same_shift c b t n h) y)
    ]

    none_behind : (c b : ℕ) (t : List ℕ) → is_without c t ≡ true → (i : ℕ) → 0 < i → i < length (b ∷ t) → get_or (b ∷ t) i 0 ≢ c
    none_behind c b t y zero gt lt = absurd (omega arith)
    none_behind c b t y (suc i) gt lt = without_at c t i y (omega arith)

    more_behind : (c b : ℕ) (t : List ℕ) (n : ℕ) → ((i : ℕ) → n < i → i < length t → get_or t i 0 ≢ c) → (i : ℕ) → suc n < i → i < length (b ∷ t) → get_or (b ∷ t) i 0 ≢ c
    more_behind c b t n f zero gt lt = absurd (omega arith)
    more_behind c b t n f (suc i) gt lt = f i (omega arith) (omega arith)

-- the byte of a text that stands at a place of another
at_place : (s t : List ℕ) (i j : ℕ) → starts_with eqb (drop i t) s ≡ true → j < length s → get_or t (i + j) 0 ≡ get_or s j 0
at_place s t i j h lt = sym (get_or-drop i t j 0) ∙ same_byte s (drop i t) j h lt

in_front : (x r : List ℕ) (n : ℕ) → n < length x → get_or (x ++ r) n 0 ≡ get_or x n 0
in_front x r n lt = get_or_append_left x r 0 n lt

in_back : (x r : List ℕ) (n : ℕ) → length x ≤ n → get_or (x ++ r) n 0 ≡ get_or r (n - length x) 0
in_back x r n le = get_or-append_right x r (length x) n 0 refl le

-- a text with a byte that x doesn't have stands at no place of x, where it stands behind x
pub not_in : (c : ℕ) (s x r : List ℕ) → is_without c s ≡ false → is_without c x ≡ true → starts_with eqb r s ≡ true → (i : ℕ) → i < length x → starts_with eqb (drop i (x ++ r)) s ≡ false
not_in c s x r hs hx hr i lt = false_from_ne_true _ (λ h.
    let f : First c s = first_of c s hs in
    let j : ℕ = f.place in
    let in_s : j < length s = f.within in
    let is_c : get_or (x ++ r) (i + j) 0 ≡ c = at_place s (x ++ r) i j h in_s ∙ f.there in
    elim (cases_lt (i + j) (length x)) [
      | inl l ↦ without_at c x (i + j) hx l (sym (in_front x r (i + j) l) ∙ is_c)
      | inr le ↦
          let k : ℕ = i + j - length x in
          let at_r : get_or r k 0 ≡ c = sym (in_back x r (i + j) le) ∙ is_c in
          f.before k (omega arith) (sym (same_byte s r k hr (omega (arith, in_s))) ∙ at_r)
    ])

-- a text with a byte that isn't behind it stands at no later place
pub not_later : (c : ℕ) (s z : List ℕ) → 0 < c → is_without c s ≡ false → is_without c z ≡ true → (i : ℕ) → 0 < i → starts_with eqb (drop i (s ++ z)) s ≡ false
not_later c s z pos hs hz i gt = false_from_ne_true _ (λ h.
    let l : Last c s = last_of c s hs in
    let j : ℕ = l.place in
    let in_s : j < length s = l.within in
    let is_c : get_or (s ++ z) (i + j) 0 ≡ c = at_place s (s ++ z) i j h in_s ∙ l.there in
    elim (cases_lt (i + j) (length s)) [
      | inl lt ↦ l.behind (i + j) (omega arith) lt (sym (in_front s z (i + j) lt) ∙ is_c)
      | inr le ↦
          let k : ℕ = i + j - length s in
          let at_z : get_or z k 0 ≡ c = sym (in_back s z (i + j) le) ∙ is_c in
          elim (cases_lt k (length z)) [
            | inl lt ↦ without_at c z k hz lt at_z
            | inr past ↦ omega (arith, pos, sym at_z ∙ get_or_past z k 0 past)
          ]
    ])

-- where a text stands at a place, it is there
pub stands_in : (test : List ℕ → Bool) (t : List ℕ) (i : ℕ) → i < length t → test (drop i t) ≡ true → is_somewhere test t ≡ true
unfolding first_at
stands_in test [] i lt h = absurd (omega arith)
stands_in test (b ∷ t) zero lt h =
    let e : first_at test (b ∷ t) ≡ 0 = cond-true (test (b ∷ t)) _ _ h in
    lt-ltb _ _ (omega (arith, e))
stands_in test (b ∷ t) (suc i) lt h =
    let next = ltb-true (first_at test t) (length t) (stands_in test t i (omega arith) h) in
    elim (cases_Bool (test (b ∷ t))) [
      | inl y ↦
          let e : first_at test (b ∷ t) ≡ 0 = cond-true (test (b ∷ t)) _ _ y in
          lt-ltb _ _ (omega (arith, e))
      | inr f ↦
          let e : first_at test (b ∷ t) ≡ suc (first_at test t) = cond-false (test (b ∷ t)) _ _ f in
          lt-ltb _ _ (omega (arith, e, next))
    ]

-- a text that x doesn't hold, and that begins within x at no place, stands at none, where it stands behind x
pub not_across : (s x r : List ℕ) → is_somewhere (λ t. starts_with eqb t s) x ≡ false →
    ((i : ℕ) → i < length x → length x < i + length s → starts_with eqb (drop i (x ++ r)) s ≡ true → ⊥) →
    (i : ℕ) → i < length x → starts_with eqb (drop i (x ++ r)) s ≡ false
not_across s x r none across i lt = false_from_ne_true _ (λ h.
    elim (cases_lt (length x) (i + length s)) [
      | inl over ↦ across i lt over h
      | inr fits ↦
          let d : drop i (x ++ r) ≡ drop i x ++ r = drop-append-le i x r (omega arith) in
          let size : length (drop i x) ≡ length x - i = length-drop i x in
          let within : starts_with eqb (drop i x) s ≡ true = begins_within s (drop i x) r (omega (arith, size)) (sym (ap (λ y. starts_with eqb y s) d) ∙ h) in
          both_ways _ none (stands_in (λ t. starts_with eqb t s) x i lt within)
    ])

-- one whose first byte isn't in it again
pub marked_across : (c : ℕ) (s x r : List ℕ) → is_without c s ≡ true → starts_with eqb r (c ∷ s) ≡ true →
    (i : ℕ) → i < length x → length x < i + length (c ∷ s) → starts_with eqb (drop i (x ++ r)) (c ∷ s) ≡ true → ⊥
marked_across c s x r hs hr i lt over h =
    let k : ℕ = length x - i in
    let here : get_or (x ++ r) (i + k) 0 ≡ get_or (c ∷ s) k 0 = at_place (c ∷ s) (x ++ r) i k h (omega arith) in
    let same : i + k ≡ length x = omega arith in
    let back : get_or (x ++ r) (i + k) 0 ≡ get_or r 0 0 = in_back x r (i + k) (omega arith) ∙ ap (λ n. get_or r n 0) (omega arith) in
    let is_c : get_or (c ∷ s) k 0 ≡ c = sym here ∙ back ∙ same_byte (c ∷ s) r 0 hr (omega arith) in
    later c s k (omega arith) (omega arith) hs is_c
  where
    later : (c : ℕ) (s : List ℕ) (k : ℕ) → 0 < k → k < length (c ∷ s) → is_without c s ≡ true → get_or (c ∷ s) k 0 ≡ c → ⊥
    later c s zero gt lt h e = omega arith
    later c s (suc k) gt lt h e = without_at c s k h (omega arith) e

-- one without the last byte of x
pub ended_across : (p : ℕ → Bool) (s x r : List ℕ) → list_all p s ≡ true → p (get_or x (length x - 1) 0) ≡ false →
    (i : ℕ) → i < length x → length x < i + length s → starts_with eqb (drop i (x ++ r)) s ≡ true → ⊥
ended_across p s x r hs hx i lt over h =
    let k : ℕ = length x - 1 - i in
    let same : i + k ≡ length x - 1 = omega arith in
    let here : get_or (x ++ r) (i + k) 0 ≡ get_or s k 0 = at_place s (x ++ r) i k h (omega arith) in
    let front : get_or (x ++ r) (i + k) 0 ≡ get_or x (length x - 1) 0 = in_front x r (i + k) (omega arith) ∙ ap (λ n. get_or x n 0) same in
    both_ways (p (get_or x (length x - 1) 0)) hx (ap p (sym front ∙ here) ∙ passes_at p s k hs (omega arith))

-- the last place is behind a text, where what stands there goes on at no later place
pub last_apart : (test : List ℕ → Bool) (x r : List ℕ) → 0 < length r → test r ≡ true → ((i : ℕ) → 0 < i → test (drop i r) ≡ false) → last_at test (x ++ r) ≡ length x
last_apart test x [] l y n = absurd (omega arith)
last_apart test x (b ∷ r) l y n = last_behind test x b r y (λ i lt. n (suc i) (omega arith))

-- a text that begins with two others in a row
pub begins_both : (s t text : List ℕ) → starts_with eqb text s ≡ true → starts_with eqb (drop (length s) text) t ≡ true → starts_with eqb text (s ++ t) ≡ true
begins_both [] t text h k = k
begins_both (a ∷ s) t [] h k = absurd (false≢true h)
begins_both (a ∷ s) t (b ∷ text) h k =
    let p = and_parts (eqb a b) (starts_with eqb text s) h in
    and_from (eqb a b) (starts_with eqb text (s ++ t)) p.0 (begins_both s t text p.1 k)
