-- Runs of `_` in a text, byte by byte.
use Rattle.std.proofs.Common.{◌≡◌, ℕ, ◌+◌, ◌-◌, ◌≤◌, ◌⊎◌, inl, inr, List, [], ◌∷◌, ◌++◌, zero, suc, refl, sym, ap, ◌∙◌, subst, append_assoc, append-nil, length, max, length-append, arith}
use Rattle.lp_reading.specs.Prefixes.{underscores, StandsIn, IsLongestRun, IsFreePrefix}

-- a list is empty, or ends with something
at_last : (xs : List ℕ) → (xs ≡ []) ⊎ ((front : List ℕ) × (x : ℕ) × (xs ≡ front ++ x ∷ []))
at_last [] = inl refl
at_last (x ∷ xs) = elim (at_last xs) [
  | inl none ↦ inr ([], x, ap (λ l. x ∷ l) none)
  | inr last ↦ inr (x ∷ last.0, last.1, ap (λ l. x ∷ l) last.2)
]

not_none : (xs : List ℕ) (a : ℕ) → [] ≡ xs ++ a ∷ [] → ⊥
not_none [] a e = cc
not_none (x ∷ xs) a e = cc

last_same : (xs ys : List ℕ) (a b : ℕ) → xs ++ a ∷ [] ≡ ys ++ b ∷ [] → (xs ≡ ys) × (a ≡ b)
last_same [] [] a b e = (refl, cc)
last_same [] (y ∷ ys) a b e = let tail : [] ≡ ys ++ b ∷ [] = cc in absurd (not_none ys b tail)
last_same (x ∷ xs) [] a b e = let tail : [] ≡ xs ++ a ∷ [] = cc in absurd (not_none xs a tail)
last_same (x ∷ xs) (y ∷ ys) a b e =
    let head : x ≡ y = cc in
    let tail : xs ++ a ∷ [] ≡ ys ++ b ∷ [] = cc in
    let same = last_same xs ys a b tail in
    (ap (λ l. x ∷ l) same.0 ∙ ap (λ z. z ∷ ys) head, same.1)

pub underscores_more : (n : ℕ) → underscores n ++ 95 ∷ [] ≡ underscores (suc n)
underscores_more zero = refl
underscores_more (suc n) = ap (λ l. 95 ∷ l) (underscores_more n)

underscores_both : (n m : ℕ) → underscores n ++ underscores m ≡ underscores (n + m)
underscores_both zero m = let e : m ≡ 0 + m = omega arith in ap underscores e
underscores_both (suc n) m = let e : suc (n + m) ≡ suc n + m = omega arith in ap (λ l. 95 ∷ l) (underscores_both n m) ∙ ap underscores e

length_underscores : (n : ℕ) → length (underscores n) ≡ n
length_underscores zero = refl
length_underscores (suc n) = ap suc (length_underscores n)

-- the text ends with so many `_`
pub record EndsIn (text : List ℕ) (n : ℕ) : Type 0 where
  pub front : List ℕ
  pub split : text ≡ front ++ underscores n

ends_none : (text : List ℕ) → EndsIn text 0
ends_none text = record { front = text; split = sym (append-nil text) }

ends_more : (text : List ℕ) (n : ℕ) → EndsIn text n → EndsIn (text ++ 95 ∷ []) (suc n)
ends_more text n at = record {
  front = at.front;
  split = ap (λ l. l ++ 95 ∷ []) at.split ∙ append_assoc at.front (underscores n) (95 ∷ []) ∙ ap (λ l. at.front ++ l) (underscores_more n);
}

ends_before : (text : List ℕ) (byte n : ℕ) → EndsIn (text ++ byte ∷ []) (suc n) → (byte ≡ 95) × EndsIn text n
ends_before text byte n at =
    let e : text ++ byte ∷ [] ≡ (at.front ++ underscores n) ++ 95 ∷ [] =
    at.split ∙ ap (λ l. at.front ++ l) (sym (underscores_more n)) ∙ sym (append_assoc at.front (underscores n) (95 ∷ [])) in
    let same = last_same text (at.front ++ underscores n) byte 95 e in
    (same.1, record { front = at.front; split = same.0 })

ends_stand : (text : List ℕ) (n : ℕ) → EndsIn text n → StandsIn text (underscores n)
ends_stand text n at = record { front = at.front; back = []; split = at.split ∙ ap (λ l. at.front ++ l) (sym (append-nil (underscores n))) }

stands_more : (text inside : List ℕ) (byte : ℕ) → StandsIn text inside → StandsIn (text ++ byte ∷ []) inside
stands_more text inside byte at = record {
  front = at.front;
  back = at.back ++ byte ∷ [];
  split =
      ap (λ l. l ++ byte ∷ []) at.split
      ∙ append_assoc at.front (inside ++ at.back) (byte ∷ [])
      ∙ ap (λ l. at.front ++ l) (append_assoc inside at.back (byte ∷ []));
}

-- what stands in a text ends it, or stands before its last byte
stands_where : (text : List ℕ) (byte n : ℕ) → StandsIn (text ++ byte ∷ []) (underscores n) → EndsIn (text ++ byte ∷ []) n ⊎ StandsIn text (underscores n)
stands_where text byte n at = elim (at_last at.back) [
  | inl none ↦ inl (record { front = at.front; split = at.split ∙ ap (λ l. at.front ++ (underscores n ++ l)) none ∙ ap (λ l. at.front ++ l) (append-nil (underscores n)) })
  | inr last ↦
      let e : text ++ byte ∷ [] ≡ (at.front ++ (underscores n ++ last.0)) ++ last.1 ∷ [] =
      at.split
      ∙ ap (λ l. at.front ++ (underscores n ++ l)) last.2
      ∙ ap (λ l. at.front ++ l) (sym (append_assoc (underscores n) last.0 (last.1 ∷ [])))
      ∙ sym (append_assoc at.front (underscores n ++ last.0) (last.1 ∷ [])) in
      inr (record { front = at.front; back = last.0; split = (last_same text (at.front ++ (underscores n ++ last.0)) byte last.1 e).0 })
]

-- the longest run of `_` so far, and the one that goes on
pub record RunsTo (text : List ℕ) (longest run : ℕ) : Type 0 where
  pub far : IsLongestRun text longest
  pub ends : EndsIn text run
  pub last : (n : ℕ) → EndsIn text n → n ≤ run

fits_front : (text : List ℕ) (n : ℕ) → EndsIn text n → n ≤ length text
fits_front text n at = omega (arith, ap length at.split, length-append at.front (underscores n), length_underscores n)

pub run_fits : (text : List ℕ) (longest run : ℕ) → RunsTo text longest run → run ≤ length text
run_fits text longest run so = fits_front text run so.ends

stands_in_none : (n : ℕ) → StandsIn [] (underscores n) → n ≤ 0
stands_in_none n at = omega (arith, ap length at.split, length-append at.front (underscores n ++ at.back), length-append (underscores n) at.back, length_underscores n)

pub no_run : (text : List ℕ) → text ≡ [] → RunsTo text 0 0
no_run text none =
    let empty : RunsTo [] 0 0 = record {
      far = record { stands = record { front = []; back = []; split = refl }; most = stands_in_none };
      ends = ends_none [];
      last = λ n at. fits_front [] n at;
    } in
    subst (λ t. RunsTo t 0 0) (sym none) empty

ends_with_none : (text : List ℕ) (byte n : ℕ) → (byte ≡ 95 → ⊥) → EndsIn (text ++ byte ∷ []) n → n ≤ 0
ends_with_none text byte zero other at = omega arith
ends_with_none text byte (suc n) other at = absurd (other (ends_before text byte n at).0)

-- a byte that is none ends the run
pub run_ends : (text new : List ℕ) (byte longest run more next : ℕ) → RunsTo text longest run → new ≡ text ++ byte ∷ [] → (byte ≡ 95 → ⊥) → next ≡ 0 → more ≡ max longest next → RunsTo new more next
run_ends text new byte longest run more next so is other next_is more_is =
    let same : more ≡ longest = omega arith in
    let none : (n : ℕ) → EndsIn (text ++ byte ∷ []) n → n ≤ 0 = λ n. ends_with_none text byte n other in
    let here : RunsTo (text ++ byte ∷ []) longest 0 = record {
      far = record {
        stands = stands_more text (underscores longest) byte so.far.stands;
        most = λ n at. elim (stands_where text byte n at) [ inl ends ↦ omega (arith, none n ends) | inr before ↦ so.far.most n before ];
      };
      ends = ends_none (text ++ byte ∷ []);
      last = none;
    } in
    subst (λ t. RunsTo t more next) (sym is) (subst (λ l. RunsTo (text ++ byte ∷ []) l next) (sym same) (subst (RunsTo (text ++ byte ∷ []) longest) (sym next_is) here))

greater : (a b : ℕ) → (max a b ≡ a) ⊎ (max a b ≡ b)
greater zero b = inr (omega arith)
greater (suc a) zero = inl (omega arith)
greater (suc a) (suc b) = elim (greater a b) [ inl h ↦ inl (omega arith) | inr h ↦ inr (omega arith) ]

ends_within : (text : List ℕ) (byte longest run next n : ℕ) → RunsTo text longest run → next ≡ suc run → EndsIn (text ++ byte ∷ []) n → n ≤ next
ends_within text byte longest run next zero so next_is at = omega arith
ends_within text byte longest run next (suc n) so next_is at = let h : n ≤ run = so.last n (ends_before text byte n at).1 in omega arith

-- one more `_`
pub run_goes_on : (text new : List ℕ) (byte longest run more next : ℕ) → RunsTo text longest run → new ≡ text ++ byte ∷ [] → byte ≡ 95 → next ≡ suc run → more ≡ max longest next → RunsTo new more next
run_goes_on text new byte longest run more next so is same next_is more_is =
    let here : text ++ byte ∷ [] ≡ text ++ 95 ∷ [] = ap (λ b. text ++ b ∷ []) same in
    let goes : EndsIn new next = subst (λ t. EndsIn t next) (sym (is ∙ here)) (subst (EndsIn (text ++ 95 ∷ [])) (sym next_is) (ends_more text run so.ends)) in
    let last : (n : ℕ) → EndsIn new n → n ≤ next = λ n at. ends_within text byte longest run next n so next_is (subst (λ t. EndsIn t n) is at) in
    record {
      far = record {
        stands = elim (greater longest next) [
          | inl e ↦ subst (λ k. StandsIn new (underscores k)) (sym (more_is ∙ e)) (subst (λ t. StandsIn t (underscores longest)) (sym is) (stands_more text (underscores longest) byte so.far.stands))
          | inr e ↦ subst (λ k. StandsIn new (underscores k)) (sym (more_is ∙ e)) (ends_stand new next goes)
        ];
        most = λ n at. elim (stands_where text byte n (subst (λ t. StandsIn t (underscores n)) is at)) [
          | inl ends ↦ omega (arith, ends_within text byte longest run next n so next_is ends)
          | inr before ↦ omega (arith, so.far.most n before)
        ];
      };
      ends = goes;
      last = last;
    }

-- fewer `_` stand where more do
stands_fewer : (text : List ℕ) (n k : ℕ) → k ≤ n → StandsIn text (underscores n) → StandsIn text (underscores k)
stands_fewer text n k h at =
    let e : n ≡ k + (n - k) = omega arith in
    record {
      front = at.front;
      back = underscores (n - k) ++ at.back;
      split =
          at.split
          ∙ ap (λ m. at.front ++ (underscores m ++ at.back)) e
          ∙ ap (λ l. at.front ++ (l ++ at.back)) (sym (underscores_both k (n - k)))
          ∙ ap (λ l. at.front ++ l) (append_assoc (underscores k) (underscores (n - k)) at.back);
    }

-- one more than the longest run has, and two at least
pub free_of : (text prefix : List ℕ) (longest count : ℕ) → IsLongestRun text longest → count ≡ max longest 1 → prefix ≡ underscores (suc count) → IsFreePrefix text prefix
free_of text prefix longest count far is made = record {
  count = suc count;
  is = made;
  two = omega arith;
  free = λ at. let h : suc count ≤ longest = far.most (suc count) (subst (StandsIn text) made at) in omega arith;
  least = λ n two below. stands_fewer text longest n (omega arith) far.stands;
}
