-- The next line that counts is the same in each text that agrees up to it.
use Rattle.std.proofs.Common.{◌≡◌, ℕ, ◌+◌, ◌-◌, ◌<◌, ◌≤◌, zero, suc, true, false, inl, inr, ◌⊎◌, List, [], ◌∷◌, ◌++◌, length, get_or, drop, refl, sym, ap, ◌∙◌, subst, arith, append_assoc, append-nil, length-append}
use Rattle.std.specs.Char.{is_whitespace}
use Rattle.std.specs.Str.{IsUtf8, chars, trim_start, skip_leading_whitespace, encode_utf8_all}
use Rattle.std.proofs.lemmas.Bool.{and_parts, cases_Bool, cases_lt, cond-true, cond-false}
use Rattle.std.proofs.lemmas.List.{drop_at, take_at, get_or-append-add, nil_from_length}
use Rattle.std.proofs.lemmas.Str.{encodes-chars, scalars-chars, IsUtf8-append, IsUtf8-take, IsUtf8-drop, IsCharBoundary-before_ascii, IsCharBoundary-after_ascii}
use lib.Utf8.{encode, scalar, scalars}
use Rattle.lp_spelling.specs.Counting.{line_len, front_line, behind_line, feeds, is_skipped, settled}
use Rattle.lp_spelling.proofs.Counting.{settled_none, settled_skips, settled_counts}
use Rattle.lp_local.specs.Agreeing.{Agree, lines_before}
use Rattle.lp_local.proofs.Agreeing.{feeds-append, before_rest, agree_behind, agree_all, agree_equal, split_first, line_front, line_left, line_behind, line_all, line_rest, line_none, SameLine, same_line, LineTold, line_told}

-- what is left of a text behind a front, at a boundary of characters
pub record Left (text rest : List ℕ) : Type 0 where
  pub utf8 : IsUtf8 rest
  pub front : List ℕ
  pub whole : text ≡ front ++ rest

left_all : (text : List ℕ) → IsUtf8 text → Left text text
left_all text u = record { utf8 = u; front = []; whole = refl }

left_on : (x text rest : List ℕ) → Left text rest → Left (x ++ text) rest
left_on x text rest l = record { utf8 = l.utf8; front = x ++ l.front; whole = ap (λ (r : List ℕ). x ++ r) l.whole ∙ sym (append_assoc x l.front rest) }

-- around a byte of ASCII
pub behind_byte : (front : List ℕ) (c : ℕ) (rest : List ℕ) → c < 128 → IsUtf8 (front ++ c ∷ rest) → IsUtf8 rest
behind_byte front c rest small u =
    let text : List ℕ = front ++ c ∷ rest in
    let size = length-append front (c ∷ rest) in
    let at : get_or text (length front) 0 ≡ c = ap (λ i. get_or text i 0) (omega arith) ∙ get_or-append-add front (c ∷ rest) 0 0 in
    let whole : text ≡ (front ++ c ∷ []) ++ rest = sym (append_assoc front (c ∷ []) rest) in
    let len = length-append front (c ∷ []) in
    let there : drop (length front + 1) text ≡ rest = ap (drop (length front + 1)) whole ∙ drop_at (front ++ c ∷ []) rest (length front + 1) (omega (arith, len)) in
    subst (λ (x : List ℕ). IsUtf8 x) there (IsUtf8-drop text (length front + 1) u (IsCharBoundary-after_ascii text (length front) u (omega (arith, size)) (omega (arith, at, small))))

pub from_byte : (front : List ℕ) (c : ℕ) (rest : List ℕ) → c < 128 → IsUtf8 (front ++ c ∷ rest) → IsUtf8 (c ∷ rest)
from_byte front c rest small u =
    let text : List ℕ = front ++ c ∷ rest in
    let size = length-append front (c ∷ rest) in
    let at : get_or text (length front) 0 ≡ c = ap (λ i. get_or text i 0) (omega arith) ∙ get_or-append-add front (c ∷ rest) 0 0 in
    subst (λ (x : List ℕ). IsUtf8 x) (drop_at front (c ∷ rest) (length front) refl)
    (IsUtf8-drop text (length front) u (IsCharBoundary-before_ascii text (length front) (omega (arith, size)) (omega (arith, at, small))))

pub before_byte : (front : List ℕ) (c : ℕ) (rest : List ℕ) → c < 128 → IsUtf8 (front ++ c ∷ rest) → IsUtf8 front
before_byte front c rest small u =
    let text : List ℕ = front ++ c ∷ rest in
    let size = length-append front (c ∷ rest) in
    let at : get_or text (length front) 0 ≡ c = ap (λ i. get_or text i 0) (omega arith) ∙ get_or-append-add front (c ∷ rest) 0 0 in
    subst (λ (x : List ℕ). IsUtf8 x) (take_at front (c ∷ rest) (length front) refl)
    (IsUtf8-take text (length front) u (IsCharBoundary-before_ascii text (length front) (omega (arith, size)) (omega (arith, at, small))))

-- blanks in front
skipped : (cs : List ℕ) → scalars cs ≡ true → Left (encode_utf8_all cs) (encode_utf8_all (skip_leading_whitespace cs))
skipped [] h = left_all [] ([], (refl, refl))
skipped (c ∷ cs) h = elim (cases_Bool (is_whitespace c)) [
  | inl y ↦
      let r : Left (encode_utf8_all cs) (encode_utf8_all (skip_leading_whitespace cs)) = skipped cs (and_parts (scalar c) (scalars cs) h).1 in
      subst (λ (x : List ℕ). Left (encode_utf8_all (c ∷ cs)) x) (sym (ap encode_utf8_all (cond-true (is_whitespace c) (skip_leading_whitespace cs) (c ∷ cs) y)))
      (left_on (encode c) (encode_utf8_all cs) (encode_utf8_all (skip_leading_whitespace cs)) r)
  | inr n ↦
      subst (λ (x : List ℕ). Left (encode_utf8_all (c ∷ cs)) x) (sym (ap encode_utf8_all (cond-false (is_whitespace c) (skip_leading_whitespace cs) (c ∷ cs) n)))
      (left_all (encode_utf8_all (c ∷ cs)) (c ∷ cs, (h, refl)))
]

pub trimmed : (x : List ℕ) → IsUtf8 x → Left x (trim_start x)
unfolding trim_start
trimmed x u = subst (λ (y : List ℕ). Left y (encode_utf8_all (skip_leading_whitespace (chars x)))) (encodes-chars x u) (skipped (chars x) (scalars-chars x u))

-- the first line decides what settles
first_some : (line r : List ℕ) → 0 < length (line ++ 10 ∷ r)
first_some line r = let e = length-append line (10 ∷ r) in omega (arith, e)

pub skips_first : (line r : List ℕ) → feeds line ≡ 0 → is_skipped (trim_start line) ≡ true → settled (line ++ 10 ∷ r) ≡ settled r
skips_first line r none y =
    settled_skips (line ++ 10 ∷ r) (first_some line r) (ap (λ (x : List ℕ). is_skipped (trim_start x)) (line_front line r none) ∙ y) ∙ ap settled (line_behind line r none)

pub counts_first : (line r : List ℕ) → feeds line ≡ 0 → is_skipped (trim_start line) ≡ false → settled (line ++ 10 ∷ r) ≡ trim_start line ++ 10 ∷ r
counts_first line r none n =
    settled_counts (line ++ 10 ∷ r) (first_some line r) (ap (λ (x : List ℕ). is_skipped (trim_start x)) (line_front line r none) ∙ n)
    ∙ ap (λ (x : List ℕ). trim_start x ++ drop (line_len (line ++ 10 ∷ r)) (line ++ 10 ∷ r)) (line_front line r none)
    ∙ ap (λ (x : List ℕ). trim_start line ++ x) (line_left line r none)

pub skips_last : (t : List ℕ) → 0 < length t → feeds t ≡ 0 → is_skipped (trim_start t) ≡ true → settled t ≡ []
skips_last t some none y =
    settled_skips t some (ap (λ (x : List ℕ). is_skipped (trim_start x)) (line_all t none) ∙ y) ∙ ap settled (line_none t none) ∙ settled_none

pub counts_last : (t : List ℕ) → 0 < length t → feeds t ≡ 0 → is_skipped (trim_start t) ≡ false → settled t ≡ trim_start t
counts_last t some none n =
    settled_counts t some (ap (λ (x : List ℕ). is_skipped (trim_start x)) (line_all t none) ∙ n) ∙ ap (λ (x : List ℕ). trim_start x ++ drop (line_len t) t) (line_all t none)
    ∙ ap (λ (x : List ℕ). trim_start t ++ x) (line_rest t none) ∙ append-nil (trim_start t)

-- what settles is left of the text
left_none : (t : List ℕ) → Left t []
left_none t = record { utf8 = ([], (refl, refl)); front = t; whole = sym (append-nil t) }

left_last : (t : List ℕ) → IsUtf8 t → feeds t ≡ 0 → Left t (settled t)
left_last [] u none = subst (λ (x : List ℕ). Left [] x) (sym settled_none) (left_none [])
left_last (b ∷ t) u none = elim (cases_Bool (is_skipped (trim_start (b ∷ t)))) [
  | inl y ↦ subst (λ (x : List ℕ). Left (b ∷ t) x) (sym (skips_last (b ∷ t) (omega arith) none y)) (left_none (b ∷ t))
  | inr n ↦ subst (λ (x : List ℕ). Left (b ∷ t) x) (sym (counts_last (b ∷ t) (omega arith) none n)) (trimmed (b ∷ t) u)
]

left_counts : (line r : List ℕ) → IsUtf8 (line ++ 10 ∷ r) → Left (line ++ 10 ∷ r) (trim_start line ++ 10 ∷ r)
left_counts line r u =
    let t : Left line (trim_start line) = trimmed line (before_byte line 10 r (omega arith) u) in
    record {
      utf8 = IsUtf8-append (trim_start line) (10 ∷ r) t.utf8 (from_byte line 10 r (omega arith) u);
      front = t.front;
      whole = ap (λ (x : List ℕ). x ++ 10 ∷ r) t.whole ∙ append_assoc t.front (trim_start line) (10 ∷ r);
    }

left_within : (m : ℕ) (t : List ℕ) → length t ≤ m → IsUtf8 t → Left t (settled t)
left_within zero [] le u = left_last [] u refl
left_within zero (b ∷ t) le u = absurd (omega arith)
left_within (suc m) t le u = elim (split_first t) [
  | inl none ↦ left_last t u none
  | inr f ↦
      let whole : List ℕ = f.line ++ 10 ∷ f.rest in
      let v : IsUtf8 whole = subst (λ (x : List ℕ). IsUtf8 x) f.whole u in
      let size : length t ≡ length f.line + length (10 ∷ f.rest) = ap length f.whole ∙ length-append f.line (10 ∷ f.rest) in
      subst (λ (x : List ℕ). Left x (settled x)) (sym f.whole) (elim (cases_Bool (is_skipped (trim_start f.line))) [
        | inl y ↦
            let r : Left f.rest (settled f.rest) = left_within m f.rest (omega (arith, size)) (behind_byte f.line 10 f.rest (omega arith) v) in
            subst (λ (x : List ℕ). Left whole x) (sym (skips_first f.line f.rest f.within y)) (left_on f.line (10 ∷ f.rest) (settled f.rest) (left_on (10 ∷ []) f.rest (settled f.rest) r))
        | inr n ↦ subst (λ (x : List ℕ). Left whole x) (sym (counts_first f.line f.rest f.within n)) (left_counts f.line f.rest v)
      ])
]

pub settled_left : (t : List ℕ) → IsUtf8 t → Left t (settled t)
settled_left t u = left_within (length t) t (omega arith) u

-- the same front is passed in both texts
record Settles (a b : List ℕ) : Type 0 where
  front : List ℕ
  a_is : a ≡ front ++ settled a
  b_is : b ≡ front ++ settled b

settles_on : (line r q : List ℕ) → feeds line ≡ 0 → is_skipped (trim_start line) ≡ true → Settles r q → Settles (line ++ 10 ∷ r) (line ++ 10 ∷ q)
settles_on line r q none y s =
    record { front = line ++ 10 ∷ s.front; a_is = on line s.front r none y s.a_is; b_is = on line s.front q none y s.b_is }
  where
    on : (line front r : List ℕ) → feeds line ≡ 0 → is_skipped (trim_start line) ≡ true → r ≡ front ++ settled r → line ++ 10 ∷ r ≡ (line ++ 10 ∷ front) ++ settled (line ++ 10 ∷ r)
    on line front r none y e =
        ap (λ (x : List ℕ). line ++ 10 ∷ x) e ∙ sym (append_assoc line (10 ∷ front) (settled r)) ∙ ap (λ (x : List ℕ). (line ++ 10 ∷ front) ++ x) (sym (skips_first line r none y))

settles_here : (line r q : List ℕ) → IsUtf8 line → feeds line ≡ 0 → is_skipped (trim_start line) ≡ false → Settles (line ++ 10 ∷ r) (line ++ 10 ∷ q)
settles_here line r q u none n =
    let t : Left line (trim_start line) = trimmed line u in
    record { front = t.front; a_is = here line t.front r none n t.whole; b_is = here line t.front q none n t.whole }
  where
    here : (line front r : List ℕ) → feeds line ≡ 0 → is_skipped (trim_start line) ≡ false → line ≡ front ++ trim_start line → line ++ 10 ∷ r ≡ front ++ settled (line ++ 10 ∷ r)
    here line front r none n e =
        ap (λ (x : List ℕ). x ++ 10 ∷ r) e ∙ append_assoc front (trim_start line) (10 ∷ r) ∙ ap (λ (x : List ℕ). front ++ x) (sym (counts_first line r none n))

settles_same : (a b : List ℕ) → IsUtf8 a → a ≡ b → Settles a b
settles_same a b u e = let l : Left a (settled a) = settled_left a u in subst (λ (x : List ℕ). Settles a x) e (record { front = l.front; a_is = l.whole; b_is = l.whole })

settles_within : (m n : ℕ) (a b : List ℕ) → length a ≤ m → IsUtf8 a → lines_before a (settled a) < n → 0 < length (settled a) → Agree n a b → Settles a b
settles_within m zero a b le u lt some h = absurd (omega arith)
settles_within zero (suc n) [] b le u lt some h = settles_same [] b u (agree_all (suc n) [] b (omega arith) h)
settles_within zero (suc n) (c ∷ a) b le u lt some h = absurd (omega arith)
settles_within (suc m) (suc n) a b le u lt some h = elim (split_first a) [
  | inl none ↦ settles_same a b u (agree_all (suc n) a b (omega (arith, none)) h)
  | inr f ↦
      let s : SameLine n a b = same_line n a b f.line f.rest f.within f.whole h in
      let v : IsUtf8 (s.line ++ 10 ∷ s.behind) = subst (λ (x : List ℕ). IsUtf8 x) s.a_is u in
      subst (λ (x : List ℕ). Settles x b) (sym s.a_is) (subst (λ (x : List ℕ). Settles (s.line ++ 10 ∷ s.behind) x) (sym s.b_is) (elim (cases_Bool (is_skipped (trim_start s.line))) [
        | inl y ↦
            let w : IsUtf8 s.behind = behind_byte s.line 10 s.behind (omega arith) v in
            let l : Left s.behind (settled s.behind) = settled_left s.behind w in
            let e : settled a ≡ settled s.behind = ap settled s.a_is ∙ skips_first s.line s.behind s.within y in
            let size : length a ≡ length s.line + length (10 ∷ s.behind) = ap length s.a_is ∙ length-append s.line (10 ∷ s.behind) in
            let one : feeds a ≡ feeds s.line + feeds (10 ∷ s.behind) = ap feeds s.a_is ∙ feeds-append s.line (10 ∷ s.behind) in
            let two : feeds (10 ∷ s.behind) ≡ 1 + feeds s.behind = feeds-append (10 ∷ []) s.behind in
            let three : feeds s.behind ≡ feeds l.front + feeds (settled s.behind) = ap feeds l.whole ∙ feeds-append l.front (settled s.behind) in
            let four : feeds (settled a) ≡ feeds (settled s.behind) = ap feeds e in
            let fewer : lines_before s.behind (settled s.behind) < n = omega (arith, lt, one, two, three, four) in
            settles_on s.line s.behind s.other s.within y (settles_within m n s.behind s.other (omega (arith, size)) w fewer (subst (λ (x : List ℕ). 0 < length x) e some) s.agree)
        | inr c ↦ settles_here s.line s.behind s.other (before_byte s.line 10 s.behind (omega arith) v) s.within c
      ]))
]

-- the next line that counts, where the first n lines have it: the same line, the same number of lines before it, and what agrees there and behind it
pub record SettledShared (n : ℕ) (a b : List ℕ) : Type 0 where
  pub utf8 : IsUtf8 (settled a)
  pub front : List ℕ
  pub a_is : a ≡ front ++ settled a
  pub b_is : b ≡ front ++ settled b
  pub some : 0 < length (settled b)
  pub line : front_line (settled b) ≡ front_line (settled a)
  pub before : lines_before b (settled b) ≡ lines_before a (settled a)
  pub agree : Agree (n - lines_before a (settled a)) (settled a) (settled b)
  pub behind : Agree (n - (lines_before a (settled a) + 1)) (behind_line (settled a)) (behind_line (settled b))

pub settled_shared : (n : ℕ) (a b : List ℕ) → IsUtf8 a → 0 < length (settled a) → lines_before a (settled a) < n → Agree n a b → SettledShared n a b
settled_shared n a b u some lt h =
    let s : Settles a b = settles_within (length a) n a b (omega arith) u lt some h in
    let l : Left a (settled a) = settled_left a u in
    let k : ℕ = lines_before a (settled a) in
    let ka : lines_before a (settled a) ≡ feeds s.front = before_rest s.front (settled a) a s.a_is in
    let kb : lines_before b (settled b) ≡ feeds s.front = before_rest s.front (settled b) b s.b_is in
    let both : Agree n (s.front ++ settled a) (s.front ++ settled b) = agree_equal n (s.front ++ settled a) (s.front ++ settled b) a b (sym s.a_is) (sym s.b_is) h in
    let agree : Agree (n - feeds s.front) (settled a) (settled b) = agree_behind n s.front (settled a) (settled b) (omega (arith, ka, lt)) both in
    let next : n - feeds s.front ≡ suc (n - (k + 1)) = omega (arith, ka, lt) in
    let told : LineTold (n - (k + 1)) (settled a) (settled b) = line_told (n - (k + 1)) (settled a) (settled b) (subst (λ i. Agree i (settled a) (settled b)) next agree) in
    record {
      utf8 = l.utf8;
      front = s.front;
      a_is = s.a_is;
      b_is = s.b_is;
      some = told.some some;
      line = told.line;
      before = kb ∙ sym ka;
      agree = subst (λ i. Agree (n - i) (settled a) (settled b)) (sym ka) agree;
      behind = told.behind;
    }

-- where the first n lines have the next line that counts, or the end of the text: the texts are the same, or have the same line
pub settled_told : (n : ℕ) (a b : List ℕ) → IsUtf8 a → lines_before a (settled a) < n → Agree n a b → (a ≡ b) ⊎ SettledShared n a b
settled_told n a b u lt h = elim (cases_lt 0 (length (settled a))) [
  | inl some ↦ inr (settled_shared n a b u some lt h)
  | inr none ↦
      let empty : settled a ≡ [] = nil_from_length (settled a) (omega (arith, none)) in
      let all : feeds (settled a) ≡ 0 = ap feeds empty in
      inl (agree_all n a b (omega (arith, all, lt)) h)
]
