-- Texts whose first lines are the same: what stands in front of both, and where they are the same text.
use Rattle.std.proofs.Common.{eqb, ◌&&◌, ◌≡◌, ℕ, ◌+◌, ◌-◌, ◌^◌, ◌==◌, ◌<◌, ◌≤◌, zero, suc, Bool, true, false, cond, inl, inr, ◌⊎◌, List, [], ◌∷◌, ◌++◌, length, take, drop, refl, sym, ap, ◌∙◌, subst, arith, append_assoc, append-nil, length-append}
use Rattle.std.specs.List.{starts_with}
use Rattle.std.proofs.lemmas.Bool.{and_left, cases_Bool, cond-true, cond-false, cond_both, eqb-true, not_from_true, not_from_false}
use Rattle.std.proofs.lemmas.List.{append_cancel_left, take_at, take_all, drop_at, drop_all}
use Rattle.std.proofs.lemmas.List.Sums.{sum_by-cons, sum_by-append}
use Rattle.lp_spelling.specs.Counting.{is_text, line_len, front_line, behind_line, feeds}
use Rattle.lp_spelling.specs.LineNumbers.{line_number, is_ended, past_last}
use Rattle.lp_local.specs.Agreeing.{first_lines, Agree, lines_before}

-- line feeds in front, and in two texts
pub feeds_feed : (b : ℕ) (t : List ℕ) → (b == 10) ≡ true → feeds (b ∷ t) ≡ 1 + feeds t
feeds_feed b t h = sum_by-cons (λ (c : ℕ). cond (c == 10) 1 0) b t ∙ ap (λ k. k + feeds t) (cond-true (b == 10) 1 0 h)

pub feeds_text : (b : ℕ) (t : List ℕ) → (b == 10) ≡ false → feeds (b ∷ t) ≡ feeds t
feeds_text b t h = sum_by-cons (λ (c : ℕ). cond (c == 10) 1 0) b t ∙ ap (λ k. k + feeds t) (cond-false (b == 10) 1 0 h) ∙ omega arith

pub feeds-append : (x a : List ℕ) → feeds (x ++ a) ≡ feeds x + feeds a
feeds-append x a = sum_by-append (λ (c : ℕ). cond (c == 10) 1 0) x a

-- the lines that end before the rest of a text are those of what was in front
pub before_rest : (x rest text : List ℕ) → text ≡ x ++ rest → lines_before text rest ≡ feeds x
before_rest x rest text e =
    let whole : feeds text ≡ feeds x + feeds rest = ap feeds e ∙ feeds-append x rest in
    omega (arith, whole)

-- the lines that end before a rest of a rest
pub before_on : (x mid y rest text : List ℕ) → text ≡ x ++ mid → mid ≡ y ++ rest → lines_before text rest ≡ lines_before text mid + lines_before mid rest
before_on x mid y rest text e f =
    let one : feeds text ≡ feeds x + feeds mid = ap feeds e ∙ feeds-append x mid in
    let two : feeds mid ≡ feeds y + feeds rest = ap feeds f ∙ feeds-append y rest in
    omega (arith, one, two)

-- agreement is an equation: it goes both ways, and on
pub agree_same : (n : ℕ) (a b : List ℕ) → a ≡ b → Agree n a b
agree_same n a b e = ap (first_lines n) e

pub agree_back : (n : ℕ) (a b : List ℕ) → Agree n a b → Agree n b a
agree_back n a b h = sym h

pub agree_on : (n : ℕ) (a b c : List ℕ) → Agree n a b → Agree n b c → Agree n a c
agree_on n a b c h k = h ∙ k

-- and holds of fewer lines
fewer_step : (y : Bool) (m n : ℕ) → m ≤ n → cond y m (suc m) ≤ cond y n (suc n)
fewer_step true m n h = h
fewer_step false m n h = omega arith

lines_fewer : (m n : ℕ) (t : List ℕ) → m ≤ n → first_lines m (first_lines n t) ≡ first_lines m t
unfolding first_lines
lines_fewer m n [] h = refl
lines_fewer zero zero (b ∷ t) h = refl
lines_fewer zero (suc n) (b ∷ t) h = refl
lines_fewer (suc m) zero (b ∷ t) h = absurd (omega arith)
lines_fewer (suc m) (suc n) (b ∷ t) h =
    ap (λ (x : List ℕ). b ∷ x) (lines_fewer (cond (b == 10) m (suc m)) (cond (b == 10) n (suc n)) t (fewer_step (b == 10) m n (omega arith)))

pub agree_fewer : (m n : ℕ) (a b : List ℕ) → m ≤ n → Agree n a b → Agree m a b
agree_fewer m n a b le h = sym (lines_fewer m n a le) ∙ ap (first_lines m) h ∙ lines_fewer m n b le

-- what has less than n line feeds stands whole in front of the first n lines
lines_front : (n : ℕ) (x a : List ℕ) → feeds x < n → first_lines n (x ++ a) ≡ x ++ first_lines (n - feeds x) a
unfolding first_lines
lines_front n [] a h = ap (λ k. first_lines k a) (omega arith)
lines_front zero (b ∷ x) a h = absurd (omega arith)
lines_front (suc n) (b ∷ x) a h = elim (cases_Bool (b == 10)) [
  | inl y ↦
      let f : feeds (b ∷ x) ≡ 1 + feeds x = feeds_feed b x y in
      ap (λ k. b ∷ first_lines k (x ++ a)) (cond-true (b == 10) n (suc n) y) ∙ ap (λ (r : List ℕ). b ∷ r) (lines_front n x a (omega (arith, f)))
      ∙ ap (λ k. b ∷ (x ++ first_lines k a)) (omega (arith, f))
  | inr z ↦
      let f : feeds (b ∷ x) ≡ feeds x = feeds_text b x z in
      ap (λ k. b ∷ first_lines k (x ++ a)) (cond-false (b == 10) n (suc n) z) ∙ ap (λ (r : List ℕ). b ∷ r) (lines_front (suc n) x a (omega (arith, f)))
      ∙ ap (λ k. b ∷ (x ++ first_lines k a)) (omega (arith, f))
]

pub agree_front : (n : ℕ) (x a b : List ℕ) → feeds x < n → Agree (n - feeds x) a b → Agree n (x ++ a) (x ++ b)
agree_front n x a b lt h = lines_front n x a lt ∙ ap (λ (r : List ℕ). x ++ r) h ∙ sym (lines_front n x b lt)

pub agree_behind : (n : ℕ) (x a b : List ℕ) → feeds x < n → Agree n (x ++ a) (x ++ b) → Agree (n - feeds x) a b
agree_behind n x a b lt h = append_cancel_left x _ _ (sym (lines_front n x a lt) ∙ h ∙ lines_front n x b lt)

-- the first lines stand in front of the text
lines_part : (n : ℕ) (t : List ℕ) → (rest : List ℕ) × (t ≡ first_lines n t ++ rest)
unfolding first_lines
lines_part n [] = ([], refl)
lines_part zero (b ∷ t) = (b ∷ t, refl)
lines_part (suc n) (b ∷ t) = let r = lines_part (cond (b == 10) n (suc n)) t in (r.0, ap (λ (x : List ℕ). b ∷ x) r.1)

-- a text with the same front, and what agrees behind it
pub record Shared (n : ℕ) (x a b : List ℕ) : Type 0 where
  pub rest : List ℕ
  pub b_is : b ≡ x ++ rest
  pub agree : Agree n a rest

-- what is taken off the front of a text stands in front of each that agrees, up to its last line
pub shared_front : (n : ℕ) (x a b : List ℕ) → feeds x < n → Agree n (x ++ a) b → Shared (n - feeds x) x a b
shared_front n x a b lt h =
    let p = lines_part n b in
    let z : List ℕ = first_lines (n - feeds x) a in
    let e : b ≡ x ++ (z ++ p.0) = p.1 ∙ ap (λ (r : List ℕ). r ++ p.0) (sym h ∙ lines_front n x a lt) ∙ append_assoc x z p.0 in
    record { rest = z ++ p.0; b_is = e; agree = agree_behind n x a (z ++ p.0) lt (subst (λ (r : List ℕ). Agree n (x ++ a) r) e h) }

-- nothing agrees with nothing else
pub agree_nothing : (n : ℕ) (b : List ℕ) → 0 < n → Agree n [] b → b ≡ []
unfolding first_lines
agree_nothing n [] lt h = refl
agree_nothing zero (c ∷ b) lt h = absurd (omega arith)
agree_nothing (suc n) (c ∷ b) lt h = absurd cc

-- past its last line a text is the only one that agrees
pub agree_all : (n : ℕ) (a b : List ℕ) → feeds a < n → Agree n a b → a ≡ b
agree_all n a b lt h =
    let s : Shared (n - feeds a) a [] b = shared_front n a [] b lt (ap (first_lines n) (append-nil a) ∙ h) in
    let none : s.rest ≡ [] = agree_nothing (n - feeds a) s.rest (omega arith) s.agree in
    sym (append-nil a) ∙ ap (λ (r : List ℕ). a ++ r) (sym none) ∙ sym s.b_is

pub past_more : (text : List ℕ) → feeds text + 1 < 2 ^ 64 → feeds text < past_last text
past_more text small =
    cond_both (is_ended text) (line_number (feeds text)) (line_number (line_number (feeds text))) (λ (k : ℕ). feeds text < k) (λ y. omega arith) (λ z. omega arith)

pub agree_past : (n : ℕ) (a b : List ℕ) → feeds a + 1 < 2 ^ 64 → past_last a ≤ n → Agree n a b → a ≡ b
agree_past n a b small le h = let more : feeds a < past_last a = past_more a small in agree_all n a b (omega arith) h

-- a text of no line feed, or its first line and what is behind it
pub record FirstLine (t : List ℕ) : Type 0 where
  pub line : List ℕ
  pub rest : List ℕ
  pub whole : t ≡ line ++ 10 ∷ rest
  pub within : feeds line ≡ 0

pub split_first : (t : List ℕ) → (feeds t ≡ 0) ⊎ FirstLine t
split_first [] = inl refl
split_first (b ∷ t) = elim (cases_Bool (b == 10)) [
  | inl y ↦ inr (record { line = []; rest = t; whole = ap (λ (c : ℕ). c ∷ t) (eqb-true b 10 y); within = refl })
  | inr z ↦ elim (split_first t) [
    | inl e ↦ inl (feeds_text b t z ∙ e)
    | inr f ↦ inr (record { line = b ∷ f.line; rest = f.rest; whole = ap (λ (x : List ℕ). b ∷ x) f.whole; within = feeds_text b f.line z ∙ f.within })
  ]
]

pub no_feed : (b : ℕ) (t : List ℕ) → feeds (b ∷ t) ≡ 0 → ((b == 10) ≡ false) × (feeds t ≡ 0)
no_feed b t h = elim (cases_Bool (b == 10)) [
  | inl y ↦ absurd (omega (arith, feeds_feed b t y, h))
  | inr z ↦ (z, sym (feeds_text b t z) ∙ h)
]

-- the line in front goes on over what has no line feed
pub line_over : (line r : List ℕ) → feeds line ≡ 0 → line_len (line ++ r) ≡ length line + line_len r
line_over [] r h = omega arith
line_over (b ∷ line) r h =
    let p = no_feed b line h in
    let e = line_over line r p.1 in
    cond-true (is_text b) (1 + line_len (line ++ r)) 0 (not_from_false _ p.0) ∙ omega (arith, e)

pub line_ends : (line r : List ℕ) → feeds line ≡ 0 → line_len (line ++ 10 ∷ r) ≡ length line
line_ends line r h = line_over line (10 ∷ r) h ∙ omega arith

pub line_front : (line r : List ℕ) → feeds line ≡ 0 → front_line (line ++ 10 ∷ r) ≡ line
line_front line r h = ap (λ k. take k (line ++ 10 ∷ r)) (line_ends line r h) ∙ take_at line (10 ∷ r) (length line) refl

pub line_left : (line r : List ℕ) → feeds line ≡ 0 → drop (line_len (line ++ 10 ∷ r)) (line ++ 10 ∷ r) ≡ 10 ∷ r
line_left line r h = ap (λ k. drop k (line ++ 10 ∷ r)) (line_ends line r h) ∙ drop_at line (10 ∷ r) (length line) refl

pub line_behind : (line r : List ℕ) → feeds line ≡ 0 → behind_line (line ++ 10 ∷ r) ≡ r
line_behind line r h =
    let size = length-append line (10 ∷ []) in
    ap (λ k. drop (k + 1) (line ++ 10 ∷ r)) (line_ends line r h) ∙ ap (λ (x : List ℕ). drop (length line + 1) x) (sym (append_assoc line (10 ∷ []) r))
    ∙ drop_at (line ++ 10 ∷ []) r (length line + 1) (omega (arith, size))

-- a text of one line
pub line_whole : (t : List ℕ) → feeds t ≡ 0 → line_len t ≡ length t
line_whole t h = ap line_len (sym (append-nil t)) ∙ line_over t [] h ∙ omega arith

pub line_all : (t : List ℕ) → feeds t ≡ 0 → front_line t ≡ t
line_all t h = let e = line_whole t h in take_all (line_len t) t (omega (arith, e))

pub line_rest : (t : List ℕ) → feeds t ≡ 0 → drop (line_len t) t ≡ []
line_rest t h = let e = line_whole t h in drop_all (line_len t) t (omega (arith, e))

pub line_none : (t : List ℕ) → feeds t ≡ 0 → behind_line t ≡ []
line_none t h = let e = line_whole t h in drop_all (line_len t + 1) t (omega (arith, e))

-- the first n + 1 lines are the first one, and n behind it
pub lines_by_line : (n : ℕ) (t : List ℕ) → first_lines (suc n) t ≡ take (line_len t + 1) t ++ first_lines n (behind_line t)
unfolding first_lines
lines_by_line n [] = refl
lines_by_line n (b ∷ t) = elim (cases_Bool (b == 10)) [
  | inl y ↦
      let here : line_len (b ∷ t) ≡ 0 = cond-false (is_text b) (1 + line_len t) 0 (not_from_true _ y) in
      ap (λ k. b ∷ first_lines k t) (cond-true (b == 10) n (suc n) y) ∙ sym (ap (λ k. take (k + 1) (b ∷ t) ++ first_lines n (drop (k + 1) (b ∷ t))) here)
  | inr z ↦
      let on : line_len (b ∷ t) ≡ 1 + line_len t = cond-true (is_text b) (1 + line_len t) 0 (not_from_false _ z) in
      let next : line_len (b ∷ t) + 1 ≡ suc (line_len t + 1) = omega (arith, on) in
      ap (λ k. b ∷ first_lines k t) (cond-false (b == 10) n (suc n) z) ∙ ap (λ (x : List ℕ). b ∷ x) (lines_by_line n t)
      ∙ sym (ap (λ k. take k (b ∷ t) ++ first_lines n (drop k (b ∷ t))) next)
]

-- a line feed in front
feed_shared : (n : ℕ) (x y : List ℕ) → Agree (suc n) (10 ∷ x) y → (r : List ℕ) × (y ≡ 10 ∷ r) × Agree n x r
unfolding first_lines
feed_shared n x [] h = absurd cc
feed_shared n x (d ∷ y) h =
    let first : 10 ≡ d = cc in
    let others : first_lines n x ≡ first_lines (cond (d == 10) n (suc n)) y = cc in
    (y, ap (λ c. c ∷ y) (sym first), others ∙ ap (λ k. first_lines k y) (cond-true (d == 10) n (suc n) (ap (λ c. c == 10) (sym first))))

-- two texts that agree are the same, or have the same first line and its line feed in front
pub record SameLine (n : ℕ) (a b : List ℕ) : Type 0 where
  pub line : List ℕ
  pub within : feeds line ≡ 0
  pub behind : List ℕ
  pub other : List ℕ
  pub a_is : a ≡ line ++ 10 ∷ behind
  pub b_is : b ≡ line ++ 10 ∷ other
  pub agree : Agree n behind other

pub same_line : (n : ℕ) (a b line r : List ℕ) → feeds line ≡ 0 → a ≡ line ++ 10 ∷ r → Agree (suc n) a b → SameLine n a b
same_line n a b line r none e h =
    let s : Shared (suc n - feeds line) line (10 ∷ r) b = shared_front (suc n) line (10 ∷ r) b (omega (arith, none)) (subst (λ (x : List ℕ). Agree (suc n) x b) e h) in
    let all : suc n - feeds line ≡ suc n = omega (arith, none) in
    let f = feed_shared n r s.rest (subst (λ k. Agree k (10 ∷ r) s.rest) all s.agree) in
    record { line = line; within = none; behind = r; other = f.0; a_is = e; b_is = s.b_is ∙ ap (λ (x : List ℕ). line ++ x) f.1; agree = f.2 }

pub line_shared : (n : ℕ) (a b : List ℕ) → Agree (suc n) a b → (a ≡ b) ⊎ SameLine n a b
line_shared n a b h = elim (split_first a) [
  | inl e ↦ inl (agree_all (suc n) a b (omega (arith, e)) h)
  | inr f ↦ inr (same_line n a b f.line f.rest f.within f.whole h)
]

-- the first line, and what is behind it
pub record LineTold (n : ℕ) (a b : List ℕ) : Type 0 where
  pub len : line_len b ≡ line_len a
  pub line : front_line b ≡ front_line a
  pub left : Agree (suc n) (drop (line_len a) a) (drop (line_len b) b)
  pub behind : Agree n (behind_line a) (behind_line b)
  pub some : 0 < length a → 0 < length b

pub feed_front : (n : ℕ) (x y : List ℕ) → Agree n x y → Agree (suc n) (10 ∷ x) (10 ∷ y)
unfolding first_lines
feed_front n x y h = ap (λ (r : List ℕ). 10 ∷ r) h

pub agree_equal : (n : ℕ) (a b c d : List ℕ) → a ≡ c → b ≡ d → Agree n c d → Agree n a b
agree_equal n a b c d e k h = ap (first_lines n) e ∙ h ∙ sym (ap (first_lines n) k)

pub line_told : (n : ℕ) (a b : List ℕ) → Agree (suc n) a b → LineTold n a b
line_told n a b h = elim (line_shared n a b h) [
  | inl e ↦ subst (λ (x : List ℕ). LineTold n a x) e (record { len = refl; line = refl; left = refl; behind = refl; some = λ lt. lt })
  | inr s ↦
      let la : line_len a ≡ length s.line = ap line_len s.a_is ∙ line_ends s.line s.behind s.within in
      let lb : line_len b ≡ length s.line = ap line_len s.b_is ∙ line_ends s.line s.other s.within in
      record {
        len = lb ∙ sym la;
        line = ap front_line s.b_is ∙ line_front s.line s.other s.within ∙ sym (ap front_line s.a_is ∙ line_front s.line s.behind s.within);
        left =
            agree_equal (suc n) (drop (line_len a) a) (drop (line_len b) b) (10 ∷ s.behind) (10 ∷ s.other)
            (ap (λ (x : List ℕ). drop (line_len x) x) s.a_is ∙ line_left s.line s.behind s.within)
            (ap (λ (x : List ℕ). drop (line_len x) x) s.b_is ∙ line_left s.line s.other s.within)
            (feed_front n s.behind s.other s.agree);
        behind =
            agree_equal n (behind_line a) (behind_line b) s.behind s.other (ap behind_line s.a_is ∙ line_behind s.line s.behind s.within) (ap behind_line s.b_is ∙ line_behind s.line s.other s.within) s.agree;
        some = λ lt. (let size = ap length s.b_is ∙ length-append s.line (10 ∷ s.other) in omega (arith, size));
      }
]

-- whether a text begins with another that has no line feed
starts_over : (s line r : List ℕ) → feeds s ≡ 0 → starts_with eqb (line ++ 10 ∷ r) s ≡ starts_with eqb line s
starts_over [] line r none = refl
starts_over (c ∷ s) [] r none = and_left (c == 10) (starts_with eqb r s) (no_feed c s none).0
starts_over (c ∷ s) (b ∷ line) r none = ap (λ y. eqb c b && y) (starts_over s line r (no_feed c s none).1)

pub starts_shared : (n : ℕ) (a b s : List ℕ) → feeds s ≡ 0 → Agree (suc n) a b → starts_with eqb a s ≡ starts_with eqb b s
starts_shared n a b s none h = elim (line_shared n a b h) [
  | inl e ↦ ap (λ (x : List ℕ). starts_with eqb x s) e
  | inr l ↦
      ap (λ (x : List ℕ). starts_with eqb x s) l.a_is ∙ starts_over s l.line l.behind none ∙ sym (starts_over s l.line l.other none) ∙ sym (ap (λ (x : List ℕ). starts_with eqb x s) l.b_is)
]
