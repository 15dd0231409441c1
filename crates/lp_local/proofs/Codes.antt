-- User code and uses are cut alike in each text that agrees up to the line on which they end.
use Rattle.std.proofs.Common.{◌≡◌, ℕ, ◌+◌, ◌-◌, ◌==◌, ◌||◌, ◌<◌, suc, true, false, inl, inr, List, [], ◌∷◌, ◌++◌, length, drop, codes, refl, sym, ap, ◌∙◌, subst, arith, eqb, append_assoc, length-append}
use Rattle.std.specs.List.{starts_with}
use Rattle.std.specs.Str.{IsUtf8, chars}
use Rattle.std.proofs.lemmas.Bool.{ne_eqb}
use Rattle.std.proofs.lemmas.Str.{chars-append}
use Rattle.lp_tok.specs.declared.tok.ErrorCode.TheVariants.{ExpectedStringLiteral}
use Rattle.lp_tok.specs.Cut.{StopsAt, BreaksAt}
use Rattle.lp_spelling.specs.Counting.{feeds, settled}
use Rattle.lp_spelling.proofs.Reading.{starts_ok}
use Rattle.lp_local.specs.Agreeing.{Agree, lines_before}
use Rattle.lp_local.specs.Beginning.{BeginsAs, is_line_end}
use Rattle.lp_local.proofs.Agreeing.{feeds-append, before_rest, Shared, shared_front, line_shared, starts_shared}
use Rattle.lp_local.proofs.Settling.{Left, settled_left, behind_byte, from_byte, before_byte, SettledShared, settled_shared}
use Rattle.lp_local.proofs.Scanning.{begins_itself, begins_behind}
use Rattle.lp_local.proofs.Cutting.{stops_told, breaks_told}

-- the characters of a line, its line feed, and those behind it
chars_feed : (r : List ℕ) → chars (10 ∷ r) ≡ 10 ∷ chars r
unfolding chars
chars_feed [] = refl
chars_feed (b ∷ r) = refl

chars_line : (line r : List ℕ) → IsUtf8 line → chars (line ++ 10 ∷ r) ≡ chars line ++ 10 ∷ chars r
chars_line line r u = chars-append line (10 ∷ r) u ∙ ap (λ (x : List ℕ). chars line ++ x) (chars_feed r)

-- texts that agree begin with the same character
pub begins_shared : (n : ℕ) (a b : List ℕ) → IsUtf8 a → Agree (suc n) a b → BeginsAs (chars a) (chars b)
begins_shared n a b u h = elim (line_shared n a b h) [
  | inl e ↦ subst (λ (x : List ℕ). BeginsAs (chars a) (chars x)) e (begins_itself (chars a))
  | inr s ↦
      let v : IsUtf8 s.line = before_byte s.line 10 s.behind (omega arith) (subst (λ (x : List ℕ). IsUtf8 x) s.a_is u) in
      let ca : chars a ≡ chars s.line ++ 10 ∷ chars s.behind = ap chars s.a_is ∙ chars_line s.line s.behind v in
      let cb : chars b ≡ chars s.line ++ 10 ∷ chars s.other = ap chars s.b_is ∙ chars_line s.line s.other v in
      subst (λ (x : List ℕ). BeginsAs x (chars b)) (sym ca)
      (subst (λ (x : List ℕ). BeginsAs (chars s.line ++ 10 ∷ chars s.behind) x) (sym cb) (begins_behind (chars s.line) (10 ∷ chars s.behind) (10 ∷ chars s.other) refl))
]

-- a cut in both texts
pub record CutShared (n : ℕ) (whole rest b : List ℕ) : Type 0 where
  pub other : List ℕ
  pub b_is : b ≡ whole ++ other
  pub stops : StopsAt (chars b) (chars other)
  pub agree : Agree (n - feeds whole) rest other

pub cut_shared : (n : ℕ) (whole rest b : List ℕ) → IsUtf8 whole → IsUtf8 rest → feeds whole < n → StopsAt (chars (whole ++ rest)) (chars rest) → Agree n (whole ++ rest) b → CutShared n whole rest b
cut_shared n whole rest b u v lt stops h =
    let s : Shared (n - feeds whole) whole rest b = shared_front n whole rest b lt h in
    let k : ℕ = n - feeds whole - 1 in
    let next : n - feeds whole ≡ suc k = omega arith in
    let begun : BeginsAs (chars rest) (chars s.rest) = begins_shared k rest s.rest v (subst (λ i. Agree i rest s.rest) next s.agree) in
    let cut : StopsAt (chars whole ++ chars rest) (chars rest) = subst (λ (x : List ℕ). StopsAt x (chars rest)) (chars-append whole rest u) stops in
    let there : StopsAt (chars whole ++ chars s.rest) (chars s.rest) = stops_told (chars whole) (chars rest) (chars s.rest) begun cut in
    record {
      other = s.rest;
      b_is = s.b_is;
      stops = subst (λ (x : List ℕ). StopsAt x (chars s.rest)) (sym (ap chars s.b_is ∙ chars-append whole s.rest u)) there;
      agree = s.agree;
    }

-- a cut that breaks in both texts, at what no text behind it mends
pub record BreakShared (n : ℕ) (whole rest b : List ℕ) : Type 0 where
  pub other : List ℕ
  pub b_is : b ≡ whole ++ other
  pub breaks : BreaksAt (chars b) ExpectedStringLiteral (chars other)
  pub agree : Agree (n - feeds whole) rest other

pub break_shared : (n : ℕ) (whole rest b : List ℕ) → IsUtf8 whole → IsUtf8 rest → feeds whole < n → BreaksAt (chars (whole ++ rest)) ExpectedStringLiteral (chars rest) → Agree n (whole ++ rest) b → BreakShared n whole rest b
break_shared n whole rest b u v lt breaks h =
    let s : Shared (n - feeds whole) whole rest b = shared_front n whole rest b lt h in
    let k : ℕ = n - feeds whole - 1 in
    let next : n - feeds whole ≡ suc k = omega arith in
    let begun : BeginsAs (chars rest) (chars s.rest) = begins_shared k rest s.rest v (subst (λ i. Agree i rest s.rest) next s.agree) in
    let cut : BreaksAt (chars whole ++ chars rest) ExpectedStringLiteral (chars rest) = subst (λ (x : List ℕ). BreaksAt x ExpectedStringLiteral (chars rest)) (chars-append whole rest u) breaks in
    let there : BreaksAt (chars whole ++ chars s.rest) ExpectedStringLiteral (chars s.rest) = breaks_told (chars whole) (chars rest) (chars s.rest) begun cut in
    record {
      other = s.rest;
      b_is = s.b_is;
      breaks = subst (λ (x : List ℕ). BreaksAt x ExpectedStringLiteral (chars s.rest)) (sym (ap chars s.b_is ∙ chars-append whole s.rest u)) there;
      agree = s.agree;
    }

-- user code up to its `}`
pub record CodeShared (n : ℕ) (left whole rest b : List ℕ) : Type 0 where
  pub utf8 : IsUtf8 rest
  pub other : List ℕ
  pub b_is : b ≡ whole ++ other
  pub stops : StopsAt (chars b) (chars other)
  pub closes : starts_with eqb other (codes "}") ≡ true
  pub agree : Agree (n - lines_before left rest) rest other

pub code_shared : (n : ℕ) (left whole rest b : List ℕ) → IsUtf8 left → left ≡ whole ++ rest → StopsAt (chars left) (chars rest) → starts_with eqb rest (codes "}") ≡ true → lines_before left rest < n → Agree n left b →
    CodeShared n left whole rest b
code_shared n left whole rest b u e stops closes lt h =
    let brace : rest ≡ 125 ∷ drop 1 rest = starts_ok (codes "}") rest closes in
    let v : IsUtf8 (whole ++ 125 ∷ drop 1 rest) = subst (λ (x : List ℕ). IsUtf8 x) (e ∙ ap (λ (x : List ℕ). whole ++ x) brace) u in
    let w : IsUtf8 rest = subst (λ (x : List ℕ). IsUtf8 x) (sym brace) (from_byte whole 125 (drop 1 rest) (omega arith) v) in
    let before : lines_before left rest ≡ feeds whole = before_rest whole rest left e in
    let s : CutShared n whole rest b =
    cut_shared n whole rest b (before_byte whole 125 (drop 1 rest) (omega arith) v) w (omega (arith, before, lt)) (subst (λ (x : List ℕ). StopsAt (chars x) (chars rest)) e stops) (subst (λ (x : List ℕ). Agree n x b) e h) in
    let next : n - feeds whole ≡ suc (n - feeds whole - 1) = omega (arith, before, lt) in
    let same : starts_with eqb rest (codes "}") ≡ starts_with eqb s.other (codes "}") = starts_shared (n - feeds whole - 1) rest s.other (codes "}") refl (subst (λ i. Agree i rest s.other) next s.agree) in
    record {
      utf8 = w;
      other = s.other;
      b_is = s.b_is;
      stops = s.stops;
      closes = sym same ∙ closes;
      agree = subst (λ i. Agree (n - i) rest s.other) (sym before) s.agree;
    }

-- where a line ends in both texts
line_end_first : (c : ℕ) (x y : List ℕ) → is_line_end (c ∷ x) ≡ is_line_end (c ∷ y)
line_end_first c x y =
    let a : (length (c ∷ x) == 0) ≡ false = ne_eqb (length (c ∷ x)) 0 (λ e. omega (arith, e)) in
    let b : (length (c ∷ y) == 0) ≡ false = ne_eqb (length (c ∷ y)) 0 (λ e. omega (arith, e)) in
    ap (λ z. z || starts_with eqb (c ∷ x) (codes "\n")) a ∙ sym (ap (λ z. z || starts_with eqb (c ∷ y) (codes "\n")) b)

line_end_same : (line x y : List ℕ) → is_line_end (line ++ 10 ∷ x) ≡ is_line_end (line ++ 10 ∷ y)
line_end_same [] x y = line_end_first 10 x y
line_end_same (c ∷ line) x y = line_end_first c (line ++ 10 ∷ x) (line ++ 10 ∷ y)

pub line_end_shared : (n : ℕ) (a b : List ℕ) → Agree (suc n) a b → is_line_end a ≡ is_line_end b
line_end_shared n a b h = elim (line_shared n a b h) [
  | inl e ↦ ap is_line_end e
  | inr s ↦ ap is_line_end s.a_is ∙ line_end_same s.line s.behind s.other ∙ sym (ap is_line_end s.b_is)
]

-- a use on the next line that counts, up to the end of the line behind its `;`
pub record UseShared (n : ℕ) (left used rest b : List ℕ) : Type 0 where
  pub utf8 : IsUtf8 rest
  pub other : List ℕ
  pub front : settled b ≡ codes "use " ++ (used ++ (codes ";" ++ other))
  pub stops : StopsAt (chars (used ++ (codes ";" ++ other))) (chars (codes ";" ++ other))
  pub ends : is_line_end other ≡ true
  pub agree : Agree (n - lines_before left rest) rest other

-- a cut in front of `;`
closed_chars : (r : List ℕ) → chars (codes ";" ++ r) ≡ 59 ∷ chars r
unfolding chars
closed_chars [] = refl
closed_chars (b ∷ r) = refl

closed_told : (used rest other : List ℕ) → IsUtf8 used → StopsAt (chars (used ++ (codes ";" ++ rest))) (chars (codes ";" ++ rest)) → StopsAt (chars (used ++ (codes ";" ++ other))) (chars (codes ";" ++ other))
closed_told used rest other u stops =
    let begun : BeginsAs (chars (codes ";" ++ rest)) (chars (codes ";" ++ other))
    = subst (λ (x : List ℕ). BeginsAs x (chars (codes ";" ++ other))) (sym (closed_chars rest)) (subst (λ (x : List ℕ). BeginsAs (59 ∷ chars rest) x) (sym (closed_chars other)) refl) in
    subst (λ (x : List ℕ). StopsAt x (chars (codes ";" ++ other))) (sym (chars-append used (codes ";" ++ other) u))
    (stops_told (chars used) (chars (codes ";" ++ rest)) (chars (codes ";" ++ other)) begun (subst (λ (x : List ℕ). StopsAt x (chars (codes ";" ++ rest))) (chars-append used (codes ";" ++ rest) u) stops))

use_whole : (used rest : List ℕ) → codes "use " ++ (used ++ (codes ";" ++ rest)) ≡ (codes "use " ++ (used ++ codes ";")) ++ rest
use_whole used rest = ap (λ (x : List ℕ). codes "use " ++ x) (sym (append_assoc used (codes ";") rest))

pub use_shared : (n : ℕ) (left used rest b : List ℕ) → IsUtf8 left → settled left ≡ codes "use " ++ (used ++ (codes ";" ++ rest)) → StopsAt (chars (used ++ (codes ";" ++ rest))) (chars (codes ";" ++ rest)) →
    is_line_end rest ≡ true → lines_before left rest < n → Agree n left b → UseShared n left used rest b
use_shared n left used rest b u front stops ends lt h =
    let x : List ℕ = codes "use " ++ (used ++ codes ";") in
    let l : Left left (settled left) = settled_left left u in
    let whole : settled left ≡ x ++ rest = front ∙ use_whole used rest in
    let one : feeds left ≡ feeds l.front + feeds (settled left) = ap feeds l.whole ∙ feeds-append l.front (settled left) in
    let two : feeds (settled left) ≡ feeds x + feeds rest = ap feeds whole ∙ feeds-append x rest in
    let size : length (settled left) ≡ length x + length rest = ap length whole ∙ length-append x rest in
    let some : length x ≡ length (codes "use ") + length (used ++ codes ";") = length-append (codes "use ") (used ++ codes ";") in
    let four : length (codes "use ") ≡ 4 = refl in
    let s : SettledShared n left b = settled_shared n left b u (omega (arith, size, some, four)) (omega (arith, one, two, lt)) h in
    let k : ℕ = n - lines_before left (settled left) in
    let f : Shared (k - feeds x) x rest (settled b) = shared_front k x rest (settled b) (omega (arith, one, two, lt)) (subst (λ (y : List ℕ). Agree k y (settled b)) whole s.agree) in
    let left_lines : k - feeds x ≡ n - lines_before left rest = omega (arith, one, two, lt) in
    let agree : Agree (n - lines_before left rest) rest f.rest = subst (λ i. Agree i rest f.rest) left_lines f.agree in
    let next : n - lines_before left rest ≡ suc (n - lines_before left rest - 1) = omega (arith, lt) in
    let same : is_line_end rest ≡ is_line_end f.rest = line_end_shared (n - lines_before left rest - 1) rest f.rest (subst (λ i. Agree i rest f.rest) next agree) in
    let v : IsUtf8 ((codes "use " ++ used) ++ 59 ∷ rest) = subst (λ (y : List ℕ). IsUtf8 y) (front ∙ sym (append_assoc (codes "use ") used (codes ";" ++ rest))) s.utf8 in
    let w : IsUtf8 used = behind_byte (codes "use") 32 used (omega arith) (before_byte (codes "use " ++ used) 59 rest (omega arith) v) in
    record {
      utf8 = behind_byte (codes "use " ++ used) 59 rest (omega arith) v;
      other = f.rest;
      front = f.b_is ∙ sym (use_whole used f.rest);
      stops = closed_told used rest f.rest w stops;
      ends = sym same ∙ ends;
      agree = agree;
    }
