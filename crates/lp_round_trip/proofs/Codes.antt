-- User code that is told in every text.
use Rattle.std.proofs.Common.{◌≡◌, ℕ, ◌+◌, ◌-◌, ◌==◌, ◌<◌, ◌≤◌, zero, suc, Bool, true, false, not, ◌||◌, List, [], ◌∷◌, ◌++◌, ◌⊎◌, length, take, drop, get_or, codes, inl, inr, refl, sym, ◌∙◌, ap, subst, arith, eqb, append_assoc, append-nil, length-append, length-drop}
use Rattle.std.specs.Char.{is_whitespace, encode_utf8}
use Rattle.std.specs.Cmp.Lexicographic.{pointwise}
use Rattle.std.specs.List.{list_all, starts_with, ends_with}
use Rattle.std.specs.Str.{IsUtf8, chars, trim_start, skip_leading_whitespace, encode_utf8_all}
use Rattle.std.proofs.lemmas.Bool.{and_from, and_left, and_parts, and_right, both_ways, cases_Bool, false_from_ne_true, ne_eqb, eqb-false, eqb-true, cond-true, cond-false, not_from_false, or_cases, or_from}
use Rattle.std.proofs.lemmas.List.{take-append-drop, nil_from_length, drop_all, drop_at, get_or_at, take_all, take_at}
use Rattle.std.proofs.lemmas.Str.{chars-append, encode_ascii, encodes-append, encodes-chars, cons_from_encodes, length-le-encodes, IsUtf8-drop, IsUtf8-nil, IsUtf8-take, IsCharBoundary-before_ascii, IsCharBoundary-after_ascii}
use Rattle.lp_texts.specs.OneLine.{begins}
use Rattle.lp_tok.specs.Cut.{Splits}
use Rattle.lp_tok.specs.Signs.{slash}
use Rattle.lp_spelling.specs.Counting.{is_text, line_len, front_line, is_skipped, settled}
use Rattle.lp_spelling.specs.HoleEnds.{is_word}
use Rattle.lp_spelling.proofs.Counting.{settled_counts, settled_skips}
use Rattle.lp_spelling.proofs.Reading.{starts_ok}
use Rattle.lp_program.specs.CodeReading.{IsCode}
use Rattle.lp_reading_laws.specs.Printing.LineTexts.{is_on_line}
use Rattle.lp_reading_laws.proofs.Printing.Lining.{line_front, line_left, line_behind}
use Rattle.lp_reading_laws.specs.Holes.Found.{are_words}
use Rattle.lp_reading_laws.specs.Holes.Inlined.{begins_inlined}
use Rattle.lp_fitting.specs.Bodies.{IsOtherCode}
use Rattle.lp_reading_laws.proofs.Choosing.Inlined.{others_are_no_inlined}
use Rattle.lp_round_trip.specs.Codes.{CodesAreTold}
use Rattle.lp_round_trip.proofs.Comments.{Reaches, past_spaces, past_comment, no_comment_end, on_line_right}

-- the first line of a text that counts begins as none of inlined actions
abbrev pub Other : List ℕ → List ℕ → Type 0
Other prefix text = begins_inlined prefix (front_line (settled text)) ≡ false

-- a line goes on over a front without line feeds
pub line_over : (a b : List ℕ) → is_on_line a ≡ true → front_line (a ++ b) ≡ a ++ front_line b
line_over [] b h = refl
line_over (x ∷ a) b h =
    let p = and_parts (is_text x) (is_on_line a) h in
    let k : line_len ((x ∷ a) ++ b) ≡ suc (line_len (a ++ b)) = cond-true (is_text x) (1 + line_len (a ++ b)) 0 p.0 ∙ omega arith in
    ap (λ n. take n ((x ∷ a) ++ b)) k ∙ ap (λ (t : List ℕ). x ∷ t) (line_over a b p.1)

-- one line, or one and others behind it
record FirstLine (text : List ℕ) : Type 0 where
  line : List ℕ
  others : List ℕ
  whole : text ≡ line ++ 10 ∷ others
  on_line : is_on_line line ≡ true

lines_in : (text : List ℕ) → (is_on_line text ≡ true) ⊎ FirstLine text
lines_in [] = inl refl
lines_in (x ∷ text) = elim (cases_Bool (x == 10)) [
  | inl y ↦ inr (record { line = []; others = text; whole = ap (λ (n : ℕ). n ∷ text) (eqb-true x 10 y); on_line = refl })
  | inr n ↦ elim (lines_in text) [
    | inl h ↦ inl (and_from (is_text x) (is_on_line text) (not_from_false (x == 10) n) h)
    | inr f ↦ inr (record {
      line = x ∷ f.line;
      others = f.others;
      whole = ap (λ (t : List ℕ). x ∷ t) f.whole;
      on_line = and_from (is_text x) (is_on_line f.line) (not_from_false (x == 10) n) f.on_line;
    })
  ]
]

-- the characters of a text: white space, and what is left without it
record Trimmed (text : List ℕ) : Type 0 where
  spaces : List ℕ
  shown : List ℕ
  whole : chars text ≡ spaces ++ shown
  blank : list_all is_whitespace spaces ≡ true
  begun : begins is_whitespace shown ≡ false
  trim : trim_start text ≡ encode_utf8_all shown

record Skipped (cs : List ℕ) : Type 0 where
  front : List ℕ
  whole : cs ≡ front ++ skip_leading_whitespace cs
  blank : list_all is_whitespace front ≡ true
  begun : begins is_whitespace (skip_leading_whitespace cs) ≡ false

skipped : (cs : List ℕ) → Skipped cs
skipped [] = record { front = []; whole = refl; blank = refl; begun = refl }
skipped (c ∷ cs) = elim (cases_Bool (is_whitespace c)) [
  | inl y ↦
      let s = skipped cs in
      let same : skip_leading_whitespace (c ∷ cs) ≡ skip_leading_whitespace cs = cond-true (is_whitespace c) _ _ y in
      record {
        front = c ∷ s.front;
        whole = ap (λ (t : List ℕ). c ∷ t) s.whole ∙ ap (λ (t : List ℕ). c ∷ (s.front ++ t)) (sym same);
        blank = and_from (is_whitespace c) (list_all is_whitespace s.front) y s.blank;
        begun = ap (begins is_whitespace) same ∙ s.begun;
      }
  | inr n ↦
      let same : skip_leading_whitespace (c ∷ cs) ≡ c ∷ cs = cond-false (is_whitespace c) _ _ n in
      record { front = []; whole = sym same; blank = refl; begun = ap (begins is_whitespace) same ∙ n }
]

trimmed : (text : List ℕ) → Trimmed text
unfolding trim_start
trimmed text =
    let s = skipped (chars text) in
    record { spaces = s.front; shown = skip_leading_whitespace (chars text); whole = s.whole; blank = s.blank; begun = s.begun; trim = refl }

skip_spaces : (ws cs : List ℕ) → list_all is_whitespace ws ≡ true → skip_leading_whitespace (ws ++ cs) ≡ skip_leading_whitespace cs
skip_spaces [] cs h = refl
skip_spaces (w ∷ ws) cs h =
    let p = and_parts (is_whitespace w) (list_all is_whitespace ws) h in
    cond-true (is_whitespace w) _ _ p.0 ∙ skip_spaces ws cs p.1

skip_none : (cs : List ℕ) → begins is_whitespace cs ≡ false → skip_leading_whitespace cs ≡ cs
skip_none [] h = refl
skip_none (c ∷ cs) h = cond-false (is_whitespace c) _ _ h

-- it stays on its line
trim_on_line : (text : List ℕ) → IsUtf8 text → is_on_line text ≡ true → is_on_line (trim_start text) ≡ true
trim_on_line text u h =
    let t = trimmed text in
    let parts : encode_utf8_all t.spaces ++ encode_utf8_all t.shown ≡ text = sym (encodes-append t.spaces t.shown) ∙ ap encode_utf8_all (sym t.whole) ∙ encodes-chars text u in
    ap is_on_line t.trim ∙ on_line_right (encode_utf8_all t.spaces) (encode_utf8_all t.shown) (ap is_on_line parts ∙ h)

-- a line in front of others: it is passed over, or stands there
feed_some : (a x : List ℕ) → 0 < length (a ++ 10 ∷ x)
feed_some a x = let size = length-append a (10 ∷ x) in omega (arith, size)

passed_over : (a x : List ℕ) → is_on_line a ≡ true → is_skipped (trim_start a) ≡ true → settled (a ++ 10 ∷ x) ≡ settled x
passed_over a x on skips =
    settled_skips (a ++ 10 ∷ x) (feed_some a x) (ap (λ (t : List ℕ). is_skipped (trim_start t)) (line_front a x on) ∙ skips) ∙ ap settled (line_behind a x on)

stands_there : (a x : List ℕ) → IsUtf8 a → is_on_line a ≡ true → is_skipped (trim_start a) ≡ false → front_line (settled (a ++ 10 ∷ x)) ≡ trim_start a
stands_there a x u on counts =
    ap front_line
    (settled_counts (a ++ 10 ∷ x) (feed_some a x) (ap (λ (t : List ℕ). is_skipped (trim_start t)) (line_front a x on) ∙ counts)
    ∙ ap (λ (t : List ℕ). t ++ drop (line_len (a ++ 10 ∷ x)) (a ++ 10 ∷ x)) (ap trim_start (line_front a x on))
    ∙ ap (λ (t : List ℕ). trim_start a ++ t) (line_left a x on))
    ∙ line_front (trim_start a) x (trim_on_line a u on)

-- a line alone
line_whole : (a : List ℕ) → is_on_line a ≡ true → line_len a ≡ length a
line_whole [] h = refl
line_whole (x ∷ a) h =
    let p = and_parts (is_text x) (is_on_line a) h in
    let e = line_whole a p.1 in
    cond-true (is_text x) (1 + line_len a) 0 p.0 ∙ omega (arith, e)

front_whole : (a : List ℕ) → is_on_line a ≡ true → front_line a ≡ a
front_whole a h = take_all (line_len a) a (omega (arith, line_whole a h))

pub trim_nothing : trim_start [] ≡ []
unfolding trim_start chars
trim_nothing = refl

stands_alone : (a : List ℕ) → IsUtf8 a → is_on_line a ≡ true → is_skipped (trim_start a) ≡ false → front_line (settled a) ≡ trim_start a
stands_alone [] u on counts = absurd (both_ways (is_skipped (trim_start [])) counts (ap is_skipped trim_nothing))
stands_alone (x ∷ a) u on counts =
    let whole = front_whole (x ∷ a) on in
    let none : drop (line_len (x ∷ a)) (x ∷ a) ≡ [] = drop_all (line_len (x ∷ a)) (x ∷ a) (omega (arith, line_whole (x ∷ a) on)) in
    ap front_line
    (settled_counts (x ∷ a) (omega arith) (ap (λ (t : List ℕ). is_skipped (trim_start t)) whole ∙ counts)
    ∙ ap (λ (t : List ℕ). t ++ drop (line_len (x ∷ a)) (x ∷ a)) (ap trim_start whole)
    ∙ ap (λ (t : List ℕ). trim_start (x ∷ a) ++ t) none ∙ append-nil (trim_start (x ∷ a)))
    ∙ front_whole (trim_start (x ∷ a)) (trim_on_line (x ∷ a) u on)

-- nothing, or the characters of a comment
abbrev IsComment : List ℕ → Type 0
IsComment cs = (cs ≡ []) ⊎ ((ds : List ℕ) × (cs ≡ slash ∷ slash ∷ ds))

slash_first : (cs rest : List ℕ) → encode_utf8_all cs ≡ 47 ∷ rest → (ds : List ℕ) × (cs ≡ 47 ∷ ds) × (encode_utf8_all ds ≡ rest)
slash_first cs rest e = cons_from_encodes cs rest 47 (e ∙ ap (λ (t : List ℕ). t ++ rest) (sym (encode_ascii 47 (omega arith))))

slash_bytes : (ds : List ℕ) → encode_utf8_all (47 ∷ 47 ∷ ds) ≡ 47 ∷ 47 ∷ encode_utf8_all ds
slash_bytes ds = ap (λ (x : List ℕ). x ++ (encode_utf8 47 ++ encode_utf8_all ds)) (encode_ascii 47 (omega arith)) ∙ ap (λ (x : List ℕ). 47 ∷ (x ++ encode_utf8_all ds)) (encode_ascii 47 (omega arith))

comment_chars : (cs : List ℕ) → is_skipped (encode_utf8_all cs) ≡ true → IsComment cs
comment_chars cs h =
    let t : List ℕ = encode_utf8_all cs in
    let size = length-le-encodes cs in
    elim (or_cases (length t == 0) (starts_with eqb t (codes "//")) h) [
      | inl y ↦ inl (nil_from_length cs (omega (arith, size, eqb-true (length t) 0 y)))
      | inr y ↦
          let first = slash_first cs (47 ∷ drop 2 t) (starts_ok (codes "//") t y) in
          let second = slash_first first.0 (drop 2 t) first.2 in
          inr (second.0, first.1 ∙ ap (λ (x : List ℕ). 47 ∷ x) second.1)
    ]

-- a closing bracket begins none of the lines of inlined actions, and goes on no front of one
abbrev is_open : List ℕ → Bool
is_open text = list_all (λ b. not (b == 125)) text

open_both : (a b : List ℕ) → is_open a ≡ true → is_open b ≡ true → is_open (a ++ b) ≡ true
open_both [] b h k = k
open_both (x ∷ a) b h k =
    let p = and_parts (not (x == 125)) (is_open a) h in
    and_from (not (x == 125)) (is_open (a ++ b)) p.0 (open_both a b p.1 k)

open_words : (prefix : List ℕ) → are_words prefix ≡ true → is_open prefix ≡ true
open_words [] h = refl
open_words (c ∷ prefix) h =
    let p = and_parts (is_word c) (are_words prefix) h in
    and_from (not (c == 125)) (is_open prefix) (not_from_false (c == 125) (ne_eqb c 125 (λ e. both_ways (is_word 125) refl (ap is_word (sym e) ∙ p.0)))) (open_words prefix p.1)

front_only : (x t q : List ℕ) → is_open x ≡ true → starts_with eqb t x ≡ false → starts_with eqb (t ++ 125 ∷ q) x ≡ false
front_only [] t q h f = absurd (both_ways (starts_with eqb t []) f refl)
front_only (c ∷ x) [] q h f =
    let p = and_parts (not (c == 125)) (is_open x) h in
    and_left (eqb c 125) _ (Rattle.std.proofs.lemmas.Bool.not-true (c == 125) p.0)
front_only (c ∷ x) (b ∷ t) q h f = elim (cases_Bool (eqb c b)) [
  | inl y ↦
      let p = and_parts (not (c == 125)) (is_open x) h in
      let later : starts_with eqb t x ≡ false = false_from_ne_true (starts_with eqb t x) (λ g. both_ways (starts_with eqb (b ∷ t) (c ∷ x)) f (and_from (eqb c b) (starts_with eqb t x) y g)) in
      and_right (eqb c b) _ (front_only x t q p.1 later)
  | inr n ↦ and_left (eqb c b) _ n
]

or_both : (a b : Bool) → (a || b) ≡ false → (a ≡ false) × (b ≡ false)
or_both true b h = absurd (both_ways true h refl)
or_both false b h = (refl, h)

none_begun : (prefix t q : List ℕ) → are_words prefix ≡ true → begins_inlined prefix t ≡ false → begins_inlined prefix (t ++ 125 ∷ q) ≡ false
none_begun prefix t q w h =
    let words = open_words prefix w in
    let action = open_both prefix (codes "action") words refl in
    let p = or_both (starts_with eqb t (codes "let " ++ prefix)) _ h in
    let r = or_both (starts_with eqb t (prefix ++ codes "action")) _ p.1 in
    or_from _ _ (front_only (codes "let " ++ prefix) t q (open_both (codes "let ") prefix refl words) p.0)
    (or_from _ _ (front_only (prefix ++ codes "action") t q action r.0) (front_only (codes "Ok(" ++ (prefix ++ codes "action")) t q (open_both (codes "Ok(") (prefix ++ codes "action") refl action) r.1))

pub nothing_begun : (prefix : List ℕ) → begins_inlined prefix [] ≡ false
nothing_begun [] = refl
nothing_begun (c ∷ prefix) = refl

-- a closing bracket behind the front of a line
brace_counts : (t w : List ℕ) → is_skipped t ≡ false → is_skipped (t ++ 125 ∷ w) ≡ false
brace_counts t w h =
    let p = or_both (length t == 0) _ h in
    let size = length-append t (125 ∷ w) in
    or_from _ _ (ne_eqb (length (t ++ 125 ∷ w)) 0 (λ e. omega (arith, e, size))) (front_only (codes "//") t w refl p.1)

brace_chars : (m : List ℕ) → chars (125 ∷ m) ≡ 125 ∷ chars m
unfolding chars
brace_chars [] = refl
brace_chars (b ∷ m) = refl

brace_bytes : (cs : List ℕ) → encode_utf8_all (125 ∷ cs) ≡ 125 ∷ encode_utf8_all cs
unfolding encode_utf8
brace_bytes cs = refl

brace_some : (a r : List ℕ) → 0 < length (a ++ 125 ∷ r)
brace_some a r = let size = length-append a (125 ∷ r) in omega (arith, size)

-- a line of which this front is left without its white space, up to a closing bracket in it
stands_before : (prefix a r t : List ℕ) → are_words prefix ≡ true → is_on_line a ≡ true → is_on_line t ≡ true → trim_start (a ++ 125 ∷ front_line r) ≡ t ++ 125 ∷ encode_utf8_all (chars (front_line r)) →
    is_skipped (t ++ 125 ∷ encode_utf8_all (chars (front_line r))) ≡ false → begins_inlined prefix t ≡ false → Other prefix (a ++ 125 ∷ r)
stands_before prefix a r t w on there trim counts none =
    let text : List ℕ = a ++ 125 ∷ r in
    let v : List ℕ = encode_utf8_all (chars (front_line r)) in
    let d : List ℕ = drop (line_len text) text in
    let line : trim_start (front_line text) ≡ t ++ 125 ∷ v = ap trim_start (line_over a (125 ∷ r) on ∙ ap (λ (x : List ℕ). a ++ x) (line_over (125 ∷ []) r refl)) ∙ trim in
    let stands : settled text ≡ t ++ 125 ∷ (v ++ d)
    = settled_counts text (brace_some a r) (ap is_skipped line ∙ counts) ∙ ap (λ (x : List ℕ). x ++ d) line ∙ append_assoc t (125 ∷ v) d in
    ap (begins_inlined prefix) (ap front_line stands ∙ line_over t (125 ∷ (v ++ d)) there ∙ ap (λ (x : List ℕ). t ++ x) (line_over (125 ∷ []) (v ++ d) refl))
    ∙ none_begun prefix t (front_line (v ++ d)) w none

-- white space alone, or a front that is left
blank_before : (prefix a r : List ℕ) → are_words prefix ≡ true → IsUtf8 a → is_on_line a ≡ true → (t : Trimmed a) → t.shown ≡ [] → Other prefix (a ++ 125 ∷ r)
unfolding trim_start
blank_before prefix a r w u on t none =
    let m : List ℕ = front_line r in
    let cs : chars (a ++ 125 ∷ m) ≡ t.spaces ++ 125 ∷ chars m
    = chars-append a (125 ∷ m) u ∙ ap (λ (x : List ℕ). x ++ chars (125 ∷ m)) (t.whole ∙ ap (λ (x : List ℕ). t.spaces ++ x) none ∙ append-nil t.spaces) ∙ ap (λ (x : List ℕ). t.spaces ++ x) (brace_chars m) in
    let trim : trim_start (a ++ 125 ∷ m) ≡ 125 ∷ encode_utf8_all (chars m)
    = ap (λ (x : List ℕ). encode_utf8_all (skip_leading_whitespace x)) cs ∙ ap encode_utf8_all (skip_spaces t.spaces (125 ∷ chars m) t.blank ∙ skip_none (125 ∷ chars m) refl) ∙ brace_bytes (chars m) in
    stands_before prefix a r [] w on refl trim (or_from _ _ (ne_eqb (length (125 ∷ encode_utf8_all (chars m))) 0 (λ e. omega (arith, e))) refl) (nothing_begun prefix)

shown_before : (prefix a r : List ℕ) → are_words prefix ≡ true → IsUtf8 a → is_on_line a ≡ true → (t : Trimmed a) → 0 < length t.shown → is_skipped (trim_start a) ≡ false → begins_inlined prefix (trim_start a) ≡ false → Other prefix (a ++ 125 ∷ r)
unfolding trim_start
shown_before prefix a r w u on t some counts none =
    let m : List ℕ = front_line r in
    let cs : chars (a ++ 125 ∷ m) ≡ t.spaces ++ (t.shown ++ 125 ∷ chars m)
    = chars-append a (125 ∷ m) u ∙ ap (λ (x : List ℕ). x ++ chars (125 ∷ m)) t.whole ∙ append_assoc t.spaces t.shown (chars (125 ∷ m)) ∙ ap (λ (x : List ℕ). t.spaces ++ (t.shown ++ x)) (brace_chars m) in
    let trim : trim_start (a ++ 125 ∷ m) ≡ trim_start a ++ 125 ∷ encode_utf8_all (chars m)
    = ap (λ (x : List ℕ). encode_utf8_all (skip_leading_whitespace x)) cs
    ∙ ap encode_utf8_all (skip_spaces t.spaces (t.shown ++ 125 ∷ chars m) t.blank ∙ skip_none (t.shown ++ 125 ∷ chars m) (begun_more t.shown (125 ∷ chars m) some ∙ t.begun))
    ∙ encodes-append t.shown (125 ∷ chars m) ∙ ap (λ (x : List ℕ). x ++ encode_utf8_all (125 ∷ chars m)) (sym t.trim) ∙ ap (λ (x : List ℕ). trim_start a ++ x) (brace_bytes (chars m)) in
    stands_before prefix a r (trim_start a) w on (trim_on_line a u on) trim (brace_counts (trim_start a) (encode_utf8_all (chars m)) counts) none
  where
    begun_more : (xs ys : List ℕ) → 0 < length xs → begins is_whitespace (xs ++ ys) ≡ begins is_whitespace xs
    begun_more [] ys h = absurd (omega arith)
    begun_more (x ∷ xs) ys h = refl

-- what follows user code: a line feed, and a text whose next line is another; or a closing bracket that its cut comes to
abbrev Tail : List ℕ → List ℕ → List ℕ → Type 0
Tail prefix code y = ((z : List ℕ) × (y ≡ 10 ∷ z) × Other prefix z) ⊎ ((r : List ℕ) × (y ≡ 125 ∷ r) × Reaches (chars (code ++ y)) (chars y))

-- code of one line
one_fed : (prefix code z : List ℕ) → IsUtf8 code → is_on_line code ≡ true → Other prefix code → Other prefix z → Other prefix (code ++ 10 ∷ z)
one_fed prefix code z u on other next = elim (cases_Bool (is_skipped (trim_start code))) [
  | inl y ↦ ap (λ (t : List ℕ). begins_inlined prefix (front_line t)) (passed_over code z on y) ∙ next
  | inr n ↦ ap (begins_inlined prefix) (stands_there code z u on n ∙ sym (stands_alone code u on n)) ∙ other
]

one_closed : (prefix code r : List ℕ) → are_words prefix ≡ true → IsUtf8 code → is_on_line code ≡ true → Other prefix code → Reaches (chars (code ++ 125 ∷ r)) (chars (125 ∷ r)) → Other prefix (code ++ 125 ∷ r)
one_closed prefix code r w u on other reaches = elim (cases_Bool (is_skipped (trim_start code))) [
  | inl y ↦ passed (trimmed code) (comment_chars (trimmed code).shown (ap is_skipped (sym (trimmed code).trim) ∙ y))
  | inr n ↦ shown_before prefix code r w u on (trimmed code) (some n) n (ap (begins_inlined prefix) (sym (stands_alone code u on n)) ∙ other)
]
  where
    some : is_skipped (trim_start code) ≡ false → 0 < length (trimmed code).shown
    some n = elim (Rattle.std.proofs.lemmas.Bool.cases_lt 0 (length (trimmed code).shown)) [
      | inl l ↦ l
      | inr z ↦
          let none : (trimmed code).shown ≡ [] = nil_from_length (trimmed code).shown (omega (arith, z)) in
          absurd (both_ways (is_skipped (trim_start code)) n (ap is_skipped ((trimmed code).trim ∙ ap encode_utf8_all none)))
    ]

    passed : (t : Trimmed code) → IsComment t.shown → Other prefix (code ++ 125 ∷ r)
    passed t (inl none) = blank_before prefix code r w u on t none
    passed t (inr c) =
        let parts : chars (code ++ 125 ∷ r) ≡ t.spaces ++ (slash ∷ slash ∷ (c.0 ++ 125 ∷ chars r))
        = chars-append code (125 ∷ r) u ∙ ap (λ (x : List ℕ). x ++ chars (125 ∷ r)) (t.whole ∙ ap (λ (x : List ℕ). t.spaces ++ x) c.1)
        ∙ append_assoc t.spaces (slash ∷ slash ∷ c.0) (chars (125 ∷ r)) ∙ ap (λ (x : List ℕ). t.spaces ++ (slash ∷ slash ∷ (c.0 ++ x))) (brace_chars r) in
        let bytes : 47 ∷ 47 ∷ encode_utf8_all c.0 ≡ trim_start code = sym (slash_bytes c.0) ∙ ap encode_utf8_all (sym c.1) ∙ sym t.trim in
        let line : is_on_line (encode_utf8_all c.0) ≡ true = on_line_right (47 ∷ 47 ∷ []) (encode_utf8_all c.0) (ap is_on_line bytes ∙ trim_on_line code u on) in
        let there : Reaches (t.spaces ++ (slash ∷ slash ∷ (c.0 ++ 125 ∷ chars r))) (125 ∷ chars r)
        = subst (λ (x : List ℕ). Reaches (t.spaces ++ (slash ∷ slash ∷ (c.0 ++ 125 ∷ chars r))) x) (brace_chars r) (subst (λ (x : List ℕ). Reaches x (chars (125 ∷ r))) parts reaches) in
        let size = length-append c.0 (125 ∷ chars r) in
        absurd (no_comment_end c.0 (chars r) 125 line refl (past_spaces t.spaces (slash ∷ slash ∷ (c.0 ++ 125 ∷ chars r)) (125 ∷ chars r) t.blank (omega (arith, size)) there))

-- the lines of a text in two parts
utf8_parts : (a b : List ℕ) → IsUtf8 (a ++ 10 ∷ b) → IsUtf8 a × IsUtf8 b
utf8_parts a b u =
    let text : List ℕ = a ++ 10 ∷ b in
    let size = length-append a (10 ∷ b) in
    let lt : length a < length text = omega (arith, size) in
    let feed : get_or text (length a) 0 ≡ 10 = get_or_at a 10 b 0 (length a) refl in
    let parts : text ≡ (a ++ 10 ∷ []) ++ b = sym (append_assoc a (10 ∷ []) b) in
    let half = length-append a (10 ∷ []) in (
      subst IsUtf8 (take_at a (10 ∷ b) (length a) refl) (IsUtf8-take text (length a) u (IsCharBoundary-before_ascii text (length a) lt (omega (arith, feed)))),
      subst IsUtf8 (ap (drop (length a + 1)) parts ∙ drop_at (a ++ 10 ∷ []) b (length a + 1) (omega (arith, half))) (IsUtf8-drop text (length a + 1) u (IsCharBoundary-after_ascii text (length a) u lt (omega (arith, feed)))),
    )

feed_chars : (x : List ℕ) → chars (10 ∷ x) ≡ 10 ∷ chars x
unfolding chars
feed_chars [] = refl
feed_chars (b ∷ x) = refl

-- the cut goes on behind a line that is passed over
reaches_over : (a x rest : List ℕ) → IsUtf8 a → is_on_line a ≡ true → is_skipped (trim_start a) ≡ true → length rest ≤ length (chars x) → Reaches (chars (a ++ 10 ∷ x)) rest → Reaches (chars x) rest
reaches_over a x rest u on skips le reaches = passed (trimmed a) (comment_chars (trimmed a).shown (ap is_skipped (sym (trimmed a).trim) ∙ skips))
  where
    parts : (t : Trimmed a) → chars (a ++ 10 ∷ x) ≡ t.spaces ++ (t.shown ++ 10 ∷ chars x)
    parts t = chars-append a (10 ∷ x) u ∙ ap (λ (cs : List ℕ). cs ++ chars (10 ∷ x)) t.whole ∙ append_assoc t.spaces t.shown (chars (10 ∷ x)) ∙ ap (λ (cs : List ℕ). t.spaces ++ (t.shown ++ cs)) (feed_chars x)

    passed : (t : Trimmed a) → IsComment t.shown → Reaches (chars x) rest
    passed t (inl none) =
        let there : Reaches (t.spaces ++ (10 ∷ chars x)) rest = subst (λ (cs : List ℕ). Reaches cs rest) (parts t ∙ ap (λ (cs : List ℕ). t.spaces ++ (cs ++ 10 ∷ chars x)) none) reaches in
        past_spaces (10 ∷ []) (chars x) rest refl le (past_spaces t.spaces (10 ∷ chars x) rest t.blank (omega (arith, le)) there)
    passed t (inr c) =
        let there : Reaches (t.spaces ++ (slash ∷ slash ∷ (c.0 ++ 10 ∷ chars x))) rest = subst (λ (cs : List ℕ). Reaches cs rest) (parts t ∙ ap (λ (cs : List ℕ). t.spaces ++ (cs ++ 10 ∷ chars x)) c.1) reaches in
        let bytes : 47 ∷ 47 ∷ encode_utf8_all c.0 ≡ trim_start a = sym (slash_bytes c.0) ∙ ap encode_utf8_all (sym c.1) ∙ sym t.trim in
        let line : is_on_line (encode_utf8_all c.0) ≡ true = on_line_right (47 ∷ 47 ∷ []) (encode_utf8_all c.0) (ap is_on_line bytes ∙ trim_on_line a u on) in
        let size = length-append c.0 (10 ∷ chars x) in
        past_comment c.0 (chars x) rest line le (past_spaces t.spaces (slash ∷ slash ∷ (c.0 ++ 10 ∷ chars x)) rest t.blank (omega (arith, le, size)) there)

-- code whose first line is passed over, or stands there
many_told : (prefix a b y : List ℕ) → IsUtf8 (a ++ 10 ∷ b) → is_on_line a ≡ true → Other prefix (a ++ 10 ∷ b) → Tail prefix (a ++ 10 ∷ b) y → (IsUtf8 b → Other prefix b → Tail prefix b y → Other prefix (b ++ y)) → Other prefix ((a ++ 10 ∷ b) ++ y)
many_told prefix a b y u on other tail later = elim (cases_Bool (is_skipped (trim_start a))) [
  | inl s ↦
      let next : Other prefix (b ++ y) = later parts.1 (ap (λ (t : List ℕ). begins_inlined prefix (front_line t)) (sym (passed_over a b on s)) ∙ other) (over s tail) in
      ap (λ (t : List ℕ). begins_inlined prefix (front_line (settled t))) whole ∙ ap (λ (t : List ℕ). begins_inlined prefix (front_line t)) (passed_over a (b ++ y) on s) ∙ next
  | inr n ↦
      ap (λ (t : List ℕ). begins_inlined prefix (front_line (settled t))) whole
      ∙ ap (begins_inlined prefix) (stands_there a (b ++ y) parts.0 on n ∙ sym (stands_there a b parts.0 on n)) ∙ other
]
  where
    parts : IsUtf8 a × IsUtf8 b
    parts = utf8_parts a b u

    whole : (a ++ 10 ∷ b) ++ y ≡ a ++ 10 ∷ (b ++ y)
    whole = append_assoc a (10 ∷ b) y

    over : is_skipped (trim_start a) ≡ true → Tail prefix (a ++ 10 ∷ b) y → Tail prefix b y
    over s (inl z) = inl z
    over s (inr r) =
        let size : length (chars (b ++ y)) ≡ length (chars b) + length (chars y) = ap length (chars-append b y parts.1) ∙ length-append (chars b) (chars y) in
        inr (r.0, r.1, reaches_over a (b ++ y) (chars y) parts.0 on s (omega (arith, size)) (subst (λ (t : List ℕ). Reaches (chars t) (chars y)) whole r.2))

one_told : (prefix code y : List ℕ) → are_words prefix ≡ true → IsUtf8 code → is_on_line code ≡ true → Other prefix code → Tail prefix code y → Other prefix (code ++ y)
one_told prefix code y w u on other (inl z) = subst (λ (t : List ℕ). Other prefix (code ++ t)) (sym z.1) (one_fed prefix code z.0 u on other z.2)
one_told prefix code y w u on other (inr r) =
    subst (λ (t : List ℕ). Other prefix (code ++ t)) (sym r.1) (one_closed prefix code r.0 w u on other (subst (λ (t : List ℕ). Reaches (chars (code ++ t)) (chars t)) r.1 r.2))

-- its first line that counts is the same, whatever follows the code
told_in : (n : ℕ) (prefix code y : List ℕ) → length code ≤ n → are_words prefix ≡ true → IsUtf8 code → Other prefix code → Tail prefix code y → Other prefix (code ++ y)
told_in zero prefix code y le w u other tail =
    let none : code ≡ [] = nil_from_length code (omega (arith, le)) in
    one_told prefix code y w u (ap is_on_line none) other tail
told_in (suc n) prefix code y le w u other tail = elim (lines_in code) [
  | inl on ↦ one_told prefix code y w u on other tail
  | inr f ↦
      let size : length code ≡ length f.line + suc (length f.others) = ap length f.whole ∙ length-append f.line (10 ∷ f.others) in
      subst (λ (t : List ℕ). Other prefix (t ++ y)) (sym f.whole)
      (many_told prefix f.line f.others y (subst IsUtf8 f.whole u) f.on_line (subst (Other prefix) f.whole other) (subst (λ (t : List ℕ). Tail prefix t y) f.whole tail)
      (λ v o t. told_in n prefix f.others y (omega (arith, le, size)) w v o t))
]

-- code stands with its line feed or without
feed_there : (whole : List ℕ) → ends_with eqb whole (codes "\n") ≡ true → whole ≡ take (length whole - 1) whole ++ 10 ∷ []
feed_there whole h = sym (take-append-drop (length whole - 1) whole) ∙ ap (λ (t : List ℕ). take (length whole - 1) whole ++ t) (last (drop (length whole - 1) whole) (omega (arith, length-drop (length whole - 1) whole)) h)
  where
    last : (t : List ℕ) → length t < 2 → pointwise eqb (codes "\n") t ≡ true → t ≡ 10 ∷ []
    last [] l h = absurd (both_ways false refl h)
    last (x ∷ []) l h = ap (λ (n : ℕ). n ∷ []) (sym (eqb-true 10 x (and_parts (eqb 10 x) _ h).0))
    last (x ∷ y ∷ t) l h = absurd (omega arith)

code_stands : (code left rest : List ℕ) → IsCode left code rest → (left ≡ code ++ rest) ⊎ (left ≡ code ++ 10 ∷ rest)
code_stands code left rest c = elim (cases_Bool (ends_with eqb c.whole (codes "\n"))) [
  | inl y ↦
      let same : code ≡ take (length c.whole - 1) c.whole = c.code_is ∙ cond-true (ends_with eqb c.whole (codes "\n")) _ _ y in
      let whole : c.whole ≡ code ++ 10 ∷ [] = feed_there c.whole y ∙ ap (λ (t : List ℕ). t ++ 10 ∷ []) (sym same) in
      inr (c.front ∙ ap (λ (t : List ℕ). t ++ rest) whole ∙ append_assoc code (10 ∷ []) rest)
  | inr n ↦ inl (c.front ∙ ap (λ (t : List ℕ). t ++ rest) (sym (c.code_is ∙ cond-false (ends_with eqb c.whole (codes "\n")) _ _ n)))
]

-- a closing bracket in front
brace_other : (prefix r : List ℕ) → are_words prefix ≡ true → Other prefix (125 ∷ r)
unfolding chars trimmed
brace_other prefix r w = blank_before prefix [] r w IsUtf8-nil refl (trimmed []) refl

code_other : (prefix code left rest : List ℕ) → are_words prefix ≡ true → IsOtherCode prefix code → IsCode left code rest → Other prefix left
code_other prefix code left rest w o c =
    let closes : rest ≡ 125 ∷ drop 1 rest = starts_ok (codes "}") rest c.closes in
    elim (code_stands code left rest c) [
      | inl e ↦ subst (Other prefix) (sym e) (told_in (length code) prefix code rest (omega arith) w o.utf8 o.other (inr (drop 1 rest, closes, (c.stops.0, subst (λ (t : List ℕ). Splits (chars t) c.stops.0 (chars rest)) e c.stops.1.splits))))
      | inr e ↦ subst (Other prefix) (sym e) (told_in (length code) prefix code (10 ∷ rest) (omega arith) w o.utf8 o.other (inl (rest, refl, subst (Other prefix) (sym closes) (brace_other prefix (drop 1 rest) w))))
    ]

pub codes_are_told : CodesAreTold
codes_are_told prefix text code w other depth front left rest same c = others_are_no_inlined prefix left depth (code_other prefix code left rest w other c)
