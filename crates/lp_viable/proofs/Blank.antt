-- A text of which nothing counts: in front of a `]` it is a table without entries, and in front of a `}` it is user code.
use Rattle.std.proofs.Common.{◌≡◌, ℕ, ◌+◌, ◌==◌, ◌<◌, ◌≤◌, zero, suc, Bool, true, false, inl, inr, ⊎_elim, List, [], ◌∷◌, ◌++◌, length, get_or, drop, codes, Some, refl, sym, ap, ◌∙◌, subst, arith, eqb, append_assoc, append-nil, length-append}
use Rattle.std.specs.Char.{is_whitespace, len_utf8}
use Rattle.std.specs.List.{starts_with}
use Rattle.std.specs.Str.{IsUtf8, chars, trim_start, skip_leading_whitespace, encode_utf8_all}
use Rattle.std.proofs.lemmas.Bool.{and_parts, and_from, or_cases, cases_Bool, cond-true, cond-false, eqb-true, ne_eqb, not_from_false, false_from_ne_true, both_ways}
use Rattle.std.proofs.lemmas.List.{drop_at}
use Rattle.std.proofs.lemmas.List.Folds.{list_all-append}
use Rattle.std.proofs.lemmas.Str.{chars-nil, chars-append, chars-encodes, encodes-chars, scalars-chars, encode_ascii, length-encode, len_utf8_bounds, char_from_byte}
use lib.Utf8.{encode, scalar, scalars}
use Rattle.lp_tok.specs.Cut.{StopsAt, MayEnd, IsEnder, balance}
use Rattle.lp_tok.specs.Cut.Splits.{splits_none, splits_one}
use Rattle.lp_tok.specs.CodePieces.{code_piece, Whole, kind_of}
use Rattle.lp_tok.specs.Scans.{from_char}
use Rattle.lp_spelling.specs.Counting.{is_text, feeds, is_skipped, settled}
use Rattle.lp_spelling.specs.TableReading.{blank_of, blank_len, front_of, Table, goes_on_after, entries_within, entries}
use Rattle.lp_spelling.specs.TableReading.Front.{skip}
use Rattle.lp_spelling.proofs.Reading.{starts_ok}
use Rattle.lp_spelling.proofs.Tables.{front_blank}
use Rattle.lp_local.proofs.Agreeing.{split_first, feeds_text, feeds-append, no_feed}
use Rattle.lp_local.proofs.Settling.{behind_byte, before_byte}
use Rattle.lp_program.specs.CodeReading.{without_feed, IsCode}
use Rattle.lp_reading_laws.specs.Printing.LineTexts.{is_on_line}
use Rattle.lp_reading_laws.proofs.Printing.Entries as laws
use Rattle.lp_reading_laws.proofs.Printing.Entries.{Gives, gives_then, gives_feed, gives_none, gives_entries}
use Rattle.lp_viable.proofs.Least.{none_split}
use Rattle.lp_local.proofs.Settling.{skips_first, counts_first}
use Rattle.lp_local.proofs.Ended.{IsEnded, ended_behind}
use Rattle.lp_viable.proofs.Moving.{ended_feeds, brace_chars}

-- lines that don't count
data Blank : List ℕ → Type 0 where
  no_line : Blank []
  one_line : (line rest : List ℕ) → IsUtf8 line → feeds line ≡ 0 → is_skipped (trim_start line) ≡ true → Blank rest → Blank (line ++ 10 ∷ rest)

blank_within : (m : ℕ) (text : List ℕ) → length text ≤ m → IsUtf8 text → IsEnded text → settled text ≡ [] → Blank text
blank_within m [] le u e none = no_line
blank_within zero (b ∷ t) le u e none = absurd (omega arith)
blank_within (suc m) (b ∷ t) le u e none = elim (split_first (b ∷ t)) [
  | inl whole ↦ (let feed = ended_feeds (b ∷ t) e (omega arith) in absurd (omega (arith, feed, whole)))
  | inr f ↦
      let v : IsUtf8 (f.line ++ 10 ∷ f.rest) = subst (λ (x : List ℕ). IsUtf8 x) f.whole u in
      let w : IsEnded f.rest = ended_behind (f.line ++ 10 ∷ []) f.rest (subst (λ (x : List ℕ). IsEnded x) (f.whole ∙ sym (append_assoc f.line (10 ∷ []) f.rest)) e) in
      let size : length (b ∷ t) ≡ length f.line + length (10 ∷ f.rest) = ap length f.whole ∙ length-append f.line (10 ∷ f.rest) in
      let all : settled (f.line ++ 10 ∷ f.rest) ≡ [] = ap settled (sym f.whole) ∙ none in
      elim (cases_Bool (is_skipped (trim_start f.line))) [
        | inl y ↦
            subst Blank (sym f.whole)
            (one_line f.line f.rest (before_byte f.line 10 f.rest (omega arith) v) f.within y
            (blank_within m f.rest (omega (arith, size, le)) (behind_byte f.line 10 f.rest (omega arith) v) w (sym (skips_first f.line f.rest f.within y) ∙ all)))
        | inr n ↦ (
            let over = ap length (sym (counts_first f.line f.rest f.within n) ∙ all) in
            let some = length-append (trim_start f.line) (10 ∷ f.rest) in
            absurd (omega (arith, over, some)))
      ]
]

-- characters of lines: a byte of ASCII other than blanks is none of them
apart : (c d : ℕ) → is_whitespace d ≡ false → is_whitespace c ≡ true → (c == d) ≡ false
apart c d n w = ne_eqb c d (λ e. both_ways (is_whitespace d) n (ap is_whitespace (sym e) ∙ w))

one_utf8 : (c : ℕ) → scalar c ≡ true → IsUtf8 (encode c)
one_utf8 c s = (c ∷ [], (and_from (scalar c) true s refl, append-nil (encode c)))

one_chars : (c : ℕ) → scalar c ≡ true → chars (encode c) ≡ c ∷ []
one_chars c s = ap chars (sym (append-nil (encode c))) ∙ chars-encodes (c ∷ []) (and_from (scalar c) true s refl)

-- a blank stands in front of a table
front_white : (c : ℕ) (x : List ℕ) → scalar c ≡ true → is_whitespace c ≡ true → (c ≡ 10 → ⊥) → front_of (encode c ++ x) ≡ skip x
front_white c x s w ne =
    let y : List ℕ = encode c ++ x in
    let whole : chars y ≡ c ∷ chars x = chars-append (encode c) x (one_utf8 c s) ∙ ap (λ (z : List ℕ). z ++ chars x) (one_chars c s) in
    let len : blank_len y ≡ len_utf8 c = ap blank_of whole ∙ cond-true (is_whitespace c) (len_utf8 c) 0 w in
    let size = length-append (encode c) x in
    let one : length (encode c) ≡ len_utf8 c = length-encode c in
    let bounds = (len_utf8_bounds c).0 in
    let some : 0 < length y = omega (arith, size, one, bounds) in
    let first : (d : ℕ) → d < 128 → get_or y 0 0 ≡ d → c ≡ d = λ d small e. char_from_byte y x c refl (omega (arith, e, small)) some ∙ e in
    let not_feed : (get_or y 0 0 == 10) ≡ false = ne_eqb (get_or y 0 0) 10 (λ e. ne (first 10 (omega arith) e)) in
    let not_end : (get_or y 0 0 == 93) ≡ false = ne_eqb (get_or y 0 0) 93 (λ e. both_ways (is_whitespace 93) refl (ap is_whitespace (sym (first 93 (omega arith) e)) ∙ w)) in
    let not_slash : starts_with eqb y (codes "//") ≡ false =
    false_from_ne_true (starts_with eqb y (codes "//"))
    (λ t. both_ways (is_whitespace 47) refl (ap is_whitespace (sym (first 47 (omega arith) (ap (λ (z : List ℕ). get_or z 0 0) (starts_ok (codes "//") y t)))) ∙ w)) in
    let at : 0 + blank_len y ≡ length (encode c) = omega (arith, len, one) in
    front_blank y 0 some not_feed not_slash not_end (omega (arith, len, bounds)) ∙ ap (λ (n : ℕ). skip (drop n y)) at ∙ ap (λ (z : List ℕ). skip z) (drop_at (encode c) x (length (encode c)) refl)

reads_over : (g : Bool) (y x : List ℕ) (t : Table) → front_of y ≡ skip x → length x < length y → laws.Reads g x t → laws.Reads g y t
unfolding entries_within
reads_over g y x t e lt r zero h = absurd (omega (arith, lt, h))
reads_over g y x t e lt r (suc n) h = ap (goes_on_after (entries_within n) g y) e ∙ r n (omega (arith, lt, h))

gives_white : (c : ℕ) (x rest : List ℕ) → scalar c ≡ true → is_whitespace c ≡ true → (c ≡ 10 → ⊥) → Gives true x [] rest → Gives true (encode c ++ x) [] rest
gives_white c x rest s w ne g t r =
    let size = length-append (encode c) x in
    let one = length-encode c in
    let bounds = (len_utf8_bounds c).0 in
    reads_over true (encode c ++ x) x ([] ++ t.0, t.1) (front_white c x s w ne) (omega (arith, size, one, bounds)) (g t r)

not_line_feed : (c : ℕ) → is_on_line (encode c) ≡ true → c ≡ 10 → ⊥
not_line_feed c o e = both_ways (is_on_line (10 ∷ [])) refl (ap is_on_line (sym (encode_ascii 10 (omega arith)) ∙ ap encode (sym e)) ∙ o)

abbrev skipped_chars : List ℕ → Bool
skipped_chars cs = is_skipped (encode_utf8_all (skip_leading_whitespace cs))

table_line : (cs rest : List ℕ) → scalars cs ≡ true → is_on_line (encode_utf8_all cs) ≡ true → skipped_chars cs ≡ true → Gives true (encode_utf8_all cs ++ 10 ∷ rest) [] rest
table_line [] rest s o k = gives_feed true rest
table_line (c ∷ cs) rest s o k =
    let a = and_parts (scalar c) (scalars cs) s in
    let b = and_parts (is_on_line (encode c)) (is_on_line (encode_utf8_all cs)) (sym (list_all-append is_text (encode c) (encode_utf8_all cs)) ∙ o) in
    elim (cases_Bool (is_whitespace c)) [
      | inl y ↦
          let next : skipped_chars cs ≡ true = sym (ap (λ (x : List ℕ). is_skipped (encode_utf8_all x)) (cond-true (is_whitespace c) (skip_leading_whitespace cs) (c ∷ cs) y)) ∙ k in
          subst (λ (x : List ℕ). Gives true x [] rest) (sym (append_assoc (encode c) (encode_utf8_all cs) (10 ∷ rest)))
          (gives_white c (encode_utf8_all cs ++ 10 ∷ rest) rest a.0 y (not_line_feed c b.0) (table_line cs rest a.1 b.1 next))
      | inr n ↦ gives_none 0 (encode_utf8_all (c ∷ cs)) rest o (sym (ap (λ (x : List ℕ). is_skipped (encode_utf8_all x)) (cond-false (is_whitespace c) (skip_leading_whitespace cs) (c ∷ cs) n)) ∙ k)
    ]

line_on : (t : List ℕ) → feeds t ≡ 0 → is_on_line t ≡ true
line_on [] h = refl
line_on (b ∷ t) h =
    let p = no_feed b t h in
    and_from (is_text b) (is_on_line t) (not_from_false (b == 10) p.0) (line_on t p.1)

trimmed_chars : (line : List ℕ) → is_skipped (trim_start line) ≡ true → skipped_chars (chars line) ≡ true
unfolding trim_start
trimmed_chars line h = h

table_lines : (text x : List ℕ) → Blank text → Gives true (text ++ 93 ∷ x) [] (93 ∷ x)
table_lines _ x no_line = λ t r. r
table_lines _ x (one_line line rest u none y b) =
    let whole : encode_utf8_all (chars line) ≡ line = encodes-chars line u in
    let first : Gives true (line ++ 10 ∷ (rest ++ 93 ∷ x)) [] (rest ++ 93 ∷ x) =
    subst (λ (z : List ℕ). Gives true (z ++ 10 ∷ (rest ++ 93 ∷ x)) [] (rest ++ 93 ∷ x)) whole
    (table_line (chars line) (rest ++ 93 ∷ x) (scalars-chars line u) (ap is_on_line whole ∙ line_on line none) (trimmed_chars line y)) in
    subst (λ (z : List ℕ). Gives true z [] (93 ∷ x)) (sym (append_assoc line (10 ∷ rest) (93 ∷ x)))
    (gives_then true (line ++ 10 ∷ (rest ++ 93 ∷ x)) (rest ++ 93 ∷ x) (93 ∷ x) [] [] first (table_lines rest x b))

-- in front of a `]` a text of which nothing counts is a table without entries
pub blank_table : (text : List ℕ) → IsUtf8 text → IsEnded text → settled text ≡ [] → (x : List ℕ) → entries (text ++ 93 ∷ x) ≡ Some ([], 93 ∷ x)
blank_table text u e none x = gives_entries 0 (text ++ 93 ∷ x) x [] (table_lines text x (blank_within (length text) text (omega arith) u e none))

-- a piece in front that counts no bracket
front_goes : (ks before after : List _) (k : _) → ((x y : List _) (z : _) → ks ≡ x ++ z ∷ y → IsEnder z → 0 < balance x) → kind_of 97 ∷ ks ≡ before ++ k ∷ after → IsEnder k → 0 < balance before
front_goes ks [] after k goes e d = let first : k ≡ kind_of 97 = cc in absurd (subst IsEnder first d)
front_goes ks (x ∷ before) after k goes e d =
    let first : kind_of 97 ≡ x = cc in
    let others : ks ≡ before ++ k ∷ after = cc in
    subst (λ y. 0 < balance (y ∷ before)) first (goes before after k others d)

stops_over : (cs next end : List ℕ) → code_piece cs ≡ Whole (kind_of 97) next → StopsAt next end → StopsAt cs end
stops_over cs next end p s = (
  kind_of 97 ∷ s.0,
  record { splits = splits_one cs next end (kind_of 97) s.0 p s.1.splits; goes_on = λ before after k e d. front_goes s.0 before after k s.1.goes_on e d },
  s.2,
  s.3,
)

white_kind : (c : ℕ) → is_whitespace c ≡ true → kind_of c ≡ kind_of 97
white_kind c w = simp (apart c 40 refl w, apart c 91 refl w, apart c 123 refl w, apart c 41 refl w, apart c 93 refl w, apart c 125 refl w, apart c 44 refl w, apart c 59 refl w)

white_piece : (c : ℕ) (cs : List ℕ) → is_whitespace c ≡ true → code_piece (c ∷ cs) ≡ Whole (kind_of 97) cs
white_piece c cs w =
    cond-false (c == 34) _ _ (apart c 34 refl w) ∙ cond-false (c == 39) _ _ (apart c 39 refl w) ∙ cond-false (c == 114) _ _ (apart c 114 refl w) ∙ cond-false (c == 47) _ _ (apart c 47 refl w)
    ∙ ap (λ k. Whole k cs) (white_kind c w)

from_feed : (cs x : List ℕ) → feeds cs ≡ 0 → from_char 10 (cs ++ 10 ∷ x) ≡ 10 ∷ x
from_feed [] x h = refl
from_feed (c ∷ cs) x h = let p = no_feed c cs h in cond-false (c == 10) (c ∷ (cs ++ 10 ∷ x)) (from_char 10 (cs ++ 10 ∷ x)) p.0 ∙ from_feed cs x p.1

slash_chars : (r : List ℕ) → chars (47 ∷ r) ≡ 47 ∷ chars r
unfolding chars
slash_chars [] = refl
slash_chars (b ∷ r) = refl

feed_chars : (r : List ℕ) → chars (10 ∷ r) ≡ 10 ∷ chars r
unfolding chars
feed_chars [] = refl
feed_chars (b ∷ r) = refl

-- a comment, up to the end of its line
comment_plain : (cs x end : List ℕ) → feeds (47 ∷ 47 ∷ cs) ≡ 0 → StopsAt x end → StopsAt (47 ∷ 47 ∷ (cs ++ 10 ∷ x)) end
comment_plain cs x end h p =
    let none : feeds cs ≡ 0 = (no_feed 47 cs (no_feed 47 (47 ∷ cs) h).1).1 in
    stops_over (47 ∷ 47 ∷ (cs ++ 10 ∷ x)) (10 ∷ x) end (ap (λ (z : List ℕ). Whole (kind_of 97) z) (from_feed cs x none)) (stops_over (10 ∷ x) x end refl p)

comment_is : (c : ℕ) (cs : List ℕ) → scalars (c ∷ cs) ≡ true → is_skipped (encode_utf8_all (c ∷ cs)) ≡ true → (z : List ℕ) × (c ∷ cs ≡ 47 ∷ 47 ∷ z)
comment_is c cs s k =
    let y : List ℕ = encode_utf8_all (c ∷ cs) in
    let size = length-append (encode c) (encode_utf8_all cs) in
    let one = length-encode c in
    let bounds = (len_utf8_bounds c).0 in
    ⊎_elim
    (λ none. absurd (let zero_size = eqb-true (length y) 0 none in omega (arith, zero_size, size, one, bounds)))
    (λ t.
    (let e : y ≡ 47 ∷ 47 ∷ drop 2 y = starts_ok (codes "//") y t in
    (chars (drop 2 y), sym (chars-encodes (c ∷ cs) s) ∙ ap chars e ∙ slash_chars (47 ∷ drop 2 y) ∙ ap (λ (z : List ℕ). 47 ∷ z) (slash_chars (drop 2 y)))))
    (or_cases (length y == 0) (starts_with eqb y (codes "//")) k)

code_line : (cs x end : List ℕ) → scalars cs ≡ true → feeds cs ≡ 0 → skipped_chars cs ≡ true → StopsAt x end → StopsAt (cs ++ 10 ∷ x) end
code_line [] x end s h k p = stops_over (10 ∷ x) x end refl p
code_line (c ∷ cs) x end s h k p = elim (cases_Bool (is_whitespace c)) [
  | inl y ↦
      let next : skipped_chars cs ≡ true = sym (ap (λ (z : List ℕ). is_skipped (encode_utf8_all z)) (cond-true (is_whitespace c) (skip_leading_whitespace cs) (c ∷ cs) y)) ∙ k in
      stops_over (c ∷ (cs ++ 10 ∷ x)) (cs ++ 10 ∷ x) end (white_piece c (cs ++ 10 ∷ x) y) (code_line cs x end (and_parts (scalar c) (scalars cs) s).1 (no_feed c cs h).1 next p)
  | inr n ↦
      let i = comment_is c cs s (sym (ap (λ (z : List ℕ). is_skipped (encode_utf8_all z)) (cond-false (is_whitespace c) (skip_leading_whitespace cs) (c ∷ cs) n)) ∙ k) in
      subst (λ (z : List ℕ). StopsAt (z ++ 10 ∷ x) end) (sym i.1) (comment_plain i.0 x end (ap feeds (sym i.1) ∙ h) p)
]

-- characters have no line feed where their bytes have none
chars_on : (cs : List ℕ) → feeds (encode_utf8_all cs) ≡ 0 → feeds cs ≡ 0
chars_on [] h = refl
chars_on (c ∷ cs) h =
    let both = feeds-append (encode c) (encode_utf8_all cs) in
    let here : feeds (encode c) ≡ 0 = omega (arith, both, h) in
    let later : feeds (encode_utf8_all cs) ≡ 0 = omega (arith, both, h) in
    let not_feed : (c == 10) ≡ false = ne_eqb c 10 (λ e. not_line_feed c (line_on (encode c) here) e) in
    feeds_text c cs not_feed ∙ chars_on cs later

code_lines : (text end : List ℕ) → StopsAt end end → Blank text → StopsAt (chars text ++ end) end
code_lines _ end here no_line = subst (λ (z : List ℕ). StopsAt (z ++ end) end) (sym chars-nil) here
code_lines _ end here (one_line line rest u none y b) =
    let cs : List ℕ = chars line in
    let whole : chars (line ++ 10 ∷ rest) ≡ cs ++ 10 ∷ chars rest = chars-append line (10 ∷ rest) u ∙ ap (λ (z : List ℕ). cs ++ z) (feed_chars rest) in
    let on : feeds cs ≡ 0 = chars_on cs (ap feeds (encodes-chars line u) ∙ none) in
    subst (λ (z : List ℕ). StopsAt (z ++ end) end) (sym whole)
    (subst (λ (z : List ℕ). StopsAt z end) (sym (append_assoc cs (10 ∷ chars rest) end)) (code_line cs (chars rest ++ end) end (scalars-chars line u) on (trimmed_chars line y) (code_lines rest end here b)))

-- the cut may end at a `}`
brace_ends : (r : List ℕ) → MayEnd (chars (125 ∷ r))
brace_ends r = subst MayEnd (sym (brace_chars r)) (inl (kind_of 125, chars r, refl, tt))

stops_here : (end : List ℕ) → MayEnd end → StopsAt end end
stops_here end m = ([], record { splits = splits_none end; goes_on = λ before after k e d. absurd (none_split before after k e) }, refl, m)

-- in front of a `}` a text of which nothing counts is user code
pub blank_code : (text : List ℕ) → IsUtf8 text → IsEnded text → settled text ≡ [] → (r : List ℕ) → IsCode (text ++ 125 ∷ r) (without_feed text) (125 ∷ r)
blank_code text u e none r =
    let b : Blank text = blank_within (length text) text (omega arith) u e none in
    let end : List ℕ = chars (125 ∷ r) in
    record {
      whole = text;
      front = refl;
      stops = subst (λ (x : List ℕ). StopsAt x end) (sym (chars-append text (125 ∷ r) u)) (code_lines text end (stops_here end (brace_ends r)) b);
      closes = refl;
      code_is = refl;
    }
