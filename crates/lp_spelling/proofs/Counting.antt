-- The lines of a text, and those that count.
use Rattle.std.proofs.Common.{◌≡◌, ℕ, ◌+◌, ◌-◌, ◌==◌, ◌<◌, ◌≤◌, zero, suc, true, false, if◌then◌else◌, inl, inr, List, [], ◌∷◌, ◌++◌, length, take, drop, get_or, refl, sym, ap, ◌∙◌, subst, arith, length-drop, length-take, take-append-drop}
use Rattle.std.specs.Str.{IsUtf8, IsCharBoundary, trim_start}
use Rattle.std.proofs.lemmas.Bool.{cases_lt, cond-true, cond-false, eqb-true, not-true, not-false, not_from_true, not_from_false}
use Rattle.std.proofs.lemmas.List.{drop-drop, drop_all, drop-append-le, get_or-drop}
use Rattle.std.proofs.lemmas.List.Folds.{length-prefix_len}
use Rattle.std.proofs.lemmas.List.Sums.{prefix_len-drop_yes, prefix_len-drop_no, prefix_len-drop_all, prefix_len-le-length, prefix_len_passes, prefix_len_stops, count_by_more_yes, count_by_more_no, count_by-le-length}
use Rattle.std.proofs.lemmas.Str.{IsUtf8-append, IsUtf8-drop, IsCharBoundary-end, IsCharBoundary-before_ascii, IsCharBoundary-after_ascii, IsCharBoundary-from_drop}
use Rattle.lp_spelling.specs.Counting.{is_text, line_len, front_line, behind_line, feeds, is_skipped, settled_within, settled}

-- the steps of a loop that looks for a line's end
pub line_more : (text : List ℕ) (i : ℕ) → i < length text → (get_or text i 0 == 10) ≡ false → line_len (drop i text) ≡ line_len (drop (i + 1) text) + 1
line_more text i lt h =
    let e = prefix_len-drop_yes is_text text i 0 lt (not_from_false _ h) in
    omega (arith, e)

pub line_stop : (text : List ℕ) (i : ℕ) → i < length text → (get_or text i 0 == 10) ≡ true → line_len (drop i text) ≡ 0
line_stop text i lt h = prefix_len-drop_no is_text text i 0 lt (not_from_true _ h)

pub line_over : (text : List ℕ) (i : ℕ) → length text ≤ i → line_len (drop i text) ≡ 0
line_over text i le = prefix_len-drop_all is_text text i le

pub ruleset line_steps = (line_more, line_stop, line_over)

-- the steps of a loop that counts line feeds
pub feeds_yes : (text : List ℕ) (i : ℕ) → i < length text → (get_or text i 0 == 10) ≡ true → feeds (take (i + 1) text) ≡ feeds (take i text) + 1
feeds_yes text i lt h = count_by_more_yes (λ b. b == 10) text i 0 lt h

pub feeds_no : (text : List ℕ) (i : ℕ) → i < length text → (get_or text i 0 == 10) ≡ false → feeds (take (i + 1) text) ≡ feeds (take i text)
feeds_no text i lt h = count_by_more_no (λ b. b == 10) text i 0 lt h

pub feeds_le : (text : List ℕ) (i : ℕ) → feeds (take i text) ≤ i
feeds_le text i =
    let a = count_by-le-length (λ b. b == 10) (take i text) in
    let b = length-take i text in
    omega (arith, a, b)

pub ruleset feed_steps = (feeds_yes, feeds_no, feeds_le)

-- a line ends within the text
pub line_in : (text : List ℕ) (from : ℕ) → from ≤ length text → from + line_len (drop from text) ≤ length text
line_in text from h =
    let a = prefix_len-le-length is_text (drop from text) in
    let b = length-drop from text in
    omega (arith, a, b)

-- where it ends before the text does, a line feed stands
pub feed_at : (text : List ℕ) (from : ℕ) → from + line_len (drop from text) < length text → get_or text (from + line_len (drop from text)) 0 ≡ 10
feed_at text from h =
    let b = length-drop from text in
    let e = prefix_len_stops is_text (drop from text) 0 (omega (arith, b)) in
    sym (get_or-drop from text (line_len (drop from text)) 0) ∙ eqb-true _ 10 (not-false _ e)

-- no line ends within a line
pub feeds_same : (text : List ℕ) (from k : ℕ) → k ≤ line_len (drop from text) → feeds (take (from + k) text) ≡ feeds (take from text)
feeds_same text from zero h = ap (λ i. feeds (take i text)) (omega arith)
feeds_same text from (suc k) h =
    let a = prefix_len-le-length is_text (drop from text) in
    let b = length-drop from text in
    let passes = prefix_len_passes is_text (drop from text) k 0 (omega arith) in
    let no : (get_or text (from + k) 0 == 10) ≡ false = not-true _ (ap is_text (sym (get_or-drop from text k 0)) ∙ passes) in
    let next : from + suc k ≡ (from + k) + 1 = omega arith in
    ap (λ i. feeds (take i text)) next ∙ feeds_no text (from + k) (omega (arith, a, b)) no ∙ feeds_same text from k (omega arith)

-- a text may be cut where a line ends, and behind its line feed
pub line_boundary : (text : List ℕ) (from : ℕ) → from ≤ length text → IsCharBoundary text (from + line_len (drop from text))
line_boundary text from h = elim (cases_lt (from + line_len (drop from text)) (length text)) [
  | inl lt ↦ let e = feed_at text from lt in IsCharBoundary-before_ascii text (from + line_len (drop from text)) lt (omega (arith, e))
  | inr le ↦
      let at : length text ≡ from + line_len (drop from text) = omega (arith, line_in text from h) in
      subst (λ i. IsCharBoundary text i) at (IsCharBoundary-end text)
]

pub next_boundary : (text : List ℕ) (from : ℕ) → IsUtf8 text → from + line_len (drop from text) < length text → IsCharBoundary text (from + line_len (drop from text) + 1)
next_boundary text from u lt =
    let e = feed_at text from lt in
    IsCharBoundary-after_ascii text (from + line_len (drop from text)) u lt (omega (arith, e))

-- the line that goes on at a place
pub whole_line : (text : List ℕ) (from end : ℕ) → end ≡ from + line_len (drop from text) → take (end - from) (drop from text) ≡ front_line (drop from text)
whole_line text from end e = ap (λ n. take n (drop from text)) (omega (arith, e))

-- a line without the blanks in front, and where it then starts
pub shown_start : (text line : List ℕ) (from n end : ℕ) → end ≡ from + line_len (drop from text) → line ≡ drop n (front_line (drop from text)) →
    drop (end - length line) text ≡ line ++ drop (line_len (drop from text)) (drop from text)
shown_start text line from n end e l =
    let rest : List ℕ = drop from text in
    let k : ℕ = line_len (drop from text) in
    let size : length (take k rest) ≡ k = length-prefix_len is_text rest in
    let len : length line ≡ k - n = ap length l ∙ length-drop n (take k rest) ∙ ap (λ i. i - n) size in
    elim (cases_lt k n) [
      | inl over ↦
          let none : line ≡ [] = l ∙ drop_all n (take k rest) (omega (arith, size)) in
          let there : end - length line ≡ from + k = omega (arith, e, len) in
          ap (λ i. drop i text) there ∙ sym (drop-drop k from text) ∙ ap (λ x. x ++ drop k rest) (sym none)
      | inr within ↦
          let there : end - length line ≡ from + n = omega (arith, e, len) in
          ap (λ i. drop i text) there ∙ sym (drop-drop n from text) ∙ ap (λ x. drop n x) (sym (take-append-drop k rest))
          ∙ drop-append-le n (take k rest) (drop k rest) (omega (arith, size)) ∙ ap (λ x. x ++ drop k rest) (sym l)
    ]

pub shown_boundary : (text line : List ℕ) (from n end : ℕ) → from ≤ length text → IsUtf8 text → IsUtf8 line → end ≡ from + line_len (drop from text) →
    line ≡ drop n (front_line (drop from text)) → IsCharBoundary text (end - length line)
shown_boundary text line from n end h u v e l =
    let k : ℕ = line_len (drop from text) in
    let tail : drop k (drop from text) ≡ drop end text = drop-drop k from text ∙ ap (λ i. drop i text) (sym e) in
    let cut : IsCharBoundary text end = subst (λ i. IsCharBoundary text i) (sym e) (line_boundary text from h) in
    let whole : IsUtf8 (line ++ drop end text) = IsUtf8-append line (drop end text) v (IsUtf8-drop text end u cut) in
    let there : line ++ drop end text ≡ drop (end - length line) text = ap (λ x. line ++ x) (sym tail) ∙ sym (shown_start text line from n end e l) in
    IsCharBoundary-from_drop text (end - length line) (omega (arith, line_in text from h)) (subst IsUtf8 there whole)

pub shown_feeds : (text line : List ℕ) (from end : ℕ) → length line ≤ line_len (drop from text) → end ≡ from + line_len (drop from text) →
    feeds (take (end - length line) text) ≡ feeds (take from text)
shown_feeds text line from end h e =
    let k : ℕ = line_len (drop from text) in
    let there : end - length line ≡ from + (k - length line) = omega (arith, e) in
    ap (λ i. feeds (take i text)) there ∙ feeds_same text from (k - length line) (omega arith)

-- more lines than there are change nothing
within_enough : (n m : ℕ) (text : List ℕ) → length text ≤ n → length text ≤ m → settled_within n text ≡ settled_within m text
unfolding settled_within
within_enough zero zero text h k = refl
within_enough zero (suc m) [] h k = refl
within_enough zero (suc m) (b ∷ t) h k = absurd (omega arith)
within_enough (suc n) zero [] h k = refl
within_enough (suc n) zero (b ∷ t) h k = absurd (omega arith)
within_enough (suc n) (suc m) [] h k = refl
within_enough (suc n) (suc m) (b ∷ t) h k =
    let d = length-drop (line_len (b ∷ t) + 1) (b ∷ t) in
    ap
    (λ x. if is_skipped (trim_start (front_line (b ∷ t))) then x else trim_start (front_line (b ∷ t)) ++ drop (line_len (b ∷ t)) (b ∷ t))
    (within_enough n m (behind_line (b ∷ t)) (omega (arith, d)) (omega (arith, d)))

pub settled_none : settled [] ≡ []
unfolding settled settled_within
settled_none = refl

-- a line that is skipped
pub settled_skips : (text : List ℕ) → 0 < length text → is_skipped (trim_start (front_line text)) ≡ true → settled text ≡ settled (behind_line text)
unfolding settled settled_within
settled_skips [] h s = absurd (omega arith)
settled_skips (b ∷ t) h s =
    let d = length-drop (line_len (b ∷ t) + 1) (b ∷ t) in
    cond-true (is_skipped (trim_start (front_line (b ∷ t)))) _ _ s
    ∙ within_enough (length t) (length (behind_line (b ∷ t))) (behind_line (b ∷ t)) (omega (arith, d)) (omega arith)

-- a line that counts
pub settled_counts : (text : List ℕ) → 0 < length text → is_skipped (trim_start (front_line text)) ≡ false →
    settled text ≡ trim_start (front_line text) ++ drop (line_len text) text
unfolding settled settled_within
settled_counts [] h s = absurd (omega arith)
settled_counts (b ∷ t) h s = cond-false (is_skipped (trim_start (front_line (b ∷ t)))) _ _ s

-- the lines from one place to another don't count
pub record Settling (text : List ℕ) (from at before : ℕ) : Type 0 where
  pub at_in : IsCharBoundary text at
  pub same : settled (drop at text) ≡ settled (drop from text)
  pub ended : before ≡ feeds (take at text)

pub settling_start : (text : List ℕ) (from before : ℕ) → IsCharBoundary text from → before ≡ feeds (take from text) → Settling text from from before
settling_start text from before b e = record { at_in = b; same = refl; ended = e }

left_some : (text : List ℕ) (at : ℕ) → at < length text → 0 < length (drop at text)
left_some text at h = omega (arith, length-drop at text)

pub settling_next : (text : List ℕ) (from at before end : ℕ) → IsUtf8 text → Settling text from at before → at < length text → end ≡ at + line_len (drop at text) →
    end < length text → is_skipped (trim_start (front_line (drop at text))) ≡ true → Settling text from (end + 1) (before + 1)
settling_next text from at before end u s h e lt skipped =
    let k : ℕ = line_len (drop at text) in
    let there : at + k < length text = omega (arith, e) in
    let next : at + (k + 1) ≡ end + 1 = omega (arith, e) in
    let behind : behind_line (drop at text) ≡ drop (end + 1) text = drop-drop (k + 1) at text ∙ ap (λ i. drop i text) next in
    let fed : (get_or text (at + k) 0 == 10) ≡ true = ap (λ b. b == 10) (feed_at text at there) in
    let count : feeds (take (at + k + 1) text) ≡ feeds (take at text) + 1
    = feeds_yes text (at + k) there fed ∙ ap (λ n. n + 1) (feeds_same text at k (omega arith)) in
    let last : at + k + 1 ≡ end + 1 = omega (arith, e) in
    record {
      at_in = subst (λ i. IsCharBoundary text i) last (next_boundary text at u there);
      same = ap settled (sym behind) ∙ sym (settled_skips (drop at text) (left_some text at h) skipped) ∙ s.same;
      ended = ap (λ n. n + 1) s.ended ∙ sym count ∙ ap (λ i. feeds (take i text)) last;
    }

-- a line that counts stands there
pub settling_found : (text line : List ℕ) (from at before start : ℕ) → Settling text from at before → at < length text → is_skipped (trim_start (front_line (drop at text))) ≡ false →
    line ≡ trim_start (front_line (drop at text)) → drop start text ≡ line ++ drop (line_len (drop at text)) (drop at text) → drop start text ≡ settled (drop from text)
settling_found text line from at before start s h counts l there =
    there ∙ ap (λ x. x ++ drop (line_len (drop at text)) (drop at text)) l ∙ sym (settled_counts (drop at text) (left_some text at h) counts) ∙ s.same

-- the last line is skipped, and ends with the text
pub settling_last : (text : List ℕ) (from at before : ℕ) → Settling text from at before → at < length text → length text ≤ at + line_len (drop at text) →
    is_skipped (trim_start (front_line (drop at text))) ≡ true → (drop (length text) text ≡ settled (drop from text)) × (before ≡ feeds (take (length text) text))
settling_last text from at before s h le skipped =
    let k : ℕ = line_len (drop at text) in
    let all : length text ≡ at + k = omega (arith, line_in text at (omega arith)) in
    let d = length-drop at text in
    let gone : behind_line (drop at text) ≡ [] = drop_all (k + 1) (drop at text) (omega (arith, d)) in (
      drop_all (length text) text (omega arith) ∙ sym (settled_skips (drop at text) (left_some text at h) skipped ∙ ap settled gone ∙ settled_none) ∙ s.same,
      s.ended ∙ sym (feeds_same text at k (omega arith)) ∙ ap (λ i. feeds (take i text)) (sym all),
    )

-- no line is left
pub settling_over : (text : List ℕ) (from at before : ℕ) → Settling text from at before → length text ≤ at →
    (drop (length text) text ≡ settled (drop from text)) × (before ≡ feeds (take (length text) text))
settling_over text from at before s le =
    let all : at ≡ length text = omega (arith, s.at_in.0) in (
      drop_all (length text) text (omega arith) ∙ sym settled_none ∙ ap settled (sym (drop_all at text le)) ∙ s.same,
      s.ended ∙ ap (λ i. feeds (take i text)) all,
    )

-- behind the line that stands at a place
pub behind_at : (text rest : List ℕ) (start : ℕ) → drop start text ≡ rest → behind_line rest ≡ drop (start + line_len (drop start text) + 1) text
behind_at text rest start e =
    let k : ℕ = line_len (drop start text) in
    ap behind_line (sym e) ∙ drop-drop (k + 1) start text ∙ ap (λ i. drop i text) (omega arith)

pub feeds_behind : (text : List ℕ) (start : ℕ) → start + line_len (drop start text) < length text → feeds (take (start + line_len (drop start text) + 1) text) ≡ feeds (take start text) + 1
feeds_behind text start lt =
    let k : ℕ = line_len (drop start text) in
    let fed : (get_or text (start + k) 0 == 10) ≡ true = ap (λ b. b == 10) (feed_at text start lt) in
    feeds_yes text (start + k) lt fed ∙ ap (λ n. n + 1) (feeds_same text start k (omega arith))
