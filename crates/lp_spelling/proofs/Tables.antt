-- Reading the entries of a table.
use Rattle.std.proofs.Common.{◌≡◌, ℕ, ℤ, pos, neg_ℤ, ◌+◌, ◌-◌, ◌^◌, ◌==◌, ◌<◌, ◌≤◌, zero, suc, Bool, true, false, not, cond, if◌then◌else◌, ◌&&◌, inl, inr, List, [], ◌∷◌, ◌++◌, length, get_or, take, drop, codes, Option, Some, None, Result, Ok, Err, refl, sym, ◌∙◌, ap, arith, eqb, ltb, append_assoc, append-nil, length-drop, subst, w32}
use Rattle.std.proofs.Math.Dec.{leb}
use Rattle.std.specs.Bool.{OnFalse}
use Rattle.std.specs.List.{starts_with, prefix_len, list_all}
use Rattle.std.specs.Result.{OkIff}
use Rattle.std.specs.Char.{encode_utf8, is_whitespace, len_utf8}
use Rattle.std.specs.Str.{IsUtf8, IsCharBoundary, bytes_eq}
use Rattle.std.specs.Str.Parse.{AllDigits, digits_value, ParsesSigned}
use Rattle.std.proofs.lemmas.Bool.{and_parts, cases_Bool, cond-true, cond-false, cond_both, leb-true, le-leb, ltb-true, lt-ltb, false_from_ne_true, not_from_false, OnFalse_from}
use Rattle.std.proofs.lemmas.List.{at_drop_all, drop_more, drop-drop, get_or-drop, nil_from_length}
use Rattle.std.proofs.lemmas.List.Sums.{prefix_len_passes, prefix_len-le-length}
use Rattle.std.proofs.lemmas.Str.{chars-nil, chars_past_char, IsCharBoundary-start, IsCharBoundary-after_ascii, IsCharBoundary-past_char}
use Rattle.std.proofs.lemmas.Str.Parse.{IsNumeralModel, numerals_by_value, tells_digits, parse_signed_minus, parse_signed_plain}
use Rattle.lp_spelling.specs.declared.rows.RowStep.{RowStep}
use Rattle.lp_spelling.specs.declared.rows.RowStep.TheVariants as step
use Rattle.lp_spelling.specs.Counting.{is_text, line_len}
use Rattle.lp_spelling.specs.HoleEnds.{is_digit}
use Rattle.lp_spelling.specs.Fillings.{is_number}
use Rattle.lp_spelling.specs.LineReading.{◌>>=◌, after}
use Rattle.lp_spelling.specs.TableReading.{negative_of, positive_of, number_of, sign_len, number_end, entry_in, char_blank, blank_of, blank_len, Front, entry_front, front_after_blank, front_of, Table, with_number, goes_on_after, entries_within, entries, IsBroken, broken_here, broken_end, broken_feed, broken_skip, broken_entry, ReadsTable, IsFront, IsEntryAt}
use Rattle.lp_spelling.specs.TableReading.Front.{feed, skip, ends, found_entry, wrong}
use Rattle.lp_spelling.proofs.Fitting.{all_digits, number_parts}
use Rattle.lp_spelling.proofs.Reading.{starts_ok}

-- what a parse gives, as an option
abbrev pub some_of : {E : Type 0} → Result ℤ E → Option ℤ
some_of (Ok n) = Some n
some_of (Err e) = None

own : IsNumeralModel (AllDigits 10) (digits_value 10)
own = numerals_by_value (AllDigits 10) tells_digits

negative_by : {E : Type 0} (digits : List ℕ) (r : Result ℤ E) → AllDigits 10 digits → 0 < length digits →
    OkIff r (AllDigits 10 digits × (0 < length digits) × (digits_value 10 digits ≤ 2 ^ 31)) (neg_ℤ (pos (digits_value 10 digits))) →
    some_of r ≡ cond (leb (digits_value 10 digits) (2 ^ 31)) (Some (neg_ℤ (pos (digits_value 10 digits)))) None
negative_by digits (Ok n) a l h = ap (λ z. Some z) h.1 ∙ sym (cond-true (leb (digits_value 10 digits) (2 ^ 31)) _ _ (le-leb (digits_value 10 digits) (2 ^ 31) h.0.2))
negative_by digits (Err e) a l h =
    sym (cond-false (leb (digits_value 10 digits) (2 ^ 31)) _ _ (false_from_ne_true _ (λ t. h (a, l, leb-true (digits_value 10 digits) (2 ^ 31) t))))

pub negative_read : {E : Type 0} (text digits : List ℕ) (r : Result ℤ E) → text ≡ 45 ∷ digits → ParsesSigned w32 10 text r → is_number digits ≡ true → bytes_eq digits (codes "0") ≡ false →
    some_of r ≡ negative_of digits
negative_read text digits r e h n z =
    let p = number_parts digits n in
    let q : ParsesSigned w32 10 (45 ∷ digits) r = subst (λ (bs : List ℕ). ParsesSigned w32 10 bs r) e h in
    let by = parse_signed_minus own w32 (45 ∷ digits) r q refl in
    let small : Bool = leb (digits_value 10 digits) (2 ^ 31) in
    negative_by digits r (all_digits digits p.1) p.0 by
    ∙ sym (ap (λ b. cond (b && (not (bytes_eq digits (codes "0")) && small)) (Some (neg_ℤ (pos (digits_value 10 digits)))) None) n
    ∙ ap (λ b. cond (not b && small) (Some (neg_ℤ (pos (digits_value 10 digits)))) None) z)

pub negative_none : (digits : List ℕ) → is_number digits ≡ false → negative_of digits ≡ None
negative_none digits n = ap (λ b. cond (b && (not (bytes_eq digits (codes "0")) && leb (digits_value 10 digits) (2 ^ 31))) (Some (neg_ℤ (pos (digits_value 10 digits)))) None) n

pub negative_zero : (digits : List ℕ) → is_number digits ≡ true → bytes_eq digits (codes "0") ≡ true → negative_of digits ≡ None
negative_zero digits n z =
    ap (λ b. cond (b && (not (bytes_eq digits (codes "0")) && leb (digits_value 10 digits) (2 ^ 31))) (Some (neg_ℤ (pos (digits_value 10 digits)))) None) n
    ∙ ap (λ b. cond (not b && leb (digits_value 10 digits) (2 ^ 31)) (Some (neg_ℤ (pos (digits_value 10 digits)))) None) z

positive_by : {E : Type 0} (digits : List ℕ) (r : Result ℤ E) → AllDigits 10 digits → 0 < length digits →
    OkIff r (AllDigits 10 digits × (0 < length digits) × (digits_value 10 digits < 2 ^ 31)) (pos (digits_value 10 digits)) →
    some_of r ≡ cond (ltb (digits_value 10 digits) (2 ^ 31)) (Some (pos (digits_value 10 digits))) None
positive_by digits (Ok n) a l h = ap (λ z. Some z) h.1 ∙ sym (cond-true (ltb (digits_value 10 digits) (2 ^ 31)) _ _ (lt-ltb (digits_value 10 digits) (2 ^ 31) h.0.2))
positive_by digits (Err e) a l h =
    sym (cond-false (ltb (digits_value 10 digits) (2 ^ 31)) _ _ (false_from_ne_true _ (λ t. h (a, l, ltb-true (digits_value 10 digits) (2 ^ 31) t))))

-- digits begin with no sign
unsigned : (digits : List ℕ) (c : ℕ) → 0 < length digits → list_all is_digit digits ≡ true → c < 48 → get_or digits 0 0 ≡ c → ⊥
unsigned [] c l h s e = absurd (omega arith)
unsigned (b ∷ t) c l h s e =
    let p = and_parts (is_digit b) (list_all is_digit t) h in
    let q = and_parts (leb 48 b) (leb b 57) p.0 in
    absurd (omega (arith, leb-true 48 b q.0, e, s))

pub positive_read : {E : Type 0} (digits : List ℕ) (r : Result ℤ E) → ParsesSigned w32 10 digits r → is_number digits ≡ true → some_of r ≡ positive_of digits
positive_read digits r h n =
    let p = number_parts digits n in
    let by = parse_signed_plain own w32 digits r h (unsigned digits 43 p.0 p.1 (omega arith)) (unsigned digits 45 p.0 p.1 (omega arith)) in
    let small : Bool = ltb (digits_value 10 digits) (2 ^ 31) in
    positive_by digits r (all_digits digits p.1) p.0 by ∙ sym (ap (λ b. cond (b && small) (Some (pos (digits_value 10 digits))) None) n)

pub positive_none : (digits : List ℕ) → is_number digits ≡ false → positive_of digits ≡ None
positive_none digits n = ap (λ b. cond (b && ltb (digits_value 10 digits) (2 ^ 31)) (Some (pos (digits_value 10 digits))) None) n

-- a text that begins with `-`
pub minus_front : (text : List ℕ) → starts_with eqb text (codes "-") ≡ true → text ≡ 45 ∷ drop 1 text
minus_front text h = starts_ok (codes "-") text h

-- a text may be cut where a number in front ends
digits_cut : (text : List ℕ) (s k : ℕ) → IsUtf8 text → IsCharBoundary text s → k ≡ prefix_len is_digit (drop s text) → IsCharBoundary text (s + k)
digits_cut text s zero u b e = subst (λ i. IsCharBoundary text i) (omega arith) b
digits_cut text s (suc j) u b e =
    let within = prefix_len-le-length is_digit (drop s text) in
    let size = length-drop s text in
    let digit = sym (ap is_digit (get_or-drop s text j 0)) ∙ prefix_len_passes is_digit (drop s text) j 0 (omega (arith, e)) in
    let q = and_parts (leb 48 (get_or text (s + j) 0)) (leb (get_or text (s + j) 0) 57) digit in
    let low = leb-true (get_or text (s + j) 0) 57 q.1 in
    let cut = IsCharBoundary-after_ascii text (s + j) u (omega (arith, within, size, e)) (omega (arith, low)) in
    let next : s + j + 1 ≡ s + suc j = omega arith in
    subst (λ i. IsCharBoundary text i) next cut

sign_cut : (text : List ℕ) → IsUtf8 text → IsCharBoundary text (sign_len text)
sign_cut text u = elim (cases_Bool (starts_with eqb text (codes "-"))) [
  | inl y ↦
      let f = minus_front text y in
      let one : sign_len text ≡ 1 = cond-true (starts_with eqb text (codes "-")) 1 0 y in
      let first : get_or text 0 0 ≡ 45 = ap (λ t. get_or t 0 0) f in
      let some : 0 < length text = omega (arith, ap length f) in
      subst (λ i. IsCharBoundary text i) (sym one) (IsCharBoundary-after_ascii text 0 u some (omega (arith, first)))
  | inr n ↦
      let none : sign_len text ≡ 0 = cond-false (starts_with eqb text (codes "-")) 1 0 n in
      subst (λ i. IsCharBoundary text i) (sym none) (IsCharBoundary-start text u)
]

pub number_cut : (text : List ℕ) → IsUtf8 text → IsCharBoundary text (number_end text)
number_cut text u = digits_cut text (sign_len text) (prefix_len is_digit (drop (sign_len text) text)) u (sign_cut text u) refl

-- a blank in front
pub blank_none : (text : List ℕ) → length text ≡ 0 → blank_len text ≡ 0
blank_none text h = ap blank_len (nil_from_length text h) ∙ ap blank_of chars-nil

pub blank_some : (text rest : List ℕ) (c : ℕ) → IsUtf8 text → text ≡ encode_utf8 c ++ rest → blank_len text ≡ char_blank c
blank_some text rest c u e = ap blank_of (chars_past_char text rest c u e)

pub char_cut : (text rest : List ℕ) (c n : ℕ) → IsUtf8 text → text ≡ encode_utf8 c ++ rest → n ≡ char_blank c → IsCharBoundary text n
char_cut text rest c n u e h =
    subst (λ i. IsCharBoundary text i) (sym h)
    (cond_both (is_whitespace c) (len_utf8 c) 0 (λ i. IsCharBoundary text i)
    (λ w. subst (λ i. IsCharBoundary text i) (omega arith) (IsCharBoundary-past_char text rest 0 c (omega arith) u e))
    (λ w. IsCharBoundary-start text u))

-- the entry in front
pub entry_none : (text : List ℕ) → number_of (take (number_end text) text) ≡ None → entry_in text ≡ None
unfolding entry_in
entry_none text h =
    ap (λ (o : Option ℤ). o >>= λ z. after (codes ",") (drop (number_end text) text) >>= λ rest. Some (z, rest)) h

pub entry_open : (text : List ℕ) (z : ℤ) → number_of (take (number_end text) text) ≡ Some z → starts_with eqb (drop (number_end text) text) (codes ",") ≡ false → entry_in text ≡ None
unfolding entry_in after
entry_open text z h s =
    ap (λ (o : Option ℤ). o >>= λ z. after (codes ",") (drop (number_end text) text) >>= λ rest. Some (z, rest)) h
    ∙ ap (λ (o : Option (List ℕ)). o >>= λ rest. Some (z, rest)) (cond-false (starts_with eqb (drop (number_end text) text) (codes ",")) _ _ s)

pub entry_some : (text : List ℕ) (z : ℤ) → number_of (take (number_end text) text) ≡ Some z → starts_with eqb (drop (number_end text) text) (codes ",") ≡ true →
    entry_in text ≡ Some (z, drop 1 (drop (number_end text) text))
unfolding entry_in after
entry_some text z h s =
    ap (λ (o : Option ℤ). o >>= λ z. after (codes ",") (drop (number_end text) text) >>= λ rest. Some (z, rest)) h
    ∙ ap (λ (o : Option (List ℕ)). o >>= λ rest. Some (z, rest)) (cond-true (starts_with eqb (drop (number_end text) text) (codes ",")) _ _ s)

-- the place behind its comma
pub entry_next : (text rest : List ℕ) (at end next : ℕ) → rest ≡ drop at text → next ≡ at + end + 1 → drop 1 (drop end rest) ≡ drop next text
entry_next text rest at end next r e =
    ap (λ x. drop 1 (drop end x)) r ∙ drop-drop 1 end (drop at text) ∙ drop-drop (end + 1) at text ∙ ap (λ i. drop i text) (omega (arith, e))

pub comma_cut : (text rest : List ℕ) (at end next : ℕ) → IsUtf8 text → rest ≡ drop at text → next ≡ at + end + 1 → at ≤ length text → starts_with eqb (drop end rest) (codes ",") ≡ true → IsCharBoundary text next
comma_cut text rest at end next u r e le s =
    let f = starts_ok (codes ",") (drop end rest) s in
    let there : drop end rest ≡ drop (at + end) text = ap (λ x. drop end x) r ∙ drop-drop end at text in
    let first : get_or text (at + end) 0 ≡ 44 = ap (λ i. get_or text i 0) (omega arith) ∙ sym (get_or-drop (at + end) text 0 0) ∙ ap (λ x. get_or x 0 0) (sym there ∙ f) in
    let some : 0 < length (drop (at + end) text) = omega (arith, ap length (sym there ∙ f)) in
    let size = length-drop (at + end) text in
    subst (λ i. IsCharBoundary text i) (sym e) (IsCharBoundary-after_ascii text (at + end) u (omega (arith, some, size)) (omega (arith, first)))

-- what stands in front
pub front_none : (text : List ℕ) (at : ℕ) → length text ≤ at → front_of (drop at text) ≡ wrong
unfolding front_of
front_none text at le = at_drop_all front_of text at le

front_open : (text : List ℕ) (at : ℕ) → at < length text →
    front_of (drop at text)
    ≡ (if get_or text at 0 == 10
    then feed (drop (at + 1) text)
    else (if starts_with eqb (drop at text) (codes "//")
    then skip (drop (line_len (drop at text)) (drop at text))
    else (if get_or text at 0 == 93 then ends else front_after_blank (drop at text))))
unfolding front_of
front_open text at lt =
    let d : drop at text ≡ get_or text at 0 ∷ drop (at + 1) text = drop_more text at 0 lt in
    ap front_of d
    ∙ ap
    (λ x.
    if get_or text at 0 == 10
    then feed (drop (at + 1) text)
    else (if starts_with eqb x (codes "//")
    then skip (drop (line_len x) x)
    else (if get_or text at 0 == 93 then ends else front_after_blank x)))
    (sym d)

pub front_feed : (text : List ℕ) (at : ℕ) → at < length text → (get_or text at 0 == 10) ≡ true → front_of (drop at text) ≡ feed (drop (at + 1) text)
front_feed text at lt h = front_open text at lt ∙ cond-true (get_or text at 0 == 10) _ _ h

pub front_comment : (text : List ℕ) (at : ℕ) → at < length text → (get_or text at 0 == 10) ≡ false → starts_with eqb (drop at text) (codes "//") ≡ true →
    front_of (drop at text) ≡ skip (drop (at + line_len (drop at text)) text)
front_comment text at lt n s =
    front_open text at lt ∙ cond-false (get_or text at 0 == 10) _ _ n ∙ cond-true (starts_with eqb (drop at text) (codes "//")) _ _ s
    ∙ ap (λ x. skip x) (drop-drop (line_len (drop at text)) at text)

front_third : (text : List ℕ) (at : ℕ) → at < length text → (get_or text at 0 == 10) ≡ false → starts_with eqb (drop at text) (codes "//") ≡ false →
    front_of (drop at text) ≡ (if get_or text at 0 == 93 then ends else front_after_blank (drop at text))
front_third text at lt n s =
    front_open text at lt ∙ cond-false (get_or text at 0 == 10) _ _ n ∙ cond-false (starts_with eqb (drop at text) (codes "//")) _ _ s

pub front_ends : (text : List ℕ) (at : ℕ) → at < length text → (get_or text at 0 == 10) ≡ false → starts_with eqb (drop at text) (codes "//") ≡ false → (get_or text at 0 == 93) ≡ true →
    front_of (drop at text) ≡ ends
front_ends text at lt n s h = front_third text at lt n s ∙ cond-true (get_or text at 0 == 93) _ _ h

pub front_blank : (text : List ℕ) (at : ℕ) → at < length text → (get_or text at 0 == 10) ≡ false → starts_with eqb (drop at text) (codes "//") ≡ false → (get_or text at 0 == 93) ≡ false →
    0 < blank_len (drop at text) → front_of (drop at text) ≡ skip (drop (at + blank_len (drop at text)) text)
front_blank text at lt n s e b =
    front_third text at lt n s ∙ cond-false (get_or text at 0 == 93) _ _ e ∙ cond-true (ltb 0 (blank_len (drop at text))) _ _ (lt-ltb 0 (blank_len (drop at text)) b)
    ∙ ap (λ x. skip x) (drop-drop (blank_len (drop at text)) at text)

pub front_entry : (text : List ℕ) (at : ℕ) (o : Option (ℤ × List ℕ)) → at < length text → (get_or text at 0 == 10) ≡ false → starts_with eqb (drop at text) (codes "//") ≡ false → (get_or text at 0 == 93) ≡ false →
    blank_len (drop at text) ≡ 0 → entry_in (drop at text) ≡ o → front_of (drop at text) ≡ entry_front o
front_entry text at o lt n s e b h =
    front_third text at lt n s ∙ cond-false (get_or text at 0 == 93) _ _ e
    ∙ cond-false (ltb 0 (blank_len (drop at text))) _ _ (ap (λ k. ltb 0 k) b) ∙ ap entry_front h

-- a table of which some numbers are read
pub record SoFar (text : List ℕ) (n at : ℕ) (at_front : Bool) (numbers : List ℤ) (all : Option Table) : Type 0 where
  pub at_in : IsCharBoundary text at
  pub same : (entries_within n at_front (drop at text) >>= λ t. Some (numbers ++ t.0, t.1)) ≡ all

bind_same : (o : Option Table) → (o >>= λ t. Some ([] ++ t.0, t.1)) ≡ o
bind_same None = refl
bind_same (Some t) = refl

abbrev behind : List ℤ → Option Table → Option Table
behind numbers o = o >>= λ t. Some (numbers ++ t.0, t.1)

abbrev with_first : ℤ → Option Table → Option Table
with_first z o = o >>= λ t. Some (with_number z t)

bind_push : (o : Option Table) (numbers : List ℤ) (z : ℤ) → behind (numbers ++ z ∷ []) o ≡ behind numbers (with_first z o)
bind_push None numbers z = refl
bind_push (Some t) numbers z = ap (λ (l : List ℤ). Some (l, t.1)) (append_assoc numbers (z ∷ []) t.0)

within_goes : (m n : ℕ) (at_front : Bool) (text : List ℕ) (f : Front) → m ≡ n + 1 → front_of text ≡ f → entries_within m at_front text ≡ goes_on_after (entries_within n) at_front text f
unfolding entries_within
within_goes m n at_front text f e h =
    let next : m ≡ suc n = omega (arith, e) in
    ap (λ k. entries_within k at_front text) next ∙ ap (goes_on_after (entries_within n) at_front text) h

pub so_far_start : (text : List ℕ) (from : ℕ) → IsCharBoundary text from → SoFar text (length text - from) from true [] (entries (drop from text))
unfolding entries
so_far_start text from b = record {
  at_in = b;
  same = bind_same (entries_within (length text - from) true (drop from text)) ∙ ap (λ n. entries_within n true (drop from text)) (sym (length-drop from text));
}

pub so_far_entry : (text : List ℕ) (m n at next : ℕ) (at_front : Bool) (numbers new : List ℤ) (z : ℤ) (all : Option Table) → SoFar text m at at_front numbers all → m ≡ n + 1 →
    front_of (drop at text) ≡ found_entry z (drop next text) → IsCharBoundary text next → new ≡ numbers ++ z ∷ [] → SoFar text n next false new all
so_far_entry text m n at next at_front numbers new z all s e f b is = record {
  at_in = b;
  same = ap (λ (l : List ℤ). entries_within n false (drop next text) >>= λ t. Some (l ++ t.0, t.1)) is
      ∙ bind_push (entries_within n false (drop next text)) numbers z
      ∙ ap (λ (o : Option Table). o >>= λ t. Some (numbers ++ t.0, t.1)) (sym (within_goes m n at_front (drop at text) (found_entry z (drop next text)) e f))
      ∙ s.same;
}

pub so_far_line : (text : List ℕ) (m n at next : ℕ) (at_front : Bool) (numbers : List ℤ) (all : Option Table) → SoFar text m at at_front numbers all → m ≡ n + 1 →
    front_of (drop at text) ≡ feed (drop next text) → IsCharBoundary text next → SoFar text n next true numbers all
so_far_line text m n at next at_front numbers all s e f b = record {
  at_in = b;
  same = ap (λ (o : Option Table). o >>= λ t. Some (numbers ++ t.0, t.1)) (sym (within_goes m n at_front (drop at text) (feed (drop next text)) e f)) ∙ s.same;
}

pub so_far_skip : (text : List ℕ) (m n at next : ℕ) (at_front : Bool) (numbers : List ℤ) (all : Option Table) → SoFar text m at at_front numbers all → m ≡ n + 1 →
    front_of (drop at text) ≡ skip (drop next text) → IsCharBoundary text next → SoFar text n next at_front numbers all
so_far_skip text m n at next at_front numbers all s e f b = record {
  at_in = b;
  same = ap (λ (o : Option Table). o >>= λ t. Some (numbers ++ t.0, t.1)) (sym (within_goes m n at_front (drop at text) (skip (drop next text)) e f)) ∙ s.same;
}

pub so_far_ends : (text rest : List ℕ) (m n at : ℕ) (at_front : Bool) (numbers : List ℤ) → SoFar text m at at_front numbers (entries rest) → m ≡ n + 1 →
    front_of (drop at text) ≡ ends → ReadsTable rest numbers (drop at text) at_front
so_far_ends text rest m n at true numbers s e f =
    sym s.same ∙ ap (λ (o : Option Table). o >>= λ t. Some (numbers ++ t.0, t.1)) (within_goes m n true (drop at text) ends e f)
    ∙ ap (λ (l : List ℤ). Some (l, drop at text)) (append-nil numbers)
so_far_ends text rest m n at false numbers s e f =
    sym s.same ∙ ap (λ (o : Option Table). o >>= λ t. Some (numbers ++ t.0, t.1)) (within_goes m n false (drop at text) ends e f)

pub so_far_wrong : (text rest left : List ℕ) (m n at : ℕ) (at_front : Bool) (numbers : List ℤ) → SoFar text m at at_front numbers (entries rest) → m ≡ n + 1 →
    front_of (drop at text) ≡ wrong → ReadsTable rest numbers left false
so_far_wrong text rest left m n at at_front numbers s e f =
    sym s.same ∙ ap (λ (o : Option Table). o >>= λ t. Some (numbers ++ t.0, t.1)) (within_goes m n at_front (drop at text) wrong e f)

pub so_far_over : (text rest left : List ℕ) (m at : ℕ) (at_front : Bool) (numbers : List ℤ) → SoFar text m at at_front numbers (entries rest) → m ≡ 0 → ReadsTable rest numbers left false
unfolding entries_within
so_far_over text rest left m at at_front numbers s e =
    sym s.same ∙ ap (λ k. entries_within k at_front (drop at text) >>= λ t. Some (numbers ++ t.0, t.1)) e

-- an entry, or nothing of a table, as the code finds it behind blanks
pub entry_step : (text : List ℕ) (at : ℕ) (found : RowStep) → at < length text → (get_or text at 0 == 10) ≡ false → starts_with eqb (drop at text) (codes "//") ≡ false →
    (get_or text at 0 == 93) ≡ false → blank_len (drop at text) ≡ 0 → IsEntryAt text at found → IsFront text at found
entry_step text at (step.Entry z next) lt n s e b h = (front_entry text at (Some (z, drop next text)) lt n s e b h.0, h.1)
entry_step text at step.Wrong lt n s e b h = front_entry text at None lt n s e b h
entry_step text at (step.Line next) lt n s e b h = absurd h
entry_step text at (step.Skip next) lt n s e b h = absurd h
entry_step text at step.End lt n s e b h = absurd h

-- what stands in front takes something off
abbrev pub IsShorter : ℕ → Front → Type 0
IsShorter n (feed r) = length r < n
IsShorter n (skip r) = length r < n
IsShorter n ends = Unit {0}
IsShorter n (found_entry z r) = length r < n
IsShorter n wrong = Unit {0}

drop_shorter : (k b : ℕ) (t : List ℕ) → 0 < k → length (drop k (b ∷ t)) < length (b ∷ t)
drop_shorter k b t some = let e = length-drop k (b ∷ t) in omega (arith, some, e)

comment_shorter : (b : ℕ) (t : List ℕ) → (b == 10) ≡ false → length (drop (line_len (b ∷ t)) (b ∷ t)) < length (b ∷ t)
comment_shorter b t n =
    let on : line_len (b ∷ t) ≡ 1 + line_len t = cond-true (is_text b) (1 + line_len t) 0 (not_from_false _ n) in
    drop_shorter (line_len (b ∷ t)) b t (omega (arith, on))

entry_shorter : (text : List ℕ) (o : Option ℤ) → number_of (take (number_end text) text) ≡ o → IsShorter (length text) (entry_front (entry_in text))
entry_shorter text None e = subst (λ x. IsShorter (length text) (entry_front x)) (sym (entry_none text e)) tt
entry_shorter text (Some z) e =
    let y : List ℕ = drop (number_end text) text in
    elim (cases_Bool (starts_with eqb y (codes ","))) [
      | inl s ↦
          let comma : y ≡ 44 ∷ drop 1 y = starts_ok (codes ",") y s in
          let size : length y ≡ suc (length (drop 1 y)) = ap length comma in
          let whole = length-drop (number_end text) text in
          subst (λ r. IsShorter (length text) (entry_front r)) (sym (entry_some text z e s)) (omega (arith, size, whole))
      | inr n ↦ subst (λ x. IsShorter (length text) (entry_front x)) (sym (entry_open text z e n)) tt
    ]

front_shorter : (text : List ℕ) → IsShorter (length text) (front_of text)
unfolding front_of
front_shorter [] = tt
front_shorter (b ∷ t) =
    cond_both (b == 10) (feed t) (cond (starts_with eqb (b ∷ t) (codes "//")) (skip (drop (line_len (b ∷ t)) (b ∷ t))) (cond (b == 93) ends (front_after_blank (b ∷ t)))) (λ f. IsShorter (length (b ∷ t)) f)
    (λ y. omega arith)
    (λ n.
    cond_both (starts_with eqb (b ∷ t) (codes "//")) (skip (drop (line_len (b ∷ t)) (b ∷ t))) (cond (b == 93) ends (front_after_blank (b ∷ t))) (λ f. IsShorter (length (b ∷ t)) f)
    (λ s. comment_shorter b t n)
    (λ s.
    cond_both (b == 93) ends (front_after_blank (b ∷ t)) (λ f. IsShorter (length (b ∷ t)) f)
    (λ e. tt)
    (λ e.
    cond_both (ltb 0 (blank_len (b ∷ t))) (skip (drop (blank_len (b ∷ t)) (b ∷ t))) (entry_front (entry_in (b ∷ t))) (λ f. IsShorter (length (b ∷ t)) f)
    (λ k. drop_shorter (blank_len (b ∷ t)) b t (ltb-true 0 (blank_len (b ∷ t)) k))
    (λ k. entry_shorter (b ∷ t) (number_of (take (number_end (b ∷ t)) (b ∷ t))) refl))))

-- a place that is reached from another, within so many steps of the end of the text
pub record Reached (text : List ℕ) (from n at : ℕ) (at_front : Bool) : Type 0 where
  pub far : length text ≤ n + at
  pub broken : (rest : List ℕ) → IsBroken at_front (drop at text) rest → IsBroken true (drop from text) rest

pub reached_start : (text : List ℕ) (from : ℕ) → from ≤ length text → Reached text from (length text - from) from true
reached_start text from le = record { far = omega arith; broken = λ rest b. b }

shorter_by : (text : List ℕ) (at : ℕ) (f : Front) → front_of (drop at text) ≡ f → IsShorter (length (drop at text)) f
shorter_by text at f e = subst (λ (x : Front). IsShorter (length (drop at text)) x) e (front_shorter (drop at text))

goes_far : (text : List ℕ) (m n at next : ℕ) → length text ≤ m + at → m ≡ n + 1 → next ≤ length text → length (drop next text) < length (drop at text) → length text ≤ n + next
goes_far text m n at next far e le lt =
    let a = length-drop at text in
    let b = length-drop next text in
    omega (arith, a, b, lt, le, far, e)

pub reached_entry : (text : List ℕ) (from m n at next : ℕ) (at_front : Bool) (z : ℤ) → Reached text from m at at_front → m ≡ n + 1 → front_of (drop at text) ≡ found_entry z (drop next text) → IsCharBoundary text next → Reached text from n next false
reached_entry text from m n at next at_front z r e f b = record {
  far = goes_far text m n at next r.far e b.0 (shorter_by text at (found_entry z (drop next text)) f);
  broken = λ rest x. r.broken rest (broken_entry at_front z (drop at text) (drop next text) rest f x);
}

pub reached_line : (text : List ℕ) (from m n at next : ℕ) (at_front : Bool) → Reached text from m at at_front → m ≡ n + 1 → front_of (drop at text) ≡ feed (drop next text) → IsCharBoundary text next → Reached text from n next true
reached_line text from m n at next at_front r e f b = record {
  far = goes_far text m n at next r.far e b.0 (shorter_by text at (feed (drop next text)) f);
  broken = λ rest x. r.broken rest (broken_feed at_front (drop at text) (drop next text) rest f x);
}

pub reached_skip : (text : List ℕ) (from m n at next : ℕ) (at_front : Bool) → Reached text from m at at_front → m ≡ n + 1 → front_of (drop at text) ≡ skip (drop next text) → IsCharBoundary text next → Reached text from n next at_front
reached_skip text from m n at next at_front r e f b = record {
  far = goes_far text m n at next r.far e b.0 (shorter_by text at (skip (drop next text)) f);
  broken = λ rest x. r.broken rest (broken_skip at_front (drop at text) (drop next text) rest f x);
}

-- where the table is broken
pub reached_wrong : (text : List ℕ) (from n at : ℕ) (at_front : Bool) → Reached text from n at at_front → front_of (drop at text) ≡ wrong → IsBroken true (drop from text) (drop at text)
reached_wrong text from n at at_front r f = r.broken (drop at text) (broken_here at_front (drop at text) f)

pub reached_over : (text : List ℕ) (from n at : ℕ) (at_front : Bool) → Reached text from n at at_front → n ≡ 0 → IsBroken true (drop from text) (drop at text)
reached_over text from n at at_front r e = let far = r.far in reached_wrong text from n at at_front r (front_none text at (omega (arith, far, e)))

pub reached_end : (text : List ℕ) (from n at : ℕ) (at_front : Bool) → Reached text from n at at_front → front_of (drop at text) ≡ ends → OnFalse at_front (IsBroken true (drop from text) (drop at text))
reached_end text from n at at_front r f =
    OnFalse_from at_front (IsBroken true (drop from text) (drop at text)) (λ b. r.broken (drop at text) (subst (λ (x : Bool). IsBroken x (drop at text) (drop at text)) (sym b) (broken_end (drop at text) f)))
