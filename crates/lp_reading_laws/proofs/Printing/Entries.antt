-- Reading the entries of a table, piece by piece.
use Rattle.std.proofs.Common.{◌≡◌, ℕ, ℤ, ◌+◌, ◌==◌, ◌<◌, ◌≤◌, zero, suc, Bool, true, false, List, [], ◌∷◌, ◌++◌, length, drop, replicate, codes, Option, Some, refl, sym, ap, ◌∙◌, subst, arith, eqb, inl, inr, ◌⊎◌, ⊎_elim, append_assoc, append-nil, length-append}
use Rattle.std.specs.Fmt.{signed_decimal}
use Rattle.std.specs.Str.{chars}
use Rattle.std.specs.Char.{is_whitespace, len_utf8}
use Rattle.std.proofs.lemmas.Bool.{and_left, or_cases, cond-true, cond-false, eqb-true, ne_eqb, not-true, leb-true, and_parts}
use Rattle.lp_texts.specs.OneLine.{begins}
use Rattle.lp_spelling.specs.Counting.{is_skipped}
use Rattle.lp_spelling.specs.HoleEnds.{is_digit}
use Rattle.lp_spelling.specs.LineReading.{◌>>=◌}
use Rattle.lp_spelling.specs.TableReading.{blank_of, blank_len, char_blank, Front, entry_front, front_of, Table, with_number, goes_on_after, entries_within, entries}
use Rattle.lp_spelling.specs.TableReading.Front.{feed, skip, ends, found_entry, wrong}
use Rattle.lp_spelling.proofs.Reading.{starts_ok}
use Rattle.lp_spelling.proofs.Tables.{front_entry, front_blank, front_comment}
use Rattle.lp_reading_laws.specs.Printing.LineTexts.{is_on_line}
use Rattle.lp_reading_laws.specs.Printing.LineTests.{is_good}
use Rattle.lp_reading_laws.proofs.Printing.Lining.{laid, line_left}
use Rattle.lp_reading_laws.proofs.Printing.Fronts.{good_solid, digit_good}
use Rattle.lp_reading_laws.proofs.Printing.Numbers.{IsSmall, entry_there, opens}

-- with steps enough this is read, where nothing or something stands before on the line
abbrev pub Reads : Bool → List ℕ → Table → Type 0
Reads at_front text table = (n : ℕ) → length text ≤ n → entries_within n at_front text ≡ Some table

goes : (n : ℕ) (f : Bool) (text : List ℕ) (fr : Front) → front_of text ≡ fr → entries_within (suc n) f text ≡ goes_on_after (entries_within n) f text fr
unfolding entries_within
goes n f text fr e = ap (goes_on_after (entries_within n) f text) e

reads_end : (x : List ℕ) → Reads true (93 ∷ x) ([], 93 ∷ x)
unfolding front_of
reads_end x zero h = absurd (omega arith)
reads_end x (suc n) h = goes n true (93 ∷ x) ends refl

reads_feed : (f : Bool) (rest : List ℕ) (t : Table) → Reads true rest t → Reads f (10 ∷ rest) t
unfolding front_of
reads_feed f rest t r zero h = absurd (omega arith)
reads_feed f rest t r (suc n) h = goes n f (10 ∷ rest) (feed rest) refl ∙ r n (omega arith)

blank_one : (rest : List ℕ) → blank_len (32 ∷ rest) ≡ 1
unfolding chars
blank_one [] = refl
blank_one (b ∷ rest) = refl

front_one : (rest : List ℕ) → front_of (32 ∷ rest) ≡ skip rest
front_one rest =
    let one = blank_one rest in
    let at : 0 + blank_len (32 ∷ rest) ≡ 1 = omega (arith, one) in
    front_blank (32 ∷ rest) 0 (omega arith) refl refl refl (omega (arith, one)) ∙ ap (λ n. skip (drop n (32 ∷ rest))) at

reads_blank : (f : Bool) (rest : List ℕ) (t : Table) → Reads f rest t → Reads f (32 ∷ rest) t
reads_blank f rest t r zero h = absurd (omega arith)
reads_blank f rest t r (suc n) h = goes n f (32 ∷ rest) (skip rest) (front_one rest) ∙ r n (omega arith)

reads_blanks : (k : ℕ) (f : Bool) (rest : List ℕ) (t : Table) → Reads f rest t → Reads f (replicate k 32 ++ rest) t
reads_blanks zero f rest t r = r
reads_blanks (suc k) f rest t r = reads_blank f (replicate k 32 ++ rest) t (reads_blanks k f rest t r)

-- a comment up to its line feed
front_over : (c rest : List ℕ) → is_on_line (47 ∷ 47 ∷ c) ≡ true → front_of (47 ∷ 47 ∷ (c ++ 10 ∷ rest)) ≡ skip (10 ∷ rest)
front_over c rest h =
    front_comment (47 ∷ 47 ∷ (c ++ 10 ∷ rest)) 0 (omega arith) refl refl
    ∙ ap (λ n. skip (drop n (47 ∷ 47 ∷ (c ++ 10 ∷ rest)))) (omega arith)
    ∙ ap (λ x. skip x) (line_left (47 ∷ 47 ∷ c) rest h)

reads_comment : (f : Bool) (c rest : List ℕ) (t : Table) → is_on_line (47 ∷ 47 ∷ c) ≡ true → Reads f (10 ∷ rest) t → Reads f (47 ∷ 47 ∷ (c ++ 10 ∷ rest)) t
reads_comment f c rest t h r zero l = absurd (omega arith)
reads_comment f c rest t h r (suc n) l =
    let size = length-append c (10 ∷ rest) in
    goes n f (47 ∷ 47 ∷ (c ++ 10 ∷ rest)) (skip (10 ∷ rest)) (front_over c rest h) ∙ r n (omega (arith, size))

-- a text that doesn't count, and the end of its line
reads_skipped : (f : Bool) (c rest : List ℕ) (t : Table) → is_on_line c ≡ true → is_skipped c ≡ true → Reads true rest t → Reads f (c ++ 10 ∷ rest) t
reads_skipped f [] rest t o h r = reads_feed f rest t r
reads_skipped f (b ∷ c) rest t o h r =
    ⊎_elim
    (λ e. absurd (omega (arith, eqb-true (length (b ∷ c)) 0 e)))
    (λ s.
    let e : b ∷ c ≡ 47 ∷ 47 ∷ drop 2 (b ∷ c) = starts_ok (codes "//") (b ∷ c) s in
    subst (λ x. Reads f (x ++ 10 ∷ rest) t) (sym e)
    (reads_comment f (drop 2 (b ∷ c)) rest t (ap is_on_line (sym e) ∙ o) (reads_feed f rest t r)))
    (or_cases (length (b ∷ c) == 0) _ h)

-- an entry
first_byte : (b : ℕ) → (b ≡ 45) ⊎ (is_digit b ≡ true) → is_good b ≡ true
first_byte b (inl e) = ap is_good e
first_byte b (inr d) = digit_good b d

not_end : (b : ℕ) → (b ≡ 45) ⊎ (is_digit b ≡ true) → b < 93
not_end b (inl e) = omega (arith, e)
not_end b (inr d) = let h = leb-true b 57 (and_parts (Rattle.std.proofs.Math.Dec.leb 48 b) (Rattle.std.proofs.Math.Dec.leb b 57) d).1 in omega (arith, h)

not_feed : (b : ℕ) → (b ≡ 45) ⊎ (is_digit b ≡ true) → 10 < b
not_feed b (inl e) = omega (arith, e)
not_feed b (inr d) = let h = leb-true 48 b (and_parts (Rattle.std.proofs.Math.Dec.leb 48 b) (Rattle.std.proofs.Math.Dec.leb b 57) d).0 in omega (arith, h)

blank_none : (cs : List ℕ) → begins is_whitespace cs ≡ false → blank_of cs ≡ 0
blank_none [] h = refl
blank_none (c ∷ cs) h = cond-false (is_whitespace c) (len_utf8 c) 0 h

front_number : (b : ℕ) (x : List ℕ) (o : Option (ℤ × List ℕ)) → (b ≡ 45) ⊎ (is_digit b ≡ true) → Rattle.lp_spelling.specs.TableReading.entry_in (b ∷ x) ≡ o → front_of (b ∷ x) ≡ entry_front o
unfolding chars
front_number b x o w e =
    let s = good_solid b x (first_byte b w) in
    let lo = not_feed b w in
    let hi = not_end b w in
    front_entry (b ∷ x) 0 o (omega arith) (ne_eqb b 10 (λ k. omega (arith, k, lo)))
    (and_left (eqb 47 b) _ (ne_eqb 47 b (λ k. Rattle.std.proofs.lemmas.Bool.eqb-false b 47 s.plain (sym k))))
    (ne_eqb b 93 (λ k. omega (arith, k, hi)))
    (blank_none (chars (b ∷ x)) s.shown) e

front_signed : (z : ℤ) (rest : List ℕ) → IsSmall z → front_of (signed_decimal z ++ 44 ∷ rest) ≡ found_entry z rest
front_signed z rest h =
    let o = opens z h in
    let whole : signed_decimal z ++ 44 ∷ rest ≡ o.byte ∷ (o.others ++ 44 ∷ rest) = ap (λ x. x ++ 44 ∷ rest) o.is in
    ap front_of whole ∙ front_number o.byte (o.others ++ 44 ∷ rest) (Some (z, rest)) o.within (ap Rattle.lp_spelling.specs.TableReading.entry_in (sym whole) ∙ entry_there z rest h)

reads_entry : (f : Bool) (z : ℤ) (rest : List ℕ) (t : Table) → IsSmall z → Reads false rest t → Reads f (signed_decimal z ++ 44 ∷ rest) (with_number z t)
reads_entry f z rest t h r zero l = let size = length-append (signed_decimal z) (44 ∷ rest) in absurd (omega (arith, size, l))
reads_entry f z rest t h r (suc n) l =
    let size = length-append (signed_decimal z) (44 ∷ rest) in
    goes n f (signed_decimal z ++ 44 ∷ rest) (found_entry z rest) (front_signed z rest h)
    ∙ ap (λ (o : Option Table). o >>= λ t'. Some (with_number z t')) (r n (omega (arith, size, l)))

-- what stands in front gives these numbers, whatever follows
abbrev pub Gives : Bool → List ℕ → List ℤ → List ℕ → Type 0
Gives f text numbers rest = (t : Table) → Reads true rest t → Reads f text (numbers ++ t.0, t.1)

pub gives_then : (f : Bool) (a b c : List ℕ) (xs ys : List ℤ) → Gives f a xs b → Gives true b ys c → Gives f a (xs ++ ys) c
gives_then f a b c xs ys g h t r =
    subst (λ (l : List ℤ). Reads f a (l, t.1)) (sym (append_assoc xs ys t.0)) (g (ys ++ t.0, t.1) (h t r))

-- a line that doesn't count
pub gives_none : (k : ℕ) (c rest : List ℕ) → is_on_line c ≡ true → is_skipped c ≡ true → Gives true (laid k c rest) [] rest
gives_none k c rest o h t r =
    subst (λ x. Reads true x t) (sym (append_assoc (replicate k 32) c (10 ∷ rest))) (reads_blanks k true (c ++ 10 ∷ rest) t (reads_skipped true c rest t o h r))

-- a line with one entry, and blanks and a comment behind it
pub gives_one : (k j : ℕ) (z : ℤ) (c rest : List ℕ) → IsSmall z → is_on_line c ≡ true → is_skipped c ≡ true →
    Gives true (laid k (signed_decimal z ++ (44 ∷ (replicate j 32 ++ c))) rest) (z ∷ []) rest
gives_one k j z c rest h o s t r =
    let behind = reads_blanks j false (c ++ 10 ∷ rest) t (reads_skipped false c rest t o s r) in
    let entry = reads_blanks k true (signed_decimal z ++ 44 ∷ (replicate j 32 ++ (c ++ 10 ∷ rest))) (with_number z t) (reads_entry true z (replicate j 32 ++ (c ++ 10 ∷ rest)) t h behind) in
    let whole : laid k (signed_decimal z ++ (44 ∷ (replicate j 32 ++ c))) rest ≡ replicate k 32 ++ (signed_decimal z ++ 44 ∷ (replicate j 32 ++ (c ++ 10 ∷ rest))) = simp append_assoc in
    subst (λ x. Reads true x (with_number z t)) (sym whole) entry

-- entries one after another on a line
pub gives_more : (f : Bool) (z : ℤ) (text rest : List ℕ) (numbers : List ℤ) → IsSmall z → Gives false text numbers rest → Gives f (signed_decimal z ++ 44 ∷ text) (z ∷ numbers) rest
gives_more f z text rest numbers h g t r = reads_entry f z text (numbers ++ t.0, t.1) h (g t r)

pub gives_feed : (f : Bool) (rest : List ℕ) → Gives f (10 ∷ rest) [] rest
gives_feed f rest t r = reads_feed f rest t r

pub gives_blanks : (k : ℕ) (f : Bool) (text rest : List ℕ) (numbers : List ℤ) → Gives f text numbers rest → Gives f (replicate k 32 ++ text) numbers rest
gives_blanks k f text rest numbers g t r = reads_blanks k f text (numbers ++ t.0, t.1) (g t r)

-- the whole table, up to its `]`
pub gives_entries : (k : ℕ) (text x : List ℕ) (numbers : List ℤ) → Gives true text numbers (replicate k 32 ++ 93 ∷ x) → entries text ≡ Some (numbers, 93 ∷ x)
unfolding entries
gives_entries k text x numbers g =
    g ([], 93 ∷ x) (reads_blanks k true (93 ∷ x) ([], 93 ∷ x) (reads_end x)) (length text) (omega arith)
    ∙ ap (λ (l : List ℤ). Some (l, 93 ∷ x)) (append-nil numbers)
