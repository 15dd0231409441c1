-- The entries of a table are read alike in each text that agrees up to the line on which it ends.
use Rattle.std.proofs.Common.{◌≡◌, ℕ, ℤ, ◌+◌, ◌-◌, ◌==◌, ◌<◌, ◌≤◌, zero, suc, Bool, true, false, cond, inl, inr, List, [], ◌∷◌, ◌++◌, length, take, drop, codes, Option, Some, None, refl, sym, ap, ◌∙◌, subst, arith, eqb, ltb, append_assoc, length-append, length-drop, length-take, take-append-drop}
use Rattle.std.specs.List.{starts_with, prefix_len}
use Rattle.std.specs.Char.{encode_utf8}
use Rattle.std.specs.Str.{IsUtf8, IsCharBoundary, chars, encode_utf8_all}
use Rattle.std.proofs.lemmas.Bool.{cases_Bool, cond-true, cond-false, cond_both, eqb-true, ltb-true, not_from_false}
use Rattle.std.proofs.lemmas.List.{take-append-le, drop-append-le}
use Rattle.std.proofs.lemmas.List.Sums.{prefix_len-le-length}
use Rattle.std.proofs.lemmas.Str.{encodes-chars, chars-append, IsUtf8-append, IsUtf8-drop}
use Rattle.lp_spelling.specs.Counting.{is_text, line_len, feeds}
use Rattle.lp_spelling.specs.HoleEnds.{is_digit}
use Rattle.lp_spelling.specs.LineReading.{◌>>=◌, after}
use Rattle.lp_spelling.specs.TableReading.{number_of, sign_len, number_end, entry_in, blank_of, blank_len, Front, entry_front, front_after_blank, front_of, Table, with_number, goes_on_after, entries_within, entries}
use Rattle.lp_spelling.specs.TableReading.Front.{feed, skip, ends, found_entry, wrong}
use Rattle.lp_spelling.proofs.Counting.{line_boundary}
use Rattle.lp_spelling.proofs.Reading.{starts_ok}
use Rattle.lp_spelling.proofs.Tables.{number_cut, char_cut, entry_none, entry_open, entry_some}
use Rattle.lp_local.specs.Agreeing.{Agree, lines_before}
use Rattle.lp_local.proofs.Agreeing.{feeds_feed, feeds-append, agree_front, agree_all, feed_front, split_first, line_left, line_rest, SameLine, same_line}
use Rattle.lp_local.proofs.Settling.{Left, behind_byte, from_byte, before_byte}

-- a step and what is left behind it
pub record StepLeft (text rest : List ℕ) : Type 0 where
  pub utf8 : IsUtf8 rest
  pub front : List ℕ
  pub whole : text ≡ front ++ rest
  pub some : 0 < length front

abbrev pub GoesTo : List ℕ → Front → Type 0
GoesTo text (feed rest) = StepLeft text rest
GoesTo text (skip rest) = StepLeft text rest
GoesTo text ends = Unit {0}
GoesTo text (found_entry z rest) = StepLeft text rest
GoesTo text wrong = Unit {0}

drop_left : (k : ℕ) (text : List ℕ) → IsUtf8 text → IsCharBoundary text k → 0 < k → 0 < length text → StepLeft text (drop k text)
drop_left k text u cut pos some =
    let size = length-take k text in
    record { utf8 = IsUtf8-drop text k u cut; front = take k text; whole = sym (take-append-drop k text); some = omega (arith, size) }

line_on : (b : ℕ) (t : List ℕ) → (b == 10) ≡ false → line_len (b ∷ t) ≡ 1 + line_len t
line_on b t n = cond-true (is_text b) (1 + line_len t) 0 (not_from_false _ n)

comment_left : (b : ℕ) (t : List ℕ) → IsUtf8 (b ∷ t) → (b == 10) ≡ false → StepLeft (b ∷ t) (drop (line_len (b ∷ t)) (b ∷ t))
comment_left b t u n =
    let k : ℕ = line_len (b ∷ t) in
    let on : line_len (b ∷ t) ≡ 1 + line_len t = line_on b t n in
    let e : 0 + line_len (b ∷ t) ≡ line_len (b ∷ t) = omega arith in
    drop_left k (b ∷ t) u (subst (λ i. IsCharBoundary (b ∷ t) i) e (line_boundary (b ∷ t) 0 (omega arith))) (omega (arith, on)) (omega arith)

-- the first character of a text
first_char : (b : ℕ) (t : List ℕ) → IsUtf8 (b ∷ t) → (c : ℕ) × (rest : List ℕ) × (chars (b ∷ t) ≡ c ∷ rest) × (b ∷ t ≡ encode_utf8 c ++ encode_utf8_all rest)
first_char b t u = split_chars (chars (b ∷ t)) b t refl (encodes-chars (b ∷ t) u)
  where
    split_chars : (cs : List ℕ) (b : ℕ) (t : List ℕ) → chars (b ∷ t) ≡ cs → encode_utf8_all (chars (b ∷ t)) ≡ b ∷ t → (c : ℕ) × (rest : List ℕ) × (chars (b ∷ t) ≡ c ∷ rest) × (b ∷ t ≡ encode_utf8 c ++ encode_utf8_all rest)
    split_chars [] b t e h = let never : [] ≡ b ∷ t = ap encode_utf8_all (sym e) ∙ h in absurd cc
    split_chars (c ∷ rest) b t e h = (c, rest, e, sym h ∙ ap encode_utf8_all e)

blank_cut : (b : ℕ) (t : List ℕ) → IsUtf8 (b ∷ t) → IsCharBoundary (b ∷ t) (blank_len (b ∷ t))
blank_cut b t u = let f = first_char b t u in char_cut (b ∷ t) (encode_utf8_all f.1) f.0 (blank_len (b ∷ t)) u f.3 (ap blank_of f.2)

entry_left : (text : List ℕ) (o : Option ℤ) → IsUtf8 text → number_of (take (number_end text) text) ≡ o → GoesTo text (entry_front (entry_in text))
entry_left text None u e = subst (λ x. GoesTo text (entry_front x)) (sym (entry_none text e)) tt
entry_left text (Some z) u e =
    let y : List ℕ = drop (number_end text) text in
    elim (cases_Bool (starts_with eqb y (codes ","))) [
      | inl s ↦
          let comma : y ≡ 44 ∷ drop 1 y = starts_ok (codes ",") y s in
          let v : IsUtf8 y = IsUtf8-drop text (number_end text) u (number_cut text u) in
          let w : IsUtf8 (drop 1 y) = behind_byte [] 44 (drop 1 y) (omega arith) (subst (λ (x : List ℕ). IsUtf8 x) comma v) in
          let x : List ℕ = take (number_end text) text in
          let whole : text ≡ (x ++ 44 ∷ []) ++ drop 1 y = sym (take-append-drop (number_end text) text) ∙ ap (λ (r : List ℕ). x ++ r) comma ∙ sym (append_assoc x (44 ∷ []) (drop 1 y)) in
          let size = length-append x (44 ∷ []) in
          subst (λ r. GoesTo text (entry_front r)) (sym (entry_some text z e s)) (record { utf8 = w; front = x ++ 44 ∷ []; whole = whole; some = omega (arith, size) })
      | inr n ↦ subst (λ x. GoesTo text (entry_front x)) (sym (entry_open text z e n)) tt
    ]

pub front_left : (text : List ℕ) → IsUtf8 text → GoesTo text (front_of text)
unfolding front_of
front_left [] u = tt
front_left (b ∷ t) u =
    let text : List ℕ = b ∷ t in
    cond_both (b == 10) (feed t) (cond (starts_with eqb (b ∷ t) (codes "//")) (skip (drop (line_len (b ∷ t)) (b ∷ t))) (cond (b == 93) ends (front_after_blank (b ∷ t)))) (λ f. GoesTo (b ∷ t) f)
    (λ y. record { utf8 = behind_byte [] b t (omega (arith, eqb-true b 10 y)) u; front = b ∷ []; whole = refl; some = omega arith })
    (λ n.
    cond_both (starts_with eqb (b ∷ t) (codes "//")) (skip (drop (line_len (b ∷ t)) (b ∷ t))) (cond (b == 93) ends (front_after_blank (b ∷ t))) (λ f. GoesTo (b ∷ t) f)
    (λ s. comment_left b t u n)
    (λ s.
    cond_both (b == 93) ends (front_after_blank (b ∷ t)) (λ f. GoesTo (b ∷ t) f)
    (λ e. tt)
    (λ e.
    cond_both (ltb 0 (blank_len (b ∷ t))) (skip (drop (blank_len (b ∷ t)) (b ∷ t))) (entry_front (entry_in (b ∷ t))) (λ f. GoesTo (b ∷ t) f)
    (λ k. drop_left (blank_len (b ∷ t)) (b ∷ t) u (blank_cut b t u) (ltb-true 0 (blank_len (b ∷ t)) k) (omega arith))
    (λ k. entry_left (b ∷ t) (number_of (take (number_end (b ∷ t)) (b ∷ t))) u refl))))

pub left_step : (text rest last : List ℕ) → StepLeft text rest → Left rest last → Left text last
left_step text rest last s l = record { utf8 = l.utf8; front = s.front ++ l.front; whole = s.whole ∙ ap (λ (x : List ℕ). s.front ++ x) l.whole ∙ sym (append_assoc s.front l.front last) }

-- what is read stands in front of what is left
read_left : (go : Bool → List ℕ → Option Table) (at_front : Bool) (text : List ℕ) (f : Front) (t : Table) → IsUtf8 text → GoesTo text f → goes_on_after go at_front text f ≡ Some t →
    ((g : Bool) (r : List ℕ) (x : Table) → IsUtf8 r → go g r ≡ Some x → Left r x.1) → Left text t.1
read_left go at_front text (feed r) t u s h later = left_step text r t.1 s (later true r t s.utf8 h)
read_left go at_front text (skip r) t u s h later = left_step text r t.1 s (later at_front r t s.utf8 h)
read_left go true text ends t u s h later = let same : ([], text) ≡ t = cc in subst (λ (x : Table). Left text x.1) same (record { utf8 = u; front = []; whole = refl })
read_left go false text ends t u s h later = absurd cc
read_left go at_front text (found_entry z r) t u s h later = of_entry go z text r t (go false r) s refl h (later false r)
  where
    of_entry : (go : Bool → List ℕ → Option Table) (z : ℤ) (text r : List ℕ) (t : Table) (o : Option Table) → StepLeft text r → go false r ≡ o → (o >>= λ table. Some (with_number z table)) ≡ Some t →
        ((x : Table) → IsUtf8 r → go false r ≡ Some x → Left r x.1) → Left text t.1
    of_entry go z text r t None s e h later = absurd cc
    of_entry go z text r t (Some x) s e h later =
        let same : with_number z x ≡ t = cc in
        subst (λ (y : Table). Left text y.1) same (left_step text r x.1 s (later x s.utf8 e))
read_left go at_front text wrong t u s h later = absurd cc

within_left : (m : ℕ) (at_front : Bool) (text : List ℕ) (t : Table) → IsUtf8 text → entries_within m at_front text ≡ Some t → Left text t.1
unfolding entries_within
within_left zero at_front text t u h = absurd cc
within_left (suc m) at_front text t u h = read_left (entries_within m) at_front text (front_of text) t u (front_left text u) h (λ g r x v e. within_left m g r x v e)

-- where there are enough steps for the text, as many do
keeps : (go more : Bool → List ℕ → Option Table) (at_front : Bool) (text : List ℕ) (f : Front) (t : Table) → GoesTo text f → goes_on_after go at_front text f ≡ Some t →
    ((g : Bool) (r : List ℕ) (x : Table) → StepLeft text r → go g r ≡ Some x → more g r ≡ Some x) → goes_on_after more at_front text f ≡ Some t
keeps go more at_front text (feed r) t s h later = later true r t s h
keeps go more at_front text (skip r) t s h later = later at_front r t s h
keeps go more at_front text ends t s h later = h
keeps go more at_front text (found_entry z r) t s h later = of_entry go more z text r t (go false r) s refl h (later false r)
  where
    of_entry : (go more : Bool → List ℕ → Option Table) (z : ℤ) (text r : List ℕ) (t : Table) (o : Option Table) → StepLeft text r → go false r ≡ o → (o >>= λ table. Some (with_number z table)) ≡ Some t →
        ((x : Table) → StepLeft text r → go false r ≡ Some x → more false r ≡ Some x) → (more false r >>= λ table. Some (with_number z table)) ≡ Some t
    of_entry go more z text r t None s e h later = absurd cc
    of_entry go more z text r t (Some x) s e h later = ap (λ (o : Option Table). o >>= λ table. Some (with_number z table)) (later x s e) ∙ h
keeps go more at_front text wrong t s h later = absurd cc

within_enough : (m k : ℕ) (at_front : Bool) (text : List ℕ) (t : Table) → IsUtf8 text → length text ≤ k → entries_within m at_front text ≡ Some t → entries_within k at_front text ≡ Some t
unfolding entries_within front_of
within_enough zero k at_front text t u le h = absurd cc
within_enough (suc m) zero at_front [] t u le h = absurd cc
within_enough (suc m) zero at_front (b ∷ text) t u le h = absurd (omega arith)
within_enough (suc m) (suc k) at_front text t u le h =
    keeps (entries_within m) (entries_within k) at_front text (front_of text) t (front_left text u) h
    (λ g r x s e.
    let size = ap length s.whole ∙ length-append s.front r in
    let some = s.some in
    within_enough m k g r x s.utf8 (omega (arith, size, some, le)) e)

-- a line with its line feed, and more, behind it
abbrev pub more_behind : List ℕ → Front → Front
more_behind q (feed r) = feed (r ++ q)
more_behind q (skip r) = skip (r ++ q)
more_behind q ends = ends
more_behind q (found_entry z r) = found_entry z (r ++ q)
more_behind q wrong = wrong

abbrev more_rest : List ℕ → Option (List ℕ) → Option (List ℕ)
more_rest q None = None
more_rest q (Some r) = Some (r ++ q)

abbrev more_entry : List ℕ → Option (ℤ × List ℕ) → Option (ℤ × List ℕ)
more_entry q None = None
more_entry q (Some e) = Some (e.0, e.1 ++ q)

entry_front_over : (q : List ℕ) (o : Option (ℤ × List ℕ)) → entry_front (more_entry q o) ≡ more_behind q (entry_front o)
entry_front_over q None = refl
entry_front_over q (Some e) = refl

either_over : (q : List ℕ) (b : Bool) (x y : Front) → cond b (more_behind q x) (more_behind q y) ≡ more_behind q (cond b x y)
either_over q true x y = refl
either_over q false x y = refl

-- a sign, digits and `,` are told within their line
sign_over : (line r : List ℕ) → starts_with eqb (line ++ 10 ∷ r) (codes "-") ≡ starts_with eqb line (codes "-")
sign_over [] r = refl
sign_over (b ∷ line) r = refl

slashes_over : (b : ℕ) (line r : List ℕ) → starts_with eqb (b ∷ (line ++ 10 ∷ r)) (codes "//") ≡ starts_with eqb (b ∷ line) (codes "//")
slashes_over b [] r = refl
slashes_over b (c ∷ line) r = refl

digits_over : (line r : List ℕ) → prefix_len is_digit (line ++ 10 ∷ r) ≡ prefix_len is_digit line
digits_over [] r = refl
digits_over (b ∷ line) r = ap (λ k. cond (is_digit b) (1 + k) 0) (digits_over line r)

after_over : (y r : List ℕ) → after (codes ",") (y ++ 10 ∷ r) ≡ more_rest (10 ∷ r) (after (codes ",") y)
unfolding after
after_over [] r = refl
after_over (c ∷ y) r = comma_over (starts_with eqb (c ∷ y) (codes ",")) y (10 ∷ r)
  where
    comma_over : (b : Bool) (y q : List ℕ) → cond b (Some (y ++ q)) None ≡ more_rest q (cond b (Some y) None)
    comma_over true y q = refl
    comma_over false y q = refl

sign_short : (text : List ℕ) → sign_len text ≤ length text
sign_short [] = omega arith
sign_short (b ∷ t) = cond_both (starts_with eqb (b ∷ t) (codes "-")) 1 0 (λ k. k ≤ length (b ∷ t)) (λ y. omega arith) (λ n. omega arith)

end_short : (text : List ℕ) → number_end text ≤ length text
end_short text =
    let a = sign_short text in
    let b = prefix_len-le-length is_digit (drop (sign_len text) text) in
    let c = length-drop (sign_len text) text in
    omega (arith, a, b, c)

end_over : (line r : List ℕ) → number_end (line ++ 10 ∷ r) ≡ number_end line
end_over line r =
    let sign : sign_len (line ++ 10 ∷ r) ≡ sign_len line = ap (λ b. cond b 1 0) (sign_over line r) in
    ap (λ k. k + prefix_len is_digit (drop k (line ++ 10 ∷ r))) sign ∙ ap (λ (x : List ℕ). sign_len line + prefix_len is_digit x) (drop-append-le (sign_len line) line (10 ∷ r) (sign_short line))
    ∙ ap (λ k. sign_len line + k) (digits_over (drop (sign_len line) line) r)

entry_both : (q : List ℕ) (o : Option ℤ) (a : Option (List ℕ)) → (o >>= λ z. more_rest q a >>= λ rest. Some (z, rest)) ≡ more_entry q (o >>= λ z. a >>= λ rest. Some (z, rest))
entry_both q None a = refl
entry_both q (Some z) None = refl
entry_both q (Some z) (Some r) = refl

entry_over : (line r : List ℕ) → entry_in (line ++ 10 ∷ r) ≡ more_entry (10 ∷ r) (entry_in line)
unfolding entry_in
entry_over line r =
    let whole : List ℕ = line ++ 10 ∷ r in
    let n : ℕ = number_end line in
    ap (λ k. number_of (take k whole) >>= λ z. after (codes ",") (drop k whole) >>= λ rest. Some (z, rest)) (end_over line r)
    ∙ ap (λ (x : List ℕ). number_of x >>= λ z. after (codes ",") (drop n whole) >>= λ rest. Some (z, rest)) (take-append-le n line (10 ∷ r) (end_short line))
    ∙ ap (λ (x : List ℕ). number_of (take n line) >>= λ z. after (codes ",") x >>= λ rest. Some (z, rest)) (drop-append-le n line (10 ∷ r) (end_short line))
    ∙ ap (λ (a : Option (List ℕ)). number_of (take n line) >>= λ z. a >>= λ rest. Some (z, rest)) (after_over (drop n line) r)
    ∙ entry_both (10 ∷ r) (number_of (take n line)) (after (codes ",") (drop n line))

-- a blank too
blank_over : (b : ℕ) (t r : List ℕ) → IsUtf8 (b ∷ t) → blank_len (b ∷ (t ++ 10 ∷ r)) ≡ blank_len (b ∷ t)
blank_over b t r u =
    let f = first_char b t u in
    let whole : chars (b ∷ (t ++ 10 ∷ r)) ≡ f.0 ∷ (f.1 ++ chars (10 ∷ r)) = chars-append (b ∷ t) (10 ∷ r) u ∙ ap (λ (x : List ℕ). x ++ chars (10 ∷ r)) f.2 in
    ap blank_of whole ∙ sym (ap blank_of f.2)

blank_short : (b : ℕ) (t : List ℕ) → IsUtf8 (b ∷ t) → blank_len (b ∷ t) ≤ length (b ∷ t)
blank_short b t u = (blank_cut b t u).0

blanks_over : (b : ℕ) (t r : List ℕ) → IsUtf8 (b ∷ t) → front_after_blank (b ∷ (t ++ 10 ∷ r)) ≡ more_behind (10 ∷ r) (front_after_blank (b ∷ t))
blanks_over b t r u =
    let whole : List ℕ = b ∷ (t ++ 10 ∷ r) in
    let k : ℕ = blank_len (b ∷ t) in
    ap (λ i. cond (ltb 0 i) (skip (drop i whole)) (entry_front (entry_in whole))) (blank_over b t r u)
    ∙ ap (λ (x : List ℕ). cond (ltb 0 k) (skip x) (entry_front (entry_in whole))) (drop-append-le k (b ∷ t) (10 ∷ r) (blank_short b t u))
    ∙ ap (λ (o : Option (ℤ × List ℕ)). cond (ltb 0 k) (skip (drop k (b ∷ t) ++ 10 ∷ r)) (entry_front o)) (entry_over (b ∷ t) r)
    ∙ ap (λ (f : Front). cond (ltb 0 k) (skip (drop k (b ∷ t) ++ 10 ∷ r)) f) (entry_front_over (10 ∷ r) (entry_in (b ∷ t)))
    ∙ either_over (10 ∷ r) (ltb 0 k) (skip (drop k (b ∷ t))) (entry_front (entry_in (b ∷ t)))

-- so what stands in front is told within its line
pub front_over : (b : ℕ) (t r : List ℕ) → IsUtf8 (b ∷ t) → feeds (b ∷ t) ≡ 0 → front_of (b ∷ (t ++ 10 ∷ r)) ≡ more_behind (10 ∷ r) (front_of (b ∷ t))
unfolding front_of
front_over b t r u none =
    let q : List ℕ = 10 ∷ r in
    let whole : List ℕ = b ∷ (t ++ 10 ∷ r) in
    let left : drop (line_len whole) whole ≡ drop (line_len (b ∷ t)) (b ∷ t) ++ q = line_left (b ∷ t) r none ∙ ap (λ (x : List ℕ). x ++ q) (sym (line_rest (b ∷ t) none)) in
    ap (λ (y : Bool). cond (b == 10) (feed (t ++ q)) (cond y (skip (drop (line_len whole) whole)) (cond (b == 93) ends (front_after_blank whole)))) (slashes_over b t r)
    ∙ ap (λ (x : List ℕ). cond (b == 10) (feed (t ++ q)) (cond (starts_with eqb (b ∷ t) (codes "//")) (skip x) (cond (b == 93) ends (front_after_blank whole)))) left
    ∙ ap (λ (f : Front). cond (b == 10) (feed (t ++ q)) (cond (starts_with eqb (b ∷ t) (codes "//")) (skip (drop (line_len (b ∷ t)) (b ∷ t) ++ q)) (cond (b == 93) ends f))) (blanks_over b t r u)
    ∙ ap (λ (f : Front). cond (b == 10) (feed (t ++ q)) (cond (starts_with eqb (b ∷ t) (codes "//")) (skip (drop (line_len (b ∷ t)) (b ∷ t) ++ q)) f)) (either_over q (b == 93) ends (front_after_blank (b ∷ t)))
    ∙ ap (λ (f : Front). cond (b == 10) (feed (t ++ q)) f) (either_over q (starts_with eqb (b ∷ t) (codes "//")) (skip (drop (line_len (b ∷ t)) (b ∷ t))) (cond (b == 93) ends (front_after_blank (b ∷ t))))
    ∙ either_over q (b == 10) (feed t) (cond (starts_with eqb (b ∷ t) (codes "//")) (skip (drop (line_len (b ∷ t)) (b ∷ t))) (cond (b == 93) ends (front_after_blank (b ∷ t))))

-- the same numbers in another text, in any number of steps that is enough for it
record Reads (n : ℕ) (at_front : Bool) (b : List ℕ) (t : Table) : Type 0 where
  other : List ℕ
  reads : (k : ℕ) → length b ≤ k → entries_within k at_front b ≡ Some (t.0, other)
  agree : Agree n t.1 other

reads_same : (m n : ℕ) (at_front : Bool) (a b : List ℕ) (t : Table) → IsUtf8 a → a ≡ b → entries_within m at_front a ≡ Some t → Reads n at_front b t
reads_same m n at_front a b t u e h =
    subst (λ (x : List ℕ). Reads n at_front x t) e (record { other = t.1; reads = λ k le. within_enough m k at_front a t u le h; agree = refl })

abbrev ReadsAlike : ℕ → Type 0
ReadsAlike m = (n : ℕ) (g : Bool) (x y : List ℕ) (t : Table) → IsUtf8 x → entries_within m g x ≡ Some t → lines_before x t.1 < n → Agree n x y → Reads (n - lines_before x t.1) g y t

-- one step, and the others
pub step_reads : (k : ℕ) (g : Bool) (text : List ℕ) (o : Option Table) → 0 < length text → ((i : ℕ) → length text ≤ suc i → goes_on_after (entries_within i) g text (front_of text) ≡ o) → length text ≤ k →
    entries_within k g text ≡ o
unfolding entries_within
step_reads zero g text o some f le = absurd (omega arith)
step_reads (suc k) g text o some f le = f k le

on_reads : (j : ℕ) (g : Bool) (text : List ℕ) (t : Table) (other : List ℕ) → 0 < length text → Agree j t.1 other →
    ((i : ℕ) → length text ≤ suc i → goes_on_after (entries_within i) g text (front_of text) ≡ Some (t.0, other)) → Reads j g text t
on_reads j g text t other some agree f = record { other = other; reads = λ k le. step_reads k g text (Some (t.0, other)) some f le; agree = agree }

-- a line feed
reads_feed : (m n : ℕ) (g : Bool) (p q : List ℕ) (t : Table) → ReadsAlike m → IsUtf8 p → entries_within m true p ≡ Some t → lines_before (10 ∷ p) t.1 < suc n → Agree n p q →
    Reads (suc n - lines_before (10 ∷ p) t.1) g (10 ∷ q) t
unfolding front_of
reads_feed m n g p q t alike u h lt agree =
    let l : Left p t.1 = within_left m true p t u h in
    let one : feeds (10 ∷ p) ≡ 1 + feeds p = feeds_feed 10 p refl in
    let two : feeds p ≡ feeds l.front + feeds t.1 = ap feeds l.whole ∙ feeds-append l.front t.1 in
    let r : Reads (n - lines_before p t.1) true q t = alike n true p q t u h (omega (arith, one, two, lt)) agree in
    let same : n - lines_before p t.1 ≡ suc n - lines_before (10 ∷ p) t.1 = omega (arith, one, two) in
    on_reads (suc n - lines_before (10 ∷ p) t.1) g (10 ∷ q) t r.other (omega arith) (subst (λ i. Agree i t.1 r.other) same r.agree) (λ k le. r.reads k (omega arith))

-- what is left of a line behind a step
reads_rest : (m n : ℕ) (g : Bool) (line r p q : List ℕ) (t : Table) → ReadsAlike m → StepLeft line r → IsUtf8 (10 ∷ p) → feeds line ≡ 0 → entries_within m g (r ++ 10 ∷ p) ≡ Some t →
    lines_before (line ++ 10 ∷ p) t.1 < suc n → Agree n p q → Reads (suc n - lines_before (line ++ 10 ∷ p) t.1) g (r ++ 10 ∷ q) t
reads_rest m n g line r p q t alike s v none h lt agree =
    let one : feeds line ≡ feeds s.front + feeds r = ap feeds s.whole ∙ feeds-append s.front r in
    let two : feeds (line ++ 10 ∷ p) ≡ feeds line + feeds (10 ∷ p) = feeds-append line (10 ∷ p) in
    let three : feeds (r ++ 10 ∷ p) ≡ feeds r + feeds (10 ∷ p) = feeds-append r (10 ∷ p) in
    let all : suc n ≡ suc n - feeds r = omega (arith, one, none) in
    let both : Agree (suc n) (r ++ 10 ∷ p) (r ++ 10 ∷ q)
    = agree_front (suc n) r (10 ∷ p) (10 ∷ q) (omega (arith, one, none)) (subst (λ i. Agree i (10 ∷ p) (10 ∷ q)) all (feed_front n p q agree)) in
    let x : Reads (suc n - lines_before (r ++ 10 ∷ p) t.1) g (r ++ 10 ∷ q) t
    = alike (suc n) g (r ++ 10 ∷ p) (r ++ 10 ∷ q) t (IsUtf8-append r (10 ∷ p) s.utf8 v) h (omega (arith, one, two, three, none, lt)) both in
    let same : suc n - lines_before (r ++ 10 ∷ p) t.1 ≡ suc n - lines_before (line ++ 10 ∷ p) t.1 = omega (arith, one, two, three, none) in
    subst (λ i. Reads i g (r ++ 10 ∷ q) t) same x

pub rest_shorter : (line r q : List ℕ) (k : ℕ) → StepLeft line r → length (line ++ 10 ∷ q) ≤ suc k → length (r ++ 10 ∷ q) ≤ k
rest_shorter line r q k s le =
    let one = ap length s.whole ∙ length-append s.front r in
    let two = length-append line (10 ∷ q) in
    let three = length-append r (10 ∷ q) in
    let some = s.some in
    omega (arith, one, two, three, some, le)

-- a step within the line
module _ (m n : ℕ) (g : Bool) (line p q : List ℕ) (alike : ReadsAlike m) (v : IsUtf8 (10 ∷ p)) (none : feeds line ≡ 0) (agree : Agree n p q) where
  whole_some : 0 < length (line ++ 10 ∷ q)
  whole_some = let e = length-append line (10 ∷ q) in omega (arith, e)

  whole_agree : Agree (suc n) (line ++ 10 ∷ p) (line ++ 10 ∷ q)
  whole_agree =
      let all : suc n ≡ suc n - feeds line = omega (arith, none) in
      agree_front (suc n) line (10 ∷ p) (10 ∷ q) (omega (arith, none)) (subst (λ i. Agree i (10 ∷ p) (10 ∷ q)) all (feed_front n p q agree))

  goes_to : (to : Bool) (r : List ℕ) (t : Table) → StepLeft line r → ((k : ℕ) → goes_on_after (entries_within k) g (line ++ 10 ∷ q) (front_of (line ++ 10 ∷ q)) ≡ entries_within k to (r ++ 10 ∷ q)) →
      entries_within m to (r ++ 10 ∷ p) ≡ Some t → lines_before (line ++ 10 ∷ p) t.1 < suc n → Reads (suc n - lines_before (line ++ 10 ∷ p) t.1) g (line ++ 10 ∷ q) t
  goes_to to r t s f h lt =
      let x : Reads (suc n - lines_before (line ++ 10 ∷ p) t.1) to (r ++ 10 ∷ q) t = reads_rest m n to line r p q t alike s v none h lt agree in
      on_reads (suc n - lines_before (line ++ 10 ∷ p) t.1) g (line ++ 10 ∷ q) t x.other whole_some x.agree (λ k le. f k ∙ x.reads k (rest_shorter line r q k s le))

  entry_to : (z : ℤ) (r : List ℕ) (t : Table) (o : Option Table) → StepLeft line r → front_of (line ++ 10 ∷ q) ≡ found_entry z (r ++ 10 ∷ q) →
      entries_within m false (r ++ 10 ∷ p) ≡ o → (o >>= λ table. Some (with_number z table)) ≡ Some t → lines_before (line ++ 10 ∷ p) t.1 < suc n → Reads (suc n - lines_before (line ++ 10 ∷ p) t.1) g (line ++ 10 ∷ q) t
  entry_to z r t None s f e h lt = absurd cc
  entry_to z r t (Some x) s f e h lt =
      let same : with_number z x ≡ t = cc in
      let few : lines_before (line ++ 10 ∷ p) x.1 < suc n = subst (λ (y : Table). lines_before (line ++ 10 ∷ p) y.1 < suc n) (sym same) lt in
      let j : ℕ = suc n - lines_before (line ++ 10 ∷ p) x.1 in
      let y : Reads j false (r ++ 10 ∷ q) x = reads_rest m n false line r p q x alike s v none e few agree in
      subst (λ (w : Table). Reads (suc n - lines_before (line ++ 10 ∷ p) w.1) g (line ++ 10 ∷ q) w) same
      (on_reads j g (line ++ 10 ∷ q) (with_number z x) y.other whole_some y.agree (λ k le.
      ap (goes_on_after (entries_within k) g (line ++ 10 ∷ q)) f ∙ ap (λ (o : Option Table). o >>= λ table. Some (with_number z table)) (y.reads k (rest_shorter line r q k s le))))

  ends_here : (t : Table) → g ≡ true → front_of (line ++ 10 ∷ q) ≡ ends → ([], line ++ 10 ∷ p) ≡ t → Reads (suc n - lines_before (line ++ 10 ∷ p) t.1) g (line ++ 10 ∷ q) t
  ends_here t y f same =
      let whole : List ℕ = line ++ 10 ∷ p in
      let all : suc n ≡ suc n - lines_before whole whole = omega arith in
      subst (λ (w : Table). Reads (suc n - lines_before whole w.1) g (line ++ 10 ∷ q) w) same
      (on_reads (suc n - lines_before whole whole) g (line ++ 10 ∷ q) ([], whole) (line ++ 10 ∷ q) whole_some (subst (λ i. Agree i whole (line ++ 10 ∷ q)) all whole_agree) (λ k le.
      ap (goes_on_after (entries_within k) g (line ++ 10 ∷ q)) f ∙ cond-true g _ _ y))

  front_reads : (t : Table) (f : Front) → GoesTo line f → front_of (line ++ 10 ∷ q) ≡ more_behind (10 ∷ q) f → goes_on_after (entries_within m) g (line ++ 10 ∷ p) (more_behind (10 ∷ p) f) ≡ Some t →
      lines_before (line ++ 10 ∷ p) t.1 < suc n → Reads (suc n - lines_before (line ++ 10 ∷ p) t.1) g (line ++ 10 ∷ q) t
  front_reads t (feed r) s f h lt = goes_to true r t s (λ k. ap (goes_on_after (entries_within k) g (line ++ 10 ∷ q)) f) h lt
  front_reads t (skip r) s f h lt = goes_to g r t s (λ k. ap (goes_on_after (entries_within k) g (line ++ 10 ∷ q)) f) h lt
  front_reads t ends s f h lt = elim (cases_Bool g) [
    | inl y ↦ (
        let found : Some ([], line ++ 10 ∷ p) ≡ Some t = sym (cond-true g (Some ([], line ++ 10 ∷ p)) None y) ∙ h in
        let same : ([], line ++ 10 ∷ p) ≡ t = cc in
        ends_here t y f same)
    | inr z ↦ (let never : None ≡ Some t = sym (cond-false g (Some ([], line ++ 10 ∷ p)) None z) ∙ h in absurd cc)
  ]
  front_reads t (found_entry z r) s f h lt = entry_to z r t (entries_within m false (r ++ 10 ∷ p)) s f refl h lt
  front_reads t wrong s f h lt = absurd cc

line_reads : (m n : ℕ) (g : Bool) (line p q : List ℕ) (t : Table) → ReadsAlike m → IsUtf8 (line ++ 10 ∷ p) → feeds line ≡ 0 → Agree n p q → entries_within (suc m) g (line ++ 10 ∷ p) ≡ Some t →
    lines_before (line ++ 10 ∷ p) t.1 < suc n → Reads (suc n - lines_before (line ++ 10 ∷ p) t.1) g (line ++ 10 ∷ q) t
unfolding entries_within front_of
line_reads m n g [] p q t alike u none agree h lt = reads_feed m n g p q t alike (behind_byte [] 10 p (omega arith) u) h lt agree
line_reads m n g (b ∷ l) p q t alike u none agree h lt =
    let v : IsUtf8 (b ∷ l) = before_byte (b ∷ l) 10 p (omega arith) u in
    let w : IsUtf8 (10 ∷ p) = from_byte (b ∷ l) 10 p (omega arith) u in
    front_reads m n g (b ∷ l) p q alike w none agree t (front_of (b ∷ l)) (front_left (b ∷ l) v) (front_over b l q v none)
    (sym (ap (goes_on_after (entries_within m) g (b ∷ (l ++ 10 ∷ p))) (front_over b l p v none)) ∙ h) lt

reads_within : (m : ℕ) → ReadsAlike m
unfolding entries_within
reads_within zero n g a b t u h lt agree = absurd cc
reads_within (suc m) zero g a b t u h lt agree = absurd (omega arith)
reads_within (suc m) (suc n) g a b t u h lt agree = elim (split_first a) [
  | inl none ↦ reads_same (suc m) (suc n - lines_before a t.1) g a b t u (agree_all (suc n) a b (omega (arith, none)) agree) h
  | inr f ↦
      let s : SameLine n a b = same_line n a b f.line f.rest f.within f.whole agree in
      let x : List ℕ = s.line ++ 10 ∷ s.behind in
      subst (λ (y : List ℕ). Reads (suc n - lines_before y t.1) g b t) (sym s.a_is) (subst (λ (y : List ℕ). Reads (suc n - lines_before x t.1) g y t) (sym s.b_is)
      (line_reads m n g s.line s.behind s.other t (reads_within m) (subst (λ (y : List ℕ). IsUtf8 y) s.a_is u) s.within s.agree
      (subst (λ (y : List ℕ). entries_within (suc m) g y ≡ Some t) s.a_is h) (subst (λ (y : List ℕ). lines_before y t.1 < suc n) s.a_is lt)))
]

pub entries_left : (text : List ℕ) (numbers : List ℤ) (rest : List ℕ) → IsUtf8 text → entries text ≡ Some (numbers, rest) → Left text rest
unfolding entries
entries_left text numbers rest u h = within_left (length text) true text (numbers, rest) u h

-- the entries in front of a text, where the first n lines have the line on which they end
pub record EntriesShared (n : ℕ) (a b : List ℕ) (numbers : List ℤ) (rest : List ℕ) : Type 0 where
  pub utf8 : IsUtf8 rest
  pub other : List ℕ
  pub reads : entries b ≡ Some (numbers, other)
  pub agree : Agree (n - lines_before a rest) rest other

pub entries_shared : (n : ℕ) (a b : List ℕ) (numbers : List ℤ) (rest : List ℕ) → IsUtf8 a → entries a ≡ Some (numbers, rest) → lines_before a rest < n → Agree n a b → EntriesShared n a b numbers rest
unfolding entries
entries_shared n a b numbers rest u h lt agree =
    let l : Left a rest = entries_left a numbers rest u h in
    let r : Reads (n - lines_before a rest) true b (numbers, rest) = reads_within (length a) n true a b (numbers, rest) u h lt agree in
    record { utf8 = l.utf8; other = r.other; reads = r.reads (length b) (omega arith); agree = r.agree }
