-- The entries of a table are the same, whatever stands behind the `]` that ends it.
use Rattle.std.proofs.Common.{◌≡◌, ℕ, ℤ, ◌+◌, ◌==◌, ◌<◌, ◌≤◌, zero, suc, Bool, true, false, cond, inl, inr, List, [], ◌∷◌, ◌++◌, length, take, drop, codes, Option, Some, None, refl, sym, ap, ◌∙◌, subst, arith, eqb, ltb, append_assoc, length-append, length-drop}
use Rattle.std.specs.List.{starts_with, prefix_len}
use Rattle.std.specs.Char.{encode_utf8}
use Rattle.std.specs.Str.{IsUtf8, chars, encode_utf8_all}
use Rattle.std.proofs.lemmas.Bool.{cases_Bool, cond-true, cond-false, cond_both}
use Rattle.std.proofs.lemmas.List.{take-append-le, drop-append-le}
use Rattle.std.proofs.lemmas.List.Sums.{prefix_len-le-length}
use Rattle.std.proofs.lemmas.Str.{encodes-chars, chars-append, IsUtf8-append}
use Rattle.lp_spelling.specs.Counting.{line_len}
use Rattle.lp_spelling.specs.HoleEnds.{is_digit}
use Rattle.lp_spelling.specs.LineReading.{◌>>=◌, after}
use Rattle.lp_spelling.specs.TableReading.{number_of, sign_len, number_end, entry_in, blank_of, blank_len, Front, entry_front, front_after_blank, front_of, Table, with_number, goes_on_after, entries_within, entries}
use Rattle.lp_spelling.specs.TableReading.Front.{feed, skip, ends, found_entry, wrong}
use Rattle.lp_spelling.proofs.Tables.{char_cut}
use Rattle.lp_local.proofs.Agreeing.{split_first, line_left, line_over}
use Rattle.lp_local.proofs.Settling.{from_byte, before_byte}
use Rattle.lp_local.proofs.Tables.{StepLeft, GoesTo, front_left, more_behind}
use Rattle.lp_reading_laws.proofs.Printing.Entries as laws

abbrev table : List ℤ → List ℕ → Table
table numbers rest = (numbers, rest)

-- what is left is no longer than the text
short_step : (go : Bool → List ℕ → Option Table) (g : Bool) (text : List ℕ) (f : Front) (t : Table) → GoesTo text f → goes_on_after go g text f ≡ Some t →
    ((h : Bool) (r : List ℕ) (x : Table) → IsUtf8 r → go h r ≡ Some x → length x.1 ≤ length r) → length t.1 ≤ length text
short_step go g text (feed r) t s e later = let one = later true r t s.utf8 e in let size = ap length s.whole ∙ length-append s.front r in omega (arith, one, size)
short_step go g text (skip r) t s e later = let one = later g r t s.utf8 e in let size = ap length s.whole ∙ length-append s.front r in omega (arith, one, size)
short_step go true text ends t s e later = let same : ([], text) ≡ t = cc in subst (λ (x : Table). length x.1 ≤ length text) same (omega arith)
short_step go false text ends t s e later = absurd cc
short_step go g text (found_entry z r) t s e later = of_entry go z text r t (go false r) s refl e (later false r)
  where
    of_entry : (go : Bool → List ℕ → Option Table) (z : ℤ) (text r : List ℕ) (t : Table) (o : Option Table) → StepLeft text r → go false r ≡ o → (o >>= λ table. Some (with_number z table)) ≡ Some t →
        ((x : Table) → IsUtf8 r → go false r ≡ Some x → length x.1 ≤ length r) → length t.1 ≤ length text
    of_entry go z text r t None s e h later = absurd cc
    of_entry go z text r t (Some x) s e h later =
        let same : with_number z x ≡ t = cc in
        let one = later x s.utf8 e in
        let size = ap length s.whole ∙ length-append s.front r in
        subst (λ (y : Table). length y.1 ≤ length text) same (omega (arith, one, size))
short_step go g text wrong t s e later = absurd cc

within_short : (m : ℕ) (g : Bool) (text : List ℕ) (t : Table) → IsUtf8 text → entries_within m g text ≡ Some t → length t.1 ≤ length text
unfolding entries_within
within_short zero g text t u e = absurd cc
within_short (suc m) g text t u e = short_step (entries_within m) g text (front_of text) t (front_left text u) e (λ h r x v k. within_short m h r x v k)

-- a sign, digits, `,` and blanks are told in front of a `]`
abbrev more_rest : List ℕ → Option (List ℕ) → Option (List ℕ)
more_rest q None = None
more_rest q (Some r) = Some (r ++ q)

abbrev more_entry : List ℕ → Option (ℤ × List ℕ) → Option (ℤ × List ℕ)
more_entry q None = None
more_entry q (Some e) = Some (e.0, e.1 ++ q)

entry_front_over : (q : List ℕ) (o : Option (ℤ × List ℕ)) → entry_front (more_entry q o) ≡ more_behind q (entry_front o)
entry_front_over q None = refl
entry_front_over q (Some e) = refl

either_over : (q : List ℕ) (b : Bool) (x y : Front) → cond b (more_behind q x) (more_behind q y) ≡ more_behind q (cond b x y)
either_over q true x y = refl
either_over q false x y = refl

sign_over : (line r : List ℕ) → starts_with eqb (line ++ 93 ∷ r) (codes "-") ≡ starts_with eqb line (codes "-")
sign_over [] r = refl
sign_over (b ∷ line) r = refl

slashes_over : (b : ℕ) (line r : List ℕ) → starts_with eqb (b ∷ (line ++ 93 ∷ r)) (codes "//") ≡ starts_with eqb (b ∷ line) (codes "//")
slashes_over b [] r = refl
slashes_over b (c ∷ line) r = refl

digits_over : (line r : List ℕ) → prefix_len is_digit (line ++ 93 ∷ r) ≡ prefix_len is_digit line
digits_over [] r = refl
digits_over (b ∷ line) r = ap (λ k. cond (is_digit b) (1 + k) 0) (digits_over line r)

after_over : (y r : List ℕ) → after (codes ",") (y ++ 93 ∷ r) ≡ more_rest (93 ∷ r) (after (codes ",") y)
unfolding after
after_over [] r = refl
after_over (c ∷ y) r = comma_over (starts_with eqb (c ∷ y) (codes ",")) y (93 ∷ r)
  where
    comma_over : (b : Bool) (y q : List ℕ) → cond b (Some (y ++ q)) None ≡ more_rest q (cond b (Some y) None)
    comma_over true y q = refl
    comma_over false y q = refl

sign_short : (text : List ℕ) → sign_len text ≤ length text
sign_short [] = omega arith
sign_short (b ∷ t) = cond_both (starts_with eqb (b ∷ t) (codes "-")) 1 0 (λ k. k ≤ length (b ∷ t)) (λ y. omega arith) (λ n. omega arith)

end_short : (text : List ℕ) → number_end text ≤ length text
end_short text =
    let a = sign_short text in
    let b = prefix_len-le-length is_digit (drop (sign_len text) text) in
    let c = length-drop (sign_len text) text in
    omega (arith, a, b, c)

end_over : (line r : List ℕ) → number_end (line ++ 93 ∷ r) ≡ number_end line
end_over line r =
    let sign : sign_len (line ++ 93 ∷ r) ≡ sign_len line = ap (λ b. cond b 1 0) (sign_over line r) in
    ap (λ k. k + prefix_len is_digit (drop k (line ++ 93 ∷ r))) sign ∙ ap (λ (x : List ℕ). sign_len line + prefix_len is_digit x) (drop-append-le (sign_len line) line (93 ∷ r) (sign_short line))
    ∙ ap (λ k. sign_len line + k) (digits_over (drop (sign_len line) line) r)

entry_both : (q : List ℕ) (o : Option ℤ) (a : Option (List ℕ)) → (o >>= λ z. more_rest q a >>= λ rest. Some (z, rest)) ≡ more_entry q (o >>= λ z. a >>= λ rest. Some (z, rest))
entry_both q None a = refl
entry_both q (Some z) None = refl
entry_both q (Some z) (Some r) = refl

entry_over : (line r : List ℕ) → entry_in (line ++ 93 ∷ r) ≡ more_entry (93 ∷ r) (entry_in line)
unfolding entry_in
entry_over line r =
    let whole : List ℕ = line ++ 93 ∷ r in
    let n : ℕ = number_end line in
    ap (λ k. number_of (take k whole) >>= λ z. after (codes ",") (drop k whole) >>= λ rest. Some (z, rest)) (end_over line r)
    ∙ ap (λ (x : List ℕ). number_of x >>= λ z. after (codes ",") (drop n whole) >>= λ rest. Some (z, rest)) (take-append-le n line (93 ∷ r) (end_short line))
    ∙ ap (λ (x : List ℕ). number_of (take n line) >>= λ z. after (codes ",") x >>= λ rest. Some (z, rest)) (drop-append-le n line (93 ∷ r) (end_short line))
    ∙ ap (λ (a : Option (List ℕ)). number_of (take n line) >>= λ z. a >>= λ rest. Some (z, rest)) (after_over (drop n line) r)
    ∙ entry_both (93 ∷ r) (number_of (take n line)) (after (codes ",") (drop n line))

first_char : (b : ℕ) (t : List ℕ) → IsUtf8 (b ∷ t) → (c : ℕ) × (rest : List ℕ) × (chars (b ∷ t) ≡ c ∷ rest) × (b ∷ t ≡ encode_utf8 c ++ encode_utf8_all rest)
first_char b t u = split_chars (chars (b ∷ t)) b t refl (encodes-chars (b ∷ t) u)
  where
    split_chars : (cs : List ℕ) (b : ℕ) (t : List ℕ) → chars (b ∷ t) ≡ cs → encode_utf8_all (chars (b ∷ t)) ≡ b ∷ t → (c : ℕ) × (rest : List ℕ) × (chars (b ∷ t) ≡ c ∷ rest) × (b ∷ t ≡ encode_utf8 c ++ encode_utf8_all rest)
    split_chars [] b t e h = let never : [] ≡ b ∷ t = ap encode_utf8_all (sym e) ∙ h in absurd cc
    split_chars (c ∷ rest) b t e h = (c, rest, e, sym h ∙ ap encode_utf8_all e)

blank_over : (b : ℕ) (t r : List ℕ) → IsUtf8 (b ∷ t) → blank_len (b ∷ (t ++ 93 ∷ r)) ≡ blank_len (b ∷ t)
blank_over b t r u =
    let f = first_char b t u in
    let whole : chars (b ∷ (t ++ 93 ∷ r)) ≡ f.0 ∷ (f.1 ++ chars (93 ∷ r)) = chars-append (b ∷ t) (93 ∷ r) u ∙ ap (λ (x : List ℕ). x ++ chars (93 ∷ r)) f.2 in
    ap blank_of whole ∙ sym (ap blank_of f.2)

blank_short : (b : ℕ) (t : List ℕ) → IsUtf8 (b ∷ t) → blank_len (b ∷ t) ≤ length (b ∷ t)
blank_short b t u = let f = first_char b t u in (char_cut (b ∷ t) (encode_utf8_all f.1) f.0 (blank_len (b ∷ t)) u f.3 (ap blank_of f.2)).0

blanks_over : (b : ℕ) (t r : List ℕ) → IsUtf8 (b ∷ t) → front_after_blank (b ∷ (t ++ 93 ∷ r)) ≡ more_behind (93 ∷ r) (front_after_blank (b ∷ t))
blanks_over b t r u =
    let whole : List ℕ = b ∷ (t ++ 93 ∷ r) in
    let k : ℕ = blank_len (b ∷ t) in
    ap (λ i. cond (ltb 0 i) (skip (drop i whole)) (entry_front (entry_in whole))) (blank_over b t r u)
    ∙ ap (λ (x : List ℕ). cond (ltb 0 k) (skip x) (entry_front (entry_in whole))) (drop-append-le k (b ∷ t) (93 ∷ r) (blank_short b t u))
    ∙ ap (λ (o : Option (ℤ × List ℕ)). cond (ltb 0 k) (skip (drop k (b ∷ t) ++ 93 ∷ r)) (entry_front o)) (entry_over (b ∷ t) r)
    ∙ ap (λ (f : Front). cond (ltb 0 k) (skip (drop k (b ∷ t) ++ 93 ∷ r)) f) (entry_front_over (93 ∷ r) (entry_in (b ∷ t)))
    ∙ either_over (93 ∷ r) (ltb 0 k) (skip (drop k (b ∷ t))) (entry_front (entry_in (b ∷ t)))

-- so what stands in front is told there, but a comment without a line feed
front_over : (b : ℕ) (t r : List ℕ) → IsUtf8 (b ∷ t) → starts_with eqb (b ∷ t) (codes "//") ≡ false → front_of (b ∷ (t ++ 93 ∷ r)) ≡ more_behind (93 ∷ r) (front_of (b ∷ t))
unfolding front_of
front_over b t r u other_front =
    let q : List ℕ = 93 ∷ r in
    let whole : List ℕ = b ∷ (t ++ 93 ∷ r) in
    let comment : Front = skip (drop (line_len whole) whole) in
    let other : Front = skip (drop (line_len (b ∷ t)) (b ∷ t)) in
    ap (λ (y : Bool). cond (b == 10) (feed (t ++ q)) (cond y comment (cond (b == 93) ends (front_after_blank whole)))) (slashes_over b t r ∙ other_front)
    ∙ ap (λ (f : Front). cond (b == 10) (feed (t ++ q)) (cond (b == 93) ends f)) (blanks_over b t r u)
    ∙ ap (λ (f : Front). cond (b == 10) (feed (t ++ q)) f) (either_over q (b == 93) ends (front_after_blank (b ∷ t)))
    ∙ either_over q (b == 10) (feed t) (cond (b == 93) ends (front_after_blank (b ∷ t)))
    ∙ ap (λ (y : Bool). more_behind q (cond (b == 10) (feed t) (cond y other (cond (b == 93) ends (front_after_blank (b ∷ t)))))) (sym other_front)

front_comment : (b : ℕ) (t : List ℕ) → (b == 10) ≡ false → starts_with eqb (b ∷ t) (codes "//") ≡ true → front_of (b ∷ t) ≡ skip (drop (line_len (b ∷ t)) (b ∷ t))
unfolding front_of
front_comment b t n y = cond-false (b == 10) _ _ n ∙ cond-true (starts_with eqb (b ∷ t) (codes "//")) _ _ y

-- one step, and the others
abbrev Same : Bool → List ℕ → List ℕ → List ℤ → Type 0
Same g a q numbers = laws.Reads g (a ++ 93 ∷ q) (numbers, 93 ∷ q)

abbrev Moves : ℕ → List ℕ → Type 0
Moves m q = (g : Bool) (a r : List ℕ) (numbers : List ℤ) → IsUtf8 (a ++ 93 ∷ r) → entries_within m g (a ++ 93 ∷ r) ≡ Some (numbers, 93 ∷ r) → Same g a q numbers

goes_same : (g h : Bool) (a x q : List ℕ) (numbers : List ℤ) → length x < length a → ((k : ℕ) → goes_on_after (entries_within k) g (a ++ 93 ∷ q) (front_of (a ++ 93 ∷ q)) ≡ entries_within k h (x ++ 93 ∷ q)) → Same h x q numbers → Same g a q numbers
unfolding entries_within
goes_same g h a x q numbers lt f s zero le = let size = length-append a (93 ∷ q) in absurd (omega (arith, size, le))
goes_same g h a x q numbers lt f s (suc n) le =
    let size = length-append a (93 ∷ q) in
    let less = length-append x (93 ∷ q) in
    f n ∙ s n (omega (arith, size, less, le, lt))

entry_same : (m : ℕ) (g : Bool) (a x r q : List ℕ) (z : ℤ) (numbers : List ℤ) (o : Option Table) → Moves m q → length x < length a → IsUtf8 (x ++ 93 ∷ r) → front_of (a ++ 93 ∷ q) ≡ found_entry z (x ++ 93 ∷ q) →
    entries_within m false (x ++ 93 ∷ r) ≡ o → (o >>= λ table. Some (with_number z table)) ≡ Some (numbers, 93 ∷ r) → Same g a q numbers
unfolding entries_within
entry_same m g a x r q z numbers None moves lt u f e h n le = absurd cc
entry_same m g a x r q z numbers (Some t) moves lt u f e h zero le = let size = length-append a (93 ∷ q) in absurd (omega (arith, size, le))
entry_same m g a x r q z numbers (Some t) moves lt u f e h (suc n) le =
    let pair : table (z ∷ t.0) t.1 ≡ table numbers (93 ∷ r) = cc in
    let first : z ∷ t.0 ≡ numbers = ap (λ (p : Table). p.0) pair in
    let last : t.1 ≡ 93 ∷ r = ap (λ (p : Table). p.1) pair in
    let found : entries_within m false (x ++ 93 ∷ r) ≡ Some (t.0, 93 ∷ r) = e ∙ ap (λ (y : List ℕ). Some (t.0, y)) last in
    let size = length-append a (93 ∷ q) in
    let less = length-append x (93 ∷ q) in
    ap (goes_on_after (entries_within n) g (a ++ 93 ∷ q)) f
    ∙ ap (λ (w : Option Table). w >>= λ table. Some (with_number z table)) (moves false x r t.0 u found n (omega (arith, size, less, le, lt)))
    ∙ ap (λ (ns : List ℤ). Some (ns, 93 ∷ q)) first

front_same : (m : ℕ) (g : Bool) (a r q : List ℕ) (numbers : List ℤ) (f : Front) → Moves m q → 0 < length a → IsUtf8 (93 ∷ r) → GoesTo a f → front_of (a ++ 93 ∷ q) ≡ more_behind (93 ∷ q) f →
    goes_on_after (entries_within m) g (a ++ 93 ∷ r) (more_behind (93 ∷ r) f) ≡ Some (numbers, 93 ∷ r) → Same g a q numbers
front_same m g a r q numbers (feed x) moves some v s f h =
    let size = ap length s.whole ∙ length-append s.front x in
    let more = s.some in
    goes_same g true a x q numbers (omega (arith, size, more)) (λ k. ap (goes_on_after (entries_within k) g (a ++ 93 ∷ q)) f) (moves true x r numbers (IsUtf8-append x (93 ∷ r) s.utf8 v) h)
front_same m g a r q numbers (skip x) moves some v s f h =
    let size = ap length s.whole ∙ length-append s.front x in
    let more = s.some in
    goes_same g g a x q numbers (omega (arith, size, more)) (λ k. ap (goes_on_after (entries_within k) g (a ++ 93 ∷ q)) f) (moves g x r numbers (IsUtf8-append x (93 ∷ r) s.utf8 v) h)
front_same m true a r q numbers ends moves some v s f h =
    let pair : table [] (a ++ 93 ∷ r) ≡ table numbers (93 ∷ r) = cc in
    let last = ap (λ (p : Table). length p.1) pair in
    let size = length-append a (93 ∷ r) in
    absurd (omega (arith, last, size, some))
front_same m false a r q numbers ends moves some v s f h = absurd cc
front_same m g a r q numbers (found_entry z x) moves some v s f h =
    let size = ap length s.whole ∙ length-append s.front x in
    let more = s.some in
    entry_same m g a x r q z numbers (entries_within m false (x ++ 93 ∷ r)) moves (omega (arith, size, more)) (IsUtf8-append x (93 ∷ r) s.utf8 v) f refl h
front_same m g a r q numbers wrong moves some v s f h = absurd cc

-- a comment, which a line feed ends
comment_same : (m : ℕ) (g : Bool) (b : ℕ) (t r q : List ℕ) (numbers : List ℤ) → Moves m q → IsUtf8 (b ∷ (t ++ 93 ∷ r)) → (b == 10) ≡ false → starts_with eqb (b ∷ t) (codes "//") ≡ true →
    entries_within m g (drop (line_len (b ∷ (t ++ 93 ∷ r))) (b ∷ (t ++ 93 ∷ r))) ≡ Some (numbers, 93 ∷ r) → Same g (b ∷ t) q numbers
comment_same m g b t r q numbers moves u n y h = elim (split_first (b ∷ t)) [
  | inl none ↦
      let whole : List ℕ = b ∷ (t ++ 93 ∷ r) in
      let at : line_len whole ≡ length (b ∷ t) + line_len (93 ∷ r) = line_over (b ∷ t) (93 ∷ r) none in
      let one : line_len (93 ∷ r) ≡ 1 + line_len r = refl in
      let size = length-append (b ∷ t) (93 ∷ r) in
      let cut = length-drop (line_len whole) whole in
      let s = front_left whole u in
      let to : StepLeft whole (drop (line_len whole) whole) = subst (GoesTo whole) (front_comment b (t ++ 93 ∷ r) n (slashes_over b t r ∙ y)) s in
      let le = within_short m g (drop (line_len whole) whole) (numbers, 93 ∷ r) to.utf8 h in
      absurd (omega (arith, at, one, size, cut, le))
  | inr f ↦
      let of : (z : List ℕ) → b ∷ (t ++ 93 ∷ z) ≡ f.line ++ 10 ∷ (f.rest ++ 93 ∷ z) = λ z. ap (λ (x : List ℕ). x ++ 93 ∷ z) f.whole ∙ append_assoc f.line (10 ∷ f.rest) (93 ∷ z) in
      let left : (z : List ℕ) → drop (line_len (b ∷ (t ++ 93 ∷ z))) (b ∷ (t ++ 93 ∷ z)) ≡ 10 ∷ (f.rest ++ 93 ∷ z) = λ z. ap (λ (x : List ℕ). drop (line_len x) x) (of z) ∙ line_left f.line (f.rest ++ 93 ∷ z) f.within in
      let v : IsUtf8 (10 ∷ (f.rest ++ 93 ∷ r)) = from_byte f.line 10 (f.rest ++ 93 ∷ r) (omega arith) (subst (λ (x : List ℕ). IsUtf8 x) (of r) u) in
      let same : Same g (10 ∷ f.rest) q numbers = moves g (10 ∷ f.rest) r numbers v (ap (entries_within m g) (sym (left r)) ∙ h) in
      let size = ap length f.whole ∙ length-append f.line (10 ∷ f.rest) in
      goes_same g g (b ∷ t) (10 ∷ f.rest) q numbers (comment_longer b t f.line f.rest f.whole n size)
      (λ k. ap (goes_on_after (entries_within k) g (b ∷ (t ++ 93 ∷ q))) (front_comment b (t ++ 93 ∷ q) n (slashes_over b t q ∙ y)) ∙ ap (entries_within k g) (left q)) same
]
  where
    comment_longer : (b : ℕ) (t line rest : List ℕ) → b ∷ t ≡ line ++ 10 ∷ rest → (b == 10) ≡ false → length (b ∷ t) ≡ length line + length (10 ∷ rest) → length (10 ∷ rest) < length (b ∷ t)
    comment_longer b t [] rest e n size = let same : b ≡ 10 = cc in absurd (Rattle.std.proofs.lemmas.Bool.both_ways (b == 10) n (ap (λ x. x == 10) same))
    comment_longer b t (c ∷ line) rest e n size = omega (arith, size)

end_same : (q r : List ℕ) (numbers : List ℤ) → Some (table [] (93 ∷ r)) ≡ Some (table numbers (93 ∷ r)) → Same true [] q numbers
unfolding entries_within front_of
end_same q r numbers h zero le = absurd (omega arith)
end_same q r numbers h (suc n) le =
    let pair : table [] (93 ∷ r) ≡ table numbers (93 ∷ r) = cc in
    ap (λ (ns : List ℤ). Some (ns, 93 ∷ q)) (ap (λ (p : Table). p.0) pair)

slash_first : (b : ℕ) (t : List ℕ) → starts_with eqb (b ∷ t) (codes "//") ≡ true → (b == 10) ≡ false
slash_first b t y =
    Rattle.std.proofs.lemmas.Bool.ne_eqb b 10 (λ e.
    let first : (47 == b) ≡ true = (Rattle.std.proofs.lemmas.Bool.and_parts (47 == b) (starts_with eqb t (codes "/")) y).0 in
    Rattle.std.proofs.lemmas.Bool.both_ways (47 == 10) refl (ap (λ x. 47 == x) (sym e) ∙ first))

step_same : (m : ℕ) (g : Bool) (b : ℕ) (t r q : List ℕ) (numbers : List ℤ) → Moves m q → IsUtf8 (b ∷ (t ++ 93 ∷ r)) → IsUtf8 (b ∷ t) → IsUtf8 (93 ∷ r) →
    goes_on_after (entries_within m) g (b ∷ (t ++ 93 ∷ r)) (front_of (b ∷ (t ++ 93 ∷ r))) ≡ Some (numbers, 93 ∷ r) → Same g (b ∷ t) q numbers
step_same m g b t r q numbers moves u v w h = elim (cases_Bool (starts_with eqb (b ∷ t) (codes "//"))) [
  | inl y ↦
      let n : (b == 10) ≡ false = slash_first b t y in
      comment_same m g b t r q numbers moves u n y (sym (ap (goes_on_after (entries_within m) g (b ∷ (t ++ 93 ∷ r))) (front_comment b (t ++ 93 ∷ r) n (slashes_over b t r ∙ y))) ∙ h)
  | inr z ↦
      front_same m g (b ∷ t) r q numbers (front_of (b ∷ t)) moves (omega arith) w (front_left (b ∷ t) v) (front_over b t q v z)
      (sym (ap (goes_on_after (entries_within m) g (b ∷ (t ++ 93 ∷ r))) (front_over b t r v z)) ∙ h)
]

moves_all : (m : ℕ) (q : List ℕ) → Moves m q
unfolding entries_within front_of
moves_all zero q g a r numbers u h = absurd cc
moves_all (suc m) q true [] r numbers u h = end_same q r numbers h
moves_all (suc m) q false [] r numbers u h = absurd cc
moves_all (suc m) q g (b ∷ t) r numbers u h =
    let moves : Moves m q = moves_all m q in
    let v : IsUtf8 (b ∷ t) = before_byte (b ∷ t) 93 r (omega arith) u in
    let w : IsUtf8 (93 ∷ r) = from_byte (b ∷ t) 93 r (omega arith) u in
    let whole : List ℕ = b ∷ (t ++ 93 ∷ r) in
    step_same m g b t r q numbers moves u v w h

-- the whole table
pub entries_moved : (a r q : List ℕ) (numbers : List ℤ) → IsUtf8 (a ++ 93 ∷ r) → entries (a ++ 93 ∷ r) ≡ Some (numbers, 93 ∷ r) → entries (a ++ 93 ∷ q) ≡ Some (numbers, 93 ∷ q)
unfolding entries
entries_moved a r q numbers u h = moves_all (length (a ++ 93 ∷ r)) q true a r numbers u h (length (a ++ 93 ∷ q)) (omega arith)
