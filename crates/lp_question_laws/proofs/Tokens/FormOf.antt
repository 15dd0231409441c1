-- The form of a pattern with names in its holes is its text with `_` in them.
use Rattle.std.proofs.Common.{◌≡◌, ℕ, zero, suc, ◌+◌, ◌<◌, ◌≤◌, ◌^◌, Bool, true, false, ◌&&◌, ◌||◌, List, [], ◌∷◌, ◌++◌, length, take, drop, Some, None, refl, sym, ap, subst, ◌∙◌, arith, codes, decimal, append_assoc, append-nil, length-append, if◌then◌else◌}
use Rattle.std.proofs.Math.Seq.{take-append_seam, drop-append_seam, drop-append-add}
use Rattle.std.proofs.lemmas.Bool.{ne_eqb}
use Rattle.std.proofs.lemmas.Bool.Decides.{nat_tests}
use Rattle.std.proofs.lemmas.Fmt.{decimal_is_IsNumeral}
use Rattle.std.proofs.lemmas.Str.Parse.{digit_from_value}
use Rattle.std.specs.Char.{is_ascii_digit}
use Rattle.std.specs.Cmp.Lexicographic.{pointwise}
use Rattle.std.specs.Int.{IsInRange}
use Rattle.std.specs.List.{join_by, flat_map, list_all}
use Rattle.std.specs.Option.{option_map}
use Rattle.std.specs.Prelude.{eqb}
use Rattle.std.specs.Str.Parse.{AllDigits}
use Rattle.lp_spelling.specs.HoleEnds.{is_digit, is_word}
use Rattle.lp_maker.specs.Patterns.{digit_count, after_digits, form_around, form_within, form_of}
use Rattle.lp_maker.specs.Texts.{begins, first_place, around, cut_at}
use Rattle.lp_maker.proofs.Cuts.{has_front}
use Rattle.lp_table.specs.TokenLines.{capture_name, pieces_from, named_pieces}
use Rattle.lp_question_laws.specs.Tokens.Told.{StandsNowhere, EndsApart, BeginsApart, AreApart}

-- a text of word bytes alone
abbrev pub AllWord : List ℕ → Type 0
AllWord [] = Unit {0}
AllWord (c ∷ cs) = (is_word c ≡ true) × AllWord cs

pub words : (s : List ℕ) → list_all is_word s ≡ true → AllWord s
words [] h = tt
words (c ∷ cs) h = by (is_word c) refl h (words cs)
  where
    by : (b : Bool) → is_word c ≡ b → (b && list_all is_word cs) ≡ true → (list_all is_word cs ≡ true → AllWord cs) → (is_word c ≡ true) × AllWord cs
    by true is h later = (is, later h)
    by false is h later = absurd cc

pub all_word : (xs ys : List ℕ) → AllWord xs → AllWord ys → AllWord (xs ++ ys)
all_word [] ys a b = b
all_word (x ∷ xs) ys a b = (a.0, all_word xs ys a.1 b)

-- ---- where a word stands
-- a word that begins no text in front of a hole doesn't begin there with what is behind
begins_apart : (word : List ℕ) (c : ℕ) (u x : List ℕ) → AllWord word → EndsApart (c ∷ u) → begins word (c ∷ u) ≡ false → begins word (c ∷ (u ++ x)) ≡ false
begins_apart [] c u x w e b = b
begins_apart (n ∷ ns) c [] x w e b =
    let other : n ≡ c → ⊥ = λ same. (let bad : true ≡ false = sym w.0 ∙ ap (λ k. is_word k) same ∙ e in cc) in
    ap (λ t. t && pointwise eqb ns (take (length ns) x)) (ne_eqb n c other)
begins_apart (n ∷ ns) c (d ∷ u) x w e b = by (eqb n c) b (begins_apart ns d u x w.1 e)
  where
    by : (t : Bool) → (t && begins ns (d ∷ u)) ≡ false → (begins ns (d ∷ u) ≡ false → begins ns (d ∷ (u ++ x)) ≡ false) → (t && begins ns (d ∷ (u ++ x))) ≡ false
    by true h again = again h
    by false h again = refl

-- a word that another begins with
longer_begins : (word more s : List ℕ) → begins word s ≡ false → begins (word ++ more) s ≡ false
longer_begins [] more s h = absurd cc
longer_begins (n ∷ ns) more [] h = refl
longer_begins (n ∷ ns) more (c ∷ cs) h = by (eqb n c) h (longer_begins ns more cs)
  where
    by : (t : Bool) → (t && begins ns cs) ≡ false → (begins ns cs ≡ false → begins (ns ++ more) cs ≡ false) → (t && begins (ns ++ more) cs) ≡ false
    by true h again = again h
    by false h again = refl

pub longer_nowhere : (word more s : List ℕ) → StandsNowhere word s → StandsNowhere (word ++ more) s
longer_nowhere word more [] h = tt
longer_nowhere word more (c ∷ cs) h = (longer_begins word more (c ∷ cs) h.0, longer_nowhere word more cs h.1)

ends_later : (c : ℕ) (u : List ℕ) → EndsApart (c ∷ u) → EndsApart u
ends_later c [] e = tt
ends_later c (d ∷ u) e = e

first_here : (word s rest : List ℕ) → s ≡ word ++ rest → first_place word s ≡ Some 0
first_here word [] rest is = ap (λ t. if t then Some 0 else None) (has_front word [] rest is)
first_here word (b ∷ bs) rest is = ap (λ t. if t then Some 0 else option_map suc (first_place word bs)) (has_front word (b ∷ bs) rest is)

place_at : (word q x : List ℕ) → AllWord word → EndsApart q → StandsNowhere word q → first_place word (q ++ (word ++ x)) ≡ Some (length q)
place_at word [] x w e h = first_here word (word ++ x) x refl
place_at word (c ∷ q) x w e h =
    ap (λ t. if t then Some 0 else option_map suc (first_place word (q ++ (word ++ x)))) (begins_apart word c q (word ++ x) w e h.0)
    ∙ ap (option_map suc) (place_at word q x w (ends_later c q e) h.1)

-- what stands before it and behind it
pub cut_there : (word q x : List ℕ) → AllWord word → EndsApart q → StandsNowhere word q → cut_at word (q ++ (word ++ x)) ≡ Some (q, x)
cut_there word q x w e h =
    ap (option_map (around (length word) (q ++ (word ++ x)))) (place_at word q x w e h)
    ∙ ap (λ t. Some (t, drop (length q + length word) (q ++ (word ++ x)))) (take-append_seam q (word ++ x))
    ∙ ap (λ t. Some (q, t)) (drop-append-add q (word ++ x) (length word) ∙ drop-append_seam word x)

place_none : (word s : List ℕ) → 0 < length word → StandsNowhere word s → first_place word s ≡ None
place_none [] [] some h = absurd (omega arith)
place_none (n ∷ ns) [] some h = refl
place_none word (c ∷ cs) some h = ap (λ t. if t then Some 0 else option_map suc (first_place word cs)) h.0 ∙ ap (option_map suc) (place_none word cs some h.1)

pub cut_nowhere : (word s : List ℕ) → 0 < length word → StandsNowhere word s → cut_at word s ≡ None
cut_nowhere word s some h = ap (option_map (around (length word) s)) (place_none word s some h)

-- ---- digits
or_first : (a b : Bool) → (a || b) ≡ false → a ≡ false
or_first true b h = h
or_first false b h = refl

no_digit : (c : ℕ) → is_word c ≡ false → is_ascii_digit c ≡ false
no_digit c h = (let d : is_digit c ≡ false = or_first (is_digit c) _ h in grind (arith, nat_tests))

is_one : (c : ℕ) → IsInRange 48 57 c → is_ascii_digit c ≡ true
is_one c h = grind (arith, nat_tests)

-- a text begins with no digit
abbrev NoDigit : List ℕ → Type 0
NoDigit [] = Unit {0}
NoDigit (c ∷ cs) = is_ascii_digit c ≡ false

counted : (ds x : List ℕ) → AllDigits 10 ds → NoDigit x → digit_count (ds ++ x) ≡ length ds
counted [] [] a h = refl
counted [] (c ∷ cs) a h = ap (λ t. if t then suc (digit_count cs) else 0) h
counted (d ∷ ds) x a h = ap (λ t. if t then suc (digit_count (ds ++ x)) else 0) (is_one d (digit_from_value d a.0)) ∙ ap suc (counted ds x a.1 h)

pub digits_over : (n : ℕ) (x : List ℕ) → n < 2 ^ 64 → NoDigit x → after_digits (decimal n ++ x) ≡ x
digits_over n x small h = ap (λ k. drop k (decimal n ++ x)) (counted (decimal n) x (decimal_is_IsNumeral n small).0.1 h) ∙ drop-append_seam (decimal n) x

-- ---- forms
abbrev word_of : List ℕ → List ℕ
word_of prefix = prefix ++ codes "tok"

tok_word : AllWord (codes "tok")
tok_word = (refl, (refl, (refl, tt)))

some_word : (prefix : List ℕ) → 0 < length (word_of prefix)
some_word prefix = omega (arith, length-append prefix (codes "tok"))

-- a name, behind which something stands
named_more : (prefix : List ℕ) (k : ℕ) (x : List ℕ) → capture_name prefix k ++ x ≡ word_of prefix ++ (decimal k ++ x)
named_more prefix k x =
    ap (λ t. t ++ x) (sym (append_assoc prefix (codes "tok") (decimal k))) ∙ append_assoc (word_of prefix) (decimal k) x

abbrev pub underscored : List (List ℕ) → List ℕ
underscored pieces = join_by (λ t. t) (codes "_") pieces

joined_more : (q p : List ℕ) (ps : List (List ℕ)) → underscored (q ∷ p ∷ ps) ≡ (q ++ codes "_") ++ underscored (p ∷ ps)
joined_more q p ps = sym (append_assoc q (codes "_") (p ++ flat_map (λ y. codes "_" ++ y) ps))

first_nowhere : (prefix q : List ℕ) (ps : List (List ℕ)) → AreApart prefix (q ∷ ps) → StandsNowhere prefix q
first_nowhere prefix q [] a = a
first_nowhere prefix q (p ∷ ps) a = a.0

-- what stands behind a hole begins with no digit
behind_hole : (prefix p : List ℕ) (ps : List (List ℕ)) (k : ℕ) → BeginsApart p ps → NoDigit (p ++ pieces_from prefix k ps)
behind_hole prefix [] ps k h = subst (λ (l : List (List ℕ)). NoDigit (pieces_from prefix k l)) (sym h) tt
behind_hole prefix (c ∷ cs) ps k h = no_digit c h

form_pieces : (prefix : List ℕ) (n k : ℕ) (q : List ℕ) (ps : List (List ℕ)) → AllWord prefix → length ps ≤ n → k + length ps < 2 ^ 64 → AreApart prefix (q ∷ ps) → form_within n (word_of prefix) (q ++ pieces_from prefix k ps) ≡ underscored (q ∷ ps)
form_pieces prefix zero k q [] w le small a = refl
form_pieces prefix (suc n) k q [] w le small a =
    let word = word_of prefix in
    let s = q ++ [] in
    let nowhere : StandsNowhere word s = subst (StandsNowhere word) (sym (append-nil q)) (longer_nowhere prefix (codes "tok") q a) in
    ap (form_around (λ t. form_within n word t) s) (cut_nowhere word s (some_word prefix) nowhere)
form_pieces prefix zero k q (p ∷ ps) w le small a = absurd (omega arith)
form_pieces prefix (suc n) k q (p ∷ ps) w le small a =
    let word = word_of prefix in
    let rest = p ++ pieces_from prefix (k + 1) ps in
    let text : pieces_from prefix k (p ∷ ps) ≡ word ++ (decimal k ++ rest) = append_assoc (capture_name prefix k) p (pieces_from prefix (k + 1) ps) ∙ named_more prefix k rest in
    ap (λ t. form_within (suc n) word (q ++ t)) text
    ∙ ap (form_around (λ t. form_within n word t) (q ++ (word ++ (decimal k ++ rest)))) (cut_there word q (decimal k ++ rest) (all_word prefix (codes "tok") w tok_word) a.1 (longer_nowhere prefix (codes "tok") q a.0))
    ∙ ap (λ t. (q ++ codes "_") ++ form_within n word t) (digits_over k rest (omega arith) (behind_hole prefix p ps (k + 1) a.2))
    ∙ ap (λ t. (q ++ codes "_") ++ t) (form_pieces prefix n (k + 1) p ps w (omega arith) (omega arith) a.3)
    ∙ sym (joined_more q p ps)

-- as many bytes as holes, and more
pub long_enough : (prefix : List ℕ) (k : ℕ) (ps : List (List ℕ)) → length ps ≤ length (pieces_from prefix k ps)
long_enough prefix k [] = omega arith
long_enough prefix k (p ∷ ps) =
    let rest = long_enough prefix (k + 1) ps in
    let name : length (capture_name prefix k) ≡ length prefix + length (codes "tok" ++ decimal k) = length-append prefix (codes "tok" ++ decimal k) in
    let number : length (codes "tok" ++ decimal k) ≡ 3 + length (decimal k) = length-append (codes "tok") (decimal k) in
    let one : length (capture_name prefix k ++ p) ≡ length (capture_name prefix k) + length p = length-append (capture_name prefix k) p in
    let all : length ((capture_name prefix k ++ p) ++ pieces_from prefix (k + 1) ps) ≡ length (capture_name prefix k ++ p) + length (pieces_from prefix (k + 1) ps) = length-append (capture_name prefix k ++ p) (pieces_from prefix (k + 1) ps) in
    omega arith

-- the form of pieces with names between them
pub form_named : (prefix : List ℕ) (pieces : List (List ℕ)) → AllWord prefix → length pieces < 2 ^ 64 → AreApart prefix pieces → form_of prefix (named_pieces prefix pieces) ≡ underscored pieces
form_named prefix [] w small a = refl
form_named prefix (q ∷ ps) w small a =
    let long : length ps ≤ length (q ++ pieces_from prefix 0 ps) = omega (arith, long_enough prefix 0 ps, length-append q (pieces_from prefix 0 ps)) in
    form_pieces prefix (length (q ++ pieces_from prefix 0 ps)) 0 q ps w long (omega arith) a
