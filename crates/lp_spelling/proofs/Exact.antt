-- What is spelled so is read: each hole is found again.
use Rattle.std.proofs.Common.{◌≡◌, ◌≢◌, ℕ, ◌+◌, ◌-◌, ◌*◌, ◌/◌, ◌<◌, ◌≤◌, suc, Bool, true, false, not, cond, ◌&&◌, inl, inr, ⊎_elim, List, [], ◌∷◌, ◌++◌, length, get_or, take, drop, Option, Some, refl, sym, ◌∙◌, ap, arith, eq-eqb, eqb, ltb, ne_eqb, append_assoc, length-append, subst}
use Rattle.std.specs.List.{list_all, prefix_len}
use Rattle.std.proofs.Math.Nat.{mul-div_cancel_left}
use Rattle.std.proofs.lemmas.Bool.{false≢true, and_parts, cond-true, cond-false, cases_Bool, cases_eq, not-true, leb-true, lt-ltb, or_parts}
use Rattle.std.proofs.lemmas.List.{get_or-take, get_or_past, length-take, length-take-le, take_at, drop_at, take_more}
use Rattle.lp_form.specs.declared.template.Kind.{Kind}
use Rattle.lp_form.specs.declared.template.Kind.TheVariants as kind
use Rattle.lp_form.specs.declared.template.Slot.{Slot}
use Rattle.lp_form.specs.declared.template.Slot.TheVariants.{Nothing, Prefix, Hole}
use Rattle.lp_form.specs.Templates.{Piece}
use Rattle.lp_spelling.specs.Lines.{slot_text, line_of}
use Rattle.lp_spelling.specs.HoleEnds.{is_digit, is_word, left_by, times, is_up_to, is_alone, kind_len, hole_len}
use Rattle.lp_spelling.specs.LineReading.{◌>>=◌, after, kind_of, new_at, slot_at, line_at}
use Rattle.lp_spelling.specs.LineHoles.{IsFound, known_after, known_in, SlotFound, AreFound, is_apart}
use Rattle.lp_spelling.proofs.Reading.{after_again, next_slot}

-- the next hole, which is found
new_exact : (prefix : List ℕ) (kinds : List Kind) (holes : List (List ℕ)) (n : ℕ) (parts : List Piece) → n < length holes → IsFound prefix kinds holes n parts →
    slot_at prefix kinds (Hole n) parts (take n holes) (get_or holes n [] ++ line_of prefix holes parts) ≡ Some (take (n + 1) holes, line_of prefix holes parts)
unfolding new_at
new_exact prefix kinds holes n parts lt found =
    let x : List ℕ = get_or holes n [] in
    let line : List ℕ = line_of prefix holes parts in
    let m : ℕ = hole_len prefix (kind_of kinds n) n parts (take n holes) (x ++ line) in
    let size : n ≡ length (take n holes) = sym (length-take-le n holes (omega arith)) in
    let t : take m (x ++ line) ≡ x = take_at x line m (sym found) in
    let d : drop m (x ++ line) ≡ line = drop_at x line m (sym found) in
    next_slot prefix kinds n parts (take n holes) (x ++ line) size
    ∙ ap (λ (y : List ℕ). Some (take n holes ++ y ∷ [], drop m (x ++ line))) t
    ∙ ap (λ (y : List ℕ). Some (take n holes ++ x ∷ [], y)) d
    ∙ ap (λ (y : List (List ℕ)). Some (y, line)) (sym (take_more holes n [] lt))

known_exact : (prefix : List ℕ) (kinds : List Kind) (holes : List (List ℕ)) (n k : ℕ) (parts : List Piece) → n ≤ length holes → k < n →
    slot_at prefix kinds (Hole k) parts (take n holes) (get_or holes k [] ++ line_of prefix holes parts) ≡ Some (take n holes, line_of prefix holes parts)
unfolding slot_at
known_exact prefix kinds holes n k parts le lt =
    let x : List ℕ = get_or holes k [] in
    let line : List ℕ = line_of prefix holes parts in
    let some : ltb k (length (take n holes)) ≡ true = lt-ltb k (length (take n holes)) (omega (arith, length-take-le n holes le)) in
    let s : get_or (take n holes) k [] ≡ x = get_or-take n holes k [] lt in
    let a : after (get_or (take n holes) k []) (x ++ line) ≡ Some line = ap (λ y. after y (x ++ line)) s ∙ after_again x line in
    cond-true (ltb k (length (take n holes))) _ _ some ∙ ap (λ (o : Option (List ℕ)). o >>= λ rest. Some (take n holes, rest)) a

-- the count of known holes stays within the holes
pub known_small : (prefix : List ℕ) (kinds : List Kind) (holes : List (List ℕ)) (n : ℕ) (slot : Slot) (parts : List Piece) → n ≤ length holes → SlotFound prefix kinds holes n slot parts →
    known_after slot n ≤ length holes
known_small prefix kinds holes n Nothing parts le f = le
known_small prefix kinds holes n Prefix parts le f = le
known_small prefix kinds holes n (Hole k) parts le f =
    ⊎_elim
    (λ (lt : k < n). rw (cond-false (eqb k n) (suc n) n (ne_eqb k n (λ e. absurd (omega (arith, e, lt))))) le)
    (λ p. rw (cond-true (eqb k n) (suc n) n (eq-eqb k n p.0)) (omega (arith, p.1)))
    f

pub slot_exact : (prefix : List ℕ) (kinds : List Kind) (holes : List (List ℕ)) (n : ℕ) (slot : Slot) (parts : List Piece) → n ≤ length holes → SlotFound prefix kinds holes n slot parts →
    slot_at prefix kinds slot parts (take n holes) (slot_text prefix holes slot ++ line_of prefix holes parts) ≡ Some (take (known_after slot n) holes, line_of prefix holes parts)
unfolding slot_at
slot_exact prefix kinds holes n Nothing parts le f = refl
slot_exact prefix kinds holes n Prefix parts le f = ap (λ (o : Option (List ℕ)). o >>= λ rest. Some (take n holes, rest)) (after_again prefix (line_of prefix holes parts))
slot_exact prefix kinds holes n (Hole k) parts le f =
    let line : List ℕ = line_of prefix holes parts in
    ⊎_elim
    (λ (lt : k < n).
    let i : n ≡ known_after (Hole k) n = sym (cond-false (eqb k n) (suc n) n (ne_eqb k n (λ e. absurd (omega (arith, e, lt))))) in
    known_exact prefix kinds holes n k parts le lt ∙ ap (λ j. Some (take j holes, line)) i)
    (λ p.
    let i : n + 1 ≡ known_after (Hole k) n = omega arith ∙ sym (cond-true (eqb k n) (suc n) n (eq-eqb k n p.0)) in
    let at : slot_at prefix kinds (Hole n) parts (take n holes) (get_or holes n [] ++ line) ≡ Some (take (known_after (Hole k) n) holes, line)
    = new_exact prefix kinds holes n parts p.1 p.2 ∙ ap (λ j. Some (take j holes, line)) i in
    subst (λ j. slot_at prefix kinds (Hole j) parts (take n holes) (get_or holes j [] ++ line) ≡ Some (take (known_after (Hole k) n) holes, line)) (sym p.0) at)
    f

-- a line whose holes are found is read as them
pub line_exact : (prefix : List ℕ) (kinds : List Kind) (holes : List (List ℕ)) (n : ℕ) (parts : List Piece) → n ≤ length holes → AreFound prefix kinds holes n parts →
    line_at prefix kinds parts (take n holes) (line_of prefix holes parts) ≡ Some (take (known_in parts n) holes)
unfolding line_at line_of AreFound
line_exact prefix kinds holes n [] le f = refl
line_exact prefix kinds holes n (p ∷ parts) le f =
    let text : List ℕ = slot_text prefix holes p.1 in
    let line : List ℕ = line_of prefix holes parts in
    let front : after p.0 ((p.0 ++ text) ++ line) ≡ Some (text ++ line) = ap (after p.0) (append_assoc p.0 text line) ∙ after_again p.0 (text ++ line) in
    let slot : slot_at prefix kinds p.1 parts (take n holes) (text ++ line) ≡ Some (take (known_after p.1 n) holes, line) = slot_exact prefix kinds holes n p.1 parts le f.0 in
    ap (λ (o : Option (List ℕ)). (o >>= λ rest. slot_at prefix kinds p.1 parts (take n holes) rest) >>= λ x. line_at prefix kinds parts x.0 x.1) front
    ∙ ap (λ (o : Option (List (List ℕ) × List ℕ)). o >>= λ x. line_at prefix kinds parts x.0 x.1) slot
    ∙ line_exact prefix kinds holes (known_after p.1 n) parts (known_small prefix kinds holes n p.1 parts le f.0) f.1

-- where nothing else is left to be told: of the length of a line, the parts leave what the hole takes, once for each time that it stands there
total : (s x t : List ℕ) (m : ℕ) → m + length ((s ++ x) ++ t) ≡ m + length s + length x + length t
total s x t m = omega (arith, length-append (s ++ x) t, length-append s x)

abbrev LeftOf : List ℕ → List (List ℕ) → ℕ → List Piece → ℕ → Type 0
LeftOf prefix holes k parts m = left_by prefix (take k holes) parts (m + length (line_of prefix holes parts)) ≡ m + times k parts * length (get_or holes k [])

left_slot : (prefix : List ℕ) (holes : List (List ℕ)) (k : ℕ) (s : List ℕ) (slot : Slot) (parts : List Piece) (m : ℕ) → is_up_to k slot ≡ true → ((m : ℕ) → LeftOf prefix holes k parts m) → LeftOf prefix holes k ((s, slot) ∷ parts) m
unfolding left_by line_of times
left_slot prefix holes k s Nothing parts m u ih =
    let line : List ℕ = line_of prefix holes parts in
    let e : m + length ((s ++ []) ++ line) - length s - 0 ≡ m + length line = omega (arith, total s [] line m) in
    ap (left_by prefix (take k holes) parts) e ∙ ih m
left_slot prefix holes k s Prefix parts m u ih =
    let line : List ℕ = line_of prefix holes parts in
    let e : m + length ((s ++ prefix) ++ line) - length s - length prefix ≡ m + length line = omega (arith, total s prefix line m) in
    ap (left_by prefix (take k holes) parts) e ∙ ih m
left_slot prefix holes k s (Hole j) parts m u ih = elim (cases_eq j k) [
  | inl e ↦ left_same prefix holes k s j parts m e ih
  | inr ne ↦ left_known prefix holes k s j parts m ne (omega (arith, leb-true j k u)) ih
]
  where
    left_same : (prefix : List ℕ) (holes : List (List ℕ)) (k : ℕ) (s : List ℕ) (j : ℕ) (parts : List Piece) (m : ℕ) → j ≡ k → ((m : ℕ) → LeftOf prefix holes k parts m) → LeftOf prefix holes k ((s, Hole j) ∷ parts) m
    left_same prefix holes k s j parts m e ih =
        let line : List ℕ = line_of prefix holes parts in
        let x : List ℕ = get_or holes j [] in
        let gone : length (get_or (take k holes) j []) ≡ 0 = ap length (get_or_past (take k holes) j [] (omega (arith, length-take k holes))) in
        let same : length x ≡ length (get_or holes k []) = ap (λ i. length (get_or holes i [])) e in
        let n : m + length ((s ++ x) ++ line) - length s - length (get_or (take k holes) j []) ≡ (m + length x) + length line = omega (arith, total s x line m) in
        let i : left_by prefix (take k holes) parts ((m + length x) + length line) ≡ (m + length x) + times k parts * length (get_or holes k []) = ih (m + length x) in
        let c : cond (eqb j k) (suc (times k parts)) (times k parts) ≡ suc (times k parts) = cond-true (eqb j k) _ _ (eq-eqb j k e) in
        ap (left_by prefix (take k holes) parts) n ∙ i ∙ (rw c (omega arith))

    left_known : (prefix : List ℕ) (holes : List (List ℕ)) (k : ℕ) (s : List ℕ) (j : ℕ) (parts : List Piece) (m : ℕ) → j ≢ k → j < k → ((m : ℕ) → LeftOf prefix holes k parts m) → LeftOf prefix holes k ((s, Hole j) ∷ parts) m
    left_known prefix holes k s j parts m ne lt ih =
        let line : List ℕ = line_of prefix holes parts in
        let x : List ℕ = get_or holes j [] in
        let known : length (get_or (take k holes) j []) ≡ length x = ap length (get_or-take k holes j [] lt) in
        let n : m + length ((s ++ x) ++ line) - length s - length (get_or (take k holes) j []) ≡ m + length line = omega (arith, total s x line m) in
        let c : cond (eqb j k) (suc (times k parts)) (times k parts) ≡ times k parts = cond-false (eqb j k) _ _ (ne_eqb j k ne) in
        ap (left_by prefix (take k holes) parts) n ∙ ih m ∙ (rw c refl)

left_of : (prefix : List ℕ) (holes : List (List ℕ)) (k : ℕ) (parts : List Piece) (m : ℕ) → list_all (λ p. is_up_to k p.1) parts ≡ true → LeftOf prefix holes k parts m
unfolding left_by line_of times
left_of prefix holes k [] m h = omega arith
left_of prefix holes k (p ∷ parts) m h =
    let q = and_parts (is_up_to k p.1) (list_all (λ p. is_up_to k p.1) parts) h in
    left_slot prefix holes k p.0 p.1 parts m q.0 (λ m. left_of prefix holes k parts m q.1)

pub alone_found : (prefix : List ℕ) (kinds : List Kind) (holes : List (List ℕ)) (n : ℕ) (parts : List Piece) → is_alone n parts ≡ true → IsFound prefix kinds holes n parts
unfolding hole_len is_alone
alone_found prefix kinds holes n parts h =
    let x : List ℕ = get_or holes n [] in
    let text : List ℕ = x ++ line_of prefix holes parts in
    let e : length text ≡ length x + length (line_of prefix holes parts) = length-append x (line_of prefix holes parts) in
    let l : left_by prefix (take n holes) parts (length x + length (line_of prefix holes parts)) ≡ length x + times n parts * length x = left_of prefix holes n parts (length x) h in
    let m : length x + times n parts * length x ≡ (1 + times n parts) * length x = omega arith in
    cond-true (list_all (λ p. is_up_to n p.1) parts) _ _ h
    ∙ ap (λ i. i / (1 + times n parts)) (ap (left_by prefix (take n holes) parts) e ∙ l ∙ m) ∙ mul-div_cancel_left (length x) (omega arith)

-- a text that doesn't go on with a byte that passes
abbrev pub Stops : (ℕ → Bool) → List ℕ → Type 0
Stops test [] = Unit {0}
Stops test (b ∷ text) = test b ≡ false

pub run_front : (test : ℕ → Bool) (x r : List ℕ) → list_all test x ≡ true → Stops test r → prefix_len test (x ++ r) ≡ length x
run_front test [] [] h s = refl
run_front test [] (b ∷ r) h s = cond-false (test b) _ _ s
run_front test (b ∷ x) r h s =
    let p = and_parts (test b) (list_all test x) h in
    cond-true (test b) _ _ p.0 ∙ omega (arith, run_front test x r p.1 s)

digit_stops : (b : ℕ) → is_word b ≡ false → is_digit b ≡ false
digit_stops b h = (or_parts (is_digit b) _ h).0

apart_text : (s t : List ℕ) → (ltb 0 (length s) && not (is_word (get_or s 0 0))) ≡ true → Stops is_word (s ++ t) × Stops is_digit (s ++ t)
apart_text [] t h = absurd (false≢true h)
apart_text (c ∷ s) t h =
    let n : is_word c ≡ false = not-true (is_word c) (and_parts (ltb 0 (length (c ∷ s))) (not (is_word c)) h).1 in
    (n, digit_stops c n)

pub apart : (prefix : List ℕ) (holes : List (List ℕ)) (parts : List Piece) → is_apart parts ≡ true → Stops is_word (line_of prefix holes parts) × Stops is_digit (line_of prefix holes parts)
unfolding line_of
apart prefix holes [] h = (tt, tt)
apart prefix holes (p ∷ parts) h =
    let text : List ℕ = slot_text prefix holes p.1 in
    let line : List ℕ = line_of prefix holes parts in
    let e : p.0 ++ (text ++ line) ≡ (p.0 ++ text) ++ line = sym (append_assoc p.0 text line) in
    subst (λ (t : List ℕ). Stops is_word t × Stops is_digit t) e (apart_text p.0 (text ++ line) h)

-- a hole that its kind tells, or that is alone
by_kind : (prefix : List ℕ) (kinds : List Kind) (holes : List (List ℕ)) (n : ℕ) (parts : List Piece) →
    kind_len prefix (kind_of kinds n) parts (get_or holes n [] ++ line_of prefix holes parts) ≡ length (get_or holes n []) → IsFound prefix kinds holes n parts
unfolding hole_len
by_kind prefix kinds holes n parts h = elim (cases_Bool (is_alone n parts)) [
  | inl y ↦ alone_found prefix kinds holes n parts y
  | inr others ↦ cond-false (is_alone n parts) _ _ others ∙ h
]

pub name_found : (prefix : List ℕ) (kinds : List Kind) (holes : List (List ℕ)) (n : ℕ) (parts : List Piece) → kind_of kinds n ≡ kind.Name → is_apart parts ≡ true →
    list_all is_word (get_or holes n []) ≡ true → IsFound prefix kinds holes n parts
unfolding kind_len
name_found prefix kinds holes n parts k a w =
    let x : List ℕ = get_or holes n [] in
    let line : List ℕ = line_of prefix holes parts in
    by_kind prefix kinds holes n parts (ap (λ i. kind_len prefix i parts (x ++ line)) k ∙ run_front is_word x line w (apart prefix holes parts a).0)

pub plain_found : (prefix : List ℕ) (kinds : List Kind) (holes : List (List ℕ)) (n : ℕ) (parts : List Piece) → kind_of kinds n ≡ kind.PlainName → is_apart parts ≡ true →
    list_all is_word (get_or holes n []) ≡ true → IsFound prefix kinds holes n parts
unfolding kind_len
plain_found prefix kinds holes n parts k a w =
    let x : List ℕ = get_or holes n [] in
    let line : List ℕ = line_of prefix holes parts in
    by_kind prefix kinds holes n parts (ap (λ i. kind_len prefix i parts (x ++ line)) k ∙ run_front is_word x line w (apart prefix holes parts a).0)

pub escaped_found : (prefix : List ℕ) (kinds : List Kind) (holes : List (List ℕ)) (n : ℕ) (parts : List Piece) → kind_of kinds n ≡ kind.Escaped → is_apart parts ≡ true →
    list_all is_word (get_or holes n []) ≡ true → IsFound prefix kinds holes n parts
unfolding kind_len
escaped_found prefix kinds holes n parts k a w =
    let x : List ℕ = get_or holes n [] in
    let line : List ℕ = line_of prefix holes parts in
    by_kind prefix kinds holes n parts (ap (λ i. kind_len prefix i parts (x ++ line)) k ∙ run_front is_word x line w (apart prefix holes parts a).0)

pub number_found : (prefix : List ℕ) (kinds : List Kind) (holes : List (List ℕ)) (n : ℕ) (parts : List Piece) → kind_of kinds n ≡ kind.Number → is_apart parts ≡ true →
    list_all is_digit (get_or holes n []) ≡ true → IsFound prefix kinds holes n parts
unfolding kind_len
number_found prefix kinds holes n parts k a w =
    let x : List ℕ = get_or holes n [] in
    let line : List ℕ = line_of prefix holes parts in
    by_kind prefix kinds holes n parts (ap (λ i. kind_len prefix i parts (x ++ line)) k ∙ run_front is_digit x line w (apart prefix holes parts a).1)

pub not_one_found : (prefix : List ℕ) (kinds : List Kind) (holes : List (List ℕ)) (n : ℕ) (parts : List Piece) → kind_of kinds n ≡ kind.NotOne → is_apart parts ≡ true →
    list_all is_digit (get_or holes n []) ≡ true → IsFound prefix kinds holes n parts
unfolding kind_len
not_one_found prefix kinds holes n parts k a w =
    let x : List ℕ = get_or holes n [] in
    let line : List ℕ = line_of prefix holes parts in
    by_kind prefix kinds holes n parts (ap (λ i. kind_len prefix i parts (x ++ line)) k ∙ run_front is_digit x line w (apart prefix holes parts a).1)
