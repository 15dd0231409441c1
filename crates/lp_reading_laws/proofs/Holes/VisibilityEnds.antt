-- A visibility ends by its bracket.
use Rattle.std.proofs.Common.{◌≡◌, ℕ, ◌+◌, ◌-◌, ◌==◌, ◌<◌, ◌≤◌, suc, true, false, min, List, [], ◌∷◌, ◌++◌, length, get_or, drop, codes, refl, sym, ap, ◌∙◌, subst, arith, eqb, ltb, inl, inr, ⊎_elim, length-append}
use Rattle.std.specs.List.{starts_with, ends_with}
use Rattle.std.specs.Str.{bytes_eq}
use Rattle.std.proofs.Math.Nat.{min-le_left, min-eq_left}
use Rattle.std.proofs.lemmas.Bool.{and_parts, and_left, or_cases, cases_Bool, cases_eq, cond-true, cond-false, eqb-true, eq-eqb, ne_eqb, ltb-true, lt-ltb, not-true, both_ways}
use Rattle.std.proofs.lemmas.Slice.Eq.{bytes_eq-Decides}
use Rattle.lp_form.specs.Templates.{Piece}
use Rattle.lp_spelling.specs.Lines.{slot_text, line_of}
use Rattle.lp_spelling.specs.HoleEnds.{depth_after, closes_all, close_at, path_len, visibility_len}
use Rattle.lp_spelling.specs.Fillings.{is_bare, is_visibility}
use Rattle.lp_spelling.proofs.Reading.{starts_ok}
use Rattle.lp_reading_laws.specs.Holes.LineTests.{letter_p, begins_apart, next_apart}
use Rattle.lp_reading_laws.proofs.Holes.Places.{begins_more}
use Rattle.lp_reading_laws.proofs.Holes.Holding.{blank_last, empty_is}
use Rattle.lp_reading_laws.proofs.Holes.GoingOn.{line_split}

-- a visibility ends by its bracket
close_more : (d : ℕ) (x r : List ℕ) → close_at d x < length x → close_at d (x ++ r) ≡ close_at d x
unfolding close_at
close_more d [] r lt = absurd (omega arith)
close_more d (b ∷ x) r lt = elim (cases_Bool (closes_all d b)) [
  | inl y ↦ cond-true (closes_all d b) _ _ y ∙ sym (cond-true (closes_all d b) _ _ y)
  | inr n ↦
      let e : close_at d (b ∷ x) ≡ suc (close_at (depth_after d b) x) = cond-false (closes_all d b) _ _ n in
      cond-false (closes_all d b) _ _ n ∙ ap suc (close_more (depth_after d b) x r (omega (arith, e))) ∙ sym e
]

close_byte : (d : ℕ) (x : List ℕ) → close_at d x < length x → get_or x (close_at d x) 0 ≡ 41
unfolding close_at
close_byte d [] lt = absurd (omega arith)
close_byte d (b ∷ x) lt = elim (cases_Bool (closes_all d b)) [
  | inl y ↦
      let e : close_at d (b ∷ x) ≡ 0 = cond-true (closes_all d b) _ _ y in
      ap (λ i. get_or (b ∷ x) i 0) e ∙ eqb-true b 41 (and_parts (b == 41) _ y).0
  | inr n ↦
      let e : close_at d (b ∷ x) ≡ suc (close_at (depth_after d b) x) = cond-false (closes_all d b) _ _ n in
      ap (λ i. get_or (b ∷ x) i 0) e ∙ close_byte (depth_after d b) x (omega (arith, e))
]

path_whole : (x r : List ℕ) → close_at 0 x + 2 ≡ length x → path_len (x ++ r) ≡ length x
path_whole x r h =
    let c : ℕ = close_at 0 x in
    let same : close_at 0 (x ++ r) ≡ c = close_more 0 x r (omega arith) in
    let size : length (x ++ r) ≡ length x + length r = length-append x r in
    let fits : close_at 0 (x ++ r) + 2 ≤ length (x ++ r) = omega (arith, same, size) in
    cond-true (ltb (close_at 0 (x ++ r)) (length (x ++ r))) _ _ (lt-ltb (close_at 0 (x ++ r)) (length (x ++ r)) (omega (arith, same, size)))
    ∙ min-eq_left fits ∙ omega (arith, same)

path_closed : (x : List ℕ) → 0 < length x → path_len x ≡ length x → get_or x (length x - 1) 0 ≡ 32 → close_at 0 x + 2 ≡ length x
path_closed x l h last = elim (cases_Bool (ltb (close_at 0 x) (length x))) [
  | inl y ↦
      let c : ℕ = close_at 0 x in
      let lt = ltb-true (close_at 0 x) (length x) y in
      let m : min (c + 2) (length x) ≡ length x = sym (cond-true (ltb (close_at 0 x) (length x)) _ _ y) ∙ h in
      let le = min-le_left (c + 2) (length x) in
      elim (cases_eq (c + 1) (length x)) [
        | inl e ↦
            let at : get_or x c 0 ≡ 41 = close_byte 0 x lt in
            let i : length x - 1 ≡ c = omega (arith, e) in
            absurd (omega (arith, sym at ∙ ap (λ j. get_or x j 0) (sym i) ∙ last))
        | inr ne ↦ omega (arith, lt, m, le, ne)
      ]
  | inr n ↦ absurd (omega (arith, sym (cond-false (ltb (close_at 0 x) (length x)) _ _ n) ∙ h))
]

bracket_path : (w : List ℕ) → visibility_len (codes "pub(" ++ w) ≡ path_len (codes "pub(" ++ w)
unfolding visibility_len
bracket_path w = refl

visibility_path : (x : List ℕ) → starts_with eqb x (codes "pub(") ≡ true → visibility_len x ≡ path_len x
visibility_path x h = subst (λ (y : List ℕ). visibility_len y ≡ path_len y) (sym (starts_ok (codes "pub(") x h)) (bracket_path (drop 4 x))

none_visible : (b : ℕ) (r : List ℕ) → (b == 112) ≡ false → visibility_len (b ∷ r) ≡ 0
unfolding visibility_len
none_visible b r n =
    let no : eqb 112 b ≡ false = ne_eqb 112 b (λ e. both_ways (b == 112) n (eq-eqb b 112 (sym e))) in
    cond-false (starts_with eqb (b ∷ r) (codes "pub ")) _ _ (and_left (eqb 112 b) _ no) ∙ cond-false (starts_with eqb (b ∷ r) (codes "pub(")) _ _ (and_left (eqb 112 b) _ no)

pub_visible : (r : List ℕ) → visibility_len (codes "pub " ++ r) ≡ length (codes "pub ")
unfolding visibility_len
pub_visible r = refl

bracket_visible : (x r : List ℕ) → starts_with eqb x (codes "pub(") ≡ true → ends_with eqb x (codes " ") ≡ true → (visibility_len x == length x) ≡ true → visibility_len (x ++ r) ≡ length x
bracket_visible x r h e s =
    let size : length x ≡ 4 + length (drop 4 x) = ap length (starts_ok (codes "pub(") x h) ∙ length-append (codes "pub(") (drop 4 x) in
    let path : path_len x ≡ length x = sym (visibility_path x h) ∙ eqb-true (visibility_len x) (length x) s in
    visibility_path (x ++ r) (begins_more (codes "pub(") x r h) ∙ path_whole x r (path_closed x (omega (arith, size)) path (blank_last x e))

visibility_apart : (x : List ℕ) (b : ℕ) (r : List ℕ) → is_visibility x ≡ true → (b == 112) ≡ false → visibility_len (x ++ (b ∷ r)) ≡ length x
visibility_apart x b r h n =
    ⊎_elim
    (λ bare.
    ⊎_elim
    (λ e. subst (λ (y : List ℕ). visibility_len (y ++ (b ∷ r)) ≡ length y) (sym (empty_is x e)) (none_visible b r n))
    (λ e. subst (λ (y : List ℕ). visibility_len (y ++ (b ∷ r)) ≡ length y) (sym ((bytes_eq-Decides x (codes "pub ")).0 e)) (pub_visible (b ∷ r)))
    (or_cases (length x == 0) (bytes_eq x (codes "pub ")) bare))
    (λ k.
    let p = and_parts (starts_with eqb x (codes "pub(")) _ k in
    let q = and_parts (ends_with eqb x (codes " ")) (visibility_len x == length x) p.1 in
    bracket_visible x (b ∷ r) p.0 q.0 q.1)
    (or_cases (is_bare x) _ h)

visibility_text : (x t z : List ℕ) → is_visibility x ≡ true → begins_apart letter_p t ≡ true → visibility_len (x ++ (t ++ z)) ≡ length x
visibility_text x [] z h n = absurd (both_ways false refl n)
visibility_text x (b ∷ t) z h n = visibility_apart x b (t ++ z) h (not-true (b == 112) n)

pub visibility_first : (prefix : List ℕ) (holes : List (List ℕ)) (x : List ℕ) (parts : List Piece) → is_visibility x ≡ true → next_apart letter_p parts ≡ true → visibility_len (x ++ line_of prefix holes parts) ≡ length x
visibility_first prefix holes x [] h n = absurd (both_ways false refl n)
visibility_first prefix holes x (p ∷ ps) h n =
    ap (λ (y : List ℕ). visibility_len (x ++ y)) (line_split prefix holes p ps) ∙ visibility_text x p.0 (slot_text prefix holes p.1 ++ line_of prefix holes ps) h n
