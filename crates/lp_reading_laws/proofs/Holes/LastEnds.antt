-- Holes that end at the last place where the parts go on.
use Rattle.std.proofs.Common.{◌≡◌, ℕ, ◌+◌, true, false, not, List, [], ◌∷◌, ◌++◌, length, get_or, drop, refl, ap, ◌∙◌, arith, eqb, ltb, length-append}
use Rattle.std.specs.List.{starts_with}
use Rattle.std.proofs.lemmas.Bool.{and_parts, ltb-true, not-true, both_ways}
use Rattle.lp_form.specs.Templates.{Piece}
use Rattle.lp_form.specs.declared.template.Kind.{Kind}
use Rattle.lp_form.specs.declared.template.Slot.{Slot}
use Rattle.lp_form.specs.declared.template.Slot.TheVariants.{Nothing, Prefix, Hole}
use Rattle.lp_spelling.specs.Lines.{slot_text, line_of}
use Rattle.lp_spelling.specs.HoleEnds.{last_at, goes_on}
use Rattle.lp_spelling.specs.LineReading.{kind_of}
use Rattle.lp_reading_laws.specs.Holes.LineTests.{is_without, angle, is_free_slot, are_free, is_last_angle}
use Rattle.lp_reading_laws.specs.Holes.Found.{are_words}
use Rattle.lp_reading_laws.proofs.Holes.Places.{first_of, last_apart, not_later}
use Rattle.lp_reading_laws.proofs.Holes.Holding.{words_without, without-append, kind_free}
use Rattle.lp_reading_laws.proofs.Holes.GoingOn.{AllFill, goes_here, goes_front, line_split}

-- nothing behind the next literal text has its `>`
slot_free : (prefix : List ℕ) (kinds : List Kind) (holes : List (List ℕ)) (s : Slot) → are_words prefix ≡ true → AllFill prefix kinds holes → is_free_slot kinds s ≡ true →
    is_without angle (slot_text prefix holes s) ≡ true
slot_free prefix kinds holes Nothing w f h = refl
slot_free prefix kinds holes Prefix w f h = words_without angle prefix refl w
slot_free prefix kinds holes (Hole k) w f h =
    let q = and_parts (ltb k (length kinds)) _ h in
    kind_free prefix (kind_of kinds k) (get_or holes k []) (f k (ltb-true k (length kinds) q.0)).1 q.1

parts_free : (prefix : List ℕ) (kinds : List Kind) (holes : List (List ℕ)) (ps : List Piece) → are_words prefix ≡ true → AllFill prefix kinds holes → are_free kinds ps ≡ true →
    is_without angle (line_of prefix holes ps) ≡ true
unfolding line_of
parts_free prefix kinds holes [] w f h = refl
parts_free prefix kinds holes (p ∷ ps) w f h =
    let a = and_parts (is_without angle p.0) _ h in
    let b = and_parts (is_free_slot kinds p.1) (are_free kinds ps) a.1 in
    without-append angle (p.0 ++ slot_text prefix holes p.1) (line_of prefix holes ps) (without-append angle p.0 (slot_text prefix holes p.1) a.0 (slot_free prefix kinds holes p.1 w f b.0))
    (parts_free prefix kinds holes ps w f b.1)

pub angle_last : (prefix : List ℕ) (kinds : List Kind) (holes : List (List ℕ)) (x : List ℕ) (parts : List Piece) → are_words prefix ≡ true → AllFill prefix kinds holes → is_last_angle kinds parts ≡ true →
    last_at (goes_on prefix parts) (x ++ line_of prefix holes parts) ≡ length x
angle_last prefix kinds holes x [] w f h = absurd (both_ways false refl h)
angle_last prefix kinds holes x (p ∷ ps) w f h =
    let q = and_parts (not (is_without angle p.0)) _ h in
    let r = and_parts (is_free_slot kinds p.1) (are_free kinds ps) q.1 in
    let slot : List ℕ = slot_text prefix holes p.1 in
    let z : List ℕ = slot ++ line_of prefix holes ps in
    let line : List ℕ = line_of prefix holes (p ∷ ps) in
    let has : is_without angle p.0 ≡ false = not-true (is_without angle p.0) q.0 in
    let free : is_without angle z ≡ true = without-append angle slot (line_of prefix holes ps) (slot_free prefix kinds holes p.1 w f r.0) (parts_free prefix kinds holes ps w f r.1) in
    let e : line ≡ p.0 ++ z = line_split prefix holes p ps in
    let first = first_of angle p.0 has in
    let within = first.within in
    let size : length line ≡ length p.0 + length z = ap length e ∙ length-append p.0 z in
    last_apart (goes_on prefix (p ∷ ps)) x line (omega (arith, within, size)) (goes_here prefix holes (p ∷ ps)) (λ i gt.
    goes_front prefix p ps (drop i line) (ap (λ (t : List ℕ). starts_with eqb (drop i t) p.0) e ∙ not_later angle p.0 z (omega arith) has free i gt))
