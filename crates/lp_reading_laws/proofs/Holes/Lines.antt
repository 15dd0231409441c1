-- The holes of lines that pass the test are found.
use Rattle.std.proofs.Common.{◌≡◌, ℕ, ◌==◌, ◌<◌, ◌≤◌, true, false, not, ◌&&◌, ◌||◌, List, [], ◌∷◌, ◌++◌, length, take, Some, sym, ap, ◌∙◌, subst, arith, ltb, inl, inr, ⊎_elim}
use Rattle.std.proofs.lemmas.Bool.{and_parts, or_cases, cases_Bool, cond-true, cond-false, eqb-true, ltb-true}
use Rattle.lp_form.specs.Templates.{Piece}
use Rattle.lp_form.specs.Templates as template
use Rattle.lp_form.specs.declared.template.Kind.{Kind}
use Rattle.lp_form.specs.declared.template.Slot.{Slot}
use Rattle.lp_form.specs.declared.template.Slot.TheVariants.{Nothing, Prefix, Hole}
use Rattle.lp_spelling.specs.Lines.{line_of}
use Rattle.lp_spelling.specs.HoleEnds.{is_alone, hole_len}
use Rattle.lp_spelling.specs.LineReading.{kind_of, line_at}
use Rattle.lp_spelling.specs.LineHoles.{IsFound, known_after, known_in, SlotFound, AreFound}
use Rattle.lp_spelling.proofs.Exact.{alone_found, known_small, line_exact}
use Rattle.lp_reading_laws.specs.Holes.LineTests.{is_told_by, is_told, are_told, steps_told}
use Rattle.lp_reading_laws.specs.Holes.Found.{are_words, LinesFound, known_behind, SameLines}
use Rattle.lp_reading_laws.proofs.Holes.Asking.{Asks, AreMet, kind_asks, slot_asks, line_asks, steps_ask}
use Rattle.lp_reading_laws.proofs.Holes.GoingOn.{AllFill}
use Rattle.lp_reading_laws.proofs.Holes.KindEnds.{kind_tells}

-- what is asked in two lists
met_both : (prefix : List ℕ) (holes : List (List ℕ)) (a b : List Asks) → AreMet prefix holes (a ++ b) → AreMet prefix holes a × AreMet prefix holes b
met_both prefix holes [] b m = (tt, m)
met_both prefix holes (x ∷ a) b m = let r = met_both prefix holes a b m.1 in ((m.0, r.0), r.1)

-- a hole with others to be told behind it, or alone
hole_found : (prefix : List ℕ) (kinds : List Kind) (holes : List (List ℕ)) (n : ℕ) (parts : List Piece) → are_words prefix ≡ true → AllFill prefix kinds holes → n < length kinds →
    (is_alone n parts || is_told_by kinds (kind_of kinds n) parts) ≡ true → (is_alone n parts ≡ false → AreMet prefix holes (kind_asks (kind_of kinds n) n parts)) → IsFound prefix kinds holes n parts
unfolding hole_len
hole_found prefix kinds holes n parts w f lt t m = elim (cases_Bool (is_alone n parts)) [
  | inl y ↦ alone_found prefix kinds holes n parts y
  | inr others ↦
      let told : is_told_by kinds (kind_of kinds n) parts ≡ true = sym (ap (λ b. b || is_told_by kinds (kind_of kinds n) parts) others) ∙ t in
      cond-false (is_alone n parts) _ _ others ∙ kind_tells prefix kinds holes (kind_of kinds n) n parts w f (f n lt).1 told (m others)
]

-- what a slot asks is asked of the next hole where it isn't alone
asked : (prefix : List ℕ) (kinds : List Kind) (holes : List (List ℕ)) (n k : ℕ) (parts : List Piece) → AreMet prefix holes (slot_asks kinds n (Hole k) parts) → (k == n) ≡ true → is_alone n parts ≡ false →
    AreMet prefix holes (kind_asks (kind_of kinds n) n parts)
asked prefix kinds holes n k parts m e others =
    let both : ((k == n) && not (is_alone n parts)) ≡ true = ap (λ b. b && not (is_alone n parts)) e ∙ ap not others in
    subst (λ a. AreMet prefix holes a) (cond-true ((k == n) && not (is_alone n parts)) (kind_asks (kind_of kinds n) n parts) [] both) m

pub slot_found : (prefix : List ℕ) (kinds : List Kind) (holes : List (List ℕ)) (n : ℕ) (s : Slot) (parts : List Piece) → are_words prefix ≡ true → length kinds ≤ length holes → AllFill prefix kinds holes →
    is_told kinds n s parts ≡ true → AreMet prefix holes (slot_asks kinds n s parts) → SlotFound prefix kinds holes n s parts
slot_found prefix kinds holes n Nothing parts w le f t m = tt
slot_found prefix kinds holes n Prefix parts w le f t m = tt
slot_found prefix kinds holes n (Hole k) parts w le f t m =
    ⊎_elim
    (λ lt. inl (ltb-true k n lt))
    (λ h.
    let p = and_parts (k == n) _ h in
    let q = and_parts (ltb n (length kinds)) _ p.1 in
    let lt = ltb-true n (length kinds) q.0 in
    inr (eqb-true k n p.0, omega (arith, lt), hole_found prefix kinds holes n parts w f lt q.1 (asked prefix kinds holes n k parts m p.0)))
    (or_cases (ltb k n) _ t)

line_found : (prefix : List ℕ) (kinds : List Kind) (holes : List (List ℕ)) (n : ℕ) (parts : List Piece) → are_words prefix ≡ true → length kinds ≤ length holes → AllFill prefix kinds holes →
    are_told kinds n parts ≡ true → AreMet prefix holes (line_asks kinds n parts) → AreFound prefix kinds holes n parts
unfolding AreFound
line_found prefix kinds holes n [] w le f t m = tt
line_found prefix kinds holes n (p ∷ parts) w le f t m =
    let a = and_parts (is_told kinds n p.1 parts) _ t in
    let b = met_both prefix holes (slot_asks kinds n p.1 parts) (line_asks kinds (known_after p.1 n) parts) m in
    (slot_found prefix kinds holes n p.1 parts w le f a.0 b.0, line_found prefix kinds holes (known_after p.1 n) parts w le f a.1 b.1)

-- no more holes are known than there are
line_small : (prefix : List ℕ) (kinds : List Kind) (holes : List (List ℕ)) (n : ℕ) (parts : List Piece) → n ≤ length holes → AreFound prefix kinds holes n parts → known_in parts n ≤ length holes
unfolding AreFound
line_small prefix kinds holes n [] le f = le
line_small prefix kinds holes n (p ∷ parts) le f = line_small prefix kinds holes (known_after p.1 n) parts (known_small prefix kinds holes n p.1 parts le f.0) f.1

pub steps_found : (prefix : List ℕ) (kinds : List Kind) (holes : List (List ℕ)) (n : ℕ) (steps : List template.Line) → are_words prefix ≡ true → length kinds ≤ length holes → AllFill prefix kinds holes →
    n ≤ length holes → steps_told kinds n steps ≡ true → AreMet prefix holes (steps_ask kinds n steps) → LinesFound prefix kinds holes n steps
unfolding LinesFound
steps_found prefix kinds holes n [] w le f small t m = tt
steps_found prefix kinds holes n (s ∷ steps) w le f small t m =
    let a = and_parts (are_told kinds n s.1) _ t in
    let b = met_both prefix holes (line_asks kinds n s.1) (steps_ask kinds (known_in s.1 n) steps) m in
    let found : AreFound prefix kinds holes n s.1 = line_found prefix kinds holes n s.1 w le f a.0 b.0 in (
      line_exact prefix kinds holes n s.1 small found,
      steps_found prefix kinds holes (known_in s.1 n) steps w le f (line_small prefix kinds holes n s.1 small found) a.1 b.1,
    )

-- equal lines tell equal holes
line_same : (prefix : List ℕ) (kinds : List Kind) (holes others : List (List ℕ)) (n : ℕ) (pieces : List Piece) → take n holes ≡ take n others → line_of prefix holes pieces ≡ line_of prefix others pieces →
    line_at prefix kinds pieces (take n holes) (line_of prefix holes pieces) ≡ Some (take (known_in pieces n) holes) →
    line_at prefix kinds pieces (take n others) (line_of prefix others pieces) ≡ Some (take (known_in pieces n) others) → take (known_in pieces n) holes ≡ take (known_in pieces n) others
line_same prefix kinds holes others n pieces known line a b =
    let same : line_at prefix kinds pieces (take n holes) (line_of prefix holes pieces) ≡ line_at prefix kinds pieces (take n others) (line_of prefix others pieces)
    = ap (λ (x : List (List ℕ)). line_at prefix kinds pieces x (line_of prefix holes pieces)) known ∙ ap (λ (x : List ℕ). line_at prefix kinds pieces (take n others) x) line in
    let some : Some (take (known_in pieces n) holes) ≡ Some (take (known_in pieces n) others) = sym a ∙ same ∙ b in
    cc

pub steps_same : (prefix : List ℕ) (kinds : List Kind) (holes others : List (List ℕ)) (n : ℕ) (steps : List template.Line) → take n holes ≡ take n others →
    LinesFound prefix kinds holes n steps → LinesFound prefix kinds others n steps → SameLines prefix holes others steps → take (known_behind steps n) holes ≡ take (known_behind steps n) others
unfolding LinesFound SameLines
steps_same prefix kinds holes others n [] known a b s = known
steps_same prefix kinds holes others n (l ∷ steps) known a b s =
    steps_same prefix kinds holes others (known_in l.1 n) steps (line_same prefix kinds holes others n l.1 known s.0 a.0 b.0) a.1 b.1 s.1
