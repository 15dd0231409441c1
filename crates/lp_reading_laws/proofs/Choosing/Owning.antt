-- What a step itself takes off a text, it tells, where the holes are found in its line.
use Rattle.std.proofs.Common.{◌≡◌, ℕ, ◌≤◌, ◌<◌, zero, suc, Bool, true, false, ◌==◌, cond, List, [], ◌∷◌, length, get_or, take, inl, inr, refl, sym, ap, subst, arith, leb}
use Rattle.std.specs.Str.{IsUtf8}
use Rattle.std.proofs.lemmas.Bool.{and_parts, both_ways, cases_Bool, leb-true, eqb-true}
use Rattle.lp_form.specs.Templates.{Piece, holes_of}
use Rattle.lp_form.specs.Templates as template
use Rattle.lp_form.specs.declared.template.Step.{Step}
use Rattle.lp_form.specs.declared.template.Step.TheVariants as step
use Rattle.lp_spelling.specs.Lines.{line_of}
use Rattle.lp_spelling.specs.LineHoles.{known_in}
use Rattle.lp_reading_laws.specs.Holes.Found.{LineFound}
use Rattle.lp_program.specs.OwnLines.{hole}
use Rattle.lp_program.specs.Reads.{TakesLine, TakesLines, TakesOwn}
use Rattle.lp_program.specs.Trees.{Content}
use Rattle.lp_reading_laws.proofs.FirstLines.Apart.{HolesFill}
use Rattle.lp_reading_laws.proofs.FirstLines.Printed.{taken_fill}
use Rattle.lp_reading_laws.specs.Choosing.Laws.{have_table}
use Rattle.lp_program.specs.Telling.{Told, TellsLine, TellsLines, TellsOwn}
use Rattle.lp_reading_laws.proofs.Choosing.Templates.{known_step, known_all, own_told}

-- what is told of a part where so many holes are known, and its table or not
abbrev pub so_far : Content → ℕ → Bool → Told
so_far c k b = record { holes = take k c.holes; numbers = cond b c.numbers []; tabled = b }

abbrev pub tabled_after : Step → Bool → Bool
tabled_after step.Entries b = true
tabled_after _ b = b

abbrev pub tabled_by : List template.Line → Bool → Bool
tabled_by [] b = b
tabled_by (s ∷ steps) b = tabled_by steps (tabled_after s.0 b)

line_told : (prefix : List ℕ) (c : Content) (pieces : List Piece) (k : ℕ) (b : Bool) (text own : List ℕ) → HolesFill prefix (holes_of c.part) c.holes → LineFound prefix (holes_of c.part) c.holes k pieces →
    known_in pieces k ≤ length (holes_of c.part) → TakesLine (line_of prefix c.holes pieces) text own → TellsLine prefix (holes_of c.part) pieces (so_far c k b) (so_far c (known_in pieces k) b) text own
line_told prefix c pieces k b text own f found le takes = record {
  line = line_of prefix c.holes pieces;
  takes = takes;
  reads = found;
  fills = taken_fill prefix (holes_of c.part) c.holes (length (take k c.holes)) (known_in pieces k) f le;
  others = refl;
}

lines_told : (count : ℕ) (prefix : List ℕ) (c : Content) (pieces : List Piece) (k : ℕ) (b : Bool) (text own : List ℕ) → HolesFill prefix (holes_of c.part) c.holes → LineFound prefix (holes_of c.part) c.holes k pieces →
    known_in pieces k ≤ length (holes_of c.part) → known_in pieces k ≡ k → TakesLines count (line_of prefix c.holes pieces) text own → TellsLines count prefix (holes_of c.part) pieces (so_far c k b) (so_far c k b) text own
lines_told zero prefix c pieces k b text own f found le e takes = (refl, takes)
lines_told (suc n) prefix c pieces k b text own f found le e takes =
    let first : TellsLine prefix (holes_of c.part) pieces (so_far c k b) (so_far c k b) text takes.0
    = subst (λ j. TellsLine prefix (holes_of c.part) pieces (so_far c k b) (so_far c j b) text takes.0) e (line_told prefix c pieces k b text takes.0 f found le takes.1) in
    (so_far c k b, takes.0, first, lines_told n prefix c pieces k b takes.0 own f found le e takes.2)

-- the one hole of a part
one_hole : (holes : List (List ℕ)) (k : ℕ) → k ≡ 0 → 0 < length holes → take (suc k) holes ≡ get_or holes 0 [] ∷ []
one_hole [] k e some = absurd (omega arith)
one_hole (h ∷ holes) k e some = ap (λ j. take (suc j) (h ∷ holes)) e

-- the last of the steps
last_known : (others : List template.Line) (k : ℕ) (n : ℕ) → (length others == 0) ≡ true → known_all others (suc k) ≡ n → 0 < n
last_known [] k n h e = omega (arith, e)
last_known (s ∷ others) k n h e = absurd (omega (arith, eqb-true (length (s ∷ others)) 0 h))

-- what the test says of a use and of user code
record Whole (n k : ℕ) (others : List template.Line) : Type 0 where
  bare : n ≡ 0
  none : k ≡ 0
  last : (length others == 0) ≡ true

whole : (n k : ℕ) (others : List template.Line) → own_told n k step.Use [] others ≡ true → Whole n k others
whole n k others h =
    let p = and_parts (n == 0) _ h in
    let q = and_parts (k == 0) _ p.1 in
    record { bare = eqb-true n 0 p.0; none = eqb-true k 0 q.0; last = q.1 }

no_holes : (holes : List (List ℕ)) (k : ℕ) → k ≡ 0 → length (take k holes) ≡ 0
no_holes holes k e = ap (λ j. length (take j holes)) e

pub step_told : (prefix : List ℕ) (c : Content) (count : ℕ) (pieces : List Piece) (others : List template.Line) (k : ℕ) (b : Bool) (text own : List ℕ) (s : Step) → IsUtf8 own → HolesFill prefix (holes_of c.part) c.holes →
    LineFound prefix (holes_of c.part) c.holes k pieces → own_told (length (holes_of c.part)) k s pieces others ≡ true → known_all others (known_step s pieces k) ≡ length c.holes → (b ≡ true → have_table ((s, pieces) ∷ others) ≡ false) →
    TakesOwn prefix c count pieces s text own → TellsOwn prefix c.part count pieces s (so_far c k b) (so_far c (known_step s pieces k) (tabled_after s b)) text own
step_told prefix c count pieces others k b text own (step.Line blanks) u f found test size tables takes = line_told prefix c pieces k b text own f found (leb-true (known_in pieces k) (length (holes_of c.part)) test) takes
step_told prefix c count pieces others k b text own (step.Each blanks) u f found test size tables takes =
    let p = and_parts (leb (known_in pieces k) (length (holes_of c.part))) _ test in
    let e : known_in pieces k ≡ k = eqb-true (known_in pieces k) k p.1 in
    subst (λ j. TellsLines count prefix (holes_of c.part) pieces (so_far c k b) (so_far c j b) text own) (sym e)
    (lines_told count prefix c pieces k b text own f found (leb-true (known_in pieces k) (length (holes_of c.part)) p.0) e takes)
step_told prefix c count pieces others k b text own step.Use u f found test size tables takes =
    let w = whole (length (holes_of c.part)) k others test in
    let some : 0 < length c.holes = last_known others k (length c.holes) w.last size in
    record { bare = w.bare; first = no_holes c.holes k w.none; text = hole c 0; is_text = takes; behind = u; new_is = ap (λ (h : List (List ℕ)). record (so_far c k b) { holes = h }) (one_hole c.holes k w.none some) }
step_told prefix c count pieces others k b text own step.Code u f found test size tables takes =
    let w = whole (length (holes_of c.part)) k others test in
    let some : 0 < length c.holes = last_known others k (length c.holes) w.last size in
    record { bare = w.bare; first = no_holes c.holes k w.none; text = hole c 0; is_text = takes; behind = u; new_is = ap (λ (h : List (List ℕ)). record (so_far c k b) { holes = h }) (one_hole c.holes k w.none some) }
step_told prefix c count pieces others k b text own step.Entries u f found test size tables takes =
    let none : b ≡ false = elim (cases_Bool b) [ inl y ↦ absurd (both_ways true (tables y) refl) | inr n ↦ n ] in
    record { first = none; reads = takes; new_is = refl }
step_told prefix c count pieces others k b text own step.Empty u f found test size tables takes = (refl, takes)
step_told prefix c count pieces others k b text own step.Note u f found test size tables takes = (refl, takes)
step_told prefix c count pieces others k b text own step.NoteAlways u f found test size tables takes = (refl, takes)
step_told prefix c count pieces others k b text own (step.One class) u f found test size tables takes = (refl, takes)
step_told prefix c count pieces others k b text own (step.Optional class) u f found test size tables takes = (refl, takes)
step_told prefix c count pieces others k b text own (step.Many class) u f found test size tables takes = (refl, takes)
step_told prefix c count pieces others k b text own (step.Some class) u f found test size tables takes = (refl, takes)
step_told prefix c count pieces others k b text own (step.Pairs first second) u f found test size tables takes = (refl, takes)
