-- The lines that a part shows begin it.
use Rattle.std.proofs.Common.{◌≡◌, ℕ, ◌<◌, ◌≤◌, ◌==◌, suc, Bool, true, false, ◌&&◌, List, [], ◌∷◌, length, take, inl, inr, refl, sym, ◌∙◌, ap, subst, arith}
use Rattle.std.proofs.lemmas.Bool.{and_parts, cases_Bool, cond-true, cond-false, eqb-true}
use Rattle.std.proofs.lemmas.List.{get_or-take, length-take}
use Rattle.lp_form.specs.Templates.{Piece, steps_of, holes_of}
use Rattle.lp_form.specs.Templates as template
use Rattle.lp_form.specs.declared.class.Class.{Class}
use Rattle.lp_form.specs.declared.part.Part.{Part}
use Rattle.lp_form.specs.declared.part.Part.TheVariants as part
use Rattle.lp_form.specs.declared.template.Kind.{Kind}
use Rattle.lp_form.specs.declared.template.Slot.{Slot}
use Rattle.lp_form.specs.declared.template.Slot.TheVariants.{Nothing, Prefix, Hole}
use Rattle.lp_form.specs.declared.template.Step.{Step}
use Rattle.lp_form.specs.declared.template.Step.TheVariants as step
use Rattle.lp_spelling.specs.Lines.{line_of}
use Rattle.lp_spelling.specs.Fillings.{Fills}
use Rattle.lp_spelling.specs.LineReading.{kind_of, line_at, AllFill}
use Rattle.lp_spelling.specs.LineHoles.{known_after, known_in}
use Rattle.lp_reading_laws.specs.Holes.Found.{LineFound, LinesFound, known_behind}
use Rattle.lp_reading_laws.proofs.Holes.Asking.{lines_tell_all}
use Rattle.lp_reading_laws.proofs.Holes.Law.{holes_found}
use Rattle.lp_program.specs.Begins.{Lines, SomeMember, ReadsFirst, IsUseFirst, StepBegins, StepsBegin, Begins}
use Rattle.lp_reading_laws.specs.FirstLines.Opens.{IsFirst, StepOpens, StepsOpen, Anything}
use Rattle.lp_reading_laws.specs.FirstLines.Laws.{PrintedBegin}
use Rattle.lp_reading_laws.proofs.FirstLines.Apart.{HolesFill}

-- more and more holes are known
known_more : (s : Slot) (n : ℕ) → n ≤ known_after s n
known_more Nothing n = omega arith
known_more Prefix n = omega arith
known_more (Hole k) n = elim (cases_Bool (k == n)) [
  | inl y ↦ let e : known_after (Hole k) n ≡ suc n = cond-true (k == n) (suc n) n y in omega (arith, e)
  | inr z ↦ let e : known_after (Hole k) n ≡ n = cond-false (k == n) (suc n) n z in omega (arith, e)
]

known_grows : (parts : List Piece) (n : ℕ) → n ≤ known_in parts n
known_grows [] n = omega arith
known_grows (p ∷ parts) n =
    let a = known_more p.1 n in
    let b = known_grows parts (known_after p.1 n) in
    omega (arith, a, b)

pub behind_grows : (steps : List template.Line) (n : ℕ) → n ≤ known_behind steps n
behind_grows [] n = omega arith
behind_grows (s ∷ steps) n =
    let a = known_grows s.1 n in
    let b = behind_grows steps (known_in s.1 n) in
    omega (arith, a, b)

-- a step that shows nothing has no pieces
abbrev pub is_bare : Step → List Piece → Bool
is_bare step.Empty pieces = length pieces == 0
is_bare step.Note pieces = length pieces == 0
is_bare step.NoteAlways pieces = length pieces == 0
is_bare _ pieces = true

abbrev pub are_bare : List template.Line → Bool
are_bare [] = true
are_bare (s ∷ steps) = is_bare s.0 s.1 && are_bare steps

pub templates_bare : (p : Part) → are_bare (steps_of p) ≡ true
unfolding steps_of
templates_bare part.Program = refl
templates_bare _ = refl

pub none_known : (pieces : List Piece) (n : ℕ) → (length pieces == 0) ≡ true → known_in pieces n ≡ n
none_known [] n h = refl
none_known (p ∷ pieces) n h = absurd (omega (arith, eqb-true (length (p ∷ pieces)) 0 h))

-- the holes that a line tells hold what they may
pub taken_fill : (prefix : List ℕ) (kinds : List Kind) (holes : List (List ℕ)) (n m : ℕ) → HolesFill prefix kinds holes → m ≤ length kinds → AllFill prefix kinds n (take m holes)
taken_fill prefix kinds holes n m f le k from lt =
    let within : k < m = omega (arith, length-take m holes, lt) in
    subst (λ (x : List ℕ). Fills prefix (kind_of kinds k) x) (sym (get_or-take m holes k [] within)) (f k (omega (arith, within, le)))

-- a step and what its part shows; again is for the steps behind it
step_begin : (below : Class → Lines → Type 0) (prefix : List ℕ) (kinds : List Kind) (holes : List (List ℕ)) (n : ℕ) (pieces : List Piece) (steps : List template.Line) → HolesFill prefix kinds holes → known_in pieces n ≤ length kinds →
    LineFound prefix kinds holes n pieces →
    ((seen : Bool) (m : ℕ) (rest : Lines) → m ≡ known_in pieces n → StepsOpen below Anything prefix holes steps rest → StepsBegin below prefix kinds seen (take m holes) steps rest) →
    (s : Step) (seen : Bool) (lines : Lines) → is_bare s pieces ≡ true →
    StepOpens s (IsFirst (line_of prefix holes pieces) lines (λ rest. StepsOpen below Anything prefix holes steps rest)) (StepsOpen below Anything prefix holes steps lines) (IsUseFirst lines) (λ class. below class lines) →
    StepBegins s seen
    (ReadsFirst prefix kinds pieces (take n holes) lines (λ known rest. StepsBegin below prefix kinds true known steps rest))
    (StepsBegin below prefix kinds seen (take n holes) steps lines)
    (IsUseFirst lines)
    (λ class. below class lines)
step_begin below prefix kinds holes n pieces steps f le found again (step.Line blanks) seen [] bare h = h
step_begin below prefix kinds holes n pieces steps f le found again (step.Line blanks) seen (l ∷ rest) bare h = (
  take (known_in pieces n) holes,
  ap (line_at prefix kinds pieces (take n holes)) h.0 ∙ found,
  taken_fill prefix kinds holes (length (take n holes)) (known_in pieces n) f le,
  again true (known_in pieces n) rest refl h.1,
)
step_begin below prefix kinds holes n pieces steps f le found again step.Empty seen lines bare h = again seen n lines (sym (none_known pieces n bare)) h
step_begin below prefix kinds holes n pieces steps f le found again step.Note seen lines bare h = again seen n lines (sym (none_known pieces n bare)) h
step_begin below prefix kinds holes n pieces steps f le found again step.NoteAlways seen lines bare h = again seen n lines (sym (none_known pieces n bare)) h
step_begin below prefix kinds holes n pieces steps f le found again step.Use seen lines bare h = h
step_begin below prefix kinds holes n pieces steps f le found again (step.One class) true lines bare h = tt
step_begin below prefix kinds holes n pieces steps f le found again (step.One class) false lines bare h = h
step_begin below prefix kinds holes n pieces steps f le found again _ seen lines bare h = tt

steps_begin : (below : Class → Lines → Type 0) (prefix : List ℕ) (kinds : List Kind) (holes : List (List ℕ)) (seen : Bool) (n : ℕ) (steps : List template.Line) (lines : Lines) → HolesFill prefix kinds holes → known_behind steps n ≤ length kinds →
    are_bare steps ≡ true → LinesFound prefix kinds holes n steps → StepsOpen below Anything prefix holes steps lines → StepsBegin below prefix kinds seen (take n holes) steps lines
unfolding LinesFound
steps_begin below prefix kinds holes seen n [] lines f le bare found h = tt
steps_begin below prefix kinds holes seen n (s ∷ steps) lines f le bare found h =
    let p = and_parts (is_bare s.0 s.1) (are_bare steps) bare in
    let grows = behind_grows steps (known_in s.1 n) in
    step_begin below prefix kinds holes n s.1 steps f (omega (arith, grows, le)) found.0
    (λ again m rest e shown.
    subst (λ j. StepsBegin below prefix kinds again (take j holes) steps rest) (sym e) (steps_begin below prefix kinds holes again (known_in s.1 n) steps rest f le p.1 found.1 shown))
    s.0 seen lines p.0 h

pub printed_begin : PrintedBegin
unfolding Begins
printed_begin prefix p holes lines n w filled parted shown =
    let f = filled.fills in
    let found : LinesFound prefix (holes_of p) holes 0 (steps_of p) = (holes_found prefix p holes w filled).0 parted in
    let all : known_behind (steps_of p) 0 ≡ length (holes_of p) = lines_tell_all p in
    steps_begin (λ class rest. SomeMember class (λ m. Begins n prefix m rest)) prefix (holes_of p) holes false 0 (steps_of p) lines f (omega (arith, all)) (templates_bare p) found shown
