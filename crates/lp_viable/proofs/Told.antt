-- What a step tells of a part, a content that keeps it has; and what is known of what is told so far.
use Rattle.std.proofs.Common.{◌≡◌, ℕ, ◌<◌, ◌≤◌, ◌==◌, zero, suc, Bool, true, false, inl, inr, List, [], ◌∷◌, ◌++◌, length, get_or, Some, refl, sym, ap, ◌∙◌, subst, arith, append_assoc}
use Rattle.std.proofs.lemmas.Bool.{cases_lt, eqb-true, both_ways}
use Rattle.std.proofs.lemmas.List.{get_or_append_left, nil_from_length}
use Rattle.lp_form.specs.Templates.{Piece, holes_of}
use Rattle.lp_form.specs.Templates as template
use Rattle.lp_form.specs.declared.part.Part.{Part}
use Rattle.lp_form.specs.declared.template.Kind.{Kind}
use Rattle.lp_form.specs.declared.template.Step.{Step}
use Rattle.lp_form.specs.declared.template.Step.TheVariants as step
use Rattle.lp_spelling.specs.Fillings.{Fills}
use Rattle.lp_spelling.specs.LineHoles.{known_in}
use Rattle.lp_spelling.specs.LineReading.{kind_of}
use Rattle.lp_spelling.specs.Lines.{line_of}
use Rattle.lp_spelling.specs.TableReading.{entries}
use Rattle.lp_spelling.proofs.Reading.{line_extends}
use Rattle.lp_spelling.proofs.Spelled.{line_stays}
use Rattle.lp_program.specs.CodeReading.{IsUse, IsCode}
use Rattle.lp_program.specs.OwnLines.{hole}
use Rattle.lp_program.specs.Reads.{TakesLine, TakesLines, TakesOwn}
use Rattle.lp_program.specs.Telling.{Told, untold, TellsLine, TellsLines, TellsText, TellsTable, TellsOwn}
use Rattle.lp_program.specs.Trees.{Content}
use Rattle.lp_viable.specs.StepTests.{known_past, tabled_past, is_certain}
use Rattle.lp_program.proofs.Spelled.{line_spelled}
use Rattle.lp_viable.proofs.Counted.{line_counts}

-- a content keeps what is told: more holes may be told, and where a table is told it stays
pub record Keeps (t : Told) (c : Content) : Type 0 where
  pub more : List (List ℕ)
  pub holes_are : c.holes ≡ t.holes ++ more
  pub numbers : t.tabled ≡ true → c.numbers ≡ t.numbers

-- a line
keeps_line : (prefix : List ℕ) (kinds : List Kind) (pieces : List Piece) (old new : Told) (c : Content) (text rest : List ℕ) → Keeps new c → TellsLine prefix kinds pieces old new text rest → Keeps old c
keeps_line prefix kinds pieces old new c text rest k t =
    let x = line_extends prefix kinds pieces old.holes t.line new.holes t.reads in
    let tabled : new.tabled ≡ old.tabled = ap (λ (o : Told). o.tabled) t.others in
    record {
      more = x.0 ++ k.more;
      holes_are = k.holes_are ∙ ap (λ (h : List (List ℕ)). h ++ k.more) x.1 ∙ append_assoc old.holes x.0 k.more;
      numbers = λ y. k.numbers (tabled ∙ y) ∙ ap (λ (o : Told). o.numbers) t.others;
    }

line_takes : (prefix : List ℕ) (kinds : List Kind) (pieces : List Piece) (old new : Told) (c : Content) (text rest : List ℕ) → Keeps new c → TellsLine prefix kinds pieces old new text rest →
    TakesLine (line_of prefix c.holes pieces) text rest
line_takes prefix kinds pieces old new c text rest k t =
    let l = line_spelled prefix kinds pieces old.holes t.line new.holes t.reads in
    let stays : line_of prefix c.holes pieces ≡ line_of prefix new.holes pieces = ap (λ (h : List (List ℕ)). line_of prefix h pieces) k.holes_are ∙ line_stays prefix new.holes k.more pieces l.1 in
    record { some = t.takes.some; line_is = t.takes.line_is ∙ l.0 ∙ sym stays; rest_is = t.takes.rest_is }

-- lines of one spelling
keeps_lines : (n : ℕ) (prefix : List ℕ) (kinds : List Kind) (pieces : List Piece) (old new : Told) (c : Content) (text rest : List ℕ) → Keeps new c → TellsLines n prefix kinds pieces old new text rest → Keeps old c
keeps_lines zero prefix kinds pieces old new c text rest k t = subst (λ (o : Told). Keeps o c) t.0 k
keeps_lines (suc n) prefix kinds pieces old new c text rest k t =
    keeps_line prefix kinds pieces old t.0 c text t.1 (keeps_lines n prefix kinds pieces t.0 new c t.1 rest k t.3) t.2

lines_take : (n : ℕ) (prefix : List ℕ) (kinds : List Kind) (pieces : List Piece) (old new : Told) (c : Content) (text rest : List ℕ) → Keeps new c → TellsLines n prefix kinds pieces old new text rest →
    TakesLines n (line_of prefix c.holes pieces) text rest
lines_take zero prefix kinds pieces old new c text rest k t = t.1
lines_take (suc n) prefix kinds pieces old new c text rest k t = (
  t.1,
  line_takes prefix kinds pieces old t.0 c text t.1 (keeps_lines n prefix kinds pieces t.0 new c t.1 rest k t.3) t.2,
  lines_take n prefix kinds pieces t.0 new c t.1 rest k t.3,
)

-- a text of its own
keeps_text : (p : Part) (IsText : List ℕ → List ℕ → Type 0) (old new : Told) (c : Content) (rest : List ℕ) → Keeps new c → TellsText p IsText old new rest → Keeps old c
keeps_text p IsText old new c rest k t =
    let none : old.holes ≡ [] = nil_from_length old.holes t.first in
    let tabled : new.tabled ≡ old.tabled = ap (λ (o : Told). o.tabled) t.new_is in
    record {
      more = c.holes;
      holes_are = sym (ap (λ (h : List (List ℕ)). h ++ c.holes) none);
      numbers = λ y. k.numbers (tabled ∙ y) ∙ ap (λ (o : Told). o.numbers) t.new_is;
    }

text_held : (p : Part) (IsText : List ℕ → List ℕ → Type 0) (old new : Told) (c : Content) (rest : List ℕ) → Keeps new c → TellsText p IsText old new rest → IsText (hole c 0) rest
text_held p IsText old new c rest k t =
    let holes : c.holes ≡ (t.text ∷ []) ++ k.more = k.holes_are ∙ ap (λ (o : Told). o.holes ++ k.more) t.new_is in
    let same : hole c 0 ≡ t.text = ap (λ (h : List (List ℕ)). get_or h 0 []) holes in
    subst (λ (x : List ℕ). IsText x rest) (sym same) t.is_text

-- a table
keeps_table : (old new : Told) (c : Content) (text rest : List ℕ) → Keeps new c → TellsTable old new text rest → Keeps old c
keeps_table old new c text rest k t = record {
  more = k.more;
  holes_are = k.holes_are ∙ ap (λ (o : Told). o.holes ++ k.more) t.new_is;
  numbers = λ y. absurd (both_ways old.tabled t.first y);
}

table_held : (old new : Told) (c : Content) (text rest : List ℕ) → Keeps new c → TellsTable old new text rest → entries text ≡ Some (c.numbers, rest)
table_held old new c text rest k t =
    let tabled : new.tabled ≡ true = ap (λ (o : Told). o.tabled) t.new_is in
    t.reads ∙ ap (λ (z : List Rattle.std.proofs.Common.ℤ). Some (z, rest)) (sym (k.numbers tabled))

-- what a step tells and takes off a text, it takes with each content that keeps it
pub own_takes : (prefix : List ℕ) (p : Part) (count : ℕ) (pieces : List Piece) (s : Step) (old new : Told) (c : Content) (text rest : List ℕ) → Keeps new c → TellsOwn prefix p count pieces s old new text rest →
    TakesOwn prefix c count pieces s text rest
own_takes prefix p count pieces (step.Line blanks) old new c text rest k t = line_takes prefix (holes_of p) pieces old new c text rest k t
own_takes prefix p count pieces (step.Each blanks) old new c text rest k t = lines_take count prefix (holes_of p) pieces old new c text rest k t
own_takes prefix p count pieces step.Use old new c text rest k t = text_held p (IsUse text) old new c rest k t
own_takes prefix p count pieces step.Code old new c text rest k t = text_held p (IsCode text) old new c rest k t
own_takes prefix p count pieces step.Entries old new c text rest k t = table_held old new c text rest k t
own_takes prefix p count pieces _ old new c text rest k t = t.1

-- what is told before a step is kept where what is told behind it is
pub keeps_before : (prefix : List ℕ) (p : Part) (count : ℕ) (pieces : List Piece) (s : Step) (old new : Told) (c : Content) (text rest : List ℕ) → Keeps new c → TellsOwn prefix p count pieces s old new text rest → Keeps old c
keeps_before prefix p count pieces (step.Line blanks) old new c text rest k t = keeps_line prefix (holes_of p) pieces old new c text rest k t
keeps_before prefix p count pieces (step.Each blanks) old new c text rest k t = keeps_lines count prefix (holes_of p) pieces old new c text rest k t
keeps_before prefix p count pieces step.Use old new c text rest k t = keeps_text p (IsUse text) old new c rest k t
keeps_before prefix p count pieces step.Code old new c text rest k t = keeps_text p (IsCode text) old new c rest k t
keeps_before prefix p count pieces step.Entries old new c text rest k t = keeps_table old new c text rest k t
keeps_before prefix p count pieces _ old new c text rest k t = subst (λ (o : Told). Keeps o c) t.0 k

-- of a part so many holes are told, which hold what they may; and a table, or no number
pub record SoFar (prefix : List ℕ) (p : Part) (t : Told) (n : ℕ) (tabled : Bool) : Type 0 where
  pub size : length t.holes ≡ n
  pub fills : (k : ℕ) → k < length t.holes → k < length (holes_of p) → Fills prefix (kind_of (holes_of p) k) (get_or t.holes k [])
  pub none : tabled ≡ false → t.numbers ≡ []

-- in front of all steps no hole is told, and no table
pub nothing_so_far : (prefix : List ℕ) (p : Part) → SoFar prefix p untold 0 false
nothing_so_far prefix p = record { size = refl; fills = λ k l m. absurd (omega arith); none = λ e. refl }

line_so_far : (prefix : List ℕ) (p : Part) (pieces : List Piece) (old new : Told) (n : ℕ) (tabled : Bool) (text rest : List ℕ) → SoFar prefix p old n tabled → TellsLine prefix (holes_of p) pieces old new text rest →
    SoFar prefix p new (known_in pieces n) tabled
line_so_far prefix p pieces old new n tabled text rest s t =
    let x = line_extends prefix (holes_of p) pieces old.holes t.line new.holes t.reads in
    record {
      size = line_counts prefix (holes_of p) pieces old.holes t.line new.holes t.reads ∙ ap (known_in pieces) s.size;
      fills = λ k a b.
          (elim (cases_lt k (length old.holes)) [
            | inl small ↦
                let same : get_or new.holes k [] ≡ get_or old.holes k [] = ap (λ (h : List (List ℕ)). get_or h k []) x.1 ∙ get_or_append_left old.holes x.0 [] k small in
                subst (λ (y : List ℕ). Fills prefix (kind_of (holes_of p) k) y) (sym same) (s.fills k small b)
            | inr large ↦ t.fills k large a
          ]);
      none = λ e. ap (λ (o : Told). o.numbers) t.others ∙ s.none e;
    }

lines_so_far : (count : ℕ) (prefix : List ℕ) (p : Part) (pieces : List Piece) (old new : Told) (n : ℕ) (tabled : Bool) (text rest : List ℕ) → known_in pieces n ≡ n → SoFar prefix p old n tabled →
    TellsLines count prefix (holes_of p) pieces old new text rest → SoFar prefix p new n tabled
lines_so_far zero prefix p pieces old new n tabled text rest e s t = subst (λ (o : Told). SoFar prefix p o n tabled) (sym t.0) s
lines_so_far (suc count) prefix p pieces old new n tabled text rest e s t =
    let first : SoFar prefix p t.0 n tabled = subst (λ (i : ℕ). SoFar prefix p t.0 i tabled) e (line_so_far prefix p pieces old t.0 n tabled text t.1 s t.2) in
    lines_so_far count prefix p pieces t.0 new n tabled t.1 rest e first t.3

text_so_far : (prefix : List ℕ) (p : Part) (IsText : List ℕ → List ℕ → Type 0) (old new : Told) (n : ℕ) (tabled : Bool) (rest : List ℕ) → SoFar prefix p old n tabled → TellsText p IsText old new rest → SoFar prefix p new (suc n) tabled
text_so_far prefix p IsText old new n tabled rest s t =
    let one = ap (λ (o : Told). length o.holes) t.new_is in
    let first = t.first in
    let size = s.size in
    let bare = t.bare in
    record {
      size = omega (arith, one, first, size);
      fills = λ k a b. absurd (omega (arith, bare, b));
      none = λ e. ap (λ (o : Told). o.numbers) t.new_is ∙ s.none e;
    }

table_so_far : (prefix : List ℕ) (p : Part) (old new : Told) (n : ℕ) (tabled : Bool) (text rest : List ℕ) → SoFar prefix p old n tabled → TellsTable old new text rest → SoFar prefix p new n true
table_so_far prefix p old new n tabled text rest s t =
    let same : old.holes ≡ new.holes = sym (ap (λ (o : Told). o.holes) t.new_is) in
    record {
      size = ap length (sym same) ∙ s.size;
      fills = λ k a b. subst (λ (h : List (List ℕ)). Fills prefix (kind_of (holes_of p) k) (get_or h k [])) same (s.fills k (subst (λ (h : List (List ℕ)). k < length h) (sym same) a) b);
      none = λ e. absurd (both_ways true e refl);
    }

-- behind a step as much is known, with what it tells itself
pub own_so_far : (prefix : List ℕ) (p : Part) (count : ℕ) (pieces : List Piece) (s : Step) (others : List template.Line) (old new : Told) (n : ℕ) (tabled : Bool) (text rest : List ℕ) → SoFar prefix p old n tabled →
    is_certain n s pieces others ≡ true → TellsOwn prefix p count pieces s old new text rest → SoFar prefix p new (known_past n s pieces) (tabled_past tabled s)
own_so_far prefix p count pieces (step.Line blanks) others old new n tabled text rest s h t = line_so_far prefix p pieces old new n tabled text rest s t
own_so_far prefix p count pieces (step.Each blanks) others old new n tabled text rest s h t = lines_so_far count prefix p pieces old new n tabled text rest (eqb-true (known_in pieces n) n h) s t
own_so_far prefix p count pieces step.Use others old new n tabled text rest s h t = text_so_far prefix p (IsUse text) old new n tabled rest s t
own_so_far prefix p count pieces step.Code others old new n tabled text rest s h t = text_so_far prefix p (IsCode text) old new n tabled rest s t
own_so_far prefix p count pieces step.Entries others old new n tabled text rest s h t = table_so_far prefix p old new n tabled text rest s t
own_so_far prefix p count pieces _ others old new n tabled text rest s h t = subst (λ (o : Told). SoFar prefix p o n tabled) (sym t.0) s
