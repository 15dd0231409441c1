-- What a step itself tells of its part and leaves of a text is one thing.
use Rattle.std.proofs.Common.{◌≡◌, ℕ, zero, suc, ℤ, List, [], ◌∷◌, true, Some, sym, ap, ◌∙◌, subst}
use Rattle.std.specs.Str.{IsUtf8}
use Rattle.lp_form.specs.Templates.{Piece, holes_of}
use Rattle.lp_form.specs.declared.part.Part.{Part}
use Rattle.lp_form.specs.declared.template.Kind.{Kind}
use Rattle.lp_form.specs.declared.template.Step.{Step}
use Rattle.lp_form.specs.declared.template.Step.TheVariants as step
use Rattle.lp_spelling.specs.LineReading.{line_at}
use Rattle.lp_program.specs.CodeReading.{IsUse, IsCode}
use Rattle.lp_program.specs.Telling.{Told, TellsLine, TellsLines, TellsText, TellsTable, TellsOwn}
use Rattle.lp_program.proofs.Cuts.{use_once, code_once}

-- a line
pub line_once : (prefix : List ℕ) (kinds : List Kind) (pieces : List Piece) (old a b : Told) (text restA restB : List ℕ) →
    TellsLine prefix kinds pieces old a text restA → TellsLine prefix kinds pieces old b text restB → (a ≡ b) × (restA ≡ restB)
line_once prefix kinds pieces old a b text restA restB x y =
    let line : x.line ≡ y.line = sym x.takes.line_is ∙ y.takes.line_is in
    let read : Some a.holes ≡ Some b.holes = sym x.reads ∙ ap (line_at prefix kinds pieces old.holes) line ∙ y.reads in
    let holes : a.holes ≡ b.holes = cc in (
      x.others ∙ ap (λ (h : List (List ℕ)). record old { holes = h }) holes ∙ sym y.others,
      x.takes.rest_is ∙ sym y.takes.rest_is,
    )

-- lines of one spelling
pub lines_once : (n : ℕ) (prefix : List ℕ) (kinds : List Kind) (pieces : List Piece) (old a b : Told) (text restA restB : List ℕ) →
    TellsLines n prefix kinds pieces old a text restA → TellsLines n prefix kinds pieces old b text restB → (a ≡ b) × (restA ≡ restB)
lines_once zero prefix kinds pieces old a b text restA restB x y = (x.0 ∙ sym y.0, x.1 ∙ sym y.1)
lines_once (suc n) prefix kinds pieces old a b text restA restB x y =
    let same = line_once prefix kinds pieces old x.0 y.0 text x.1 y.1 x.2 y.2 in
    let more : TellsLines n prefix kinds pieces x.0 b x.1 restB = subst (λ (t : Told). TellsLines n prefix kinds pieces t b x.1 restB) (sym same.0) (subst (λ (r : List ℕ). TellsLines n prefix kinds pieces y.0 b r restB) (sym same.1) y.3) in
    lines_once n prefix kinds pieces x.0 a b x.1 restA restB x.3 more

-- a text of its own
text_once : (p : Part) (IsText : List ℕ → List ℕ → Type 0) (old a b : Told) (restA restB : List ℕ) →
    ((s t : List ℕ) → IsUtf8 restA → IsUtf8 restB → IsText s restA → IsText t restB → (s ≡ t) × (restA ≡ restB)) →
    TellsText p IsText old a restA → TellsText p IsText old b restB → (a ≡ b) × (restA ≡ restB)
text_once p IsText old a b restA restB once x y =
    let same = once x.text y.text x.behind y.behind x.is_text y.is_text in
    (x.new_is ∙ ap (λ (t : List ℕ). record old { holes = t ∷ [] }) same.0 ∙ sym y.new_is, same.1)

-- a table
table_once : (old a b : Told) (text restA restB : List ℕ) → TellsTable old a text restA → TellsTable old b text restB → (a ≡ b) × (restA ≡ restB)
table_once old a b text restA restB x y =
    let read : Some (a.numbers, restA) ≡ Some (b.numbers, restB) = sym x.reads ∙ y.reads in
    let table : (a.numbers, restA) ≡ (b.numbers, restB) = cc in (
      x.new_is ∙ ap (λ (t : List ℤ × List ℕ). record old { numbers = t.0; tabled = true }) table ∙ sym y.new_is,
      ap (λ (t : List ℤ × List ℕ). t.1) table,
    )

-- a step itself
pub own_once : (prefix : List ℕ) (p : Part) (count : ℕ) (pieces : List Piece) (s : Step) (old a b : Told) (text restA restB : List ℕ) →
    TellsOwn prefix p count pieces s old a text restA → TellsOwn prefix p count pieces s old b text restB → (a ≡ b) × (restA ≡ restB)
own_once prefix p count pieces (step.Line blanks) old a b text restA restB x y = line_once prefix (holes_of p) pieces old a b text restA restB x y
own_once prefix p count pieces (step.Each blanks) old a b text restA restB x y = lines_once count prefix (holes_of p) pieces old a b text restA restB x y
own_once prefix p count pieces step.Use old a b text restA restB x y = text_once p (IsUse text) old a b restA restB (λ s t u v f g. use_once text s t restA restB u v f g) x y
own_once prefix p count pieces step.Code old a b text restA restB x y = text_once p (IsCode text) old a b restA restB (λ s t u v f g. code_once text s t restA restB u v f g) x y
own_once prefix p count pieces step.Entries old a b text restA restB x y = table_once old a b text restA restB x y
own_once prefix p count pieces _ old a b text restA restB x y = (x.0 ∙ sym y.0, x.1 ∙ sym y.1)
