-- The notes of a part, and the texts in its holes.
use Rattle.std.proofs.Common.{◌≡◌, ◌↔◌, ℕ, ◌<◌, ◌≤◌, ◌==◌, Bool, true, false, List, [], length, get_or, map, All, IsTrue, Result, Ok, Err, IfOk, refl, sym, ◌∙◌, subst, arith}
use Rattle.std.specs.Str.{IsUtf8}
use Rattle.std.proofs.lemmas.Bool.{eqb-false, false≢true}
use Rattle.std.proofs.lemmas.List.{get_or-map, length-map}
use Rattle.std.proofs.lemmas.List.Elements.{All-map, All-from_get_or, All-weaker}
use Rattle.lp_form.specs.Templates.{holes_of}
use Rattle.lp_form.specs.declared.template.Kind.{Kind}
use Rattle.lp_tree.specs.declared.tree.Entry.{Entry}
use Rattle.lp_tree.specs.declared.tree.Program.{Program}
use Rattle.lp_tree.specs.declared.tree.RowNote.{RowNote}
use Rattle.lp_spelling.specs.LineReading.{kind_of}
use Rattle.lp_tree.specs.ProgramTree.{noted}
use Rattle.lp_program.specs.Trees.{whole}
use Rattle.lp_reading_laws.specs.Printing.LineTexts.{ends_open}
use Rattle.lp_reading_laws.specs.Printing.WellFormed.{HolesFill, IsNote, IsSteady, IsTrailing}
use Rattle.lp_reading_laws.specs.Holes.Parted.{IsParted}
use Rattle.lp_fitting.specs.Bodies.{BodiesSuit}
use Rattle.lp_fitting.specs.Fitting.{HolesFit, IsFitting, MayStand}

-- a note whose lines and comments are such
abbrev pub IsPlain : RowNote → Type 0
IsPlain part = IsNote (noted part) × IsSteady (noted part)

abbrev pub IsSteadyLine : List ℕ → Type 0
IsSteadyLine line = IsTrailing line × (ends_open line ≡ false)

pub note_told : (part : RowNote) (r : Bool) → All IsSteadyLine part.lines.items → (IsTrue r ↔ All IsTrailing part.comments.items) → IsTrue r ↔ IsPlain part
note_told part r lines told = (
  λ t. (
    record { lines = All-weaker IsSteadyLine IsTrailing (λ x p. p.0) part.lines.items lines; comments = told.0 t },
    All-weaker IsSteadyLine (λ line. ends_open line ≡ false) (λ x p. p.1) part.lines.items lines,
  ),
  λ w. told.1 w.0.comments,
)

pub note_fails : (part : RowNote) (r : Bool) → r ≡ false → (IsTrue r ↔ All IsSteadyLine part.lines.items) → IsTrue r ↔ IsPlain part
note_fails part r fails told = (λ t. absurd (false≢true (sym fails ∙ t)), λ w. told.1 (λ k d lt. (w.0.lines k d lt, w.1 k d lt)))

-- the notes of a part, one by one
unmapped : {X Y : Type 0} (P : Y → Type 0) (f : X → Y) (xs : List X) → All P (map f xs) → All (λ x. P (f x)) xs
unmapped P f xs all k d lt =
    let size = length-map xs f in
    subst P (get_or-map f xs k d (f d) lt) (all k (f d) (omega (arith, size, lt)))

-- holes of which the first k hold what they may
abbrev pub FillBelow : List ℕ → List Kind → List (List ℕ) → ℕ → Type 0
FillBelow prefix kinds holes n =
    (k : ℕ) → k < n → IsUtf8 (get_or holes k []) × (k < length kinds → MayStand prefix (kind_of kinds k) (get_or holes k []))

pub all_fill : (prefix : List ℕ) (kinds : List Kind) (holes : List (List ℕ)) (n : ℕ) → length kinds ≤ n → length holes ≤ n → FillBelow prefix kinds holes n → IsTrue true ↔ (HolesFill prefix kinds holes × All IsUtf8 holes)
all_fill prefix kinds holes n kinds_in holes_in below = (
  λ t. (
    λ k lt. let b = below k (omega arith) in ((b.0, (b.1 lt).0), (b.1 lt).1),
    All-from_get_or IsUtf8 holes [] (λ k lt. let b = below k (omega arith) in b.0),
  ),
  λ w. refl,
)

-- a whole part
abbrev pub AreFilling : List ℕ → Entry → Type 0
AreFilling prefix e = HolesFill prefix (holes_of e.part) e.holes.items × All IsUtf8 e.holes.items

pub part_fails : (prefix : List ℕ) (e : Entry) → (IsTrue false ↔ All IsPlain e.notes.items) → IsTrue false ↔ HolesFit prefix e
part_fails prefix e told = (
  λ t. absurd (false≢true t),
  λ w. told.1 (λ k d lt. (unmapped IsNote noted e.notes.items w.notes k d lt, unmapped IsSteady noted e.notes.items w.steady k d lt)),
)

pub unfilled : (prefix : List ℕ) (e : Entry) (r : Bool) → r ≡ false → (IsTrue r ↔ AreFilling prefix e) → IsTrue false ↔ HolesFit prefix e
unfilled prefix e r fails told = (λ t. absurd (false≢true t), λ w. absurd (false≢true (sym fails ∙ told.1 (w.fills, w.utf8))))

pub part_told : {E : Type 0} (prefix : List ℕ) (e : Entry) (q : Result Bool E) → All IsPlain e.notes.items → AreFilling prefix e → IfOk q (λ b. IsTrue b ↔ IsParted prefix e.part e.holes.items) → IfOk q (λ b. IsTrue b ↔ HolesFit prefix e)
part_told prefix e (Err x) notes filling told = tt
part_told prefix e (Ok b) notes filling told = (
  λ t. record {
    fills = filling.0;
    utf8 = filling.1;
    parted = told.0 t;
    notes = All-map IsNote noted e.notes.items (All-weaker IsPlain (λ n. IsNote (noted n)) (λ x p. p.0) e.notes.items notes);
    steady = All-map IsSteady noted e.notes.items (All-weaker IsPlain (λ n. IsSteady (noted n)) (λ x p. p.1) e.notes.items notes);
  },
  λ w. told.1 w.parted,
)

-- a whole program
module _ (program : Program) (prefix : List ℕ) (entries : List Entry) (same_prefix : prefix ≡ program.prefix) (same_entries : entries ≡ program.entries.items) where
  pub program_fails : (r : Bool) → r ≡ false → (IsTrue r ↔ All (HolesFit prefix) entries) → IsTrue false ↔ IsFitting program
  program_fails r fails told = (
    λ t. absurd (false≢true t),
    λ w. absurd (false≢true (sym fails ∙ told.1 (subst (λ p. All (HolesFit p) entries) (sym same_prefix) (subst (All (HolesFit program.prefix)) (sym same_entries) w.parts)))),
  )

  pub program_told : {E : Type 0} (q : Result Bool E) → (length prefix == 0) ≡ false → IsUtf8 prefix → All (HolesFit prefix) entries → IfOk q (λ b. IsTrue b ↔ BodiesSuit prefix [] (whole entries)) → IfOk q (λ b. IsTrue b ↔ IsFitting program)
  program_told (Err x) some utf8 parts told = tt
  program_told (Ok b) some utf8 parts told = (
    λ t. record {
      prefix_some = let ne = eqb-false (length prefix) 0 some in subst (λ (p : List ℕ). 0 < length p) same_prefix (omega arith);
      prefix_utf8 = subst IsUtf8 same_prefix utf8;
      parts = subst (All (HolesFit program.prefix)) same_entries (subst (λ p. All (HolesFit p) entries) same_prefix parts);
      bodies = subst (λ es. BodiesSuit program.prefix [] (whole es)) same_entries (subst (λ p. BodiesSuit p [] (whole entries)) same_prefix (told.0 t));
    },
    λ w. told.1 (subst (λ es. BodiesSuit prefix [] (whole es)) (sym same_entries) (subst (λ p. BodiesSuit p [] (whole program.entries.items)) (sym same_prefix) w.bodies)),
  )
