-- How far lines move the indent.
use Rattle.std.proofs.Common.{◌≡◌, ℕ, ℤ, ◌+◌, ◌-◌, ◌*◌, ◌^◌, ◌==◌, ◌<◌, ◌≤◌, zero, suc, Bool, true, false, not, cond, ◌&&◌, ◌||◌, if◌then◌else◌, List, [], ◌∷◌, ◌++◌, length, map, get_or, take, drop, replicate, codes, All, refl, sym, ap, ◌∙◌, subst, arith, ltb, inl, inr, ⊎_elim, append-nil, length-append}
use Rattle.std.proofs.Math.Dec.{leb}
use Rattle.std.specs.Prelude.{slice_index}
use Rattle.std.specs.List.{ends_with, starts_with, flat_map}
use Rattle.std.specs.Fmt.{decimal}
use Rattle.std.proofs.lemmas.Bool.{and_parts, and_from, and_left, or_cases, cond_both, cond-true, cond-false, eqb-true, leb-true, ltb-true, not-true, both_ways}
use Rattle.std.proofs.lemmas.List.Elements.{All-nil, All-cons, All-append, All-map}
use Rattle.lp_form.specs.Templates.{Piece}
use Rattle.lp_form.specs.declared.template.Kind.{Kind}
use Rattle.lp_form.specs.declared.template.Kind.TheVariants as kind
use Rattle.lp_form.specs.declared.template.Slot.{Slot}
use Rattle.lp_form.specs.declared.template.Slot.TheVariants.{Nothing, Prefix, Hole}
use Rattle.lp_form.specs.declared.template.Step.{Step}
use Rattle.lp_form.specs.declared.template.Step.TheVariants as step
use Rattle.lp_write.specs.Lines.{Line, closes, lowered, raised, indent_after, indent_after_all}
use Rattle.lp_write.specs.Lines.Line.{line, verbatim}
use Rattle.lp_write.specs.declared.rust.Options.{Options}
use Rattle.lp_spelling.specs.Fillings.{has_shape, line_part, Fits, Fills}
use Rattle.lp_spelling.specs.LineReading.{kind_of}
use Rattle.lp_spelling.specs.Lines.{slot_text, line_of}
use Rattle.lp_program.specs.OwnLines.{hole, spelled, note_lines, code_lines, own_lines}
use Rattle.lp_program.specs.TableRows.{commented, entry_line, entry_lines, row_lines, no_note, rows_from, table_lines}
use Rattle.lp_tree.specs.ProgramTree.{Note}
use Rattle.lp_program.specs.Trees.{Content}
use Rattle.lp_reading_laws.specs.Printing.LineTexts.{ends_open}
use Rattle.lp_reading_laws.specs.Printing.LineTests.{next_so}
use Rattle.lp_reading_laws.specs.Printing.TemplateTests.{is_nothing}
use Rattle.lp_reading_laws.specs.Printing.LevelTests.{one_if, line_closes, line_opens, is_steady_kind, is_attribute_kind, is_hole_of, is_steady_end, is_steady_line, is_firm_line, Level, own_fits, own_level}
use Rattle.lp_reading_laws.specs.Printing.WellFormed.{HolesFill, IsSteady}
use Rattle.lp_reading_laws.proofs.Printing.LastBytes.{Steady, open_behind, open_some, steady-append, blanks_steady, digits_steady, one_line_steady}
use Rattle.lp_reading_laws.proofs.Printing.OnLine.{ends_ok}
use Rattle.lp_reading_laws.proofs.Printing.Sound.{line_next}
use Rattle.lp_reading_laws.proofs.Printing.Numbers.{decimal_digits}
use Rattle.lp_reading_laws.proofs.Printing.Steps.{nothing_slot}

-- one line
lowered_le : (i : ℕ) (t : List ℕ) → lowered i t ≤ i
lowered_le i t = cond_both (closes (slice_index t 0)) (i - 4) i (λ x. x ≤ i) (λ y. omega arith) (λ n. omega arith)

raised_le : (i : ℕ) (t : List ℕ) → raised i t ≤ i + 4
raised_le i t = cond_both (ends_open t && ltb (i + 4) (2 ^ 64)) (i + 4) i (λ x. x ≤ i + 4) (λ y. omega arith) (λ n. omega arith)

raised_steady : (i : ℕ) (t : List ℕ) → Steady t → raised i t ≡ i
raised_steady i t h = cond-false (ends_open t && ltb (i + 4) (2 ^ 64)) (i + 4) i (and_left (ends_open t) (ltb (i + 4) (2 ^ 64)) h)

lowered_closing : (i : ℕ) (t : List ℕ) → closes (slice_index t 0) ≡ true → lowered i t ≡ i - 4
lowered_closing i t h = cond-true (closes (slice_index t 0)) (i - 4) i h

line_after : (i : ℕ) (t : List ℕ) (closing opening : Bool) → (closing ≡ true → closes (slice_index t 0) ≡ true) → (opening ≡ false → Steady t) →
    indent_after i (line t) ≤ (i - one_if closing) + one_if opening
line_after i t true true c o = omega (arith, lowered_closing i t (c refl), raised_le (lowered i t) t)
line_after i t true false c o = omega (arith, lowered_closing i t (c refl), raised_steady (lowered i t) t (o refl))
line_after i t false true c o = omega (arith, lowered_le i t, raised_le (lowered i t) t)
line_after i t false false c o = omega (arith, lowered_le i t, raised_steady (lowered i t) t (o refl))

steady_after : (i : ℕ) (t : List ℕ) → Steady t → indent_after i (line t) ≤ i
steady_after i t h = omega (arith, line_after i t false false (λ e. absurd (both_ways false refl e)) (λ e. h))

-- the first bracket of all
open_four : (t : List ℕ) → ends_open t ≡ true → indent_after 0 (line t) ≡ 4
open_four t h =
    let low : lowered 0 t ≡ 0 = omega (arith, lowered_le 0 t) in
    let up : raised 0 t ≡ 4 = cond-true (ends_open t && ltb (0 + 4) (2 ^ 64)) (0 + 4) 0 (and_from (ends_open t) (ltb (0 + 4) (2 ^ 64)) h refl) in
    ap (λ i. raised i t) low ∙ up

-- the same line several times
steady_all : (n i : ℕ) (t : List ℕ) → Steady t → indent_after_all i (replicate n (line t)) ≤ i
steady_all zero i t h = omega arith
steady_all (suc n) i t h = omega (arith, steady_all n (indent_after i (line t)) t h, steady_after i t h)

closing_all : (n i : ℕ) (t : List ℕ) → Steady t → closes (slice_index t 0) ≡ true → indent_after_all i (replicate n (line t)) ≤ i - 4 * n
closing_all zero i t h c = omega arith
closing_all (suc n) i t h c = omega (arith, closing_all n (indent_after i (line t)) t h c, line_after i t true false (λ e. c) (λ e. h))

-- lines that raise nothing
abbrev pub SteadyLine : Line → Type 0
SteadyLine (line text) = Steady text
SteadyLine (verbatim text) = Unit {0}

one_steady : (i : ℕ) (l : Line) → SteadyLine l → indent_after i l ≤ i
one_steady i (line text) h = steady_after i text h
one_steady i (verbatim text) h = omega arith

lines_steady : (i : ℕ) (ls : List Line) → All SteadyLine ls → indent_after_all i ls ≤ i
lines_steady i [] h = omega arith
lines_steady i (l ∷ ls) h = omega (arith, lines_steady (indent_after i l) ls (λ k d lt. h (suc k) d (omega arith)), one_steady i l (h 0 l (omega arith)))

notes_steady : (notes : List Note) → All IsSteady notes → All SteadyLine (note_lines notes)
notes_steady [] h = All-nil SteadyLine
notes_steady (n ∷ notes) h =
    All-append SteadyLine (map line n.lines) (note_lines notes) (All-map SteadyLine line n.lines (h 0 n (omega arith))) (notes_steady notes (λ k d lt. h (suc k) d (omega arith)))

-- the rows of a table
empty_line : All SteadyLine (line [] ∷ [])
empty_line = All-cons SteadyLine (line []) [] refl (All-nil SteadyLine)

entries_steady : (options : Options) (es : List (ℤ × List ℕ)) → All SteadyLine (entry_lines options es)
entries_steady options es =
    cond_both options.comments (map entry_line es ++ line [] ∷ []) _ (All SteadyLine)
    (λ y. All-append SteadyLine (map entry_line es) (line [] ∷ []) (All-map SteadyLine entry_line es (λ k d lt. tt)) empty_line)
    (λ n. All-cons SteadyLine _ [] tt (All-nil SteadyLine))

row_steady : (options : Options) (state : ℕ) (numbers : List ℤ) (note : Note) → state < 2 ^ 64 → IsSteady note → All SteadyLine (row_lines options state numbers note)
row_steady options state numbers note s h =
    let es : List (ℤ × List ℕ) = commented numbers note.comments in
    let notes : List Line = if options.comments then map line note.lines else [] in
    All-cons SteadyLine (line (codes "// State " ++ decimal state)) (notes ++ entry_lines options es)
    (steady-append (codes "// State ") (decimal state) refl (digits_steady (decimal state) (decimal_digits state s)))
    (All-append SteadyLine notes (entry_lines options es)
    (cond_both options.comments (map line note.lines) [] (All SteadyLine) (λ y. All-map SteadyLine line note.lines h) (λ n. All-nil SteadyLine))
    (entries_steady options es))

no_note_steady : IsSteady no_note
no_note_steady = λ k d lt. absurd (omega arith)

rows_steady : (options : Options) (state before : ℕ) (left : List ℤ) (notes : List Note) → state + length notes < 2 ^ 64 → All IsSteady notes → All SteadyLine (rows_from options state before left notes)
unfolding rows_from
rows_steady options state before left [] s h =
    cond_both ((length left == 0) && not (state == 0)) [] (row_lines options state left no_note) (All SteadyLine)
    (λ y. All-nil SteadyLine)
    (λ n. row_steady options state left no_note (omega arith) no_note_steady)
rows_steady options state before left (n ∷ notes) s h =
    let row : List ℤ = take (n.end - before) left in
    All-append SteadyLine (row_lines options state row n) (rows_from options (state + 1) (before + length row) (drop (length row) left) notes)
    (row_steady options state row n (omega arith) (h 0 n (omega arith)))
    (rows_steady options (state + 1) (before + length row) (drop (length row) left) notes (omega arith) (λ k d lt. h (suc k) d (omega arith)))

-- user code leaves the indent alone
pub code_after : (i : ℕ) (code : List ℕ) → indent_after_all i (code_lines code) ≡ i
code_after i code = cond_both (Rattle.std.specs.Str.bytes_eq code (codes "()")) [] (verbatim code ∷ []) (λ x. indent_after_all i x ≡ i) (λ y. refl) (λ n. refl)

-- the lines of templates: their fronts
front_closes : (prefix : List ℕ) (holes : List (List ℕ)) (b : ℕ) (pieces : List Piece) → line_closes b pieces ≡ true → closes (slice_index (replicate b 32 ++ line_of prefix holes pieces) 0) ≡ true
front_closes prefix holes b pieces h =
    let q = and_parts (b == 0) (next_so closes pieces) h in
    let n = line_next closes prefix holes pieces q.1 in
    ap (λ k. closes (slice_index (replicate k 32 ++ line_of prefix holes pieces) 0)) (eqb-true b 0 q.0) ∙ ap (λ x. closes (slice_index x 0)) n.is ∙ n.so

-- their ends
pub end_opens : (prefix : List ℕ) (holes : List (List ℕ)) (pieces : List Piece) → line_opens pieces ≡ true → ends_open (line_of prefix holes pieces) ≡ true
unfolding line_of
end_opens prefix holes [] h = absurd (both_ways false refl h)
end_opens prefix holes (p ∷ []) h =
    let q = and_parts (is_nothing p.1) (ends_open p.0) h in
    ap (λ x. ends_open ((p.0 ++ x) ++ [])) (nothing_slot prefix holes p.1 q.0) ∙ ap ends_open (append-nil (p.0 ++ [])) ∙ ap ends_open (append-nil p.0) ∙ q.1
end_opens prefix holes (p ∷ q ∷ ps) h =
    let more = end_opens prefix holes (q ∷ ps) h in
    open_behind (p.0 ++ slot_text prefix holes p.1) (line_of prefix holes (q ∷ ps)) (open_some (line_of prefix holes (q ∷ ps)) more) ∙ more

-- a text that is not empty, and ends with no opening bracket
abbrev SteadySome : List ℕ → Type 0
SteadySome text = Steady text × (0 < length text)

steady_some-behind : (a b : List ℕ) → SteadySome b → SteadySome (a ++ b)
steady_some-behind a b h = (open_behind a b h.1 ∙ h.0, (let size = length-append a b in let some = h.1 in omega (arith, size, some)))

attribute_steady : (prefix : List ℕ) (k : Kind) (t : List ℕ) → Fills prefix k t → is_attribute_kind k ≡ true → SteadySome t
unfolding Fits has_shape line_part
attribute_steady prefix kind.Attribute t f h =
    let q = and_parts (starts_with Rattle.std.proofs.Common.eqb t (codes "#![")) _ f.1.0 in
    let e = ends_ok (codes "]") t (and_parts (ends_with Rattle.std.proofs.Common.eqb t (codes "]")) _ q.1).0 in
    subst SteadySome (sym e) (steady_some-behind (take (length t - length (codes "]")) t) (codes "]") (refl, omega arith))
attribute_steady prefix _ t f h = absurd (both_ways false refl h)

kind_steady : (prefix : List ℕ) (k : Kind) (t : List ℕ) → Fills prefix k t → is_steady_kind k ≡ true → Steady t
unfolding Fits has_shape line_part
kind_steady prefix kind.Text t f h = one_line_steady t f.1.1
kind_steady prefix kind.Result t f h = one_line_steady t f.1.1
kind_steady prefix kind.Attribute t f h = (attribute_steady prefix kind.Attribute t f refl).0
kind_steady prefix _ t f h = absurd (both_ways false refl h)

hole_steady : (test : Kind → Bool) (P : List ℕ → Type 0) (prefix : List ℕ) (kinds : List Kind) (holes : List (List ℕ)) (s : Slot) → HolesFill prefix kinds holes →
    ((k : Kind) (t : List ℕ) → Fills prefix k t → test k ≡ true → P t) → is_hole_of test kinds s ≡ true → P (slot_text prefix holes s)
hole_steady test P prefix kinds holes (Hole k) f g h =
    let q = and_parts (ltb k (length kinds)) (test (kind_of kinds k)) h in
    g (kind_of kinds k) (get_or holes k []) (f k (ltb-true k (length kinds) q.0)).0 q.1
hole_steady test P prefix kinds holes Nothing f g h = absurd (both_ways false refl h)
hole_steady test P prefix kinds holes Prefix f g h = absurd (both_ways false refl h)

end_steady : (prefix : List ℕ) (kinds : List Kind) (holes : List (List ℕ)) (t : List ℕ) (s : Slot) → HolesFill prefix kinds holes → is_steady_end kinds t s ≡ true → SteadySome (t ++ slot_text prefix holes s)
end_steady prefix kinds holes [] s f h = hole_steady is_attribute_kind SteadySome prefix kinds holes s f (attribute_steady prefix) h
end_steady prefix kinds holes (b ∷ t) s f h =
    let q = and_parts (not (ends_open (b ∷ t))) (is_nothing s || is_hole_of is_steady_kind kinds s) h in
    let slot : Steady (slot_text prefix holes s) =
    ⊎_elim
    (λ n. ap ends_open (nothing_slot prefix holes s n))
    (λ k. hole_steady is_steady_kind Steady prefix kinds holes s f (kind_steady prefix) k)
    (or_cases (is_nothing s) (is_hole_of is_steady_kind kinds s) q.1) in
    (steady-append (b ∷ t) (slot_text prefix holes s) (not-true (ends_open (b ∷ t)) q.0) slot, omega arith)

line_steady : (prefix : List ℕ) (kinds : List Kind) (holes : List (List ℕ)) (pieces : List Piece) → HolesFill prefix kinds holes → is_steady_line kinds pieces ≡ true → SteadySome (line_of prefix holes pieces)
unfolding line_of
line_steady prefix kinds holes [] f h = absurd (both_ways false refl h)
line_steady prefix kinds holes (p ∷ []) f h = subst SteadySome (sym (append-nil (p.0 ++ slot_text prefix holes p.1))) (end_steady prefix kinds holes p.0 p.1 f h)
line_steady prefix kinds holes (p ∷ q ∷ ps) f h = steady_some-behind (p.0 ++ slot_text prefix holes p.1) (line_of prefix holes (q ∷ ps)) (line_steady prefix kinds holes (q ∷ ps) f h)

-- the indent at a level over its base, where so many parts stand below
abbrev pub extra : Bool → ℕ → ℕ
extra each total = if each then 4 * total else 0

pub record At (total base : ℕ) (l : Level) (i : ℕ) : Type 0 where
  pub most : i ≤ base + l.above + extra l.each total
  pub same : l.exact ≡ true → base ≡ 0 → i ≡ l.above

pub extra_none : (each : Bool) (total : ℕ) → each ≡ false → extra each total ≡ 0
extra_none each total h = cond-false each (4 * total) 0 h

-- what a part's own lines need of its texts
pub record Steadies (prefix : List ℕ) (c : Content) (kinds : List Kind) : Type 0 where
  pub fills : HolesFill prefix kinds c.holes
  pub notes : All IsSteady c.notes
  pub few : length c.notes < 2 ^ 64

line_at : (prefix : List ℕ) (c : Content) (kinds : List Kind) (total base i b : ℕ) (l : Level) (pieces : List Piece) → Steadies prefix c kinds → own_fits kinds l (step.Line b) pieces ≡ true → At total base l i →
    At total base (own_level l (step.Line b) pieces) (indent_after i (spelled prefix c b pieces))
line_at prefix c kinds total base i b l pieces t h a =
    let blanks : List ℕ = replicate b 32 in
    let text : List ℕ = line_of prefix c.holes pieces in
    let closing : Bool = line_closes b pieces in
    let opening : Bool = line_opens pieces in
    let q = and_parts (opening || is_steady_line kinds pieces) (leb (one_if closing) l.above && (closing || is_firm_line kinds pieces)) h in
    let room = leb-true (one_if closing) l.above (and_parts (leb (one_if closing) l.above) _ q.1).0 in
    let after = line_after i (blanks ++ text) closing opening (front_closes prefix c.holes b pieces)
    (λ n. steady-append blanks text (blanks_steady b)
    (line_steady prefix kinds c.holes pieces t.fills (⊎_elim (λ y. absurd (both_ways opening n y)) (λ y. y) (or_cases opening (is_steady_line kinds pieces) q.0))).0) in
    let most = a.most in
    record {
      most = omega (arith, room, after, most);
      same = λ e z.
          (let p = and_parts (not l.each) ((l.above == 0) && opening) e in
          let r = and_parts (l.above == 0) opening p.1 in
          let floor : l.above ≡ 0 = eqb-true l.above 0 r.0 in
          let none = extra_none l.each total (not-true l.each p.0) in
          let low : i ≡ 0 = omega (arith, most, z, floor, none) in
          let ends = end_opens prefix c.holes pieces r.1 in
          let four : indent_after i (line (blanks ++ text)) ≡ 4 = ap (λ k. indent_after k (line (blanks ++ text))) low ∙ open_four (blanks ++ text) (open_behind blanks text (open_some text ends) ∙ ends) in
          let up : one_if opening ≡ 4 = ap one_if r.1 in
          omega (arith, four, up, floor));
    }

kept_at : (total base i j : ℕ) (l : Level) → At total base l i → j ≤ i → At total base (record { above = l.above; each = l.each; exact = false; first = l.first }) j
kept_at total base i j l a h = let most = a.most in record { most = omega (arith, most, h); same = λ e z. absurd (both_ways false refl e) }

pub own_at : (options : Options) (prefix : List ℕ) (c : Content) (kinds : List Kind) (total base i : ℕ) (l : Level) (s : Step) (pieces : List Piece) → Steadies prefix c kinds → own_fits kinds l s pieces ≡ true → At total base l i →
    At total base (own_level l s pieces) (indent_after_all i (own_lines options prefix c total pieces s))
own_at options prefix c kinds total base i l (step.Line b) pieces t h a = line_at prefix c kinds total base i b l pieces t h a
own_at options prefix c kinds total base i l (step.Each b) pieces t h a =
    let q = and_parts (is_steady_line kinds pieces) (l.each && line_closes b pieces) h in
    let r = and_parts l.each (line_closes b pieces) q.1 in
    let steady = steady-append (replicate b 32) (line_of prefix c.holes pieces) (blanks_steady b) (line_steady prefix kinds c.holes pieces t.fills q.0).0 in
    let after = closing_all total i (replicate b 32 ++ line_of prefix c.holes pieces) steady (front_closes prefix c.holes b pieces r.1) in
    let all : extra l.each total ≡ 4 * total = ap (λ e. extra e total) r.0 in
    let most = a.most in
    record { most = omega (arith, after, all, most); same = λ e z. absurd (both_ways false refl e) }
own_at options prefix c kinds total base i l step.Use pieces t h a =
    kept_at total base i _ l a (steady_after i (codes "use " ++ (hole c 0 ++ codes ";"))
    (open_behind (codes "use ") (hole c 0 ++ codes ";") (let size = length-append (hole c 0) (codes ";") in omega (arith, size)) ∙ open_behind (hole c 0) (codes ";") (omega arith)))
own_at options prefix c kinds total base i l step.Empty pieces t h a = kept_at total base i _ l a (steady_after i [] refl)
own_at options prefix c kinds total base i l step.Note pieces t h a =
    kept_at total base i _ l a (cond_both options.comments (note_lines c.notes) [] (λ x. indent_after_all i x ≤ i) (λ y. lines_steady i (note_lines c.notes) (notes_steady c.notes t.notes)) (λ n. omega arith))
own_at options prefix c kinds total base i l step.NoteAlways pieces t h a = kept_at total base i _ l a (lines_steady i (note_lines c.notes) (notes_steady c.notes t.notes))
own_at options prefix c kinds total base i l step.Entries pieces t h a =
    kept_at total base i _ l a (lines_steady i (table_lines options c.numbers c.notes) (let few = t.few in rows_steady options 0 0 c.numbers c.notes (omega (arith, few)) t.notes))
own_at options prefix c kinds total base i l step.Code pieces t h a = kept_at total base i _ l a (let e = code_after i (hole c 0) in omega (arith, e))
own_at options prefix c kinds total base i l (step.One class) pieces t h a = kept_at total base i i l a (omega arith)
own_at options prefix c kinds total base i l (step.Optional class) pieces t h a = kept_at total base i i l a (omega arith)
own_at options prefix c kinds total base i l (step.Many class) pieces t h a = kept_at total base i i l a (omega arith)
own_at options prefix c kinds total base i l (step.Some class) pieces t h a = kept_at total base i i l a (omega arith)
own_at options prefix c kinds total base i l (step.Pairs first second) pieces t h a = kept_at total base i i l a (omega arith)
