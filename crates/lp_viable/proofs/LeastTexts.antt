-- The texts of least trees, and of the steps that are left of a part, are UTF-8.
use Rattle.std.proofs.Common.{◌≡◌, ℕ, ℤ, pos, negsuc, zero, suc, ◌==◌, ◌&&◌, ◌||◌, Bool, true, false, not, List, [], ◌∷◌, ◌++◌, length, replicate, codes, All, FitsSigned, w32, refl, sym, ap, ◌∙◌, subst, arith, inl, inr, ⊎_elim}
use Rattle.std.specs.Fmt.{decimal, signed_decimal}
use Rattle.std.specs.List.{list_all, flat_map}
use Rattle.std.specs.Str.{IsUtf8}
use Rattle.std.proofs.lemmas.Bool.{and_parts, or_cases, cases_Bool, cond-true, cond-false, both_ways}
use Rattle.std.proofs.lemmas.Fmt.{IsAscii-decimal, IsAscii-signed}
use Rattle.std.proofs.lemmas.List.Elements.{All-nil, All-cons, All-head, All-tail, All-replicate}
use Rattle.std.proofs.lemmas.Str.{IsUtf8-append, IsUtf8-from_ascii}
use Rattle.lp_form.specs.Templates.{Piece, steps_of, holes_of}
use Rattle.lp_form.specs.Templates as template
use Rattle.lp_form.specs.declared.part.Part.{Part}
use Rattle.lp_form.specs.declared.template.Kind.{Kind}
use Rattle.lp_form.specs.declared.template.Step.{Step}
use Rattle.lp_form.specs.declared.template.Step.TheVariants as step
use Rattle.lp_spelling.specs.Lines.{line_of}
use Rattle.lp_write.specs.Lines.{Line, line_bytes, lines_bytes, indent_after}
use Rattle.lp_write.specs.Lines.Line.{line, verbatim}
use Rattle.lp_write.specs.Rows.{entry_piece, row_text}
use Rattle.lp_reading_laws.proofs.Holes.Words.{ascii_at}
use Rattle.lp_program.specs.OwnLines.{hole, note_lines, own_lines}
use Rattle.lp_program.specs.Reads.{is_prefix, may_have}
use Rattle.lp_program.specs.TableRows.{commented, row_lines, no_note, rows_from, table_lines}
use Rattle.lp_tree.specs.ProgramTree.{Note}
use Rattle.lp_program.specs.Trees.{Content}
use Rattle.lp_reading_laws.specs.Printing.LineTests.{is_sound_line}
use Rattle.lp_reading_laws.specs.Printing.LineTexts.{text_in}
use Rattle.lp_reading_laws.specs.Printing.TemplateTests.{is_class, has_class, exact_after, is_sound_step}
use Rattle.lp_reading_laws.specs.Printing.WellFormed.{StepFits}
use Rattle.lp_reading_laws.proofs.Printing.Own.{Texts, line_counts}
use Rattle.lp_reading_laws.proofs.Printing.Steps.{class_own}
use Rattle.lp_viable.specs.Least.{first_needed, needed, least_content, plain, own_text, texts_over, steps_text, least_text, is_fit_step, are_fit, is_used_alone, is_least}
use Rattle.lp_viable.proofs.Moving.{nothing_utf8, feed_utf8}
use Rattle.lp_viable.proofs.Least.{least_fills, prefix_is, steps_fit}

ascii : (t : List ℕ) → list_all (λ b. Rattle.std.proofs.Common.ltb b 128) t ≡ true → IsUtf8 t
ascii t h = IsUtf8-from_ascii t (ascii_at t h)

blanks_utf8 : (n : ℕ) → IsUtf8 (replicate n 32)
blanks_utf8 zero = nothing_utf8
blanks_utf8 (suc n) = IsUtf8-append (32 ∷ []) (replicate n 32) (ascii (32 ∷ []) refl) (blanks_utf8 n)

-- the bytes of lines
abbrev Utf8Line : Line → Type 0
Utf8Line l = IsUtf8 (text_in l)

bytes_utf8 : (i : ℕ) (l : Line) → Utf8Line l → IsUtf8 (line_bytes false i l)
bytes_utf8 i (line text) u = elim (cases_Bool (length text == 0)) [
  | inl y ↦ subst (λ (x : List ℕ). IsUtf8 x) (sym (cond-true (length text == 0) _ _ y)) feed_utf8
  | inr n ↦ subst (λ (x : List ℕ). IsUtf8 x) (sym (cond-false (length text == 0) _ _ n)) (IsUtf8-append text (10 ∷ []) u feed_utf8)
]
bytes_utf8 i (verbatim text) u = IsUtf8-append text (10 ∷ []) u feed_utf8

lines_utf8 : (i : ℕ) (ls : List Line) → All Utf8Line ls → IsUtf8 (lines_bytes false i ls)
lines_utf8 i [] h = nothing_utf8
lines_utf8 i (l ∷ ls) h = IsUtf8-append (line_bytes false i l) (lines_bytes false (indent_after i l) ls) (bytes_utf8 i l (All-head Utf8Line l ls h)) (lines_utf8 (indent_after i l) ls (All-tail Utf8Line l ls h))

one_utf8 : (l : Line) → Utf8Line l → All Utf8Line (l ∷ [])
one_utf8 l u = All-cons Utf8Line l [] u (All-nil Utf8Line)

-- a table without notes
signed_utf8 : (z : ℤ) → FitsSigned w32 z → IsUtf8 (signed_decimal z)
signed_utf8 (pos n) f = let small = f.sfits in IsUtf8-from_ascii (signed_decimal (pos n)) (IsAscii-signed (pos n) (omega (arith, small)))
signed_utf8 (negsuc n) f = let small = f.sfits in IsUtf8-from_ascii (signed_decimal (negsuc n)) (IsAscii-signed (negsuc n) (omega (arith, small)))

piece_utf8 : (n : ℤ) → FitsSigned w32 n → IsUtf8 (signed_decimal n ++ codes ",")
piece_utf8 n f = IsUtf8-append (signed_decimal n) (codes ",") (signed_utf8 n f) (ascii (codes ",") refl)

pieces_utf8 : (ns : List ℤ) → All (FitsSigned w32) ns → IsUtf8 (flat_map (λ (y : ℤ × List ℕ). [] ++ entry_piece y) (commented ns []))
pieces_utf8 [] h = nothing_utf8
pieces_utf8 (n ∷ ns) h =
    IsUtf8-append (signed_decimal n ++ codes ",") (flat_map (λ (y : ℤ × List ℕ). [] ++ entry_piece y) (commented ns [])) (piece_utf8 n (All-head (FitsSigned w32) n ns h)) (pieces_utf8 ns (All-tail (FitsSigned w32) n ns h))

row_utf8 : (ns : List ℤ) → All (FitsSigned w32) ns → IsUtf8 (row_text false (commented ns []))
row_utf8 [] h = nothing_utf8
row_utf8 (n ∷ ns) h =
    IsUtf8-append (signed_decimal n ++ codes ",") (flat_map (λ (y : ℤ × List ℕ). [] ++ entry_piece y) (commented ns [])) (piece_utf8 n (All-head (FitsSigned w32) n ns h)) (pieces_utf8 ns (All-tail (FitsSigned w32) n ns h))

state_utf8 : IsUtf8 (codes "// State " ++ decimal 0)
state_utf8 = IsUtf8-append (codes "// State ") (decimal 0) (ascii (codes "// State ") refl) (IsUtf8-from_ascii (decimal 0) (IsAscii-decimal 0 (omega arith)))

table_utf8 : (ns : List ℤ) → All (FitsSigned w32) ns → All Utf8Line (table_lines plain ns [])
unfolding rows_from
table_utf8 ns h =
    let row : List Line = row_lines plain 0 ns no_note in
    elim (cases_Bool (length ns == 0 && not (0 == 0))) [
      | inl y ↦ subst (λ (x : List Line). All Utf8Line x) (sym (cond-true (length ns == 0 && not (0 == 0)) [] row y)) (All-nil Utf8Line)
      | inr n ↦ subst (λ (x : List Line). All Utf8Line x) (sym (cond-false (length ns == 0 && not (0 == 0)) [] row n))
          (All-cons Utf8Line (line (codes "// State " ++ decimal 0)) (verbatim (row_text false (commented ns [])) ∷ []) state_utf8 (one_utf8 (verbatim (row_text false (commented ns []))) (row_utf8 ns h)))
    ]

-- the lines of a step itself
own_utf8 : (prefix : List ℕ) (c : Content) (kinds : List Kind) (total : ℕ) (exact : Bool) (s : Step) (pieces : List Piece) (others : List template.Line) → Texts prefix c kinds → c.notes ≡ [] → is_class s ≡ false →
    is_sound_step exact kinds s pieces others ≡ true → StepFits c s → All Utf8Line (own_lines plain prefix c total pieces s)
own_utf8 prefix c kinds total exact (step.Line b) pieces others t none n h f =
    one_utf8 (line (replicate b 32 ++ line_of prefix c.holes pieces)) (IsUtf8-append (replicate b 32) (line_of prefix c.holes pieces) (blanks_utf8 b) (line_counts prefix c kinds pieces t h).0.utf8)
own_utf8 prefix c kinds total exact (step.Each b) pieces others t none n h f =
    let q = and_parts (is_sound_line kinds pieces) (not (has_class others)) h in
    All-replicate Utf8Line total (line (replicate b 32 ++ line_of prefix c.holes pieces)) (IsUtf8-append (replicate b 32) (line_of prefix c.holes pieces) (blanks_utf8 b) (line_counts prefix c kinds pieces t q.0).0.utf8)
own_utf8 prefix c kinds total exact step.Use pieces others t none n h f =
    one_utf8 (line (codes "use " ++ (hole c 0 ++ codes ";"))) (IsUtf8-append (codes "use ") (hole c 0 ++ codes ";") (ascii (codes "use ") refl) (IsUtf8-append (hole c 0) (codes ";") f.utf8 (ascii (codes ";") refl)))
own_utf8 prefix c kinds total exact step.Code pieces others t none n h f = absurd (both_ways false refl h)
own_utf8 prefix c kinds total exact step.Entries pieces others t none n h f = subst (λ (x : List Note). All Utf8Line (table_lines plain c.numbers x)) (sym none) (table_utf8 c.numbers f)
own_utf8 prefix c kinds total exact step.Empty pieces others t none n h f = one_utf8 (line []) nothing_utf8
own_utf8 prefix c kinds total exact step.Note pieces others t none n h f = All-nil Utf8Line
own_utf8 prefix c kinds total exact step.NoteAlways pieces others t none n h f = subst (λ (x : List Note). All Utf8Line (note_lines x)) (sym none) (All-nil Utf8Line)
own_utf8 prefix c kinds total exact (step.One class) pieces others t none n h f = absurd (both_ways true n refl)
own_utf8 prefix c kinds total exact (step.Optional class) pieces others t none n h f = absurd (both_ways true n refl)
own_utf8 prefix c kinds total exact (step.Many class) pieces others t none n h f = absurd (both_ways true n refl)
own_utf8 prefix c kinds total exact (step.Some class) pieces others t none n h f = absurd (both_ways true n refl)
own_utf8 prefix c kinds total exact (step.Pairs first second) pieces others t none n h f = absurd (both_ways true n refl)

-- the texts of parts, one after another
pub texts_utf8 : (text : Part → List ℕ) (fits : Part → Bool) (parts : List Part) → ((p : Part) → fits p ≡ true → IsUtf8 (text p)) → list_all fits parts ≡ true → IsUtf8 (texts_over text parts)
texts_utf8 text fits [] f h = nothing_utf8
texts_utf8 text fits (p ∷ parts) f h =
    let q = and_parts (fits p) (list_all fits parts) h in
    IsUtf8-append (text p) (texts_over text parts) (f p q.0) (texts_utf8 text fits parts f q.1)

-- the steps that are left of a part
pub steps_utf8 : (text : Part → List ℕ) (fits : Part → Bool) (prefix : List ℕ) (c : Content) (kinds : List Kind) (total : ℕ) (ss : List template.Line) (exact : Bool) → ((p : Part) → fits p ≡ true → IsUtf8 (text p)) → Texts prefix c kinds → c.notes ≡ [] →
    are_fit fits exact kinds ss ≡ true → All (λ s. StepFits c s.0) ss → IsUtf8 (steps_text text prefix c total ss)
steps_utf8 text fits prefix c kinds total [] exact f t none h fit = nothing_utf8
steps_utf8 text fits prefix c kinds total (s ∷ others) exact f t none h fit =
    let parts : List Part = first_needed s.0 in
    let q = and_parts (is_fit_step exact kinds s.0 others s) (list_all fits parts && are_fit fits (exact_after s.0) kinds others) h in
    let q2 = and_parts (list_all fits parts) (are_fit fits (exact_after s.0) kinds others) q.1 in
    let q3 = and_parts (may_have s.0 parts) (is_class s.0 || is_sound_step exact kinds s.0 s.1 others) q.0 in
    let next = steps_utf8 text fits prefix c kinds total others (exact_after s.0) f t none q2.1 (All-tail (λ x. StepFits c x.0) s others fit) in
    let own : IsUtf8 (own_text prefix c total s) = elim (cases_Bool (is_class s.0)) [
      | inl y ↦ subst (λ (x : List Line). IsUtf8 (lines_bytes false 0 x)) (sym (class_own plain prefix c total s.1 s.0 y)) nothing_utf8
      | inr z ↦
          let sound : is_sound_step exact kinds s.0 s.1 others ≡ true =
          ⊎_elim (λ y. absurd (both_ways (is_class s.0) z y)) (λ y. y) (or_cases (is_class s.0) (is_sound_step exact kinds s.0 s.1 others) q3.1) in
          lines_utf8 0 (own_lines plain prefix c total s.1 s.0) (own_utf8 prefix c kinds total exact s.0 s.1 others t none z sound (All-head (λ x. StepFits c x.0) s others fit))
    ] in
    IsUtf8-append (own_text prefix c total s) (texts_over text parts ++ steps_text text prefix c total others) own (IsUtf8-append (texts_over text parts) (steps_text text prefix c total others) (texts_utf8 text fits parts f q2.0) next)

-- the text of a least tree
pub least_utf8 : (n : ℕ) (prefix : List ℕ) → IsUtf8 prefix → is_prefix prefix ≡ true → (p : Part) → is_least n p ≡ true → IsUtf8 (least_text n prefix p)
unfolding is_least least_text
least_utf8 zero prefix u h p k = nothing_utf8
least_utf8 (suc n) prefix u h p k =
    let c : Content = least_content prefix p in
    let ss : List template.Line = steps_of p in
    let q = and_parts (list_all (λ s. is_used_alone p s.0) ss) (are_fit (is_least n) false (holes_of p) ss) k in
    let texts : Texts prefix c (holes_of p) = record { prefix_is = prefix_is prefix u h; fills = least_fills prefix p u h; notes = All-nil _; few = omega arith } in
    steps_utf8 (least_text n prefix) (is_least n) prefix c (holes_of p) (length (needed ss)) ss false (λ x y. least_utf8 n prefix u h x y) texts refl q.1 (steps_fit prefix p ss q.0)
