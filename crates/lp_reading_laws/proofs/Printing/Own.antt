-- What a step prints itself is taken off the text again.
use Rattle.std.proofs.Common.{◌≡◌, ℕ, ◌+◌, ◌^◌, ◌==◌, ◌<◌, zero, suc, Bool, true, false, not, List, [], ◌∷◌, ◌++◌, length, map, get_or, take, drop, replicate, codes, All, refl, sym, ap, ◌∙◌, subst, arith, inl, inr, append_assoc}
use Rattle.std.specs.List.{flat_map}
use Rattle.std.specs.Str.{IsUtf8, chars}
use Rattle.std.proofs.lemmas.Bool.{and_parts, and_from, or_right, cases_Bool, cond-true, cond-false, eqb-true, not_from_false, both_ways}
use Rattle.std.proofs.lemmas.List.Elements.{All-nil, All-cons, All-append}
use Rattle.std.proofs.lemmas.Str.{IsUtf8-append, IsUtf8-take, IsUtf8-from_ascii}
use Rattle.lp_form.specs.Templates.{Piece}
use Rattle.lp_form.specs.Templates as template
use Rattle.lp_form.specs.declared.template.Kind.{Kind}
use Rattle.lp_form.specs.declared.template.Step.{Step}
use Rattle.lp_form.specs.declared.template.Step.TheVariants as step
use Rattle.lp_write.specs.Lines.{Line, line_bytes, lines_bytes, indent_after}
use Rattle.lp_write.specs.Lines.Line.{line}
use Rattle.lp_write.specs.declared.rust.Options.{Options}
use Rattle.lp_spelling.specs.Counting.{is_text, line_len, front_line, settled}
use Rattle.lp_spelling.specs.Lines.{line_of}
use Rattle.lp_spelling.specs.TableReading.{entries}
use Rattle.lp_spelling.proofs.Counting.{line_boundary}
use Rattle.lp_program.specs.CodeReading.{IsUse}
use Rattle.lp_program.specs.OwnLines.{hole, spelled, note_lines, own_lines}
use Rattle.lp_program.specs.Reads.{TakesLine, TakesLines, TakesOwn}
use Rattle.lp_program.specs.TableRows.{table_lines}
use Rattle.lp_tree.specs.ProgramTree.{Note}
use Rattle.lp_program.specs.Trees.{Content}
use Rattle.lp_reading_laws.specs.Printing.LineTexts.{is_on_line, Counts, text_in}
use Rattle.lp_reading_laws.specs.Printing.LineTests.{is_good, is_sound_line}
use Rattle.lp_reading_laws.specs.Printing.TemplateTests.{is_class, exact_after, has_class, ends_next, is_sound_step}
use Rattle.lp_reading_laws.specs.Printing.WellFormed.{HolesFill, IsUseText, IsTrailing, IsNote, StepFits}
use Rattle.lp_reading_laws.proofs.Printing.Lining.{laid, settled_line, settled_over, takes_laid}
use Rattle.lp_reading_laws.proofs.Printing.Fronts.{Solid, good_solid, solid_loose, loose_counts}
use Rattle.lp_reading_laws.proofs.Printing.Sound.{IsPrefix, plain_ascii, sound_counts}
use Rattle.lp_reading_laws.proofs.Printing.Bytes.{any_laid, laid_blanks, bytes-first, skipped_lines}
use Rattle.lp_reading_laws.proofs.Printing.TableLines.{empty_skipped, no_trailing, table_reads}

-- a text goes on as what was printed: byte by byte, or from its next line that counts on
pub record Ready (exact : Bool) (text printed : List ℕ) : Type 0 where
  pub same : settled text ≡ settled printed
  pub is : exact ≡ true → text ≡ printed

pub ready_same : (text printed : List ℕ) → settled text ≡ settled printed → Ready false text printed
ready_same text printed e = record { same = e; is = λ h. absurd (both_ways false refl h) }

pub ready_is : (exact : Bool) (text : List ℕ) → Ready exact text text
ready_is exact text = record { same = refl; is = λ h. refl }

-- the text is what follows, by the printed text in other words
pub ready_as : (exact : Bool) (text a b : List ℕ) → a ≡ b → Ready exact text a → Ready exact text b
ready_as exact text a b e r = subst (λ x. Ready exact text x) e r

-- a line
line_takes : (w : Bool) (i b : ℕ) (x text rest : List ℕ) → Counts x → settled text ≡ settled (line_bytes w i (line (replicate b 32 ++ x)) ++ rest) → TakesLine x text rest
line_takes w i b x text rest c e =
    let at = any_laid w i (line (replicate b 32 ++ x)) rest in
    takes_laid text (at.count + b) x rest c (e ∙ ap settled (at.is ∙ laid_blanks at.count b x rest))

-- so many lines
record EachTaken (m : ℕ) (x text printed : List ℕ) : Type 0 where
  rest : List ℕ
  takes : TakesLines m x text rest
  same : settled rest ≡ settled printed

each_taken : (m : ℕ) (w : Bool) (i b : ℕ) (x text printed : List ℕ) → Counts x → settled text ≡ settled (lines_bytes w i (replicate m (line (replicate b 32 ++ x))) ++ printed) → EachTaken m x text printed
each_taken zero w i b x text printed c e = record { rest = text; takes = refl; same = e }
each_taken (suc m) w i b x text printed c e =
    let l : Line = line (replicate b 32 ++ x) in
    let mid : List ℕ = lines_bytes w (indent_after i l) (replicate m l) ++ printed in
    let first : TakesLine x text mid = line_takes w i b x text mid c (e ∙ ap settled (bytes-first w i l (replicate m l) printed)) in
    let next = each_taken m w (indent_after i l) b x mid printed c refl in
    record { rest = next.rest; takes = (mid, first, next.takes); same = next.same }

-- the first line of a text that may have several
record FirstLine (a rest : List ℕ) : Type 0 where
  behind : List ℕ
  whole : a ++ 10 ∷ rest ≡ front_line a ++ 10 ∷ behind
  on_line : is_on_line (front_line a) ≡ true

first_line : (a rest : List ℕ) → FirstLine a rest
first_line [] rest = record { behind = rest; whole = refl; on_line = refl }
first_line (x ∷ a) rest = elim (cases_Bool (x == 10)) [
  | inl y ↦
      let none : front_line (x ∷ a) ≡ [] = ap (λ n. take n (x ∷ a)) (cond-false (is_text x) (1 + line_len a) 0 (Rattle.std.proofs.lemmas.Bool.not_from_true (x == 10) y)) in
      record {
        behind = a ++ 10 ∷ rest;
        whole = ap (λ n. n ∷ (a ++ 10 ∷ rest)) (eqb-true x 10 y) ∙ ap (λ (t : List ℕ). t ++ 10 ∷ (a ++ 10 ∷ rest)) (sym none);
        on_line = ap is_on_line none;
      }
  | inr n ↦
      let r = first_line a rest in
      let text : is_text x ≡ true = not_from_false (x == 10) n in
      let len : line_len (x ∷ a) ≡ 1 + line_len a = cond-true (is_text x) (1 + line_len a) 0 text in
      let next : line_len (x ∷ a) ≡ suc (line_len a) = omega (arith, len) in
      let more : front_line (x ∷ a) ≡ x ∷ front_line a = ap (λ k. take k (x ∷ a)) next in
      record {
        behind = r.behind;
        whole = ap (λ (t : List ℕ). x ∷ t) r.whole ∙ ap (λ (t : List ℕ). t ++ 10 ∷ r.behind) (sym more);
        on_line = ap is_on_line more ∙ and_from (is_text x) (is_on_line (front_line a)) text r.on_line;
      }
]

front_utf8 : (a : List ℕ) → IsUtf8 a → IsUtf8 (front_line a)
front_utf8 a u =
    let at : 0 + line_len (drop 0 a) ≡ line_len a = omega arith in
    IsUtf8-take a (line_len a) u (subst (λ n. Rattle.std.specs.Str.IsCharBoundary a n) at (line_boundary a 0 (omega arith)))

opening_counts : (b : ℕ) (x t behind : List ℕ) → is_good b ≡ true → (b ≡ 10 → ⊥) → b ∷ x ≡ t ++ 10 ∷ behind → IsUtf8 t → is_on_line t ≡ true → Counts t
opening_counts b x [] behind g n e u o = absurd (n (ap (λ l. get_or l 0 0) e))
opening_counts b x (c ∷ t) behind g n e u o =
    let same : c ≡ b = sym (ap (λ l. get_or l 0 0) e) in
    let s : Solid (c ∷ t) = good_solid c t (ap is_good same ∙ g) in
    (record { utf8 = u; on_line = o; shown = s.shown }, loose_counts (c ∷ t) s.some (solid_loose (c ∷ t) s))

-- a text that may have several lines, the first of which counts
settled_opening : (k b : ℕ) (z rest : List ℕ) → is_good b ≡ true → (b ≡ 10 → ⊥) → IsUtf8 (b ∷ z) → settled (laid k (b ∷ z) rest) ≡ (b ∷ z) ++ 10 ∷ rest
settled_opening k b z rest g n u =
    let f = first_line (b ∷ z) rest in
    let fl : List ℕ = front_line (b ∷ z) in
    let c : Counts fl = opening_counts b (z ++ 10 ∷ rest) fl f.behind g n f.whole (front_utf8 (b ∷ z) u) f.on_line in
    let there : laid k (b ∷ z) rest ≡ laid k fl f.behind = append_assoc (replicate k 32) (b ∷ z) (10 ∷ rest) ∙ ap (λ t. replicate k 32 ++ t) f.whole ∙ sym (append_assoc (replicate k 32) fl (10 ∷ f.behind)) in
    ap settled there ∙ settled_line k fl f.behind c ∙ sym f.whole

-- a use
use_taken : (w : Bool) (i : ℕ) (used text rest : List ℕ) → IsUseText used → settled text ≡ settled (line_bytes w i (line (codes "use " ++ (used ++ codes ";"))) ++ rest) → IsUse text used (10 ∷ rest)
use_taken w i used text rest t e =
    let a : List ℕ = codes "use " ++ (used ++ codes ";") in
    let at = any_laid w i (line a) rest in
    let ascii = λ (s : List ℕ) (h : Rattle.std.specs.List.list_all Rattle.lp_reading_laws.specs.Printing.LineTests.is_plain s ≡ true). IsUtf8-from_ascii s (plain_ascii s h) in
    let u : IsUtf8 a = IsUtf8-append (codes "use ") (used ++ codes ";") (ascii (codes "use ") refl) (IsUtf8-append used (codes ";") t.utf8 (ascii (codes ";") refl)) in
    record {
      front = e ∙ ap settled at.is ∙ settled_opening at.count 117 (codes "se " ++ (used ++ codes ";")) rest refl (λ h. omega (arith, h)) u
          ∙ ap (λ x. codes "use " ++ x) (append_assoc used (codes ";") (10 ∷ rest));
      stops = t.stops rest;
      ends = or_right (length (10 ∷ rest) == 0) _ refl;
    }

pub settled_feed : (rest : List ℕ) → settled (10 ∷ rest) ≡ settled rest
settled_feed rest = settled_over 0 [] rest empty_skipped

-- comment lines of notes
notes_skipped : (notes : List Note) → All IsNote notes → All (λ l. IsTrailing (text_in l)) (note_lines notes)
notes_skipped [] h = All-nil (λ l. IsTrailing (text_in l))
notes_skipped (n ∷ notes) h =
    All-append (λ l. IsTrailing (text_in l)) (map line n.lines) (note_lines notes)
    (Rattle.std.proofs.lemmas.List.Elements.All-map (λ l. IsTrailing (text_in l)) line n.lines (h 0 n (omega arith)).lines)
    (notes_skipped notes (λ k d lt. h (suc k) d (omega arith)))

-- what a step itself takes off a text, where this was printed behind it
pub record Own (prefix : List ℕ) (c : Content) (done : ℕ) (pieces : List Piece) (s : Step) (text printed : List ℕ) : Type 0 where
  pub rest : List ℕ
  pub takes : TakesOwn prefix c done pieces s text rest
  pub ready : Ready (exact_after s) rest printed

-- the line behind a table: it begins with `]`
pub record EndsTable (printed : List ℕ) : Type 0 where
  pub blanks : ℕ
  pub others : List ℕ
  pub rest : List ℕ
  pub counts : Counts (93 ∷ others)
  pub is : printed ≡ laid blanks (93 ∷ others) rest

-- a part whose texts are valid
pub record Texts (prefix : List ℕ) (c : Content) (kinds : List Kind) : Type 0 where
  pub prefix_is : IsPrefix prefix
  pub fills : HolesFill prefix kinds c.holes
  pub notes : All IsNote c.notes
  pub few : length c.notes < 2 ^ 64

pub line_counts : (prefix : List ℕ) (c : Content) (kinds : List Kind) (pieces : List Piece) → Texts prefix c kinds → is_sound_line kinds pieces ≡ true → Counts (line_of prefix c.holes pieces)
line_counts prefix c kinds pieces t h = sound_counts prefix kinds c.holes pieces t.prefix_is t.fills h

skipping : (options : Options) (i : ℕ) (ls : List Line) (text printed : List ℕ) → All (λ l. IsTrailing (text_in l)) ls → settled text ≡ settled (lines_bytes options.whitespace i ls ++ printed) → Ready false text printed
skipping options i ls text printed h e = ready_same text printed (e ∙ skipped_lines options.whitespace i ls printed h)

pub own_read : (options : Options) (prefix : List ℕ) (c : Content) (kinds : List Kind) (done total i : ℕ) (exact : Bool) (s : Step) (pieces : List Piece) (others : List template.Line) (text printed : List ℕ) →
    Texts prefix c kinds → is_class s ≡ false → is_sound_step exact kinds s pieces others ≡ true → StepFits c s → (has_class others ≡ false → done ≡ total) →
    (ends_next others ≡ true → EndsTable printed) → Ready exact text (lines_bytes options.whitespace i (own_lines options prefix c total pieces s) ++ printed) →
    Own prefix c done pieces s text printed
own_read options prefix c kinds done total i exact (step.Line blanks) pieces others text printed t p h f m b r =
    let k = line_counts prefix c kinds pieces t h in
    record { rest = printed; takes = line_takes options.whitespace i blanks (line_of prefix c.holes pieces) text printed k (r.same ∙ ap settled (bytes-first options.whitespace i (spelled prefix c blanks pieces) [] printed)); ready = ready_is true printed }
own_read options prefix c kinds done total i exact (step.Each blanks) pieces others text printed t p h f m b r =
    let q = and_parts (is_sound_line kinds pieces) (not (has_class others)) h in
    let k = line_counts prefix c kinds pieces t q.0 in
    let e = each_taken total options.whitespace i blanks (line_of prefix c.holes pieces) text printed k r.same in
    let same : total ≡ done = sym (m (Rattle.std.proofs.lemmas.Bool.not-true (has_class others) q.1)) in
    record { rest = e.rest; takes = subst (λ n. TakesLines n (line_of prefix c.holes pieces) text e.rest) same e.takes; ready = ready_same e.rest printed e.same }
own_read options prefix c kinds done total i exact step.Use pieces others text printed t p h f m b r =
    let used : List ℕ = hole c 0 in
    record {
      rest = 10 ∷ printed;
      takes = use_taken options.whitespace i used text printed f (r.same ∙ ap settled (bytes-first options.whitespace i (line (codes "use " ++ (used ++ codes ";"))) [] printed));
      ready = ready_same (10 ∷ printed) printed (settled_feed printed);
    }
own_read options prefix c kinds done total i exact step.Entries pieces others text printed t p h f m b r =
    let q = and_parts exact (ends_next others) h in
    let e = b q.1 in
    let there : text ≡ lines_bytes options.whitespace i (table_lines options c.numbers c.notes) ++ (replicate e.blanks 32 ++ 93 ∷ (e.others ++ 10 ∷ e.rest)) =
    r.is q.0 ∙ ap (λ x. lines_bytes options.whitespace i (table_lines options c.numbers c.notes) ++ x) (e.is ∙ append_assoc (replicate e.blanks 32) (93 ∷ e.others) (10 ∷ e.rest)) in
    record {
      rest = 93 ∷ (e.others ++ 10 ∷ e.rest);
      takes = ap entries there ∙ table_reads options i e.blanks c.numbers c.notes (e.others ++ 10 ∷ e.rest) t.few f t.notes;
      ready = ready_same (93 ∷ (e.others ++ 10 ∷ e.rest)) printed
          (settled_line 0 (93 ∷ e.others) e.rest e.counts ∙ sym (ap settled e.is ∙ settled_line e.blanks (93 ∷ e.others) e.rest e.counts));
    }
own_read options prefix c kinds done total i exact step.Empty pieces others text printed t p h f m b r =
    record { rest = text; takes = refl; ready = skipping options i (line [] ∷ []) text printed (All-cons (λ l. IsTrailing (text_in l)) (line []) [] no_trailing (All-nil (λ l. IsTrailing (text_in l)))) r.same }
own_read options prefix c kinds done total i exact step.Note pieces others text printed t p h f m b r = elim (cases_Bool options.comments) [
  | inl y ↦
      let e : own_lines options prefix c total pieces step.Note ≡ note_lines c.notes = cond-true options.comments _ _ y in
      record { rest = text; takes = refl; ready = skipping options i (note_lines c.notes) text printed (notes_skipped c.notes t.notes) (r.same ∙ ap (λ x. settled (lines_bytes options.whitespace i x ++ printed)) e) }
  | inr n ↦
      let e : own_lines options prefix c total pieces step.Note ≡ [] = cond-false options.comments _ _ n in
      record { rest = text; takes = refl; ready = skipping options i [] text printed (All-nil (λ l. IsTrailing (text_in l))) (r.same ∙ ap (λ x. settled (lines_bytes options.whitespace i x ++ printed)) e) }
]
own_read options prefix c kinds done total i exact step.NoteAlways pieces others text printed t p h f m b r =
    record { rest = text; takes = refl; ready = skipping options i (note_lines c.notes) text printed (notes_skipped c.notes t.notes) r.same }
own_read options prefix c kinds done total i exact step.Code pieces others text printed t p h f m b r = absurd (both_ways false refl h)
own_read options prefix c kinds done total i exact (step.One class) pieces others text printed t p h f m b r = absurd (both_ways true p refl)
own_read options prefix c kinds done total i exact (step.Optional class) pieces others text printed t p h f m b r = absurd (both_ways true p refl)
own_read options prefix c kinds done total i exact (step.Many class) pieces others text printed t p h f m b r = absurd (both_ways true p refl)
own_read options prefix c kinds done total i exact (step.Some class) pieces others text printed t p h f m b r = absurd (both_ways true p refl)
own_read options prefix c kinds done total i exact (step.Pairs first second) pieces others text printed t p h f m b r = absurd (both_ways true p refl)
