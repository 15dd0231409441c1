-- No part leaves the indent lower than its template says, where each sum of indents fits 64 bits.
use Rattle.std.proofs.Common.{◌≡◌, ℕ, ℤ, ◌+◌, ◌-◌, ◌*◌, ◌^◌, ◌==◌, ◌<◌, ◌≤◌, zero, suc, Bool, true, false, not, ◌&&◌, ◌||◌, if◌then◌else◌, List, [], ◌∷◌, ◌++◌, length, map, get_or, take, drop, replicate, codes, All, refl, sym, ap, ◌∙◌, subst, arith, ltb, inl, inr, ⊎_elim, append-nil}
use Rattle.std.proofs.Math.Dec.{leb}
use Rattle.std.specs.Prelude.{slice_index}
use Rattle.std.specs.List.{list_all, starts_with}
use Rattle.std.specs.Fmt.{decimal}
use Rattle.std.proofs.lemmas.Bool.{and_parts, and_from, or_cases, cases_Bool, cond_both, cond-true, cond-false, eqb-true, leb-true, ltb-true, not-true, not_from_false, both_ways}
use Rattle.std.proofs.lemmas.List.Elements.{All-nil, All-cons, All-append, All-map}
use Rattle.lp_form.specs.Templates.{Piece, steps_of, holes_of}
use Rattle.lp_form.specs.Templates as template
use Rattle.lp_form.specs.declared.part.Part.TheVariants as part
use Rattle.lp_form.specs.declared.template.Kind.{Kind}
use Rattle.lp_form.specs.declared.template.Slot.{Slot}
use Rattle.lp_form.specs.declared.template.Slot.TheVariants.{Nothing, Prefix, Hole}
use Rattle.lp_form.specs.declared.template.Step.{Step}
use Rattle.lp_form.specs.declared.template.Step.TheVariants as step
use Rattle.lp_write.specs.Lines.{Line, closes, lowered, raised, indent_after, indent_after_all}
use Rattle.lp_write.specs.Lines.Line.{line, verbatim}
use Rattle.lp_write.specs.declared.rust.Options.{Options}
use Rattle.lp_write.proofs.Writing.{indent-append}
use Rattle.lp_spelling.specs.LineReading.{kind_of}
use Rattle.lp_spelling.specs.Lines.{slot_text, line_of}
use Rattle.lp_spelling.proofs.Reading.{starts_ok}
use Rattle.lp_program.specs.OwnLines.{hole, spelled, note_lines, own_lines}
use Rattle.lp_program.specs.Printed.{takes, all_lines, step_lines, printed}
use Rattle.lp_program.specs.Reads.{parts_in, may_have}
use Rattle.lp_program.specs.TableRows.{commented, entry_line, entry_lines, row_lines, no_note, rows_from, table_lines}
use Rattle.lp_tree.specs.ProgramTree.{Note}
use Rattle.lp_program.specs.Trees.{Content, Forest, tree_count}
use Rattle.lp_program.specs.Trees.Forest.{bare, tree}
use Rattle.lp_reading_laws.specs.Printing.LineTexts.{IsSkipped, ends_open}
use Rattle.lp_reading_laws.specs.Printing.TemplateTests.{is_class, has_class, is_one}
use Rattle.lp_reading_laws.specs.Printing.LevelTests.{rises, falls, one_if, step_rises, takes_falling, only_rises, step_falls, line_closes, line_opens, is_steady_line, is_firm_kind, is_firm_slot, is_firm_text, is_firm_line, Level, own_fits, own_level, rising_fits, class_fits, class_level, step_fits, step_level, are_level}
use Rattle.lp_reading_laws.specs.Printing.Levels.{may_raise, never_stays}
use Rattle.lp_reading_laws.specs.Printing.WellFormed.{HolesFill, IsTrailing, IsNote, taken_in, is_shared, IsWellPart}
use Rattle.lp_reading_laws.proofs.Printing.Forests.{front, behind, count_split, parts_front, taken_belong, no_trees, length-parts, Every, every_front, every_behind}
use Rattle.lp_reading_laws.proofs.Printing.FirstBytes.{Firm, firm-append, blanks_firm, prefix_firm, kind_firm}
use Rattle.lp_reading_laws.proofs.Printing.LastBytes.{open_behind, open_some}
use Rattle.lp_reading_laws.proofs.Printing.Sound.{IsPrefix}
use Rattle.lp_reading_laws.proofs.Printing.Steps.{one_part, no_class_none}
use Rattle.lp_reading_laws.proofs.Printing.LevelParts.{templates_level, falling_taken, step_rising}
use Rattle.lp_reading_laws.proofs.Printing.Indents.{extra, extra_none, end_opens, code_after}
use Rattle.lp_reading_laws.proofs.Printing.Levelled.{implied, all_taken, if_so, falling_one}
use Rattle.lp_reading_laws.proofs.Printing.Whole.{tree_lines, plain_lines, plain_shared, class_lines, class_shared}

-- lines, and more lines
pub stays_split : (i : ℕ) (xs ys : List Line) → never_stays i (xs ++ ys) ≡ true → (never_stays i xs ≡ true) × (never_stays (indent_after_all i xs) ys ≡ true)
stays_split i [] ys h = (refl, h)
stays_split i (x ∷ xs) ys h =
    let q = and_parts (may_raise i x) (never_stays (indent_after i x) (xs ++ ys)) h in
    let r = stays_split (indent_after i x) xs ys q.1 in
    (and_from (may_raise i x) (never_stays (indent_after i x) xs) q.0 r.0, r.1)

-- one line
lowered_least : (i : ℕ) (t : List ℕ) → i - 4 ≤ lowered i t
lowered_least i t = cond_both (closes (slice_index t 0)) (i - 4) i (λ x. i - 4 ≤ x) (λ y. omega arith) (λ n. omega arith)

lowered_firm : (i : ℕ) (t : List ℕ) → Firm t → lowered i t ≡ i
lowered_firm i t h = cond-false (closes (slice_index t 0)) (i - 4) i h

raised_least : (i : ℕ) (t : List ℕ) → i ≤ raised i t
raised_least i t = cond_both (ends_open t && ltb (i + 4) (2 ^ 64)) (i + 4) i (λ x. i ≤ x) (λ y. omega arith) (λ n. omega arith)

raised_four : (i : ℕ) (t : List ℕ) → ends_open t ≡ true → ltb (i + 4) (2 ^ 64) ≡ true → raised i t ≡ i + 4
raised_four i t h k = cond-true (ends_open t && ltb (i + 4) (2 ^ 64)) (i + 4) i (and_from (ends_open t) (ltb (i + 4) (2 ^ 64)) h k)

after_least : (i : ℕ) (t : List ℕ) (closing opening : Bool) → (closing ≡ false → Firm t) → (opening ≡ true → ends_open t ≡ true) → may_raise i (line t) ≡ true →
    (i - one_if closing) + one_if opening ≤ indent_after i (line t)
after_least i t true true c o h = omega (arith, lowered_least i t, raised_four (lowered i t) t (o refl) (implied (ends_open t) (ltb (lowered i t + 4) (2 ^ 64)) h (o refl)))
after_least i t true false c o h = omega (arith, lowered_least i t, raised_least (lowered i t) t)
after_least i t false true c o h = omega (arith, lowered_firm i t (c refl), raised_four (lowered i t) t (o refl) (implied (ends_open t) (ltb (lowered i t + 4) (2 ^ 64)) h (o refl)))
after_least i t false false c o h = omega (arith, lowered_firm i t (c refl), raised_least (lowered i t) t)

firm_least : (i : ℕ) (t : List ℕ) → Firm t → i ≤ indent_after i (line t)
firm_least i t h = omega (arith, lowered_firm i t h, raised_least (lowered i t) t)

each_least : (n i : ℕ) (t : List ℕ) → i - 4 * n ≤ indent_after_all i (replicate n (line t))
each_least zero i t = omega arith
each_least (suc n) i t = omega (arith, each_least n (indent_after i (line t)) t, lowered_least i t, raised_least (lowered i t) t)

-- lines that lower nothing
abbrev FirmLine : Line → Type 0
FirmLine (line text) = Firm text
FirmLine (verbatim text) = Unit {0}

one_firm : (i : ℕ) (l : Line) → FirmLine l → i ≤ indent_after i l
one_firm i (line text) h = firm_least i text h
one_firm i (verbatim text) h = omega arith

lines_firm : (i : ℕ) (ls : List Line) → All FirmLine ls → i ≤ indent_after_all i ls
lines_firm i [] h = omega arith
lines_firm i (l ∷ ls) h = omega (arith, lines_firm (indent_after i l) ls (λ k d lt. h (suc k) d (omega arith)), one_firm i l (h 0 l (omega arith)))

skipped_firm : (t : List ℕ) → IsSkipped t → Firm t
skipped_firm [] h = refl
skipped_firm (b ∷ x) h =
    let comment : starts_with Rattle.std.proofs.Common.eqb (b ∷ x) (codes "//") ≡ true = ⊎_elim (λ e. absurd (omega (arith, eqb-true (length (b ∷ x)) 0 e))) (λ y. y) (or_cases (length (b ∷ x) == 0) (starts_with Rattle.std.proofs.Common.eqb (b ∷ x) (codes "//")) h.1) in
    subst Firm (sym (starts_ok (codes "//") (b ∷ x) comment)) refl

trailing_firm : (t : List ℕ) → IsTrailing t → Firm t
trailing_firm t h = subst Firm (sym h.is) (firm-append (replicate h.blanks 32) h.comment (blanks_firm h.blanks) (skipped_firm h.comment h.skipped))

some_firm : (ls : List (List ℕ)) → All IsTrailing ls → All FirmLine (map line ls)
some_firm ls h = All-map FirmLine line ls (λ k d lt. trailing_firm (get_or ls k d) (h k d lt))

notes_firm : (notes : List Note) → All IsNote notes → All FirmLine (note_lines notes)
notes_firm [] h = All-nil FirmLine
notes_firm (n ∷ notes) h =
    All-append FirmLine (map line n.lines) (note_lines notes) (some_firm n.lines (h 0 n (omega arith)).lines) (notes_firm notes (λ k d lt. h (suc k) d (omega arith)))

entries_firm : (options : Options) (es : List (ℤ × List ℕ)) → All FirmLine (entry_lines options es)
entries_firm options es =
    cond_both options.comments (map entry_line es ++ line [] ∷ []) _ (All FirmLine)
    (λ y. All-append FirmLine (map entry_line es) (line [] ∷ []) (All-map FirmLine entry_line es (λ k d lt. tt)) (All-cons FirmLine (line []) [] refl (All-nil FirmLine)))
    (λ n. All-cons FirmLine _ [] tt (All-nil FirmLine))

row_firm : (options : Options) (state : ℕ) (numbers : List ℤ) (note : Note) → All IsTrailing note.lines → All FirmLine (row_lines options state numbers note)
row_firm options state numbers note h =
    let es : List (ℤ × List ℕ) = commented numbers note.comments in
    let notes : List Line = if options.comments then map line note.lines else [] in
    All-cons FirmLine (line (codes "// State " ++ decimal state)) (notes ++ entry_lines options es) refl
    (All-append FirmLine notes (entry_lines options es)
    (cond_both options.comments (map line note.lines) [] (All FirmLine) (λ y. some_firm note.lines h) (λ n. All-nil FirmLine))
    (entries_firm options es))

rows_firm : (options : Options) (state before : ℕ) (left : List ℤ) (notes : List Note) → All IsNote notes → All FirmLine (rows_from options state before left notes)
unfolding rows_from
rows_firm options state before left [] h =
    cond_both ((length left == 0) && not (state == 0)) [] (row_lines options state left no_note) (All FirmLine)
    (λ y. All-nil FirmLine)
    (λ n. row_firm options state left no_note (λ k d lt. absurd (omega arith)))
rows_firm options state before left (n ∷ notes) h =
    let row : List ℤ = take (n.end - before) left in
    All-append FirmLine (row_lines options state row n) (rows_from options (state + 1) (before + length row) (drop (length row) left) notes)
    (row_firm options state row n (h 0 n (omega arith)).lines)
    (rows_firm options (state + 1) (before + length row) (drop (length row) left) notes (λ k d lt. h (suc k) d (omega arith)))

-- what a part's own lines need of its texts
record Firms (prefix : List ℕ) (c : Content) (kinds : List Kind) : Type 0 where
  prefix_is : IsPrefix prefix
  fills : HolesFill prefix kinds c.holes
  notes : All IsNote c.notes

slot_firm : (prefix : List ℕ) (kinds : List Kind) (holes : List (List ℕ)) (s : Slot) → IsPrefix prefix → HolesFill prefix kinds holes → is_firm_slot kinds s ≡ true → Firm (slot_text prefix holes s)
slot_firm prefix kinds holes Nothing p f h = refl
slot_firm prefix kinds holes Prefix p f h = prefix_firm prefix p
slot_firm prefix kinds holes (Hole k) p f h =
    let q = and_parts (ltb k (length kinds)) (is_firm_kind (kind_of kinds k)) h in
    kind_firm prefix (kind_of kinds k) (get_or holes k []) (f k (ltb-true k (length kinds) q.0)).0 q.1

text_firm : (t rest : List ℕ) (next : Bool) → is_firm_text t next ≡ true → (next ≡ true → Firm rest) → Firm (t ++ rest)
text_firm [] rest next h f = f h
text_firm (b ∷ t) rest next h f = not-true (closes b) h

line_firm : (prefix : List ℕ) (kinds : List Kind) (holes : List (List ℕ)) (pieces : List Piece) → IsPrefix prefix → HolesFill prefix kinds holes → is_firm_line kinds pieces ≡ true → Firm (line_of prefix holes pieces)
unfolding line_of
line_firm prefix kinds holes [] p f h = refl
line_firm prefix kinds holes (q ∷ ps) p f h =
    let slot : List ℕ = slot_text prefix holes q.1 in
    let rest : List ℕ = line_of prefix holes ps in
    subst Firm (sym (Rattle.std.proofs.Common.append_assoc q.0 slot rest))
    (text_firm q.0 (slot ++ rest) (is_firm_slot kinds q.1 && is_firm_line kinds ps) h
    (λ y. let a = and_parts (is_firm_slot kinds q.1) (is_firm_line kinds ps) y in firm-append slot rest (slot_firm prefix kinds holes q.1 p f a.0) (line_firm prefix kinds holes ps p f a.1)))

-- the indent at a level over its base, at least
abbrev Least : ℕ → ℕ → Level → ℕ → Type 0
Least total base l i = base + l.above + extra l.each total ≤ i

line_least : (prefix : List ℕ) (c : Content) (kinds : List Kind) (total base i b : ℕ) (l : Level) (pieces : List Piece) → Firms prefix c kinds → own_fits kinds l (step.Line b) pieces ≡ true → may_raise i (spelled prefix c b pieces) ≡ true →
    Least total base l i → Least total base (own_level l (step.Line b) pieces) (indent_after i (spelled prefix c b pieces))
line_least prefix c kinds total base i b l pieces t h m le =
    let blanks : List ℕ = replicate b 32 in
    let text : List ℕ = line_of prefix c.holes pieces in
    let closing : Bool = line_closes b pieces in
    let opening : Bool = line_opens pieces in
    let q = and_parts (opening || is_steady_line kinds pieces) (leb (one_if closing) l.above && (closing || is_firm_line kinds pieces)) h in
    let r = and_parts (leb (one_if closing) l.above) (closing || is_firm_line kinds pieces) q.1 in
    let room = leb-true (one_if closing) l.above r.0 in
    let after = after_least i (blanks ++ text) closing opening
    (λ n. firm-append blanks text (blanks_firm b) (line_firm prefix kinds c.holes pieces t.prefix_is t.fills (⊎_elim (λ y. absurd (both_ways closing n y)) (λ y. y) (or_cases closing (is_firm_line kinds pieces) r.1))))
    (λ y. let ends = end_opens prefix c.holes pieces y in open_behind blanks text (open_some text ends) ∙ ends) m in
    omega (arith, room, after, le)

own_least : (options : Options) (prefix : List ℕ) (c : Content) (kinds : List Kind) (total base i : ℕ) (l : Level) (s : Step) (pieces : List Piece) → Firms prefix c kinds → own_fits kinds l s pieces ≡ true →
    never_stays i (own_lines options prefix c total pieces s) ≡ true → Least total base l i → Least total base (own_level l s pieces) (indent_after_all i (own_lines options prefix c total pieces s))
own_least options prefix c kinds total base i l (step.Line b) pieces t h m le = line_least prefix c kinds total base i b l pieces t h (and_parts (may_raise i (spelled prefix c b pieces)) true m).0 le
own_least options prefix c kinds total base i l (step.Each b) pieces t h m le =
    let q = and_parts (is_steady_line kinds pieces) (l.each && line_closes b pieces) h in
    let all : extra l.each total ≡ 4 * total = ap (λ e. extra e total) (and_parts l.each (line_closes b pieces) q.1).0 in
    let after = each_least total i (replicate b 32 ++ line_of prefix c.holes pieces) in
    omega (arith, all, after, le)
own_least options prefix c kinds total base i l step.Use pieces t h m le = omega (arith, firm_least i (codes "use " ++ (hole c 0 ++ codes ";")) refl, le)
own_least options prefix c kinds total base i l step.Empty pieces t h m le = omega (arith, firm_least i [] refl, le)
own_least options prefix c kinds total base i l step.Note pieces t h m le =
    omega (arith, cond_both options.comments (note_lines c.notes) [] (λ x. i ≤ indent_after_all i x) (λ y. lines_firm i (note_lines c.notes) (notes_firm c.notes t.notes)) (λ n. omega arith), le)
own_least options prefix c kinds total base i l step.NoteAlways pieces t h m le = omega (arith, lines_firm i (note_lines c.notes) (notes_firm c.notes t.notes), le)
own_least options prefix c kinds total base i l step.Entries pieces t h m le = omega (arith, lines_firm i (table_lines options c.numbers c.notes) (rows_firm options 0 0 c.numbers c.notes t.notes), le)
own_least options prefix c kinds total base i l step.Code pieces t h m le = omega (arith, code_after i (hole c 0), le)
own_least options prefix c kinds total base i l (step.One class) pieces t h m le = le
own_least options prefix c kinds total base i l (step.Optional class) pieces t h m le = le
own_least options prefix c kinds total base i l (step.Many class) pieces t h m le = le
own_least options prefix c kinds total base i l (step.Some class) pieces t h m le = le
own_least options prefix c kinds total base i l (step.Pairs first second) pieces t h m le = le

-- a tree, and trees side by side
abbrev pub TreeLeast : Options → List ℕ → Content → Forest → Type 0
TreeLeast options prefix c below =
    (base i : ℕ) → base + one_if (falls c.part) ≤ i → never_stays i (tree_lines options prefix c below) ≡ true → base + one_if (rises c.part) ≤ indent_after_all i (tree_lines options prefix c below)

abbrev pub EachLeast : Options → List ℕ → Forest → Type 0
EachLeast options prefix f = Every (TreeLeast options prefix) f

more_risen : (r b : Bool) (n : ℕ) → (not r || b) ≡ true → extra r (1 + n) ≤ one_if b + extra r n
more_risen true true n h = omega arith
more_risen true false n h = absurd (both_ways false refl h)
more_risen false b n h = omega arith

forest_least : (options : Options) (prefix : List ℕ) (f : Forest) (r : Bool) (base i : ℕ) → EachLeast options prefix f → list_all (λ p. not (falls p)) (parts_in f) ≡ true → list_all (λ p. not r || rises p) (parts_in f) ≡ true → base ≤ i →
    never_stays i (all_lines (printed options prefix f)) ≡ true → base + extra r (tree_count f) ≤ indent_after_all i (all_lines (printed options prefix f))
unfolding printed
forest_least options prefix bare r base i e h k le m = let none : extra r 0 ≡ 0 = no_extra r in omega (arith, none, le)
  where
    no_extra : (b : Bool) → extra b 0 ≡ 0
    no_extra true = refl
    no_extra false = refl
forest_least options prefix (tree c below after) r base i e h k le m =
    let own : List Line = tree_lines options prefix c below in
    let others : List Line = all_lines (printed options prefix after) in
    let a = and_parts (not (falls c.part)) (list_all (λ p. not (falls p)) (parts_in after)) h in
    let b = and_parts (not r || rises c.part) (list_all (λ p. not r || rises p) (parts_in after)) k in
    let none : one_if (falls c.part) ≡ 0 = ap one_if (not-true (falls c.part) a.0) in
    let stays = stays_split i own others m in
    let first = e.0 base i (omega (arith, none, le)) stays.0 in
    let next = forest_least options prefix after r (base + one_if (rises c.part)) (indent_after_all i own) e.1 a.1 b.1 first stays.1 in
    let more = more_risen r (rises c.part) (tree_count after) b.0 in
    let behind_all = indent-append i own others in
    omega (arith, next, more, behind_all)

at_most_four : (b : Bool) → one_if b ≤ 4
at_most_four true = omega arith
at_most_four false = omega arith

alone_least : (options : Options) (prefix : List ℕ) (f : Forest) (base i : ℕ) → EachLeast options prefix f → tree_count f ≡ 1 → base + 4 ≤ i → never_stays i (all_lines (printed options prefix f)) ≡ true → base ≤ indent_after_all i (all_lines (printed options prefix f))
unfolding printed
alone_least options prefix bare base i e one le m = absurd (omega (arith, one))
alone_least options prefix (tree c below bare) base i e one le m =
    let own : List Line = tree_lines options prefix c below in
    let first = e.0 base i (omega (arith, at_most_four (falls c.part), le)) (stays_split i own [] m).0 in
    let lines_are : indent_after_all i (own ++ []) ≡ indent_after_all i own = ap (indent_after_all i) (append-nil own) in
    omega (arith, lines_are, first)
alone_least options prefix (tree c below (tree d under after)) base i e one le m = absurd (omega (arith, one))

-- the parts that a step takes
record TakenLeast (options : Options) (prefix : List ℕ) (total base i : ℕ) (l : Level) (s : Step) (others : List template.Line) (f : Forest) : Type 0 where
  each : EachLeast options prefix f
  may : may_have s (parts_in f) ≡ true
  belong : list_all (takes s) (parts_in f) ≡ true
  all : l.first ≡ true → has_class others ≡ false → tree_count f ≡ total
  stays : never_stays i (all_lines (printed options prefix f)) ≡ true
  least : Least total base l i

abbrev Leaves : Options → List ℕ → ℕ → ℕ → ℕ → Forest → Level → Type 0
Leaves options prefix total base i f l = Least total base l (indent_after_all i (all_lines (printed options prefix f)))

falling_least : (options : Options) (prefix : List ℕ) (total base i : ℕ) (l : Level) (s : Step) (others : List template.Line) (f : Forest) → TakenLeast options prefix total base i l s others f → step_falls s ≡ true → leb 4 l.above ≡ true →
    Leaves options prefix total base i f (record { above = l.above - 4; each = l.each; exact = false; first = false })
falling_least options prefix total base i l s others f t y h =
    let room = leb-true 4 l.above h in
    let one = one_part s (parts_in f) (falling_one s y) t.may in
    let size = length-parts f in
    let least = t.least in
    alone_least options prefix f (base + (l.above - 4) + extra l.each total) i t.each (omega (arith, one, size)) (omega (arith, room, least)) t.stays

taken_least : (options : Options) (prefix : List ℕ) (total base i : ℕ) (l : Level) (s : Step) (others : List template.Line) (f : Forest) → TakenLeast options prefix total base i l s others f → not (takes_falling s) ≡ true → (r : Bool) → (r ≡ true → only_rises s ≡ true) →
    base + l.above + extra l.each total + extra r (tree_count f) ≤ indent_after_all i (all_lines (printed options prefix f))
taken_least options prefix total base i l s others f t h r g =
    forest_least options prefix f r (base + l.above + extra l.each total) i t.each
    (all_taken (takes s) (λ q. not (falls q)) (λ q k. not_from_false (falls q) (Rattle.std.proofs.lemmas.Bool.false_from_ne_true (falls q) (λ y. both_ways (takes_falling s) (not-true (takes_falling s) h) (falling_taken s q y k)))) (parts_in f) t.belong)
    (all_taken (takes s) (λ q. not r || rises q) (λ q k. if_so r (rises q) (λ y. step_rising s q (g y) k)) (parts_in f) t.belong)
    t.least t.stays

rising_least : (options : Options) (prefix : List ℕ) (total base i : ℕ) (l : Level) (s : Step) (others : List template.Line) (f : Forest) → TakenLeast options prefix total base i l s others f → not (takes_falling s) ≡ true → rising_fits l s others ≡ true →
    Leaves options prefix total base i f (if is_one s then record { above = l.above + 4; each = l.each; exact = false; first = false } else record { above = l.above; each = true; exact = false; first = false })
rising_least options prefix total base i l s others f t h k =
    let q = and_parts (only_rises s) (is_one s || (not l.each && (l.first && not (has_class others)))) k in
    let last = taken_least options prefix total base i l s others f t h true (λ y. q.0) in
    elim (cases_Bool (is_one s)) [
      | inl one ↦
          let alone = one_part s (parts_in f) one t.may in
          let size = length-parts f in
          subst (Leaves options prefix total base i f) (sym (cond-true (is_one s) _ _ one)) (omega (arith, last, alone, size))
      | inr many ↦
          let a = and_parts (not l.each) (l.first && not (has_class others)) (⊎_elim (λ o. absurd (both_ways (is_one s) many o)) (λ n. n) (or_cases (is_one s) (not l.each && (l.first && not (has_class others))) q.1)) in
          let b = and_parts l.first (not (has_class others)) a.1 in
          let none = extra_none l.each total (not-true l.each a.0) in
          let all = t.all b.0 (not-true (has_class others) b.1) in
          subst (Leaves options prefix total base i f) (sym (cond-false (is_one s) _ _ many)) (omega (arith, last, none, all))
    ]

class_least : (options : Options) (prefix : List ℕ) (total base i : ℕ) (l : Level) (s : Step) (others : List template.Line) (f : Forest) → TakenLeast options prefix total base i l s others f →
    (if step_falls s then leb 4 l.above else not (takes_falling s)) ≡ true → (not (step_rises s) || rising_fits l s others) ≡ true → Leaves options prefix total base i f (class_level l s)
class_least options prefix total base i l s others f t h k = elim (cases_Bool (step_falls s)) [
  | inl y ↦
      subst (Leaves options prefix total base i f) (sym (cond-true (step_falls s) _ _ y))
      (falling_least options prefix total base i l s others f t y (sym (cond-true (step_falls s) (leb 4 l.above) (not (takes_falling s)) y) ∙ h))
  | inr n ↦
      let none : not (takes_falling s) ≡ true = sym (cond-false (step_falls s) (leb 4 l.above) (not (takes_falling s)) n) ∙ h in
      elim (cases_Bool (step_rises s)) [
        | inl y ↦
            subst (Leaves options prefix total base i f) (sym (cond-false (step_falls s) _ _ n ∙ cond-true (step_rises s) _ _ y))
            (rising_least options prefix total base i l s others f t none (implied (step_rises s) (rising_fits l s others) k y))
        | inr m ↦
            let last = taken_least options prefix total base i l s others f t none false (λ y. absurd (both_ways false refl y)) in
            subst (Leaves options prefix total base i f) (sym (cond-false (step_falls s) _ _ n ∙ cond-false (step_rises s) _ _ m)) (omega (arith, last))
      ]
]

-- the steps that are left of a part
own_first : (l : Level) (s : Step) (pieces : List Piece) → (own_level l s pieces).first ≡ l.first
own_first l (step.Line b) pieces = refl
own_first l (step.Each b) pieces = refl
own_first l _ pieces = refl

class_first : (l : Level) (s : Step) → (class_level l s).first ≡ false
class_first l s = cond_both (step_falls s) _ _ (λ (x : Level). x.first ≡ false) (λ y. refl) (λ n. cond_both (step_rises s) _ _ (λ (x : Level). x.first ≡ false) (λ y. cond_both (is_one s) _ _ (λ (x : Level). x.first ≡ false) (λ o. refl) (λ o. refl)) (λ y. refl))

steps_least : (options : Options) (prefix : List ℕ) (c : Content) (kinds : List Kind) (total base : ℕ) (ss : List template.Line) (f : Forest) (l : Level) (i : ℕ) → Firms prefix c kinds → are_level c.part kinds l ss ≡ true →
    is_shared ss (parts_in f) ≡ true → EachLeast options prefix f → (l.first ≡ true → tree_count f ≡ total) → never_stays i (step_lines options prefix c total ss (printed options prefix f)) ≡ true → Least total base l i →
    base + one_if (rises c.part) ≤ indent_after_all i (step_lines options prefix c total ss (printed options prefix f))
unfolding step_lines
steps_least options prefix c kinds total base [] f l i t h k e all m le =
    let q = and_parts (l.above == one_if (rises c.part)) (not l.each) h in
    let same = eqb-true l.above (one_if (rises c.part)) q.0 in
    omega (arith, same, le)
steps_least options prefix c kinds total base (s ∷ others) f l i t h k e all m le =
    let a = and_parts (step_fits c.part kinds l s.0 s.1 others) (are_level c.part kinds (step_level l s.0 s.1) others) h in
    elim (cases_Bool (is_class s.0)) [
      | inl y ↦
          let n : ℕ = taken_in s.0 (parts_in f) in
          let now : Forest = front n f in
          let later : Forest = behind n f in
          let shared = class_shared s others f k in
          let counted = count_split n f in
          let own = all_lines (printed options prefix now) in
          let rest = step_lines options prefix c total others (printed options prefix later) in
          let lines_are = class_lines options prefix c total s others f y in
          let stays = stays_split i own rest (ap (never_stays i) (sym lines_are) ∙ m) in
          let fits : class_fits c.part l s.0 others ≡ true = sym (cond-true (is_class s.0) (class_fits c.part l s.0 others) (own_fits kinds l s.0 s.1) y) ∙ a.0 in
          let b1 = and_parts (if step_falls s.0 then leb 4 l.above else not (takes_falling s.0)) _ fits in
          let b2 = and_parts (not (step_rises s.0) || rising_fits l s.0 others) _ b1.1 in
          let parts : TakenLeast options prefix total base i l s.0 others now = record {
            each = every_front (TreeLeast options prefix) n f e;
            may = shared.0;
            belong = ap (list_all (takes s.0)) (parts_front n f) ∙ taken_belong s.0 (parts_in f);
            all = λ first none.
                (let whole = all first in
                let empty : tree_count later ≡ 0 = ap tree_count (no_trees later (no_class_none others (parts_in later) none shared.1)) in
                omega (arith, counted, whole, empty));
            stays = stays.0;
            least = le;
          } in
          let level_is : step_level l s.0 s.1 ≡ class_level l s.0 = cond-true (is_class s.0) _ _ y in
          let not_first : (step_level l s.0 s.1).first ≡ false = ap (λ (x : Level). x.first) level_is ∙ class_first l s.0 in
          let j : ℕ = indent_after_all i own in
          let next = steps_least options prefix c kinds total base others later (step_level l s.0 s.1) j t a.1 shared.1 (every_behind (TreeLeast options prefix) n f e) (λ first. absurd (both_ways _ not_first first)) stays.1
          (subst (λ l'. Least total base l' j) (sym level_is) (class_least options prefix total base i l s.0 others now parts b1.0 b2.0)) in
          let whole = ap (indent_after_all i) lines_are ∙ indent-append i own rest in
          omega (arith, whole, next)
      | inr z ↦
          let shared = plain_shared s others (parts_in f) z k in
          let own = own_lines options prefix c total s.1 s.0 in
          let rest = step_lines options prefix c total others (printed options prefix f) in
          let lines_are = plain_lines options prefix c total s others f z in
          let stays = stays_split i own rest (ap (never_stays i) (sym lines_are) ∙ m) in
          let fits : own_fits kinds l s.0 s.1 ≡ true = sym (cond-false (is_class s.0) (class_fits c.part l s.0 others) (own_fits kinds l s.0 s.1) z) ∙ a.0 in
          let level_is : step_level l s.0 s.1 ≡ own_level l s.0 s.1 = cond-false (is_class s.0) _ _ z in
          let same_first : (step_level l s.0 s.1).first ≡ l.first = ap (λ (x : Level). x.first) level_is ∙ own_first l s.0 s.1 in
          let j : ℕ = indent_after_all i own in
          let next = steps_least options prefix c kinds total base others f (step_level l s.0 s.1) j t a.1 shared.1 e (λ first. all (sym same_first ∙ first)) stays.1
          (subst (λ l'. Least total base l' j) (sym level_is) (own_least options prefix c kinds total base i l s.0 s.1 t fits stays.0 le)) in
          let whole = ap (indent_after_all i) lines_are ∙ indent-append i own rest in
          omega (arith, whole, next)
    ]

-- a part with those below it
pub part_least : (options : Options) (prefix : List ℕ) (c : Content) (below : Forest) → IsPrefix prefix → IsWellPart prefix c (parts_in below) → EachLeast options prefix below → TreeLeast options prefix c below
part_least options prefix c below p w e base i le m =
    steps_least options prefix c (holes_of c.part) (tree_count below) base (steps_of c.part) below (record { above = one_if (falls c.part); each = false; exact = false; first = true }) i
    (record { prefix_is = p; fills = w.fills; notes = w.notes }) (templates_level c.part) w.shared e (λ first. refl) m (omega (arith, le))

-- a whole program
pub whole_least : (options : Options) (prefix : List ℕ) (c : Content) (below : Forest) (i : ℕ) → c.part ≡ part.Program → TreeLeast options prefix c below → never_stays i (all_lines (printed options prefix (tree c below bare))) ≡ true →
    i ≤ indent_after_all i (all_lines (printed options prefix (tree c below bare)))
unfolding printed
whole_least options prefix c below i p t m =
    let own : List Line = tree_lines options prefix c below in
    let none : one_if (falls c.part) ≡ 0 = ap (λ q. one_if (falls q)) p in
    let least = t i i (omega (arith, none)) (stays_split i own [] m).0 in
    let lines_are = ap (indent_after_all i) (append-nil own) in
    omega (arith, least, lines_are)
