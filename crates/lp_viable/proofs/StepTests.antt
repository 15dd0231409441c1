-- The steps of each part pass the tests, and what the tests say of the steps that are left.
use Rattle.std.proofs.Common.{◌≡◌, ℕ, ◌==◌, ◌<◌, ◌≤◌, Bool, true, false, not, ◌&&◌, ◌||◌, inl, inr, ⊎_elim, List, [], ◌∷◌, ◌++◌, length, replicate, refl, sym, ap, ◌∙◌, subst, arith, ltb, leb, append_assoc}
use Rattle.std.specs.Char.{is_whitespace}
use Rattle.std.specs.List.{list_all}
use Rattle.std.proofs.lemmas.Bool.{and_parts, and_from, or_cases, or_left, or_right, cases_lt, cond-false, eqb-true, ne_eqb, leb-true, not-true, not_from_false, both_ways}
use Rattle.lp_form.specs.Classes.{members_of}
use Rattle.lp_form.specs.Templates.{Piece, steps_of, holes_of}
use Rattle.lp_form.specs.Templates as template
use Rattle.lp_form.specs.declared.part.Part.{Part}
use Rattle.lp_form.specs.declared.part.Part.TheVariants as part
use Rattle.lp_form.specs.declared.template.Kind.{Kind}
use Rattle.lp_form.specs.declared.template.Kind.TheVariants as kind
use Rattle.lp_form.specs.declared.template.Slot.{Slot}
use Rattle.lp_form.specs.declared.template.Slot.TheVariants.{Nothing, Prefix, Hole}
use Rattle.lp_form.specs.declared.template.Step.{Step}
use Rattle.lp_form.specs.declared.template.Step.TheVariants as step
use Rattle.lp_spelling.specs.LineReading.{kind_of}
use Rattle.lp_spelling.specs.Lines.{line_of}
use Rattle.lp_write.specs.Lines.{lowered, indented, lines_bytes}
use Rattle.lp_write.specs.Lines.Line.{line}
use Rattle.lp_program.specs.Printed.{takes, step_lines}
use Rattle.lp_program.specs.Reads.{hole_count, may_have}
use Rattle.lp_program.specs.Trees.{Content}
use Rattle.lp_reading_laws.specs.Printing.LineTests.{is_good, begins_so, next_so, kind_front, slot_front, text_front, is_plain_line, is_front, is_sound_line}
use Rattle.lp_reading_laws.specs.Printing.TemplateTests.{has_code, has_class, is_class, is_one, is_step_brace, closes_next, exact_after, is_sound_class, is_sound_step}
use Rattle.lp_reading_laws.proofs.Printing.Sound.{Next, line_next}
use Rattle.lp_reading_laws.proofs.Printing.Steps.{Closing, closing_line}
use Rattle.lp_viable.specs.Least.{first_member, first_needed, plain, own_text, texts_over, steps_text, is_fit_step, are_fit}
use Rattle.lp_viable.specs.StepTests.{told_kind, told_kinds, is_plain_part, is_table, known_past, tabled_past, is_flush_step, is_flush, may_come, is_certain, is_going}
use Rattle.lp_viable.proofs.Contents.{length_told, kind_told, kind_left}
use Rattle.lp_viable.proofs.Parts.{first_plain}

-- the steps of every part but user code pass
pub steps_go : (p : Part) → has_code (steps_of p) ≡ false → is_going p 0 false false (steps_of p) ≡ true
unfolding is_going steps_of holes_of members_of
steps_go part.UserBody h = absurd (both_ways true h refl)
steps_go _ h = refl

-- what is tested of the first of the steps that are left
pub record Passed (p : Part) (n : ℕ) (tabled exact : Bool) (s : template.Line) (others : List template.Line) : Type 0 where
  pub small : n ≤ hole_count p
  pub grows : n ≤ known_past n s.0 s.1
  pub fit : is_fit_step exact (told_kinds n (holes_of p)) s.0 others s ≡ true
  pub sound : is_sound_class exact s.0 others ≡ true
  pub come : list_all (λ l. may_come p n tabled l.0) (s ∷ others) ≡ true
  pub certain : is_certain n s.0 s.1 others ≡ true
  pub later : is_going p (known_past n s.0 s.1) (tabled_past tabled s.0) (exact_after s.0) others ≡ true

-- what the test of steps says of the first of them
pub passed : (p : Part) (n : ℕ) (tabled exact : Bool) (s : template.Line) (others : List template.Line) → is_going p n tabled exact (s ∷ others) ≡ true → Passed p n tabled exact s others
unfolding is_going
passed p n tabled exact s others h =
    let a = and_parts (leb n (hole_count p)) _ h in
    let b = and_parts (leb n (known_past n s.0 s.1)) _ a.1 in
    let c = and_parts (is_fit_step exact (told_kinds n (holes_of p)) s.0 others s) _ b.1 in
    let d = and_parts (is_sound_class exact s.0 others) _ c.1 in
    let e = and_parts (list_all (λ l. may_come p n tabled l.0) (s ∷ others)) _ d.1 in
    let f = and_parts (is_certain n s.0 s.1 others) _ e.1 in
    record {
      small = leb-true n (hole_count p) a.0;
      grows = leb-true n (known_past n s.0 s.1) b.0;
      fit = c.0;
      sound = d.0;
      come = e.0;
      certain = f.0;
      later = f.1;
    }

-- no more holes are told than the part has
pub going_small : (p : Part) (n : ℕ) (tabled exact : Bool) (ss : List template.Line) → is_going p n tabled exact ss ≡ true → n ≤ hole_count p
unfolding is_going
going_small p n tabled exact [] h = leb-true n (hole_count p) h
going_small p n tabled exact (s ∷ others) h = leb-true n (hole_count p) (and_parts (leb n (hole_count p)) _ h).0

-- each of the steps may come
pub going_come : (p : Part) (n : ℕ) (tabled exact : Bool) (ss : List template.Line) → is_going p n tabled exact ss ≡ true → list_all (λ l. may_come p n tabled l.0) ss ≡ true
going_come p n tabled exact [] h = refl
going_come p n tabled exact (s ∷ others) h = (passed p n tabled exact s others h).come

-- with fewer holes told a line is as sound
begins_firm : (t : List ℕ) → begins_so is_good t ≡ true → begins_so (λ b. not (b == 47)) t ≡ true
begins_firm [] h = h
begins_firm (b ∷ t) h = (and_parts (not (is_whitespace b)) (not (b == 47)) (and_parts (ltb b 128) _ h).1).1

next_firm : (ps : List Piece) → next_so is_good ps ≡ true → next_so (λ b. not (b == 47)) ps ≡ true
next_firm [] h = h
next_firm (p ∷ ps) h = begins_firm p.0 h

front_untold : (k : Kind) (ps : List Piece) → kind_front (told_kind k) ps ≡ true → kind_front k ps ≡ true
front_untold kind.Pattern ps h = next_firm ps h
front_untold kind.Patterns ps h = next_firm ps h
front_untold _ ps h = h

slot_fewer : (m n : ℕ) (kinds : List Kind) (s : Slot) (ps : List Piece) → m ≤ n → slot_front (told_kinds n kinds) s ps ≡ true → slot_front (told_kinds m kinds) s ps ≡ true
slot_fewer m n kinds Nothing ps le h = h
slot_fewer m n kinds Prefix ps le h = h
slot_fewer m n kinds (Hole k) ps le h = elim (cases_lt k m) [
  | inl small ↦ ap (λ (q : Kind). kind_front q ps) (kind_told m kinds k small ∙ sym (kind_told n kinds k (omega arith))) ∙ h
  | inr large ↦
      let here : kind_front (kind_of (told_kinds m kinds) k) ps ≡ kind_front (kind_of kinds k) ps = ap (λ (q : Kind). kind_front q ps) (kind_left m kinds k large) in
      elim (cases_lt k n) [
        | inl told ↦ here ∙ front_untold (kind_of kinds k) ps (sym (ap (λ (q : Kind). kind_front q ps) (kind_told n kinds k told)) ∙ h)
        | inr left ↦ here ∙ (sym (ap (λ (q : Kind). kind_front q ps) (kind_left n kinds k left)) ∙ h)
      ]
]

text_fewer : (t : List ℕ) (a b : Bool) → (a ≡ true → b ≡ true) → text_front t a ≡ true → text_front t b ≡ true
text_fewer [] a b f h = f h
text_fewer (c ∷ t) a b f h = h

front_fewer : (m n : ℕ) (kinds : List Kind) (pieces : List Piece) → m ≤ n → is_front (told_kinds n kinds) pieces ≡ true → is_front (told_kinds m kinds) pieces ≡ true
front_fewer m n kinds [] le h = h
front_fewer m n kinds (p ∷ ps) le h = text_fewer p.0 (slot_front (told_kinds n kinds) p.1 ps) (slot_front (told_kinds m kinds) p.1 ps) (λ y. slot_fewer m n kinds p.1 ps le y) h

line_fewer : (m n : ℕ) (kinds : List Kind) (pieces : List Piece) → m ≤ n → is_sound_line (told_kinds n kinds) pieces ≡ true → is_sound_line (told_kinds m kinds) pieces ≡ true
line_fewer m n kinds pieces le h =
    let q = and_parts (is_plain_line (length (told_kinds n kinds)) pieces) (is_front (told_kinds n kinds) pieces) h in
    and_from (is_plain_line (length (told_kinds m kinds)) pieces) (is_front (told_kinds m kinds) pieces)
    (ap (λ i. is_plain_line i pieces) (length_told m kinds ∙ sym (length_told n kinds)) ∙ q.0) (front_fewer m n kinds pieces le q.1)

sound_fewer : (m n : ℕ) (kinds : List Kind) (exact : Bool) (s : Step) (pieces : List Piece) (others : List template.Line) → m ≤ n → is_sound_step exact (told_kinds n kinds) s pieces others ≡ true →
    is_sound_step exact (told_kinds m kinds) s pieces others ≡ true
sound_fewer m n kinds exact (step.Line blanks) pieces others le h = line_fewer m n kinds pieces le h
sound_fewer m n kinds exact (step.Each blanks) pieces others le h =
    let q = and_parts (is_sound_line (told_kinds n kinds) pieces) (not (has_class others)) h in
    and_from (is_sound_line (told_kinds m kinds) pieces) (not (has_class others)) (line_fewer m n kinds pieces le q.0) q.1
sound_fewer m n kinds exact _ pieces others le h = h

fit_fewer : (m n : ℕ) (kinds : List Kind) (exact : Bool) (s : Step) (others : List template.Line) (l : template.Line) → m ≤ n → is_fit_step exact (told_kinds n kinds) s others l ≡ true →
    is_fit_step exact (told_kinds m kinds) s others l ≡ true
fit_fewer m n kinds exact s others l le h =
    let q = and_parts (may_have s (first_needed s)) (is_class s || is_sound_step exact (told_kinds n kinds) s l.1 others) h in
    and_from (may_have s (first_needed s)) (is_class s || is_sound_step exact (told_kinds m kinds) s l.1 others) q.0
    (⊎_elim (λ y. or_left (is_class s) (is_sound_step exact (told_kinds m kinds) s l.1 others) y)
    (λ y. or_right (is_class s) (is_sound_step exact (told_kinds m kinds) s l.1 others) (sound_fewer m n kinds exact s l.1 others le y))
    (or_cases (is_class s) (is_sound_step exact (told_kinds n kinds) s l.1 others) q.1))

-- the parts that a step needs are no user code
pub first_fits : (s : Step) → list_all is_plain_part (first_needed s) ≡ true
first_fits (step.One class) = and_from (is_plain_part (first_member class)) true (not_from_false (has_code (steps_of (first_member class))) (first_plain class)) refl
first_fits (step.Some class) = and_from (is_plain_part (first_member class)) true (not_from_false (has_code (steps_of (first_member class))) (first_plain class)) refl
first_fits _ = refl

-- the steps that are left are fit to be read as they are printed, where so many holes are told or fewer
pub going_fit : (p : Part) (n : ℕ) (tabled exact : Bool) (ss : List template.Line) → is_going p n tabled exact ss ≡ true → (m : ℕ) → m ≤ n → are_fit is_plain_part exact (told_kinds m (holes_of p)) ss ≡ true
going_fit p n tabled exact [] h m le = refl
going_fit p n tabled exact (s ∷ others) h m le =
    let g : Passed p n tabled exact s others = passed p n tabled exact s others h in
    let more : n ≤ known_past n s.0 s.1 = g.grows in
    let kinds : List Kind = told_kinds m (holes_of p) in
    and_from (is_fit_step exact kinds s.0 others s) (list_all is_plain_part (first_needed s.0) && are_fit is_plain_part (exact_after s.0) kinds others)
    (fit_fewer m n (holes_of p) exact s.0 others s le g.fit)
    (and_from (list_all is_plain_part (first_needed s.0)) (are_fit is_plain_part (exact_after s.0) kinds others) (first_fits s.0)
    (going_fit p (known_past n s.0 s.1) (tabled_past tabled s.0) (exact_after s.0) others g.later m (omega (arith, more, le))))

loose_step : (exact : Bool) (kinds : List Kind) (s : Step) (others : List template.Line) (l : template.Line) → is_table s ≡ false → is_fit_step exact kinds s others l ≡ true → is_fit_step false kinds s others l ≡ true
loose_step exact kinds step.Entries others l n h = absurd (both_ways true n refl)
loose_step exact kinds _ others l n h = h

-- where no table is next, the text in front needs not be as it was printed
pub fit_loose : (exact : Bool) (kinds : List Kind) (s : template.Line) (others : List template.Line) → is_table s.0 ≡ false → are_fit is_plain_part exact kinds (s ∷ others) ≡ true → are_fit is_plain_part false kinds (s ∷ others) ≡ true
fit_loose exact kinds s others n h =
    let later : Bool = list_all is_plain_part (first_needed s.0) && are_fit is_plain_part (exact_after s.0) kinds others in
    let q = and_parts (is_fit_step exact kinds s.0 others s) later h in
    and_from (is_fit_step false kinds s.0 others s) later (loose_step exact kinds s.0 others s n q.0) q.1

-- a step that takes user code takes one part, and `}` is the next line
pub code_closes : (exact : Bool) (s : Step) (others : List template.Line) → is_sound_class exact s others ≡ true → takes s part.UserBody ≡ true → (is_one s ≡ true) × (closes_next others ≡ true)
code_closes exact s others h y =
    ⊎_elim (λ none. absurd (both_ways (takes s part.UserBody) (not-true (takes s part.UserBody) none) y))
    (λ one.
    (let q = and_parts (is_one s) (exact && closes_next others) one in
    (q.0, (and_parts exact (closes_next others) q.1).1)))
    (or_cases (not (takes s part.UserBody)) (is_one s && (exact && closes_next others)) h)

brace_text : (prefix : List ℕ) (c : Content) (total : ℕ) (s : Step) (pieces : List Piece) (tail : List ℕ) → is_step_brace s pieces ≡ true → Closing (own_text prefix c total (s, pieces) ++ tail)
unfolding step_lines
brace_text prefix c total (step.Line blanks) pieces tail h = closing_line plain prefix c total 0 ((step.Line blanks, pieces) ∷ []) [] tail h refl
brace_text prefix c total _ pieces tail h = absurd (both_ways false refl h)

-- where `}` is the next line, the least text begins with it
pub brace_behind : (text : Part → List ℕ) (prefix : List ℕ) (c : Content) (total : ℕ) (ss : List template.Line) (tail : List ℕ) → closes_next ss ≡ true → Closing (steps_text text prefix c total ss ++ tail)
brace_behind text prefix c total [] tail h = absurd (both_ways false refl h)
brace_behind text prefix c total (s ∷ others) tail h =
    let rest : List ℕ = texts_over text (first_needed s.0) ++ steps_text text prefix c total others in
    subst Closing (sym (append_assoc (own_text prefix c total s) rest tail)) (brace_text prefix c total s.0 s.1 (rest ++ tail) h)

-- the text behind a table begins with `]`
abbrev pub Bracketed : List ℕ → Type 0
Bracketed text = (rest : List ℕ) × (text ≡ 93 ∷ rest)

line_printed : (y : List ℕ) → 0 < length y → lines_bytes false 0 (line y ∷ []) ≡ (y ++ 10 ∷ []) ++ []
line_printed y some = ap (λ (x : List ℕ). x ++ []) (cond-false (length y == 0) (10 ∷ []) (indented false (lowered 0 y) y) (ne_eqb (length y) 0 (λ e. omega (arith, e, some))))

flush_text : (prefix : List ℕ) (c : Content) (total : ℕ) (s : Step) (pieces : List Piece) (tail : List ℕ) → is_flush_step s pieces ≡ true → Bracketed (own_text prefix c total (s, pieces) ++ tail)
flush_text prefix c total (step.Line blanks) pieces tail h =
    let q = and_parts (blanks == 0) (next_so (λ b. b == 93) pieces) h in
    let n : Next (λ b. b == 93) (line_of prefix c.holes pieces) = line_next (λ b. b == 93) prefix c.holes pieces q.1 in
    let x : line_of prefix c.holes pieces ≡ 93 ∷ n.behind = n.is ∙ ap (λ (y : ℕ). y ∷ n.behind) (eqb-true n.byte 93 n.so) in
    let own : own_text prefix c total (step.Line blanks, pieces) ≡ lines_bytes false 0 (line (93 ∷ n.behind) ∷ []) =
    ap (λ (i : ℕ). lines_bytes false 0 (line (replicate i 32 ++ line_of prefix c.holes pieces) ∷ [])) (eqb-true blanks 0 q.0) ∙ ap (λ (y : List ℕ). lines_bytes false 0 (line y ∷ [])) x in
    (((n.behind ++ 10 ∷ []) ++ []) ++ tail, ap (λ (y : List ℕ). y ++ tail) (own ∙ line_printed (93 ∷ n.behind) (omega arith)))
flush_text prefix c total _ pieces tail h = absurd (both_ways false refl h)

-- where `]` is next, the least text begins with it
pub flush_behind : (text : Part → List ℕ) (prefix : List ℕ) (c : Content) (total : ℕ) (ss : List template.Line) (tail : List ℕ) → is_flush ss ≡ true → Bracketed (steps_text text prefix c total ss ++ tail)
flush_behind text prefix c total [] tail h = absurd (both_ways false refl h)
flush_behind text prefix c total (s ∷ others) tail h =
    let rest : List ℕ = texts_over text (first_needed s.0) ++ steps_text text prefix c total others in
    subst Bracketed (sym (append_assoc (own_text prefix c total s) rest tail)) (flush_text prefix c total s.0 s.1 (rest ++ tail) h)
