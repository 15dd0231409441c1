-- Steps by their kind, and what stands behind them.
use Rattle.std.proofs.Common.{◌≡◌, ℕ, ◌+◌, ◌==◌, Bool, true, false, List, [], ◌∷◌, ◌++◌, length, take, drop, replicate, codes, refl, sym, ap, ◌∙◌, subst, ⊎_elim, append_assoc}
use Rattle.std.specs.List.{list_all, list_any}
use Rattle.std.specs.Str.{bytes_eq}
use Rattle.std.proofs.lemmas.Bool.{and_parts, or_cases, or_parts, eqb-true, both_ways}
use Rattle.std.proofs.lemmas.Slice.Eq.{bytes_eq-Decides}
use Rattle.lp_form.specs.Templates.{Piece, steps_of}
use Rattle.lp_form.specs.Templates as template
use Rattle.lp_form.specs.declared.part.Part.{Part}
use Rattle.lp_form.specs.declared.part.Part.TheVariants as part
use Rattle.lp_form.specs.declared.template.Kind.{Kind}
use Rattle.lp_form.specs.declared.template.Slot.{Slot}
use Rattle.lp_form.specs.declared.template.Slot.TheVariants.{Nothing, Prefix, Hole}
use Rattle.lp_form.specs.declared.template.Step.{Step}
use Rattle.lp_form.specs.declared.template.Step.TheVariants as step
use Rattle.lp_write.specs.Lines.{Line, blanks, lowered, lines_bytes, indent_after}
use Rattle.lp_write.specs.Lines.Line.{line}
use Rattle.lp_write.specs.declared.rust.Options.{Options}
use Rattle.lp_spelling.specs.Lines.{slot_text, line_of}
use Rattle.lp_program.specs.OwnLines.{own_lines, spelled}
use Rattle.lp_program.specs.Printed.{takes, taken, Printed, all_lines, step_lines}
use Rattle.lp_program.specs.Reads.{TakesOwn, may_have}
use Rattle.lp_program.specs.Trees.{Content}
use Rattle.lp_reading_laws.specs.Printing.LineTexts.{Counts}
use Rattle.lp_reading_laws.specs.Printing.TemplateTests.{has_code, is_class, has_class, is_one, is_nothing, is_brace, is_step_brace, closes_next, is_step_bracket, ends_next, exact_after, is_sound_class, is_sound_step, are_sound}
use Rattle.lp_reading_laws.specs.Printing.WellFormed.{taken_in, is_shared}
use Rattle.lp_reading_laws.proofs.Printing.Lining.{laid}
use Rattle.lp_reading_laws.proofs.Printing.Sound.{line_next}
use Rattle.lp_reading_laws.proofs.Printing.Bytes.{any_laid, laid_blanks, bytes-first}
use Rattle.lp_reading_laws.proofs.Printing.Templates.{code_part}
use Rattle.lp_reading_laws.proofs.Printing.Forests.{none_taken}
use Rattle.lp_reading_laws.proofs.Printing.Own.{EndsTable, Texts, line_counts}

pub not_taken : (s : Step) → is_class s ≡ false → (p : Part) → takes s p ≡ false
not_taken (step.One class) h p = absurd (both_ways true h refl)
not_taken (step.Optional class) h p = absurd (both_ways true h refl)
not_taken (step.Many class) h p = absurd (both_ways true h refl)
not_taken (step.Some class) h p = absurd (both_ways true h refl)
not_taken (step.Pairs first second) h p = absurd (both_ways true h refl)
not_taken _ h p = refl

-- a step of a class has no line of its own
pub class_own : (options : Options) (prefix : List ℕ) (c : Content) (total : ℕ) (pieces : List Piece) (s : Step) → is_class s ≡ true → own_lines options prefix c total pieces s ≡ []
class_own options prefix c total pieces (step.One class) h = refl
class_own options prefix c total pieces (step.Optional class) h = refl
class_own options prefix c total pieces (step.Many class) h = refl
class_own options prefix c total pieces (step.Some class) h = refl
class_own options prefix c total pieces (step.Pairs first second) h = refl
class_own options prefix c total pieces _ h = absurd (both_ways false refl h)

pub class_takes : (prefix : List ℕ) (c : Content) (done : ℕ) (pieces : List Piece) (s : Step) (text : List ℕ) → is_class s ≡ true → TakesOwn prefix c done pieces s text text
class_takes prefix c done pieces (step.One class) text h = refl
class_takes prefix c done pieces (step.Optional class) text h = refl
class_takes prefix c done pieces (step.Many class) text h = refl
class_takes prefix c done pieces (step.Some class) text h = refl
class_takes prefix c done pieces (step.Pairs first second) text h = refl
class_takes prefix c done pieces _ text h = absurd (both_ways false refl h)

pub class_after : (s : Step) → is_class s ≡ true → exact_after s ≡ false
class_after (step.Line blanks) h = absurd (both_ways false refl h)
class_after _ h = refl

pub class_sound : (exact : Bool) (kinds : List Kind) (s : Step) (pieces : List Piece) (others : List template.Line) → is_class s ≡ true → is_sound_step exact kinds s pieces others ≡ true →
    is_sound_class exact s others ≡ true
class_sound exact kinds (step.One class) pieces others h k = k
class_sound exact kinds (step.Optional class) pieces others h k = k
class_sound exact kinds (step.Many class) pieces others h k = k
class_sound exact kinds (step.Some class) pieces others h k = k
class_sound exact kinds (step.Pairs first second) pieces others h k = k
class_sound exact kinds _ pieces others h k = absurd (both_ways false refl h)

pub one_part : (s : Step) (parts : List Part) → is_one s ≡ true → may_have s parts ≡ true → length parts ≡ 1
one_part (step.One class) parts h m = eqb-true (length parts) 1 (and_parts (length parts == 1) _ m).0
one_part _ parts h m = absurd (both_ways false refl h)

-- user code among parts that belong to a step
abbrev pub any_code : List Part → Bool
any_code parts = list_any (λ p. has_code (steps_of p)) parts

pub code_belongs : (q : Part → Bool) (parts : List Part) → list_all q parts ≡ true → any_code parts ≡ true → q part.UserBody ≡ true
code_belongs q [] h a = absurd (both_ways false refl a)
code_belongs q (p ∷ parts) h a =
    let b = and_parts (q p) (list_all q parts) h in
    ⊎_elim (λ c. sym (ap q (code_part p c)) ∙ b.0) (λ r. code_belongs q parts b.1 r) (or_cases (has_code (steps_of p)) (any_code parts) a)

-- no part is left where no step of a class is
pub no_class_none : (steps : List template.Line) (parts : List Part) → has_class steps ≡ false → is_shared steps parts ≡ true → (length parts == 0) ≡ true
no_class_none [] parts h s = s
no_class_none (s ∷ steps) parts h k =
    let b = or_parts (is_class s.0) (has_class steps) h in
    let none : taken_in s.0 parts ≡ 0 = none_taken s.0 parts (not_taken s.0 b.0) in
    let q = and_parts (may_have s.0 (take (taken_in s.0 parts) parts)) (is_shared steps (drop (taken_in s.0 parts) parts)) k in
    no_class_none steps parts b.1 (ap (λ n. is_shared steps (drop n parts)) (sym none) ∙ q.1)

-- `}` alone on the next line, without blanks
pub record Closing (text : List ℕ) : Type 0 where
  pub more : List ℕ
  pub is : text ≡ 125 ∷ 10 ∷ more

pub nothing_slot : (prefix : List ℕ) (holes : List (List ℕ)) (s : Slot) → is_nothing s ≡ true → slot_text prefix holes s ≡ []
nothing_slot prefix holes Nothing h = refl
nothing_slot prefix holes Prefix h = absurd (both_ways false refl h)
nothing_slot prefix holes (Hole k) h = absurd (both_ways false refl h)

brace_text : (prefix : List ℕ) (holes : List (List ℕ)) (pieces : List Piece) → is_brace pieces ≡ true → line_of prefix holes pieces ≡ codes "}"
unfolding line_of
brace_text prefix holes [] h = absurd (both_ways false refl h)
brace_text prefix holes (p ∷ []) h =
    let q = and_parts (is_nothing p.1) (bytes_eq p.0 (codes "}")) h in
    ap (λ x. (p.0 ++ x) ++ []) (nothing_slot prefix holes p.1 q.0) ∙ ap (λ x. (x ++ []) ++ []) ((bytes_eq-Decides p.0 (codes "}")).0 q.1)
brace_text prefix holes (p ∷ r ∷ ps) h = absurd (both_ways false refl h)

brace_own : (options : Options) (prefix : List ℕ) (c : Content) (total : ℕ) (pieces : List Piece) (s : Step) → is_step_brace s pieces ≡ true → own_lines options prefix c total pieces s ≡ line (codes "}") ∷ []
brace_own options prefix c total pieces (step.Line b) h =
    let q = and_parts (b == 0) (is_brace pieces) h in
    ap (λ n. line (replicate n 32 ++ line_of prefix c.holes pieces) ∷ []) (eqb-true b 0 q.0) ∙ ap (λ x. line x ∷ []) (brace_text prefix c.holes pieces q.1)
brace_own options prefix c total pieces _ h = absurd (both_ways false refl h)

pub closing_line : (options : Options) (prefix : List ℕ) (c : Content) (total i : ℕ) (others : List template.Line) (below : List Printed) (tail : List ℕ) → closes_next others ≡ true →
    blanks options.whitespace (lowered i (codes "}")) ≡ [] → Closing (lines_bytes options.whitespace i (step_lines options prefix c total others below) ++ tail)
unfolding step_lines
closing_line options prefix c total i [] below tail h off = absurd (both_ways false refl h)
closing_line options prefix c total i (s ∷ others) below tail h off =
    let k : ℕ = taken s.0 below in
    let own = brace_own options prefix c total s.1 s.0 h in
    let rest : List Line = all_lines (take k below) ++ step_lines options prefix c total others (drop k below) in
    let behind : List ℕ = lines_bytes options.whitespace (indent_after i (line (codes "}"))) rest ++ tail in
    record {
      more = behind;
      is = ap (λ x. lines_bytes options.whitespace i ((x ++ all_lines (take k below)) ++ step_lines options prefix c total others (drop k below)) ++ tail) own
          ∙ bytes-first options.whitespace i (line (codes "}")) rest tail
          ∙ ap (λ b. ((b ++ codes "}") ++ 10 ∷ []) ++ behind) off;
    }

-- the line behind a table
bracket_line : (options : Options) (prefix : List ℕ) (c : Content) (kinds : List Kind) (total i : ℕ) (exact : Bool) (s : Step) (pieces : List Piece) (more : List template.Line) (rest : List Line) (tail : List ℕ) → Texts prefix c kinds →
    is_sound_step exact kinds s pieces more ≡ true → is_step_bracket s pieces ≡ true → EndsTable (lines_bytes options.whitespace i (own_lines options prefix c total pieces s ++ rest) ++ tail)
bracket_line options prefix c kinds total i exact (step.Line b) pieces more rest tail t h k =
    let l : Line = spelled prefix c b pieces in
    let behind : List ℕ = lines_bytes options.whitespace (indent_after i l) rest ++ tail in
    let at = any_laid options.whitespace i l behind in
    let n = line_next (λ x. x == 93) prefix c.holes pieces k in
    let x : line_of prefix c.holes pieces ≡ 93 ∷ n.behind = n.is ∙ ap (λ y. y ∷ n.behind) (eqb-true n.byte 93 n.so) in
    record {
      blanks = at.count + b;
      others = n.behind;
      rest = behind;
      counts = subst Counts x (line_counts prefix c kinds pieces t h);
      is = bytes-first options.whitespace i l rest tail ∙ at.is ∙ laid_blanks at.count b (line_of prefix c.holes pieces) behind ∙ ap (λ y. laid (at.count + b) y behind) x;
    }
bracket_line options prefix c kinds total i exact _ pieces more rest tail t h k = absurd (both_ways false refl k)

pub ends_table : (options : Options) (prefix : List ℕ) (c : Content) (kinds : List Kind) (total i : ℕ) (exact : Bool) (others : List template.Line) (below : List Printed) (tail : List ℕ) → Texts prefix c kinds →
    are_sound exact kinds others ≡ true → ends_next others ≡ true → EndsTable (lines_bytes options.whitespace i (step_lines options prefix c total others below) ++ tail)
unfolding step_lines
ends_table options prefix c kinds total i exact [] below tail t h k = absurd (both_ways false refl k)
ends_table options prefix c kinds total i exact (s ∷ others) below tail t h k =
    let n : ℕ = taken s.0 below in
    let own : List Line = own_lines options prefix c total s.1 s.0 in
    let rest : List Line = all_lines (take n below) ++ step_lines options prefix c total others (drop n below) in
    subst (λ x. EndsTable (lines_bytes options.whitespace i x ++ tail)) (sym (append_assoc own (all_lines (take n below)) (step_lines options prefix c total others (drop n below))))
    (bracket_line options prefix c kinds total i exact s.0 s.1 others rest tail t (and_parts (is_sound_step exact kinds s.0 s.1 others) _ h).0 k)
