-- Bodies of actions that suit do so in the printed text, and are told there.
use Rattle.std.proofs.Common.{◌≡◌, ℕ, ◌+◌, zero, suc, Bool, true, false, if◌then◌else◌, List, [], ◌∷◌, ◌++◌, map, get_or, drop, replicate, codes, inl, inr, refl, sym, ◌∙◌, ap, subst, arith}
use Rattle.std.specs.Char.{encode_utf8}
use Rattle.std.specs.Str.{IsUtf8, bytes_eq, trim_start}
use Rattle.std.proofs.lemmas.Bool.{both_ways, cases_Bool, cond-true, cond-false}
use Rattle.std.proofs.lemmas.List.{map-append}
use Rattle.std.proofs.lemmas.Str.{IsUtf8-append, IsUtf8-nil}
use Rattle.lp_form.specs.Templates.{steps_of}
use Rattle.lp_form.specs.contracts.part.PartPartialEq.TheImpl as equality
use Rattle.lp_form.specs.declared.part.Part.{Part}
use Rattle.lp_form.specs.declared.part.Part.TheVariants as part
use Rattle.lp_spelling.specs.Counting.{line_len, front_line, behind_line, is_skipped, settled}
use Rattle.lp_spelling.proofs.Counting.{settled_counts, settled_skips, settled_none}
use Rattle.lp_program.specs.OwnLines.{hole}
use Rattle.lp_program.specs.Parameters.{first_or, last_parameter, parameter_after, parameters_of}
use Rattle.lp_program.specs.Choosing.{contents}
use Rattle.lp_program.specs.Trees.{Content, Forest}
use Rattle.lp_program.specs.Trees.Forest.{bare, tree}
use Rattle.lp_program.specs.declared.read.reader.Parameters.{Parameters}
use Rattle.lp_program.specs.declared.read.reader.Parameters.TheVariants as parameters
use Rattle.lp_write.specs.Lines.{blanks}
use Rattle.lp_reading_laws.specs.Printing.AsRead.{code_read, content_read, forest_read}
use Rattle.lp_reading_laws.specs.Printing.TemplateTests.{has_code}
use Rattle.lp_reading_laws.proofs.Printing.Lining.{trim_blanks}
use Rattle.lp_reading_laws.specs.Holes.Found.{are_words}
use Rattle.lp_reading_laws.specs.Holes.Inlined.{begins_inlined}
use Rattle.lp_fitting.specs.Bodies.{BodiesSuit, IsOtherCode, SuitsBody, SuitsUser}
use Rattle.lp_reading_laws.specs.Choosing.Laws.{told_content, told_trees, IsBodyTold}
use Rattle.lp_round_trip.specs.Codes.{BodiesSuitTold}
use Rattle.lp_round_trip.proofs.Codes.{codes_are_told, line_over, nothing_begun, trim_nothing}

-- one blank in front of a text changes nothing in its next line that counts
blank_front : (x : List ℕ) → trim_start (front_line (32 ∷ x)) ≡ trim_start (front_line x)
blank_front x = ap trim_start (line_over (32 ∷ []) x refl) ∙ trim_blanks 1 (front_line x)

blank_line : (x : List ℕ) → line_len (32 ∷ x) ≡ suc (line_len x)
blank_line x = omega arith

blank_behind : (x : List ℕ) → behind_line (32 ∷ x) ≡ behind_line x
blank_behind x =
    let e : line_len (32 ∷ x) + 1 ≡ suc (line_len x + 1) = omega arith in
    ap (λ (n : ℕ). drop n (32 ∷ x)) e

blank_settled : (x : List ℕ) → settled (32 ∷ x) ≡ settled x
blank_settled [] = settled_skips (32 ∷ []) (omega arith) (ap is_skipped (blank_front [] ∙ trim_nothing)) ∙ ap settled (blank_behind [])
blank_settled (b ∷ x) = elim (cases_Bool (is_skipped (trim_start (front_line (b ∷ x))))) [
  | inl y ↦ settled_skips (32 ∷ b ∷ x) (omega arith) (ap is_skipped (blank_front (b ∷ x)) ∙ y) ∙ ap settled (blank_behind (b ∷ x)) ∙ sym (settled_skips (b ∷ x) (omega arith) y)
  | inr n ↦
      settled_counts (32 ∷ b ∷ x) (omega arith) (ap is_skipped (blank_front (b ∷ x)) ∙ n)
      ∙ ap (λ (t : List ℕ). t ++ drop (line_len (32 ∷ b ∷ x)) (32 ∷ b ∷ x)) (blank_front (b ∷ x))
      ∙ ap (λ (m : ℕ). trim_start (front_line (b ∷ x)) ++ drop m (32 ∷ b ∷ x)) (blank_line (b ∷ x)) ∙ sym (settled_counts (b ∷ x) (omega arith) n)
]

blanks_settled : (k : ℕ) (x : List ℕ) → settled (replicate k 32 ++ x) ≡ settled x
blanks_settled zero x = refl
blanks_settled (suc k) x = blank_settled (replicate k 32 ++ x) ∙ blanks_settled k x

utf8_blanks : (w : Bool) → IsUtf8 (blanks w 4)
unfolding encode_utf8
utf8_blanks true = (codes "    ", (refl, refl))
utf8_blanks false = IsUtf8-nil

indented_settled : (w : Bool) (code : List ℕ) → settled (blanks w 4 ++ code) ≡ settled code
indented_settled true code = blanks_settled 4 code
indented_settled false code = refl

-- code as it reads
code_other : (w : Bool) (prefix code : List ℕ) → IsOtherCode prefix code → IsOtherCode prefix (code_read w code)
code_other w prefix code o = elim (cases_Bool (bytes_eq code (codes "()"))) [
  | inl y ↦ subst (IsOtherCode prefix) (sym (cond-true (bytes_eq code (codes "()")) [] (blanks w 4 ++ code) y)) (record { utf8 = IsUtf8-nil; other = ap (λ (t : List ℕ). begins_inlined prefix (front_line t)) settled_none ∙ nothing_begun prefix })
  | inr n ↦ subst (IsOtherCode prefix) (sym (cond-false (bytes_eq code (codes "()")) [] (blanks w 4 ++ code) n)) (record {
    utf8 = IsUtf8-append (blanks w 4) code (utf8_blanks w) o.utf8;
    other = ap (λ (t : List ℕ). begins_inlined prefix (front_line t)) (indented_settled w code) ∙ o.other;
  })
]

user_suits : (w : Bool) (prefix : List ℕ) (whose : Parameters) (code : List ℕ) → SuitsUser prefix whose code → SuitsUser prefix whose (code_read w code)
user_suits w prefix parameters.User code s = tt
user_suits w prefix parameters.Inlined code s = absurd s
user_suits w prefix parameters.None code s = code_other w prefix code s

-- a part as a text tells it
abbrev told : Bool → Content → Content
told w c = told_content (content_read w c)

code_part : (p : Part) → has_code (steps_of p) ≡ true → p ≡ part.UserBody
unfolding steps_of
code_part part.UserBody h = refl
code_part _ h = absurd (both_ways false refl h)

abbrev read_code : Bool → Content → Content
read_code w c = record c { holes = code_read w (hole c 0) ∷ [] }

content_suits : (w : Bool) (prefix : List ℕ) (whose : Parameters) (c : Content) → SuitsBody prefix whose c.part c.holes → SuitsBody prefix whose (told w c).part (told w c).holes
content_suits w prefix whose c s = elim (cases_Bool (has_code (steps_of c.part))) [
  | inl y ↦
      let e = code_part c.part y in
      let code = user_suits w prefix whose (hole c 0) (subst (λ p. SuitsBody prefix whose p c.holes) e s) in
      subst (λ (x : Content). SuitsBody prefix whose x.part x.holes) (sym (cond-true (has_code (steps_of c.part)) (read_code w c) c y)) (subst (λ p. SuitsBody prefix whose p (code_read w (hole c 0) ∷ [])) (sym e) code)
  | inr n ↦ subst (λ (x : Content). SuitsBody prefix whose x.part x.holes) (sym (cond-false (has_code (steps_of c.part)) (read_code w c) c n)) s
]

-- the last parameter is the same
no_row : (last : List ℕ) (c : Content) → c.part ≡ part.UserBody → parameter_after last c ≡ last
no_row last c e = ap (λ p. if (equality.ghosts).eq p part.ParameterRow then first_or last c.holes else last) e

after_same : (w : Bool) (last : List ℕ) (c : Content) → parameter_after last (told w c) ≡ parameter_after last c
after_same w last c = elim (cases_Bool (has_code (steps_of c.part))) [
  | inl y ↦
      let e = code_part c.part y in
      ap (λ (x : Content). parameter_after last (told_content x)) (cond-true (has_code (steps_of c.part)) (read_code w c) c y) ∙ no_row last (told_content (read_code w c)) e ∙ sym (no_row last c e)
  | inr n ↦ ap (λ (x : Content). parameter_after last (told_content x)) (cond-false (has_code (steps_of c.part)) (read_code w c) c n)
]

last_same : (w : Bool) (last : List ℕ) (cs : List Content) → last_parameter last (map (told w) cs) ≡ last_parameter last cs
last_same w last [] = refl
last_same w last (c ∷ cs) = ap (λ (x : List ℕ). last_parameter x (map (told w) cs)) (after_same w last c) ∙ last_same w (parameter_after last c) cs

contents_same : (w : Bool) (f : Forest) → contents (told_trees (forest_read w f)) ≡ map (told w) (contents f)
contents_same w bare = refl
contents_same w (tree c below after) =
    ap (λ (x : List Content). told w c ∷ (x ++ contents (told_trees (forest_read w after)))) (contents_same w below)
    ∙ ap (λ (x : List Content). told w c ∷ (map (told w) (contents below) ++ x)) (contents_same w after)
    ∙ ap (λ (x : List Content). told w c ∷ x) (sym (map-append (told w) (contents below) (contents after)))

pub printed_suits : (w : Bool) (prefix : List ℕ) (before : List Content) (f : Forest) → BodiesSuit prefix before f → BodiesSuit prefix (map (told w) before) (told_trees (forest_read w f))
printed_suits w prefix before bare s = tt
printed_suits w prefix before (tree c below after) s = (
  subst (λ (x : List ℕ). SuitsBody prefix (parameters_of prefix x) (told w c).part (told w c).holes) (sym (last_same w [] before)) (content_suits w prefix (parameters_of prefix (last_parameter [] before)) c s.0),
  printed_suits w prefix [] below s.1,
  subst (λ (cs : List Content). BodiesSuit prefix cs (told_trees (forest_read w after)))
      (map-append (told w) before (c ∷ contents below) ∙ ap (λ (x : List Content). map (told w) before ++ (told w c ∷ x)) (sym (contents_same w below)))
      (printed_suits w prefix (before ++ (c ∷ contents below)) after s.2),
)

-- where they suit, they are told
body_told : (prefix text : List ℕ) (whose : Parameters) (p : Part) (holes : List (List ℕ)) → are_words prefix ≡ true → SuitsBody prefix whose p holes → IsBodyTold prefix text whose p holes
body_told prefix text parameters.User part.UserBody holes w s = tt
body_told prefix text parameters.Inlined part.UserBody holes w s = absurd s
body_told prefix text parameters.None part.UserBody holes w s = codes_are_told prefix text (get_or holes 0 []) w s
body_told prefix text parameters.User part.InlineBody holes w s = absurd s
body_told prefix text parameters.Inlined part.InlineBody holes w s = tt
body_told prefix text parameters.None part.InlineBody holes w s = tt
body_told prefix text whose _ holes w s = tt

pub bodies_suit_told : BodiesSuitTold
bodies_suit_told prefix text before bare w s = tt
bodies_suit_told prefix text before (tree c below after) w s = (
  body_told prefix text (parameters_of prefix (last_parameter [] before)) c.part c.holes w s.0,
  bodies_suit_told prefix text [] below w s.1,
  bodies_suit_told prefix text (before ++ (c ∷ contents below)) after w s.2,
)
