-- A line of a transition that two lists of holes spell, both filled: the second text begins with the prefix in one of them.
use Rattle.std.proofs.Common.{◌≡◌, ℕ, ◌<◌, zero, suc, true, false, List, [], ◌∷◌, get_or, codes, refl, ap, ◌∙◌, arith, ltb}
use Rattle.std.specs.List.{list_all, starts_with}
use Rattle.std.specs.Char.{is_whitespace}
use Rattle.std.specs.Str.{IsUtf8, is_utf8, chars}
use Rattle.std.proofs.lemmas.Bool.{and_from, or_left, or_right}
use Rattle.std.proofs.lemmas.Str.{IsUtf8-from_ascii, is_utf8-from_IsUtf8, chars-IsAscii}
use Rattle.unicode_ident.proofs.IdentLemmas.{is_xid_continue-ascii}
use Rattle.lp_form.specs.Templates.{steps_of, holes_of}
use Rattle.lp_form.specs.declared.part.Part.TheVariants as part
use Rattle.lp_tok.specs.Scans.{starts_word, continues_word}
use Rattle.lp_texts.specs.Identifiers.{is_identifier}
use Rattle.lp_texts.specs.Identifiers as identifier
use Rattle.lp_texts.specs.OneLine.{IsOneLine, begins}
use Rattle.lp_spelling.specs.HoleEnds.{first_at}
use Rattle.lp_spelling.specs.Lines.{line_of}
use Rattle.lp_spelling.specs.Fillings.{is_number, is_name, holds, is_element, joined_within, is_joined, has_shape, line_part, Fits, Fills}
use Rattle.lp_spelling.specs.LineReading.{kind_of}
use Rattle.lp_reading_laws.specs.Holes.Found.{AreFilled, SameLines}
use Rattle.lp_reading_laws.proofs.Holes.Words.{ascii_at}
use Rattle.lp_reading_laws.proofs.Holes.Plain.{is_plain, one_line}
use Rattle.lp_reading_laws.proofs.Holes.Examples.{transition_holes, transition_others}

ascii_utf8 : (t : List ℕ) → list_all (λ b. ltb b 128) t ≡ true → IsUtf8 t
ascii_utf8 t h = IsUtf8-from_ascii t (ascii_at t h)

ascii_continues : (b : ℕ) → b < 128 → Rattle.std.specs.Char.is_ascii_alphanumeric b ≡ true → continues_word b ≡ true
ascii_continues b lt h = or_left _ _ (is_xid_continue-ascii b lt ∙ or_left _ _ h)

-- `__a` and `__b` are identifiers
under_word : (b : ℕ) → b < 128 → Rattle.std.specs.Char.is_ascii_alphanumeric b ≡ true → identifier.is_word (95 ∷ 95 ∷ b ∷ []) ≡ true
under_word b lt h = and_from (starts_word 95) _ (or_right _ _ refl) (and_from (continues_word 95) _ (or_right _ _ refl) (and_from (continues_word b) true (ascii_continues b lt h) refl))

a_name : is_name (codes "__a") ≡ true
a_name =
    let t : List ℕ = codes "__a" in
    and_from (is_utf8 t) _ (is_utf8-from_IsUtf8 t (ascii_utf8 t refl))
    (ap identifier.is_word (chars-IsAscii t (ascii_at t refl)) ∙ under_word 97 (omega arith) refl)

b_name : is_name (codes "__b") ≡ true
b_name =
    let t : List ℕ = codes "__b" in
    and_from (is_utf8 t) _ (is_utf8-from_IsUtf8 t (ascii_utf8 t refl))
    (ap identifier.is_word (chars-IsAscii t (ascii_at t refl)) ∙ under_word 98 (omega arith) refl)

text_fills : (t : List ℕ) → list_all (λ b. ltb b 128) t ≡ true → list_all is_plain t ≡ true → begins is_whitespace t ≡ false → IsOneLine t
text_fills t a p s = one_line t p (ap (begins is_whitespace) (chars-IsAscii t (ascii_at t a)) ∙ s)

holes_fill : (k : ℕ) → k < 4 → Fills (codes "__") (kind_of (holes_of part.Transition) k) (get_or transition_holes k [])
unfolding transition_holes holes_of Fits has_shape line_part is_number is_joined joined_within is_element holds first_at
holes_fill zero lt = (ascii_utf8 (codes "0") refl, (refl, tt))
holes_fill (suc zero) lt = (ascii_utf8 [] refl, (refl, tt))
holes_fill (suc (suc zero)) lt = (ascii_utf8 (codes "__a") refl, (a_name, tt))
holes_fill (suc (suc (suc zero))) lt = (ascii_utf8 (codes "__b, c") refl, (refl, text_fills (codes "__b, c") refl refl refl))
holes_fill (suc (suc (suc (suc k)))) lt = absurd (omega arith)

others_fill : (k : ℕ) → k < 4 → Fills (codes "__") (kind_of (holes_of part.Transition) k) (get_or transition_others k [])
unfolding transition_others holes_of Fits has_shape line_part is_number is_joined joined_within is_element holds first_at
others_fill zero lt = (ascii_utf8 (codes "0") refl, (refl, tt))
others_fill (suc zero) lt = (ascii_utf8 [] refl, (refl, tt))
others_fill (suc (suc zero)) lt = (ascii_utf8 (codes "__a, __b") refl, (and_from (is_name (codes "__a")) (is_name (codes "__b")) a_name b_name, tt))
others_fill (suc (suc (suc zero))) lt = (ascii_utf8 (codes "c") refl, (refl, text_fills (codes "c") refl refl refl))
others_fill (suc (suc (suc (suc k)))) lt = absurd (omega arith)

transition_filled : AreFilled (codes "__") part.Transition transition_holes × AreFilled (codes "__") part.Transition transition_others
unfolding transition_holes transition_others holes_of
transition_filled = (record { count = omega arith; fills = holes_fill }, record { count = omega arith; fills = others_fill })

transition_lines : SameLines (codes "__") transition_holes transition_others (steps_of part.Transition)
unfolding transition_holes transition_others steps_of line_of SameLines
transition_lines = (refl, (refl, (refl, (refl, (refl, tt)))))
