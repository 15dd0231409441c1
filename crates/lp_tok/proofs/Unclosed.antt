-- Where no `]` is left, no attribute ends.
use Rattle.std.proofs.Common.{◌≡◌, ℕ, ◌+◌, List, [], ◌∷◌, refl, sym, ap, ◌∙◌, subst, inl, inr, arith, IsUtf8}
use Rattle.std.specs.Prelude.{Some, None, false, ◌==◌, encode_utf8, encode_utf8_all}
use Rattle.std.specs.Str.{chars}
use Rattle.std.proofs.lemmas.Str.{encodes-chars, encode_ascii}
use Rattle.std.proofs.lemmas.List.Folds.{list_any-append}
use Rattle.std.proofs.lemmas.Bool.{or_parts, or_from}
use Rattle.std.proofs.lemmas.Bool.Decides.{eqb_tells}
use Rattle.lp_tok.specs.declared.rest.Rest.{Rest}
use Rattle.lp_tok.specs.declared.tok.Tok.TheVariants.{Hash}
use Rattle.lp_tok.specs.Left.{left, Follows}
use Rattle.lp_tok.specs.Signs.{right_bracket}
use Rattle.lp_tok.specs.Scans.{past, after_attribute, Within, NoString, String, Escape, has_closer}
use Rattle.lp_tok.specs.Token.{Symbol}
use Rattle.lp_tok.specs.Pieces.{Whole, attribute_end}
use Rattle.lp_tok.specs.Words.{symbol, bracket}
use Rattle.lp_tok.specs.WordPieces.{first_piece, longer_piece, opened_piece}
use Rattle.lp_tok.proofs.ScanSteps.{past_some}
use Rattle.lp_tok.proofs.Lefts.{left_alone}

-- none is left at an end of the text
pub none_at_end : (a b : Rest) → Follows a b → has_closer a.text.now ≡ false → has_closer b.text.now ≡ false
none_at_end a b f none = (or_parts _ _ (sym (list_any-append (λ c. c == right_bracket) f.read b.text.now) ∙ sym (ap has_closer f.text) ∙ none)).1

-- nor among the characters
none_among : (cs : List ℕ) → has_closer (encode_utf8_all cs) ≡ false → has_closer cs ≡ false
none_among [] none = refl
none_among (c ∷ cs) none =
    let parts = or_parts (has_closer (encode_utf8 c)) (has_closer (encode_utf8_all cs)) (sym (list_any-append (λ b. b == right_bracket) (encode_utf8 c) (encode_utf8_all cs)) ∙ none) in
    elim (eqb_tells c 93) [
      | inl h ↦
          let here : has_closer (encode_utf8 93) ≡ false = subst (λ x. has_closer (encode_utf8 x) ≡ false) h.1 parts.0 in
          let one : has_closer (93 ∷ []) ≡ false = ap has_closer (sym (encode_ascii 93 (omega arith))) ∙ here in
          absurd cc
      | inr h ↦ or_from _ _ h.0 (none_among cs parts.1)
    ]

none_left : (t : List ℕ) → IsUtf8 t → has_closer t ≡ false → has_closer (chars t) ≡ false
none_left t utf8 none = none_among (chars t) (ap has_closer (encodes-chars t utf8) ∙ none)

no_end : (w : Within) (n : ℕ) (cs : List ℕ) → has_closer cs ≡ false → after_attribute w n cs ≡ None
no_end NoString n [] none = refl
no_end String n [] none = refl
no_end Escape n [] none = refl
no_end Escape n (c ∷ cs) none = no_end String n cs (or_parts _ _ none).1
no_end String n (c ∷ cs) none =
    let more = (or_parts _ _ none).1 in
    elim (eqb_tells c 34) [
      | inl h ↦ rw h.0 (no_end NoString n cs more)
      | inr h ↦ elim (eqb_tells c 92) [
        | inl k ↦ rw (h.0, k.0) (no_end Escape n cs more)
        | inr k ↦ rw (h.0, k.0) (no_end String n cs more)
      ]
    ]
no_end NoString n (c ∷ cs) none =
    let here : (c == right_bracket) ≡ false = (or_parts _ _ none).0 in
    let more = (or_parts _ _ none).1 in
    elim (eqb_tells c 34) [
      | inl h ↦ rw h.0 (no_end String n cs more)
      | inr h ↦ elim (eqb_tells c 91) [
        | inl k ↦ rw (h.0, k.0) (no_end NoString (n + 1) cs more)
        | inr k ↦ elim (eqb_tells c 10) [
          | inl l ↦ rw (h.0, k.0, here, l.0) refl
          | inr l ↦ rw (h.0, k.0, here, l.0) (no_end NoString n cs more)
        ]
      ]
    ]

no_attribute : (cs : List ℕ) → has_closer cs ≡ false → attribute_end cs ≡ None
no_attribute [] none = refl
no_attribute (c ∷ []) none = elim (eqb_tells c 33) [ inl h ↦ rw h.0 refl | inr h ↦ rw h.0 refl ]
no_attribute (c ∷ d ∷ cs) none =
    let more = (or_parts _ _ (or_parts _ _ none).1).1 in
    elim (eqb_tells c 33) [
      | inl h ↦ elim (eqb_tells d 91) [
        | inl k ↦ rw (h.0, k.0) (no_end NoString 0 cs more)
        | inr k ↦ rw (h.0, k.0) refl
      ]
      | inr h ↦ rw h.0 refl
    ]

hash_piece_alone : (cs : List ℕ) → has_closer cs ≡ false → Whole (Symbol Hash) cs ≡ first_piece (35 ∷ cs)
unfolding first_piece longer_piece opened_piece symbol bracket
hash_piece_alone cs none = rw (no_attribute cs none) refl

-- a `#` is a token of its own
pub hash_alone : (start after : Rest) → start.behind.now ≡ [] → IsUtf8 start.text.now → has_closer start.text.now ≡ false → Some (left after) ≡ past 35 (left start) → Whole (Symbol Hash) (left after) ≡ first_piece (left start)
hash_alone start after alone utf8 none found =
    let first = past_some 35 (left start) (left after) found in
    let among : has_closer (left start) ≡ false = ap has_closer (left_alone start alone) ∙ none_left start.text.now utf8 none in
    hash_piece_alone (left after) (or_parts (35 == right_bracket) (has_closer (left after)) (sym (ap has_closer first) ∙ among)).1 ∙ sym (ap first_piece first)
