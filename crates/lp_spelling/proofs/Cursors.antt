-- Texts that are cut at lines, and cursors.
use Rattle.std.proofs.Common.{◌≡◌, ℕ, ◌+◌, ◌-◌, List, length, take, drop, Option, Bor, sym, ap, ◌∙◌, subst, arith, length-drop}
use Rattle.std.specs.Str.{IsUtf8, IsCharBoundary}
use Rattle.std.proofs.lemmas.List.{drop-drop, take_all}
use Rattle.std.proofs.lemmas.Str.{IsUtf8-drop, IsCharBoundary-from_drop}
use Rattle.lp_spelling.specs.Counting.{line_len, feeds, IsLineAt}
use Rattle.lp_spelling.proofs.Counting.{line_boundary, line_in}

-- what follows a place may be cut where its line ends
pub cut_line : (text rest : List ℕ) (from end : ℕ) → IsUtf8 text → IsCharBoundary text from → rest ≡ drop from text → end ≡ from + line_len (drop from text) →
    IsCharBoundary rest (end - from)
cut_line text rest from end u b r e =
    let k : ℕ = line_len (drop from text) in
    let cut : IsCharBoundary text end = subst (λ i. IsCharBoundary text i) (sym e) (line_boundary text from b.0) in
    let tail : drop end text ≡ drop (end - from) rest
    = ap (λ i. drop i text) (omega (arith, e)) ∙ sym (drop-drop (end - from) from text) ∙ ap (λ x. drop (end - from) x) (sym r) in
    let size : length rest ≡ length text - from = ap length r ∙ length-drop from text in
    IsCharBoundary-from_drop rest (end - from) (omega (arith, size, e, line_in text from b.0)) (subst IsUtf8 tail (IsUtf8-drop text end u cut))

-- the line in front of what is left
pub line_there : (line : Option (Bor (List ℕ))) (rest left : List ℕ) → rest ≡ left → IsLineAt rest line → IsLineAt left line
line_there line rest left e h = subst (λ x. IsLineAt x line) e h

-- the lines that end in all of a text
pub feeds_all : (text : List ℕ) (n : ℕ) → n ≡ length text → feeds (take n text) ≡ feeds text
feeds_all text n e = ap feeds (take_all n text (omega (arith, e)))
