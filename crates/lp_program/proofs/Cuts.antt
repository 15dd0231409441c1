-- Uses and user code: each has one end, and is one text.
use Rattle.std.proofs.Common.{◌≡◌, ℕ, ◌≤◌, true, false, cond, List, [], ◌∷◌, ◌++◌, length, codes, drop, refl, sym, ap, ◌∙◌, arith, length-append, length-drop, subst}
use Rattle.std.specs.Str.{IsUtf8, IsCharBoundary, chars, encode_utf8_all}
use Rattle.std.proofs.lemmas.Bool.{both_ways, cond-true}
use Rattle.std.proofs.lemmas.List.{append_cancel_left, append_cancel_right}
use Rattle.std.proofs.lemmas.Str.{encode_ascii, encodes-chars, IsUtf8-append, IsUtf8-drop}
use Rattle.lp_tok.specs.declared.tok.Error.{Error}
use Rattle.lp_tok.specs.contracts.tok.ErrorCodePartialEq.TheImpl as equality
use Rattle.lp_tok.specs.declared.tok.ErrorCode.{ErrorCode}
use Rattle.lp_tok.specs.declared.tok.ErrorCode.TheVariants.{ExpectedStringLiteral}
use Rattle.lp_tok.specs.Cut.{StopsAt, BreaksAt, EndsCut, FailsCut}
use Rattle.lp_tok.specs.Cut.FailsCut.{breaks, unclosed}
use Rattle.lp_tok.proofs.CutSteps.{stops_same, stops_breaks, stops_unclosed, breaks_same, breaks_unclosed}
use Rattle.lp_program.specs.Taking.{BreaksCut, GoesOn}
use Rattle.lp_program.specs.CodeReading.{StartsUse, IsUse, IsCode, without_feed}

-- texts of the same characters
pub same_text : (a b : List ℕ) → IsUtf8 a → IsUtf8 b → chars a ≡ chars b → a ≡ b
same_text a b u v e = sym (encodes-chars a u) ∙ ap encode_utf8_all e ∙ encodes-chars b v

pub closed_text : (rest : List ℕ) → IsUtf8 rest → IsUtf8 (codes ";" ++ rest)
closed_text rest u = IsUtf8-append (codes ";") rest (59 ∷ [], (refl, ap (λ (x : List ℕ). x ++ []) (encode_ascii 59 (omega arith)))) u

-- a use, and user code
pub use_once : (left used other restA restB : List ℕ) → IsUtf8 restA → IsUtf8 restB → IsUse left used restA → IsUse left other restB → (used ≡ other) × (restA ≡ restB)
use_once left used other restA restB u v a b =
    let whole : used ++ (codes ";" ++ restA) ≡ other ++ (codes ";" ++ restB) = append_cancel_left (codes "use ") _ _ (sym a.front ∙ b.front) in
    let stops : StopsAt (chars (used ++ (codes ";" ++ restA))) (chars (codes ";" ++ restB)) = subst (λ (x : List ℕ). StopsAt (chars x) (chars (codes ";" ++ restB))) (sym whole) b.stops in
    let behind : codes ";" ++ restA ≡ codes ";" ++ restB = same_text _ _ (closed_text restA u) (closed_text restB v) (stops_same _ _ _ a.stops stops) in (
      append_cancel_right used other (codes ";" ++ restA) (whole ∙ ap (λ (x : List ℕ). other ++ x) (sym behind)),
      append_cancel_left (codes ";") restA restB behind,
    )

pub code_once : (left code other restA restB : List ℕ) → IsUtf8 restA → IsUtf8 restB → IsCode left code restA → IsCode left other restB → (code ≡ other) × (restA ≡ restB)
code_once left code other restA restB u v a b =
    let behind : restA ≡ restB = same_text restA restB u v (stops_same _ _ _ a.stops b.stops) in
    let whole : a.whole ≡ b.whole = append_cancel_right a.whole b.whole restA (sym a.front ∙ b.front ∙ ap (λ (x : List ℕ). b.whole ++ x) (sym behind)) in
    (a.code_is ∙ ap without_feed whole ∙ sym b.code_is, behind)

-- a cut that fails stops nowhere
pub fails_stops : (text : List ℕ) (from : ℕ) (e : Error) (rest : List ℕ) → FailsCut text from e → StopsAt (chars (drop from text)) rest → ⊥
fails_stops text from _ rest (breaks code n b cut) s = stops_breaks _ rest _ code s b
fails_stops text from _ rest (unclosed u) s = stops_unclosed _ rest s u

-- an error of this code by `==`
itself : (x : ErrorCode) → cond ((equality.ghosts).eq x ExpectedStringLiteral) ExpectedStringLiteral x ≡ x
itself ExpectedStringLiteral = refl
itself _ = refl

pub code_is : (x : ErrorCode) → (equality.ghosts).eq x ExpectedStringLiteral ≡ true → x ≡ ExpectedStringLiteral
code_is x e = sym (itself x) ∙ cond-true ((equality.ghosts).eq x ExpectedStringLiteral) ExpectedStringLiteral x e

pub code_other : (x : ErrorCode) → (equality.ghosts).eq x ExpectedStringLiteral ≡ false → x ≡ ExpectedStringLiteral → ⊥
code_other x h e = both_ways ((equality.ghosts).eq x ExpectedStringLiteral) h (ap (λ y. (equality.ghosts).eq y ExpectedStringLiteral) e)

-- at `r#` that begins neither a raw string nor a word, or at something else
pub fails_there : (text : List ℕ) (from : ℕ) (e : Error) → FailsCut text from e → e.code ≡ ExpectedStringLiteral → BreaksCut text from e.location
fails_there text from _ (breaks code n b cut) same = record { breaks = subst (λ c. BreaksAt (chars (drop from text)) c (chars (drop n text))) same b; boundary = cut }
fails_there text from _ (unclosed u) same = absurd cc

fails_breaks : (text : List ℕ) (from : ℕ) (e : Error) (rest : List ℕ) → FailsCut text from e → (e.code ≡ ExpectedStringLiteral → ⊥) → BreaksAt (chars (drop from text)) ExpectedStringLiteral rest → ⊥
fails_breaks text from _ rest (breaks code n b cut) other s = other (breaks_same _ _ rest code ExpectedStringLiteral b s).0
fails_breaks text from _ rest (unclosed u) other s = breaks_unclosed _ rest ExpectedStringLiteral s u

pub fails_on : (text : List ℕ) (from : ℕ) (e : Error) → FailsCut text from e → (e.code ≡ ExpectedStringLiteral → ⊥) → GoesOn (chars (drop from text))
fails_on text from e f other rest = (fails_stops text from e rest f, fails_breaks text from e rest f other)

-- where its cut ends is what is left of a text
pub one_end : (text rest : List ℕ) (from end : ℕ) → IsUtf8 text → EndsCut text from end → IsUtf8 rest → StopsAt (chars (drop from text)) (chars rest) → drop end text ≡ rest
one_end text rest from end t cut u s = same_text (drop end text) rest (IsUtf8-drop text end t cut.boundary) u (stops_same _ _ _ cut.stops s)

-- what stands in front of the end of a text begins before it
pub before_end : (text front rest : List ℕ) (from end : ℕ) → from ≤ length text → end ≤ length text → drop from text ≡ front ++ rest → drop end text ≡ rest → from ≤ end
before_end text front rest from end f n e d =
    let a = sym (length-drop from text) ∙ ap length e ∙ length-append front rest in
    let b = sym (length-drop end text) ∙ ap length d in
    omega (arith, a, b)

-- a use that is there, where it starts and where its cut ends
pub use_behind : (text left used rest : List ℕ) (from : ℕ) → StartsUse left (drop from text) → IsUse left used rest → drop from text ≡ used ++ (codes ";" ++ rest)
use_behind text left used rest from s x = append_cancel_left (codes "use ") _ _ (sym s ∙ x.front)

pub use_stops : (text left used rest : List ℕ) (from : ℕ) → StartsUse left (drop from text) → IsUse left used rest → StopsAt (chars (drop from text)) (chars (codes ";" ++ rest))
use_stops text left used rest from s x = subst (λ (y : List ℕ). StopsAt (chars y) (chars (codes ";" ++ rest))) (sym (use_behind text left used rest from s x)) x.stops

pub use_end : (text left used rest : List ℕ) (from end : ℕ) → IsUtf8 text → StartsUse left (drop from text) → EndsCut text from end → IsUtf8 rest → IsUse left used rest → drop end text ≡ codes ";" ++ rest
use_end text left used rest from end t s cut u x = one_end text (codes ";" ++ rest) from end t cut (closed_text rest u) (use_stops text left used rest from s x)

pub use_from : (text left used rest : List ℕ) (from end : ℕ) → IsUtf8 text → StartsUse left (drop from text) → IsCharBoundary text from → EndsCut text from end → IsUtf8 rest → IsUse left used rest → from ≤ end
use_from text left used rest from end t s f cut u x =
    before_end text used (codes ";" ++ rest) from end f.0 cut.boundary.0 (use_behind text left used rest from s x) (use_end text left used rest from end t s cut u x)

-- user code that is there, where its cut ends
pub code_stops : (text left code rest : List ℕ) (from : ℕ) → left ≡ drop from text → IsCode left code rest → StopsAt (chars (drop from text)) (chars rest)
code_stops text left code rest from l x = subst (λ (y : List ℕ). StopsAt (chars y) (chars rest)) l x.stops

pub code_end : (text left code rest : List ℕ) (from end : ℕ) → IsUtf8 text → left ≡ drop from text → EndsCut text from end → IsUtf8 rest → IsCode left code rest → drop end text ≡ rest
code_end text left code rest from end t l cut u x = one_end text rest from end t cut u (code_stops text left code rest from l x)

pub code_from : (text left code rest : List ℕ) (from end : ℕ) → IsUtf8 text → left ≡ drop from text → IsCharBoundary text from → EndsCut text from end → IsUtf8 rest → IsCode left code rest → from ≤ end
code_from text left code rest from end t l f cut u x =
    before_end text x.whole rest from end f.0 cut.boundary.0 (sym l ∙ x.front) (code_end text left code rest from end t l cut u x)
