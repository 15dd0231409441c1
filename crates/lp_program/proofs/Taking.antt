-- Taking uses and user code off a text.
use Rattle.std.proofs.Common.{◌≡◌, ℕ, ◌+◌, ◌-◌, ◌<◌, ◌≤◌, true, false, ◌==◌, ltb, List, [], ◌∷◌, ◌++◌, length, get_or, take, drop, codes, refl, sym, ◌∙◌, ap, arith, eqb, length-append, length-drop, take-append-drop, subst}
use Rattle.std.specs.List.{starts_with}
use Rattle.std.proofs.lemmas.Bool.{and_from, false≢true, lt-ltb}
use Rattle.lp_texts.specs.Identifiers.{is_identifier}
use Rattle.lp_program.specs.Reads.{is_prefix}
use Rattle.std.specs.Str.{IsUtf8, IsCharBoundary, chars}
use Rattle.std.proofs.lemmas.List.{drop-drop, drop_at, get_or-drop}
use Rattle.std.proofs.lemmas.Str.{IsCharBoundary-after_ascii}
use Rattle.lp_tok.specs.Cut.{StopsAt, EndsCut}
use Rattle.lp_program.specs.CodeReading.{StartsUse, IsUse, IsCode, ends_there, without_feed}

-- the text behind a front that stands at a place
pub behind_front : (text rest behind front : List ℕ) (start : ℕ) → start ≤ length text → rest ≡ drop start text → rest ≡ front ++ behind → drop (length text - length behind) text ≡ behind
behind_front text rest behind front start le r e =
    let whole : length text - start ≡ length front + length behind = sym (length-drop start text) ∙ ap length (sym r ∙ e) ∙ length-append front behind in
    let there : length text - length behind ≡ start + length front = omega (arith, whole) in
    ap (λ i. drop i text) there ∙ sym (drop-drop (length front) start text) ∙ ap (λ x. drop (length front) x) (sym r ∙ e) ∙ drop_at front behind (length front) refl

-- a byte that stands at a place, and what follows it
pub byte_there : (text front : List ℕ) (c end : ℕ) → drop end text ≡ c ∷ front → (get_or text end 0 ≡ c) × (drop (end + 1) text ≡ front) × (end < length text)
byte_there text front c end e = (
  ap (λ i. get_or text i 0) (omega arith) ∙ sym (get_or-drop end text 0 0) ∙ ap (λ x. get_or x 0 0) e,
  sym (drop-drop 1 end text) ∙ ap (λ x. drop 1 x) e,
  (let l = ap length e in let d = length-drop end text in omega (arith, l, d)),
)

pub byte_cut : (text front : List ℕ) (c end : ℕ) → IsUtf8 text → c < 128 → drop end text ≡ c ∷ front → IsCharBoundary text (end + 1)
byte_cut text front c end u s e =
    let b = byte_there text front c end e in
    IsCharBoundary-after_ascii text end u b.2 (omega (arith, b.0, s))

-- a part of a text, and what follows it
pub part_there : (text part : List ℕ) (from end : ℕ) → from ≤ end → part ≡ take (end - from) (drop from text) → drop from text ≡ part ++ drop end text
part_there text part from end le e =
    let there : drop (end - from) (drop from text) ≡ drop end text = drop-drop (end - from) from text ∙ ap (λ i. drop i text) (omega arith) in
    sym (take-append-drop (end - from) (drop from text)) ∙ ap (λ x. x ++ drop (end - from) (drop from text)) (sym e) ∙ ap (λ x. part ++ x) there

-- a use is taken
pub use_taken : (text left used rest next : List ℕ) (from end : ℕ) → StartsUse left (drop from text) → EndsCut text from end → from ≤ end → used ≡ take (end - from) (drop from text) →
    drop end text ≡ codes ";" ++ rest → next ≡ rest → ends_there rest ≡ true → IsUse left used next
use_taken text left used rest next from end s cut le u e n t =
    let whole : drop from text ≡ used ++ (codes ";" ++ rest) = part_there text used from end le u ∙ ap (λ x. used ++ x) e in
    let at : IsUse left used rest = record {
      front = s ∙ ap (λ x. codes "use " ++ x) whole;
      stops = subst (λ x. StopsAt (chars x) (chars (codes ";" ++ rest))) whole (subst (λ x. StopsAt (chars (drop from text)) (chars x)) e cut.stops);
      ends = t;
    } in
    subst (λ x. IsUse left used x) (sym n) at

-- user code is taken
pub code_taken : (text left whole code next : List ℕ) (from end : ℕ) → left ≡ drop from text → EndsCut text from end → from ≤ end → whole ≡ take (end - from) (drop from text) →
    next ≡ drop end text → starts_with eqb (drop end text) (codes "}") ≡ true → code ≡ without_feed whole → IsCode left code next
code_taken text left whole code next from end l cut le w n b c =
    record {
      whole = whole;
      front = l ∙ part_there text whole from end le w ∙ ap (λ x. whole ++ x) (sym n);
      stops = subst (λ x. StopsAt (chars x) (chars next)) (sym l) (subst (λ x. StopsAt (chars (drop from text)) (chars x)) (sym n) cut.stops);
      closes = ap (λ x. starts_with eqb x (codes "}")) n ∙ b;
      code_is = c;
    }

-- a prefix that a name shows
pub prefix_shown : (prefix name : List ℕ) → (length prefix == 0) ≡ false → is_identifier name ≡ true → name ≡ prefix ++ codes "lalrpop_util" → is_prefix prefix ≡ true
prefix_shown prefix name some word e =
    and_from (ltb 0 (length prefix)) (is_identifier (prefix ++ codes "lalrpop_util")) (not_empty prefix some) (ap is_identifier (sym e) ∙ word)
  where
    not_empty : (xs : List ℕ) → (length xs == 0) ≡ false → ltb 0 (length xs) ≡ true
    not_empty [] h = absurd (false≢true (sym h))
    not_empty (x ∷ xs) h = lt-ltb 0 (length (x ∷ xs)) (omega arith)
