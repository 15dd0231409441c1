-- Where user code, or a use, isn't there: the lines before the one that is told begin it.
use Rattle.std.proofs.Common.{◌≡◌, ℕ, ◌+◌, ◌-◌, ◌^◌, ◌<◌, ◌≤◌, min, Bool, true, eqb, inl, inr, List, [], ◌∷◌, ◌++◌, length, take, drop, codes, refl, sym, ap, ◌∙◌, arith, subst, append_assoc, length-append, length-drop, take-append-drop}
use Rattle.std.specs.Bool.{Decides}
use Rattle.std.specs.List.{starts_with}
use Rattle.std.specs.Str.{IsAscii, IsUtf8, IsCharBoundary, chars}
use Rattle.std.proofs.lemmas.List.{append_cancel_left, append_cancel_right}
use Rattle.std.proofs.lemmas.Str.{chars-append, IsUtf8-append, IsUtf8-drop, IsUtf8-from_ascii, IsUtf8-nil}
use Rattle.lp_form.specs.Templates.{holes_of}
use Rattle.lp_form.specs.Templates as template
use Rattle.lp_form.specs.declared.template.Step.TheVariants as step
use Rattle.lp_tok.specs.declared.tok.ErrorCode.TheVariants.{ExpectedStringLiteral}
use Rattle.lp_tok.specs.CodePieces.{kind_of}
use Rattle.lp_tok.specs.Cut.{StopsAt, BreaksAt}
use Rattle.lp_tok.proofs.CutSteps.{breaks_same, stops_breaks, stops_same}
use Rattle.lp_spelling.specs.Counting.{line_len, front_line, feeds, settled}
use Rattle.lp_spelling.specs.Cursors.{left}
use Rattle.lp_spelling.specs.LineNumbers.{number_at}
use Rattle.lp_spelling.specs.declared.cursor.Cursor.{Cursor}
use Rattle.lp_spelling.proofs.Reading.{starts_ok}
use Rattle.lp_local.specs.Agreeing.{first_lines}
use Rattle.lp_local.proofs.Back.{utf8_behind}
use Rattle.lp_local.proofs.Closing.{GoesThrough, text_closes, stops_behind, breaks_behind}
use Rattle.lp_local.proofs.Longer.{chars_longer, settled_longer}
use Rattle.lp_local.proofs.Mending.{one_ascii}
use Rattle.lp_local.proofs.Settling.{behind_byte}
use Rattle.lp_program.specs.declared.read.growing.Growing.{Growing}
use Rattle.lp_program.specs.Begins.{Lines, IsUseFirst}
use Rattle.lp_program.specs.CodeReading.{IsUse, IsCode, without_feed}
use Rattle.lp_program.specs.Looking.{AreCounted, OfLines}
use Rattle.lp_program.specs.Nearby.{next_number}
use Rattle.lp_program.specs.Starting.{FrontLike, OfNewLook, StepStarts}
use Rattle.lp_program.specs.Starting.Starts.{in_own}
use Rattle.lp_program.specs.Taking.{IsCutLine}
use Rattle.lp_program.specs.Telling.{Told, told, TellsText}
use Rattle.lp_program.proofs.Existing.{lines_exist, settled_fine}
use Rattle.lp_program.proofs.Fronts.{lines_part, lines_again_of, lines_before_more}
use Rattle.lp_program.proofs.Nearby.{behind_use, front_same, left_utf8, next_shared, number_at_line}

-- a place within the first lines, told by the characters behind it, is on one of them
place_within : (n end c : ℕ) (w y r : List ℕ) → IsUtf8 w → feeds w + 1 < 2 ^ 64 → IsCharBoundary w end → IsUtf8 y → w ≡ first_lines n w ++ y → chars (drop end w) ≡ (c ∷ r) ++ chars y → number_at end w ≤ n
place_within n end c w y r u count at v lines e =
    let b = chars_longer (drop end w) y r c (IsUtf8-drop w end u at) v e in
    let some = b.2 in
    let whole : w ≡ (take end w ++ b.0) ++ y = sym (take-append-drop end w) ∙ ap (λ (x : List ℕ). take end w ++ x) b.1 ∙ sym (append_assoc (take end w) b.0 y) in
    let front : first_lines n w ≡ take end w ++ b.0 = append_cancel_right (first_lines n w) (take end w ++ b.0) y (sym lines ∙ whole) in
    let again : first_lines n (take end w ++ b.0) ≡ take end w ++ b.0 = ap (first_lines n) (sym front) ∙ lines_again_of n w ∙ front in
    let few = lines_before_more n (take end w) b.0 again some in
    let size = sym (length-drop end w) ∙ ap length b.1 ∙ length-append b.0 y in
    let number = number_at_line end w count (omega (arith, size, some)) in
    omega (arith, number, few)

-- the cut neither stops nor breaks on the lines before the told one
stops_never : (n line from c : ℕ) (w x y r : List ℕ) → IsUtf8 w → feeds w + 1 < 2 ^ 64 → IsCharBoundary w from → IsUtf8 y → w ≡ first_lines n w ++ y → n + 1 ≡ line → StopsAt (chars (drop from w)) ((c ∷ r) ++ chars y) → IsCutLine w from line → ⊥
stops_never n line from c w x y r u count at v lines e stops (inl (end, cut, is)) =
    let near = place_within n end c w y r u count cut.boundary v lines (stops_same (chars (drop from w)) (chars (drop end w)) ((c ∷ r) ++ chars y) cut.stops stops) in
    omega (arith, near, is, e)
stops_never n line from c w x y r u count at v lines e stops (inr (inl (place, cut, is))) = stops_breaks (chars (drop from w)) ((c ∷ r) ++ chars y) (chars (drop place w)) ExpectedStringLiteral stops cut.breaks
stops_never n line from c w x y r u count at v lines e stops (inr (inr (on, is))) = (on at ((c ∷ r) ++ chars y)).0 stops

breaks_never : (n line from c : ℕ) (w x y r : List ℕ) → IsUtf8 w → feeds w + 1 < 2 ^ 64 → IsCharBoundary w from → IsUtf8 y → w ≡ first_lines n w ++ y → n + 1 ≡ line → BreaksAt (chars (drop from w)) ExpectedStringLiteral ((c ∷ r) ++ chars y) → IsCutLine w from line → ⊥
breaks_never n line from c w x y r u count at v lines e breaks (inl (end, cut, is)) = stops_breaks (chars (drop from w)) (chars (drop end w)) ((c ∷ r) ++ chars y) ExpectedStringLiteral cut.stops breaks
breaks_never n line from c w x y r u count at v lines e breaks (inr (inl (place, cut, is))) =
    let same = breaks_same (chars (drop from w)) (chars (drop place w)) ((c ∷ r) ++ chars y) ExpectedStringLiteral ExpectedStringLiteral cut.breaks breaks in
    let near = place_within n place c w y r u count cut.boundary v lines same.1 in
    omega (arith, near, is, e)
breaks_never n line from c w x y r u count at v lines e breaks (inr (inr (on, is))) = (on at ((c ∷ r) ++ chars y)).1 breaks

-- the cut from a place goes through what the lines before the told one have behind it
pub cut_through : (n line from : ℕ) (w x y : List ℕ) → IsUtf8 w → feeds w + 1 < 2 ^ 64 → IsCharBoundary w from → IsCutLine w from line → n + 1 ≡ line → w ≡ first_lines n w ++ y → drop from w ≡ x ++ y → IsUtf8 x → GoesThrough (chars x)
cut_through n line from w x y u count at cut e lines there ux =
    let v : IsUtf8 y = utf8_behind x y (subst IsUtf8 there (IsUtf8-drop w from u at)) ux in
    let all : chars x ++ chars y ≡ chars (drop from w) = sym (chars-append x y ux) ∙ ap chars (sym there) in
    let stops : (r : List ℕ) → StopsAt (chars x) r → r ≡ [] = stops_none v all in
    record {
      stops = stops;
      breaks = λ c r s. breaks_never n line from c w x y r u count at v lines e (subst (λ (t : List ℕ). BreaksAt t ExpectedStringLiteral ((c ∷ r) ++ chars y)) all (breaks_behind (chars x) (chars y) c r s)) cut;
    }
  where
    stops_none : IsUtf8 y → chars x ++ chars y ≡ chars (drop from w) → (r : List ℕ) → StopsAt (chars x) r → r ≡ []
    stops_none v all [] s = refl
    stops_none v all (c ∷ r) s =
        absurd (stops_never n line from c w x y r u count at v lines e (subst (λ (t : List ℕ). StopsAt t ((c ∷ r) ++ chars y)) all (stops_behind (chars x) (chars y) c r s)) cut)

-- the text goes on behind its first lines, and so does what is left at a cursor
goes_behind : (n : ℕ) (c : Cursor) (text y : List ℕ) → FrontLike n c text → c.text.now ≡ first_lines n c.text.now ++ y → left c ≡ text ++ y
goes_behind n c text y front lines =
    append_cancel_left (take c.raw c.text.now) (left c) (text ++ y)
    (take-append-drop c.raw c.text.now ∙ lines ∙ ap (λ (x : List ℕ). x ++ y) (sym front.front) ∙ append_assoc (take c.raw c.text.now) text y)

-- user code
pub no_code_begun : (prefix : List ℕ) (g : Growing) (count : ℕ) (pieces : List template.Piece) (c : Cursor) (line : ℕ) → length (holes_of g.part) ≡ 0 → length g.holes.items ≡ 0 → IsCutLine c.text.now c.raw line →
    OfNewLook (next_number c) c line (StepStarts prefix g count (step.Code, pieces))
no_code_begun prefix g count pieces c line bare first cut n l e text front others =
    let like = front.like in
    let w : List ℕ = c.text.now in
    let y = lines_part n w in
    let there : left c ≡ text ++ y.0 = goes_behind n c text y.0 front y.1 in
    let through : GoesThrough (chars text) = cut_through n line c.raw w text y.0 like.whole like.counted c.raw_in cut e y.1 there like.is_text in
    let m = text_closes text like.is_text through in
    let brace : List ℕ = codes "}" in
    let ascii : IsAscii brace = one_ascii 125 (omega arith) in
    let stops : StopsAt (chars (text ++ (m.0 ++ brace))) (chars brace) = m.2 brace ascii (inl (kind_of 125, [], refl, tt)) in
    let code : List ℕ = without_feed (text ++ m.0) in
    let is : IsCode (text ++ (m.0 ++ brace)) code brace = record { whole = text ++ m.0; front = sym (append_assoc text m.0 brace); stops = stops; closes = refl; code_is = refl } in
    let new : Told = record (told g) { holes = code ∷ [] } in
    let tells : TellsText g.part (IsCode (text ++ (m.0 ++ brace))) (told g) new brace
    = record { bare = bare; first = first; text = code; is_text = is; behind = IsUtf8-from_ascii brace ascii; new_is = refl } in
    in_own g.part (told g) new count (step.Code, pieces) others text m.0 brace (IsUtf8-append m.0 brace (IsUtf8-from_ascii m.0 m.1) (IsUtf8-from_ascii brace ascii)) tells

-- a text whose first line begins so
use_line : (t : List ℕ) → starts_with eqb (front_line t) (codes "use ") ≡ true → (x : List ℕ) × (t ≡ codes "use " ++ x)
use_line t b =
    let rest : List ℕ = drop (line_len t) t in
    let x : List ℕ = drop 4 (front_line t) in
    (x ++ rest, sym (take-append-drop (line_len t) t) ∙ ap (λ (z : List ℕ). z ++ rest) (starts_ok (codes "use ") (front_line t) b) ∙ append_assoc (codes "use ") x rest)

first_use : (t : List ℕ) (lines : Lines) → AreCounted t lines → IsUseFirst lines → starts_with eqb (front_line (settled t)) (codes "use ") ≡ true
first_use t [] counted b = absurd b
first_use t (line ∷ lines) counted b = ap (λ (x : List ℕ). starts_with eqb x (codes "use ")) counted.1.line_is ∙ b

-- a use
pub no_use_begun : (prefix : List ℕ) (g : Growing) (count : ℕ) (pieces : List template.Piece) (c : Cursor) (start from line : ℕ) (b : Bool) → length (holes_of g.part) ≡ 0 → length g.holes.items ≡ 0 →
    OfLines (left c) (λ lines. Decides b (IsUseFirst lines)) → b ≡ true → drop start c.text.now ≡ settled (left c) → from ≡ min (start + 4) (2 ^ 64 - 1) → IsCutLine c.text.now from line →
    OfNewLook (next_number c) c line (StepStarts prefix g count (step.Use, pieces))
no_use_begun prefix g count pieces c start from line b bare first reads begun at is cut n l e text front others =
    let like = front.like in
    let w : List ℕ = c.text.now in
    let lines = lines_exist (left c) (left_utf8 c like.whole) in
    let begins = first_use (left c) lines.0 lines.1 ((reads lines.0 lines.1).0 begun) in
    let here = use_line (settled (left c)) begins in
    let size = ap length here.1 ∙ length-append (codes "use ") here.0 in
    let four : length (codes "use ") ≡ 4 = refl in
    let s = next_shared n c text l (omega (arith, size, four)) like in
    let next = use_line (settled text) (ap (λ (t : List ℕ). starts_with eqb t (codes "use ")) (front_same n c text l like) ∙ begins) in
    let x : List ℕ = next.0 in
    let y = lines_part n w in
    let behind : List ℕ = x ++ y.0 in
    let whole : settled (left c) ≡ codes "use " ++ behind
    = append_cancel_left s.front (settled (left c)) (codes "use " ++ behind)
    (sym s.a_is ∙ goes_behind n c text y.0 front y.1 ∙ ap (λ (t : List ℕ). t ++ y.0) s.b_is ∙ append_assoc s.front (settled text) y.0
    ∙ ap (λ (t : List ℕ). s.front ++ (t ++ y.0)) next.1 ∙ ap (λ (t : List ℕ). s.front ++ t) (append_assoc (codes "use ") x y.0)) in
    let there = behind_use w behind start from like.sized (at ∙ whole) (behind_byte (codes "use") 32 behind (omega arith) (subst IsUtf8 whole s.utf8)) is in
    let ux : IsUtf8 x = behind_byte (codes "use") 32 x (omega arith) (subst IsUtf8 next.1 (settled_fine text like.is_text).0) in
    let through : GoesThrough (chars x) = cut_through n line from w x y.0 like.whole like.counted there.at cut e y.1 there.there ux in
    let m = text_closes x ux through in
    let closed : List ℕ = m.0 ++ codes ";" in
    let ascii : IsAscii (codes ";") = one_ascii 59 (omega arith) in
    let more : IsUtf8 (closed ++ []) = IsUtf8-append closed [] (IsUtf8-append m.0 (codes ";") (IsUtf8-from_ascii m.0 m.1) (IsUtf8-from_ascii (codes ";") ascii)) IsUtf8-nil in
    let used : List ℕ = x ++ m.0 in
    let text_size = ap length next.1 ∙ length-append (codes "use ") x in
    let longer : settled (text ++ (closed ++ [])) ≡ settled text ++ (closed ++ [])
    = settled_longer text (closed ++ []) like.is_text more (omega (arith, text_size, four)) (λ z. ap (λ (t : List ℕ). starts_with eqb (t ++ z) (codes "//")) next.1) in
    let spelled : settled (text ++ (closed ++ [])) ≡ codes "use " ++ (used ++ (codes ";" ++ []))
    = longer ∙ ap (λ (t : List ℕ). t ++ (closed ++ [])) next.1 ∙ append_assoc (codes "use ") x (closed ++ []) ∙ ap (λ (t : List ℕ). codes "use " ++ (x ++ t)) (append_assoc m.0 (codes ";") [])
    ∙ ap (λ (t : List ℕ). codes "use " ++ t) (sym (append_assoc x m.0 (codes ";"))) in
    let stops : StopsAt (chars (used ++ codes ";")) (chars (codes ";"))
    = subst (λ (t : List ℕ). StopsAt (chars t) (chars (codes ";"))) (sym (append_assoc x m.0 (codes ";"))) (m.2 (codes ";") ascii (inl (kind_of 59, [], refl, tt))) in
    let is_use : IsUse (text ++ (closed ++ [])) used [] = record { front = spelled; stops = stops; ends = refl } in
    let new : Told = record (told g) { holes = used ∷ [] } in
    let tells : TellsText g.part (IsUse (text ++ (closed ++ []))) (told g) new [] = record { bare = bare; first = first; text = used; is_text = is_use; behind = IsUtf8-nil; new_is = refl } in
    in_own g.part (told g) new count (step.Use, pieces) others text closed [] more tells
