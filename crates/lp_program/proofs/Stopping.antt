-- Where what a step takes stops within a line: the lines before that line begin it.
use Rattle.std.proofs.Common.{◌≡◌, ℕ, zero, suc, ◌+◌, ◌^◌, ◌<◌, ◌==◌, false, eqb, ⊎_elim, inl, inr, List, [], ◌∷◌, ◌++◌, length, take, drop, codes, refl, sym, ap, ◌∙◌, arith, subst, append_assoc, length-drop, take-append-drop}
use Rattle.std.specs.List.{starts_with}
use Rattle.std.specs.Char.{is_whitespace}
use Rattle.std.specs.Str.{IsUtf8, chars, encode_utf8_all, skip_leading_whitespace, trim_start}
use Rattle.std.proofs.lemmas.Bool.{cases_Bool, cond-true, cond-false, eqb-true, false_from_ne_true, false≢true, or_cases}
use Rattle.std.proofs.lemmas.List.{append_cancel_left, append_cancel_right}
use Rattle.std.proofs.lemmas.Str.{chars-append, chars-IsAscii, encodes-chars, IsUtf8-append, IsUtf8-from_ascii}
use Rattle.std.proofs.lemmas.Str.Ascii.{IsAscii-cons, IsAscii-nil}
use Rattle.lp_form.specs.Templates as template
use Rattle.lp_form.specs.declared.template.Step.TheVariants as step
use Rattle.lp_spelling.specs.Counting.{line_len, front_line, feeds, is_skipped, settled}
use Rattle.lp_spelling.specs.Cursors.{left, IsTaken}
use Rattle.lp_spelling.specs.declared.cursor.Cursor.{Cursor}
use Rattle.lp_spelling.proofs.Counting.{settled_counts}
use Rattle.lp_spelling.proofs.Reading.{starts_ok}
use Rattle.lp_local.specs.Agreeing.{first_lines}
use Rattle.lp_local.proofs.Agreeing.{feeds_feed, feeds_text, line_over}
use Rattle.lp_local.proofs.Back.{utf8_behind}
use Rattle.lp_local.proofs.Settling.{behind_byte}
use Rattle.lp_program.specs.declared.read.growing.Growing.{Growing}
use Rattle.lp_program.specs.CodeReading.{IsCode}
use Rattle.lp_program.specs.Nearby.{next_number}
use Rattle.lp_program.specs.Starting.{OfNewLook, StepStarts}
use Rattle.lp_program.specs.Starting.Starts.{in_own}
use Rattle.lp_program.specs.Telling.{Told, told, TellsText, StepTells}
use Rattle.lp_program.proofs.Nearby.{front_next, left_utf8, no_lines, number_at_line}
use Rattle.lp_program.proofs.Settling.{line_text}

-- the first lines of a text whose n-th line goes on behind these bytes stand in them
pub lines_in : (n : ℕ) (y z : List ℕ) → feeds y ≡ n → (more : List ℕ) × (y ≡ first_lines n (y ++ z) ++ more)
unfolding first_lines
lines_in zero [] z e = ([], sym (ap (λ (x : List ℕ). x ++ []) (no_lines z)))
lines_in zero (b ∷ y) z e = (b ∷ y, refl)
lines_in (suc n) [] z e = absurd (omega (arith, e))
lines_in (suc n) (b ∷ y) z e = elim (cases_Bool (b == 10)) [
  | inl feed ↦
      let one = feeds_feed b y feed in
      let r = lines_in n y z (omega (arith, one, e)) in
      (r.0, ap (λ (x : List ℕ). b ∷ x) r.1 ∙ ap (λ k. (b ∷ first_lines k (y ++ z)) ++ r.0) (sym (cond-true (b == 10) n (suc n) feed)))
  | inr other ↦
      let one = feeds_text b y other in
      let r = lines_in (suc n) y z (omega (arith, one, e)) in
      (r.0, ap (λ (x : List ℕ). b ∷ x) r.1 ∙ ap (λ k. (b ∷ first_lines k (y ++ z)) ++ r.0) (sym (cond-false (b == 10) n (suc n) other)))
]

-- the line that is left is the next that counts
number_here : (c : Cursor) → feeds c.text.now + 1 < 2 ^ 64 → settled (left c) ≡ left c → 0 < length (left c) → next_number c ≡ feeds (take c.raw c.text.now) + 1
number_here c count here some =
    let w : List ℕ = c.text.now in
    let start : drop c.start w ≡ drop c.raw w = c.start_is ∙ here in
    let size = sym (length-drop c.start w) ∙ ap length start in
    let at : take c.start w ≡ take c.raw w
    = append_cancel_right (take c.start w) (take c.raw w) (drop c.raw w) (ap (λ (x : List ℕ). take c.start w ++ x) (sym start) ∙ take-append-drop c.start w ∙ sym (take-append-drop c.raw w)) in
    number_at_line c.start w count (omega (arith, size, some)) ∙ ap (λ (x : List ℕ). feeds x + 1) at

-- what is taken stops at such a line
pub own_stops : (prefix : List ℕ) (g : Growing) (count : ℕ) (s : template.Line) (new : Told) (c next : Cursor) (x : List ℕ) → IsTaken c next → left c ≡ x ++ left next → settled (left next) ≡ left next → 0 < length (left next) →
    StepTells prefix g count s (left c) new (left next) → OfNewLook (next_number c) c (next_number next) (StepStarts prefix g count s)
own_stops prefix g count s new c next x same whole here some tells n l e text front others =
    let like = front.like in
    let w : List ℕ = c.text.now in
    let number = number_here next (omega (arith, ap feeds same, like.counted)) here some in
    let lines : feeds (take next.raw next.text.now) ≡ n = omega (arith, number, e) in
    let r = lines_in n (take next.raw next.text.now) (left next) lines in
    let all : first_lines n (take next.raw next.text.now ++ left next) ≡ take c.raw w ++ text = ap (first_lines n) (take-append-drop next.raw next.text.now ∙ same) ∙ sym front.front in
    let parts : take c.raw w ++ x ≡ take c.raw w ++ (text ++ r.0) = sym (front_next c next x same whole) ∙ r.1 ∙ ap (λ (y : List ℕ). y ++ r.0) all ∙ append_assoc (take c.raw w) text r.0 in
    let is : x ≡ text ++ r.0 = append_cancel_left (take c.raw w) x (text ++ r.0) parts in
    let rest : left c ≡ text ++ (r.0 ++ left next) = whole ∙ ap (λ (y : List ℕ). y ++ left next) is ∙ append_assoc text r.0 (left next) in
    let u : IsUtf8 (r.0 ++ left next) = utf8_behind text (r.0 ++ left next) (subst (λ (y : List ℕ). IsUtf8 y) rest (left_utf8 c like.whole)) like.is_text in
    in_own g.part (told g) new count s others text r.0 (left next) u (subst (λ (y : List ℕ). StepTells prefix g count s y new (left next)) rest tells)

-- a character in front that is no blank and no `/`, nor the end of a line
first_is : (b : ℕ) (x : List ℕ) → b < 128 → chars (b ∷ x) ≡ b ∷ chars x
first_is b x lt =
    let ascii = IsAscii-cons b [] lt IsAscii-nil in
    chars-append (b ∷ []) x (IsUtf8-from_ascii (b ∷ []) ascii) ∙ ap (λ (y : List ℕ). y ++ chars x) (chars-IsAscii (b ∷ []) ascii)

mark_trimmed : (b : ℕ) (x : List ℕ) → b < 128 → is_whitespace b ≡ false → IsUtf8 x → trim_start (b ∷ x) ≡ b ∷ x
unfolding trim_start
mark_trimmed b x lt w u =
    let v : IsUtf8 (b ∷ x) = IsUtf8-append (b ∷ []) x (IsUtf8-from_ascii (b ∷ []) (IsAscii-cons b [] lt IsAscii-nil)) u in
    ap (λ (cs : List ℕ). encode_utf8_all (skip_leading_whitespace cs)) (first_is b x lt) ∙ ap encode_utf8_all (cond-false (is_whitespace b) (skip_leading_whitespace (chars x)) (b ∷ chars x) w)
    ∙ ap encode_utf8_all (sym (first_is b x lt)) ∙ encodes-chars (b ∷ x) v

mark_counts : (b : ℕ) (y : List ℕ) → starts_with eqb (b ∷ y) (codes "//") ≡ false → is_skipped (b ∷ y) ≡ false
mark_counts b y none =
    false_from_ne_true (is_skipped (b ∷ y))
    (λ h. ⊎_elim (λ e. absurd (omega (arith, eqb-true (length (b ∷ y)) 0 e))) (λ s. false≢true (sym none ∙ s)) (or_cases (length (b ∷ y) == 0) (starts_with eqb (b ∷ y) (codes "//")) h))

pub mark_here : (b : ℕ) (t : List ℕ) → b < 128 → is_whitespace b ≡ false → feeds (b ∷ []) ≡ 0 → ((y : List ℕ) → starts_with eqb (b ∷ y) (codes "//") ≡ false) → IsUtf8 t → settled (b ∷ t) ≡ b ∷ t
mark_here b t lt w feed none u =
    let size : length (b ∷ []) + line_len t ≡ suc (line_len t) = omega arith in
    let front : front_line (b ∷ t) ≡ b ∷ front_line t = ap (λ n. take n (b ∷ t)) (line_over (b ∷ []) t feed ∙ size) in
    let trimmed = mark_trimmed b (front_line t) lt w (line_text t u) in
    let trim : trim_start (front_line (b ∷ t)) ≡ front_line (b ∷ t) = ap trim_start front ∙ trimmed ∙ sym front in
    let counts : is_skipped (trim_start (front_line (b ∷ t))) ≡ false = ap (λ (y : List ℕ). is_skipped (trim_start y)) front ∙ ap is_skipped trimmed ∙ mark_counts b (front_line t) (none (front_line t)) in
    settled_counts (b ∷ t) (omega arith) counts ∙ ap (λ (y : List ℕ). y ++ drop (line_len (b ∷ t)) (b ∷ t)) trim ∙ take-append-drop (line_len (b ∷ t)) (b ∷ t)

-- user code that is there
pub code_begun : (prefix : List ℕ) (g h : Growing) (count : ℕ) (pieces : List template.Piece) (c next : Cursor) → IsTaken c next → TellsText g.part (IsCode (left c)) (told g) (told h) (left next) →
    OfNewLook (next_number c) c (next_number next) (StepStarts prefix g count (step.Code, pieces))
code_begun prefix g h count pieces c next same t =
    let brace : left next ≡ 125 ∷ drop 1 (left next) = starts_ok (codes "}") (left next) t.is_text.closes in
    let u : IsUtf8 (drop 1 (left next)) = behind_byte [] 125 (drop 1 (left next)) (omega arith) (subst (λ (x : List ℕ). IsUtf8 x) brace t.behind) in
    let here : settled (left next) ≡ left next = ap settled brace ∙ mark_here 125 (drop 1 (left next)) (omega arith) refl refl (λ y. refl) u ∙ sym brace in
    own_stops prefix g count (step.Code, pieces) (told h) c next t.is_text.whole same t.is_text.front here (omega (arith, ap length brace)) t
