-- Texts that share their first lines with the text of a reader.
use Rattle.std.proofs.Common.{◌≡◌, ℕ, suc, ◌+◌, ◌-◌, ◌==◌, ◌≤◌, ◌<◌, ◌^◌, min, ◌⊎◌, inl, inr, Bool, false, true, ℤ, List, [], ◌∷◌, ◌++◌, length, Some, None, take, drop, codes, refl, sym, ap, ◌∙◌, arith, eqb, ltb, subst, append_assoc, append-nil, length-append, length-drop, take-append-drop}
use Rattle.std.specs.Bool.{Decides}
use Rattle.std.specs.List.{starts_with}
use Rattle.std.specs.Str.{IsUtf8, IsCharBoundary, chars, encode_utf8_all}
use Rattle.std.proofs.lemmas.Bool.{cases_lt, cond_both, cond-true, cond-false, le-ltb, lt-ltb}
use Rattle.std.proofs.lemmas.List.{append_cancel_left, append_cancel_right, drop-drop, length-take-le, nil_from_length, take-take}
use Rattle.std.proofs.lemmas.Str.{chars-append, encodes-append, encodes-chars, IsCharBoundary-from_drop, IsUtf8-between, IsUtf8-drop}
use Rattle.lp_form.specs.Templates.{Piece}
use Rattle.lp_form.specs.declared.template.Kind.{Kind}
use Rattle.lp_tok.specs.declared.tok.ErrorCode.TheVariants.{ExpectedStringLiteral}
use Rattle.lp_tok.specs.Cut.{Splits, splits_none, splits_one, StopsAt, BreaksAt, EndsCut}
use Rattle.lp_tok.proofs.CutSteps.{stops_breaks, stops_same}
use Rattle.lp_spelling.specs.Counting.{line_len, front_line, behind_line, feeds, settled}
use Rattle.lp_spelling.specs.Cursors.{left, IsTaken}
use Rattle.lp_spelling.specs.LineNumbers.{line_number, is_ended, past_last, number_at}
use Rattle.lp_spelling.specs.TableReading.{IsBroken, entries}
use Rattle.lp_spelling.specs.declared.cursor.Cursor.{Cursor}
use Rattle.lp_spelling.proofs.Reading.{starts_again, starts_ok}
use Rattle.lp_local.specs.Agreeing.{first_lines, Agree, lines_before}
use Rattle.lp_local.specs.Beginning.{is_line_end}
use Rattle.lp_local.proofs.Agreeing.{feeds_text, feeds-append, agree_back, agree_fewer, agree_behind, agree_front, agree_past, past_more, lines_by_line, Shared, shared_front}
use Rattle.lp_local.proofs.Broken.{broken_left, entries_broken}
use Rattle.lp_local.proofs.Codes.{break_shared, cut_shared, code_shared, line_end_shared, use_shared}
use Rattle.lp_local.proofs.Numbers.{number_told}
use Rattle.lp_local.proofs.Piecing.{fault_told, piece_told}
use Rattle.lp_local.proofs.Settling.{Left, settled_left, behind_byte, from_byte, SettledShared, settled_shared}
use Rattle.lp_local.proofs.Tables.{entries_left, entries_shared}
use Rattle.lp_program.specs.Begins.{Lines}
use Rattle.lp_program.specs.CodeReading.{IsUse, IsCode, without_feed}
use Rattle.lp_program.specs.Looking.{AreCounted, OfLines}
use Rattle.lp_program.specs.Nearby.{next_number, Like, Moves}
use Rattle.lp_program.specs.Taking.{BreaksCut, IsCutLine}
use Rattle.lp_program.specs.Telling.{Told, TellsLine, NotTold}
use Rattle.lp_program.proofs.Cuts.{closed_text}
use Rattle.lp_program.proofs.Existing.{behind_utf8, lines_exist, settled_fine}
use Rattle.lp_program.proofs.Sizes.{entries_sized}
use Rattle.lp_program.proofs.Taking.{part_there}

-- nothing is taken off
pub moves_none : (n : ℕ) (c : Cursor) (text : List ℕ) → Like n c text → Moves n c c text text
moves_none n c text like = record { like = like; taken = refl; size = refl }

pub moves_same : (n : ℕ) (a b : Cursor) (text : List ℕ) → b ≡ a → Like n a text → Moves n a b text text
moves_same n a b text e like = subst (λ (k : Cursor). Moves n a k text text) (sym e) (moves_none n a text like)

-- one thing behind another
pub moves_then : (n : ℕ) (a b c : Cursor) (x y z : List ℕ) → Moves n a b x y → Moves n b c y z → Moves n a c x z
moves_then n a b c x y z f g = record { like = g.like; taken = g.taken ∙ f.taken; size = omega (arith, f.size, g.size) }

-- a text that is its own rest has no front
pub no_front : (text : List ℕ) (n : ℕ) → drop n text ≡ text → take n text ≡ []
no_front text n e =
    let whole = ap length (take-append-drop n text) in
    let parts = length-append (take n text) (drop n text) in
    let rest = ap length e in
    nil_from_length (take n text) (omega (arith, whole, parts, rest))

-- at the front of a text each text is like it that has the same first lines
pub like_first : (n : ℕ) (c : Cursor) (text other : List ℕ) → c.text.now ≡ text → left c ≡ text → IsUtf8 text → length text < 2 ^ 64 → feeds text + 1 < 2 ^ 64 → IsUtf8 other → Agree n other text → Like n c other
like_first n c text other same all u size count v lines = record {
  is_text = v;
  whole = subst IsUtf8 (sym same) u;
  sized = omega (arith, ap length same, size);
  counted = omega (arith, ap feeds same, count);
  same = ap (λ (x : List ℕ). first_lines n (x ++ other)) (no_front c.text.now c.raw (all ∙ sym same)) ∙ lines ∙ ap (first_lines n) (sym same);
}

-- what is left is like itself
pub like_self : (n : ℕ) (c : Cursor) (text : List ℕ) → Like n c text → Like n c (left c)
like_self n c text like = record {
  is_text = IsUtf8-drop c.text.now c.raw like.whole c.raw_in;
  whole = like.whole;
  sized = like.sized;
  counted = like.counted;
  same = ap (first_lines n) (take-append-drop c.raw c.text.now);
}

-- the text in front of a cursor
abbrev front_of : Cursor → List ℕ
front_of c = take c.raw c.text.now

front_whole : (c : Cursor) → front_of c ++ left c ≡ c.text.now
front_whole c = take-append-drop c.raw c.text.now

pub left_utf8 : (c : Cursor) → IsUtf8 c.text.now → IsUtf8 (left c)
left_utf8 c u = IsUtf8-drop c.text.now c.raw u c.raw_in

-- the lines of what is left
like_left : (n : ℕ) (c : Cursor) (text : List ℕ) → feeds (front_of c) < n → Like n c text → Agree (n - feeds (front_of c)) (left c) text
like_left n c text lt like = agree_behind n (front_of c) (left c) text lt (ap (first_lines n) (front_whole c) ∙ sym like.same)

-- the same front is taken off
pub front_next : (c next : Cursor) (x : List ℕ) → IsTaken c next → left c ≡ x ++ left next → front_of next ≡ front_of c ++ x
front_next c next x same e =
    append_cancel_right (front_of next) (front_of c ++ x) (left next)
    (front_whole next ∙ same ∙ sym (front_whole c) ∙ ap (λ (y : List ℕ). front_of c ++ y) e ∙ sym (append_assoc (front_of c) x (left next)))

pub moves_front : (n : ℕ) (c next : Cursor) (x text rest : List ℕ) → IsTaken c next → left c ≡ x ++ left next → text ≡ x ++ rest → IsUtf8 rest → Like n c text → Moves n c next text rest
moves_front n c next x text rest same e f u like = record {
  like = record {
    is_text = u;
    whole = subst IsUtf8 (sym same) like.whole;
    sized = omega (arith, ap length same, like.sized);
    counted = omega (arith, ap feeds same, like.counted);
    same =
        ap (λ (y : List ℕ). first_lines n (y ++ rest)) (front_next c next x same e) ∙ ap (first_lines n) (append_assoc (front_of c) x rest) ∙ ap (λ (y : List ℕ). first_lines n (front_of c ++ y)) (sym f)
        ∙ like.same ∙ ap (first_lines n) (sym same);
  };
  taken = same;
  size = (let a = ap length e ∙ length-append x (left next) in let b = ap length f ∙ length-append x rest in omega (arith, a, b));
}

-- where a text that agrees has no more than is left, it is what is left
moves_all : (n : ℕ) (c next : Cursor) (text rest : List ℕ) → IsTaken c next → text ≡ left c → rest ≡ left next → Left (left c) (left next) → Like n c text → Moves n c next text rest
moves_all n c next text rest same e f l like =
    moves_front n c next l.front text rest same l.whole (e ∙ l.whole ∙ ap (λ (y : List ℕ). l.front ++ y) (sym f)) (subst IsUtf8 (sym f) l.utf8) like

-- the number of a line is that of those before it, and one
pub number_at_line : (place : ℕ) (text : List ℕ) → feeds text + 1 < 2 ^ 64 → place < length text → number_at place text ≡ feeds (take place text) + 1
number_at_line place text count lt =
    let all = ap feeds (take-append-drop place text) in
    let both = feeds-append (take place text) (drop place text) in
    cond-true (ltb place (length text)) (line_number (feeds (take place text))) (past_last text) (lt-ltb place (length text) lt) ∙ omega (arith, all, both, count)

pub number_at_end : (place : ℕ) (text : List ℕ) → length text ≤ place → number_at place text ≡ past_last text
number_at_end place text le = cond-false (ltb place (length text)) (line_number (feeds (take place text))) (past_last text) (le-ltb place (length text) le)

-- the line of the next text that counts was looked at
next_before : (n : ℕ) (c : Cursor) → IsUtf8 c.text.now → feeds c.text.now + 1 < 2 ^ 64 → 0 < length (settled (left c)) → next_number c ≤ n → feeds (front_of c) + (feeds (left c) - feeds (settled (left c))) < n
next_before n c u count some le =
    let w : List ℕ = c.text.now in
    let rest : drop c.start w ≡ settled (left c) = c.start_is in
    let size = sym (length-drop c.start w) ∙ ap length rest in
    let number = number_at_line c.start w count (omega (arith, size, some)) in
    let a = ap feeds (front_whole c) in
    let b = feeds-append (front_of c) (left c) in
    let d = ap feeds (take-append-drop c.start w) in
    let e = feeds-append (take c.start w) (drop c.start w) in
    let f = ap feeds rest in
    let l = settled_left (left c) (left_utf8 c u) in
    let g = ap feeds l.whole in
    let h = feeds-append l.front (settled (left c)) in
    omega (arith, number, le, a, b, d, e, f, g, h)

next_over : (n : ℕ) (c : Cursor) → settled (left c) ≡ [] → next_number c ≤ n → past_last c.text.now ≤ n
next_over n c none le =
    let w : List ℕ = c.text.now in
    let rest : drop c.start w ≡ settled (left c) = c.start_is in
    let size = sym (length-drop c.start w) ∙ ap length (rest ∙ none) in
    let number = number_at_end c.start w (omega (arith, size)) in
    omega (arith, number, le)

-- a text that agrees past the last line is the same
like_all : (n : ℕ) (c : Cursor) (text : List ℕ) → past_last c.text.now ≤ n → Like n c text → text ≡ left c
like_all n c text le like =
    let whole : c.text.now ≡ front_of c ++ text = agree_past n c.text.now (front_of c ++ text) like.counted le (sym like.same) in
    append_cancel_left (front_of c) text (left c) (sym whole ∙ sym (front_whole c))

-- the next line that counts is the same; or nothing is left that counts, and no more of the other text
abbrev pub SameNext : List ℕ → List ℕ → Type 0
SameNext text other = ((settled text ≡ []) × (other ≡ text)) ⊎ ((0 < length (settled text)) × (0 < length (settled other)) × (front_line (settled other) ≡ front_line (settled text)))

pub next_shared : (n : ℕ) (c : Cursor) (text : List ℕ) → next_number c ≤ n → 0 < length (settled (left c)) → Like n c text → SettledShared (n - feeds (front_of c)) (left c) text
next_shared n c text le some like =
    let lt = next_before n c like.whole like.counted some le in
    settled_shared (n - feeds (front_of c)) (left c) text (left_utf8 c like.whole) some (omega (arith, lt)) (like_left n c text (omega (arith, lt)) like)

pub next_same : (n : ℕ) (c : Cursor) (text : List ℕ) → next_number c ≤ n → Like n c text → SameNext (left c) text
next_same n c text le like = elim (cases_lt 0 (length (settled (left c)))) [
  | inl some ↦ let s = next_shared n c text le some like in inr (some, s.some, s.line)
  | inr none ↦ let e = nil_from_length (settled (left c)) (omega (arith, none)) in inl (e, like_all n c text (next_over n c e le) like)
]

-- behind that line
behind_left : (t : List ℕ) → IsUtf8 t → Left t (behind_line (settled t))
behind_left t u =
    let l = settled_left t u in
    record {
      utf8 = behind_utf8 (settled t) l.utf8;
      front = l.front ++ take (line_len (settled t) + 1) (settled t);
      whole = l.whole ∙ ap (λ (y : List ℕ). l.front ++ y) (sym (take-append-drop (line_len (settled t) + 1) (settled t))) ∙ sym (append_assoc l.front (take (line_len (settled t) + 1) (settled t)) (behind_line (settled t)));
    }

pub no_lines : (t : List ℕ) → first_lines 0 t ≡ []
unfolding first_lines
no_lines [] = refl
no_lines (b ∷ t) = refl

one_line : (t : List ℕ) → first_lines 1 t ≡ take (line_len t + 1) t
one_line t = lines_by_line 0 t ∙ ap (λ (x : List ℕ). take (line_len t + 1) t ++ x) (no_lines (behind_line t)) ∙ append-nil (take (line_len t + 1) t)

line_taken : (n : ℕ) (a b : List ℕ) → 0 < n → Agree n a b → take (line_len a + 1) a ≡ take (line_len b + 1) b
line_taken n a b lt h = sym (one_line a) ∙ agree_fewer 1 n a b (omega (arith, lt)) h ∙ one_line b

behind_parts : (front t : List ℕ) → front ++ t ≡ (front ++ take (line_len t + 1) t) ++ behind_line t
behind_parts front t = ap (λ (y : List ℕ). front ++ y) (sym (take-append-drop (line_len t + 1) t)) ∙ sym (append_assoc front (take (line_len t + 1) t) (behind_line t))

pub moves_line : (n : ℕ) (c next : Cursor) (text : List ℕ) → IsTaken c next → left next ≡ behind_line (settled (left c)) → next_number c ≤ n → Like n c text → Moves n c next text (behind_line (settled text))
moves_line n c next text same rest le like = elim (cases_lt 0 (length (settled (left c)))) [
  | inl some ↦
      let s = next_shared n c text le some like in
      let lt = next_before n c like.whole like.counted some le in
      let taken : take (line_len (settled (left c)) + 1) (settled (left c)) ≡ take (line_len (settled text) + 1) (settled text)
      = line_taken (n - feeds (front_of c) - lines_before (left c) (settled (left c))) (settled (left c)) (settled text) (omega (arith, lt)) s.agree in
      let x : List ℕ = s.front ++ take (line_len (settled (left c)) + 1) (settled (left c)) in
      moves_front n c next x text (behind_line (settled text)) same
      (s.a_is ∙ behind_parts s.front (settled (left c)) ∙ ap (λ (y : List ℕ). x ++ y) (sym rest))
      (s.b_is ∙ behind_parts s.front (settled text) ∙ ap (λ (y : List ℕ). (s.front ++ y) ++ behind_line (settled text)) (sym taken))
      (behind_left text like.is_text).utf8 like
  | inr none ↦
      let e = nil_from_length (settled (left c)) (omega (arith, none)) in
      let all = like_all n c text (next_over n c e le) like in
      let l = behind_left (left c) (left_utf8 c like.whole) in
      moves_all n c next text (behind_line (settled text)) same all (ap (λ (y : List ℕ). behind_line (settled y)) all ∙ sym rest) (subst (λ (y : List ℕ). Left (left c) y) (sym rest) l) like
]

-- the numbers of lines grow
feeds_grow : (text : List ℕ) (i j : ℕ) → i ≤ j → feeds (take i text) ≤ feeds (take j text)
feeds_grow text i j le =
    let a = ap feeds (take-append-drop i (take j text)) in
    let b = feeds-append (take i (take j text)) (drop i (take j text)) in
    let d = ap feeds (take-take i j text le) in
    omega (arith, a, b, d)

number_last : (ended : ℕ) (text : List ℕ) → ended ≤ feeds text → line_number ended ≤ past_last text
number_last ended text le =
    cond_both (is_ended text) (line_number (feeds text)) (line_number (line_number (feeds text))) (λ (k : ℕ). line_number ended ≤ k) (λ y. omega (arith, le)) (λ z. omega (arith, le))

number_mono : (text : List ℕ) (i j : ℕ) → i ≤ j → number_at i text ≤ number_at j text
number_mono text i j le = elim (cases_lt j (length text)) [
  | inl lt ↦
      let a = cond-true (ltb i (length text)) (line_number (feeds (take i text))) (past_last text) (lt-ltb i (length text) (omega (arith, lt, le))) in
      let b = cond-true (ltb j (length text)) (line_number (feeds (take j text))) (past_last text) (lt-ltb j (length text) lt) in
      let g = feeds_grow text i j le in
      omega (arith, a, b, g)
  | inr over ↦
      let b = number_at_end j text over in
      elim (cases_lt i (length text)) [
        | inl lt ↦
            let a = cond-true (ltb i (length text)) (line_number (feeds (take i text))) (past_last text) (lt-ltb i (length text) lt) in
            let few = ap feeds (take-append-drop i text) in
            let parts = feeds-append (take i text) (drop i text) in
            let last = number_last (feeds (take i text)) text (omega (arith, few, parts)) in
            omega (arith, a, b, last)
        | inr all ↦ (let a = number_at_end i text all in omega (arith, a, b))
      ]
]

pub number_grows : (c next : Cursor) → IsUtf8 c.text.now → IsTaken c next → left next ≡ behind_line (settled (left c)) → next_number c ≤ next_number next
number_grows c next u same rest =
    let w : List ℕ = c.text.now in
    let first = sym (length-drop c.start w) ∙ ap length c.start_is in
    let later = sym (length-drop next.start next.text.now) ∙ ap length next.start_is in
    let text = ap length same in
    let short = (settled_fine (left next) (left_utf8 next (subst IsUtf8 (sym same) u))).1 in
    let behind = ap length rest ∙ length-drop (line_len (settled (left c)) + 1) (settled (left c)) in
    let in_first = c.start_in.0 in
    let in_later = next.start_in.0 in
    subst (λ (t : List ℕ). next_number c ≤ number_at next.start t) (sym same) (number_mono w c.start next.start (omega (arith, first, later, text, short, behind, in_first, in_later)))

-- what stands in front of a place where the next line that counts was looked at ends on a line that was looked at
pub place_before : (n : ℕ) (c : Cursor) → IsUtf8 c.text.now → feeds c.text.now + 1 < 2 ^ 64 → next_number c ≤ n → feeds (front_of c) < n
place_before n c u count le = elim (cases_lt 0 (length (settled (left c)))) [
  | inl some ↦ (let lt = next_before n c u count some le in omega (arith, lt))
  | inr none ↦
      let over = next_over n c (nil_from_length (settled (left c)) (omega (arith, none))) le in
      let last = past_more c.text.now count in
      let all = ap feeds (front_whole c) in
      let parts = feeds-append (front_of c) (left c) in
      omega (arith, over, last, all, parts)
]

-- so is the line itself, and whether nothing is left that counts
pub front_same : (n : ℕ) (c : Cursor) (text : List ℕ) → next_number c ≤ n → Like n c text → front_line (settled text) ≡ front_line (settled (left c))
front_same n c text le like = elim (next_same n c text le like) [
  | inl none ↦ ap (λ (t : List ℕ). front_line (settled t)) none.1
  | inr some ↦ some.2
]

pub over_same : (n : ℕ) (c : Cursor) (text : List ℕ) (b : Bool) → (b ≡ true → settled (left c) ≡ []) → (settled (left c) ≡ [] → b ≡ true) → next_number c ≤ n → Like n c text → Decides b (settled text ≡ [])
over_same n c text b none all le like = elim (next_same n c text le like) [
  | inl e ↦ ((λ h. ap settled e.1 ∙ e.0), (λ h. all e.0))
  | inr some ↦ ((λ h. absurd (omega (arith, ap length (none h), some.0))), (λ h. absurd (omega (arith, ap length h, some.1))))
]

-- what is told of the first of the lines that count alone
abbrev pub OfFirst : (Lines → Type 0) → Type 0
OfFirst Holds = (l : List ℕ) (lines others : Lines) → Holds (l ∷ lines) → Holds (l ∷ others)

-- what holds of the line in front holds in each text that is like what is left
pub first_same : (n : ℕ) (c : Cursor) (text : List ℕ) (Holds : Lines → Type 0) → OfFirst Holds → next_number c ≤ n → Like n c text → OfLines (left c) Holds → OfLines text Holds
first_same n c text Holds first le like h lines counted = elim (next_same n c text le like) [
  | inl none ↦ h lines (subst (λ (t : List ℕ). AreCounted t lines) none.1 counted)
  | inr some ↦ of_first lines counted some
]
  where
    of_first : (lines : Lines) → AreCounted text lines → (0 < length (settled (left c))) × (0 < length (settled text)) × (front_line (settled text) ≡ front_line (settled (left c))) → Holds lines
    of_first [] counted some = absurd (omega (arith, ap length counted, some.1))
    of_first (l ∷ lines) counted some =
        let u = (settled_fine (left c) (like_self n c text like).is_text).0 in
        let behind : List ℕ = behind_line (settled (left c)) in
        let others = lines_exist behind (behind_utf8 (settled (left c)) u) in
        first l others.0 lines (h (l ∷ others.0) (behind, record { some = some.0; line_is = sym some.2 ∙ counted.1.line_is; rest_is = refl }, others.1))

-- a line that is read in front, or isn't
pub line_like : (n : ℕ) (c next : Cursor) (text prefix : List ℕ) (kinds : List Kind) (pieces : List Piece) (old new : Told) → TellsLine prefix kinds pieces old new (left c) (left next) → IsTaken c next → next_number c ≤ n →
    Like n c text → (rest : List ℕ) × TellsLine prefix kinds pieces old new text rest × Moves n c next text rest
line_like n c next text prefix kinds pieces old new t same le like = elim (next_same n c text le like) [
  | inl none ↦ absurd (omega (arith, ap length none.0, t.takes.some))
  | inr some ↦ (
    behind_line (settled text),
    record { line = t.line; takes = record { some = some.1; line_is = some.2 ∙ t.takes.line_is; rest_is = refl }; reads = t.reads; fills = t.fills; others = t.others },
    moves_line n c next text same t.takes.rest_is le like,
  )
]

pub no_line_like : (n : ℕ) (c : Cursor) (text prefix : List ℕ) (kinds : List Kind) (pieces : List Piece) (old : Told) → NotTold (λ x rest. TellsLine prefix kinds pieces old x (left c) rest) → next_number c ≤ n → Like n c text →
    NotTold (λ x rest. TellsLine prefix kinds pieces old x text rest)
no_line_like n c text prefix kinds pieces old none le like x rest t = elim (next_same n c text le like) [
  | inl same ↦ none x rest (subst (λ (y : List ℕ). TellsLine prefix kinds pieces old x y rest) same.1 t)
  | inr some ↦
      none x (behind_line (settled (left c)))
      (record { line = t.line; takes = record { some = some.0; line_is = sym some.2 ∙ t.takes.line_is; rest_is = refl }; reads = t.reads; fills = t.fills; others = t.others })
]

-- what is taken off ends on a line that was looked at
taken_at : (n : ℕ) (c next : Cursor) → IsTaken c next → feeds (front_of next) < n → (x : List ℕ) → left c ≡ x ++ left next → (feeds (front_of c) + feeds x < n) × (feeds (left c) ≡ feeds x + feeds (left next))
taken_at n c next same place x e =
    let front = ap feeds (front_next c next x same e) ∙ feeds-append (front_of c) x in
    (omega (arith, place, front), ap feeds e ∙ feeds-append x (left next))

next_place : (n : ℕ) (c next : Cursor) → IsTaken c next → IsUtf8 c.text.now → feeds c.text.now + 1 < 2 ^ 64 → next_number next ≤ n → feeds (front_of next) < n
next_place n c next same u count far = place_before n next (subst IsUtf8 (sym same) u) (omega (arith, ap feeds same, count)) far

taken_before : (n : ℕ) (c next : Cursor) → IsTaken c next → IsUtf8 c.text.now → feeds c.text.now + 1 < 2 ^ 64 → next_number next ≤ n → (x : List ℕ) → left c ≡ x ++ left next → (feeds (front_of c) + feeds x < n) × (feeds (left c) ≡ feeds x + feeds (left next))
taken_before n c next same u count far x e = taken_at n c next same (next_place n c next same u count far) x e

-- a use that is there
pub use_whole : (used rest : List ℕ) → codes "use " ++ (used ++ (codes ";" ++ rest)) ≡ (codes "use " ++ (used ++ codes ";")) ++ rest
use_whole used rest = ap (λ (x : List ℕ). codes "use " ++ x) (sym (append_assoc used (codes ";") rest))

pub use_near : (n : ℕ) (c next : Cursor) (text used : List ℕ) → IsTaken c next → IsUse (left c) used (left next) → next_number c ≤ n → feeds (front_of next) < n → Like n c text →
    (rest : List ℕ) × IsUse text used rest × Moves n c next text rest
use_near n c next text used same is le far like =
    let x : List ℕ = codes "use " ++ (used ++ codes ";") in
    let whole : settled (left c) ≡ x ++ left next = is.front ∙ use_whole used (left next) in
    let size : length (settled (left c)) ≡ length (codes "use ") + length (used ++ (codes ";" ++ left next)) = ap length is.front ∙ length-append (codes "use ") (used ++ (codes ";" ++ left next)) in
    let s = next_shared n c text le (omega (arith, size)) like in
    let front : left c ≡ (s.front ++ x) ++ left next = s.a_is ∙ ap (λ (y : List ℕ). s.front ++ y) whole ∙ sym (append_assoc s.front x (left next)) in
    let b = taken_at n c next same far (s.front ++ x) front in
    let lines = b.0 in
    let parts = b.1 in
    let z = use_shared (n - feeds (front_of c)) (left c) used (left next) text (left_utf8 c like.whole) is.front is.stops is.ends (omega (arith, lines, parts)) (like_left n c text (omega (arith, lines)) like) in
    let there : text ≡ (s.front ++ x) ++ z.other = s.b_is ∙ ap (λ (y : List ℕ). s.front ++ y) (z.front ∙ use_whole used z.other) ∙ sym (append_assoc s.front x z.other) in
    let closed : text ≡ (s.front ++ (codes "use " ++ used)) ++ 59 ∷ z.other
    = s.b_is ∙ ap (λ (y : List ℕ). s.front ++ y) (z.front ∙ sym (append_assoc (codes "use ") used (codes ";" ++ z.other))) ∙ sym (append_assoc s.front (codes "use " ++ used) (59 ∷ z.other)) in
    let u : IsUtf8 z.other = behind_byte (s.front ++ (codes "use " ++ used)) 59 z.other (omega arith) (subst IsUtf8 closed like.is_text) in
    (z.other, record { front = z.front; stops = z.stops; ends = z.ends }, moves_front n c next (s.front ++ x) text z.other same front there u like)

pub use_like : (n : ℕ) (c next : Cursor) (text used : List ℕ) → IsTaken c next → IsUse (left c) used (left next) → next_number c ≤ n → next_number next ≤ n → Like n c text →
    (rest : List ℕ) × IsUse text used rest × Moves n c next text rest
use_like n c next text used same is le far like = use_near n c next text used same is le (next_place n c next same like.whole like.counted far) like

-- user code that is there
pub code_like : (n : ℕ) (c next : Cursor) (text code : List ℕ) → IsTaken c next → IsCode (left c) code (left next) → next_number next ≤ n → Like n c text →
    (rest : List ℕ) × IsCode text code rest × Moves n c next text rest
code_like n c next text code same is far like =
    let b = taken_before n c next same like.whole like.counted far is.whole is.front in
    let lines = b.0 in
    let parts = b.1 in
    let z = code_shared (n - feeds (front_of c)) (left c) is.whole (left next) text (left_utf8 c like.whole) is.front is.stops is.closes (omega (arith, lines, parts)) (like_left n c text (omega (arith, lines)) like) in
    let brace : z.other ≡ 125 ∷ drop 1 z.other = starts_ok (codes "}") z.other z.closes in
    let v : IsUtf8 (is.whole ++ 125 ∷ drop 1 z.other) = subst IsUtf8 (z.b_is ∙ ap (λ (y : List ℕ). is.whole ++ y) brace) like.is_text in
    let u : IsUtf8 z.other = subst IsUtf8 (sym brace) (from_byte is.whole 125 (drop 1 z.other) (omega arith) v) in
    (z.other, record { whole = is.whole; front = z.b_is; stops = z.stops; closes = z.closes; code_is = is.code_is }, moves_front n c next is.whole text z.other same is.front z.b_is u like)

-- a table that is there
pub table_like : (n : ℕ) (c next : Cursor) (text : List ℕ) (numbers : List ℤ) → IsTaken c next → entries (left c) ≡ Some (numbers, left next) → next_number next ≤ n → Like n c text →
    (rest : List ℕ) × (entries text ≡ Some (numbers, rest)) × Moves n c next text rest
table_like n c next text numbers same is far like =
    let l = entries_left (left c) numbers (left next) (left_utf8 c like.whole) is in
    let b = taken_before n c next same like.whole like.counted far l.front l.whole in
    let lines = b.0 in
    let parts = b.1 in
    let fewer : lines_before (left c) (left next) < n - feeds (front_of c) = omega (arith, lines, parts) in
    let near = like_left n c text (omega (arith, lines)) like in
    let z = entries_shared (n - feeds (front_of c)) (left c) text numbers (left next) (left_utf8 c like.whole) is fewer near in
    let size = entries_sized (n - feeds (front_of c)) (left c) text numbers numbers (left next) z.other (left_utf8 c like.whole) fewer near is z.reads in
    let front = ap feeds (front_next c next l.front same l.whole) ∙ feeds-append (front_of c) l.front in
    let all : n - feeds (front_of c) - lines_before (left c) (left next) ≡ n - feeds (front_of next) = omega (arith, parts, front) in
    let whole : Agree n (front_of next ++ left next) (front_of next ++ z.other)
    = agree_front n (front_of next) (left next) z.other (omega (arith, lines, front)) (subst (λ k. Agree k (left next) z.other) all z.agree) in
    let there : Like n next z.other = record {
      is_text = (entries_left text numbers z.other like.is_text z.reads).utf8;
      whole = subst IsUtf8 (sym same) like.whole;
      sized = omega (arith, ap length same, like.sized);
      counted = omega (arith, ap feeds same, like.counted);
      same = sym whole ∙ ap (first_lines n) (front_whole next);
    } in
    (z.other, z.reads, record { like = there; taken = same; size = omega (arith, size) })

-- a table that is broken where the line was looked at
pub no_table_like : (n place : ℕ) (c : Cursor) (text : List ℕ) → IsBroken true (left c) (drop place c.text.now) → number_at place c.text.now ≤ n → Like n c text → entries text ≡ None
no_table_like n place c text broken le like =
    let lt = number_told n place c.text.now like.counted le in
    let l = broken_left true (left c) (drop place c.text.now) (left_utf8 c like.whole) broken in
    let one = ap feeds (front_whole c) in
    let two = feeds-append (front_of c) (left c) in
    let three = ap feeds l.whole ∙ feeds-append l.front (drop place c.text.now) in
    entries_broken (n - feeds (front_of c)) (left c) text (drop place c.text.now) (left_utf8 c like.whole) broken (omega (arith, lt, one, two, three)) (like_left n c text (omega (arith, lt, one, two, three)) like)

-- where a cut stops, or breaks, is behind the place from which it is made
splits_left : (cs rest : List ℕ) (ks : List _) → Splits cs ks rest → length rest ≤ length cs
splits_left _ _ _ (splits_none cs) = omega arith
splits_left cs rest _ (splits_one _ next _ k ks p s) =
    let t = piece_told k cs next p in
    let size = ap length t.whole ∙ length-append t.front next in
    let more = splits_left next rest ks s in
    omega (arith, size, more)

stops_left : (cs rest : List ℕ) → StopsAt cs rest → length rest ≤ length cs
stops_left cs rest s = splits_left cs rest s.0 s.1.splits

breaks_left : (cs place : List ℕ) → BreaksAt cs ExpectedStringLiteral place → length place ≤ length cs
breaks_left cs place b =
    let t = fault_told b.1 place b.3 in
    let size = ap length t.whole ∙ length-append t.front place in
    let more = splits_left cs b.1 b.0 b.2.splits in
    omega (arith, size, more)

chars_some : (x : List ℕ) → IsUtf8 x → 0 < length x → 0 < length (chars x)
chars_some x u some = elim (cases_lt 0 (length (chars x))) [
  | inl lt ↦ lt
  | inr le ↦
      let none : chars x ≡ [] = nil_from_length (chars x) (omega (arith, le)) in
      let e : [] ≡ x = ap encode_utf8_all (sym none) ∙ encodes-chars x u in
      absurd (omega (arith, ap length e, some))
]

place_after : (w : List ℕ) (from end : ℕ) → IsUtf8 w → IsCharBoundary w from → IsCharBoundary w end → length (chars (drop end w)) ≤ length (chars (drop from w)) → from ≤ end
place_after w from end u at cut short = elim (cases_lt end from) [
  | inr le ↦ le
  | inl lt ↦
      let part : List ℕ = take (from - end) (drop end w) in
      let v : IsUtf8 part = IsUtf8-between w end from u (omega (arith, lt)) cut at in
      let there : drop (from - end) (drop end w) ≡ drop from w = drop-drop (from - end) end w ∙ ap (λ k. drop k w) (omega (arith, lt)) in
      let whole : drop end w ≡ part ++ drop from w = sym (take-append-drop (from - end) (drop end w)) ∙ ap (λ (y : List ℕ). part ++ y) there in
      let all = ap (λ (y : List ℕ). length (chars y)) whole ∙ ap length (chars-append part (drop from w) v) ∙ length-append (chars part) (chars (drop from w)) in
      let size : length part ≡ from - end = length-take-le (from - end) (drop end w) (omega (arith, length-drop end w, at.0)) in
      let some = chars_some part v (omega (arith, size, lt)) in
      absurd (omega (arith, all, some, short))
]

-- what a text has behind a front is told by its characters
other_same : (whole other rest : List ℕ) → IsUtf8 (whole ++ other) → IsUtf8 whole → IsUtf8 rest → chars other ≡ chars rest → other ≡ rest
other_same whole other rest u v w e =
    let back : whole ++ other ≡ whole ++ encode_utf8_all (chars other)
    = sym (encodes-chars (whole ++ other) u) ∙ ap encode_utf8_all (chars-append whole other v) ∙ encodes-append (chars whole) (chars other) ∙ ap (λ (y : List ℕ). y ++ encode_utf8_all (chars other)) (encodes-chars whole v) in
    append_cancel_left whole other (encode_utf8_all (chars other)) back ∙ ap encode_utf8_all e ∙ encodes-chars rest w

-- a byte in front of a text stands in front of each that agrees
first_byte : (n b : ℕ) (x y : List ℕ) → 0 < n → (b == 10) ≡ false → Agree n (b ∷ x) y → Shared n (b ∷ []) x y
first_byte n b x y lt text h =
    let none : feeds (b ∷ []) ≡ 0 = feeds_text b [] text in
    let all : n - feeds (b ∷ []) ≡ n = omega (arith, none) in
    subst (λ k. Shared k (b ∷ []) x y) all (shared_front n (b ∷ []) x y (omega (arith, none, lt)) h)

-- the cut of a text that stops on a line that was looked at stops in each text that agrees, at what agrees
record CutLike (n : ℕ) (w z : List ℕ) (from : ℕ) : Type 0 where
  end : ℕ
  cut : EndsCut w from end
  whole : List ℕ
  there : drop from w ≡ whole ++ drop end w
  is_text : IsUtf8 whole
  other : List ℕ
  z_is : z ≡ whole ++ other
  stops : StopsAt (chars z) (chars other)
  lines : ℕ
  some : 0 < lines
  agree : Agree lines (drop end w) other

-- the text from one place to another, which is on a line that was looked at
record Between (n : ℕ) (w : List ℕ) (from end : ℕ) : Type 0 where
  whole : List ℕ
  there : drop from w ≡ whole ++ drop end w
  is_text : IsUtf8 whole
  few : feeds whole < n - feeds (take from w)

between : (n : ℕ) (w : List ℕ) (from end : ℕ) → IsUtf8 w → feeds w + 1 < 2 ^ 64 → IsCharBoundary w from → IsCharBoundary w end → from ≤ end → end < length w → number_at end w ≤ n → Between n w from end
between n w from end u count at cut after lt le =
    let whole : List ℕ = take (end - from) (drop from w) in
    let there : drop from w ≡ whole ++ drop end w = part_there w whole from end after refl in
    let number = number_at_line end w count lt in
    let a = ap feeds (take-append-drop from w) in
    let b = feeds-append (take from w) (drop from w) in
    let d = ap feeds (take-append-drop end w) in
    let e = feeds-append (take end w) (drop end w) in
    let f = ap feeds there ∙ feeds-append whole (drop end w) in
    record { whole = whole; there = there; is_text = IsUtf8-between w from end u after at cut; few = omega (arith, number, le, a, b, d, e, f) }

cut_like : (n : ℕ) (w z : List ℕ) (from end : ℕ) → IsUtf8 w → feeds w + 1 < 2 ^ 64 → IsCharBoundary w from → EndsCut w from end → end < length w → number_at end w ≤ n → Agree (n - feeds (take from w)) (drop from w) z → CutLike n w z from
cut_like n w z from end u count at cut lt le h =
    let after = place_after w from end u at cut.boundary (stops_left (chars (drop from w)) (chars (drop end w)) cut.stops) in
    let b = between n w from end u count at cut.boundary after lt le in
    let few = b.few in
    let s = cut_shared (n - feeds (take from w)) b.whole (drop end w) z b.is_text (IsUtf8-drop w end u cut.boundary) few (subst (λ (y : List ℕ). StopsAt (chars y) (chars (drop end w))) b.there cut.stops)
    (subst (λ (y : List ℕ). Agree (n - feeds (take from w)) y z) b.there h) in
    record {
      end = end;
      cut = cut;
      whole = b.whole;
      there = b.there;
      is_text = b.is_text;
      other = s.other;
      z_is = s.b_is;
      stops = s.stops;
      lines = n - feeds (take from w) - feeds b.whole;
      some = omega (arith, few);
      agree = s.agree;
    }

-- one that breaks there, at what no text behind it mends, breaks in each text that agrees, and so stops nowhere
break_like : (n : ℕ) (w z : List ℕ) (from end : ℕ) → IsUtf8 w → feeds w + 1 < 2 ^ 64 → IsCharBoundary w from → BreaksCut w from end → end < length w → number_at end w ≤ n → Agree (n - feeds (take from w)) (drop from w) z →
    (rest : List ℕ) → StopsAt (chars z) rest → ⊥
break_like n w z from end u count at cut lt le h rest stops =
    let after = place_after w from end u at cut.boundary (breaks_left (chars (drop from w)) (chars (drop end w)) cut.breaks) in
    let b = between n w from end u count at cut.boundary after lt le in
    let s = break_shared (n - feeds (take from w)) b.whole (drop end w) z b.is_text (IsUtf8-drop w end u cut.boundary) b.few (subst (λ (y : List ℕ). BreaksAt (chars y) ExpectedStringLiteral (chars (drop end w))) b.there cut.breaks)
    (subst (λ (y : List ℕ). Agree (n - feeds (take from w)) y z) b.there h) in
    stops_breaks (chars z) rest (chars s.other) ExpectedStringLiteral stops s.breaks

-- the line at which a cut stops or breaks was looked at: the cut stops in each text that agrees, at what agrees, or in none; or this is the whole text
abbrev StopsNowhere : List ℕ → Type 0
StopsNowhere z = (rest : List ℕ) → StopsAt (chars z) rest → ⊥

cut_looked : (n line : ℕ) (w z : List ℕ) (from : ℕ) → IsUtf8 w → feeds w + 1 < 2 ^ 64 → IsCharBoundary w from → IsCutLine w from line → line ≤ n → Agree (n - feeds (take from w)) (drop from w) z →
    (past_last w ≤ n) ⊎ CutLike n w z from ⊎ StopsNowhere z
cut_looked n line w z from u count at (inl (end, cut, e)) le h = elim (cases_lt end (length w)) [
  | inl lt ↦ inr (inl (cut_like n w z from end u count at cut lt (omega (arith, e, le)) h))
  | inr over ↦ (let last = number_at_end end w over in inl (omega (arith, e, last, le)))
]
cut_looked n line w z from u count at (inr (inl (end, cut, e))) le h = elim (cases_lt end (length w)) [
  | inl lt ↦ inr (inr (break_like n w z from end u count at cut lt (omega (arith, e, le)) h))
  | inr over ↦ (let last = number_at_end end w over in inl (omega (arith, e, last, le)))
]
cut_looked n line w z from u count at (inr (inr (on, e))) le h = inl (omega (arith, e, le))

-- user code that isn't there
no_code_here : (n : ℕ) (c : Cursor) (text code rest : List ℕ) → Like n c text → IsUtf8 rest → IsCode text code rest → CutLike n c.text.now text c.raw → (whole : List ℕ) × (there : List ℕ) × IsUtf8 there × IsCode (left c) whole there
no_code_here n c text code rest like u x z =
    let e : z.other ≡ rest = other_same z.whole z.other rest (subst IsUtf8 z.z_is like.is_text) z.is_text u (stops_same (chars text) (chars z.other) (chars rest) z.stops x.stops) in
    let brace : z.other ≡ 125 ∷ drop 1 z.other = starts_ok (codes "}") z.other (ap (λ (y : List ℕ). starts_with eqb y (codes "}")) e ∙ x.closes) in
    let there : List ℕ = drop z.end c.text.now in
    let back : Agree z.lines (125 ∷ drop 1 z.other) there = subst (λ (y : List ℕ). Agree z.lines y there) brace (agree_back z.lines there z.other z.agree) in
    let s = first_byte z.lines 125 (drop 1 z.other) there z.some refl back in
    let closes : starts_with eqb there (codes "}") ≡ true = ap (λ (y : List ℕ). starts_with eqb y (codes "}")) s.b_is ∙ starts_again (codes "}") s.rest in
    (without_feed z.whole, there, IsUtf8-drop c.text.now z.end like.whole z.cut.boundary, record { whole = z.whole; front = z.there; stops = z.cut.stops; closes = closes; code_is = refl })

pub no_code_like : (n : ℕ) (c : Cursor) (text : List ℕ) (line : ℕ) → IsCutLine c.text.now c.raw line → next_number c ≤ n → line ≤ n → Like n c text → ((code rest : List ℕ) → IsUtf8 rest → IsCode (left c) code rest → ⊥) →
    (code rest : List ℕ) → IsUtf8 rest → IsCode text code rest → ⊥
no_code_like n c text line stops le far like none code rest u x =
    let lines = place_before n c like.whole like.counted le in
    elim (cut_looked n line c.text.now text c.raw like.whole like.counted c.raw_in stops far (like_left n c text lines like)) [
      | inl last ↦ none code rest u (subst (λ (y : List ℕ). IsCode y code rest) (like_all n c text last like) x)
      | inr (inl z) ↦ (let y = no_code_here n c text code rest like u x z in none y.0 y.1 y.2 y.3)
      | inr (inr nowhere) ↦ nowhere (chars rest) x.stops
    ]

-- a use that isn't there
record Spelled (c : Cursor) (text : List ℕ) (n : ℕ) (z : List ℕ) : Type 0 where
  behind : List ℕ
  spelled : settled (left c) ≡ codes "use " ++ behind
  is_text : IsUtf8 behind
  agree : Agree (n - feeds (front_of c) - lines_before (left c) (settled (left c))) z behind

use_spelled : (n : ℕ) (c : Cursor) (text z : List ℕ) → next_number c ≤ n → 0 < length (settled (left c)) → Like n c text → settled text ≡ codes "use " ++ z → Spelled c text n z
use_spelled n c text z le some like e =
    let lt = next_before n c like.whole like.counted some le in
    let s = next_shared n c text le some like in
    let m : ℕ = n - feeds (front_of c) - lines_before (left c) (settled (left c)) in
    let none : feeds (codes "use ") ≡ 0 = refl in
    let all : m - feeds (codes "use ") ≡ m = omega (arith, none) in
    let back : Agree m (codes "use " ++ z) (settled (left c)) = subst (λ (y : List ℕ). Agree m y (settled (left c))) e (agree_back m (settled (left c)) (settled text) s.agree) in
    let f : Shared (m - feeds (codes "use ")) (codes "use ") z (settled (left c)) = shared_front m (codes "use ") z (settled (left c)) (omega (arith, none, lt)) back in
    record {
      behind = f.rest;
      spelled = f.b_is;
      is_text = behind_byte (codes "use") 32 f.rest (omega arith) (subst IsUtf8 f.b_is s.utf8);
      agree = subst (λ k. Agree k z f.rest) all f.agree;
    }

-- the text behind `use `, where it starts
pub record Behind (w y : List ℕ) (from : ℕ) : Type 0 where
  pub there : drop from w ≡ y
  pub at : IsCharBoundary w from

pub behind_use : (w y : List ℕ) (start from : ℕ) → length w < 2 ^ 64 → drop start w ≡ codes "use " ++ y → IsUtf8 y → from ≡ min (start + 4) (2 ^ 64 - 1) → Behind w y from
behind_use w y start from size at u is =
    let four : length (codes "use ") ≡ 4 = refl in
    let all = sym (length-drop start w) ∙ ap length at ∙ length-append (codes "use ") y in
    let place : from ≡ start + 4 = omega (arith, four, all, size, is) in
    let there : drop from w ≡ y = ap (λ k. drop k w) place ∙ sym (drop-drop 4 start w) ∙ ap (drop 4) at in
    record { there = there; at = IsCharBoundary-from_drop w from (omega (arith, four, all, place)) (subst IsUtf8 (sym there) u) }

no_use_here : (n : ℕ) (c : Cursor) (text used rest : List ℕ) (from : ℕ) (s : Spelled c text n (used ++ (codes ";" ++ rest))) → IsUtf8 c.text.now → IsUtf8 text → IsUtf8 rest → IsUse text used rest → drop from c.text.now ≡ s.behind →
    CutLike n c.text.now (used ++ (codes ";" ++ rest)) from → (other : List ℕ) × (there : List ℕ) × IsUtf8 there × IsUse (left c) other there
no_use_here n c text used rest from s whole v u x at k =
    let z : List ℕ = used ++ (codes ";" ++ rest) in
    let w : List ℕ = c.text.now in
    let text_z : IsUtf8 z = behind_byte (codes "use") 32 z (omega arith) (subst IsUtf8 x.front (settled_fine text v).0) in
    let e : k.other ≡ codes ";" ++ rest = other_same k.whole k.other (codes ";" ++ rest) (subst IsUtf8 k.z_is text_z) k.is_text (closed_text rest u) (stops_same (chars z) (chars k.other) (chars (codes ";" ++ rest)) k.stops x.stops) in
    let there : List ℕ = drop k.end w in
    let back : Agree k.lines (59 ∷ rest) there = subst (λ (y : List ℕ). Agree k.lines y there) e (agree_back k.lines there k.other k.agree) in
    let f = first_byte k.lines 59 rest there k.some refl back in
    let more : k.lines ≡ suc (k.lines - 1) = omega (arith, k.some) in
    let same : is_line_end rest ≡ is_line_end f.rest = line_end_shared (k.lines - 1) rest f.rest (subst (λ i. Agree i rest f.rest) more f.agree) in
    let behind : s.behind ≡ k.whole ++ (codes ";" ++ f.rest) = sym at ∙ k.there ∙ ap (λ (y : List ℕ). k.whole ++ y) f.b_is in
    let stops : StopsAt (chars (k.whole ++ (codes ";" ++ f.rest))) (chars (codes ";" ++ f.rest))
    = subst (λ (y : List ℕ). StopsAt (chars y) (chars (codes ";" ++ f.rest))) (at ∙ behind) (subst (λ (y : List ℕ). StopsAt (chars (drop from w)) (chars y)) f.b_is k.cut.stops) in
    (k.whole, f.rest, behind_byte [] 59 f.rest (omega arith) (subst IsUtf8 f.b_is (IsUtf8-drop w k.end whole k.cut.boundary)), record { front = s.spelled ∙ ap (λ (y : List ℕ). codes "use " ++ y) behind; stops = stops; ends = sym same ∙ x.ends })

pub no_use_like : (n : ℕ) (c : Cursor) (text : List ℕ) (start from line : ℕ) → drop start c.text.now ≡ settled (left c) → from ≡ min (start + 4) (2 ^ 64 - 1) → IsCutLine c.text.now from line →
    next_number c ≤ n → line ≤ n → Like n c text → ((used rest : List ℕ) → IsUtf8 rest → IsUse (left c) used rest → ⊥) → (used rest : List ℕ) → IsUtf8 rest → IsUse text used rest → ⊥
no_use_like n c text start from line at is stops le far like none used rest u x = elim (cases_lt 0 (length (settled (left c)))) [
  | inr over ↦
      let e = nil_from_length (settled (left c)) (omega (arith, over)) in
      none used rest u (subst (λ (y : List ℕ). IsUse y used rest) (like_all n c text (next_over n c e le) like) x)
  | inl some ↦
      let w : List ℕ = c.text.now in
      let z : List ℕ = used ++ (codes ";" ++ rest) in
      let s = use_spelled n c text z le some like x.front in
      let b = behind_use w s.behind start from like.sized (at ∙ s.spelled) s.is_text is in
      let l = settled_left (left c) (left_utf8 c like.whole) in
      let one = ap feeds (front_whole c) in
      let two = feeds-append (front_of c) (left c) in
      let three = ap feeds l.whole ∙ feeds-append l.front (settled (left c)) in
      let four = ap feeds s.spelled ∙ feeds-append (codes "use ") s.behind in
      let five = ap feeds (take-append-drop from w) in
      let six = feeds-append (take from w) (drop from w) in
      let seven = ap feeds b.there in
      let eight : feeds (codes "use ") ≡ 0 = refl in
      let lines : n - feeds (front_of c) - lines_before (left c) (settled (left c)) ≡ n - feeds (take from w) = omega (arith, one, two, three, four, five, six, seven, eight) in
      let agree : Agree (n - feeds (take from w)) (drop from w) z
      = subst (λ (y : List ℕ). Agree (n - feeds (take from w)) y z) (sym b.there) (agree_back (n - feeds (take from w)) z s.behind (subst (λ k. Agree k z s.behind) lines s.agree)) in
      elim (cut_looked n line w z from like.whole like.counted b.at stops far agree) [
        | inl last ↦ none used rest u (subst (λ (y : List ℕ). IsUse y used rest) (like_all n c text last like) x)
        | inr (inl k) ↦ (let y = no_use_here n c text used rest from s like.whole like.is_text u x b.there k in none y.0 y.1 y.2 y.3)
        | inr (inr nowhere) ↦ nowhere (chars (codes ";" ++ rest)) x.stops
      ]
]
