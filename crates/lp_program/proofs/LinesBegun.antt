-- Lines of one spelling: the lines before the next one that counts behind some of them have them, and are completed by the last of them.
use Rattle.std.proofs.Common.{◌≡◌, ℕ, zero, suc, ◌+◌, ◌-◌, ◌<◌, inl, inr, List, [], ◌∷◌, ◌++◌, length, refl, sym, ap, ◌∙◌, arith, subst, append_assoc, append-nil}
use Rattle.std.specs.Str.{IsUtf8}
use Rattle.std.proofs.lemmas.Str.{IsUtf8-append, IsUtf8-from_ascii, IsUtf8-nil}
use Rattle.std.proofs.lemmas.Str.Ascii.{IsAscii-cons, IsAscii-nil}
use Rattle.lp_form.specs.Templates.{Piece, holes_of}
use Rattle.lp_form.specs.Templates as template
use Rattle.lp_form.specs.declared.part.Part.{Part}
use Rattle.lp_form.specs.declared.template.Kind.{Kind}
use Rattle.lp_form.specs.declared.template.Step.{Step}
use Rattle.lp_form.specs.declared.template.Step.TheVariants as step
use Rattle.lp_spelling.specs.Counting.{front_line, behind_line, settled}
use Rattle.lp_spelling.specs.Cursors.{left, IsTaken}
use Rattle.lp_spelling.specs.declared.cursor.Cursor.{Cursor}
use Rattle.lp_local.proofs.Settling.{behind_byte}
use Rattle.lp_local.proofs.Joining.{settled_past}
use Rattle.lp_program.specs.declared.read.growing.Growing.{Growing}
use Rattle.lp_program.specs.Nearby.{next_number}
use Rattle.lp_program.specs.Reads.{TakesLine}
use Rattle.lp_program.specs.Starting.{Starts, OfNewLook, StepStarts}
use Rattle.lp_program.specs.Starting.Goal.{steps_left}
use Rattle.lp_program.specs.Starting.Starts.{ended, in_own, in_below}
use Rattle.lp_program.specs.Telling.{Told, told, TellsLine, TellsLines}
use Rattle.lp_program.proofs.Again.{line_again}
use Rattle.lp_program.proofs.Begun.{look_then}
use Rattle.lp_program.proofs.Fronts.{front_moves, front_over}
use Rattle.lp_program.proofs.Joined.{LineMoved, line_moved, no_more}
use Rattle.lp_program.proofs.Nearby.{line_like, moves_then, number_grows}
use Rattle.lp_program.proofs.Telling.{LinesOf, lines_all, lines_on}

-- the same is told where the line is taken off another text, and again of the line alone
told_at : (prefix : List ℕ) (kinds : List Kind) (pieces : List Piece) (old new : Told) (text rest there behind : List ℕ) (t : TellsLine prefix kinds pieces old new text rest) → TakesLine t.line there behind → TellsLine prefix kinds pieces old new there behind
told_at prefix kinds pieces old new text rest there behind t x = record { line = t.line; takes = x; reads = t.reads; fills = t.fills; others = t.others }

told_again : (prefix : List ℕ) (kinds : List Kind) (pieces : List Piece) (old new : Told) (text rest there behind : List ℕ) (t : TellsLine prefix kinds pieces old new text rest) → TakesLine t.line there behind → TellsLine prefix kinds pieces new new there behind
told_again prefix kinds pieces old new text rest there behind t x =
    record { line = t.line; takes = x; reads = line_again prefix kinds pieces old.holes new.holes t.line t.reads; fills = λ k l m. absurd (omega (arith, l, m)); others = refl }

-- some lines are told of a text behind which nothing counts: they are told with a line feed and more behind it, and the last of them again
record LinesMore (n : ℕ) (prefix : List ℕ) (kinds : List Kind) (pieces : List Piece) (old new : Told) (text : List ℕ) : Type 0 where
  front : List ℕ
  utf8 : IsUtf8 front
  again : (q : List ℕ) → TellsLine prefix kinds pieces new new (front ++ 10 ∷ q) q
  on : (q : List ℕ) → (rest : List ℕ) × (settled rest ≡ settled q) × TellsLines n prefix kinds pieces old new (text ++ 10 ∷ q) rest

-- with a line feed and more behind them
on_feed : (text front b q : List ℕ) → text ≡ front ++ 10 ∷ b → text ++ 10 ∷ q ≡ front ++ 10 ∷ (b ++ 10 ∷ q)
on_feed text front b q w = ap (λ (x : List ℕ). x ++ 10 ∷ q) w ∙ append_assoc front (10 ∷ b) (10 ∷ q)

last_more : (prefix : List ℕ) (kinds : List Kind) (pieces : List Piece) (old new : Told) (text b : List ℕ) (t : TellsLine prefix kinds pieces old new text b) → LineMoved t.line text b → settled b ≡ [] → LinesMore 1 prefix kinds pieces old new text
last_more prefix kinds pieces old new text b t m over = record {
  front = m.front;
  utf8 = m.utf8;
  again = λ q. told_again prefix kinds pieces old new text b (m.front ++ 10 ∷ q) q t (m.again q);
  on = λ q. elim m.whole [
    | inl w ↦ (
      b ++ 10 ∷ q,
      settled_past b q over,
      (new, b ++ 10 ∷ q, told_at prefix kinds pieces old new text b (text ++ 10 ∷ q) (b ++ 10 ∷ q) t (subst (λ (x : List ℕ). TakesLine t.line x (b ++ 10 ∷ q)) (sym (on_feed text m.front b q w)) (m.again (b ++ 10 ∷ q))), (refl, refl)),
    )
    | inr w ↦ (q, refl, (new, q, told_at prefix kinds pieces old new text b (text ++ 10 ∷ q) q t (subst (λ (x : List ℕ). TakesLine t.line (x ++ 10 ∷ q) q) (sym w.0) (m.again q)), (refl, refl)))
  ];
}

lines_more : (n : ℕ) (prefix : List ℕ) (kinds : List Kind) (pieces : List Piece) (old new : Told) (text behind : List ℕ) → IsUtf8 text → TellsLines (suc n) prefix kinds pieces old new text behind → settled behind ≡ [] →
    LinesMore (suc n) prefix kinds pieces old new text
lines_more zero prefix kinds pieces old new text behind u t over =
    let m : LineMoved t.2.line text t.1 = line_moved t.2.line text t.1 u t.2.takes in
    let one : LinesMore 1 prefix kinds pieces old t.0 text = last_more prefix kinds pieces old t.0 text t.1 t.2 m (ap settled (sym t.3.1) ∙ over) in
    subst (λ (x : Told). LinesMore 1 prefix kinds pieces old x text) (sym t.3.0) one
lines_more (suc n) prefix kinds pieces old new text behind u t over =
    let b : List ℕ = t.1 in
    let m : LineMoved t.2.line text b = line_moved t.2.line text b u t.2.takes in
    elim m.whole [
      | inl w ↦
          let v : IsUtf8 b = behind_byte m.front 10 b (omega arith) (subst (λ (x : List ℕ). IsUtf8 x) w u) in
          let r : LinesMore (suc n) prefix kinds pieces t.0 new b = lines_more n prefix kinds pieces t.0 new b behind v t.3 over in
          record {
            front = r.front;
            utf8 = r.utf8;
            again = r.again;
            on = λ q.
                let x = r.on q in
                (x.0, x.1, (t.0, b ++ 10 ∷ q, told_at prefix kinds pieces old t.0 text b (text ++ 10 ∷ q) (b ++ 10 ∷ q) t.2 (subst (λ (y : List ℕ). TakesLine t.2.line y (b ++ 10 ∷ q)) (sym (on_feed text m.front b q w)) (m.again (b ++ 10 ∷ q))), x.2));
          }
      | inr w ↦ absurd (no_more t.3.2.line t.3.1 (subst (λ (x : List ℕ). TakesLine t.3.2.line x t.3.1) w.1 t.3.2.takes))
    ]

-- a line with its line feed, so many times
repeated : ℕ → List ℕ → List ℕ
repeated zero front = []
repeated (suc k) front = front ++ 10 ∷ repeated k front

feed_text : (t : List ℕ) → IsUtf8 t → IsUtf8 (10 ∷ t)
feed_text t u = IsUtf8-append (10 ∷ []) t (IsUtf8-from_ascii (10 ∷ []) (IsAscii-cons 10 [] (omega arith) IsAscii-nil)) u

repeated_text : (k : ℕ) (front : List ℕ) → IsUtf8 front → IsUtf8 (repeated k front)
unfolding repeated
repeated_text zero front u = IsUtf8-nil
repeated_text (suc k) front u = IsUtf8-append front (10 ∷ repeated k front) u (feed_text (repeated k front) (repeated_text k front u))

repeated_told : (k : ℕ) (prefix : List ℕ) (kinds : List Kind) (pieces : List Piece) (new : Told) (front : List ℕ) → ((q : List ℕ) → TellsLine prefix kinds pieces new new (front ++ 10 ∷ q) q) →
    TellsLines k prefix kinds pieces new new (repeated k front) []
unfolding repeated
repeated_told zero prefix kinds pieces new front again = (refl, refl)
repeated_told (suc k) prefix kinds pieces new front again = (new, repeated k front, again (repeated k front), repeated_told k prefix kinds pieces new front again)

-- a line is told by what settles
settled_takes : (line text there rest : List ℕ) → settled there ≡ settled text → TakesLine line text rest → TakesLine line there rest
settled_takes line text there rest e t = record { some = subst (λ (x : List ℕ). 0 < length x) (sym e) t.some; line_is = ap front_line e ∙ t.line_is; rest_is = t.rest_is ∙ ap behind_line (sym e) }

settled_tells : (k : ℕ) (prefix : List ℕ) (kinds : List Kind) (pieces : List Piece) (old new : Told) (text there rest : List ℕ) → settled there ≡ settled text → TellsLines (suc k) prefix kinds pieces old new text rest →
    TellsLines (suc k) prefix kinds pieces old new there rest
settled_tells k prefix kinds pieces old new text there rest e t = (t.0, t.1, told_at prefix kinds pieces old t.0 text t.1 there t.1 t.2 (settled_takes t.2.line text there t.1 e t.2.takes), t.3)

-- lines behind lines
lines_behind : (a k count : ℕ) (prefix : List ℕ) (kinds : List Kind) (pieces : List Piece) (old mid new : Told) (text there rest : List ℕ) → a + k ≡ count → TellsLines a prefix kinds pieces old mid text there → TellsLines k prefix kinds pieces mid new there rest →
    TellsLines count prefix kinds pieces old new text rest
lines_behind zero k count prefix kinds pieces old mid new text there rest e x y =
    let same : k ≡ count = omega (arith, e) in
    subst (λ n. TellsLines n prefix kinds pieces old new text rest) same (subst (λ (o : Told). TellsLines k prefix kinds pieces o new text rest) x.0 (subst (λ (z : List ℕ). TellsLines k prefix kinds pieces mid new z rest) x.1 y))
lines_behind (suc a) k zero prefix kinds pieces old mid new text there rest e x y = absurd (omega (arith, e))
lines_behind (suc a) k (suc count) prefix kinds pieces old mid new text there rest e x y = (x.0, x.1, x.2, lines_behind a k count prefix kinds pieces x.0 mid new x.1 there rest (omega (arith, e)) x.3 y)

-- where nothing counts behind some lines, the text begins as many and more
lines_start : (n k count blanks : ℕ) (prefix : List ℕ) (p : Part) (pieces : List Piece) (others : List template.Line) (old new : Told) (text behind : List ℕ) → suc n + k ≡ count → IsUtf8 text →
    TellsLines (suc n) prefix (holes_of p) pieces old new text behind → settled behind ≡ [] → Starts prefix (steps_left p old count ((step.Each blanks, pieces) ∷ others)) text
lines_start n zero count blanks prefix p pieces others old new text behind e u t over =
    let all : suc n ≡ count = omega (arith, e) in
    in_below p old new count (step.Each blanks, pieces) others text behind (subst (λ i. TellsLines i prefix (holes_of p) pieces old new text behind) all t) (ended _ behind over)
lines_start n (suc k) count blanks prefix p pieces others old new text behind e u t over =
    let m : LinesMore (suc n) prefix (holes_of p) pieces old new text = lines_more n prefix (holes_of p) pieces old new text behind u t over in
    let q : List ℕ = repeated (suc k) m.front in
    let x = m.on q in
    let last : TellsLines (suc k) prefix (holes_of p) pieces new new x.0 [] = settled_tells k prefix (holes_of p) pieces new new q x.0 [] x.1 (repeated_told (suc k) prefix (holes_of p) pieces new m.front m.again) in
    let all : TellsLines count prefix (holes_of p) pieces old new (text ++ 10 ∷ q) [] = lines_behind (suc n) (suc k) count prefix (holes_of p) pieces old new new (text ++ 10 ∷ q) x.0 [] e x.2 last in
    let none : (10 ∷ q) ++ [] ≡ 10 ∷ q = append-nil (10 ∷ q) in
    in_own p old new count (step.Each blanks, pieces) others text (10 ∷ q) [] (subst (λ (y : List ℕ). IsUtf8 y) (sym none) (feed_text q (repeated_text (suc k) m.front m.utf8)))
    (subst (λ (y : List ℕ). TellsLines count prefix (holes_of p) pieces old new (text ++ y) []) (sym none) all)

-- the lines up to the next one that counts behind one more
abbrev pub LinesBegun : List ℕ → Growing → ℕ → List Piece → Cursor → Cursor → Type 0
LinesBegun prefix g count pieces c place = (blanks : ℕ) → OfNewLook (next_number c) c (next_number place) (StepStarts prefix g count (step.Each blanks, pieces))

line_more : (prefix : List ℕ) (g : Growing) (count i blanks : ℕ) (pieces : List Piece) (now new : Told) (c place next : Cursor) → i < count → LinesOf prefix (holes_of g.part) pieces (i + 1) i (told g) now c place → IsTaken place next →
    TellsLine prefix (holes_of g.part) pieces now new (left place) (left next) → OfNewLook (next_number place) c (next_number next) (StepStarts prefix g count (step.Each blanks, pieces))
line_more prefix g count i blanks pieces now new c place next lt so_far taken t n le e text front others =
    let y = so_far n le text front.like in
    let z = line_like n place next y.0 prefix (holes_of g.part) pieces now new t taken le y.2.like in
    let one : i < i + 1 = omega arith in
    let read : TellsLines (i + 1) prefix (holes_of g.part) pieces (told g) new text z.0
    = lines_all prefix (holes_of g.part) pieces (i + 1) (i + 1) (told g) new text z.0 (omega arith) (lines_on prefix (holes_of g.part) pieces (i + 1) i (told g) now new text y.0 z.0 one y.1 z.1) in
    let over : settled z.0 ≡ [] = front_over n next z.0 (front_moves n c next text z.0 front (moves_then n c place next text y.0 z.0 y.2 z.2)) (omega (arith, e)) in
    let all : suc i + (count - (i + 1)) ≡ count = omega (arith, lt) in
    let next_one : i + 1 ≡ suc i = omega arith in
    lines_start i (count - (i + 1)) count blanks prefix g.part pieces others (told g) new text z.0 all front.like.is_text (subst (λ k. TellsLines k prefix (holes_of g.part) pieces (told g) new text z.0) next_one read) over

-- one line more
pub lines_begun : (prefix : List ℕ) (kinds : List Kind) (g : Growing) (count i : ℕ) (pieces : List Piece) (now new : Told) (c place next : Cursor) → kinds ≡ holes_of g.part → i < count → IsTaken c place → LinesOf prefix kinds pieces (i + 1) i (told g) now c place →
    IsTaken place next → TellsLine prefix kinds pieces now new (left place) (left next) → LinesBegun prefix g count pieces c place → LinesBegun prefix g count pieces c next
lines_begun prefix kinds g count i pieces now new c place next is lt same so_far taken t before blanks n le e text front =
    let grows = number_grows place next (subst IsUtf8 (sym same) front.like.whole) taken t.takes.rest_is in
    let more = line_more prefix g count i blanks pieces now new c place next lt (subst (λ (ks : List Kind). LinesOf prefix ks pieces (i + 1) i (told g) now c place) is so_far) taken
    (subst (λ (ks : List Kind). TellsLine prefix ks pieces now new (left place) (left next)) is t) in
    look_then (next_number c) (next_number place) (next_number next) c (StepStarts prefix g count (step.Each blanks, pieces)) grows (before blanks) more n le e text front

-- as a step's answer, up to the place behind all of them, or to the line that doesn't fit
pub own_lines_begun : (prefix pre : List ℕ) (g : Growing) (count n blanks line : ℕ) (s : Step) (pieces : List Piece) (c place : Cursor) → s ≡ step.Each blanks → pre ≡ prefix → n ≡ count → line ≡ next_number place → LinesBegun pre g n pieces c place →
    OfNewLook (next_number c) c line (StepStarts prefix g count (s, pieces))
own_lines_begun prefix pre g count n blanks line s pieces c place e p k at x =
    subst (λ (i : ℕ). OfNewLook (next_number c) c i (StepStarts prefix g count (s, pieces))) (sym at)
    (subst (λ (u : Step). OfNewLook (next_number c) c (next_number place) (StepStarts prefix g count (u, pieces))) (sym e)
    (subst (λ (y : List ℕ). OfNewLook (next_number c) c (next_number place) (StepStarts y g count (step.Each blanks, pieces))) p
    (subst (λ (m : ℕ). OfNewLook (next_number c) c (next_number place) (StepStarts pre g m (step.Each blanks, pieces))) k (x blanks))))
