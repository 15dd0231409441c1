-- The first lines of a text: what is left of them, and that nothing counts in front of the next line that does.
use Rattle.std.proofs.Common.{◌≡◌, ℕ, zero, suc, ◌-◌, ◌<◌, ◌==◌, cond, inl, inr, List, [], ◌∷◌, ◌++◌, length, take, drop, refl, sym, ap, ◌∙◌, arith, append_assoc, append-nil, length-append, length-drop, take-append-drop}
use Rattle.std.proofs.lemmas.Bool.{cases_lt, cond-true, cond-false, cases_Bool}
use Rattle.std.proofs.lemmas.List.{append_cancel_right, nil_from_length}
use Rattle.lp_spelling.specs.Counting.{feeds, settled}
use Rattle.lp_spelling.specs.Cursors.{left}
use Rattle.lp_spelling.specs.declared.cursor.Cursor.{Cursor}
use Rattle.lp_local.specs.Agreeing.{first_lines, Agree}
use Rattle.lp_local.proofs.Agreeing.{feeds-append, feeds_feed, feeds_text, agree_behind, before_rest}
use Rattle.lp_local.proofs.Settling.{settled_left, settled_shared}
use Rattle.lp_program.specs.Nearby.{next_number, Moves}
use Rattle.lp_program.specs.Starting.{FrontLike}
use Rattle.lp_program.proofs.Nearby.{number_at_line}

-- a text goes on behind its first lines
pub lines_part : (n : ℕ) (t : List ℕ) → (rest : List ℕ) × (t ≡ first_lines n t ++ rest)
unfolding first_lines
lines_part n [] = ([], refl)
lines_part zero (b ∷ t) = (b ∷ t, refl)
lines_part (suc n) (b ∷ t) = let r = lines_part (cond (b == 10) n (suc n)) t in (r.0, ap (λ (x : List ℕ). b ∷ x) r.1)

pub lines_again_of : (n : ℕ) (t : List ℕ) → Agree n (first_lines n t) t
unfolding first_lines
lines_again_of n [] = refl
lines_again_of zero (b ∷ t) = refl
lines_again_of (suc n) (b ∷ t) = ap (λ (x : List ℕ). b ∷ x) (lines_again_of (cond (b == 10) n (suc n)) t)

-- a text with the same first lines as another, and no more of it, is these lines
lines_alone : (n : ℕ) (y w : List ℕ) → Agree n y w → length y ≡ length (first_lines n w) → y ≡ first_lines n w
lines_alone n y w agree size =
    let r = lines_part n y in
    let whole = ap length r.1 ∙ length-append (first_lines n y) r.0 in
    let same = ap length agree in
    let none : r.0 ≡ [] = nil_from_length r.0 (omega (arith, whole, same, size)) in
    r.1 ∙ ap (λ (x : List ℕ). first_lines n y ++ x) none ∙ append-nil (first_lines n y) ∙ agree

-- of the first lines as much is left as of a text that is like the rest
pub front_moves : (n : ℕ) (a b : Cursor) (text rest : List ℕ) → FrontLike n a text → Moves n a b text rest → FrontLike n b rest
front_moves n a b text rest x m =
    let w : List ℕ = a.text.now in
    let v : List ℕ = b.text.now in
    let here = length-append (take a.raw w) text in
    let there = length-append (take b.raw v) rest in
    let all = ap length (take-append-drop a.raw w) in
    let parts = length-append (take a.raw w) (drop a.raw w) in
    let all_of = ap length (take-append-drop b.raw v) in
    let parts_of = length-append (take b.raw v) (drop b.raw v) in
    let same = ap length m.taken in
    let lines = ap length x.front in
    let lines_of = ap (λ (t : List ℕ). length (first_lines n t)) m.taken in
    let size = m.size in
    record { like = m.like; front = lines_alone n (take b.raw v ++ rest) v m.like.same (omega (arith, here, there, all, parts, all_of, parts_of, same, lines, lines_of, size)) }

-- in front of a line that is there fewer lines end
pub lines_before_more : (n : ℕ) (x y : List ℕ) → first_lines n (x ++ y) ≡ x ++ y → 0 < length y → feeds x < n
unfolding first_lines
lines_before_more zero [] [] e some = absurd (omega (arith, some))
lines_before_more zero [] (b ∷ y) e some = absurd (omega (arith, ap length e))
lines_before_more zero (b ∷ x) y e some = absurd (omega (arith, ap length e))
lines_before_more (suc n) [] y e some = omega arith
lines_before_more (suc n) (b ∷ x) y e some = elim (cases_Bool (b == 10)) [
  | inl feed ↦
      let next : first_lines n (x ++ y) ≡ x ++ y = sym (ap (λ k. first_lines k (x ++ y)) (cond-true (b == 10) n (suc n) feed)) ∙ ap (drop 1) e in
      let lt = lines_before_more n x y next some in
      let one = feeds_feed b x feed in
      omega (arith, lt, one)
  | inr other ↦
      let next : first_lines (suc n) (x ++ y) ≡ x ++ y = sym (ap (λ k. first_lines k (x ++ y)) (cond-false (b == 10) n (suc n) other)) ∙ ap (drop 1) e in
      let lt = lines_before_more (suc n) x y next some in
      let one = feeds_text b x other in
      omega (arith, lt, one)
]

lines_again : (n : ℕ) (a : Cursor) (text : List ℕ) → FrontLike n a text → first_lines n (take a.raw a.text.now ++ text) ≡ take a.raw a.text.now ++ text
lines_again n a text x = x.like.same ∙ sym x.front

-- where the next line that counts is behind the first lines, nothing in them counts
pub front_over : (n : ℕ) (a : Cursor) (text : List ℕ) → FrontLike n a text → n < next_number a → settled text ≡ []
front_over n a text x lt = elim (cases_lt 0 (length (settled text))) [
  | inr none ↦ nil_from_length (settled text) (omega (arith, none))
  | inl some ↦
      let w : List ℕ = a.text.now in
      let front : List ℕ = take a.raw w in
      let like = x.like in
      let l = settled_left text like.is_text in
      let whole : front ++ text ≡ (front ++ l.front) ++ settled text = ap (λ (t : List ℕ). front ++ t) l.whole ∙ sym (append_assoc front l.front (settled text)) in
      let short : first_lines n ((front ++ l.front) ++ settled text) ≡ (front ++ l.front) ++ settled text = sym (ap (first_lines n) whole) ∙ lines_again n a text x ∙ whole in
      let few = lines_before_more n (front ++ l.front) (settled text) short some in
      let both = feeds-append front l.front in
      let before = before_rest l.front (settled text) text l.whole in
      let near : Agree (n - feeds front) text (left a)
      = agree_behind n front text (left a) (omega (arith, few, both)) (like.same ∙ sym (ap (first_lines n) (take-append-drop a.raw w))) in
      let s = settled_shared (n - feeds front) text (left a) like.is_text some (omega (arith, few, both, before)) near in
      let there = before_rest s.front (settled text) text s.a_is in
      let start : drop a.start w ≡ settled (left a) = a.start_is in
      let size = sym (length-drop a.start w) ∙ ap length start in
      let in_text = s.some in
      let number = number_at_line a.start w like.counted (omega (arith, size, in_text)) in
      let at : take a.start w ≡ front ++ s.front
      = append_cancel_right (take a.start w) (front ++ s.front) (settled (left a))
      (ap (λ (t : List ℕ). take a.start w ++ t) (sym start) ∙ take-append-drop a.start w ∙ sym (take-append-drop a.raw w) ∙ ap (λ (t : List ℕ). front ++ t) s.b_is ∙ sym (append_assoc front s.front (settled (left a)))) in
      let ended = ap feeds at ∙ feeds-append front s.front in
      absurd (omega (arith, number, lt, ended, there, before, few, both))
]
