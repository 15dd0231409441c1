-- A use that is there: the lines before the next one that counts behind it have all of it.
use Rattle.std.proofs.Common.{◌≡◌, ℕ, ◌+◌, ◌-◌, ◌<◌, ◌^◌, ◌==◌, true, eqb, ⊎_elim, inl, inr, List, [], ◌∷◌, ◌++◌, length, get_or, take, drop, codes, refl, sym, ap, ◌∙◌, arith, subst, append_assoc, append-nil, length-append, length-drop, take-append-drop}
use Rattle.std.specs.List.{starts_with, ends_with}
use Rattle.std.specs.Str.{IsUtf8}
use Rattle.std.proofs.lemmas.Bool.{cases_Bool, cases_lt, cond-false, eqb-true, or_cases}
use Rattle.std.proofs.lemmas.List.{append_cancel_right, drop_at, drop-append-le, nil_from_length}
use Rattle.std.proofs.lemmas.List.Sums.{count_by-le-length}
use Rattle.std.proofs.lemmas.Slice.Eq.{bytes_eq-Decides}
use Rattle.lp_form.specs.Templates as template
use Rattle.lp_form.specs.declared.template.Step.TheVariants as step
use Rattle.lp_spelling.specs.Counting.{behind_line, feeds, settled}
use Rattle.lp_spelling.specs.Cursors.{left, IsTaken}
use Rattle.lp_spelling.specs.LineNumbers.{line_number, is_ended, past_last}
use Rattle.lp_spelling.specs.declared.cursor.Cursor.{Cursor}
use Rattle.lp_spelling.proofs.Counting.{settled_skips}
use Rattle.lp_spelling.proofs.Reading.{starts_ok}
use Rattle.lp_local.proofs.Agreeing.{feeds_feed, feeds-append, line_behind, past_more}
use Rattle.lp_local.proofs.Settling.{behind_byte, settled_left}
use Rattle.lp_program.specs.declared.read.growing.Growing.{Growing}
use Rattle.lp_program.specs.CodeReading.{IsUse}
use Rattle.lp_program.specs.Nearby.{next_number}
use Rattle.lp_program.specs.Starting.{OfNewLook, StepStarts}
use Rattle.lp_program.specs.Starting.Starts.{ended, in_below}
use Rattle.lp_program.specs.Telling.{told, TellsText}
use Rattle.lp_program.proofs.Existing.{settled_fine}
use Rattle.lp_program.proofs.Fronts.{front_moves, front_over}
use Rattle.lp_program.proofs.Nearby.{front_next, left_utf8, number_at_end, number_at_line, use_near, use_whole}
use Rattle.lp_program.proofs.Prefixes.{none_skipped}

-- a text that ends with a line feed
pub ended_last : (w : List ℕ) → is_ended w ≡ true → 0 < length w → w ≡ take (length w - 1) w ++ 10 ∷ []
ended_last w h some =
    ⊎_elim
    (λ e. absurd (omega (arith, some, eqb-true (length w) 0 e)))
    (λ x.
    let e : 10 ∷ [] ≡ drop (length w - 1) w = (bytes_eq-Decides (10 ∷ []) (drop (length w - 1) w)).0 x in
    sym (take-append-drop (length w - 1) w) ∙ ap (λ (y : List ℕ). take (length w - 1) w ++ y) (sym e))
    (or_cases (length w == 0) (ends_with eqb w (codes "\n")) h)

-- one whose last line has no line feed
past_open : (w y s : List ℕ) → w ≡ y ++ s → 0 < length s → feeds s ≡ 0 → feeds w + 2 < 2 ^ 64 → past_last w ≡ feeds w + 2
past_open w y s e some none count = elim (cases_Bool (is_ended w)) [
  | inr runs ↦ cond-false (is_ended w) (line_number (feeds w)) (line_number (line_number (feeds w))) runs ∙ omega (arith, count)
  | inl ends ↦
      let size = ap length e ∙ length-append y s in
      let z : List ℕ = take (length w - 1) w in
      let last = ended_last w ends (omega (arith, size, some)) in
      let parts = ap length last ∙ length-append z (10 ∷ []) in
      let rest : s ≡ drop (length y) z ++ 10 ∷ []
      = sym (drop_at y s (length y) refl) ∙ ap (drop (length y)) (sym e ∙ last) ∙ drop-append-le (length y) z (10 ∷ []) (omega (arith, size, some, parts)) in
      let line = ap feeds rest ∙ feeds-append (drop (length y) z) (10 ∷ []) in
      absurd (omega (arith, line, none))
]

-- a use ends on a line before that of the next line that counts
use_before : (n : ℕ) (c next : Cursor) (used : List ℕ) → IsTaken c next → IsUse (left c) used (left next) → IsUtf8 c.text.now → length c.text.now < 2 ^ 64 → feeds c.text.now + 1 < 2 ^ 64 → n + 1 ≡ next_number next → feeds (take next.raw next.text.now) < n
use_before n c next used same is u size count e =
    ⊎_elim
    (λ z. over (nil_from_length (left next) (eqb-true (length (left next)) 0 z)))
    (λ f. goes_on (drop 1 (left next)) (starts_ok (codes "\n") (left next) f))
    (or_cases (length (left next) == 0) (starts_with eqb (left next) (codes "\n")) is.ends)
  where
    w : List ℕ
    w = next.text.now

    front : List ℕ
    front = take next.raw w

    all : w ≡ front ++ left next
    all = sym (take-append-drop next.raw w)

    lines : feeds w ≡ feeds front + feeds (left next)
    lines = ap feeds all ∙ feeds-append front (left next)

    counted : feeds w + 1 < 2 ^ 64
    counted = let f = ap feeds same in omega (arith, f, count)

    over : left next ≡ [] → feeds front < n
    over none =
        let l = settled_left (left c) (left_utf8 c u) in
        let x : List ℕ = codes "use " ++ (used ++ codes ";") in
        let whole : settled (left c) ≡ x ++ left next = is.front ∙ use_whole used (left next) in
        let text : left c ≡ (l.front ++ x) ++ left next = l.whole ∙ ap (λ (y : List ℕ). l.front ++ y) whole ∙ sym (append_assoc l.front x (left next)) in
        let there : front ≡ take c.raw c.text.now ++ (l.front ++ x) = front_next c next (l.front ++ x) same text in
        let y : List ℕ = take c.raw c.text.now ++ (l.front ++ (codes "use " ++ used)) in
        let ending : front ≡ y ++ codes ";"
        = there ∙ ap (λ (z : List ℕ). take c.raw c.text.now ++ (l.front ++ z)) (sym (append_assoc (codes "use ") used (codes ";")))
        ∙ ap (λ (z : List ℕ). take c.raw c.text.now ++ z) (sym (append_assoc l.front (codes "use " ++ used) (codes ";"))) ∙ sym (append_assoc (take c.raw c.text.now) (l.front ++ (codes "use " ++ used)) (codes ";")) in
        let is_all : w ≡ front = all ∙ ap (λ (z : List ℕ). front ++ z) none ∙ append-nil front in
        let a = length-append (take c.raw c.text.now) (l.front ++ x) in
        let b = length-append l.front x in
        let d = length-append (codes "use ") (used ++ codes ";") in
        let f = feeds-append (take c.raw c.text.now) (l.front ++ x) in
        let g = feeds-append l.front x in
        let h = feeds-append (codes "use ") (used ++ codes ";") in
        let i = count_by-le-length (λ k. k == 10) (take c.raw c.text.now) in
        let j = count_by-le-length (λ k. k == 10) l.front in
        let k = count_by-le-length (λ k. k == 10) (used ++ codes ";") in
        let no_feed : feeds (codes "use ") ≡ 0 = refl in
        let four : length (codes "use ") ≡ 4 = refl in
        let long = ap length (is_all ∙ there) in
        let few = ap feeds (is_all ∙ there) in
        let small : length w < 2 ^ 64 = (let m = ap length same in omega (arith, m, size)) in
        let last = past_open w y (codes ";") (is_all ∙ ending) (omega arith) refl (omega (arith, a, b, d, f, g, h, i, j, k, no_feed, four, long, few, small)) in
        let start = sym (length-drop next.start w) ∙ ap length next.start_is ∙ ap (λ (t : List ℕ). length (settled t)) none in
        let nothing : length (settled []) ≡ 0 = (let t = (settled_fine [] ([], (refl, refl))).1 in omega (arith, t)) in
        let number = number_at_end next.start w (omega (arith, start, nothing)) in
        let here = ap feeds is_all in
        omega (arith, e, number, last, here)

    shorter : (t : List ℕ) → left next ≡ 10 ∷ t → length (settled (left next)) < length (left next)
    shorter t is_feed =
        let skips : settled (10 ∷ t) ≡ settled (behind_line (10 ∷ t)) = settled_skips (10 ∷ t) (omega arith) none_skipped in
        let v : IsUtf8 t = behind_byte [] 10 t (omega arith) (subst (λ (x : List ℕ). IsUtf8 x) is_feed (left_utf8 next (subst (λ (x : List ℕ). IsUtf8 x) (sym same) u))) in
        let behind : behind_line (10 ∷ t) ≡ t = line_behind [] t refl in
        let short = (settled_fine t v).1 in
        let a = ap (λ (x : List ℕ). length (settled x)) is_feed ∙ ap length (skips ∙ ap settled behind) in
        let b = ap length is_feed in
        omega (arith, a, b, short)

    front_feed : (x y t : List ℕ) → x ++ y ≡ 10 ∷ t → length y < length (x ++ y) → 0 < feeds x
    front_feed [] y t is lt = absurd (omega (arith, lt))
    front_feed (b ∷ x) y t is lt =
        let ten : b ≡ 10 = ap (λ (z : List ℕ). get_or z 0 0) is in
        let one = feeds_feed b x (ap (λ k. k == 10) ten) in
        omega (arith, one)

    goes_on : (t : List ℕ) → left next ≡ 10 ∷ t → feeds front < n
    goes_on t is_feed = elim (cases_lt 0 (length (settled (left next)))) [
      | inr none ↦
          let start = sym (length-drop next.start w) ∙ ap length next.start_is in
          let number = number_at_end next.start w (omega (arith, start, none)) in
          let more = past_more w counted in
          let feed = ap feeds is_feed ∙ feeds-append (10 ∷ []) t in
          omega (arith, e, number, more, lines, feed)
      | inl some ↦
          let u_next : IsUtf8 (left next) = left_utf8 next (subst (λ (x : List ℕ). IsUtf8 x) (sym same) u) in
          let l = settled_left (left next) u_next in
          let start : drop next.start w ≡ settled (left next) = next.start_is in
          let size = sym (length-drop next.start w) ∙ ap length start in
          let number = number_at_line next.start w counted (omega (arith, size, some)) in
          let at : take next.start w ≡ front ++ l.front
          = append_cancel_right (take next.start w) (front ++ l.front) (settled (left next))
          (ap (λ (x : List ℕ). take next.start w ++ x) (sym start) ∙ take-append-drop next.start w ∙ all ∙ ap (λ (x : List ℕ). front ++ x) l.whole ∙ sym (append_assoc front l.front (settled (left next)))) in
          let some_feed = front_feed l.front (settled (left next)) t (sym l.whole ∙ is_feed) (subst (λ (x : List ℕ). length (settled (left next)) < length x) l.whole (shorter t is_feed)) in
          let counts = ap feeds at ∙ feeds-append front l.front in
          omega (arith, e, number, counts, some_feed)
    ]

pub use_begun : (prefix : List ℕ) (g h : Growing) (count : ℕ) (pieces : List template.Piece) (c next : Cursor) → IsTaken c next → TellsText g.part (IsUse (left c)) (told g) (told h) (left next) →
    OfNewLook (next_number c) c (next_number next) (StepStarts prefix g count (step.Use, pieces))
use_begun prefix g h count pieces c next same t n l e text front others =
    let like = front.like in
    let far = use_before n c next t.text same t.is_text like.whole like.sized like.counted e in
    let v = use_near n c next text t.text same t.is_text l far like in
    let there = front_moves n c next text v.0 front v.2 in
    let tells : TellsText g.part (IsUse text) (told g) (told h) v.0 = record { bare = t.bare; first = t.first; text = t.text; is_text = v.1; behind = (v.2).like.is_text; new_is = t.new_is } in
    in_below g.part (told g) (told h) count (step.Use, pieces) others text v.0 tells (ended _ v.0 (front_over n next v.0 there (omega (arith, e))))
