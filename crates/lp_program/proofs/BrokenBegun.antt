-- A table that is broken: the lines before the place at which it is begin it.
use Rattle.std.proofs.Common.{◌≡◌, ℕ, ◌+◌, ◌≤◌, inl, inr, ◌⊎◌, List, [], ◌∷◌, ◌++◌, length, take, drop, true, false, refl, sym, ap, ◌∙◌, arith, subst, append_assoc, append-nil, length-append, length-drop, take-append-drop}
use Rattle.std.specs.Str.{IsUtf8}
use Rattle.std.proofs.lemmas.Bool.{cases_lt}
use Rattle.std.proofs.lemmas.List.{append_cancel_left, append_cancel_right}
use Rattle.lp_form.specs.Templates as template
use Rattle.lp_form.specs.declared.template.Step.TheVariants as step
use Rattle.lp_spelling.specs.Cursors.{left}
use Rattle.lp_spelling.specs.LineNumbers.{number_at}
use Rattle.lp_spelling.specs.TableReading.{IsBroken}
use Rattle.lp_spelling.specs.declared.cursor.Cursor.{Cursor}
use Rattle.lp_local.specs.Agreeing.{first_lines}
use Rattle.lp_local.proofs.Settling.{Left}
use Rattle.lp_local.proofs.Ended.{IsEnded, ended_behind, lines_ended}
use Rattle.lp_local.proofs.Broken.{broken_left}
use Rattle.lp_local.proofs.BrokenClosing.{ClosesTable, broken_closed}
use Rattle.lp_program.specs.declared.read.growing.Growing.{Growing}
use Rattle.lp_program.specs.Nearby.{next_number}
use Rattle.lp_program.specs.Starting.{FrontLike, OfNewLook, StepStarts}
use Rattle.lp_program.specs.Starting.Starts.{in_own}
use Rattle.lp_program.specs.Telling.{told}
use Rattle.lp_program.proofs.Fronts.{lines_part}
use Rattle.lp_program.proofs.Nearby.{left_utf8, number_at_line}
use Rattle.lp_program.proofs.Stopping.{lines_in}

-- what is left goes on behind its first lines
record FirstLeft (c : Cursor) (text : List ℕ) : Type 0 where
  behind : List ℕ
  whole : left c ≡ text ++ behind
  ended : IsEnded text ⊎ (behind ≡ [])

first_left : (n : ℕ) (c : Cursor) (text : List ℕ) → FrontLike n c text → FirstLeft c text
first_left n c text x =
    let w : List ℕ = c.text.now in
    let front : List ℕ = take c.raw w in
    let r = lines_part n w in
    let all : w ≡ front ++ (text ++ r.0) = r.1 ∙ ap (λ (y : List ℕ). y ++ r.0) (sym x.front) ∙ append_assoc front text r.0 in
    let whole : left c ≡ text ++ r.0 = append_cancel_left front (left c) (text ++ r.0) (take-append-drop c.raw w ∙ all) in
    record {
      behind = r.0;
      whole = whole;
      ended = elim (lines_ended n w) [
        | inl e ↦ inl (ended_behind front text (subst (λ (y : List ℕ). IsEnded y) (sym x.front) e))
        | inr e ↦
            let none : first_lines n w ++ [] ≡ first_lines n w ++ r.0 = append-nil (first_lines n w) ∙ e ∙ r.1 in
            inr (sym (append_cancel_left (first_lines n w) [] r.0 none))
      ];
    }

-- what is left from a place on, if that is on the next line or at the end, is behind the first lines
place_behind : (n place : ℕ) (c : Cursor) (text : List ℕ) (x : FrontLike n c text) (l : FirstLeft c text) → Left (left c) (drop place c.text.now) → n + 1 ≡ number_at place c.text.now → length (drop place c.text.now) ≤ length l.behind
place_behind n place c text x l there e =
    let w : List ℕ = c.text.now in
    let front : List ℕ = take c.raw w in
    let size = length-drop place w in
    let whole : left c ≡ there.front ++ drop place w = there.whole in
    let parts = ap length l.whole ∙ length-append text l.behind in
    let parts_of = ap length whole ∙ length-append there.front (drop place w) in
    elim (cases_lt place (length w)) [
      | inr over ↦ omega (arith, over, size)
      | inl lt ↦
          let number = number_at_line place w x.like.counted lt in
          let r = lines_in n (take place w) (drop place w) (omega (arith, number, e)) in
          let at : take place w ≡ front ++ there.front
          = append_cancel_right (take place w) (front ++ there.front) (drop place w)
          (take-append-drop place w ∙ sym (take-append-drop c.raw w) ∙ ap (λ (y : List ℕ). front ++ y) whole ∙ sym (append_assoc front there.front (drop place w))) in
          let lines : first_lines n (take place w ++ drop place w) ≡ front ++ text = ap (first_lines n) (take-append-drop place w) ∙ sym x.front in
          let a = ap length at ∙ length-append front there.front in
          let b = ap length r.1 ∙ length-append (first_lines n (take place w ++ drop place w)) r.0 in
          let d = ap length lines ∙ length-append front text in
          omega (arith, a, b, d, parts, parts_of)
    ]

-- a table that is broken at a place
pub broken_begun : (prefix : List ℕ) (g : Growing) (count place line : ℕ) (pieces : List template.Piece) (c : Cursor) → g.tabled ≡ false → line ≡ number_at place c.text.now → IsBroken true (left c) (drop place c.text.now) →
    OfNewLook (next_number c) c line (StepStarts prefix g count (step.Entries, pieces))
broken_begun prefix g count place line pieces c first at broken n le e text front others =
    let u : IsUtf8 (left c) = left_utf8 c front.like.whole in
    let l : FirstLeft c text = first_left n c text front in
    let behind = place_behind n place c text front l (broken_left true (left c) (drop place c.text.now) u broken) (e ∙ at) in
    let t : ClosesTable text = broken_closed text (left c) (drop place c.text.now) l.behind u broken l.whole behind l.ended in
    in_own g.part (told g) (record { holes = g.holes.items; numbers = t.numbers; tabled = true }) count (step.Entries, pieces) others text t.more (93 ∷ []) t.utf8 (record { first = first; reads = t.reads; new_is = refl })
