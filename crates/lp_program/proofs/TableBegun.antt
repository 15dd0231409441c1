-- A table that is there: the lines before the one at which it ends begin it.
use Rattle.std.proofs.Common.{◌≡◌, ℕ, ℤ, zero, suc, ◌==◌, Bool, true, false, cond, List, [], ◌∷◌, length, drop, codes, Option, Some, None, refl, sym, ap, ◌∙◌, arith, eqb, ltb, subst}
use Rattle.std.specs.List.{starts_with}
use Rattle.std.specs.Str.{IsUtf8}
use Rattle.std.proofs.lemmas.Bool.{cond_both, eqb-true}
use Rattle.lp_form.specs.Templates as template
use Rattle.lp_form.specs.declared.template.Step.TheVariants as step
use Rattle.lp_spelling.specs.Counting.{line_len, settled}
use Rattle.lp_spelling.specs.Cursors.{left, IsTaken}
use Rattle.lp_spelling.specs.LineReading.{◌>>=◌}
use Rattle.lp_spelling.specs.TableReading.{entry_in, blank_len, Front, entry_front, front_after_blank, front_of, Table, with_number, goes_on_after, entries_within, entries}
use Rattle.lp_spelling.specs.TableReading.Front.{feed, skip, ends, found_entry, wrong}
use Rattle.lp_spelling.specs.declared.cursor.Cursor.{Cursor}
use Rattle.lp_local.proofs.Settling.{behind_byte}
use Rattle.lp_local.proofs.Tables.{entries_left}
use Rattle.lp_program.specs.declared.read.growing.Growing.{Growing}
use Rattle.lp_program.specs.Nearby.{next_number}
use Rattle.lp_program.specs.Starting.{OfNewLook, StepStarts}
use Rattle.lp_program.specs.Telling.{Told, told, TellsTable}
use Rattle.lp_program.proofs.Nearby.{left_utf8}
use Rattle.lp_program.proofs.Stopping.{mark_here, own_stops}

-- the entries of a table end at a `]`
closes_read : (go : Bool → List ℕ → Option Table) (at_front : Bool) (text : List ℕ) (f : Front) (t : Table) → front_of text ≡ f → goes_on_after go at_front text f ≡ Some t → ((g : Bool) (r : List ℕ) (x : Table) → go g r ≡ Some x → front_of x.1 ≡ ends) →
    front_of t.1 ≡ ends
closes_read go at_front text (feed r) t e h later = later true r t h
closes_read go at_front text (skip r) t e h later = later at_front r t h
closes_read go true text ends t e h later = let same : ([], text) ≡ t = cc in subst (λ (x : Table). front_of x.1 ≡ ends) same e
closes_read go false text ends t e h later = absurd cc
closes_read go at_front text (found_entry z r) t e h later = of_entry go z r t (go false r) refl h (later false r)
  where
    of_entry : (go : Bool → List ℕ → Option Table) (z : ℤ) (r : List ℕ) (t : Table) (o : Option Table) → go false r ≡ o → (o >>= λ table. Some (with_number z table)) ≡ Some t →
        ((x : Table) → go false r ≡ Some x → front_of x.1 ≡ ends) → front_of t.1 ≡ ends
    of_entry go z r t None e h later = absurd cc
    of_entry go z r t (Some x) e h later =
        let same : with_number z x ≡ t = cc in
        subst (λ (y : Table). front_of y.1 ≡ ends) same (later x e)
closes_read go at_front text wrong t e h later = absurd cc

within_closes : (m : ℕ) (at_front : Bool) (text : List ℕ) (t : Table) → entries_within m at_front text ≡ Some t → front_of t.1 ≡ ends
unfolding entries_within
within_closes zero at_front text t h = absurd cc
within_closes (suc m) at_front text t h = closes_read (entries_within m) at_front text (front_of text) t refl h (λ g r x e. within_closes m g r x e)

entries_close : (text : List ℕ) (numbers : List ℤ) (rest : List ℕ) → entries text ≡ Some (numbers, rest) → front_of rest ≡ ends
unfolding entries
entries_close text numbers rest h = within_closes (length text) true text (numbers, rest) h

entry_ends : (o : Option (ℤ × List ℕ)) → entry_front o ≡ ends → ⊥
entry_ends None e = cc
entry_ends (Some x) e = cc

bracket_first : (rest : List ℕ) → front_of rest ≡ ends → rest ≡ 93 ∷ drop 1 rest
unfolding front_of
bracket_first [] h = absurd cc
bracket_first (b ∷ t) h =
    cond_both (b == 10) (feed t) (cond (starts_with eqb (b ∷ t) (codes "//")) (skip (drop (line_len (b ∷ t)) (b ∷ t))) (cond (b == 93) ends (front_after_blank (b ∷ t)))) (λ f. f ≡ ends → b ∷ t ≡ 93 ∷ t)
    (λ y e. absurd cc)
    (λ n.
    cond_both (starts_with eqb (b ∷ t) (codes "//")) (skip (drop (line_len (b ∷ t)) (b ∷ t))) (cond (b == 93) ends (front_after_blank (b ∷ t))) (λ f. f ≡ ends → b ∷ t ≡ 93 ∷ t)
    (λ y e. absurd cc)
    (λ s.
    cond_both (b == 93) ends (front_after_blank (b ∷ t)) (λ f. f ≡ ends → b ∷ t ≡ 93 ∷ t)
    (λ y e. ap (λ (c : ℕ). c ∷ t) (eqb-true b 93 y))
    (λ y.
    cond_both (ltb 0 (blank_len (b ∷ t))) (skip (drop (blank_len (b ∷ t)) (b ∷ t))) (entry_front (entry_in (b ∷ t))) (λ f. f ≡ ends → b ∷ t ≡ 93 ∷ t)
    (λ k e. absurd cc)
    (λ k e. absurd (entry_ends (entry_in (b ∷ t)) e)))))
    h

-- a table that is there
pub table_begun : (prefix : List ℕ) (g : Growing) (count : ℕ) (pieces : List template.Piece) (new : Told) (c next : Cursor) (numbers : List ℤ) → IsTaken c next → entries (left c) ≡ Some (numbers, left next) → TellsTable (told g) new (left c) (left next) →
    OfNewLook (next_number c) c (next_number next) (StepStarts prefix g count (step.Entries, pieces))
table_begun prefix g count pieces new c next numbers same is t n l e text front others =
    let l_is = entries_left (left c) numbers (left next) (left_utf8 c front.like.whole) is in
    let bracket : left next ≡ 93 ∷ drop 1 (left next) = bracket_first (left next) (entries_close (left c) numbers (left next) is) in
    let u : IsUtf8 (drop 1 (left next)) = behind_byte [] 93 (drop 1 (left next)) (omega arith) (subst (λ (x : List ℕ). IsUtf8 x) bracket l_is.utf8) in
    let here : settled (left next) ≡ left next = ap settled bracket ∙ mark_here 93 (drop 1 (left next)) (omega arith) refl refl (λ y. refl) u ∙ sym bracket in
    own_stops prefix g count (step.Entries, pieces) new c next l_is.front same l_is.whole here (omega (arith, ap length bracket)) t n l e text front others
