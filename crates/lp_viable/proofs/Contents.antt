-- A content with the holes that are told, and for the others the least ones.
use Rattle.std.proofs.Common.{◌≡◌, ℕ, ◌+◌, ◌-◌, ◌^◌, ◌<◌, ◌≤◌, ◌==◌, zero, suc, Bool, true, false, not, inl, inr, List, [], ◌∷◌, ◌++◌, length, get_or, drop, All, FitsSigned, refl, sym, ap, ◌∙◌, subst, arith, length-append, length-drop}
use Rattle.std.specs.Int.{w32}
use Rattle.std.specs.List.{list_all}
use Rattle.std.specs.Str.{IsUtf8}
use Rattle.std.proofs.lemmas.Bool.{and_parts, cases_lt, eqb-true, not-true, both_ways}
use Rattle.std.proofs.lemmas.List.{get_or_append_left, get_or-append_right, get_or-drop}
use Rattle.std.proofs.lemmas.List.Elements.{All-nil, All-cons}
use Rattle.lp_form.specs.Templates.{holes_of}
use Rattle.lp_form.specs.Templates as template
use Rattle.lp_form.specs.declared.part.Part.{Part}
use Rattle.lp_form.specs.declared.template.Kind.{Kind}
use Rattle.lp_form.specs.declared.template.Kind.TheVariants as kind
use Rattle.lp_form.specs.declared.template.Step.{Step}
use Rattle.lp_form.specs.declared.template.Step.TheVariants as step
use Rattle.lp_spelling.specs.Fillings.{has_shape, line_part, Fits, Fills}
use Rattle.lp_spelling.specs.LineReading.{kind_of}
use Rattle.lp_program.specs.Choosing.{grown}
use Rattle.lp_program.specs.Reads.{hole_count, is_prefix, KindsFill}
use Rattle.lp_program.specs.Telling.{Told}
use Rattle.lp_reading_laws.specs.Printing.WellFormed.{is_pattern, HolesFill, IsUseText, StepFits}
use Rattle.lp_reading_laws.proofs.Printing.Own.{Texts}
use Rattle.lp_viable.specs.Least.{least_holes}
use Rattle.lp_viable.specs.StepTests.{told_kind, told_kinds, may_come}
use Rattle.lp_viable.proofs.Least.{least_fills, least_count, prefix_is, step_fits}
use Rattle.lp_viable.proofs.Told.{Keeps, SoFar}

-- there are as many kinds of holes, whether they are told or not
pub length_told : (n : ℕ) (kinds : List Kind) → length (told_kinds n kinds) ≡ length kinds
length_told zero kinds = refl
length_told (suc n) [] = refl
length_told (suc n) (k ∷ kinds) = let h = length_told n kinds in omega (arith, h)

-- a hole that is told may be an empty pattern
pub kind_told : (n : ℕ) (kinds : List Kind) (k : ℕ) → k < n → kind_of (told_kinds n kinds) k ≡ told_kind (kind_of kinds k)
kind_told zero kinds k lt = absurd (omega arith)
kind_told (suc n) [] k lt = refl
kind_told (suc n) (x ∷ kinds) zero lt = refl
kind_told (suc n) (x ∷ kinds) (suc k) lt = kind_told n kinds k (omega arith)

-- a hole that is not told is of its kind
pub kind_left : (n : ℕ) (kinds : List Kind) (k : ℕ) → n ≤ k → kind_of (told_kinds n kinds) k ≡ kind_of kinds k
kind_left zero kinds k le = refl
kind_left (suc n) [] k le = refl
kind_left (suc n) (x ∷ kinds) zero le = absurd (omega arith)
kind_left (suc n) (x ∷ kinds) (suc k) le = kind_left n kinds k (omega arith)

fills_told : (prefix : List ℕ) (k : Kind) (x : List ℕ) → Fills prefix k x → Fills prefix (told_kind k) x
unfolding Fits has_shape line_part
fills_told prefix kind.Pattern x f = (f.0, (refl, f.1.1))
fills_told prefix kind.Patterns x f = (f.0, (refl, f.1.1))
fills_told prefix _ x f = f

never_pattern : (k : Kind) → is_pattern (told_kind k) ≡ false
never_pattern kind.Pattern = refl
never_pattern kind.Patterns = refl
never_pattern _ = refl

-- what is told, with the least ones for the holes that are not
abbrev pub completed : List ℕ → Part → Told → Told
completed prefix p t = record { holes = t.holes ++ drop (length t.holes) (least_holes prefix p); numbers = t.numbers; tabled = t.tabled }

-- what is told is kept
pub completed_keeps : (prefix : List ℕ) (p : Part) (t : Told) → Keeps t (grown p (completed prefix p t))
completed_keeps prefix p t = record { more = drop (length t.holes) (least_holes prefix p); holes_are = refl; numbers = λ y. refl }

-- the part has all its holes then
pub completed_size : (prefix : List ℕ) (p : Part) (t : Told) → length t.holes ≤ hole_count p → length (completed prefix p t).holes ≡ hole_count p
completed_size prefix p t le =
    let all = length-append t.holes (drop (length t.holes) (least_holes prefix p)) in
    let cut = length-drop (length t.holes) (least_holes prefix p) in
    let least = least_count prefix p in
    omega (arith, all, cut, least, le)

hole_told : (prefix : List ℕ) (p : Part) (t : Told) (k : ℕ) → k < length t.holes → get_or (completed prefix p t).holes k [] ≡ get_or t.holes k []
hole_told prefix p t k lt = get_or_append_left t.holes (drop (length t.holes) (least_holes prefix p)) [] k lt

hole_least : (prefix : List ℕ) (p : Part) (t : Told) (k : ℕ) → length t.holes ≤ k → get_or (completed prefix p t).holes k [] ≡ get_or (least_holes prefix p) k []
hole_least prefix p t k le =
    let n : ℕ = length t.holes in
    let at : n + (k - n) ≡ k = omega (arith, le) in
    get_or-append_right t.holes (drop n (least_holes prefix p)) n k [] refl le ∙ get_or-drop n (least_holes prefix p) (k - n) [] ∙ ap (λ i. get_or (least_holes prefix p) i []) at

-- each of them holds what it may
pub completed_fills : (prefix : List ℕ) (p : Part) (t : Told) (n : ℕ) (tabled : Bool) → IsUtf8 prefix → is_prefix prefix ≡ true → SoFar prefix p t n tabled → KindsFill prefix p (completed prefix p t).holes
completed_fills prefix p t n tabled u h s = λ k lt.
    (elim (cases_lt k (length t.holes)) [
      | inl small ↦ subst (λ (x : List ℕ). Fills prefix (kind_of (holes_of p) k) x) (sym (hole_told prefix p t k small)) (s.fills k small lt)
      | inr large ↦ subst (λ (x : List ℕ). Fills prefix (kind_of (holes_of p) k) x) (sym (hole_least prefix p t k large)) (least_fills prefix p u h k lt).0
    ])

-- what a hole of a kind is to hold
abbrev Held : List ℕ → Kind → List ℕ → Type 0
Held prefix k x = Fills prefix k x × (is_pattern k ≡ true → 0 < length x)

told_held : (prefix : List ℕ) (k : Kind) (x : List ℕ) → Fills prefix k x → Held prefix (told_kind k) x
told_held prefix k x f = (fills_told prefix k x f, λ y. absurd (both_ways (is_pattern (told_kind k)) (never_pattern k) y))

holes_held : (prefix : List ℕ) (p : Part) (t : Told) (n : ℕ) (tabled : Bool) → IsUtf8 prefix → is_prefix prefix ≡ true → SoFar prefix p t n tabled → HolesFill prefix (told_kinds n (holes_of p)) (completed prefix p t).holes
holes_held prefix p t n tabled u h s = λ k lt.
    (let some : k < length (holes_of p) = (let e = length_told n (holes_of p) in omega (arith, e, lt)) in
    let size = s.size in
    elim (cases_lt k (length t.holes)) [
      | inl small ↦
          let told : Held prefix (told_kind (kind_of (holes_of p) k)) (get_or t.holes k []) = told_held prefix (kind_of (holes_of p) k) (get_or t.holes k []) (s.fills k small some) in
          subst (λ (q : Kind). Held prefix q (get_or (completed prefix p t).holes k [])) (sym (kind_told n (holes_of p) k (omega (arith, size, small))))
          (subst (λ (x : List ℕ). Held prefix (told_kind (kind_of (holes_of p) k)) x) (sym (hole_told prefix p t k small)) told)
      | inr large ↦
          subst (λ (q : Kind). Held prefix q (get_or (completed prefix p t).holes k [])) (sym (kind_left n (holes_of p) k (omega (arith, size, large))))
          (subst (λ (x : List ℕ). Held prefix (kind_of (holes_of p) k) x) (sym (hole_least prefix p t k large)) (least_fills prefix p u h k some))
    ])

-- so its lines count
pub completed_texts : (prefix : List ℕ) (p : Part) (t : Told) (n : ℕ) (tabled : Bool) → IsUtf8 prefix → is_prefix prefix ≡ true → SoFar prefix p t n tabled → Texts prefix (grown p (completed prefix p t)) (told_kinds n (holes_of p))
completed_texts prefix p t n tabled u h s = record { prefix_is = prefix_is prefix u h; fills = holes_held prefix p t n tabled u h s; notes = All-nil _; few = omega arith }

-- what no line tells: a use has the empty text, and a table no entry
step_held : (prefix : List ℕ) (p : Part) (t : Told) (n : ℕ) (tabled : Bool) (x : Step) → SoFar prefix p t n tabled → may_come p n tabled x ≡ true → StepFits (grown p (completed prefix p t)) x
step_held prefix p t n tabled step.Use s h =
    let q = and_parts (n == 0) (length (holes_of p) == 0) h in
    let none = eqb-true n 0 q.0 in
    let size = s.size in
    subst (λ (x : List ℕ). IsUseText x) (sym (hole_least prefix p t 0 (omega (arith, none, size)))) (step_fits prefix p step.Use q.1)
step_held prefix p t n tabled step.Code s h = absurd (both_ways false refl h)
step_held prefix p t n tabled step.Entries s h = subst (λ (x : List Rattle.std.proofs.Common.ℤ). All (FitsSigned w32) x) (sym (s.none (not-true tabled h))) (All-nil _)
step_held prefix p t n tabled _ s h = tt

-- the steps that may come print what is read as it
pub steps_held : (prefix : List ℕ) (p : Part) (t : Told) (n : ℕ) (tabled : Bool) (ss : List template.Line) → SoFar prefix p t n tabled → list_all (λ l. may_come p n tabled l.0) ss ≡ true →
    All (λ l. StepFits (grown p (completed prefix p t)) l.0) ss
steps_held prefix p t n tabled [] s h = All-nil _
steps_held prefix p t n tabled (l ∷ ss) s h =
    let q = and_parts (may_come p n tabled l.0) (list_all (λ x. may_come p n tabled x.0) ss) h in
    All-cons (λ x. StepFits (grown p (completed prefix p t)) x.0) l ss (step_held prefix p t n tabled l.0 s q.0) (steps_held prefix p t n tabled ss s q.1)
