-- A table ends at a `]`, and what is left of its text stands there.
use Rattle.std.proofs.Common.{◌≡◌, ℕ, ℤ, ◌==◌, zero, suc, Bool, true, false, List, [], ◌∷◌, ◌++◌, length, take, drop, codes, Option, Some, None, inl, inr, refl, sym, ◌∙◌, ap, subst, eqb, ltb, append_assoc, take-append-drop}
use Rattle.std.specs.List.{starts_with}
use Rattle.std.proofs.lemmas.Bool.{cases_Bool, cond-true, cond-false, eqb-true}
use Rattle.lp_spelling.specs.Counting.{line_len}
use Rattle.lp_spelling.specs.LineReading.{after}
use Rattle.lp_spelling.specs.TableReading.{number_of, number_end, entry_in, blank_len, Front, entry_front, front_after_blank, front_of, Table, goes_on_after, entries_within, entries}
use Rattle.lp_spelling.specs.TableReading.Front.{feed, skip, ends, found_entry, wrong}
use Rattle.lp_spelling.proofs.Reading.{bind_some, after_ok}

-- a text has another at its end
abbrev pub Ends : List ℕ → List ℕ → Type 0
Ends text rest = (front : List ℕ) × (text ≡ front ++ rest)

pub ends_on : (text mid rest : List ℕ) → Ends text mid → Ends mid rest → Ends text rest
ends_on text mid rest a b = (a.0 ++ b.0, a.1 ∙ ap (λ (x : List ℕ). a.0 ++ x) b.1 ∙ sym (append_assoc a.0 b.0 rest))

pub drop_ends : (n : ℕ) (text : List ℕ) → Ends text (drop n text)
drop_ends n text = (take n text, sym (take-append-drop n text))

-- what a front leaves is an end of the text; a table's end is a `]`
abbrev Leaves : List ℕ → Front → Type 0
Leaves text (feed rest) = Ends text rest
Leaves text (skip rest) = Ends text rest
Leaves text ends = (rest : List ℕ) × (text ≡ 93 ∷ rest)
Leaves text (found_entry z rest) = Ends text rest
Leaves text wrong = Unit {0}

entry_leaves : (text : List ℕ) (o : Option (ℤ × List ℕ)) → entry_in text ≡ o → Leaves text (entry_front o)
unfolding entry_in
entry_leaves text None e = tt
entry_leaves text (Some x) e =
    let a = bind_some (number_of (take (number_end text) text)) _ x e in
    let b = bind_some (after (codes ",") (drop (number_end text) text)) _ x a.2 in
    let whole : drop (number_end text) text ≡ codes "," ++ b.0 = after_ok (codes ",") (drop (number_end text) text) b.0 b.1 in
    let same : b.0 ≡ x.1 = ap (λ (o : Option (ℤ × List ℕ)). rest_of o) b.2 in
    let front : List ℕ = take (number_end text) text in
    (front ++ codes ",", sym (take-append-drop (number_end text) text) ∙ ap (λ (y : List ℕ). front ++ y) whole ∙ sym (append_assoc front (codes ",") b.0) ∙ ap (λ (y : List ℕ). (front ++ codes ",") ++ y) same)
  where
    rest_of : Option (ℤ × List ℕ) → List ℕ
    rest_of None = []
    rest_of (Some y) = y.1

blank_leaves : (text : List ℕ) → Leaves text (front_after_blank text)
blank_leaves text = elim (cases_Bool (ltb 0 (blank_len text))) [
  | inl y ↦ subst (λ f. Leaves text f) (sym (cond-true (ltb 0 (blank_len text)) (skip (drop (blank_len text) text)) (entry_front (entry_in text)) y)) (drop_ends (blank_len text) text)
  | inr n ↦ subst (λ f. Leaves text f) (sym (cond-false (ltb 0 (blank_len text)) (skip (drop (blank_len text) text)) (entry_front (entry_in text)) n)) (entry_leaves text (entry_in text) refl)
]

front_leaves : (text : List ℕ) → Leaves text (front_of text)
unfolding front_of
front_leaves [] = tt
front_leaves (b ∷ t) =
    let text : List ℕ = b ∷ t in
    elim (cases_Bool (b == 10)) [
      | inl y ↦ subst (λ f. Leaves text f) (sym (cond-true (b == 10) (feed t) _ y)) (b ∷ [], refl)
      | inr n ↦ subst (λ f. Leaves text f) (sym (cond-false (b == 10) (feed t) _ n)) (
          elim (cases_Bool (starts_with eqb text (codes "//"))) [
            | inl y ↦ subst (λ f. Leaves text f) (sym (cond-true (starts_with eqb text (codes "//")) (skip (drop (line_len text) text)) _ y)) (drop_ends (line_len text) text)
            | inr m ↦ subst (λ f. Leaves text f) (sym (cond-false (starts_with eqb text (codes "//")) (skip (drop (line_len text) text)) _ m)) (
                elim (cases_Bool (b == 93)) [
                  | inl y ↦ subst (λ f. Leaves text f) (sym (cond-true (b == 93) ends _ y)) (t, ap (λ (x : ℕ). x ∷ t) (eqb-true b 93 y))
                  | inr k ↦ subst (λ f. Leaves text f) (sym (cond-false (b == 93) ends (front_after_blank text) k)) (blank_leaves text)
                ])
          ])
    ]

-- what is left of a table, and that it begins with a `]`
abbrev LeftAt : List ℕ → List ℕ → Type 0
LeftAt text rest = (front : List ℕ) × (text ≡ front ++ rest) × (rest ≡ 93 ∷ drop 1 rest)

left_on : (text mid rest : List ℕ) → Ends text mid → LeftAt mid rest → LeftAt text rest
left_on text mid rest a b = let e = ends_on text mid rest a (b.0, b.1) in (e.0, e.1, b.2)

left_here : (text rest : List ℕ) → (r : List ℕ) × (text ≡ 93 ∷ r) → text ≡ rest → LeftAt text rest
left_here text rest a e =
    let is : rest ≡ 93 ∷ a.0 = sym e ∙ a.1 in
    ([], e, is ∙ ap (λ (x : List ℕ). 93 ∷ drop 1 x) (sym is))

table_left : (t : Option Table) → List ℕ
table_left None = []
table_left (Some t) = t.1

goes_left : (n : ℕ) (at_front : Bool) (text : List ℕ) (f : Front) (table : Table) → ((b : Bool) (x : List ℕ) (t : Table) → entries_within n b x ≡ Some t → LeftAt x t.1) →
    Leaves text f → goes_on_after (entries_within n) at_front text f ≡ Some table → LeftAt text table.1
unfolding table_left
goes_left n at_front text (feed rest) table again l e = left_on text rest table.1 l (again true rest table e)
goes_left n at_front text (skip rest) table again l e = left_on text rest table.1 l (again at_front rest table e)
goes_left n true text ends table again l e = left_here text table.1 l (ap table_left e)
goes_left n false text ends table again l e = absurd cc
goes_left n at_front text (found_entry z rest) table again l e =
    let a = bind_some (entries_within n false rest) _ table e in
    left_on text rest table.1 l (subst (λ (x : List ℕ). LeftAt rest x) (ap table_left a.2) (again false rest a.0 a.1))
goes_left n at_front text wrong table again l e = absurd cc

within_left : (n : ℕ) (at_front : Bool) (text : List ℕ) (table : Table) → entries_within n at_front text ≡ Some table → LeftAt text table.1
unfolding entries_within
within_left zero at_front text table e = absurd cc
within_left (suc n) at_front text table e = goes_left n at_front text (front_of text) table (λ b x t k. within_left n b x t k) (front_leaves text) e

pub entries_follow : (text : List ℕ) (numbers : List ℤ) (rest : List ℕ) → entries text ≡ Some (numbers, rest) → (front : List ℕ) × (text ≡ front ++ rest) × (rest ≡ 93 ∷ drop 1 rest)
unfolding entries
entries_follow text numbers rest e = within_left (length text) true text (numbers, rest) e
