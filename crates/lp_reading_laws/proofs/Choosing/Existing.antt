-- A program as a text tells it, entry by entry.
use Rattle.std.proofs.Common.{◌≡◌, ℕ, zero, suc, Bool, if◌then◌else◌, cond, List, [], ◌∷◌, length, map, take, drop, refl, sym, ap, ◌∙◌, arith, inl, inr}
use Rattle.std.proofs.lemmas.Bool.{cases_Bool, cond-true, cond-false}
use Rattle.std.proofs.lemmas.List.{length-map, take-map, drop-map}
use Rattle.lp_form.specs.Templates.{steps_of}
use Rattle.lp_tree.specs.declared.tree.Entry.{Entry}
use Rattle.lp_program.specs.Trees.{Content, content, forest, forest_within, whole}
use Rattle.lp_program.specs.Trees.Forest.{bare, tree}
use Rattle.lp_program.proofs.Whole.{refused_itself}
use Rattle.lp_reading_laws.specs.Choosing.Laws.{have_table, told_content, told_trees, EachIsTold, SomeIsChosen, NeverRefused}
use Rattle.lp_reading_laws.proofs.Choosing.Law.{programs_are_chosen}

-- an entry as it is told
abbrev without_notes : Entry → Entry
without_notes e = record e { notes = record e.notes { items = []; len = 0; cap = 1; ok = (refl, omega arith); small = omega arith } }

abbrev without_numbers : Entry → Entry
without_numbers e = record e { numbers = record e.numbers { items = []; len = 0; cap = 1; ok = (refl, omega arith); small = omega arith } }

abbrev entry_told : Entry → Entry
entry_told e = if have_table (steps_of e.part) then without_notes e else without_numbers (without_notes e)

content_same : (e : Entry) → content (entry_told e) ≡ told_content (content e)
content_same e =
    let told : Bool → Content = λ b. record { part = e.part; holes = e.holes.items; numbers = cond b e.numbers.items []; notes = [] } in
    elim (cases_Bool (have_table (steps_of e.part))) [
      | inl y ↦ ap content (cond-true (have_table (steps_of e.part)) (without_notes e) (without_numbers (without_notes e)) y) ∙ sym (ap told y)
      | inr n ↦ ap content (cond-false (have_table (steps_of e.part)) (without_notes e) (without_numbers (without_notes e)) n) ∙ sym (ap told n)
    ]

below_same : (e : Entry) → (entry_told e).below ≡ e.below
below_same e = elim (cases_Bool (have_table (steps_of e.part))) [
  | inl y ↦ ap (λ (x : Entry). x.below) (cond-true (have_table (steps_of e.part)) (without_notes e) (without_numbers (without_notes e)) y)
  | inr n ↦ ap (λ (x : Entry). x.below) (cond-false (have_table (steps_of e.part)) (without_notes e) (without_numbers (without_notes e)) n)
]

within_same : (n : ℕ) (es : List Entry) → forest_within n (map entry_told es) ≡ told_trees (forest_within n es)
unfolding forest_within
within_same zero es = refl
within_same (suc n) [] = refl
within_same (suc n) (e ∷ es) =
    ap (λ x. tree x (forest_within n (take (entry_told e).below (map entry_told es))) (forest_within n (drop (entry_told e).below (map entry_told es)))) (content_same e)
    ∙ ap (λ k. tree (told_content (content e)) (forest_within n (take k (map entry_told es))) (forest_within n (drop k (map entry_told es)))) (below_same e)
    ∙ ap (λ x. tree (told_content (content e)) (forest_within n x) (forest_within n (drop e.below (map entry_told es)))) (take-map entry_told e.below es)
    ∙ ap (λ x. tree (told_content (content e)) (forest_within n (map entry_told (take e.below es))) (forest_within n x)) (drop-map entry_told e.below es)
    ∙ ap (λ x. tree (told_content (content e)) x (forest_within n (map entry_told (drop e.below es)))) (within_same n (take e.below es))
    ∙ ap (λ x. tree (told_content (content e)) (told_trees (forest_within n (take e.below es))) x) (within_same n (drop e.below es))

forest_same : (es : List Entry) → forest (map entry_told es) ≡ told_trees (forest es)
unfolding forest
forest_same es = ap (λ n. forest_within n (map entry_told es)) (length-map es entry_told) ∙ within_same (length es) es

whole_same : (es : List Entry) → whole (map entry_told es) ≡ told_trees (whole es)
whole_same [] = refl
whole_same (e ∷ es) = ap (λ x. tree x (forest (map entry_told es)) bare) (content_same e) ∙ ap (λ x. tree (told_content (content e)) x bare) (forest_same es)

pub each_is_told : EachIsTold
each_is_told program = (
  record program {
    entries = record program.entries {
      items = map entry_told program.entries.items;
      ok = (program.entries.ok.0 ∙ sym (length-map program.entries.items entry_told), program.entries.ok.1);
    };
  },
  refl,
  whole_same program.entries.items,
)

pub some_is_chosen : SomeIsChosen
some_is_chosen text program u r =
    let t = each_is_told program in
    (t.0, programs_are_chosen text program t.0 u r t.1 t.2)

pub never_refused : NeverRefused
never_refused text program line u r refused = let c = some_is_chosen text program u r in refused_itself text line u refused c.0 c.1
