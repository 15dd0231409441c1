-- A program as it is read, entry by entry, and its user code.
use Rattle.std.proofs.Common.{◌≡◌, ℕ, zero, suc, Bool, true, false, if◌then◌else◌, List, [], ◌∷◌, length, map, get_or, take, drop, refl, sym, ap, ◌∙◌, arith, inl, inr, codes, ◌++◌}
use Rattle.std.specs.Str.{bytes_eq, trim_start, chars}
use lib.Utf8.{encode}
use Rattle.std.proofs.lemmas.Slice.Eq.{bytes_eq-Decides}
use Rattle.std.proofs.lemmas.Bool.{cases_Bool, cond-true, cond-false}
use Rattle.std.proofs.lemmas.List.{length-map, take-map, drop-map}
use Rattle.lp_form.specs.Templates.{steps_of}
use Rattle.lp_tree.specs.declared.tree.Entry.{Entry}
use Rattle.lp_program.specs.Trees.{content, forest, forest_within, whole}
use Rattle.lp_program.specs.Trees.Forest.{bare, tree}
use Rattle.lp_reading_laws.specs.Printing.TemplateTests.{has_code}
use Rattle.lp_reading_laws.specs.Printing.AsRead.{code_read, content_read, forest_read}
use Rattle.lp_repr.specs.NormalCode.{or_unit, norm_of}
use Rattle.lp_write.specs.Lines.{blanks}
use Rattle.lp_reading_laws.specs.Printing.Laws.{EachIsRead, SameToNorm}
use Rattle.lp_reading_laws.proofs.Printing.Lining.{trim_blanks}

-- an entry as it is read
abbrev with_code : Bool → Entry → Entry
with_code w e =
    let one : List (List ℕ) = code_read w (get_or e.holes.items 0 []) ∷ [] in
    record e { holes = record e.holes { items = one; len = length one; cap = 1; ok = (refl, omega arith); small = omega arith } }

abbrev entry_read : Bool → Entry → Entry
entry_read w e = if has_code (steps_of e.part) then with_code w e else e

content_same : (w : Bool) (e : Entry) → content (entry_read w e) ≡ content_read w (content e)
content_same w e = elim (cases_Bool (has_code (steps_of e.part))) [
  | inl y ↦ ap content (cond-true (has_code (steps_of e.part)) _ _ y) ∙ sym (cond-true (has_code (steps_of e.part)) _ _ y)
  | inr n ↦ ap content (cond-false (has_code (steps_of e.part)) _ _ n) ∙ sym (cond-false (has_code (steps_of e.part)) _ _ n)
]

below_same : (w : Bool) (e : Entry) → (entry_read w e).below ≡ e.below
below_same w e = elim (cases_Bool (has_code (steps_of e.part))) [
  | inl y ↦ ap (λ (x : Entry). x.below) (cond-true (has_code (steps_of e.part)) _ _ y)
  | inr n ↦ ap (λ (x : Entry). x.below) (cond-false (has_code (steps_of e.part)) _ _ n)
]

within_same : (w : Bool) (n : ℕ) (es : List Entry) → forest_within n (map (entry_read w) es) ≡ forest_read w (forest_within n es)
unfolding forest_within
within_same w zero es = refl
within_same w (suc n) [] = refl
within_same w (suc n) (e ∷ es) =
    ap (λ x. tree x (forest_within n (take (entry_read w e).below (map (entry_read w) es))) (forest_within n (drop (entry_read w e).below (map (entry_read w) es)))) (content_same w e)
    ∙ ap (λ k. tree (content_read w (content e)) (forest_within n (take k (map (entry_read w) es))) (forest_within n (drop k (map (entry_read w) es)))) (below_same w e)
    ∙ ap (λ x. tree (content_read w (content e)) (forest_within n x) (forest_within n (drop e.below (map (entry_read w) es)))) (take-map (entry_read w) e.below es)
    ∙ ap (λ x. tree (content_read w (content e)) (forest_within n (map (entry_read w) (take e.below es))) (forest_within n x)) (drop-map (entry_read w) e.below es)
    ∙ ap (λ x. tree (content_read w (content e)) x (forest_within n (map (entry_read w) (drop e.below es)))) (within_same w n (take e.below es))
    ∙ ap (λ x. tree (content_read w (content e)) (forest_read w (forest_within n (take e.below es))) x) (within_same w n (drop e.below es))

forest_same : (w : Bool) (es : List Entry) → forest (map (entry_read w) es) ≡ forest_read w (forest es)
unfolding forest
forest_same w es = ap (λ n. forest_within n (map (entry_read w) es)) (length-map es (entry_read w)) ∙ within_same w (length es) es

whole_same : (w : Bool) (es : List Entry) → whole (map (entry_read w) es) ≡ forest_read w (whole es)
whole_same w [] = refl
whole_same w (e ∷ es) = ap (λ x. tree x (forest (map (entry_read w) es)) bare) (content_same w e) ∙ ap (λ x. tree (content_read w (content e)) x bare) (forest_same w es)

pub each_is_read : EachIsRead
each_is_read w program = (
  record program {
    entries = record program.entries {
      items = map (entry_read w) program.entries.items;
      ok = (program.entries.ok.0 ∙ sym (length-map program.entries.items (entry_read w)), program.entries.ok.1);
    };
  },
  record { prefix = refl; trees = whole_same w program.entries.items },
)

-- user code up to norm
empty_norm : norm_of [] ≡ codes "()"
unfolding trim_start chars
empty_norm = refl

unit_norm : norm_of (codes "()") ≡ codes "()"
unfolding trim_start chars encode
unit_norm = refl

blanks_norm : (w : Bool) (code : List ℕ) → norm_of (blanks w 4 ++ code) ≡ norm_of code
blanks_norm true code = ap or_unit (trim_blanks 4 code)
blanks_norm false code = refl

pub same_to_norm : SameToNorm
same_to_norm w code = elim (cases_Bool (bytes_eq code (codes "()"))) [
  | inl y ↦ ap norm_of (cond-true (bytes_eq code (codes "()")) [] (blanks w 4 ++ code) y) ∙ empty_norm ∙ sym (ap norm_of ((bytes_eq-Decides code (codes "()")).0 y) ∙ unit_norm)
  | inr n ↦ ap norm_of (cond-false (bytes_eq code (codes "()")) [] (blanks w 4 ++ code) n) ∙ blanks_norm w code
]
