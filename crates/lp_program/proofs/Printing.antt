-- The lines of trees one after another, and those of steps.
use Rattle.std.proofs.Common.{◌≡◌, ℕ, ◌+◌, ◌-◌, ◌<◌, ◌≤◌, zero, suc, min, List, [], ◌∷◌, length, map, take, drop, get_or, Bor, refl, sym, ap, ◌∙◌, arith, append-nil, length-drop, subst}
use Rattle.std.proofs.Math.Seq.{drop-nil}
use Rattle.std.proofs.lemmas.List.{at_drop_more, drop-drop, get_or_default}
use Rattle.lp_form.specs.declared.template.Slot.{Slot}
use Rattle.lp_form.specs.declared.template.Step.{Step}
use Rattle.lp_form.specs.Templates.{line, steps_of}
use Rattle.lp_write.specs.Lines.{Line}
use Rattle.lp_write.specs.Writes.{Writing, Writes, Ending}
use Rattle.lp_write.specs.declared.rust.Options.{Options}
use Rattle.lp_tree.specs.declared.tree.Entry.{Entry}
use Rattle.lp_program.specs.Trees.{content, forest, tree_count, whole}
use Rattle.lp_program.specs.Places.{IsAfter, printed_from}
use Rattle.lp_program.specs.Printed.{all_lines, part_lines, printed, step_lines}
use Rattle.lp_program.proofs.Forests.{forest-none, forest-first}

-- the lines of a part over those below it
abbrev pub tree_lines : Options → List ℕ → Entry → List Entry → List Line
tree_lines options prefix e below =
    step_lines options prefix (content e) (tree_count (forest below)) (steps_of e.part) (printed options prefix (forest below))

-- the lines of steps as the code holds them, over what is below from a place on
abbrev pub rest_lines : Options → List ℕ → Entry → List Entry → List (Step × Bor (List (Bor (List ℕ) × Slot))) → ℕ → List Line
rest_lines options prefix e below steps at =
    step_lines options prefix (content e) (tree_count (forest below)) (map line steps) (printed_from options prefix below at)

-- past the end of a list there is nothing
pub take-capped : {X : Type 0} (m n : ℕ) (es : List X) → m ≡ min n (length es) → take m es ≡ take n es
take-capped zero zero es h = refl
take-capped (suc m) zero es h = absurd (omega arith)
take-capped zero (suc n) [] h = refl
take-capped (suc m) (suc n) [] h = refl
take-capped zero (suc n) (e ∷ es) h = absurd (omega arith)
take-capped (suc m) (suc n) (e ∷ es) h = ap (λ xs. e ∷ xs) (take-capped m n es (omega arith))

drop-capped : (m n : ℕ) (es : List Entry) → m ≡ min n (length es) → drop m es ≡ drop n es
drop-capped zero zero es h = refl
drop-capped (suc m) zero es h = absurd (omega arith)
drop-capped zero (suc n) [] h = refl
drop-capped (suc m) (suc n) [] h = refl
drop-capped zero (suc n) (e ∷ es) h = absurd (omega arith)
drop-capped (suc m) (suc n) (e ∷ es) h = drop-capped m n es (omega arith)

dropped : (es : List Entry) (at : ℕ) → length es ≤ at → drop at es ≡ []
dropped [] at h = drop-nil at
dropped (e ∷ es) zero h = absurd (omega arith)
dropped (e ∷ es) (suc at) h = dropped es at (omega arith)

-- a list from a place on
pub from-place : (es : List Entry) (at : ℕ) (e : Entry) → at < length es → e ≡ get_or es at e → drop at es ≡ e ∷ drop (at + 1) es
from-place es at e h i = at_drop_more (λ l. l) es at e h ∙ ap (λ x. x ∷ drop (at + 1) es) (sym i)

-- the first tree from a place on, and those after it
pub tree-first : (o : Options) (p : List ℕ) (es : List Entry) (at : ℕ) (e : Entry) → at < length es → e ≡ get_or es at e →
    printed_from o p es at
    ≡ (e.part, tree_lines o p e (take e.below (drop (at + 1) es))) ∷ printed o p (forest (drop e.below (drop (at + 1) es)))
unfolding printed
tree-first o p es at e h i =
    ap (λ l. printed o p (forest l)) (from-place es at e h i) ∙ ap (printed o p) (forest-first e (drop (at + 1) es))

-- no tree from the end on
pub tree-none : (o : Options) (p : List ℕ) (es : List Entry) (at : ℕ) → length es ≤ at → printed_from o p es at ≡ []
unfolding printed
tree-none o p es at h = ap (λ l. printed o p (forest l)) (dropped es at h) ∙ ap (printed o p) forest-none

-- the lines of one part
pub part-is : (o : Options) (p : List ℕ) (e : Entry) (below : List Entry) → part_lines o p e below ≡ tree_lines o p e below
unfolding printed
part-is o p e below = append-nil (tree_lines o p e below)

-- the lines of a whole list
pub whole-none : (o : Options) (p : List ℕ) (es : List Entry) → length es ≡ 0 → all_lines (printed o p (whole es)) ≡ []
unfolding printed
whole-none o p [] h = refl
whole-none o p (e ∷ es) h = absurd (omega arith)

pub whole-first : (o : Options) (p : List ℕ) (es : List Entry) (e : Entry) → 0 < length es → e ≡ get_or es 0 e →
    all_lines (printed o p (whole es)) ≡ part_lines o p e (drop 1 es)
whole-first o p es e h i =
    at_drop_more (λ l. all_lines (printed o p (whole l))) es 0 e h ∙ ap (λ x. part_lines o p x (drop 1 es)) (sym i)

-- where the part at a place ends, with all below it
abbrev pub Ends : List Entry → ℕ → ℕ → Type 0
Ends es at end = (e : Entry) → end ≡ min (at + 1 + (get_or es at e).below) (length es)

some-entry : (es : List Entry) (at : ℕ) → at < length es → (e : Entry) × (e ≡ get_or es at e)
some-entry [] at h = absurd (omega arith)
some-entry (x ∷ xs) at h = (get_or (x ∷ xs) at x, get_or_default (x ∷ xs) at x (get_or (x ∷ xs) at x) h)

ends-at : (es : List Entry) (at end : ℕ) (e : Entry) → e ≡ get_or es at e → Ends es at end → end ≡ min (at + 1 + e.below) (length es)
ends-at es at end e i j = j e ∙ ap (λ x. min (at + 1 + x.below) (length es)) (sym i)

-- what is below the part at a place
tree-below : (es : List Entry) (at end : ℕ) (e : Entry) → at < length es → end ≡ min (at + 1 + e.below) (length es) →
    take (end - (at + 1)) (drop (at + 1) es) ≡ take e.below (drop (at + 1) es)
tree-below es at end e h j =
    let d = length-drop (at + 1) es in
    let m : end - (at + 1) ≡ min e.below (length (drop (at + 1) es)) = omega (arith, d) in
    take-capped (end - (at + 1)) e.below (drop (at + 1) es) m

-- the lines of the part at a place are those of the first tree from there on
tree-written : (o : Options) (p : List ℕ) (es : List Entry) (at end : ℕ) (e : Entry) → at < length es → e ≡ get_or es at e →
    end ≡ min (at + 1 + (get_or es at e).below) (length es) →
    part_lines o p e (take (end - (at + 1)) (drop (at + 1) es)) ≡ all_lines (take 1 (printed_from o p es at))
tree-written o p es at end e h i j =
    let k : end ≡ min (at + 1 + e.below) (length es) = j ∙ ap (λ x. min (at + 1 + x.below) (length es)) (sym i) in
    ap (part_lines o p e) (tree-below es at end e h k) ∙ part-is o p e (take e.below (drop (at + 1) es))
    ∙ sym (append-nil (tree_lines o p e (take e.below (drop (at + 1) es))))
    ∙ ap (λ trees. all_lines (take 1 trees)) (sym (tree-first o p es at e h i))

pub tree-lines : (e : Ending) (a b : Writing) (o : Options) (p : List ℕ) (es : List Entry) (at end : ℕ) (x : Entry) → at < length es → x ≡ get_or es at x →
    end ≡ min (at + 1 + (get_or es at x).below) (length es) →
    Writes e a b (part_lines o p x (take (end - (at + 1)) (drop (at + 1) es))) → Writes e a b (all_lines (take 1 (printed_from o p es at)))
tree-lines e a b o p es at end x h i j w = subst (λ (l : List Line). Writes e a b l) (tree-written o p es at end x h i j) w

-- the place after the part at a place
pub tree-after : (o : Options) (p : List ℕ) (es : List Entry) (at end : ℕ) → at < length es → Ends es at end → IsAfter o p es at 1 end
tree-after o p es at end h j = record {
  within = omega (arith, k);
  left =
      ap (λ l. printed o p (forest l))
      (drop-capped end (at + 1 + e.below) es k ∙ sym (drop-drop e.below (at + 1) es))
      ∙ sym (ap (λ trees. drop 1 trees) (tree-first o p es at e h i));
} where
  e : Entry
  e = (some-entry es at h).0

  i : e ≡ get_or es at e
  i = (some-entry es at h).1

  k : end ≡ min (at + 1 + e.below) (length es)
  k = ends-at es at end e i j

-- how many trees stand from a place on
pub count-more : (es : List Entry) (at end : ℕ) → at < length es → Ends es at end →
    tree_count (forest (drop at es)) ≡ 1 + tree_count (forest (drop end es))
count-more es at end h j =
    let some = some-entry es at h in
    let e = some.0 in
    let i = some.1 in
    ap (λ l. tree_count (forest l)) (from-place es at e h i) ∙ ap tree_count (forest-first e (drop (at + 1) es))
    ∙ ap (λ l. 1 + tree_count (forest l)) (drop-drop e.below (at + 1) es ∙ sym (drop-capped end (at + 1 + e.below) es (ends-at es at end e i j)))

pub count-none : (es : List Entry) (at : ℕ) → length es ≤ at → tree_count (forest (drop at es)) ≡ 0
count-none es at h = ap (λ l. tree_count (forest l)) (dropped es at h) ∙ ap tree_count forest-none
