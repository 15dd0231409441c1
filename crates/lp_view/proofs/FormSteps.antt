-- The forms among parts, one after another.
use Rattle.std.proofs.Common.{◌≡◌, ℕ, zero, suc, ◌+◌, ◌-◌, ◌<◌, Bool, true, List, [], ◌∷◌, length, map, take, drop, get_or, refl, ap, sym, ◌∙◌, arith, length-drop}
use Rattle.std.specs.Prelude.{min, if◌then◌else◌}
use Rattle.std.proofs.lemmas.List.{at_drop_more, drop-drop}
use Rattle.lp_tree.specs.ProgramTree.{Item, item}
use Rattle.lp_tree.specs.declared.tree.Entry.{Entry}
use Rattle.lp_view.specs.PartLists.{Form, is_form, forms_behind, forms_among}
use Rattle.lp_view.proofs.Levels.{taken, dropped}

-- parts that are passed over
behind_drop : (n : ℕ) (es : List Item) → forms_behind n es ≡ forms_behind 0 (drop n es)
behind_drop zero es = refl
behind_drop (suc n) [] = refl
behind_drop (suc n) (e ∷ es) = behind_drop n es

-- the first is a form
first_form : (e : Entry) (es : List Entry) (m : ℕ) → m ≡ min e.below (length es) → is_form e.part ≡ true → forms_among (map item (e ∷ es)) ≡ map item (take (suc m) (e ∷ es)) ∷ forms_among (map item (drop (suc m) (e ∷ es)))
first_form e es m h yes_form =
    let t : take e.below (map item es) ≡ map item (take m es) = taken e.below es ∙ ap (λ k. map item (take k es)) (sym h) in
    let d : drop e.below (map item es) ≡ map item (drop m es) = dropped e.below es ∙ ap (λ k. map item (drop k es)) (sym h) in
    ap (λ (b : Bool). if b then ((item e ∷ take e.below (map item es)) ∷ forms_behind e.below (map item es)) else forms_behind 0 (map item es)) yes_form
    ∙ ap (λ (fs : List Form). (item e ∷ take e.below (map item es)) ∷ fs) (behind_drop e.below (map item es))
    ∙ ap (λ (xs : List Item). (item e ∷ xs) ∷ forms_among (drop e.below (map item es))) t
    ∙ ap (λ (ys : List Item). (item e ∷ map item (take m es)) ∷ forms_among ys) d

from_place : (es : List Entry) (at : ℕ) (x : Entry) → at < length es → x ≡ get_or es at x → drop at es ≡ x ∷ drop (at + 1) es
from_place es at x less is = at_drop_more (λ (ys : List Entry). ys) es at x less ∙ ap (λ (y : Entry). y ∷ drop (at + 1) es) (sym is)

-- the form at a place is the first of those that are left
pub form_here : (es : List Entry) (at end : ℕ) (x : Entry) (whole : List Form) → at < length es → x ≡ get_or es at x → is_form x.part ≡ true → ((e : Entry) → end ≡ min (at + 1 + (get_or es at e).below) (length es)) → forms_among (map item (drop at es)) ≡ whole → whole ≡ map item (take (end - at) (drop at es)) ∷ forms_among (map item (drop end es))
form_here es at end x whole less is yes_form ends h =
    let rest = drop (at + 1) es in
    let m : ℕ = min x.below (length rest) in
    let split : drop at es ≡ x ∷ rest = from_place es at x less is in
    let few : length rest ≡ length es - (at + 1) = length-drop (at + 1) es in
    let here : end ≡ min (at + 1 + x.below) (length es) = ends x ∙ ap (λ (e : Entry). min (at + 1 + e.below) (length es)) (sym is) in
    let len : suc m ≡ end - at = omega arith in
    let place : at + suc m ≡ end = omega arith in
    let behind : drop (suc m) (drop at es) ≡ drop end es = drop-drop (suc m) at es ∙ ap (λ k. drop k es) place in
    sym h
    ∙ ap (λ (xs : List Entry). forms_among (map item xs)) split
    ∙ first_form x rest m refl yes_form
    ∙ ap (λ (xs : List Entry). map item (take (suc m) xs) ∷ forms_among (map item (drop (suc m) xs))) (sym split)
    ∙ ap (λ k. map item (take k (drop at es)) ∷ forms_among (map item (drop (suc m) (drop at es)))) len
    ∙ ap (λ (xs : List Entry). map item (take (end - at) (drop at es)) ∷ forms_among (map item xs)) behind
