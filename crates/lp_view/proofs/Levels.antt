-- Parts that stand side by side, one after another.
use Rattle.std.proofs.Common.{◌≡◌, ℕ, zero, suc, ◌+◌, ◌-◌, ◌<◌, List, [], ◌∷◌, length, map, take, drop, get_or, refl, ap, sym, ◌∙◌, arith}
use Rattle.std.specs.Prelude.{min}
use Rattle.std.proofs.lemmas.List.{take_min, drop_min, take-map, drop-map, length-map}
use Rattle.lp_tree.specs.ProgramTree.{Item, item}
use Rattle.lp_tree.specs.declared.tree.Entry.{Entry}
use Rattle.lp_view.specs.PartLists.{level, parts_of}

-- none are asked for, and none are there
pub level_none : (n : ℕ) (es : List Item) → n ≡ 0 → level n es ≡ []
level_none zero es h = refl
level_none (suc n) es h = absurd (omega arith)

pub level_empty : (n : ℕ) (es : List Entry) → length es ≡ 0 → level n (map item es) ≡ []
level_empty zero es h = refl
level_empty (suc n) [] h = refl
level_empty (suc n) (e ∷ es) h = absurd (omega arith)

-- the front of a list and what follows it, where it may be shorter
pub taken : (b : ℕ) (es : List Entry) → take b (map item es) ≡ map item (take (min b (length es)) es)
taken b es = take-map item b es ∙ ap (map item) (sym (take_min b es))

pub dropped : (b : ℕ) (es : List Entry) → drop b (map item es) ≡ map item (drop (min b (length es)) es)
dropped b es = drop-map item b es ∙ ap (map item) (sym (drop_min b es))

-- the first with all that is below it, and those after it
first_step : (n m : ℕ) (e : Entry) (es : List Entry) → m ≡ min e.below (length es) → level (suc n) (map item (e ∷ es)) ≡ map item (take (suc m) (e ∷ es)) ∷ level n (map item (drop (suc m) (e ∷ es)))
first_step n m e es h =
    let t : take e.below (map item es) ≡ map item (take m es) = taken e.below es ∙ ap (λ k. map item (take k es)) (sym h) in
    let d : drop e.below (map item es) ≡ map item (drop m es) = dropped e.below es ∙ ap (λ k. map item (drop k es)) (sym h) in
    ap (λ (xs : List Item). (item e ∷ xs) ∷ level n (drop e.below (map item es))) t ∙ ap (λ (ys : List Item). (item e ∷ map item (take m es)) ∷ level n ys) d

pub level_step : (n : ℕ) (es : List Entry) (end : ℕ) → 0 < n → 0 < length es → ((e : Entry) → end ≡ min (0 + 1 + (get_or es 0 e).below) (length es)) → level n (map item es) ≡ map item (take end es) ∷ level (n - 1) (map item (drop end es))
level_step zero es end p q h = absurd (omega arith)
level_step (suc n) [] end p q h = absurd (omega arith)
level_step (suc n) (e ∷ es) end p q h =
    let here : end ≡ min (0 + 1 + e.below) (suc (length es)) = h e in
    let s : end ≡ suc (min e.below (length es)) = omega arith in
    let k : suc n - 1 ≡ n = omega arith in
    rw (s, k) (first_step n (min e.below (length es)) e es refl)

-- all that stand below the first
pub level_rest : (es rest : List Entry) (left : ℕ) → rest ≡ drop 1 es → left ≡ length rest → level left (map item rest) ≡ parts_of (map item es)
level_rest es rest left r l =
    ap (λ n. level n (map item rest)) l
    ∙ ap (λ (xs : List Entry). level (length xs) (map item xs)) r
    ∙ ap (λ n. level n (map item (drop 1 es))) (sym (length-map (drop 1 es) item))
    ∙ ap (λ (xs : List Item). level (length xs) xs) (sym (drop-map item 1 es))
