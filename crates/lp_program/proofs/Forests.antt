-- The trees of a list of parts, one after another.
use Rattle.std.proofs.Common.{◌≡◌, ℕ, ◌≤◌, zero, suc, List, [], ◌∷◌, length, take, drop, refl, ap, ◌∙◌, arith, length-drop}
use Rattle.lp_tree.specs.declared.tree.Entry.{Entry}
use Rattle.lp_program.specs.Trees.{content, forest, forest_within}
use Rattle.lp_program.specs.Trees.Forest.{bare, tree}

length-take-le : (n : ℕ) (es : List Entry) → length (take n es) ≤ length es
length-take-le zero es = omega arith
length-take-le (suc n) [] = omega arith
length-take-le (suc n) (e ∷ es) = let h = length-take-le n es in omega (arith, h)

-- a list of at most so many parts has the same trees under each greater bound
within-enough : (n m : ℕ) (es : List Entry) → length es ≤ n → length es ≤ m → forest_within n es ≡ forest_within m es
unfolding forest_within
within-enough zero zero es h k = refl
within-enough zero (suc m) [] h k = refl
within-enough zero (suc m) (e ∷ es) h k = absurd (omega arith)
within-enough (suc n) zero [] h k = refl
within-enough (suc n) zero (e ∷ es) h k = absurd (omega arith)
within-enough (suc n) (suc m) [] h k = refl
within-enough (suc n) (suc m) (e ∷ es) h k =
    let t = length-take-le e.below es in
    let d = length-drop e.below es in
    ap (λ x. tree (content e) x (forest_within n (drop e.below es)))
    (within-enough n m (take e.below es) (omega (arith, t)) (omega (arith, t)))
    ∙ ap (λ x. tree (content e) (forest_within m (take e.below es)) x)
    (within-enough n m (drop e.below es) (omega (arith, d)) (omega (arith, d)))

-- no part has no tree
pub forest-none : forest [] ≡ bare
unfolding forest forest_within
forest-none = refl

-- the first tree, and those after it
pub forest-first : (e : Entry) (es : List Entry) →
    forest (e ∷ es) ≡ tree (content e) (forest (take e.below es)) (forest (drop e.below es))
unfolding forest forest_within
forest-first e es =
    let t = length-take-le e.below es in
    let d = length-drop e.below es in
    ap (λ x. tree (content e) x (forest_within (length es) (drop e.below es)))
    (within-enough (length es) (length (take e.below es)) (take e.below es) (omega (arith, t)) (omega arith))
    ∙ ap (λ x. tree (content e) (forest (take e.below es)) x)
    (within-enough (length es) (length (drop e.below es)) (drop e.below es) (omega (arith, d)) (omega arith))
