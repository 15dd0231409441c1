-- The first place of a thing, from the last one back.
use Rattle.std.proofs.Common.{◌≡◌, ℕ, ◌+◌, ◌<◌, suc, Bool, cond, List, ◌∷◌, length, drop, Option, Some, sym, ap, ◌∙◌, arith}
use Rattle.std.proofs.Math.ListN.{get_or}
use Rattle.std.proofs.Math.Seq.{drop-cons}
use Rattle.std.specs.List.{position_from}

-- one more thing, before those whose first place is known
pub place_before : {X : Type 0} (test : X → Bool) (xs : List X) (i j : ℕ) (x : X) (old new : Option ℕ) → j ≡ i + 1 → i < length xs → get_or xs i x ≡ x → old ≡ position_from test j (drop j xs) → new ≡ cond (test x) (Some i) old → new ≡ position_from test i (drop i xs)
place_before test xs i j x old new next h at was is =
    let e : drop i xs ≡ x ∷ drop (suc i) xs = drop-cons xs i x h ∙ ap (λ y. y ∷ drop (suc i) xs) at in
    let s : j ≡ suc i = omega arith in
    let later : old ≡ position_from test (i + 1) (drop (suc i) xs) = was ∙ ap (λ n. position_from test n (drop j xs)) next ∙ ap (λ n. position_from test (i + 1) (drop n xs)) s in
    is ∙ ap (λ r. cond (test x) (Some i) r) later ∙ sym (ap (position_from test i) e)
