-- The last of the values whose parameter has a name.
use Rattle.std.proofs.Common.{◌≡◌, ℕ, suc, ◌+◌, ◌<◌, List, ◌∷◌, length, drop, get_or, drop-cons, Option, Some, slice_get, sym, ap, ◌∙◌, arith}
use Rattle.std.specs.Prelude.{if◌then◌else◌}
use Rattle.lp_repr.specs.declared.repr.Parameter.{Parameter}
use Rattle.lp_driver.specs.Values.{Text}
use Rattle.lp_machine.specs.GrammarTables.{is_named, last_named}

-- the rest of a list from one of its elements
pub drop_here : {A : Type 0} (xs : List A) (i : ℕ) (x : A) → i < length xs → x ≡ get_or xs i x → drop i xs ≡ x ∷ drop (i + 1) xs
drop_here xs i x lt is =
    let e : suc i ≡ i + 1 = omega arith in
    drop-cons xs i x lt ∙ ap (λ y. y ∷ drop (suc i) xs) (sym is) ∙ ap (λ k. x ∷ drop k xs) e

pub last_step : (names : List Parameter) (name : Text) (i : ℕ) (values rest : List Text) (v : Text) (found found' : Option Text)
    → values ≡ v ∷ rest → found' ≡ (if is_named (slice_get names i) name then Some v else found) → last_named names name (i + 1) rest found' ≡ last_named names name i values found
last_step names name i values rest v found found' hv hf =
    ap (last_named names name (i + 1) rest) hf ∙ ap (λ vs. last_named names name i vs found) (sym hv)
