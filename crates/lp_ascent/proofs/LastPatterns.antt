-- The last element of a list.
use Rattle.std.proofs.Common.{◌≡◌, ℕ, ◌+◌, ◌-◌, List, [], ◌∷◌, ◌++◌, length, take, Option, Some, None, refl, ap, sym, ◌∙◌, arith, length-append, length-take, append-nil, subst}
use Rattle.std.specs.Prelude.{slice_get}
use Rattle.std.specs.Option.{option_to_list}
use Rattle.std.proofs.lemmas.Option.{slice_get_past}

at_end : {X : Type 0} (ys : List X) (x : X) → slice_get (ys ++ x ∷ []) (length ys) ≡ Some x
at_end [] x = refl
at_end (y ∷ ys) x = at_end ys x

nothing_left : {X : Type 0} (xs ys : List X) → xs ≡ ys ++ [] → ys ≡ take (length xs - 1) xs → length xs ≡ 0
nothing_left xs ys e rest = grind (arith, append-nil, length-take)

-- what `pop` takes
pub last_popped :
    {X : Type 0} (xs ys : List X) (r : Option X) → xs ≡ ys ++ option_to_list r → ys ≡ take (length xs - 1) xs →
    r ≡ slice_get xs (length xs - 1)
last_popped xs ys None e rest =
    let none : length xs ≡ 0 = nothing_left xs ys e rest in
    sym (slice_get_past xs (length xs - 1) (omega arith))
last_popped xs ys (Some x) e rest =
    let long : length xs ≡ length ys + 1 = ap length e ∙ length-append ys (x ∷ []) in
    let place : length ys ≡ length xs - 1 = omega arith in
    sym (ap (λ (n : ℕ). slice_get xs n) (sym place) ∙ (ap (λ zs. slice_get zs (length ys)) e ∙ at_end ys x))
