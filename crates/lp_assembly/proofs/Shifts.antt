-- A map whose values pass a test.
use Rattle.std.proofs.Common.{◌≡◌, ℕ, ◌<◌, Bool, true, false, cond, ◌&&◌, nat_lt, List, [], ◌∷◌, Option, Some, None, IfSome, refl, ap, subst, sym, ◌∙◌, arith}
use Rattle.std.specs.List.{list_all}
use Rattle.std.specs.Map.{lookup, values_of}
use Rattle.std.specs.BTreeMap.{BTreeMap, get, values}
use Rattle.std.specs.Ordering.{nat_cmp}
use Rattle.std.proofs.lemmas.Bool.{ltb-true}

looked_up_fits :
    (bound : ℕ) (test : ℕ → Bool) (es : List (ℕ × ℕ)) → list_all (λ v. nat_lt v bound) (values_of es) ≡ true →
    IfSome (lookup test es) (λ v. v < bound)
looked_up_fits bound test [] h = tt
looked_up_fits bound test (e ∷ es) h =
    elim (nat_lt e.1 bound) as (λ b. nat_lt e.1 bound ≡ b → (b && list_all (λ v. nat_lt v bound) (values_of es)) ≡ true →
    IfSome (cond (test e.0) (Some e.1) (lookup test es)) (λ v. v < bound)) [
      | true ↦ λ less rest.
          elim (test e.0) as (λ b. IfSome (cond b (Some e.1) (lookup test es)) (λ v. v < bound)) [
            | true ↦ ltb-true e.1 bound less
            | false ↦ looked_up_fits bound test es rest
          ]
      | false ↦ λ _ rest. cc
    ] refl h

pub shifts_fit_all :
    (m : BTreeMap ℕ ℕ) → list_all (λ v. nat_lt v 2147483647) (values m) ≡ true →
    (i : ℕ) → IfSome (get nat_cmp m i) (λ v. v < 2147483647)
shifts_fit_all m h i = looked_up_fits 2147483647 _ m.entries h
