-- Places in a list of references are those in the list of what they lead to.
use Rattle.std.proofs.Common.{◌≡◌, ℕ, ◌+◌, Bool, not, cond, nat_lt, List, [], ◌∷◌, length, map, position, Option, Some, None, Bor, refl, ap, sym, ◌∙◌}
use Rattle.std.proofs.lemmas.List.{length-map}
use Rattle.std.specs.List.{position_or_len}
use Rattle.std.specs.Map.Iter.{deref}
use Rattle.lp_repr.specs.TypeOrder.{type_eq}
use Rattle.lp_repr.specs.declared.repr.TypeRepr.{TypeRepr}

place_in_map : {X Y : Type 0} (f : X → Y) (p : Y → Bool) (xs : List X) → position_or_len (λ x. p (f x)) xs ≡ position_or_len p (map f xs)
place_in_map f p [] = refl
place_in_map f p (x ∷ xs) = ap (λ (n : ℕ). cond (not (p (f x))) (1 + n) 0) (place_in_map f p xs)

position_in_map : {X Y : Type 0} (f : X → Y) (p : Y → Bool) (xs : List X) → position (λ x. p (f x)) xs ≡ position p (map f xs)
position_in_map f p xs =
    ap (λ (n : ℕ). cond (nat_lt n (length xs)) (Some n) None) (place_in_map f p xs)
    ∙ ap (λ (m : ℕ). cond (nat_lt (position_or_len p (map f xs)) m) (Some (position_or_len p (map f xs))) None) (sym (length-map xs f))

pub lengths : (types : List (Bor TypeRepr)) → length (map deref types) ≡ length types
lengths types = length-map types deref

pub places : (types : List (Bor TypeRepr)) (ty : TypeRepr) → position (λ t. type_eq ty t.now) types ≡ position (type_eq ty) (map deref types)
places types ty = position_in_map deref (type_eq ty) types
