-- Lists each of whose elements is there.
use Rattle.std.proofs.Common.{◌≡◌, ℕ, ◌+◌, ◌<◌, suc, zero, List, [], ◌∷◌, ◌++◌, length, get_or, take, map, Option, Some, None, refl, sym, ap, ◌∙◌, arith}
use Rattle.std.proofs.lemmas.List.{take_more, map-append}
use Rattle.std.specs.Option.{option_map}
use Rattle.lp_lines.specs.Scan.{onto, all_some}

-- nothing goes onto what isn't there
pub onto_none : {X : Type 0} (o : Option X) → onto o None ≡ None
onto_none None = refl
onto_none (Some x) = refl

-- one more element at the end
pub onto_push : {X : Type 0} (o : Option X) (r s : Option (List X)) (ys : List X) (y : X) → ((zs : List X) → r ≡ Some zs → s ≡ Some (zs ++ y ∷ [])) → onto o r ≡ Some ys → onto o s ≡ Some (ys ++ y ∷ [])
onto_push None r s ys y step h = cc
onto_push (Some x) None s ys y step h = cc
onto_push (Some x) (Some zs) s ys y step h =
    let e : s ≡ Some (zs ++ y ∷ []) = step zs refl in
    let f : ys ≡ x ∷ zs = cc in
    rw (e, f) refl

pub all_some_push : {X : Type 0} (os : List (Option X)) (ys : List X) (y : X) → all_some os ≡ Some ys → all_some (os ++ Some y ∷ []) ≡ Some (ys ++ y ∷ [])
all_some_push [] ys y h =
    let e : ys ≡ [] = cc in
    rw e refl
all_some_push (o ∷ os) ys y h =
    onto_push o (all_some os) (all_some (os ++ Some y ∷ [])) ys y (λ zs r. all_some_push os zs y r) h

-- an element that isn't there
pub all_some_none : {X Y : Type 0} (f : X → Option Y) (xs : List X) (i : ℕ) (d : X) → i < length xs → f (get_or xs i d) ≡ None → None ≡ all_some (map f xs)
all_some_none f [] i d lt n = absurd (omega arith)
all_some_none f (y ∷ ys) zero d lt n =
    sym (ap (λ o. onto o (all_some (map f ys))) n)
all_some_none f (y ∷ ys) (suc i) d lt n =
    let short : i < length ys = omega arith in
    sym (onto_none (f y)) ∙ ap (onto (f y)) (all_some_none f ys i d short n)

-- one more element of a front
pub all_some_more : {X Y : Type 0} (f : X → Option Y) (xs : List X) (i : ℕ) (d : X) (ys : List Y) (y : Y) (zs : List Y) → i < length xs → f (get_or xs i d) ≡ Some y → all_some (map f (take i xs)) ≡ Some ys → zs ≡ ys ++ y ∷ [] → all_some (map f (take (i + 1) xs)) ≡ Some zs
all_some_more f xs i d ys y zs lt s h e =
    let x = get_or xs i d in
    let mapped : map f (take (i + 1) xs) ≡ map f (take i xs) ++ Some y ∷ [] =
    ap (map f) (take_more xs i d lt) ∙ (map-append f (take i xs) (x ∷ []) ∙ ap (λ o. map f (take i xs) ++ o ∷ []) s) in
    ap all_some mapped ∙ (all_some_push (map f (take i xs)) ys y h ∙ ap Some (sym e))

-- a map of a map
pub map_fused : {X Y Z : Type 0} (f : Y → Z) (g : X → Y) (xs : List X) → map f (map g xs) ≡ map (λ x. f (g x)) xs
map_fused f g [] = refl
map_fused f g (x ∷ xs) = ap (λ zs. f (g x) ∷ zs) (map_fused f g xs)

-- the elements of a list that is seen through a function
pub all_some_fused : {X Y Z : Type 0} (f : Y → Option Z) (g : X → Y) (xs : List X) (ys : List Y) → map g xs ≡ ys → all_some (map (λ x. f (g x)) xs) ≡ all_some (map f ys)
all_some_fused f g xs ys e = ap all_some (sym (map_fused f g xs) ∙ ap (map f) e)

-- elements that are seen through a function, by a reader that is equal to another
pub map_seen : {X Y Z : Type 0} (f h : Y → Z) (g : X → Y) (xs : List X) (ys : List Y) → f ≡ h → map g xs ≡ ys → map (λ x. f (g x)) xs ≡ map h ys
map_seen f h g xs ys e d = sym (map_fused f g xs) ∙ (ap (map f) d ∙ ap (λ k. map k ys) e)
