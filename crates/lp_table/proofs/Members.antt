-- What a filter keeps of one more element, seen as another.
use Rattle.std.proofs.Common.{◌≡◌, ℕ, ◌+◌, ◌<◌, Bool, List, [], ◌∷◌, ◌++◌, filter, length, map, take, get_or, if◌then◌else◌, ap, sym, ◌∙◌}
use Rattle.std.proofs.lemmas.List.{take_more, map-append}
use Rattle.std.proofs.lemmas.List.Elements.{filter-append}

pub member_next :
    {X Y : Type 0} (v : X → Y) (p : Y → Bool) (xs : List X) (i : ℕ) (x : X) (b : Bool) → i < length xs → x ≡ get_or xs i x → b ≡ p (v x) →
    filter p (map v (take i xs)) ++ (if b then v x ∷ [] else []) ≡ filter p (map v (take (i + 1) xs))
member_next {X} {Y} v p xs i x b h is e =
    ap (λ (c : Bool). filter p (map v (take i xs)) ++ (if c then v x ∷ [] else [])) e
    ∙ (sym (filter-append p (map v (take i xs)) (v x ∷ []))
    ∙ ap (filter p) (sym (map-append v (take i xs) (x ∷ [])) ∙ ap (map v) (ap (λ (y : X). take i xs ++ y ∷ []) is ∙ sym (take_more xs i x h))))
