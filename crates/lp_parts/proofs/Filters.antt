-- What a filter keeps of one more element.
use Rattle.std.proofs.Common.{◌≡◌, ℕ, ◌+◌, ◌<◌, Bool, List, [], ◌∷◌, ◌++◌, filter, length, take, get_or, if◌then◌else◌, ap, sym, ◌∙◌}
use Rattle.std.proofs.lemmas.List.{take_more}
use Rattle.std.proofs.lemmas.List.Elements.{filter-append}

pub filter_next :
    {X : Type 0} (p : X → Bool) (xs : List X) (i : ℕ) (x : X) (b : Bool) → i < length xs → x ≡ get_or xs i x → b ≡ p x →
    filter p (take i xs) ++ (if b then x ∷ [] else []) ≡ filter p (take (i + 1) xs)
filter_next {X} p xs i x b h is e =
    ap (λ (c : Bool). filter p (take i xs) ++ (if c then x ∷ [] else [])) e
    ∙ (sym (filter-append p (take i xs) (x ∷ []))
    ∙ ap (filter p) (ap (λ (y : X). take i xs ++ y ∷ []) is ∙ sym (take_more xs i x h)))
