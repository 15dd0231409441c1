-- Parts laid out, one after the other.
use Rattle.std.proofs.Common.{◌≡◌, List, [], ◌∷◌, ◌++◌, map, refl, sym, ap, ◌∙◌}
use Rattle.std.proofs.lemmas.List.{map-append}
use Rattle.lp_repr.specs.declared.repr.TypeRepr.{TypeRepr}
use Rattle.lp_repr.specs.TypeTrees.{TypeTree}
use Rattle.lp_reading.specs.declared.read_pattern.Part.{Part}
use Rattle.lp_reading.specs.Patterns.{Layout, laid, laid_all, layout, part_tree}

laid_one : (l : Layout) (parts : List (Part TypeTree)) (part : Part TypeTree) → laid_all l (parts ++ part ∷ []) ≡ laid (laid_all l parts) part
laid_one l [] part = refl
laid_one l (p ∷ ps) part = laid_one (laid l p) ps part

pub laid_one_more : (parts : List (Part TypeRepr)) (part : Part TypeRepr) (made new : Layout) → made ≡ layout (map part_tree parts) → new ≡ laid made (part_tree part) → new ≡ layout (map part_tree (parts ++ part ∷ []))
laid_one_more parts part made new is e =
    e
    ∙ ap (λ l. laid l (part_tree part)) is
    ∙ sym (laid_one (record { pieces = []; holes = []; last = [] }) (map part_tree parts) (part_tree part))
    ∙ ap layout (sym (map-append part_tree parts (part ∷ [])))
