-- Actions as trees, from their parts.
use Rattle.std.proofs.Common.{◌≡◌, ℕ, Bool, List, [], ◌∷◌, ◌++◌, map, ap, ◌∙◌, append_assoc}
use Rattle.std.proofs.lemmas.List.{map-append}
use Rattle.lp_repr.specs.TypeTrees.{TypeTree}
use Rattle.lp_repr.specs.declared.repr.ActionFnDefn.{ActionFnDefn}
use Rattle.lp_lower.specs.Actions.{ActionTree, KindTree, user_code, action_tree}

abbrev pub tree : Bool → TypeTree → KindTree → ActionTree
tree fallible gives does = record { fallible = fallible; gives = gives; does = does }

-- user code of equal parts
pub user_alike : (fallible : Bool) (t u : TypeTree) (ps qs : List (List ℕ)) (ts us : List TypeTree) (c d : List ℕ) → t ≡ u → ps ≡ qs → ts ≡ us → c ≡ d → tree fallible t (user_code ps ts c) ≡ tree fallible u (user_code qs us d)
user_alike fallible t u ps qs ts us c d gives patterns types code =
    ap (λ x. tree fallible x (user_code ps ts c)) gives
    ∙ (ap (λ x. tree fallible u (user_code x ts c)) patterns
    ∙ (ap (λ x. tree fallible u (user_code qs x c)) types
    ∙ ap (λ x. tree fallible u (user_code qs us x)) code))

-- one more action
pub action_more : (old new : List ActionFnDefn) (a : ActionFnDefn) (t : ActionTree) → new ≡ old ++ a ∷ [] → action_tree a ≡ t → map action_tree new ≡ map action_tree old ++ t ∷ []
action_more old new a t is same = ap (map action_tree) is ∙ (map-append action_tree old (a ∷ []) ∙ ap (λ x. map action_tree old ++ x ∷ []) same)

-- one more, and then others
pub action_then : (old middle new first : List ActionTree) (t : ActionTree) → middle ≡ old ++ t ∷ [] → new ≡ middle ++ first → new ≡ old ++ t ∷ first
action_then old middle new first t one others = others ∙ (ap (λ l. l ++ first) one ∙ append_assoc old (t ∷ []) first)
