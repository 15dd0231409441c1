-- What a pattern with so many holes gives.
use Rattle.std.proofs.Common.{◌≡◌, ◌≤◌, List, [], ◌∷◌, length, refl, ap, arith}
use Rattle.std.proofs.Math.ListN.{get_or}
use Rattle.lp_repr.specs.TypeTrees.{tuple_type, type_tree, types_trees}
use Rattle.lp_repr.specs.declared.repr.TypeRepr.{TypeRepr}
use Rattle.lp_lower.specs.TypeOf.{holes_tree}

pub holes_none : (token : TypeRepr) (hs : List TypeRepr) → length hs ≡ 0 → holes_tree token hs ≡ type_tree token
holes_none token [] e = refl
holes_none token (h ∷ hs) e = absurd (omega arith)

pub holes_one : (token : TypeRepr) (hs : List TypeRepr) (x : TypeRepr) → length hs ≡ 1 → get_or hs 0 x ≡ x → holes_tree token hs ≡ type_tree x
holes_one token [] x e at = absurd (omega arith)
holes_one token (h ∷ []) x e at = ap type_tree at
holes_one token (h ∷ (k ∷ hs)) x e at = absurd (omega arith)

pub holes_many : (token : TypeRepr) (hs : List TypeRepr) → 2 ≤ length hs → holes_tree token hs ≡ tuple_type (types_trees hs)
holes_many token [] h = absurd (omega arith)
holes_many token (x ∷ []) h = absurd (omega arith)
holes_many token (x ∷ (y ∷ hs)) h = refl
