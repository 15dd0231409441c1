-- The first token of a set.
use Rattle.std.proofs.Common.{◌≡◌, ◌↔◌, List, [], ◌∷◌, MatchOption, slice_get, subst, ⊎_elim, arith, Contains}
use Rattle.lp_repr.specs.declared.lr1.Token.{Token}
use Rattle.lp_repr.specs.declared.lr1.Token.TheVariants.{Terminal, Eof}
use Rattle.lp_sets.specs.declared.tokens.TokenSet.{TokenSet}
use Rattle.lp_sets.specs.TokenSets.{HasToken, IsBefore, ListsTokens}
use Rattle.lp_states.proofs.WalkSteps.{head_in, in_cases, pairs_head}

not_both : (t u : Token) → IsBefore t u → IsBefore u t → ⊥
not_both (Terminal m) (Terminal n) a b = omega arith
not_both (Terminal m) Eof a b = b
not_both Eof u a b = a

pub first_token : (P : Token → Type 0) (s : TokenSet) (tokens : List Token) → ListsTokens s tokens → ((t : Token) → HasToken s t ↔ P t) → MatchOption (slice_get tokens 0) ((t : Token) → P t → ⊥) (λ t. P t × ((u : Token) → IsBefore u t → P u → ⊥))
first_token P s [] lists is = λ t h. let c = (lists.exact t).1 ((is t).1 h) in omega (arith, c.1)
first_token P s (t ∷ ts) lists is =
    ((is t).0 ((lists.exact t).0 (head_in t ts)), λ u b h. ⊎_elim (λ (e : t ≡ u). let x = subst (λ v. IsBefore u v) e b in not_both u u x x) (λ (d : Contains ts u). not_both t u (pairs_head IsBefore t ts lists.ordered u d) b) (in_cases t ts u ((lists.exact u).1 ((is u).1 h))))
