-- Where the starts of a grammar stand in the order of their public names, no two have one name.
use Rattle.std.proofs.Common.{◌≡◌, ℕ, zero, suc, ◌<◌, Bool, false, List, [], ◌∷◌, map, Some, slice_get, ap, ◌∙◌, subst, arith}
use Rattle.std.specs.BTreeMap.{IsOrdered, keys}
use Rattle.std.specs.List.{AllByRecursion, IsDistinct}
use Rattle.std.specs.Ordering.{eq_by_cmp}
use Rattle.std.proofs.lemmas.Map.Keys.{IsDistinct-from_sorted}
use Rattle.std.proofs.lemmas.Option.{same_Some}
use Rattle.lp_repr.specs.NameOrder.{nonterminal_cmp}
use Rattle.lp_repr.specs.declared.repr.Grammar.{Grammar}
use Rattle.lp_repr.specs.declared.repr.NonterminalString.{NonterminalString}
use Rattle.lp_repr.proofs.Numbers.{nonterminal_ties}
use Rattle.lp_agreement.proofs.Composed.Agreement.{AreApart}

all_at : {X : Type 0} (P : X → Type 0) (xs : List X) (i : ℕ) (x : X) → AllByRecursion P xs → slice_get xs i ≡ Some x → P x
all_at P [] i x all at = cc
all_at P (y ∷ xs) zero x all at = subst P (same_Some y x at) all.0
all_at P (y ∷ xs) (suc i) x all at = all_at P xs i x all.1 at

distinct_at : {X : Type 0} (same : X → X → Bool) (xs : List X) (i j : ℕ) (x y : X) → IsDistinct same xs → j < i → slice_get xs i ≡ Some x → slice_get xs j ≡ Some y → same y x ≡ false
unfolding IsDistinct
distinct_at same [] i j x y d less at other = cc
distinct_at same (z ∷ xs) zero j x y d less at other = absurd (omega (arith, less))
distinct_at same (z ∷ xs) (suc i) zero x y d less at other = subst (λ (w : _). same w x ≡ false) (same_Some z y other) (all_at (λ (w : _). same z w ≡ false) xs i x d.0 at)
distinct_at same (z ∷ xs) (suc i) (suc j) x y d less at other = distinct_at same xs i j x y d.1 (omega (arith, less)) at other

key_at : (es : List (NonterminalString × NonterminalString)) (i : ℕ) (e : NonterminalString × NonterminalString) → slice_get es i ≡ Some e → slice_get (map (λ (x : NonterminalString × NonterminalString). x.0) es) i ≡ Some e.0
key_at [] i e at = cc
key_at (x ∷ es) zero e at = ap (λ (y : NonterminalString × NonterminalString). Some y.0) (same_Some x e at)
key_at (x ∷ es) (suc i) e at = key_at es i e at

pub ordered_apart : (g : Grammar) → IsOrdered nonterminal_cmp g.start_nonterminals → AreApart g
ordered_apart g ordered i j names other less at earlier =
    nonterminal_ties other.0 names.0
    ∙ distinct_at (eq_by_cmp nonterminal_cmp) (keys g.start_nonterminals) i j names.0 other.0 (IsDistinct-from_sorted nonterminal_cmp (keys g.start_nonterminals) ordered) less (key_at g.start_nonterminals.entries i names at) (key_at g.start_nonterminals.entries j other earlier)
