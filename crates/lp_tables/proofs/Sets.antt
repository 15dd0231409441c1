-- Sets of items, by what was put into them.
use Rattle.std.proofs.Common.{◌≡◌, ℕ, Bool, true, false, cond, ◌||◌, ◌&&◌, ◌==◌, List, sym, ◌∙◌, eqb-true, eq-eqb}
use Rattle.std.specs.BTreeSet.{BTreeSet, contains}
use Rattle.std.specs.Cmp.{both_tied, unsigned_ties}
use Rattle.std.specs.List.{list_any}
use Rattle.std.specs.Ordering.{is_eq, nat_cmp}
use Rattle.std.proofs.lemmas.Bool.{and_parts, and_from}
use Rattle.lp_repr.specs.declared.lr1.Item.{Item}
use Rattle.lp_tables.specs.ItemSets.{item_cmp, IsSetOf}
use Rattle.lp_tables.proofs.Lists.{any_place, any_at}

-- items that compare equal are the same
pub items_tie : (x y : ℕ × ℕ) → is_eq (item_cmp x y) ≡ ((x.0 == y.0) && (x.1 == y.1))
items_tie x y = sym (both_tied (x.0 == y.0) (x.1 == y.1) (nat_cmp x.0 y.0) (nat_cmp x.1 y.1) (unsigned_ties x.0 y.0) (unsigned_ties x.1 y.1))

pub same_items : (a b p d : ℕ) → is_eq (item_cmp (a, b) (p, d)) ≡ true → (a ≡ p) × (b ≡ d)
same_items a b p d e =
    let parts = and_parts (a == p) (b == d) (sym (items_tie (a, b) (p, d)) ∙ e) in
    (eqb-true a p parts.0, eqb-true b d parts.1)

pub equal_items : (a b p d : ℕ) → a ≡ p → b ≡ d → is_eq (item_cmp (a, b) (p, d)) ≡ true
equal_items a b p d e f = items_tie (a, b) (p, d) ∙ and_from (a == p) (b == d) (eq-eqb a p e) (eq-eqb b d f)

-- a set into which these items were put
pub set_of : (items : List Item) (s : BTreeSet (ℕ × ℕ)) → ((q : ℕ × ℕ) → contains item_cmp s q ≡ list_any (λ i. is_eq (item_cmp (i.production, i.index) q)) items) → IsSetOf items s
set_of items s h = λ p d. (
  λ t.
      let at = any_place (λ (i : Item). is_eq (item_cmp (i.production, i.index) (p, d))) items (sym (h (p, d)) ∙ t) in
      let same = same_items (at.1).production (at.1).index p d at.3 in
      (at.0, at.1, at.2, same.0, same.1),
  λ i.
      h (p, d)
      ∙ any_at (λ (i : Item). is_eq (item_cmp (i.production, i.index) (p, d))) items i.0 i.1 i.2 (equal_items (i.1).production (i.1).index p d i.3 i.4),
)

-- what a set with one more key has
pub one_more : (c a b : Bool) → c ≡ cond a true b → c ≡ (b || a)
one_more c true true e = e
one_more c true false e = e
one_more c false true e = e
one_more c false false e = e
