-- What holds of each entry of a map or a set, by what a look-up finds.
use Rattle.std.proofs.Common.{◌≡◌, ◌↔◌, ℕ, Bool, true, false, refl, sym, ap, ◌∙◌, subst, Option, Some, None, IsSome, IsTrue, is_some, eqb-true, eq-eqb}
use Rattle.std.specs.BTreeMap.{BTreeMap, IsOrdered, get, is_at, keys}
use Rattle.std.specs.BTreeSet.{BTreeSet, contains}
use Rattle.std.specs.Cmp.{nat_cmp_total, unsigned_ties}
use Rattle.std.specs.List.{AllByRecursion}
use Rattle.std.specs.Ordering.{nat_cmp}
use Rattle.std.proofs.lemmas.Map.Entries.{place_from_lookup, btree_map_get_place}
use Rattle.lp_tables.proofs.Lists.{each_at, each_from, each_image, image_each, any_place, any_at}

-- numbers that compare equal are the same
pub at_same : (n k : ℕ) → is_at (nat_cmp n) k ≡ true → n ≡ k
at_same n k e = eqb-true n k (unsigned_ties n k ∙ e)

pub at_itself : (n : ℕ) → is_at (nat_cmp n) n ≡ true
at_itself n = sym (unsigned_ties n n) ∙ eq-eqb n n refl

-- what holds of all entries holds of what a look-up finds
pub by_get : (P : ℕ → ℕ → Type 0) (m : BTreeMap ℕ ℕ) (b : Bool) → IsOrdered nat_cmp m → (IsTrue b ↔ AllByRecursion (λ (e : ℕ × ℕ). P e.0 e.1) m.entries) → IsTrue b ↔ ((n t : ℕ) → get nat_cmp m n ≡ Some t → P n t)
by_get P m b o h = (
  λ yes n t e.
      let at = place_from_lookup (is_at (nat_cmp n)) m.entries t e in
      let same : n ≡ at.1 = at_same n at.1 at.3 in
      let p : P at.1 t = each_at (λ (e : ℕ × ℕ). P e.0 e.1) m.entries at.0 (at.1, t) (h.0 yes) at.2 in
      subst (λ k. P k t) (sym same) p,
  λ all. h.1 (each_from (λ (e : ℕ × ℕ). P e.0 e.1) m.entries (λ i e at. all e.0 e.1 (btree_map_get_place nat_cmp_total m i e.0 e.1 o at))),
)

-- the same of keys
some_of : (o : Option ℕ) → IsSome o → (t : ℕ) × (o ≡ Some t)
some_of None h = let no : false ≡ true = h in cc
some_of (Some t) h = (t, refl)

pub by_key : (Q : ℕ → Type 0) (m : BTreeMap ℕ ℕ) (b : Bool) → IsOrdered nat_cmp m → (IsTrue b ↔ AllByRecursion Q (keys m)) → IsTrue b ↔ ((n : ℕ) → IsSome (get nat_cmp m n) → Q n)
by_key Q m b o h =
    let entries = by_get (λ n t. Q n) m b o (λ yes. each_image (λ (e : ℕ × ℕ). e.0) Q m.entries (h.0 yes), λ all. h.1 (image_each (λ (e : ℕ × ℕ). e.0) Q m.entries all)) in
    (λ yes n s. let p = some_of (get nat_cmp m n) s in entries.0 yes n p.0 p.1, λ all. entries.1 (λ n t e. all n (ap is_some e)))

-- and of the numbers of a set
pub by_member : (Q : ℕ → Type 0) (s : BTreeSet ℕ) (b : Bool) → (IsTrue b ↔ AllByRecursion Q s.keys) → IsTrue b ↔ ((n : ℕ) → IsTrue (contains nat_cmp s n) → Q n)
by_member Q s b h = (
  λ yes n c.
      let at = any_place (is_at (nat_cmp n)) s.keys c in
      subst Q (sym (at_same n at.1 at.3)) (each_at Q s.keys at.0 at.1 (h.0 yes) at.2),
  λ all. h.1 (each_from Q s.keys (λ i n at. all n (any_at (is_at (nat_cmp n)) s.keys i n at (at_itself n)))),
)
