-- A value put at a key that was taken out before.
use Rattle.std.proofs.Common.{◌≡◌, Bool, true, false, cond, Option, Some, refl, ap, ◌∙◌}
use Rattle.std.specs.BTreeMap as tree
use Rattle.std.specs.BTreeMap.{BTreeMap}
use Rattle.std.specs.declared.cmp.Ordering.{Ordering}
use Rattle.std.specs.Ordering.{eq_by_cmp}
use Rattle.lp_states.specs.ItemMaps.{IsPut}

over_again : {X : Type 0} (b : Bool) (x y z : Option X) → cond b x (cond b y z) ≡ cond b x z
over_again true x y z = refl
over_again false x y z = refl

pub put_again : {K X : Type 0} (cmp : K → K → Ordering) (old mid new : BTreeMap K X) (k : K) (v : X) (o : Option X) → ((q : K) → tree.get cmp mid q ≡ cond (eq_by_cmp cmp k q) o (tree.get cmp old q)) → ((q : K) → tree.get cmp new q ≡ cond (eq_by_cmp cmp k q) (Some v) (tree.get cmp mid q)) → IsPut cmp old new k v
put_again {K} {X} cmp old mid new k v o first second q =
    second q ∙ ap (λ (x : Option X). cond (eq_by_cmp cmp k q) (Some v) x) (first q) ∙ over_again (eq_by_cmp cmp k q) (Some v) o (tree.get cmp old q)
