-- The items of a closure, production by production.
use Rattle.std.proofs.Common.{◌≡◌, ℕ, zero, suc, ◌+◌, ◌<◌, ◌≤◌, Bool, true, false, cond, List, length, Option, Some, None, slice_get, refl, sym, ap, ◌∙◌, ⊎_elim, subst, arith}
use Rattle.std.specs.BTreeMap as tree
use Rattle.std.specs.Option.{option_map, option_and_then}
use Rattle.std.specs.Ordering.{nat_cmp, eq_by_cmp, is_eq}
use Rattle.std.specs.declared.cmp.Ordering.{Ordering}
use Rattle.std.specs.declared.cmp.Ordering.TheVariants.{Less, Equal, Greater}
use Rattle.std.proofs.lemmas.Bool.{cases_lt}
use Rattle.std.proofs.lemmas.Cmp.{tied_itself}
use Rattle.std.proofs.lemmas.Option.{slice_get_within}
use Rattle.lp_repr.specs.declared.numbering.Rule.{Rule}
use Rattle.lp_sets.specs.declared.tokens.TokenSet.{TokenSet}
use Rattle.lp_states.specs.Ranges.{left_of}
use Rattle.lp_states.specs.ItemMaps.{ItemMap, item_cmp, lookaheads_at, IsPut, added_to, asked_at, joined, closed_at}
use Rattle.lp_states.specs.Asking.{AskedMap}
use Rattle.lp_states.proofs.ItemOrder.{item_total, item_exact}

equal_from : (o : Ordering) → is_eq o ≡ true → o ≡ Equal
equal_from Less h = cc
equal_from Equal h = refl
equal_from Greater h = cc

elsewhere : (k p d : ℕ) (v : TokenSet) (o : Option TokenSet) (b : Bool) → eq_by_cmp item_cmp (k, 0) (p, d) ≡ b → ((k ≡ p) → (d ≡ 0) → ⊥) → cond b (Some v) o ≡ o
elsewhere k p d v o true h other =
    let e = item_exact (k, 0) (p, d) (equal_from (item_cmp (k, 0) (p, d)) h) in
    absurd (other (ap (λ (x : ℕ × ℕ). x.0) e) (sym (ap (λ (x : ℕ × ℕ). x.1) e)))
elsewhere k p d v o false h other = refl

pub put_elsewhere : (old new : ItemMap) (k : ℕ) (v : TokenSet) → IsPut item_cmp old new (k, 0) v → (p d : ℕ) → ((k ≡ p) → (d ≡ 0) → ⊥) → lookaheads_at new p d ≡ lookaheads_at old p d
put_elsewhere old new k v put p d other =
    put (p, d) ∙ elsewhere k p d v (lookaheads_at old p d) (eq_by_cmp item_cmp (k, 0) (p, d)) refl other

pub put_there : (old new : ItemMap) (k : ℕ) (v : TokenSet) → IsPut item_cmp old new (k, 0) v → lookaheads_at new k 0 ≡ Some v
put_there old new k v put =
    put (k, 0) ∙ ap (λ (b : Bool). cond b (Some v) (lookaheads_at old k 0)) (ap is_eq (tied_itself item_total (k, 0)))

asked_none : (rules : List Rule) (sets : AskedMap) (p d : ℕ) → option_and_then (λ n. tree.get nat_cmp sets n) (left_of rules p) ≡ None → asked_at rules sets p d ≡ None
asked_none rules sets p zero h = h
asked_none rules sets p (suc d) h = refl

-- the productions below a number are closed, and the others stand as in the kernel
pub record ClosedBelow (rules : List Rule) (kernel : ItemMap) (sets : AskedMap) (k : ℕ) (items : ItemMap) : Type 0 where
  pub below : (p d : ℕ) → p < k → lookaheads_at items p d ≡ closed_at rules kernel sets p d
  pub others : (p d : ℕ) → k ≤ p → lookaheads_at items p d ≡ lookaheads_at kernel p d

module _ (rules : List Rule) (kernel : ItemMap) (sets : AskedMap) where
  pub closed_none : (items : ItemMap) → ((p d : ℕ) → lookaheads_at items p d ≡ lookaheads_at kernel p d) → ClosedBelow rules kernel sets 0 items
  closed_none items same = record { below = λ p d l. absurd (omega arith); others = λ p d l. same p d }

  left_past : (p : ℕ) (o : Option Rule) → slice_get rules p ≡ o → length rules ≤ p → option_map (λ (r : Rule). r.left) o ≡ None
  left_past p None h l = refl
  left_past p (Some r) h l = absurd (omega (arith, slice_get_within rules p r h))

  pub closed_all : (k : ℕ) (items : ItemMap) → length rules ≤ k → ClosedBelow rules kernel sets k items → (p d : ℕ) → lookaheads_at items p d ≡ closed_at rules kernel sets p d
  closed_all k items l h p d =
      ⊎_elim (λ (b : p < k). h.below p d b) (λ (b : k ≤ p). h.others p d b ∙ ap (joined (lookaheads_at kernel p d)) (sym (asked_none rules sets p d (ap (option_and_then (λ n. tree.get nat_cmp sets n)) (left_past p (slice_get rules p) refl (omega arith)))))) (cases_lt p k)

  module _ (k n : ℕ) (left : left_of rules k ≡ Some n) (items : ItemMap) (so_far : ClosedBelow rules kernel sets k items) where
    -- the nonterminal was not asked for
    pub closed_skip : tree.get nat_cmp sets n ≡ None → ClosedBelow rules kernel sets (k + 1) items
    closed_skip none = record {
      below = λ p d l. ⊎_elim (λ (b : p < k). so_far.below p d b) (λ (b : k ≤ p). let e : p ≡ k = omega arith in so_far.others p d b ∙ ap (joined (lookaheads_at kernel p d)) (sym (asked_none rules sets p d (ap (λ (m : ℕ). option_and_then (λ x. tree.get nat_cmp sets x) (left_of rules m)) e ∙ ap (option_and_then (λ x. tree.get nat_cmp sets x)) left ∙ none)))) (cases_lt p k);
      others = λ p d l. so_far.others p d (omega arith);
    }

    -- it was
    module _ (s : TokenSet) (at : tree.get nat_cmp sets n ≡ Some s) (new : ItemMap) (put : IsPut item_cmp items new (k, 0) (added_to (lookaheads_at items k 0) s)) where
      closed_here : (d : ℕ) → lookaheads_at new k d ≡ closed_at rules kernel sets k d
      closed_here zero =
          put_there items new k (added_to (lookaheads_at items k 0) s) put
          ∙ ap (λ (o : Option TokenSet). Some (added_to o s)) (so_far.others k 0 (omega arith))
          ∙ ap (joined (lookaheads_at kernel k 0)) (sym (ap (option_and_then (λ x. tree.get nat_cmp sets x)) left ∙ at))
      closed_here (suc d) =
          put_elsewhere items new k (added_to (lookaheads_at items k 0) s) put k (suc d) (λ a b. cc) ∙ so_far.others k (suc d) (omega arith)

      pub closed_put : ClosedBelow rules kernel sets (k + 1) new
      closed_put = record {
        below = λ p d l. ⊎_elim (λ (b : p < k). put_elsewhere items new k (added_to (lookaheads_at items k 0) s) put p d (λ a c. omega arith) ∙ so_far.below p d b) (λ (b : k ≤ p). let e : k ≡ p = omega arith in subst (λ m. lookaheads_at new m d ≡ closed_at rules kernel sets m d) e (closed_here d)) (cases_lt p k);
        others = λ p d l. put_elsewhere items new k (added_to (lookaheads_at items k 0) s) put p d (λ a c. omega arith) ∙ so_far.others p d (omega arith);
      }
