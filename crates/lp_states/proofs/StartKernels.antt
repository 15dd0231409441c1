-- Whether a start has productions, by its kernel.
use Rattle.std.proofs.Common.{◌≡◌, ℕ, Bool, cond, List, [], ◌∷◌, length, Some, IsSome, refl, ap, ◌∙◌, arith}
use Rattle.std.specs.BTreeMap as tree
use Rattle.std.specs.Map.{lookup}
use Rattle.std.specs.Ordering.{is_eq}
use Rattle.std.proofs.lemmas.Cmp.{tied_itself}
use Rattle.lp_repr.specs.Closure.{given}
use Rattle.lp_repr.specs.declared.numbering.Rule.{Rule}
use Rattle.lp_states.specs.ItemSets.{IsBegun}
use Rattle.lp_states.specs.ItemMaps.{ItemMap, item_cmp, lookaheads_at, IsStartKernel}
use Rattle.lp_states.specs.Actions.{Entry}
use Rattle.lp_states.specs.Paths.{IsViable}
use Rattle.lp_states.proofs.Closures.{is_some_from}
use Rattle.lp_states.proofs.ItemOrder.{item_total}

module _ (rules : List Rule) (start : ℕ) (kernel : ItemMap) (begun : IsStartKernel rules start kernel) where
  nothing_from : (es : List Entry) → length es ≡ 0 → (p d : ℕ) → IsSome (lookup (tree.is_at (item_cmp (p, d))) es) → ⊥
  nothing_from [] e p d h = cc
  nothing_from (f ∷ es) e p d h = omega arith

  pub none_begun : length kernel.entries ≡ 0 → (p d : ℕ) → IsBegun rules start p d → ⊥
  none_begun e p d b = nothing_from kernel.entries e p d ((begun.cores p d).1 b)

  first_from : (es : List Entry) → kernel.entries ≡ es → (length es ≡ 0 → ⊥) → IsViable rules start []
  first_from [] e h = absurd (h refl)
  first_from (f ∷ es) e h =
      let at : lookaheads_at kernel f.0.0 f.0.1 ≡ Some f.1 = ap (lookup (tree.is_at (item_cmp f.0))) e ∙ ap (λ (b : Bool). cond b (Some f.1) (lookup (tree.is_at (item_cmp f.0)) es)) (ap is_eq (tied_itself item_total f.0)) in
      (f.0.0, f.0.1, given f.0.0 f.0.1 ((begun.cores f.0.0 f.0.1).0 (is_some_from (lookaheads_at kernel f.0.0 f.0.1) f.1 at)))

  pub some_begun : (length kernel.entries ≡ 0 → ⊥) → IsViable rules start []
  some_begun h = first_from kernel.entries refl h
