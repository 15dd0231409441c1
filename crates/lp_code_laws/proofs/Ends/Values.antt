-- Slots and constants.
use Rattle.std.proofs.Common.{◌≡◌, ℕ, suc, ◌+◌, List, [], ◌∷◌, length, Some, None, refl, ap, ◌∙◌, arith, eq-eqb}
use Rattle.std.specs.Prelude.{slice_get, slice_set, if◌then◌else◌}
use Rattle.std.specs.Option.{option_and_then}
use Rattle.lp_core.specs.declared.expr.Leaf.TheVariants as leaf
use Rattle.lp_core.specs.declared.expr.Op.TheVariants as op
use Rattle.lp_core.specs.Datum.{Unset}
use Rattle.lp_core.specs.declared.value.Tag.{Tag}
use Rattle.lp_core.specs.Val.{Val, Vals, Made, list_of}
use Rattle.lp_core.specs.Val as val
use Rattle.lp_core.specs.Tree.{Tree, Plain, Apply}
use Rattle.lp_core.specs.Store.{Store, Program}
use Rattle.lp_core.specs.Effect.{gave, stored, write_over, all_written, with_slot, set_value, unit}
use Rattle.lp_code_laws.specs.Ends.Ends.{Moment, over, Eval, Giving, EndsIn}
use Rattle.lp_code_laws.specs.Ends.Slots.{HasSlots, put}
use Rattle.lp_code_laws.proofs.Ends.Lists.{slot_kept}
use Rattle.lp_code_laws.proofs.Ends.Rules.{plain, apply_to}

-- there are as many slots after a write
pub slots_kept : (first n x : ℕ) (env : List Val) (v : Val) → HasSlots first n env → HasSlots first n (slice_set env x v)
slots_kept first n x env v h = record { slot = λ i low high. slot_kept env x i v (h.slot i low high).0 (h.slot i low high).1 }

pub slots_next : (first n : ℕ) (env : List Val) (v : Val) → HasSlots first (suc n) env → HasSlots (first + 1) n (slice_set env first v)
slots_next first n env v h = record { slot = λ i low high. slot_kept env first i v (h.slot i (omega arith) (omega arith)).0 (h.slot i (omega arith) (omega arith)).1 }

-- all values are written
pub all_put : (vs : List Val) (x : ℕ) (s : Store) → HasSlots x (length vs) s.env → all_written x vs s ≡ Some (record s { env = put x vs s.env })
all_put [] x s h = refl
all_put (v ∷ vs) x s h =
    ap (λ o. option_and_then (all_written (x + 1) vs) (write_over x v s o)) (h.slot x (omega arith) (omega arith)).1
    ∙ all_put vs (x + 1) (with_slot x v s) (slots_next x (length vs) s.env v h)

module _ {p : Program} where
  -- a slot that has a value
  pub read : {x : ℕ} {m : Moment} {v : Val} → slice_get m.store.env x ≡ Some v → set_value v ≡ Some v → EndsIn p (Eval (Plain (leaf.Read x))) m 0 (Giving v m)
  read {x} {m} is set = plain (ap (λ o. gave (option_and_then set_value o) m.store) is ∙ ap (λ o. gave o m.store) set)

  -- it is read for the last time
  pub take : {x : ℕ} {m : Moment} {v : Val} → slice_get m.store.env x ≡ Some v → set_value v ≡ Some v → EndsIn p (Eval (Plain (leaf.Take x))) m 0 (Giving v (over (with_slot x (val.Plain Unset) m.store) m))
  take {x} {m} is set = plain (ap (λ o. gave (option_and_then set_value o) (with_slot x (val.Plain Unset) m.store)) is ∙ ap (λ o. gave o (with_slot x (val.Plain Unset) m.store)) set)

  -- `let` and assignment
  pub write : {x : ℕ} {e : Tree} {m n : Moment} {k : ℕ} {v old : Val} → EndsIn p (Eval e) m k (Giving v n) → slice_get n.store.env x ≡ Some old → EndsIn p (Eval (Apply (op.Write x) e)) m k (Giving unit (over (with_slot x v n.store) n))
  write {x} {n = n} {v = v} h there = apply_to h (ap (λ o. stored (write_over x v n.store o)) there)

  -- the parts of a value, in as many slots
  pub parts : {x : ℕ} {t : Tag} {vs : Vals} {e : Tree} {m n : Moment} {k : ℕ} → EndsIn p (Eval e) m k (Giving (Made t vs) n) → HasSlots x (length (list_of vs)) n.store.env → EndsIn p (Eval (Apply (op.Parts x (length (list_of vs))) e)) m k (Giving unit (over (record n.store { env = put x (list_of vs) n.store.env }) n))
  parts {x} {vs = vs} {n = n} h there =
      let many = length (list_of vs) in
      apply_to h
      (ap (λ b. stored (if b then all_written x (list_of vs) n.store else None)) (eq-eqb many many refl)
      ∙ ap stored (all_put (list_of vs) x n.store there))
