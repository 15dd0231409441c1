-- Matches on options and results: the value's one part takes the value's slot.
use Rattle.std.proofs.Common.{◌≡◌, ℕ, [], ◌∷◌, Some, refl, sym, ap, ◌∙◌}
use Rattle.std.specs.Prelude.{slice_get, slice_set}
use Rattle.std.specs.Option.{option_and_then}
use Rattle.lp_core.specs.declared.expr.Case.{Case}
use Rattle.lp_core.specs.declared.expr.Leaf.TheVariants as leaf
use Rattle.lp_core.specs.declared.expr.Op.TheVariants as op
use Rattle.lp_core.specs.declared.expr.Place.TheVariants as place
use Rattle.lp_core.specs.declared.expr.Test.TheVariants as test
use Rattle.lp_core.specs.declared.value.Tag.{Tag}
use Rattle.lp_core.specs.declared.value.Tag.TheVariants as tag
use Rattle.lp_core.specs.Datum.{Unset}
use Rattle.lp_core.specs.Val.{Val}
use Rattle.lp_core.specs.Val as val
use Rattle.lp_core.specs.Reading.{empty, wrapped}
use Rattle.lp_core.specs.Tree.{Tree, Plain, Apply, Match, Block, trees_of}
use Rattle.lp_core.specs.Store.{Program}
use Rattle.lp_core.specs.Effect.{with_slot, write_over, set_value, stored}
use Rattle.lp_code_laws.specs.Ends.Ends.{Moment, over, steps, Eval, Outcome, Giving, Returning, EndsIn}
use Rattle.lp_code_laws.proofs.Ends.Steps.{begins_as, ends_as}
use Rattle.lp_code_laws.proofs.Ends.Lists.{get_same, set_twice}
use Rattle.lp_code_laws.proofs.Ends.Rules.{apply_to, give_back, match_on, first_body, next_body, block, block_next}
use Rattle.lp_code_laws.proofs.Ends.Values.{take}
use Rattle.lp_code_laws.proofs.Ends.Blocks.{sequence_one}

abbrev pub has_tag : Tag → ℕ → Case
has_tag tag body = record { place = place.Here; test = test.Is tag; body = body }

abbrev pub match_tags : Tree → ℕ → Tag → Tree → Tag → Tree → Tree
match_tags value slot tag one other two = Match value slot (has_tag tag 0 ∷ has_tag other 1 ∷ []) (trees_of (one ∷ two ∷ Plain leaf.Stuck ∷ []))

-- puts what is in the slot's value in its place, and goes on
abbrev pub opened : ℕ → Tree → Tree
opened slot e = Block (trees_of (Apply (op.Parts slot 1) (Plain (leaf.Take slot)) ∷ e ∷ []))

abbrev pub on_option : Tree → ℕ → Tree → Tree → Tree
on_option value slot none some = match_tags value slot tag.Absent none tag.Present (opened slot some)

abbrev pub on_result : Tree → ℕ → Tree → Tree → Tree
on_result value slot good bad = match_tags value slot tag.Success (opened slot good) tag.Failure (opened slot bad)

abbrev pub tried : ℕ → Tree → Tree
tried slot value = on_result value slot (Plain (leaf.Take slot)) (Apply op.Return (Apply (op.Wrap tag.Failure) (Plain (leaf.Take slot))))

-- a slot with another value
abbrev pub slot_is : ℕ → Val → Moment → Moment
slot_is x v m = over (with_slot x v m.store) m

slot_twice : (x : ℕ) (v w : Val) (m : Moment) → slot_is x w (slot_is x v m) ≡ slot_is x w m
slot_twice x v w m = ap (λ l. over (record m.store { env = l }) m) (set_twice m.store.env x v w)

module _ {p : Program} where
  -- the part of the slot's value in its place
  pub open_slot : (x : ℕ) (t : Tag) (v : Val) (m : Moment) {e : Tree} {old : Val} {k : ℕ} {o : Outcome} → slice_get m.store.env x ≡ Some old → EndsIn p (Eval e) (slot_is x v m) k o → EndsIn p (Eval (opened x e)) (slot_is x (wrapped t v) m) k o
  open_slot x t v m there h =
      let was : slice_get (slice_set m.store.env x (wrapped t v)) x ≡ Some (wrapped t v) = get_same m.store.env x there in
      let bare = slot_is x (val.Plain Unset) (slot_is x (wrapped t v) m) in
      let unset : slice_get bare.store.env x ≡ Some (val.Plain Unset) = get_same (slice_set m.store.env x (wrapped t v)) x was in
      let back : slot_is x v m ≡ slot_is x v bare = sym (slot_twice x (val.Plain Unset) v (slot_is x (wrapped t v) m) ∙ slot_twice x (wrapped t v) v m) in
      block (block_next (apply_to (take was refl) (ap (λ o. stored (option_and_then (λ s. Some s) (write_over x v bare.store o))) unset)) (sequence_one (begins_as h back)))

  -- `match value { None => none, Some(x) => some }`
  pub on_none : {value none some : Tree} {x : ℕ} {m n : Moment} {j k : ℕ} {old : Val} {o : Outcome} → EndsIn p (Eval value) m j (Giving (empty tag.Absent) n) → slice_get n.store.env x ≡ Some old → EndsIn p (Eval none) (slot_is x (empty tag.Absent) n) k o → EndsIn p (Eval (on_option value x none some)) m (steps j k) o
  on_none {x = x} {n = n} h there g = match_on h refl (ap (write_over x (empty tag.Absent) n.store) there) (first_body g)

  pub on_some : {value none some : Tree} {x : ℕ} {m n : Moment} {j k : ℕ} {v old : Val} {o : Outcome} → EndsIn p (Eval value) m j (Giving (wrapped tag.Present v) n) → slice_get n.store.env x ≡ Some old → EndsIn p (Eval some) (slot_is x v n) k o → EndsIn p (Eval (on_option value x none some)) m (steps j k) o
  on_some {x = x} {n = n} {v = v} h there g = match_on h refl (ap (write_over x (wrapped tag.Present v) n.store) there) (next_body (first_body (open_slot x tag.Present v n there g)))

  -- `match value { Ok(x) => good, Err(x) => bad }`
  pub on_success : {value good bad : Tree} {x : ℕ} {m n : Moment} {j k : ℕ} {v old : Val} {o : Outcome} → EndsIn p (Eval value) m j (Giving (wrapped tag.Success v) n) → slice_get n.store.env x ≡ Some old → EndsIn p (Eval good) (slot_is x v n) k o → EndsIn p (Eval (on_result value x good bad)) m (steps j k) o
  on_success {x = x} {n = n} {v = v} h there g = match_on h refl (ap (write_over x (wrapped tag.Success v) n.store) there) (first_body (open_slot x tag.Success v n there g))

  pub on_failure : {value good bad : Tree} {x : ℕ} {m n : Moment} {j k : ℕ} {v old : Val} {o : Outcome} → EndsIn p (Eval value) m j (Giving (wrapped tag.Failure v) n) → slice_get n.store.env x ≡ Some old → EndsIn p (Eval bad) (slot_is x v n) k o → EndsIn p (Eval (on_result value x good bad)) m (steps j k) o
  on_failure {x = x} {n = n} {v = v} h there g = match_on h refl (ap (write_over x (wrapped tag.Failure v) n.store) there) (next_body (first_body (open_slot x tag.Failure v n there g)))

  -- the slot is read for the last time
  pub take_it : (x : ℕ) (v : Val) (m : Moment) {old : Val} → slice_get m.store.env x ≡ Some old → set_value v ≡ Some v → EndsIn p (Eval (Plain (leaf.Take x))) (slot_is x v m) 0 (Giving v (slot_is x (val.Plain Unset) m))
  take_it x v m there set = ends_as (take (get_same m.store.env x there) set) (ap (Giving v) (slot_twice x v (val.Plain Unset) m))

  -- `value?`: the value, or the return of the error
  pub tried_success : {value : Tree} {x : ℕ} {m n : Moment} {j : ℕ} {v old : Val} → EndsIn p (Eval value) m j (Giving (wrapped tag.Success v) n) → slice_get n.store.env x ≡ Some old → set_value v ≡ Some v → EndsIn p (Eval (tried x value)) m (steps j 0) (Giving v (slot_is x (val.Plain Unset) n))
  tried_success {x = x} {n = n} {v = v} h there set = on_success h there (take_it x v n there set)

  pub tried_failure : {value : Tree} {x : ℕ} {m n : Moment} {j : ℕ} {v old : Val} → EndsIn p (Eval value) m j (Giving (wrapped tag.Failure v) n) → slice_get n.store.env x ≡ Some old → set_value v ≡ Some v → EndsIn p (Eval (tried x value)) m (steps j 0) (Returning (wrapped tag.Failure v) (slot_is x (val.Plain Unset) n))
  tried_failure {x = x} {n = n} {v = v} h there set = on_failure h there (give_back (apply_to (take_it x v n there set) refl))
