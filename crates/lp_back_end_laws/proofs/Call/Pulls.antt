-- The pull of the next token: there is one, none is left, or a fault of the token source is returned.
use Rattle.std.proofs.Common.{◌≡◌, ℕ, ◌+◌, ◌≤◌, Bool, List, Option, Some, None, refl, ap, arith}
use Rattle.std.specs.Prelude.{slice_get, slice_set}
use Rattle.lp_repr.specs.declared.values.Loc.{Loc}
use Rattle.lp_repr.specs.declared.values.RunItem.{RunItem}
use Rattle.lp_repr.specs.declared.values.RunItem.TheVariants as item
use Rattle.lp_repr.specs.declared.values.UserError.TheVariants as user
use Rattle.lp_repr.specs.declared.values.ParseError.TheVariants as failure
use Rattle.lp_driver.specs.Values.{Text, Token, Token_value}
use Rattle.lp_core.specs.declared.value.Tag.TheVariants as tag
use Rattle.lp_core.specs.Datum.{Unset, Parsed, Blamed}
use Rattle.lp_core.specs.Val.{Val, Plain}
use Rattle.lp_core.specs.Tree.{Tree}
use Rattle.lp_core.specs.Reading.{empty, wrapped, triple}
use Rattle.lp_core.specs.Store.{Program}
use Rattle.lp_core.specs.OpMeaning.{place, item_val, next_item, failure_val}
use Rattle.lp_core.specs.Effect.{set_value}
use Rattle.lp_maker.specs.Slots.{Names}
use Rattle.lp_maker.specs.Making.{Making}
use Rattle.lp_ascent_bodies.specs.AscentStarts.{source_triple, item_value, next_token}
use Rattle.lp_code_laws.specs.Ends.Ends.{Moment, over, steps, Eval, Outcome, Giving, Returning, EndsIn}
use Rattle.lp_code_laws.proofs.Ends.Steps.{steps_are}
use Rattle.lp_code_laws.proofs.Ends.Rules.{plain, apply_to, apply_found, argument, call, give_back}
use Rattle.lp_code_laws.proofs.Ends.Calls.{arguments_done}
use Rattle.lp_code_laws.proofs.Ends.Lists.{length_set}
use Rattle.lp_code_laws.proofs.Ends.Tags.{slot_is, on_none, on_some, on_success, on_failure, take_it}
use Rattle.lp_code_laws.specs.Slots.Shows.{HasRoom}
use Rattle.lp_code_laws.proofs.Slots.Slots.{get_within}
use Rattle.lp_question_laws.proofs.Tokens.Triples.{HasSource, item_made, item_ends}

-- the functions that make triples of items, where the token source has a closure
abbrev pub HasClosure : Program → Option ℕ → Type 0
HasClosure p None = Unit {0}
HasClosure p (Some closure) = HasSource p p.located closure

-- one item more is taken
abbrev pub taken_more : Moment → Moment
taken_more m = over (record m.store { taken = m.store.taken + 1 }) m

-- the two slots of a pull, which hold nothing afterwards
abbrev pub pulled_slots : ℕ → List Val → List Val
pulled_slots x env = slice_set (slice_set env x (Plain Unset)) (x + 1) (Plain Unset)

abbrev pub after_pull : ℕ → Moment → Moment
after_pull x m = over (record m.store { env = pulled_slots x m.store.env; taken = m.store.taken + 1 }) m

-- a token with its span
abbrev pub token_val : Program → Loc → Token → Loc → Val
token_val p a token b = triple (place p.located a) (Plain (Parsed (Token_value token))) (place p.located b)

-- an expression that ends so, in at most three steps
pub record Few (p : Program) (e : Tree) (m : Moment) (o : Outcome) : Type 0 where
  pub many : ℕ
  pub few : many ≤ 3
  pub ends : EndsIn p (Eval e) m many o

-- what the token source makes of an item, with a closure or without
abbrev pub sourced_val : Program → Option ℕ → RunItem → Val
sourced_val p None i = item_val p.located i
sourced_val p (Some closure) i = item_made p.located i

item_set : (located : Bool) (i : RunItem) → set_value (item_val located i) ≡ Some (item_val located i)
item_set located (item.Token a token b) = refl
item_set located (item.Fault name) = refl

module _ {p : Program} where
  source_ends : (closure : Option ℕ) → HasClosure p closure → (i : RunItem) (x : ℕ) (m : Moment) (old : Val) → slice_get m.store.env x ≡ Some old → Few p (source_triple closure x) (slot_is x (item_val p.located i) m) (Giving (sourced_val p closure i) (slot_is x (Plain Unset) m))
  source_ends None h i x m old there = record { many = 0; few = omega arith; ends = take_it x (item_val p.located i) m there (item_set p.located i) }
  source_ends (Some closure) h i x m old there =
      let r = item_ends p.located closure h i (slot_is x (Plain Unset) m) in
      record { many = steps 0 r.0; few = r.1; ends = call (argument (take_it x (item_val p.located i) m there (item_set p.located i)) (arguments_done r.2)) }

  -- the item in its slot, as a triple, or the return of its fault
  item_given : (closure : Option ℕ) → HasClosure p closure → (a : Loc) (token : Token) (b : Loc) (x : ℕ) (m : Moment) (one two : Val) → slice_get m.store.env x ≡ Some one → slice_get (slice_set m.store.env x (Plain Unset)) (x + 1) ≡ Some two
      → Few p (item_value closure x (x + 1)) (slot_is x (item_val p.located (item.Token a token b)) m) (Giving (wrapped tag.Present (token_val p a token b)) (slot_is (x + 1) (Plain Unset) (slot_is x (Plain Unset) m)))
  item_given None h a token b x m one two there behind =
      let s = source_ends None h (item.Token a token b) x m one there in
      record { many = steps s.many 0; few = omega (arith, s.few, steps_are s.many 0); ends = on_success s.ends behind (apply_to (take_it (x + 1) (token_val p a token b) (slot_is x (Plain Unset) m) behind refl) refl) }
  item_given (Some closure) h a token b x m one two there behind =
      let s = source_ends (Some closure) h (item.Token a token b) x m one there in
      record { many = steps s.many 0; few = omega (arith, s.few, steps_are s.many 0); ends = on_success s.ends behind (apply_to (take_it (x + 1) (token_val p a token b) (slot_is x (Plain Unset) m) behind refl) refl) }

  fault_given : (closure : Option ℕ) → HasClosure p closure → (name : Text) (x : ℕ) (m : Moment) (one two : Val) → slice_get m.store.env x ≡ Some one → slice_get (slice_set m.store.env x (Plain Unset)) (x + 1) ≡ Some two
      → Few p (item_value closure x (x + 1)) (slot_is x (item_val p.located (item.Fault name)) m) (Returning (wrapped tag.Failure (failure_val (failure.User (user.Fault name)))) (slot_is (x + 1) (Plain Unset) (slot_is x (Plain Unset) m)))
  fault_given None h name x m one two there behind =
      let s = source_ends None h (item.Fault name) x m one there in
      record { many = steps s.many 0; few = omega (arith, s.few, steps_are s.many 0); ends = on_failure s.ends behind (give_back (apply_to (apply_found _ (take_it (x + 1) (Plain (Blamed (user.Fault name))) (slot_is x (Plain Unset) m) behind refl) refl refl) refl)) }
  fault_given (Some closure) h name x m one two there behind =
      let s = source_ends (Some closure) h (item.Fault name) x m one there in
      record { many = steps s.many 0; few = omega (arith, s.few, steps_are s.many 0); ends = on_failure s.ends behind (give_back (apply_to (take_it (x + 1) (failure_val (failure.User (user.Fault name))) (slot_is x (Plain Unset) m) behind refl) refl)) }

  module _ (made : Making) (names : Names) (m : Moment) (room : HasRoom 2 names m.store.env) where
    -- none is left
    pub pull_none : slice_get p.items m.store.taken ≡ None → EndsIn p (Eval (next_token made names)) m 0 (Giving (empty tag.Absent) (slot_is names.next (empty tag.Absent) m))
    pull_none none = on_none (plain (ap (λ o. next_item p.located o m.store) none)) (get_within m.store.env names.next (omega (arith, room.room))).1 (plain refl)

    module _ (closure : HasClosure p made.item_closure) where
      -- a token is the lookahead, with its span
      pub pull_token : (a : Loc) (token : Token) (b : Loc) → slice_get p.items m.store.taken ≡ Some (item.Token a token b) → Few p (next_token made names) m (Giving (wrapped tag.Present (token_val p a token b)) (after_pull names.next m))
      pull_token a token b there =
          let one = get_within m.store.env names.next (omega (arith, room.room)) in
          let two = get_within (slice_set m.store.env names.next (Plain Unset)) (names.next + 1) (omega (arith, room.room, length_set m.store.env names.next (Plain Unset))) in
          let r = item_given made.item_closure closure a token b names.next (taken_more m) one.0 two.0 one.1 two.1 in
          record { many = steps 0 r.many; few = r.few; ends = on_some (plain (ap (λ o. next_item p.located o m.store) there)) one.1 r.ends }

      -- a fault is returned, as an error of user code
      pub pull_fault : (name : Text) → slice_get p.items m.store.taken ≡ Some (item.Fault name) → Few p (next_token made names) m (Returning (wrapped tag.Failure (failure_val (failure.User (user.Fault name)))) (after_pull names.next m))
      pull_fault name there =
          let one = get_within m.store.env names.next (omega (arith, room.room)) in
          let two = get_within (slice_set m.store.env names.next (Plain Unset)) (names.next + 1) (omega (arith, room.room, length_set m.store.env names.next (Plain Unset))) in
          let r = fault_given made.item_closure closure name names.next (taken_more m) one.0 two.0 one.1 two.1 in
          record { many = steps 0 r.many; few = r.few; ends = on_some (plain (ap (λ o. next_item p.located o m.store) there)) one.1 r.ends }
