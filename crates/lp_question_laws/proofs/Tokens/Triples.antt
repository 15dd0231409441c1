-- The closure of the token source: what a call with an item gives.
use Rattle.std.proofs.Common.{◌≡◌, ℕ, suc, ◌≤◌, Bool, true, false, [], ◌∷◌, Some, refl, arith}
use Rattle.std.specs.Prelude.{slice_get}
use Rattle.lp_repr.specs.declared.values.Loc.{Loc}
use Rattle.lp_repr.specs.declared.values.RunItem.{RunItem}
use Rattle.lp_repr.specs.declared.values.RunItem.TheVariants as item
use Rattle.lp_repr.specs.declared.values.UserError.TheVariants as user
use Rattle.lp_repr.specs.declared.values.ParseError.TheVariants as failure
use Rattle.lp_driver.specs.Values.{Text, Token, Token_value}
use Rattle.lp_core.specs.declared.value.Tag.TheVariants as tag
use Rattle.lp_core.specs.Datum.{Parsed, Failed, Blamed}
use Rattle.lp_core.specs.OpMeaning.{place, item_val}
use Rattle.lp_core.specs.Reading.{wrapped, triple}
use Rattle.lp_core.specs.Store.{Program}
use Rattle.lp_core.specs.Val.{Val, Plain}
use Rattle.lp_bodies.specs.Source.{first_function, error_function, fault_function, item_function}
use Rattle.lp_turns.specs.Readings.{item_of, located_item}
use Rattle.lp_code_laws.specs.Ends.Ends.{Moment, Enter, Giving, EndsIn}
use Rattle.lp_code_laws.proofs.Ends.Calls.{enter, arguments_done, joined}
use Rattle.lp_code_laws.proofs.Ends.Rules.{apply_to, apply_found, argument, call, plain}
use Rattle.lp_code_laws.proofs.Ends.Tags.{on_success, on_failure}
use Rattle.lp_code_laws.proofs.Ends.Values.{take}

-- functions that make triples of items, and the closure that calls them
pub record HasSource (p : Program) (located : Bool) (n : ℕ) : Type 0 where
  pub first : ℕ
  pub error : ℕ
  pub fault : ℕ
  pub first_there : slice_get p.functions first ≡ Some (first_function located)
  pub error_there : located ≡ true → slice_get p.functions error ≡ Some error_function
  pub fault_there : slice_get p.functions fault ≡ Some (fault_function located error)
  pub item_there : slice_get p.functions n ≡ Some (item_function first fault)

-- a token with its span, or the error of a fault
abbrev pub item_made : Bool → RunItem → Val
item_made located (item.Token a token b) = wrapped tag.Success (triple (place located a) (Plain (Parsed (Token_value token))) (place located b))
item_made located (item.Fault name) = wrapped tag.Failure (Plain (Failed (failure.User (user.Fault name))))

pub item_read : (located : Bool) (i : RunItem) → item_of (item_made located i) ≡ Some (located_item located i)
item_read located (item.Token a token b) = refl
item_read located (item.Fault name) = refl

module _ {p : Program} where
  -- the call with a token
  first_ends : (located : Bool) (f : ℕ) (a b : Loc) (token : Token) → slice_get p.functions f ≡ Some (first_function located) → (m : Moment)
      → EndsIn p (Enter f (triple (place located a) (Plain (Parsed (Token_value token))) (place located b) ∷ [])) m 1 (Giving (item_made located (item.Token a token b)) m)
  first_ends true f a b token there m = enter there refl (apply_to (take refl refl) refl) refl
  first_ends false f a b token there m =
      enter there refl (apply_to (call (argument (plain refl) (argument (apply_found _ (take refl refl) refl refl) (argument (plain refl) (joined refl refl))))) refl) refl

  -- the call with a fault
  fault_ends : (located : Bool) (f error : ℕ) (name : Text) → slice_get p.functions f ≡ Some (fault_function located error) → (located ≡ true → slice_get p.functions error ≡ Some error_function) → (m : Moment)
      → (k : ℕ) × (k ≤ 2) × EndsIn p (Enter f (wrapped tag.Failure (Plain (Blamed (user.Fault name))) ∷ [])) m k (Giving (item_made located (item.Fault name)) m)
  fault_ends true f error name there error_there m =
      (2, omega arith, enter there refl (on_failure (take refl refl) refl (apply_to (call (argument (take refl refl) (arguments_done (enter (error_there refl) refl (apply_found _ (take refl refl) refl refl) refl)))) refl)) refl)
  fault_ends false f error name there error_there m = (1, omega arith, enter there refl (on_failure (take refl refl) refl (apply_to (apply_found _ (take refl refl) refl refl) refl)) refl)

  -- the closure's call with an item: three steps at most
  pub item_ends : (located : Bool) (n : ℕ) → HasSource p located n → (i : RunItem) (m : Moment) → (k : ℕ) × (k ≤ 3) × EndsIn p (Enter n (item_val located i ∷ [])) m k (Giving (item_made located i) m)
  item_ends located n h (item.Token a token b) m =
      (2, omega arith, enter h.item_there refl (on_success (take refl refl) refl (call (argument (take refl refl) (arguments_done (first_ends located h.first a b token h.first_there _))))) refl)
  item_ends located n h (item.Fault name) m =
      let f = fault_ends located h.fault h.error name h.fault_there h.error_there _ in
      (suc f.0, (let few = f.1 in omega arith), enter h.item_there refl (on_failure (take refl refl) refl (call (argument (apply_to (take refl refl) refl) (arguments_done f.2)))) refl)
