-- What the machine comes to where it pulls, reduces or finds no action.
use Rattle.std.proofs.Common.{◌≡◌, ℕ, ◌+◌, ◌≤◌, false, List, ◌++◌, length, Option, Some, None, Ok, refl, sym, ap, ◌∙◌, ⊎_elim}
use Rattle.std.specs.Prelude.{slice_get}
use Rattle.std.proofs.lemmas.List.{map-append}
use Rattle.std.proofs.lemmas.Option.{slice_get_cases}
use Rattle.lp_repr.specs.declared.values.Loc.{Loc}
use Rattle.lp_repr.specs.declared.values.RunItem.{RunItem}
use Rattle.lp_repr.specs.declared.values.RunItem.TheVariants as item
use Rattle.lp_driver.specs.DriverState.{last_of}
use Rattle.lp_driver.specs.Values.{Token, Spanned, Value}
use Rattle.lp_machine.specs.declared.config.Config.{Config}
use Rattle.lp_machine.specs.declared.config.Lookahead.{Lookahead}
use Rattle.lp_machine.specs.declared.lookup.Act.TheVariants.{NoAction}
use Rattle.lp_machine.specs.declared.lookup.Rule.{Rule}
use Rattle.lp_machine.specs.ExpectedList.{action_on}
use Rattle.lp_machine.specs.Move.{token_in, takes, pulls}
use Rattle.lp_machine.specs.Moves.{valued, acted, errs, asks, ready}
use Rattle.lp_machine.specs.StackMachine.{lookahead_token, lookahead_terminal}
use Rattle.lp_machine.specs.Tables.{Tables}
use Rattle.lp_turn_laws.proofs.Alike.Reduced.{called_calls}
use Rattle.lp_agrees.specs.Machine.{as_user}
use Rattle.lp_back_end_laws.specs.Call.Standing.{as_users, EndsThere, Holds, HasNone, Sees, at_end, known, unknown}
use Rattle.lp_back_end_laws.proofs.Call.Moves.{sets_left, once, errs_sets, asks_sets, after_calls, no_action_left, ends_there}

none_left : (items : List RunItem) (k : ℕ) → slice_get items k ≡ None → length items ≤ k
none_left items k none = ⊎_elim (λ a. absurd (let e = a.2 in cc)) (λ a. a.0) (slice_get_cases items k).1

module _ (t : Tables) (items : List RunItem) where
  -- where it reduces, the calls of the action come last
  pub users_after : (c : Config) (rule : Rule) (value : Value) → as_users (valued t items (after_calls t items c rule) rule value).calls ≡ as_users c.calls ++ as_users (acted t items c rule).calls
  users_after c rule value = ap as_users (called_calls t items (after_calls t items c rule) rule (Ok value)) ∙ map-append as_user c.calls (acted t items c rule).calls

module _ (t : Tables) (items : List RunItem) (never : t.error ≡ None) where
  -- ---- where a state's function pulls
  module _ (c : Config) (none : c.lookahead ≡ None) (is : c ≡ ready t items c) where
    -- a token is taken, of a terminal or of none
    module _ (a b : Loc) (token : Token) (at : slice_get items c.taken ≡ Some (item.Token a token b)) where
      abbrev pulled : Config
      pulled = pulls t items c (Some (item.Token a token b))

      abbrev x : Spanned Token
      x = token_in t items a token b

      abbrev taking : Config
      taking = record c { taken = c.taken + 1; last = x.2 }

      record Taken (after : Config) : Type 0 where
        same : after ≡ record taking { lookahead = after.lookahead; left = after.left }
        sees : Sees t items after (Some x)

      takes_by : (o : Option ℕ) → t.terminal token ≡ o → Taken (takes t items taking x o)
      takes_by None e =
          let same = sets_left (λ c. errs t items c (Some x) false) (errs_sets t items (Some x)) taking in
          let nothing = ap (λ (c : Config). c.lookahead) same in
          record {
            same = same ∙ ap (λ (o : Option Lookahead). record taking { lookahead = o; left = (errs t items taking (Some x) false).left }) (sym nothing);
            sees = unknown x (nothing ∙ none) e (sym (once (λ c. errs t items c (Some x) false) (errs_sets t items (Some x)) taking));
          }
      takes_by (Some i) e =
          let held : Config = record taking { lookahead = Some (record { token = x; index = i }) } in
          let same = sets_left (asks t items) (asks_sets t items never) held in
          let in_hand = ap (λ (c : Config). c.lookahead) same in
          record {
            same = same ∙ ap (λ (o : Option Lookahead). record taking { lookahead = o; left = (asks t items held).left }) (sym in_hand);
            sees = known x (record { index = i; in_hand = in_hand; terminal = e; ends = sym (ap (λ (c : Config). c.last) same) }) (sym (once (asks t items) (asks_sets t items never) held));
          }

      pub token_same : pulled ≡ record c { taken = c.taken + 1; last = x.2; lookahead = pulled.lookahead; left = pulled.left }
      token_same = (takes_by (t.terminal token) refl).same

      pub token_seen : Sees t items pulled (Some x)
      token_seen = (takes_by (t.terminal token) refl).sees

    -- no item is left
    pub end_seen : EndsThere c → slice_get items c.taken ≡ None → Sees t items c None
    end_seen ends past =
        let left : length items ≤ c.taken = none_left items c.taken past in
        at_end (record { nothing = none; all_taken = left }) ends (ends_there t items c none is left)

  -- ---- where it finds no action
  module _ (c : Config) (whole : c.mending ≡ None) (asked : c ≡ asks t items c) (act : action_on t (last_of c.states) (lookahead_terminal c.lookahead) ≡ NoAction) where
    pub token_error : (x : Spanned Token) → Holds t c x → c ≡ errs t items c (Some x) false
    token_error x h = no_action_left t items never c whole asked act ∙ ap (λ (o : Option Lookahead). errs t items c (lookahead_token o) false) h.in_hand

    pub end_error : HasNone items c → c ≡ errs t items c None false
    end_error h = no_action_left t items never c whole asked act ∙ ap (λ (o : Option Lookahead). errs t items c (lookahead_token o) false) h.nothing
