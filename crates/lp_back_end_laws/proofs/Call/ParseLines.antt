-- The body of a parser's `parse` method by recursive ascent: it pulls, makes the list of states and calls the function of state 0; what it does with the answer.
use Rattle.std.proofs.Common.{◌≡◌, ℕ, ◌+◌, List, [], ◌∷◌, ◌++◌, Some, None, slice_get, refl, sym, ap, ◌∙◌, subst, arith, append_assoc, append-nil, eq-eqb, if◌then◌else◌}
use Rattle.std.specs.Prelude.{slice_set}
use Rattle.lp_driver.specs.Values.{Spanned, Token, Value}
use Rattle.lp_repr.specs.declared.values.Loc.{Loc}
use Rattle.lp_repr.specs.declared.values.ParseError.TheVariants as failure
use Rattle.lp_core.specs.declared.expr.Op.TheVariants as op
use Rattle.lp_core.specs.declared.expr.Target.{Target}
use Rattle.lp_core.specs.declared.expr.Test.TheVariants as test
use Rattle.lp_core.specs.declared.value.Tag.{Tag}
use Rattle.lp_core.specs.declared.value.Tag.TheVariants as tag
use Rattle.lp_core.specs.Datum.{Parsed, Unset}
use Rattle.lp_core.specs.Effect.{set_value, stored, unit, write_over, all_written}
use Rattle.lp_core.specs.CaseMeaning.{chosen}
use Rattle.lp_core.specs.OpMeaning.{failure_val}
use Rattle.lp_core.specs.Reading.{empty, wrapped, triple}
use Rattle.lp_core.specs.Store.{Program}
use Rattle.lp_core.specs.Tree.{Tree, Apply, trees_of}
use Rattle.lp_core.specs.Val.{Val, Plain, Made, vals_of}
use Rattle.lp_maker.specs.Slots.{Names}
use Rattle.lp_maker.specs.Constructs as maker
use Rattle.lp_maker.specs.Constructs.{called, read, tried}
use Rattle.lp_ascent_bodies.specs.AscentStarts.{start_value}
use Rattle.lp_code_laws.specs.Ends.Ends.{Moment, over, Arguments, Giving, Returning, at, run_task}
use Rattle.lp_code_laws.specs.Ends.Slots.{HasSlots, put}
use Rattle.lp_code_laws.proofs.Ends.Blocks.{sequence_one}
use Rattle.lp_code_laws.proofs.Ends.Lists.{get_same, get_other}
use Rattle.lp_code_laws.proofs.Ends.Rules.{apply_to, apply_found, give_back, first_body, next_body, match_on}
use Rattle.lp_code_laws.proofs.Ends.Tags.{slot_is, open_slot, take_it, on_none, on_some}
use Rattle.lp_code_laws.proofs.Ends.Values.{all_put, take}
use Rattle.lp_code_laws.proofs.Printed.Lines.{read_shown}
use Rattle.lp_question_laws.specs.Reductions.Arguments.{ShowAll, reads}
use Rattle.lp_back_end_laws.specs.Call.Standing.{look_val, token_triple}
use Rattle.lp_back_end_laws.specs.Call.Stretches.{Rest, Nothing, Applied, Matched, Behind, LeadsTo, GoesOn}
use Rattle.lp_back_end_laws.proofs.Call.Callers.{leads_argument, leads_both, goes_now, goes_match, goes_apply, goes_behind, left_apply, left_behind}
use Rattle.lp_back_end_laws.proofs.Call.GotoArms.{variant_chosen}

module _ {p : Program} where
  -- arguments that are read by their names, and others behind them
  pub arguments_lead : {g : Target} (names : Names) (rest : List Tree) {m : Moment} (qs : List (List ℕ)) (vs before : List Val) → ShowAll names m.store.env qs vs → LeadsTo p (Arguments g (trees_of (reads names qs ++ rest)) before) m 0 (Arguments g (trees_of rest) (before ++ vs)) m
  arguments_lead {g} names rest {m} [] [] before h = record { runs = λ left. ap (λ us. run_task p (Arguments g (trees_of rest) us) (at m left)) (sym (append-nil before)) }
  arguments_lead names rest [] (v ∷ vs) before h = absurd h
  arguments_lead names rest (q ∷ qs) [] before h = absurd h
  arguments_lead {g} names rest {m} (q ∷ qs) (v ∷ vs) before h =
      subst (λ us. LeadsTo p (Arguments g (trees_of (reads names (q ∷ qs) ++ rest)) before) m 0 (Arguments g (trees_of rest) us) m) (append_assoc before (v ∷ []) vs)
      (leads_both (leads_argument (read_shown h.0 h.1)) (arguments_lead names rest qs vs (before ++ v ∷ []) h.2))

-- ---- what is done with the answer
-- the slots of the answer's two parts
abbrev pub two_parts : ℕ → Val → Val → List Val → List Val
two_parts x a b env = put x (a ∷ b ∷ []) env

abbrev pub end_lines : Tag → ℕ → List Tree
end_lines variant left = maker.on_option (maker.take_slot left) left (start_value variant (left + 1)) (Apply (op.Wrap tag.Failure) (Apply op.ExtraToken (maker.take_slot left))) ∷ []

abbrev pub end_rest : Tag → ℕ → ℕ → Rest
end_rest variant x left =
    Behind (trees_of (end_lines variant left))
    (Applied (op.Parts left 2)
    (Matched x (maker.here (test.Is tag.Success) 0 ∷ maker.here (test.Is tag.Failure) 1 ∷ [])
    (trees_of (maker.opened x (maker.take_slot x) ∷ maker.opened x (maker.give_back (Apply (op.Wrap tag.Failure) (maker.take_slot x))) ∷ maker.stuck ∷ [])) Nothing))

module _ (p : Program) (x left : ℕ) (variant : Tag) where
  -- it is an error
  pub end_fails : (v old : Val) (b : Moment) → set_value v ≡ Some v → slice_get b.store.env x ≡ Some old → GoesOn p (end_rest variant x left) (wrapped tag.Failure v) b 0 (Returning (wrapped tag.Failure v) (slot_is x (Plain Unset) b))
  end_fails v old b set there =
      left_behind (left_apply (goes_match goes_now refl (ap (write_over x (wrapped tag.Failure v) b.store) there) (next_body (first_body (open_slot x tag.Failure v b there (give_back (apply_to (take_it x v b there set) refl)))))))

  -- it succeeded: the run ends with this value, and no further calls
  pub record EndsWith (inner : Val) (b : Moment) (v : Val) : Type 0 where
    pub after : Moment
    pub calls : after.calls ≡ b.calls
    pub goes : GoesOn p (end_rest variant x left) (wrapped tag.Success inner) b 0 (Giving v after)

  -- the two parts stand in their slots
  parted : (one two old : Val) (b : Moment) → slice_get b.store.env x ≡ Some old → HasSlots left 2 (slice_set b.store.env x (Plain Unset)) → set_value (Made tag.Tuple (vals_of (one ∷ two ∷ []))) ≡ Some (Made tag.Tuple (vals_of (one ∷ two ∷ [])))
      → GoesOn p (Applied (op.Parts left 2) (Matched x (maker.here (test.Is tag.Success) 0 ∷ maker.here (test.Is tag.Failure) 1 ∷ []) (trees_of (maker.opened x (maker.take_slot x) ∷ maker.opened x (maker.give_back (Apply (op.Wrap tag.Failure) (maker.take_slot x))) ∷ maker.stuck ∷ [])) Nothing))
      (wrapped tag.Success (Made tag.Tuple (vals_of (one ∷ two ∷ [])))) b 0 (Giving unit (over (record b.store { env = two_parts left one two (slice_set b.store.env x (Plain Unset)) }) b))
  parted one two old b there slots set =
      let v = Made tag.Tuple (vals_of (one ∷ two ∷ [])) in
      goes_apply (goes_match goes_now refl (ap (write_over x (wrapped tag.Success v) b.store) there) (first_body (open_slot x tag.Success v b there (take_it x v b there set))))
      (ap (λ c. stored (if c then all_written left (one ∷ two ∷ []) (slot_is x (Plain Unset) b).store else None)) (eq-eqb 2 2 refl) ∙ ap stored (all_put (one ∷ two ∷ []) left (slot_is x (Plain Unset) b).store slots))

  module _ (one two : Val) (env : List Val) (slots : HasSlots left 2 env) where
    first_there : slice_get (two_parts left one two env) left ≡ Some one
    first_there = get_other (slice_set env left one) (left + 1) left two (λ e. omega (arith, e)) ∙ get_same env left (slots.slot left (omega arith) (omega arith)).1

    second_there : slice_get (two_parts left one two env) (left + 1) ≡ Some two
    second_there = get_same (slice_set env left one) (left + 1) (get_other env left (left + 1) one (λ e. omega (arith, e)) ∙ (slots.slot (left + 1) (omega arith) (omega arith)).1)

  -- nothing is left over: the start's value
  pub end_gives : (w : ℕ) (from to : Loc) (value : Value) (old : Val) (b : Moment) → variant ≡ tag.Variant w → slice_get b.store.env x ≡ Some old → HasSlots left 2 (slice_set b.store.env x (Plain Unset))
      → EndsWith (Made tag.Tuple (vals_of (empty tag.Absent ∷ wrapped (tag.Variant w) (triple from (Plain (Parsed value)) to) ∷ []))) b (wrapped tag.Success (Plain (Parsed value)))
  end_gives w from to value old b is there slots =
      let bare = slice_set b.store.env x (Plain Unset) in
      let symbol = triple from (Plain (Parsed value)) to in
      let made = wrapped (tag.Variant w) symbol in
      let n2 = over (record b.store { env = two_parts left (empty tag.Absent) made bare }) b in
      let n3 = slot_is left (Plain Unset) n2 in
      let n4 = slot_is left (empty tag.Absent) n3 in
      let n5 = slot_is (left + 1) (Plain Unset) n4 in
      let one = first_there (empty tag.Absent) made bare slots in
      let two = second_there (empty tag.Absent) made bare slots in
      let gone : slice_get n3.store.env left ≡ Some (Plain Unset) = get_same n2.store.env left one in
      let kept : slice_get n4.store.env (left + 1) ≡ Some made = get_other n3.store.env left (left + 1) (empty tag.Absent) (λ e. omega (arith, e)) ∙ get_other n2.store.env left (left + 1) (Plain Unset) (λ e. omega (arith, e)) ∙ two in
      let unset : slice_get n5.store.env (left + 1) ≡ Some (Plain Unset) = get_same n4.store.env (left + 1) kept in
      let chooses : chosen p (maker.here (test.Is variant) 0 ∷ []) 2 made ≡ Some 0 = ap (λ t. chosen p (maker.here (test.Is t) 0 ∷ []) 2 made) is ∙ variant_chosen p 2 w symbol (w ∷ []) 0 0 refl (λ j y less at e. omega (arith, less)) in
      record {
        after = slot_is (left + 1) (Plain Unset) n5;
        calls = refl;
        goes = goes_behind (parted (empty tag.Absent) made old b there slots refl)
            (sequence_one (on_none (take one refl) gone
            (match_on (take kept refl) chooses (ap (write_over (left + 1) made n5.store) unset)
            (first_body (apply_to (open_slot (left + 1) (tag.Variant w) symbol n5 unset (apply_found (Some (Plain (Parsed value))) (take_it (left + 1) symbol n5 unset refl) refl refl)) refl)))));
      }

  -- a token is left over: that is one too much
  pub end_extra : (y : Spanned Token) (made old : Val) (b : Moment) → slice_get b.store.env x ≡ Some old → HasSlots left 2 (slice_set b.store.env x (Plain Unset)) → EndsWith (Made tag.Tuple (vals_of (look_val (Some y) ∷ made ∷ []))) b (wrapped tag.Failure (failure_val (failure.ExtraToken y)))
  end_extra y made old b there slots =
      let bare = slice_set b.store.env x (Plain Unset) in
      let n2 = over (record b.store { env = two_parts left (look_val (Some y)) made bare }) b in
      let n3 = slot_is left (Plain Unset) n2 in
      let one = first_there (look_val (Some y)) made bare slots in
      let gone : slice_get n3.store.env left ≡ Some (Plain Unset) = get_same n2.store.env left one in
      record {
        after = slot_is left (Plain Unset) n3;
        calls = refl;
        goes = goes_behind (parted (look_val (Some y)) made old b there slots refl)
            (sequence_one (on_some (take one refl) gone (apply_to (apply_found (Some (failure_val (failure.ExtraToken y))) (take_it left (token_triple y) n3 gone refl) refl refl) refl)));
      }
