-- What the row of a group does with a token: it wraps the token, or what its pattern captures, into the group's variant.
use Rattle.std.proofs.Common.{◌≡◌, ℕ, suc, ◌<◌, List, [], ◌∷◌, ◌++◌, length, map, Option, Some, None, refl, sym, ap, subst, ◌∙◌, arith, codes, if◌then◌else◌}
use Rattle.std.proofs.lemmas.Bool.{lt-ltb}
use Rattle.std.specs.Prelude.{slice_get, slice_set}
use Rattle.std.specs.List.{position_from}
use Rattle.std.proofs.lemmas.List.{length-map}
use Rattle.lp_driver.specs.Values.{Token}
use Rattle.lp_repr.specs.Shown.{pattern_text}
use Rattle.lp_core.specs.declared.expr.Op.TheVariants as op
use Rattle.lp_core.specs.declared.value.Tag.{Tag}
use Rattle.lp_core.specs.Datum.{Parsed, Unset}
use Rattle.lp_core.specs.Effect.{write_over}
use Rattle.lp_core.specs.Eval.{run}
use Rattle.lp_core.specs.Flow.{over_store}
use Rattle.lp_core.specs.Reading.{wrapped}
use Rattle.lp_core.specs.Store.{Program}
use Rattle.lp_core.specs.Tree.{Tree, Apply}
use Rattle.lp_core.specs.Val.{Val, Plain}
use Rattle.lp_build.specs.Built.{barred}
use Rattle.lp_build.specs.Tables as build
use Rattle.lp_machine.specs.Lookup.{value_with}
use Rattle.lp_view.specs.Elements.{patterns}
use Rattle.lp_maker.specs.Constructs.{stuck, take_slot, take_found}
use Rattle.lp_maker.specs.Making.{Making, take_name, with_variant, variant_tag}
use Rattle.lp_maker.specs.Patterns.{captures_of, form_of}
use Rattle.lp_maker.specs.Slots.{Names, after_slots, slot_among}
use Rattle.lp_bodies.specs.Arms.{Gathered, no_arms}
use Rattle.lp_bodies.specs.Reductions.{Done}
use Rattle.lp_bodies.specs.Tables.{Reading, reading_of, choice_at, matched_by, pattern_arms, symbol_arm}
use Rattle.lp_turns.specs.DriverCall.{token_val}
use Rattle.lp_code_laws.specs.Ends.Ends.{Moment, at, over, steps, Eval, Outcome, Giving, EndsIn}
use Rattle.lp_code_laws.proofs.Ends.Lists.{get_same, get_other}
use Rattle.lp_code_laws.proofs.Ends.Rules.{apply_to, follows}
use Rattle.lp_code_laws.proofs.Ends.Tags.{slot_is}
use Rattle.lp_code_laws.proofs.Ends.Values.{take}
use Rattle.lp_question_laws.proofs.Gotos.Arms.{Arm, Shows, no_shown, picked, settled, arms_run}
use Rattle.lp_question_laws.proofs.Gotos.LinkGrows.{Extends, patterns_extend}
use Rattle.lp_table.specs.Pieces.{variant_text}
use Rattle.lp_table.specs.TokenLines.{Known, captured_value, group_patterns, in_group, number_of, pattern_of}
use Rattle.lp_table.specs.declared.tokens.Group.{Group}
use Rattle.lp_question_laws.proofs.Tokens.Barred.{patterns_barred}
use Rattle.lp_question_laws.proofs.Tokens.Forms.{is_form, form_arms, body_or, AreTexts, form_picked}
use Rattle.lp_question_laws.proofs.Tokens.Members.{AreMembers, AreCaptured, value_code, forms_read, all_closed, members_captured, PatternsRead, patterns_read}
use Rattle.lp_question_laws.proofs.Tokens.Payloads.{value_ends}
use Rattle.lp_question_laws.proofs.Tokens.SymbolRows.{done}
use Rattle.lp_question_laws.proofs.Tokens.FormOf.{AllWord}

-- a match that was gathered arm by arm ends as the body does that the value is led to
module _ {p : Program} where
  pub arms_end : (last : Tree) {value e : Tree} {x : ℕ} {a : Gathered} {arms : List Arm} {m n : Moment} {j k : ℕ} {v old : Val} {o : Outcome} → Shows a arms → EndsIn p (Eval value) m j (Giving v n) → picked p v arms last ≡ Some e → slice_get n.store.env x ≡ Some old
      → EndsIn p (Eval e) (slot_is x v n) k o → EndsIn p (Eval (choice_at value x last a)) m (steps j k) o
  arms_end last {value} {e} {x} {a} {arms} {m} {n} {j} {k} {v} {old} {o} shows h picks there g =
      follows p (Eval (choice_at value x last a)) (Eval value) (λ w st. settled p x w (picked p w arms last) st) m n j k v o h (λ st. arms_run p value x last a arms st shows)
      (λ left. ap (λ c. settled p x v c (at n (steps k left))) picks
      ∙ ap (λ (c : Option Val). over_store (at n (steps k left)) (run p e) (write_over x v n.store c)) there
      ∙ g.runs left)

-- other slots
abbrev pub with_slots : List Val → Moment → Moment
with_slots env m = over (record m.store { env = env }) m

-- the names of the function: a token's number, and the token
abbrev pub two_known : List (List ℕ × ℕ)
two_known = (codes "~token_index", 0) ∷ (codes "~token", 1) ∷ []

token_taken : (names : Names) → names.known ≡ two_known → take_name names (codes "~token") ≡ take_slot 1
token_taken names known = ap (λ (l : List (List ℕ × ℕ)). take_found (slot_among (codes "~token") None l)) known

-- a value in the variant, with these slots afterwards
pub record Wraps (p : Program) (code : Tree) (m : Moment) (tag : Tag) (v : Val) : Type 0 where
  pub env : List Val
  pub ends : EndsIn p (Eval code) m 0 (Giving (wrapped tag v) (with_slots env m))

-- the number of a variant, before it has one and after
abbrev pub tag_of_group : Reading → Group → Tag
tag_of_group s group = variant_tag (variant_text group.variant) s.made

module _ {p : Program} (token : Token) (m : Moment) (token_there : slice_get m.store.env 1 ≡ Some (token_val token)) where
  whole_wraps : (tag : Tag) (names : Names) → names.known ≡ two_known → Wraps p (Apply (op.Wrap tag) (take_name names (codes "~token"))) m tag (token_val token)
  whole_wraps tag names known = record {
    env = slice_set m.store.env 1 (Plain Unset);
    ends = subst (λ e. EndsIn p (Eval (Apply (op.Wrap tag) e)) m 0 (Giving (wrapped tag (token_val token)) (with_slots (slice_set m.store.env 1 (Plain Unset)) m))) (sym (token_taken names known)) (apply_to (take token_there refl) refl);
  }

  -- patterns that all capture the same, one of which the token fits
  match_wraps : (tag : Tag) (names : Names) (n x b : ℕ) (forms : List (List ℕ)) (j : ℕ) (a : Gathered) (old : Val) → names.known ≡ two_known → Shows a (form_arms (λ _. Apply (op.Wrap tag) (value_code x (suc n))) b 0 forms) → AreTexts p.texts b forms
      → position_from (is_form token) 0 forms ≡ Some j → slice_get m.store.env x ≡ Some old → (1 ≡ x → ⊥) → Wraps p (choice_at (take_name names (codes "~token")) x stuck a) m tag (Plain (Parsed (value_with (suc n) token)))
  match_wraps tag names n x b forms j a old known shows texts fits there other =
      let code = Apply (op.Wrap tag) (value_code x (suc n)) in
      let env = slice_set m.store.env 1 (Plain Unset) in
      let free : slice_get env x ≡ Some old = get_other m.store.env 1 x (Plain Unset) other ∙ there in
      let picks : picked p (token_val token) (form_arms (λ _. code) b 0 forms) stuck ≡ Some code = form_picked p token (λ _. code) stuck b 0 forms texts ∙ ap (λ o. Some (body_or (λ _. code) stuck o)) fits in
      record {
        env = slice_set env x (token_val token);
        ends = subst (λ e. EndsIn p (Eval (choice_at e x stuck a)) m 0 (Giving (wrapped tag (Plain (Parsed (value_with (suc n) token)))) (with_slots (slice_set env x (token_val token)) m))) (sym (token_taken names known))
            (arms_end stuck shows (take token_there refl) picks free (apply_to (value_ends x token (get_same env x free) n) refl));
      }

-- a row with patterns
arm_matched : (m : Making) (names : Names) (ns : List ℕ) (ps : List (List ℕ)) (variant captures : List ℕ) → 0 < length ps
    → symbol_arm m names (build.symbol_row ns ps variant captures) ≡ matched_by (take_name names (codes "~token")) names.next (after_slots 1 names) (pattern_arms (variant_tag variant m) names.next (captures_of captures) (reading_of no_arms (with_variant variant m)) (patterns (barred ps)))
arm_matched m names ns [] variant captures some = absurd (omega arith)
arm_matched m names ns (p ∷ ps) variant captures some = refl

module _ (prefix : List ℕ) (w : AllWord prefix) (ks : List Known) (r : Reading) (known : r.arms.names.known ≡ two_known) (same : r.made.prefix ≡ prefix) where
  -- the forms of a group
  abbrev pub forms_in : Group → List (List ℕ)
  forms_in group = map (λ k. pattern_text k.2) (in_group group ks)

  module _ (group : Group) where
    abbrev tag : Tag
    tag = tag_of_group r group

    abbrev members : List Known
    members = in_group group ks

    -- a group without captures
    pub whole_row : group.captures ≡ 0 → (p : Program) (token : Token) (m : Moment) → slice_get m.store.env 1 ≡ Some (token_val token) → Wraps p (done prefix ks r group).value m tag (token_val token)
    whole_row none p token m token_there =
        let row : ℕ → Tree = λ c. (symbol_arm r.made r.arms.names (build.symbol_row (map number_of members) (group_patterns prefix c members) (variant_text group.variant) (captured_value prefix group.captures))).value in
        subst (λ e. Wraps p e m tag (token_val token)) (sym (ap row none)) (whole_wraps token m token_there tag r.arms.names known)

    pub whole_made : group.captures ≡ 0 → (done prefix ks r group).made ≡ with_variant (variant_text group.variant) r.made
    whole_made none = ap (λ c. (symbol_arm r.made r.arms.names (build.symbol_row (map number_of members) (group_patterns prefix c members) (variant_text group.variant) (captured_value prefix group.captures))).made) none

    -- one with captures
    module _ (n : ℕ) (captures : group.captures ≡ suc n) (are : AreMembers prefix (suc n) members) (some : 0 < length members) where
      abbrev ps : List (List ℕ)
      ps = map (pattern_of prefix) members

      abbrev code : Tree
      code = value_code r.arms.names.next (suc n)

      abbrev start : Reading
      start = reading_of no_arms (with_variant (variant_text group.variant) r.made)

      abbrev read : Reading
      read = pattern_arms tag r.arms.names.next (captures_of (captured_value prefix (suc n))) start ps

      row_is : done prefix ks r group ≡ matched_by (take_name r.arms.names (codes "~token")) r.arms.names.next (after_slots 1 r.arms.names) read
      row_is =
          let there : 0 < length ps = (let e : length ps ≡ length members = length-map members (pattern_of prefix) in omega arith) in
          let arm : List (List ℕ) → ℕ → Done = λ qs c. symbol_arm r.made r.arms.names (build.symbol_row (map number_of members) qs (variant_text group.variant) (captured_value prefix c)) in
          ap (λ c. arm (group_patterns prefix c members) c) captures
          ∙ ap (λ t. arm (if t then ps else []) (suc n)) (lt-ltb 0 (suc n) (omega arith))
          ∙ arm_matched r.made r.arms.names (map number_of members) ps (variant_text group.variant) (captured_value prefix (suc n)) there
          ∙ ap (λ qs. matched_by (take_name r.arms.names (codes "~token")) r.arms.names.next (after_slots 1 r.arms.names) (pattern_arms tag r.arms.names.next (captures_of (captured_value prefix (suc n))) start qs)) (patterns_barred ps (all_closed prefix w n members are))

      forms_are : map (form_of r.made.prefix) ps ≡ forms_in group
      forms_are = ap (λ q. map (form_of q) ps) same ∙ forms_read prefix w (suc n) members are

      are_read : PatternsRead start read (form_arms (λ _. Apply (op.Wrap tag) code) (length r.made.texts) 0 (map (form_of r.made.prefix) ps)) (map (form_of r.made.prefix) ps)
      are_read =
          patterns_read tag r.arms.names.next (captures_of (captured_value prefix (suc n))) code start [] ps
          (subst (λ q. AreCaptured q r.arms.names.next (captures_of (captured_value prefix (suc n))) code ps) (sym same) (members_captured prefix w r.arms.names.next n members are)) no_shown

      -- its forms are texts behind those that there were
      pub match_texts : (done prefix ks r group).made.texts ≡ r.made.texts ++ forms_in group
      match_texts = ap (λ (d : Done). d.made.texts) row_is ∙ are_read.texts ∙ ap (λ fs. r.made.texts ++ fs) forms_are

      pub match_names : (done prefix ks r group).names ≡ after_slots 1 r.arms.names
      match_names = ap (λ (d : Done). d.names) row_is

      pub match_made : Extends (with_variant (variant_text group.variant) r.made) (done prefix ks r group).made
      match_made = subst (λ (d : Done). Extends start.made d.made) (sym row_is) (patterns_extend tag r.arms.names.next (captures_of (captured_value prefix (suc n))) start ps)

      pub match_row : (p : Program) (token : Token) (m : Moment) (j : ℕ) (old : Val) → slice_get m.store.env 1 ≡ Some (token_val token) → AreTexts p.texts (length r.made.texts) (forms_in group) → position_from (is_form token) 0 (forms_in group) ≡ Some j
          → slice_get m.store.env r.arms.names.next ≡ Some old → (1 ≡ r.arms.names.next → ⊥) → Wraps p (done prefix ks r group).value m tag (Plain (Parsed (value_with (suc n) token)))
      match_row p token m j old token_there texts fits there other =
          let shows : Shows read.arms (form_arms (λ _. Apply (op.Wrap tag) code) (length r.made.texts) 0 (forms_in group)) = subst (λ fs. Shows read.arms (form_arms (λ _. Apply (op.Wrap tag) code) (length r.made.texts) 0 fs)) forms_are are_read.shows in
          subst (λ (d : Done). Wraps p d.value m tag (Plain (Parsed (value_with (suc n) token)))) (sym row_is)
          (match_wraps token m token_there tag r.arms.names n r.arms.names.next (length r.made.texts) (forms_in group) j read.arms old known shows texts fits there other)
