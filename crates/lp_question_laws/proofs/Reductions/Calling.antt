-- The line that calls an action.
use Rattle.std.proofs.Common.{◌≡◌, ℕ, ◌+◌, ◌≤◌, ℤ, Bool, true, false, if◌then◌else◌, List, [], ◌∷◌, ◌++◌, length, map, Some, Result, Ok, Err, refl, sym, subst, arith, codes, decimal}
use Rattle.std.specs.Prelude.{slice_get, slice_set}
use Rattle.std.specs.Str.{bytes_eq}
use Rattle.lp_driver.specs.Values.{Spanned, Value, Failure}
use Rattle.lp_core.specs.declared.value.Tag.TheVariants as tag
use Rattle.lp_core.specs.Datum.{Parsed, Failed, Unset}
use Rattle.lp_core.specs.Reading.{wrapped}
use Rattle.lp_core.specs.Store.{Program, UserCall}
use Rattle.lp_core.specs.Tree.{Tree, trees_of}
use Rattle.lp_core.specs.Val.{Val, Plain}
use Rattle.lp_form.specs.declared.part.Part.TheVariants as part
use Rattle.lp_tree.specs.ProgramTree.{leaf}
use Rattle.lp_view.specs.PartLists.{Form}
use Rattle.lp_maker.specs.Slots.{Names, after_slots}
use Rattle.lp_maker.specs.Making.{Making, number_in, call_named}
use Rattle.lp_bodies.specs.Lines.{Lines, lines_of}
use Rattle.lp_bodies.specs.Reductions.{reduced_call, checked, call_line}
use Rattle.lp_machine.specs.declared.calls.Acted.{Acted}
use Rattle.lp_agrees.specs.Machine.{as_user}
use Rattle.lp_code_laws.specs.Ends.Ends.{Moment, steps, Eval, Sequence, Giving, Returning, EndsIn}
use Rattle.lp_code_laws.proofs.Ends.Rules.{apply_left, apply_to, give_back, block_left}
use Rattle.lp_code_laws.proofs.Ends.Blocks.{append}
use Rattle.lp_code_laws.proofs.Ends.Lists.{length_set}
use Rattle.lp_code_laws.proofs.Ends.Steps.{steps_are}
use Rattle.lp_code_laws.proofs.Ends.Tags.{on_success, on_failure, take_it}
use Rattle.lp_code_laws.specs.Slots.Shows.{Shows}
use Rattle.lp_code_laws.proofs.Slots.Names.{let_this, let_other, shows_after}
use Rattle.lp_code_laws.proofs.Slots.Names as names
use Rattle.lp_code_laws.proofs.Slots.Slots.{keeps_set, next_slot}
use Rattle.lp_code_laws.proofs.Printed.Lines.{call_by_name}
use Rattle.lp_question_laws.specs.Tables.Acts.{Acts, acted_val}
use Rattle.lp_question_laws.specs.Reductions.Outer.{Lasts}
use Rattle.lp_question_laws.specs.Reductions.Stacks.{over_two}
use Rattle.lp_question_laws.specs.Reductions.Lined.{Lined}
use Rattle.lp_question_laws.specs.Reductions.Outcomes.{failed_val}
use Rattle.lp_question_laws.specs.Reductions.Arguments.{ShowAll, reads, names_in}
use Rattle.lp_question_laws.proofs.Reductions.Lasting.{lasts_set, lasts_after, inner_value}
use Rattle.lp_question_laws.proofs.Reductions.Letting.{room_left, not_before, let_lined, after_lined}
use Rattle.lp_question_laws.proofs.Reductions.Arguments.{arguments_read, all_read}

abbrev pub call_form : Bool → ℕ → List ℕ → List ℕ → Form
call_form fallible action generics args = leaf (if fallible then part.CallFallible else part.CallPlain) (decimal action ∷ generics ∷ args ∷ [])

module _ {p : Program} (made : Making) (action : ℕ) (generics args : List ℕ) (f cost : ℕ) (acted : Acted) (named : number_in (codes "super::action" ++ decimal action) made.names ≡ Some f) {old : Names} {before : List Val} {start : Moment} {taken : ℕ} {ss : List ℤ} {l : List (Spanned Val)} {calls : List UserCall} {most used : ℕ} {now : List Val} {lines : Lines}
    (h : Lined p old before start taken ss l calls most used now lines) (vs : List Val) (shown : ShowAll lines.names now (names_in made.prefix args) vs) where
  abbrev later : List UserCall
  later = calls ++ map as_user acted.calls

  -- the call itself
  called : (fallible : Bool) (acts : Acts p f vs fallible acted cost (over_two now taken calls ss l)) → EndsIn p (Eval (reduced_call made (call_form fallible action generics args) lines.names)) (over_two now taken calls ss l) acts.steps (Giving (acted_val fallible acted.result) (over_two now taken later ss l))
  called fallible acts =
      subst (λ (ts : List Tree). EndsIn p (Eval (call_named (codes "super::action" ++ decimal action) ts made)) (over_two now taken calls ss l) acts.steps (Giving (acted_val fallible acted.result) (over_two now taken later ss l))) (sym (all_read made.prefix lines.names args))
      (call_by_name (codes "super::action" ++ decimal action) (reads lines.names (names_in made.prefix args)) made f named (arguments_read f lines.names (names_in made.prefix args) vs [] shown acts.ends))

  -- it has a value, which a name shows; names that showed values still do
  pub record Valued (many given : ℕ) (v : Value) (after : Lines) : Type 0 where
    pub slots : List Val
    pub lined : Lined p old before start taken ss l later many given slots after
    pub value : Shows after.names slots (codes "~nt") (Plain (Parsed v))
    pub kept : (q : List ℕ) (u : Val) → bytes_eq (codes "~nt") q ≡ false → Shows lines.names now q u → Shows after.names slots q u

  -- an action that can't fail
  pub called_plain : (acts : Acts p f vs false acted cost (over_two now taken calls ss l)) (v : Value) → acted.result ≡ Ok v → old.next + (used + 1) ≤ length before
      → Valued (most + acts.steps) (used + 1) v (call_line made (call_form false action generics args) lines)
  called_plain acts v ok fits =
      let e = reduced_call made (call_form false action generics args) lines.names in
      let w = Plain (Parsed v) in
      let ends : EndsIn p (Eval e) (over_two now taken calls ss l) acts.steps (Giving w (over_two now taken later ss l)) = subst (λ (r : Result Value Failure). EndsIn p (Eval e) (over_two now taken calls ss l) acts.steps (Giving (acted_val false r) (over_two now taken later ss l))) ok (called false acts) in
      record {
        slots = slice_set now lines.names.next w;
        lined = let_lined h (codes "~nt") e w now later acts.steps ends refl h.lasts inner_value fits;
        value = let_this (codes "~nt") lines.names now w (room_left h 1 fits);
        kept = λ q u other s. let_other (codes "~nt") w other s;
      }

  module _ (acts : Acts p f vs true acted cost (over_two now taken calls ss l)) (fits : old.next + (used + 2) ≤ length before) where
    call_tree : Tree
    call_tree = reduced_call made (call_form true action generics args) lines.names

    bare : List Val
    bare = slice_set now lines.names.next (Plain Unset)

    has_slot : (old_val : Val) × (slice_get now lines.names.next ≡ Some old_val)
    has_slot = next_slot (room_left h 1 (omega arith))

    -- the value of an action that can fail
    pub called_checked : (v : Value) → acted.result ≡ Ok v → Valued (most + acts.steps) (used + 2) v (call_line made (call_form true action generics args) lines)
    unfolding call_tree bare
    called_checked v ok =
        let slot = lines.names.next in
        let w = Plain (Parsed v) in
        let e = checked slot call_tree in
        let given : EndsIn p (Eval call_tree) (over_two now taken calls ss l) acts.steps (Giving (wrapped tag.Success w) (over_two now taken later ss l)) = subst (λ (r : Result Value Failure). EndsIn p (Eval call_tree) (over_two now taken calls ss l) acts.steps (Giving (acted_val true r) (over_two now taken later ss l))) ok (called true acts) in
        let ends : EndsIn p (Eval e) (over_two now taken calls ss l) (steps acts.steps 0) (Giving w (over_two bare taken later ss l)) = on_success given has_slot.1 (take_it slot w (over_two now taken later ss l) has_slot.1 refl) in
        let first = lines_of (after_slots 1 lines.names) lines.parts in
        let zero_line = after_lined h 1 in
        let lasts0 : Lasts old before first.names bare = lasts_after (lasts_set h.lasts (not_before h) slot (Plain Unset) (omega arith)) (not_before h) 1 in
        let one = let_lined zero_line (codes "~nt") e w bare later (steps acts.steps 0) ends (length_set now slot (Plain Unset)) lasts0 inner_value (omega arith) in
        record {
          slots = slice_set bare first.names.next w;
          lined = record { count = one.count; ran = one.ran; few = omega (arith, one.few, steps_are acts.steps 0); next = omega (arith, one.next); size = one.size; lasts = one.lasts };
          value = let_this (codes "~nt") first.names bare w (record { room = omega (arith, h.next, h.size, length_set now slot (Plain Unset)) });
          kept = λ q u other s. let_other (codes "~nt") w other (shows_after 1 (names.kept s (keeps_set slot slot now (Plain Unset) (omega arith))));
        }

    -- its error returns
    pub record Failing (e : Failure) (after : Lines) : Type 0 where
      pub slots : List Val
      pub count : ℕ
      pub few : count ≤ most + acts.steps
      pub lasts : Lasts old before lines.names slots
      pub ends : EndsIn p (Sequence (trees_of after.parts) (Plain Unset)) start count (Returning (failed_val e) (over_two slots taken later ss l))

    pub called_failing : (e : Failure) → acted.result ≡ Err e → Failing e (call_line made (call_form true action generics args) lines)
    unfolding call_tree bare
    called_failing e err =
        let slot = lines.names.next in
        let w = Plain (Failed e) in
        let given : EndsIn p (Eval call_tree) (over_two now taken calls ss l) acts.steps (Giving (wrapped tag.Failure w) (over_two now taken later ss l)) = subst (λ (r : Result Value Failure). EndsIn p (Eval call_tree) (over_two now taken calls ss l) acts.steps (Giving (acted_val true r) (over_two now taken later ss l))) err (called true acts) in
        let ends : EndsIn p (Eval (checked slot call_tree)) (over_two now taken calls ss l) (steps acts.steps 0) (Returning (failed_val e) (over_two bare taken later ss l)) = on_failure given has_slot.1 (give_back (apply_to (apply_to (take_it slot w (over_two now taken later ss l) has_slot.1 refl) refl) refl)) in
        record {
          slots = bare;
          count = steps h.count (steps acts.steps 0);
          few = omega (arith, h.few, steps_are h.count (steps acts.steps 0), steps_are acts.steps 0);
          lasts = lasts_set h.lasts (not_before h) slot (Plain Unset) (omega arith);
          ends = append lines.parts _ h.ran.ends (block_left (apply_left ends));
        }
