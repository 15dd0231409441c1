-- The lines that call an inlined action and let its value be a name.
use Rattle.std.proofs.Common.{◌≡◌, ℕ, zero, suc, ◌+◌, ◌≤◌, Bool, true, false, List, [], ◌∷◌, ◌++◌, length, map, Some, refl, ap, sym, subst, ◌∙◌, arith, if◌then◌else◌}
use Rattle.std.specs.Prelude.{slice_set, codes, decimal}
use Rattle.std.specs.Str.{bytes_eq}
use Rattle.lp_form.specs.declared.part.Part.TheVariants as part
use Rattle.lp_repr.specs.declared.repr.Grammar.{Grammar}
use Rattle.lp_repr.specs.declared.values.Loc.{Loc}
use Rattle.lp_driver.specs.Values.{Value, Failure}
use Rattle.lp_core.specs.declared.expr.Join.TheVariants as join
use Rattle.lp_core.specs.declared.value.Tag.TheVariants as tag
use Rattle.lp_core.specs.Datum.{Unset, Parsed, Failed}
use Rattle.lp_core.specs.Effect.{unit}
use Rattle.lp_core.specs.Reading.{location, triple, wrapped}
use Rattle.lp_core.specs.Store.{Program, Store, UserCall}
use Rattle.lp_core.specs.Tree.{Tree, trees_of}
use Rattle.lp_core.specs.Val.{Val, Plain}
use Rattle.lp_build.specs.Actions.{call_part}
use Rattle.lp_build.specs.Built as built
use Rattle.lp_build.specs.Built.{text_rows}
use Rattle.lp_tree.specs.ProgramTree.{Item, leaf}
use Rattle.lp_actions.specs.Inlines.{inline_call, inner_arguments, type_arguments, action_fails}
use Rattle.lp_view.specs.PartLists.{Form, is_a}
use Rattle.lp_maker.specs.Constructs as constructs
use Rattle.lp_maker.specs.Making.{Making, number_in, call_named, read_name, read_written}
use Rattle.lp_maker.specs.Slots.{Names, bound, after_slots}
use Rattle.lp_maker.specs.Texts.{plain}
use Rattle.lp_bodies.specs.Lines.{lines_of, with_part, numbered}
use Rattle.lp_bodies.specs.Inlining.{action_call, inlined_value, inlined_names, inline_line, inline_span, is_inline_call, is_tried, outer_line, spanned}
use Rattle.lp_bodies.specs.Inlining as bodies
use Rattle.lp_code_laws.specs.Ends.Ends.{Eval, Enter, Sequence, Outcome, Giving, Returning, EndsIn, steps}
use Rattle.lp_code_laws.proofs.Ends.Calls.{joined}
use Rattle.lp_code_laws.proofs.Ends.Lists.{length_set, get_same}
use Rattle.lp_code_laws.proofs.Ends.Rules.{argument, call, block_next}
use Rattle.lp_code_laws.proofs.Ends.Steps.{ends_in}
use Rattle.lp_code_laws.proofs.Ends.Tags.{tried_success, tried_failure}
use Rattle.lp_code_laws.proofs.Ends.Values.{write}
use Rattle.lp_code_laws.proofs.Ends.Values as values
use Rattle.lp_code_laws.proofs.Printed.Lines.{call_by_name, read_shown}
use Rattle.lp_code_laws.specs.Slots.Shows.{Shows, Keeps}
use Rattle.lp_code_laws.proofs.Slots.Names.{kept, shows_other, shows_after, let_this}
use Rattle.lp_code_laws.proofs.Slots.Slots.{get_within, keeps_all, keeps_both, keeps_set}
use Rattle.lp_question_laws.specs.Actions.Inlined.{start_name, end_name, temp_name, within}
use Rattle.lp_question_laws.specs.Actions.Keys.{ShowsEach}
use Rattle.lp_question_laws.specs.Actions.Params.{AreSet}
use Rattle.lp_question_laws.proofs.Actions.InlineArguments.{args_read, inner_argued}

-- ---- what the row adds

by_types : (P : Bool → Bool → Type 0) (types : List (List ℕ)) (holes : List (List ℕ)) (below : List Item) → P false true → P (is_a part.InlineSpan (built.over (call_part types) holes below)) (is_inline_call (built.over (call_part types) holes below))
by_types P [] holes below h = h
by_types P (t ∷ ts) holes below h = h

pub call_row : (m : Making) (names : Names) (parts : List Tree) (g : Grammar) (n before action count : ℕ) → inline_line m (lines_of names parts) (inline_call g n before action count) ≡ bodies.inline_call m (inline_call g n before action count) (lines_of names parts)
call_row m names parts g n before action count =
    let line = inline_call g n before action count in
    by_types (λ b c. (if b then inline_span m.prefix line (lines_of names parts) else (if c then bodies.inline_call m line (lines_of names parts) else with_part (outer_line m names line) (lines_of names parts))) ≡ bodies.inline_call m line (lines_of names parts))
    (type_arguments g) (decimal n ∷ decimal action ∷ [])
    ((text_rows part.TypeArgument (type_arguments g) ++ text_rows part.ArgumentRow (inner_arguments g n before count)) ++ leaf (if action_fails g action then part.CallEndFallible else part.CallEndPlain) []) refl

-- ---- the call

module _ (p : Program) (m : Making) (names : Names) (s : Store) (env : List Val) (calls : List UserCall) (g : Grammar) (n before action count : ℕ) (f k : ℕ) (o : Outcome) (vals : List Val) where
  abbrev line : Form
  line = inline_call g n before action count

  pub call_ends : number_in (codes "super::action" ++ decimal action) m.names ≡ Some f → ShowsEach names env (map (plain m.prefix) (inner_arguments g n before count)) vals → AreSet vals → EndsIn p (Enter f vals) (within s env calls) k o
      → EndsIn p (Eval (action_call 1 m names line)) (within s env calls) k o
  call_ends named shows set h =
      subst (λ args. EndsIn p (Eval (call_named (codes "super::action" ++ decimal action) args m)) (within s env calls) k o) (sym (inner_argued m.prefix names g n before action count))
      (call_by_name (codes "super::action" ++ decimal action) (map (read_written m.prefix names) (inner_arguments g n before count)) m f named (args_read p m.prefix names s env calls f k o (inner_arguments g n before count) vals [] shows set h))

-- what it gives, with `?` behind it where it can fail
module _ (p : Program) (m : Making) (names : Names) (s : Store) (env : List Val) (calls after : List UserCall) (line : Form) (k : ℕ) (room : names.next + 1 ≤ length env) where
  -- the value, over slots of which those with names stay
  pub record Gave (v : Val) : Type 0 where
    pub slots : List Val
    pub many : length slots ≡ length env
    pub keeps : Keeps names.next env slots
    pub ends : EndsIn p (Eval (inlined_value m names line)) (within s env calls) k (Giving v (within s slots after))

  pub gave_plain : (v : Val) → is_tried line ≡ false → EndsIn p (Eval (action_call 1 m names line)) (within s env calls) k (Giving v (within s env after)) → Gave v
  gave_plain v not_tried h = record {
    slots = env;
    many = refl;
    keeps = keeps_all names.next env;
    ends = subst (λ b. EndsIn p (Eval (if b then constructs.tried names.next (action_call 1 m names line) else action_call 1 m names line)) (within s env calls) k (Giving v (within s env after))) (sym not_tried) h;
  }

  steps_none : (j : ℕ) → steps j 0 ≡ j
  steps_none zero = refl
  steps_none (suc j) = ap suc (steps_none j)

  pub gave_tried : (v : Value) → is_tried line ≡ true → EndsIn p (Eval (action_call 1 m names line)) (within s env calls) k (Giving (wrapped tag.Success (Plain (Parsed v))) (within s env after)) → Gave (Plain (Parsed v))
  gave_tried v is h = record {
    slots = slice_set env names.next (Plain Unset);
    many = length_set env names.next (Plain Unset);
    keeps = keeps_set names.next names.next env (Plain Unset) (omega arith);
    ends = subst (λ b. EndsIn p (Eval (if b then constructs.tried names.next (action_call 1 m names line) else action_call 1 m names line)) (within s env calls) k (Giving (Plain (Parsed v)) (within s (slice_set env names.next (Plain Unset)) after))) (sym is)
        (ends_in (tried_success h (get_within env names.next (omega (arith, room))).1 refl) (steps_none k));
  }

  -- or the call returns the error
  pub failed_tried : (e : Failure) → is_tried line ≡ true → EndsIn p (Eval (action_call 1 m names line)) (within s env calls) k (Giving (wrapped tag.Failure (Plain (Failed e))) (within s env after))
      → EndsIn p (Eval (inlined_value m names line)) (within s env calls) k (Returning (wrapped tag.Failure (Plain (Failed e))) (within s (slice_set env names.next (Plain Unset)) after))
  failed_tried e is h =
      subst (λ b. EndsIn p (Eval (if b then constructs.tried names.next (action_call 1 m names line) else action_call 1 m names line)) (within s env calls) k (Returning (wrapped tag.Failure (Plain (Failed e))) (within s (slice_set env names.next (Plain Unset)) after))) (sym is)
      (ends_in (tried_failure h (get_within env names.next (omega (arith, room))).1 refl) (steps_none k))

-- ---- the two lets

-- the names after it know what those before did
names_after : (names : Names) (line : Form) (env : List Val) (key : List ℕ) (v : Val) → Shows names env key v → Shows (inlined_names names line) env key v
names_after names line env key v h = by (is_tried line)
  where
    by : (b : Bool) → Shows (if b then after_slots 1 names else names) env key v
    by true = shows_after 1 h
    by false = h

pub next_after : (names : Names) (line : Form) → (names.next ≤ (inlined_names names line).next)
next_after names line = by (is_tried line)
  where
    by : (b : Bool) → names.next ≤ (if b then after_slots 1 names else names).next
    by true = omega arith
    by false = omega arith

module _ (p : Program) (names : Names) (line : Form) (n : ℕ) (s : Store) (env : List Val) (calls : List UserCall) (v : Value) (at : Loc × Loc) where
  abbrev before : Names
  before = inlined_names names line

  abbrev x : ℕ
  x = before.next

  abbrev names1 : Names
  names1 = bound (temp_name n) before

  abbrev pub names2 : Names
  names2 = bound (temp_name n) names1

  abbrev env1 : List Val
  env1 = slice_set env x (Plain (Parsed v))

  abbrev env2 : List Val
  env2 = slice_set env1 x (Plain Unset)

  abbrev spanned_val : Val
  spanned_val = triple at.0 (Plain (Parsed v)) at.1

  abbrev pub env3 : List Val
  env3 = slice_set env2 (x + 1) spanned_val

  pub long3 : length env3 ≡ length env
  long3 = length_set env2 (x + 1) spanned_val ∙ length_set env1 x (Plain Unset) ∙ length_set env x (Plain (Parsed v))

  keeps2 : Keeps x env env2
  keeps2 = keeps_both (keeps_set x x env (Plain (Parsed v)) (omega arith)) (keeps_set x x env1 (Plain Unset) (omega arith))

  keeps3 : Keeps x env env3
  keeps3 = keeps_both keeps2 (keeps_set x (x + 1) env2 spanned_val (omega arith))

  -- other names show what they did
  shown_with : (key : List ℕ) (w : Val) (slots : List Val) → Keeps x env slots → bytes_eq (temp_name n) key ≡ false → Shows names env key w → Shows names1 slots key w
  shown_with key w slots keeps other h = shows_other (temp_name n) other (kept (names_after names line env key w h) keeps)

  pub kept3 : (key : List ℕ) (w : Val) → bytes_eq (temp_name n) key ≡ false → Shows names env key w → Shows names2 env3 key w
  kept3 key w other h = shows_other (temp_name n) other (shown_with key w env3 keeps3 other h)

  module _ (room : x + 2 ≤ length env) where
    -- and the value's name shows it with its span
    pub temp3 : Shows names2 env3 (temp_name n) spanned_val
    temp3 = let_this (temp_name n) names1 env2 spanned_val (record { room = (let a = length_set env1 x (Plain Unset) in let b = length_set env x (Plain (Parsed v)) in omega arith) })

    spans : Shows names env (start_name n) (location at.0) → Shows names env (end_name n) (location at.1)
        → EndsIn p (Eval (constructs.joined (join.Make tag.Tuple) (read_name names1 (start_name n) ∷ constructs.take_slot x ∷ read_name names1 (end_name n) ∷ []))) (within s env1 calls) 0 (Giving spanned_val (within s env2 calls))
    spans first second =
        let there = shown_with (start_name n) (location at.0) env1 (keeps_set x x env (Plain (Parsed v)) (omega arith)) refl first in
        let last = shown_with (end_name n) (location at.1) env2 keeps2 refl second in
        call (argument (read_shown there refl) (argument (values.take (get_same env x (get_within env x (omega (arith, room))).1) refl) (argument (read_shown last refl) (joined refl refl))))

    -- both lines, and those behind them
    pub lets_run : (m : Making) {from : List Val} {made : List UserCall} {k j : ℕ} {o : Outcome} {w : Val} (rest : List Tree) → numbered (codes "~start") line ≡ start_name n → numbered (codes "~end") line ≡ end_name n
        → EndsIn p (Eval (inlined_value m names line)) (within s from made) k (Giving (Plain (Parsed v)) (within s env calls)) → Shows names env (start_name n) (location at.0) → Shows names env (end_name n) (location at.1)
        → EndsIn p (Sequence (trees_of rest) unit) (within s env3 calls) j o
        → EndsIn p (Sequence (trees_of (constructs.write x (inlined_value m names line) ∷ constructs.write (x + 1) (spanned x line names1) ∷ rest)) w) (within s from made) (steps k j) o
    lets_run m {j = j} {o = o} rest first_is last_is gave first second h =
        let two = spans first second in
        let moved = subst (λ q. EndsIn p (Eval (constructs.joined (join.Make tag.Tuple) (read_name names1 q ∷ constructs.take_slot x ∷ read_name names1 (numbered (codes "~end") line) ∷ []))) (within s env1 calls) 0 (Giving spanned_val (within s env2 calls))) (sym first_is)
        (subst (λ q. EndsIn p (Eval (constructs.joined (join.Make tag.Tuple) (read_name names1 (start_name n) ∷ constructs.take_slot x ∷ read_name names1 q ∷ []))) (within s env1 calls) 0 (Giving spanned_val (within s env2 calls))) (sym last_is) two) in
        let l : length env2 ≡ length env = length_set env1 x (Plain Unset) ∙ length_set env x (Plain (Parsed v)) in
        block_next {o = o} (write gave (get_within env x (omega (arith, room))).1) (block_next {k = j} {o = o} (write moved (get_within env2 (x + 1) (omega (arith, room, l))).1) h)
