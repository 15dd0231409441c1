-- The outer call, which gives the value of the whole action.
use Rattle.std.proofs.Common.{◌≡◌, ℕ, ◌<◌, Bool, true, false, ◌&&◌, List, [], ◌∷◌, ◌++◌, length, map, Result, Ok, Err, refl, ap, sym, subst, arith, if◌then◌else◌}
use Rattle.std.specs.Prelude.{codes, decimal, not}
use Rattle.lp_form.specs.declared.part.Part.TheVariants as part
use Rattle.lp_repr.specs.declared.repr.Grammar.{Grammar}
use Rattle.lp_repr.specs.declared.values.Loc.{Loc}
use Rattle.lp_driver.specs.Values.{Spanned, Value, Failure}
use Rattle.lp_core.specs.declared.expr.Op.TheVariants as op
use Rattle.lp_core.specs.declared.value.Tag.TheVariants as tag
use Rattle.lp_core.specs.Store.{Program, Store, UserCall}
use Rattle.lp_core.specs.Tree.{Tree, Apply, trees_of}
use Rattle.lp_core.specs.Val.{Val}
use Rattle.lp_machine.specs.ActionMeaning.{Meaning}
use Rattle.lp_agrees.specs.Machine.{as_user}
use Rattle.lp_build.specs.Actions.{outer_part}
use Rattle.lp_build.specs.Built as built
use Rattle.lp_build.specs.Built.{text_rows}
use Rattle.lp_tree.specs.ProgramTree.{Item}
use Rattle.lp_actions.specs.Inlines.{type_arguments, action_fails}
use Rattle.lp_view.specs.PartLists.{Form}
use Rattle.lp_maker.specs.Making.{Making, call_named, read_written}
use Rattle.lp_maker.specs.Slots.{Names}
use Rattle.lp_maker.specs.Texts.{plain}
use Rattle.lp_bodies.specs.Lines.{Lines, lines_of}
use Rattle.lp_bodies.specs.Inlining.{action_call, inline_line}
use Rattle.lp_code_laws.specs.Ends.Ends.{Eval, Sequence, Giving, EndsIn}
use Rattle.lp_code_laws.proofs.Ends.Blocks.{sequence_one}
use Rattle.lp_code_laws.proofs.Ends.Rules.{apply_to}
use Rattle.lp_code_laws.proofs.Printed.Lines.{call_by_name}
use Rattle.lp_question_laws.specs.Tables.Acts.{acted_val, arguments, symbol_val}
use Rattle.lp_question_laws.specs.Actions.Callable.{Callable, Runs}
use Rattle.lp_question_laws.specs.Actions.Inlined.{within}
use Rattle.lp_question_laws.specs.Actions.Keys.{ShowsEach}
use Rattle.lp_question_laws.specs.Actions.Params.{AreSet}
use Rattle.lp_question_laws.specs.Actions.Performs.{IsCalm}
use Rattle.lp_question_laws.proofs.Actions.InlineArguments.{args_read, outer_argued, some_arguments}
use Rattle.lp_question_laws.proofs.Actions.InlineRows.{rows_code}
use Rattle.lp_question_laws.proofs.Actions.UserCalls.{arguments_set}

-- the outer call with these arguments
abbrev pub outer_form : Grammar → Bool → ℕ → List (List ℕ) → Form
outer_form g wraps outer texts = built.over (outer_part wraps (type_arguments g)) (decimal outer ∷ []) (text_rows part.TypeArgument (type_arguments g) ++ text_rows part.ArgumentRow texts)

abbrev outer_value : Bool → Tree → Tree
outer_value wraps e = if wraps then Apply (op.Wrap tag.Success) e else e

outer_added : (m : Making) (names : Names) (wraps : Bool) (types holes : List (List ℕ)) (below : List Item) → (let form = built.over (outer_part wraps types) holes below in inline_line m (lines_of names []) form ≡ lines_of names (outer_value wraps (action_call 0 m names form) ∷ []))
outer_added m names false [] holes below = refl
outer_added m names false (t ∷ ts) holes below = refl
outer_added m names true [] holes below = refl
outer_added m names true (t ∷ ts) holes below = refl

outer_code : (m : Making) (names : Names) (g : Grammar) (wraps : Bool) (outer : ℕ) (texts : List (List ℕ)) → rows_code m names (outer_form g wraps outer texts ∷ []) ≡ outer_value wraps (action_call 0 m names (outer_form g wraps outer texts)) ∷ []
outer_code m names g wraps outer texts = ap (λ (l : Lines). l.parts ++ []) (outer_added m names wraps (type_arguments g) (decimal outer ∷ []) (text_rows part.TypeArgument (type_arguments g) ++ text_rows part.ArgumentRow texts))

module _ (p : Program) (m : Making) (names : Names) (s : Store) (env : List Val) (calls after : List UserCall) where
  -- the value under `Ok` where that is asked for
  wrapped_so : (e : Tree) (k : ℕ) (fallible fails : Bool) (r : Result Value Failure) → (fallible ≡ false → fails ≡ false) → IsCalm fails r → EndsIn p (Eval e) (within s env calls) k (Giving (acted_val fails r) (within s env after))
      → EndsIn p (Eval (outer_value (fallible && not fails) e)) (within s env calls) k (Giving (acted_val fallible r) (within s env after)) × IsCalm fallible r
  wrapped_so e k true true r may calm h = (h, tt)
  wrapped_so e k true false (Ok v) may calm h = (apply_to h refl, tt)
  wrapped_so e k true false (Err f) may calm h = absurd calm
  wrapped_so e k false true r may calm h = absurd (let bad : true ≡ false = may refl in cc)
  wrapped_so e k false false r may calm h = (h, calm)

-- it does what the outer action does
pub outer_runs : (p : Program) (m : Making) (g : Grammar) (names : Names) (s : Store) (env : List Val) (calls : List UserCall) (vals : List Val) (acts : Meaning) (most : ℕ) (fallible : Bool) (outer : ℕ) (texts : List (List ℕ)) (given : List (Spanned Value)) (place : Loc × Loc) (v : Val)
    → (c : Callable p m g vals acts most outer (length given)) → c.extra ≡ 0 → (fallible ≡ false → action_fails g outer ≡ false) → 0 < length given → AreSet vals → ShowsEach names env (map (plain m.prefix) texts) (vals ++ map symbol_val given)
    → Runs p (Sequence (trees_of (rows_code m names (outer_form g (fallible && not (action_fails g outer)) outer texts ∷ []))) v) s env calls fallible (acts outer given place (length calls)) most 0
outer_runs p m g names s env calls vals acts most fallible outer texts given place v c busy may some set shows =
    let wraps = fallible && not (action_fails g outer) in
    let form = outer_form g wraps outer texts in
    let r = c.performs given place (within s env calls) refl in
    let acted = acts outer given place (length calls) in
    let after = calls ++ map as_user acted.calls in
    let args = arguments vals given place in
    let shown : ShowsEach names env (map (plain m.prefix) texts) args = subst (ShowsEach names env (map (plain m.prefix) texts)) (sym (some_arguments vals given place some)) shows in
    let called = call_by_name (codes "super::action" ++ decimal outer) (map (read_written m.prefix names) texts) m c.number c.named
    (args_read p m.prefix names s env calls c.number r.steps (Giving (acted_val (action_fails g outer) acted.result) (within s env after)) texts args [] shown (arguments_set vals given place set) r.ends) in
    let here = subst (λ l. EndsIn p (Eval (call_named (codes "super::action" ++ decimal outer) l m)) (within s env calls) r.steps (Giving (acted_val (action_fails g outer) acted.result) (within s env after))) (sym (outer_argued m.prefix names g wraps outer texts)) called in
    let whole = wrapped_so p m names s env calls after (action_call 0 m names form) r.steps fallible (action_fails g outer) acted.result may r.calm here in
    record {
      steps = r.steps;
      few = (let f = r.few in omega (arith, f, busy));
      returned = false;
      after = env;
      ends = subst (λ l. EndsIn p (Sequence (trees_of l) v) (within s env calls) r.steps (Giving (acted_val fallible acted.result) (within s env after))) (sym (outer_code m names g wraps outer texts)) (sequence_one whole.0);
      some = (let f = r.calls in omega (arith, f, busy));
      calm = whole.1;
    }
