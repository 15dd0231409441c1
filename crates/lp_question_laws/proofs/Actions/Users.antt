-- Actions of user code: one call, one step.
use Rattle.std.proofs.Common.{◌≡◌, ℕ, suc, ◌+◌, ◌-◌, ◌<◌, ◌==◌, Bool, true, false, List, [], ◌∷◌, ◌++◌, length, map, Some, Ok, Err, refl, ap, sym, subst, ◌∙◌, arith, length-append, if◌then◌else◌}
use Rattle.std.specs.Prelude.{slice_get, replicate}
use Rattle.std.specs.List.{list_any}
use Rattle.std.proofs.lemmas.List.{length-map}
use Rattle.lp_form.specs.declared.part.Part.TheVariants as part
use Rattle.lp_repr.specs.NormalCode.{norm_of}
use Rattle.lp_repr.specs.declared.repr.ActionFnDefn.{ActionFnDefn}
use Rattle.lp_repr.specs.declared.repr.ActionFnDefnKind.TheVariants as kind
use Rattle.lp_repr.specs.declared.repr.Grammar.{Grammar}
use Rattle.lp_repr.specs.declared.repr.Parameter.{Parameter}
use Rattle.lp_repr.specs.declared.repr.TypeRepr.{TypeRepr}
use Rattle.lp_repr.specs.declared.values.Loc.{Loc}
use Rattle.lp_repr.specs.declared.values.ParseError.TheVariants.{User}
use Rattle.lp_repr.specs.declared.values.UserError.TheVariants as blame
use Rattle.lp_driver.specs.Values.{Text, Spanned, Value, Call_result}
use Rattle.lp_core.specs.declared.expr.Join.TheVariants as join
use Rattle.lp_core.specs.declared.expr.Target.TheVariants as target
use Rattle.lp_core.specs.CallMeaning.{answer, fallible_answer}
use Rattle.lp_core.specs.Datum.{Unset}
use Rattle.lp_core.specs.Reading.{location}
use Rattle.lp_core.specs.Store.{Program}
use Rattle.lp_core.specs.Tree.{Tree}
use Rattle.lp_core.specs.Val.{Val, Plain}
use Rattle.lp_machine.specs.ActionMeaning.{call_result, user_call}
use Rattle.lp_maker.specs.Constructs.{function_of}
use Rattle.lp_maker.specs.Making.{Making, parameters}
use Rattle.lp_maker.specs.Slots.{Names, no_names}
use Rattle.lp_maker.specs.Texts.{Named}
use Rattle.lp_bodies.specs.Actions.{Body, body_of, action_function, action_under, action_body, plain_body, function_with, parse_error, is_fallible, parameter_count, code_of}
use Rattle.lp_bodies.specs.Actions as bodies
use Rattle.lp_build.specs.declared.functions.FunctionName.TheVariants as name
use Rattle.lp_actions.specs.Parameters.{return_text}
use Rattle.lp_table.specs.Headers.{names_of}
use Rattle.lp_view.specs.PartLists.{Form, is_a, parts_of}
use Rattle.lp_code_laws.specs.Ends.Ends.{Moment, moment, Outcome, Giving}
use Rattle.lp_code_laws.proofs.Ends.Calls.{enter}
use Rattle.lp_code_laws.proofs.Ends.Grow.{event}
use Rattle.lp_code_laws.proofs.Ends.Rules.{call}
use Rattle.lp_code_laws.proofs.Ends.Steps.{ends_as}
use Rattle.lp_code_laws.specs.Slots.Parameters.{bound_by, values_of}
use Rattle.lp_code_laws.proofs.Slots.Parameters.{next_by, values_append}
use Rattle.lp_question_laws.specs.Tables.Acts.{acted_val, arguments, symbol_val}
use Rattle.lp_question_laws.specs.Actions.Bindings.{triples, own_bindings, bindings_of}
use Rattle.lp_question_laws.specs.Actions.Params.{AreParams}
use Rattle.lp_question_laws.specs.Actions.Performs.{IsCalm, Performs}
use Rattle.lp_question_laws.specs.Actions.Stands.{IsActionForm, HasAction}
use Rattle.lp_question_laws.proofs.Actions.Fallible.{IsTold, header_fails}
use Rattle.lp_question_laws.proofs.Actions.Parameters.{ArePlain, IsCounted, header, header_binds, header_counts}
use Rattle.lp_question_laws.proofs.Actions.Taken.{in_slots, taken}
use Rattle.lp_question_laws.proofs.Actions.Texts.{IsPlainPrefix}
use Rattle.lp_question_laws.proofs.Actions.UserCalls.{call_with, user_called, arguments_set, params_set}

-- what is asked of the texts of a grammar and of an action
pub record HasPlainTexts (g : Grammar) (a : ActionFnDefn) : Type 0 where
  pub prefix : IsPlainPrefix g.prefix
  pub names : ArePlain g.prefix g.parameters
  pub counted : IsCounted g prefix a.kind
  pub told : IsTold g a

-- ---- how many values a function takes

pub named_many : (names : List (List ℕ)) → values_of (map Named names) ≡ length names
named_many [] = refl
named_many (n ∷ names) = ap suc (named_many names)

pub triples_many : (patterns : List (List ℕ)) → values_of (triples patterns) ≡ length patterns
triples_many [] = refl
triples_many (p ∷ ps) = ap suc (triples_many ps)

pub arguments_many : (vs : List Val) (xs : List (Spanned Value)) (place : Loc × Loc) (n : ℕ) → (length xs ≡ 0 → n ≡ 2) → (0 < length xs → n ≡ length xs) → length (arguments vs xs place) ≡ length vs + n
arguments_many vs [] place n none some = length-append vs (location place.0 ∷ location place.1 ∷ []) ∙ (let e = none refl in omega arith)
arguments_many vs (x ∷ xs) place n none some = length-append vs (map symbol_val (x ∷ xs)) ∙ (let e = some (omega arith) in let l = length-map (x ∷ xs) symbol_val in omega arith)

names_many : (g : Grammar) → length (names_of g) ≡ length g.parameters
names_many g = length-map g.parameters (λ (p : Parameter). p.name)

module _ (g : Grammar) (n : ℕ) (a : ActionFnDefn) (texts : HasPlainTexts g a) where
  abbrev pub header_of : Form
  header_of = header g texts.prefix (name.Action n) a.kind (return_text g a) texts.names texts.counted

  -- the names of its function
  pub names_bound : parameters g.prefix header_of ≡ bound_by g.prefix no_names (bindings_of g a.kind)
  names_bound = header_binds g texts.prefix (name.Action n) a.kind (return_text g a) texts.names texts.counted

  pub names_next : (parameters g.prefix header_of).next ≡ length g.parameters + values_of (own_bindings g.prefix a.kind)
  names_next =
      ap (λ (x : Names). x.next) names_bound ∙ next_by g.prefix (bindings_of g a.kind) no_names
      ∙ (let e : values_of (bindings_of g a.kind) ≡ length g.parameters + values_of (own_bindings g.prefix a.kind) =
      values_append (map Named (names_of g)) (own_bindings g.prefix a.kind) ∙ ap (λ k. k + values_of (own_bindings g.prefix a.kind)) (named_many (names_of g) ∙ names_many g) in omega arith)

-- the function of a form whose parts are known
pub function_is : (m : Making) (form head body : Form) → parts_of form ≡ head ∷ body ∷ [] → action_function m form ≡ function_with (parameters m.prefix head).next (action_body m head (parameters m.prefix head) body)
function_is m form head body is = ap (λ l. action_under m (slice_get l 0) (slice_get l 1)) is

-- ---- what a call gives

answer_is : (p : Program) (failing : List ℕ) (n : ℕ) (fallible : Bool) → p.failing ≡ failing → answer p fallible n ≡ acted_val fallible (call_result failing fallible n)
answer_is p failing n false same = refl
answer_is p failing n true same = ap (λ l. fallible_answer n (list_any (λ k. k == n) l)) same ∙ by (list_any (λ k. k == n) failing)
  where
    by : (b : Bool) → fallible_answer n b ≡ acted_val true (if b then Err (User (blame.Call n)) else Ok (Call_result n))
    by true = refl
    by false = refl

result_calm : (failing : List ℕ) (fallible : Bool) (n : ℕ) → IsCalm fallible (call_result failing fallible n)
result_calm failing true n = tt
result_calm failing false n = tt

module _ (p : Program) (g : Grammar) (names : List (List ℕ × ℕ)) (n : ℕ) (a : ActionFnDefn) (has : HasAction p g names n a) (texts : HasPlainTexts g a) where
  abbrev pub head : Form
  head = header_of g n a texts

  -- the function, by the names that its header binds
  pub function_there : slice_get p.functions has.number ≡ Some (function_with (parameters g.prefix head).next (action_body has.maker head (parameters g.prefix head) has.is.body))
  function_there =
      has.there ∙ ap Some (function_is has.maker has.form head has.is.body has.is.parts)
      ∙ ap (λ q. Some (function_with (parameters q head).next (action_body has.maker head (parameters q head) has.is.body))) has.prefix

  -- with as many arguments as it takes
  pub takes_all : (vs : List Val) (ts : List Text) (xs : List (Spanned Value)) (place : Loc × Loc) → length vs ≡ length g.parameters → (length xs ≡ 0 → values_of (own_bindings g.prefix a.kind) ≡ 2) → (0 < length xs → values_of (own_bindings g.prefix a.kind) ≡ length xs)
      → (parameters g.prefix head).next ≡ length (arguments vs xs place)
  takes_all vs ts xs place many none some =
      names_next g n a texts ∙ ap (λ k. k + values_of (own_bindings g.prefix a.kind)) (sym many) ∙ sym (arguments_many vs xs place (values_of (own_bindings g.prefix a.kind)) none some)

  module _ (patterns : List (List ℕ)) (types : List TypeRepr) (code : List ℕ) (is : a.kind ≡ kind.User patterns types code) where
    user_body : (is_a part.UserBody has.is.body ≡ true) × (code_of has.is.body ≡ norm_of code)
    user_body = subst (λ k. Rattle.lp_question_laws.specs.Actions.Stands.IsBody g a.fallible k has.is.body) is has.is.is_body

    user_values : (xs : List (Spanned Value)) → length xs ≡ length patterns → (length xs ≡ 0 → values_of (own_bindings g.prefix a.kind) ≡ 2) × (0 < length xs → values_of (own_bindings g.prefix a.kind) ≡ length xs)
    user_values xs many = subst (λ k. (length xs ≡ 0 → values_of (own_bindings g.prefix k) ≡ 2) × (0 < length xs → values_of (own_bindings g.prefix k) ≡ length xs)) (sym is) (by patterns many)
      where
        by : (ps : List (List ℕ)) → length xs ≡ length ps → (length xs ≡ 0 → values_of (own_bindings g.prefix (kind.User ps types code)) ≡ 2) × (0 < length xs → values_of (own_bindings g.prefix (kind.User ps types code)) ≡ length xs)
        by [] h = (λ e. refl, λ e. absurd (omega arith))
        by (q ∷ qs) h = (λ e. absurd (omega arith), λ e. triples_many (q ∷ qs) ∙ sym h)

    abbrev code_body : Tree
    code_body = bodies.user_call has.maker head (parameters g.prefix head)

    user_there : slice_get p.functions has.number ≡ Some (function_of (parameters g.prefix head).next (parameters g.prefix head) code_body)
    user_there =
        function_there
        ∙ ap (λ b. Some (function_with (parameters g.prefix head).next (if b then body_of code_body (parameters g.prefix head) else plain_body has.maker (parameters g.prefix head) has.is.body))) user_body.0

    -- a call of its function is the call of its code
    pub user_performs : (vs : List Val) (ts : List Text) (xs : List (Spanned Value)) (place : Loc × Loc) (failing : List ℕ) (m : Moment) → AreParams p vs ts → length vs ≡ length g.parameters → length xs ≡ length patterns → p.failing ≡ failing
        → Performs p has.number (arguments vs xs place) a.fallible 0 (user_call ts failing a.fallible code xs place (length m.calls)) 1 m
    user_performs vs ts xs place failing m are many some same =
        let names' = parameters g.prefix head in
        let f = is_fallible (parse_error has.maker.prefix) head in
        let count = parameter_count has.maker.prefix head in
        let made = call_with (length m.calls) (norm_of code) ts xs place in
        let text : slice_get p.texts (length has.maker.texts) ≡ Some (norm_of code) = has.text user_body.0 ∙ ap Some user_body.1 in
        let counts : count ≡ length vs = ap (λ q. parameter_count q head) has.prefix ∙ header_counts g texts.prefix (name.Action n) a.kind (return_text g a) texts.names texts.counted ∙ sym many in
        let fails : f ≡ a.fallible = ap (λ q. is_fallible (parse_error q) head) has.prefix ∙ header_fails g (name.Action n) a texts.told in
        let o : List Val → Outcome = λ env. Giving (answer p f (length m.calls)) (moment (in_slots env m).store (m.calls ++ made ∷ [])) in
        let rest = replicate (names'.next - names'.next) (Plain Unset) in
        let all : names'.next ≡ length (arguments vs xs place) = takes_all vs ts xs place many (user_values xs some).0 (user_values xs some).1 in
        let body = taken p (target.Join (join.Event (length has.maker.texts) f count)) 0 m o (arguments vs xs place) rest names'.next all (arguments_set vs xs place (params_set p vs ts are))
        (λ env. event {m = in_slots env m} made (user_called p (length m.calls) (length has.maker.texts) count (norm_of code) vs ts xs place text counts are)) in
        let value : answer p f (length m.calls) ≡ acted_val a.fallible (call_result failing a.fallible (length m.calls)) = ap (λ b. answer p b (length m.calls)) fails ∙ answer_is p failing (length m.calls) a.fallible same in
        record {
          steps = 1;
          few = omega arith;
          ends = ends_as (enter user_there all (call body.1) refl) (ap (λ v. Giving v (moment m.store (m.calls ++ made ∷ []))) value);
          calls = omega arith;
          fails = λ e h. omega arith;
          calm = result_calm failing a.fallible (length m.calls);
        }
