-- Actions that give a location: one step, and no call.
use Rattle.std.proofs.Common.{◌≡◌, ℕ, Bool, false, Ok, List, [], ◌∷◌, ◌++◌, length, map, Some, refl, ap, sym, subst, ◌∙◌, arith, append_assoc}
use Rattle.std.specs.Prelude.{slice_get, codes, replicate, ◌-◌}
use Rattle.std.proofs.lemmas.List.{length-map}
use Rattle.lp_repr.specs.declared.repr.Parameter.{Parameter}
use Rattle.lp_repr.specs.declared.repr.ActionFnDefn.{ActionFnDefn}
use Rattle.lp_repr.specs.declared.repr.ActionFnDefnKind.TheVariants as kind
use Rattle.lp_repr.specs.declared.repr.Grammar.{Grammar}
use Rattle.lp_repr.specs.declared.repr.LookaroundActionFn.{LookaroundActionFn}
use Rattle.lp_repr.specs.declared.repr.LookaroundActionFn.TheVariants.{Lookahead, Lookbehind}
use Rattle.lp_repr.specs.declared.values.Loc.{Loc}
use Rattle.lp_driver.specs.Values.{Location}
use Rattle.lp_core.specs.Datum.{Unset}
use Rattle.lp_core.specs.Reading.{location}
use Rattle.lp_core.specs.Store.{Program, UserCall}
use Rattle.lp_core.specs.Val.{Val, Plain}
use Rattle.lp_machine.specs.ActionMeaning.{gives}
use Rattle.lp_maker.specs.Constructs.{function_of}
use Rattle.lp_maker.specs.Making.{Making, parameters, read_name}
use Rattle.lp_maker.specs.Slots.{Names, no_names}
use Rattle.lp_maker.specs.Texts.{Named}
use Rattle.lp_bodies.specs.Actions.{action_body, body_of, function_with}
use Rattle.lp_table.specs.Headers.{names_of}
use Rattle.lp_view.specs.PartLists.{Form}
use Rattle.lp_code_laws.specs.Ends.Ends.{Moment, moment, Eval, Giving, EndsIn}
use Rattle.lp_code_laws.proofs.Ends.Calls.{enter}
use Rattle.lp_code_laws.proofs.Ends.Steps.{ends_as}
use Rattle.lp_code_laws.specs.Slots.Parameters.{bound_by, values_of}
use Rattle.lp_code_laws.proofs.Printed.Lines.{read_shown}
use Rattle.lp_question_laws.specs.Tables.Acts.{acted_val, arguments}
use Rattle.lp_question_laws.specs.Actions.Bindings.{places, own_bindings, bindings_of}
use Rattle.lp_question_laws.specs.Actions.Keys.{ShowsEach, mark}
use Rattle.lp_question_laws.specs.Actions.Performs.{IsCalm, Performs}
use Rattle.lp_question_laws.specs.Actions.Stands.{IsBody, HasAction}
use Rattle.lp_question_laws.proofs.Actions.Parameters.{plain_word}
use Rattle.lp_question_laws.proofs.Actions.Shown.{AreApart, begin_shown}
use Rattle.lp_question_laws.proofs.Actions.Taken.{in_slots}
use Rattle.lp_question_laws.proofs.Actions.Users.{HasPlainTexts, head, function_there, takes_all, names_bound}

-- a list with nothing behind it
pub with_none : (l : List UserCall) → l ≡ l ++ []
with_none [] = refl
with_none (x ∷ l) = ap (λ r. x ∷ r) (with_none l)

pub places_apart : AreApart (codes "lookbehind" ∷ codes "lookahead" ∷ [])
places_apart = (plain_word (codes "lookbehind") refl refl refl refl (omega arith), (refl, tt), (plain_word (codes "lookahead") refl refl refl refl (omega arith), tt, tt))

-- which place it gives, and under which name
abbrev pub name_of : LookaroundActionFn → List ℕ
name_of Lookahead = codes "~lookahead"
name_of Lookbehind = codes "~lookbehind"

abbrev pub place_in : LookaroundActionFn → Loc × Loc → Loc
place_in Lookahead place = place.1
place_in Lookbehind place = place.0

body_read : (g : Grammar) (fallible : Bool) (m : Making) (h : Form) (names : Names) (w : LookaroundActionFn) (body : Form) → IsBody g fallible (kind.Lookaround w) body → action_body m h names body ≡ body_of (read_name names (name_of w)) names
body_read g fallible m h names Lookahead body is = ap (action_body m h names) is
body_read g fallible m h names Lookbehind body is = ap (action_body m h names) is

module _ (p : Program) (g : Grammar) (names : List (List ℕ × ℕ)) (n : ℕ) (a : ActionFnDefn) (has : HasAction p g names n a) (texts : HasPlainTexts g a) (which : LookaroundActionFn) (is : a.kind ≡ kind.Lookaround which) where
  abbrev own : Names
  own = parameters g.prefix (head p g names n a has texts)

  own_is : own ≡ bound_by g.prefix no_names (map Named (names_of g) ++ places g.prefix)
  own_is = names_bound g n a texts ∙ ap (λ k. bound_by g.prefix no_names (bindings_of g k)) is

  -- the two places are shown
  shown : (held : List ℕ → Val) (place : Loc × Loc) (rest : List Val) → ShowsEach own (map held (names_of g) ++ (location place.0 ∷ location place.1 ∷ rest)) (codes "~lookbehind" ∷ codes "~lookahead" ∷ []) (location place.0 ∷ location place.1 ∷ [])
  shown held place rest =
      let words = codes "lookbehind" ∷ codes "lookahead" ∷ [] in
      subst (λ x. ShowsEach x (map held (names_of g) ++ (location place.0 ∷ location place.1 ∷ rest)) (map mark words) (location place.0 ∷ location place.1 ∷ [])) (sym own_is)
      (begin_shown texts.prefix held g.parameters words (location place.0 ∷ location place.1 ∷ []) rest texts.names places_apart refl).1

  looks : (held : List ℕ → Val) (place : Loc × Loc) (rest : List Val) (m : Moment) (w : LookaroundActionFn) →
      EndsIn p (Eval (read_name own (name_of w))) (in_slots (map held (names_of g) ++ (location place.0 ∷ location place.1 ∷ rest)) m) 0 (Giving (location (place_in w place)) (in_slots (map held (names_of g) ++ (location place.0 ∷ location place.1 ∷ rest)) m))
  looks held place rest m Lookahead = read_shown (shown held place rest).1.0 refl
  looks held place rest m Lookbehind = read_shown (shown held place rest).0 refl

  here : slice_get p.functions has.number ≡ Some (function_of own.next own (read_name own (name_of which)))
  here =
      function_there p g names n a has texts
      ∙ ap (λ b. Some (function_with own.next b)) (body_read g a.fallible has.maker (head p g names n a has texts) own which has.is.body (subst (λ k. IsBody g a.fallible k has.is.body) is has.is.is_body))

  place_values : values_of (own_bindings g.prefix a.kind) ≡ 2
  place_values = ap (λ k. values_of (own_bindings g.prefix k)) is

  -- a call of its function gives the location
  pub lookaround_performs : (held : List ℕ → Val) (place : Loc × Loc) (m : Moment) → a.fallible ≡ false → Performs p has.number (arguments (map held (names_of g)) [] place) a.fallible 1 (gives (Location (place_in which place))) 1 m
  lookaround_performs held place m calm =
      let vs = map held (names_of g) in
      let rest = replicate (own.next - own.next) (Plain Unset) in
      let many : length vs ≡ length g.parameters = length-map (names_of g) held ∙ length-map g.parameters (λ (q : Parameter). q.name) in
      let slots : vs ++ (location place.0 ∷ location place.1 ∷ rest) ≡ arguments vs [] place ++ rest = sym (append_assoc vs (location place.0 ∷ location place.1 ∷ []) rest) in
      let body = subst (λ e. EndsIn p (Eval (read_name own (name_of which))) (in_slots e m) 0 (Giving (location (place_in which place)) (in_slots e m))) slots (looks held place rest m which) in
      let ended = enter here (takes_all p g names n a has texts vs [] [] place many (λ e. place_values) (λ e. absurd (omega arith))) body refl in
      record {
        steps = 1;
        few = omega arith;
        ends = ends_as ended (ap (λ c. Giving (location (place_in which place)) (moment m.store c)) (with_none m.calls) ∙ ap (λ b. Giving (acted_val b (Ok (Location (place_in which place)))) (moment m.store (m.calls ++ []))) (sym calm));
        calls = omega arith;
        fails = λ e h. cc;
        calm = subst (λ b. IsCalm b (Ok (Location (place_in which place)))) (sym calm) tt;
      }
