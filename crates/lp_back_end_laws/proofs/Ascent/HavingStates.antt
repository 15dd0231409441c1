-- A program of recursive ascent has the functions of the states of its tables.
use Rattle.std.proofs.Common.{◌≡◌, ℕ, ◌<◌, List, ◌++◌, length, codes, decimal, Option, Some, None, refl, ap, sym, subst, ◌∙◌}
use Rattle.std.specs.Prelude.{slice_get, unwrap_or}
use Rattle.std.proofs.lemmas.Option.{same_Some, slice_get_within}
use Rattle.lp_repr.specs.declared.lr1.Lr1State.{Lr1State}
use Rattle.lp_repr.specs.declared.repr.Grammar.{Grammar}
use Rattle.lp_core.specs.declared.value.StateType.{StateType}
use Rattle.lp_core.specs.Store.{Program}
use Rattle.lp_table.specs.Starts.{Start}
use Rattle.lp_view.specs.PartLists.{Form}
use Rattle.lp_maker.specs.Making.{Making, number_in}
use Rattle.lp_run.specs.Functions.{function_made}
use Rattle.lp_ascent_bodies.specs.AscentStates.{state_fn, with_state_fn}
use Rattle.lp_question_laws.proofs.Gotos.Goto.{Counts}
use Rattle.lp_turn_laws.proofs.Paths.Reductions.{at_within}
use Rattle.lp_question_laws.specs.Actions.Stands.{HasActions}
use Rattle.lp_question_laws.proofs.Expected.LookUps.{types_of}
use Rattle.lp_back_end_laws.proofs.Call.Linked.{HasStates, state_form}
use Rattle.lp_back_end_laws.proofs.Call.Pulls.{HasClosure}
use Rattle.lp_back_end_laws.specs.Filled.BackEndLaw.{AreNamedApart}
use Rattle.lp_back_end_laws.proofs.Ascent.Runs.{RunsAscent}
use Rattle.lp_back_end_laws.proofs.Ascent.Stays.{Stays}
use Rattle.lp_back_end_laws.proofs.Ascent.AscentRows.{state_name}
use Rattle.lp_back_end_laws.proofs.Ascent.NamedRows.{expected_told, state_told}
use Rattle.lp_back_end_laws.proofs.Ascent.StartRow.{started_last}
use Rattle.lp_back_end_laws.proofs.Ascent.Linking.{Told}
use Rattle.lp_back_end_laws.proofs.Ascent.Having.{closure_there, function_there, is_in, variant, variants_apart, variants_in_row, whole}

-- the number of a name, if it has one
abbrev pub numbered_by : List ℕ → List (List ℕ × ℕ) → ℕ
numbered_by q names = unwrap_or (number_in q names) 0

pub number_is : (q : List ℕ) (names : List (List ℕ × ℕ)) (k : ℕ) → number_in q names ≡ Some k → number_in q names ≡ Some (numbered_by q names)
number_is q names k h = h ∙ sym (ap (λ (o : Option ℕ). Some (unwrap_or o 0)) h)

pub number_so : (q : List ℕ) (names : List (List ℕ × ℕ)) (k : ℕ) → number_in q names ≡ Some k → k ≡ numbered_by q names
number_so q names k h = sym (ap (λ (o : Option ℕ). unwrap_or o 0) h)

-- what is made with a state's function
module _ (g : Grammar) (states : List Lr1State) (m : Making) (q : ℕ) (s : Lr1State) where
  state_function : (function_made m (state_form g states q s)).function ≡ state_fn m (state_form g states q s)
  unfolding function_made
  state_function = refl

  state_making : (function_made m (state_form g states q s)).making ≡ with_state_fn (state_form g states q s) m
  unfolding function_made
  state_making = refl

module _ {prefix : List ℕ} {program : Form} {g : Grammar} {states : List Lr1State} {st : Start} {p : Program} (runs : RunsAscent prefix program g states st p) (same : prefix ≡ g.prefix) (counts : Counts g states) where
  abbrev pub names : List (List ℕ × ℕ)
  names = (whole runs).names

  abbrev pub function : ℕ → ℕ
  function n = numbered_by (codes "state" ++ decimal n) names

  abbrev pub action : ℕ → ℕ
  action n = numbered_by (codes "super::action" ++ decimal n) names

  abbrev pub expected : ℕ
  expected = numbered_by (codes "expected") names

  abbrev pub kind : StateType
  kind = (types_of g states counts).kind

  -- what was made before a state's function
  record Before (q : ℕ) (m : Making) : Type 0 where
    prefix_is : m.prefix ≡ prefix
    stays : Stays m (whole runs)
    after : (s : Lr1State) → slice_get states q ≡ Some s → Stays (with_state_fn (state_form g states q s) m) (whole runs)
    there : (s : Lr1State) → slice_get states q ≡ Some s → slice_get p.functions (function q) ≡ Some (state_fn m (state_form g states q s))

  module _ (q : ℕ) where
    told_at : (s : Lr1State) → slice_get states q ≡ Some s → Told prefix (whole runs) (state_name g states q) (state_form g states q s)
    told_at s at = state_told g states st prefix program counts.states_fit q s at

    by_told : (s : Lr1State) (at : slice_get states q ≡ Some s) → Before q (told_at s at).maker
    by_told s at =
        let t = told_at s at in
        let behind : Stays (with_state_fn (state_form g states q s) t.maker) (whole runs) = subst (λ (m : Making). Stays m (whole runs)) (state_making g states t.maker q s) t.after in
        let code : slice_get p.functions (function q) ≡ Some (state_fn t.maker (state_form g states q s)) =
        ap (slice_get p.functions) (sym (number_so (codes "state" ++ decimal q) names t.number t.named)) ∙ function_there runs t.number _ t.there ∙ ap Some (state_function g states t.maker q s) in
        record {
          prefix_is = t.same;
          stays = t.stays;
          after = λ r here. subst (λ (x : Lr1State). Stays (with_state_fn (state_form g states q x) t.maker) (whole runs)) (same_Some s r (sym at ∙ here)) behind;
          there = λ r here. subst (λ (x : Lr1State). slice_get p.functions (function q) ≡ Some (state_fn t.maker (state_form g states q x))) (same_Some s r (sym at ∙ here)) code;
        }

    before_by : (o : Option Lr1State) → slice_get states q ≡ o → (m : Making) × (q < length states → Before q m)
    before_by None at = (whole runs, λ lt. (let here = at_within states q lt in let bad : None ≡ Some here.0 = sym at ∙ here.1 in absurd cc))
    before_by (Some s) at = ((told_at s at).maker, λ lt. by_told s at)

  pub maker : ℕ → Making
  maker q = (before_by q (slice_get states q) refl).0

  before : (q : ℕ) → q < length states → Before q (maker q)
  unfolding maker before_by
  before q lt = (before_by q (slice_get states q) refl).1 lt

  -- it knows all names
  pub knows : (q : ℕ) → q < length states → (maker q).names ≡ names
  knows q lt = sym (before q lt).stays.names

  pub state_numbered : (n : ℕ) → n < length states → number_in (codes "state" ++ decimal n) names ≡ Some (function n)
  state_numbered n lt = (let at = at_within states n lt in let t = told_at n at.0 at.1 in number_is (codes "state" ++ decimal n) names t.number t.named)

  pub expected_numbered : number_in (codes "expected") names ≡ Some expected
  expected_numbered = (let t = expected_told g states st prefix program in number_is (codes "expected") names t.number t.named)

  pub action_numbered : HasActions p g names → (n : ℕ) → n < length g.action_fn_defns → number_in (codes "super::action" ++ decimal n) names ≡ Some (action n)
  action_numbered actions n lt = (let at = at_within g.action_fn_defns n lt in let a = actions n at.0 at.1 in number_is (codes "super::action" ++ decimal n) names a.number a.named)

  -- the functions of the states, by what was made before each
  pub has_states : AreNamedApart g → HasActions p g names → HasStates g states p function action (variant runs) kind expected
  has_states clash actions = record {
    kind_is = (types_of g states counts).read;
    maker = maker;
    prefix = λ q lt. (before q lt).prefix_is ∙ same;
    state_named = λ q n lt less. ap (number_in (codes "state" ++ decimal n)) (knows q lt) ∙ state_numbered n less;
    action_named = λ q n lt less. ap (number_in (codes "super::action" ++ decimal n)) (knows q lt) ∙ action_numbered actions n less;
    expected_named = λ q lt. ap (number_in (codes "expected")) (knows q lt) ∙ expected_numbered;
    closure = λ q lt. subst (HasClosure p) (before q lt).stays.item_closure (closure_there runs);
    there = λ q s at. (before q (slice_get_within states q s at)).there s at;
    made = λ q s at. is_in runs (with_state_fn (state_form g states q s) (maker q)) ((before q (slice_get_within states q s at)).after s at);
    apart = variants_apart g (started_last g states st prefix program).variants (variants_in_row runs) clash;
  }

  pub makers_know : (clash : AreNamedApart g) (actions : HasActions p g names) (q : ℕ) → q < length states → ((has_states clash actions).maker q).names ≡ names
  unfolding has_states
  makers_know clash actions q lt = knows q lt
