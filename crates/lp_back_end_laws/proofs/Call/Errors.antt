-- The error of a state: its list is that of the machine's looks, with which its run ends.
use Rattle.std.proofs.Common.{◌≡◌, ◌⊎◌, inl, inr, ℕ, ◌+◌, ◌*◌, ◌<◌, ◌≤◌, false, List, [], ◌∷◌, length, map, pos, Option, Some, None, refl, sym, ap, ◌∙◌, subst, ⊎_elim, arith}
use Rattle.std.specs.Prelude.{slice_get, Err, IsSome}
use Rattle.lp_core.specs.declared.value.StateType.{StateType}
use Rattle.lp_core.specs.Datum.{Cell}
use Rattle.lp_core.specs.Effect.{set_value}
use Rattle.lp_core.specs.Eval.{run_call}
use Rattle.lp_core.specs.Flow.{Spent}
use Rattle.lp_core.specs.JoinMeaning.{texts_of}
use Rattle.lp_core.specs.Prefix.{IsPrefix}
use Rattle.lp_core.specs.Store.{Program, UserCall, Held, States}
use Rattle.lp_core.specs.Val.{Val, Plain}
use Rattle.lp_driver.specs.declared.answers.Expecting.{Expecting}
use Rattle.lp_driver.specs.declared.answers.Expecting.TheVariants.{Trial}
use Rattle.lp_driver.specs.Values.{Text, Token, Spanned, Ending}
use Rattle.lp_repr.specs.declared.lr1.Lr1State.{Lr1State}
use Rattle.lp_repr.specs.declared.repr.Grammar.{Grammar}
use Rattle.lp_repr.specs.declared.values.RunItem.{RunItem}
use Rattle.lp_machine.specs.declared.config.Config.{Config}
use Rattle.lp_machine.specs.Move.{moves}
use Rattle.lp_machine.specs.Moves.{errs, errs_by}
use Rattle.lp_machine.specs.RunEnds.{ended}
use Rattle.lp_machine.specs.StackMachine as machine
use Rattle.lp_machine.specs.StackMachine.{failure_at}
use Rattle.lp_machine.specs.Tables.{Tables}
use Rattle.lp_turn_laws.specs.Alike.Course.{Leads}
use Rattle.lp_turn_laws.specs.Alike.Looks.{Look, begun, looks, IsComplete}
use Rattle.lp_turn_laws.proofs.Alike.Looked.{placed, completed, ends_complete}
use Rattle.lp_code_laws.specs.Ends.Ends.{Moment, at, Enter, Giving, EndsIn}
use Rattle.lp_turn_laws.specs.Paths.Over.{IsOver}
use Rattle.lp_turn_laws.specs.Paths.Standing.{IsOnPath}
use Rattle.lp_question_laws.specs.Expected.Trials.{Collects, Lags}
use Rattle.lp_question_laws.proofs.Expected.Fewer.{cut_fewer}
use Rattle.lp_question_laws.proofs.Expected.Found.{collects_looks, collects_more, lags_more, all_complete, next_at, decided, TakesMore}
use Rattle.lp_back_end_laws.proofs.Call.Expected.{HasTrials, stands, gives, lacks}

module _ {g : Grammar} {start : ℕ} {states : List Lr1State} {t : Tables} (over : IsOver g start states t) {p : Program} {kind : StateType} {expected : ℕ} (has : HasTrials p kind states t expected) (items : List RunItem) (trial : t.expecting ≡ Trial)
    (c : Config) (token : Option (Spanned Token)) (path : IsOnPath states c.states) (error : c ≡ errs t items c token false) (cells : List Held) (list : ℕ) (there : slice_get cells list ≡ Some (States (map pos c.states))) (taken : ℕ) (so_far : List UserCall) (env : List Val) where
  abbrev place : Moment
  place = stands cells taken so_far env

  -- it gives the list with which the machine's run ends
  pub record Complete : Type 0 where
    pub made : ℕ
    pub found : List Text
    pub value : Val
    pub read : texts_of p value ≡ Some found
    pub set : set_value value ≡ Some value
    pub steps : ℕ
    pub few : steps ≤ 5 * made + 1
    pub ends : EndsIn p (Enter expected (Plain (Cell list) ∷ [])) (stands cells taken so_far env) steps (Giving value (stands cells taken so_far env))
    pub leads : Leads t items c (machine.over c (Err (failure_at c.last token found))) made

  -- or with so many steps it is spent, and they were too few for the machine's moves
  pub record Short (b : ℕ) : Type 0 where
    pub calls : List UserCall
    pub runs : run_call p expected (Plain (Cell list) ∷ []) (at (stands cells taken so_far env) b) ≡ Spent calls
    pub first : IsPrefix calls so_far
    pub early : (k : ℕ) → IsSome (ended (moves t items k c).left) → b < 5 * k + 1

  -- the machine is at the first look
  first_look : c ≡ placed t items c token false begun
  first_look = error ∙ ap (λ (e : Expecting). errs_by t items e c token false) trial

  all_names : 0 + length t.names ≡ length t.names
  all_names = omega arith

  names_from : (j : ℕ) → slice_get t.names (0 + j) ≡ slice_get t.names j
  names_from j = (let none : 0 + j ≡ j = omega arith in ap (slice_get t.names) none)

  -- where its run ends within moves, as many looks as a list takes are among them
  moves_more : (n : ℕ) → TakesMore t c.states n begun → (k : ℕ) → IsSome (ended (moves t items k c).left) → n ≤ k
  moves_more n takes k h = by (ended (moves t items k c).left) refl h
    where
      by : (o : Option Ending) → ended (moves t items k c).left ≡ o → IsSome o → n ≤ k
      by None e some = cc
      by (Some end) e some =
          let w = ends_complete t items c token false k begun end (ap (λ (a : Config). ended (moves t items k a).left) (sym first_look) ∙ e) in
          let least : n ≤ w.0 = takes w.0 w.2 in
          let within : w.0 ≤ k = w.1 in
          omega arith

  collected : (n : ℕ) (found : List Text) → Collects t c.states 0 t.names n found → Complete
  collected n found collects =
      let a = gives over has c.states path cells list there taken so_far n found collects in
      let few = a.few in
      let comes : looks t c.states n begun ≡ next_at (length t.names) found = collects_looks t c.states 0 t.names n found [] collects all_names names_from in
      let done = completed t items c token false n begun (subst (IsComplete t) (sym comes) (all_complete t c.states found)) in
      let least : n ≤ done.count = collects_more t c.states 0 t.names n found [] collects all_names names_from done.count done.complete in
      let same : (looks t c.states done.count begun).found ≡ found = ap (λ (l : Look). l.found) (done.same ∙ comes) in
      record {
        made = done.count;
        found = found;
        value = a.value;
        read = a.read;
        set = a.set;
        steps = a.steps;
        few = omega (arith, few, least);
        ends = a.ends env;
        leads = subst (λ (x : Config). Leads t items x (machine.over c (Err (failure_at c.last token found))) done.count) (sym first_look)
            (subst (λ (names : List Text). Leads t items (placed t items c token false begun) (machine.over c (Err (failure_at c.last token names))) done.count) same done.leads);
      }

  lags_short : (b : ℕ) → Lags t c.states 0 t.names b → Short b
  lags_short b lags =
      let r = lacks over has c.states path cells list there taken so_far b lags in
      let many = r.many in
      let s = cut_fewer (r.cut env) b (omega (arith, many)) in
      record {
        calls = s.0;
        runs = s.1;
        first = s.2;
        early = λ k h. (let least : b ≤ k = moves_more b (lags_more t c.states 0 t.names b [] lags all_names names_from) k h in omega arith);
      }

  -- with so many steps
  pub error_listed : (b : ℕ) → Complete ⊎ Short b
  error_listed b =
      ⊎_elim (λ (x : (n : ℕ) × (found : List Text) × Collects t c.states 0 t.names n found). inl (collected x.0 x.1 x.2))
      (λ (l : Lags t c.states 0 t.names b). inr (lags_short b l))
      (decided t c.states b 0 t.names)

-- an end of the machine is behind as many moves as lead there
pub least_moves : (t : Tables) (items : List RunItem) (a b : Config) (n : ℕ) → Leads t items a b n → (k : ℕ) → IsSome (ended (moves t items k a).left) → n ≤ k
least_moves t items a b n leads k h = by (ended (moves t items k a).left) refl h
  where
    by : (o : Option Ending) → ended (moves t items k a).left ≡ o → IsSome o → n ≤ k
    by None e some = cc
    by (Some end) e some = leads.before k end e
