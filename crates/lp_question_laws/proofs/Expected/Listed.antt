-- The driver's question for an expected list is answered by the looks of trials.
use Rattle.std.proofs.Common.{◌≡◌, ℕ, ◌+◌, ◌-◌, ◌*◌, ◌<◌, ◌≤◌, Bool, true, false, ltb, List, [], ◌∷◌, length, map, pos, Option, Some, refl, sym, ap, ◌∙◌, subst, ⊎_elim, arith}
use Rattle.std.proofs.lemmas.Bool.Decides.{nat_tests}
use Rattle.std.proofs.Math.Nat.{mul-le-mul_right}
use Rattle.std.specs.Prelude.{slice_get}
use Rattle.lp_core.specs.Flow.{Flow}
use Rattle.lp_core.specs.Eval.{run_call}
use Rattle.lp_core.specs.JoinMeaning.{texts_of}
use Rattle.lp_core.specs.Store.{Program}
use Rattle.lp_core.specs.Val.{Val}
use Rattle.lp_driver.specs.Questions as questions
use Rattle.lp_driver.specs.Questions.{Expected, Said, Says, Halts}
use Rattle.lp_driver.specs.Values.{Text}
use Rattle.lp_core.specs.declared.value.StateType.{StateType}
use Rattle.lp_repr.specs.declared.lr1.Lr1State.{Lr1State}
use Rattle.lp_repr.specs.declared.repr.Grammar.{Grammar}
use Rattle.lp_turn_laws.specs.Paths.Over.{IsOver}
use Rattle.lp_turn_laws.specs.Paths.Standing.{IsOnPath}
use Rattle.lp_machine.specs.Tables.{Tables}
use Rattle.lp_maker.specs.declared.methods.Methods.{Methods}
use Rattle.lp_turns.specs.Asking.{Asking}
use Rattle.lp_turns.specs.declared.runner.Runner.{Runner}
use Rattle.lp_turns.specs.DriverCall.{program_answers, answer, on_said, says, with_calls}
use Rattle.lp_turns.specs.Readings.{cell_val}
use Rattle.lp_turn_laws.specs.Alike.Answered.{Listed, Lists, Short, Leaves}
use Rattle.lp_turn_laws.specs.Alike.Looks.{Look, begun, looks, IsComplete}
use Rattle.lp_turn_laws.specs.Asked.Runners.{Asks, left, seen}
use Rattle.lp_turn_laws.proofs.Asked.Asked.{same_program}
use Rattle.lp_code_laws.specs.Ends.Cut.{Cut}
use Rattle.lp_code_laws.specs.Ends.Ends.{Moment, at, Enter, Giving, EndsIn}
use Rattle.lp_code_laws.proofs.Ends.Spent.{ends_from, spent_call}
use Rattle.lp_question_laws.specs.Expected.Trials.{Collects, Lags}
use Rattle.lp_question_laws.proofs.Expected.Accepts.{lent}
use Rattle.lp_question_laws.proofs.Expected.Fewer.{cut_fewer}
use Rattle.lp_question_laws.proofs.Expected.Found.{collects_looks, collects_more, lags_more, all_complete, next_at, decided}
use Rattle.lp_question_laws.proofs.Expected.Lists.{HasTrials, Answers, answers, lacks}

-- the steps of one look
abbrev pub look_cost : ℕ
look_cost = 6

module _ (t : Tables) (cost : ℕ) (enough : look_cost ≤ cost) (d : Runner) (method : ℕ) (stack : List ℕ) where
  abbrev p : Program
  p = d.asked.program

  abbrev place : Moment
  place = lent (map pos stack) d.calls []

  -- what is told by how the call ends
  abbrev told : Flow → Said (List Text) Runner
  told fl = on_said (answer d fl) (λ r d'. says (texts_of d'.asked.program r.0) d')

  abbrev asked : Said (List Text) Runner
  asked = told (run_call p method (cell_val 0 ∷ []) (at place d.left))

  all_names : 0 + length t.names ≡ length t.names
  all_names = omega arith

  names_from : (j : ℕ) → slice_get t.names (0 + j) ≡ slice_get t.names j
  names_from j = (let none : 0 + j ≡ j = omega arith in ap (slice_get t.names) none)

  cost_more : (n : ℕ) → look_cost * (n + 1) ≤ cost * (n + 1)
  cost_more n = mul-le-mul_right (n + 1) enough

  -- so many looks find the list
  module _ (n : ℕ) (list : List Text) (found : Collects t stack 0 t.names n list) where
    comes : looks t stack n begun ≡ next_at (length t.names) list
    comes = collects_looks t stack 0 t.names n list [] found all_names names_from

    pub by_count : (k : ℕ) (v : Val) → k ≤ look_cost * n + 2 → texts_of p v ≡ Some list → EndsIn p (Enter method (cell_val 0 ∷ [])) place k (Giving v place) → (less : Bool) → ltb d.left k ≡ less → Listed left seen t cost stack d asked
    by_count k v few read ends false is =
        let le : k ≤ d.left = grind (arith, nat_tests) in
        let after = with_calls d d.calls (d.left - k) in
        let whole : asked ≡ Says list after = ap told (ends_from ends d.left le) ∙ ap (λ o. says o after) read in
        subst (Listed left seen t cost stack d) (sym whole)
        (Lists n list after refl (subst (IsComplete t) (sym comes) (all_complete t stack list)) (sym (ap (λ (l : Look). l.found) comes)))
    by_count k v few read ends true is =
        let lt : d.left < k = grind (arith, nat_tests) in
        let s = spent_call ends d.left lt in
        let whole : asked ≡ Halts questions.Spent (with_calls d s.calls 0) = ap told s.is in
        let more = cost_more n in
        subst (Listed left seen t cost stack d) (sym whole) (Short n (with_calls d s.calls 0) (omega (arith, more, few)) s.first (collects_more t stack 0 t.names n list [] found all_names names_from))

    -- and leave the definition ready, after the steps of that
    pub left_by_count : (k : ℕ) (v : Val) → k ≤ look_cost * n + 2 → texts_of p v ≡ Some list → EndsIn p (Enter method (cell_val 0 ∷ [])) place k (Giving v place) → {asking : Asking} {methods : Methods} {closure : Option ℕ} → Asks asking methods closure d
        → (less : Bool) → ltb d.left k ≡ less → Leaves left (Asks asking methods closure) t cost stack d asked
    left_by_count k v few read ends {asking} {methods} {closure} h false is =
        let le : k ≤ d.left = grind (arith, nat_tests) in
        let after = with_calls d d.calls (d.left - k) in
        let whole : asked ≡ Says list after = ap told (ends_from ends d.left le) ∙ ap (λ o. says o after) read in
        subst (Leaves left (Asks asking methods closure) t cost stack d) (sym whole) (
          same_program asking methods closure d d.calls (d.left - k) h,
          λ j complete.
              let least : n ≤ j = collects_more t stack 0 t.names n list [] found all_names names_from j complete in
              let more = cost_more j in
              omega (arith, more, few),
        )
    left_by_count k v few read ends {asking} {methods} {closure} h true is =
        let lt : d.left < k = grind (arith, nat_tests) in
        subst (Leaves left (Asks asking methods closure) t cost stack d) (sym (ap told (spent_call ends d.left lt).is)) tt

  -- as many looks as there are steps don't
  pub lacking : (steps : ℕ) → d.left ≤ steps → Cut p (Enter method (cell_val 0 ∷ [])) place steps d.calls → Lags t stack 0 t.names d.left → Listed left seen t cost stack d asked
  lacking steps many cut lags =
      let s = cut_fewer cut d.left many in
      let whole : asked ≡ Halts questions.Spent (with_calls d s.0 0) = ap told s.1 in
      let more = cost_more d.left in
      subst (Listed left seen t cost stack d) (sym whole) (Short d.left (with_calls d s.0 0) (omega (arith, more)) s.2 (lags_more t stack 0 t.names d.left [] lags all_names names_from))

  pub lacking_left : (Ready : Runner → Type 0) (steps : ℕ) → d.left ≤ steps → Cut p (Enter method (cell_val 0 ∷ [])) place steps d.calls → Leaves left Ready t cost stack d asked
  lacking_left Ready steps many cut = subst (Leaves left Ready t cost stack d) (sym (ap told (cut_fewer cut d.left many).1)) tt

module _ {g : Grammar} {start : ℕ} {states : List Lr1State} {t : Tables} (over : IsOver g start states t) {kind : StateType} (cost : ℕ) (enough : look_cost ≤ cost) (d : Runner) (stack : List ℕ) (path : IsOnPath states stack) (h : HasTrials d.asked.program kind states t d.methods.expected_tokens_from_states) where
  in_steps : (n : ℕ) (list : List Text) → Collects t stack 0 t.names n list
      → Answers over h stack path d.calls n list
      → Listed left seen t cost stack d (program_answers (Expected (map pos stack)) d)
  in_steps n list found a = by_count t cost enough d d.methods.expected_tokens_from_states stack n list found a.steps a.value a.few a.read a.ends (ltb d.left a.steps) refl

  -- the list that is told is that of the looks
  pub expected_listed : Listed left seen t cost stack d (program_answers (Expected (map pos stack)) d)
  expected_listed =
      ⊎_elim
      (λ (c : (n : ℕ) × (list : List Text) × Collects t stack 0 t.names n list).
      in_steps c.0 c.1 c.2 (answers over h stack path d.calls c.0 c.1 c.2))
      (λ (l : Lags t stack 0 t.names d.left).
      let r = lacks over h stack path d.calls d.left l in
      lacking t cost enough d d.methods.expected_tokens_from_states stack r.steps r.many r.cut l)
      (decided t stack d.left 0 t.names)

  -- with the list it is ready again, after the steps of the looks
  pub expected_left : {asking : Asking} {methods : Methods} {closure : Option ℕ} → Asks asking methods closure d → Leaves left (Asks asking methods closure) t cost stack d (program_answers (Expected (map pos stack)) d)
  expected_left {asking} {methods} {closure} asks =
      let method = d.methods.expected_tokens_from_states in
      ⊎_elim
      (λ (c : (n : ℕ) × (list : List Text) × Collects t stack 0 t.names n list).
      let a = answers over h stack path d.calls c.0 c.1 c.2 in
      left_by_count t cost enough d method stack c.0 c.1 c.2 a.steps a.value a.few a.read a.ends asks (ltb d.left a.steps) refl)
      (λ (l : Lags t stack 0 t.names d.left).
      let r = lacks over h stack path d.calls d.left l in
      lacking_left t cost enough d method stack (Asks asking methods closure) r.steps r.many r.cut)
      (decided t stack d.left 0 t.names)
