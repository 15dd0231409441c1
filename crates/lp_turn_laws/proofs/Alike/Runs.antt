-- Runs of a driver over a definition that answers by the tables come where the machine comes.
use Rattle.std.proofs.Common.{◌≡◌, ℕ, zero, suc, ◌+◌, ◌*◌, ◌<◌, ◌≤◌, ℤ, pos, Bool, false, List, [], ◌∷◌, map, None, refl, sym, ap, ◌∙◌, subst, arith}
use Rattle.lp_repr.specs.declared.lr1.Lr1State.{Lr1State}
use Rattle.lp_repr.specs.declared.numbering.SymbolNumber.{SymbolNumber}
use Rattle.lp_repr.specs.declared.repr.Grammar.{Grammar}
use Rattle.lp_repr.specs.declared.values.Loc.{Loc}
use Rattle.lp_repr.specs.declared.values.Loc.TheVariants.{Default}
use Rattle.lp_repr.specs.declared.values.RunItem.{RunItem}
use Rattle.lp_driver.specs.declared.answers.Expecting.TheVariants.{Trial}
use Rattle.lp_driver.specs.DriverState.{Driver, Next, Goes_on, Ends, Halted, on_answer}
use Rattle.lp_driver.specs.Questions.{Answers, IsLawful, Lowers, Start_location, Start_state, Said}
use Rattle.lp_driver.specs.Turns.{turn, goes_on, turns, run}
use Rattle.lp_driver.specs.Turns as driver
use Rattle.lp_driver.specs.Values.{Token, Value}
use Rattle.lp_driver.proofs.Falls.{Falls, turn_falls}
use Rattle.lp_machine.specs.declared.calls.Call.{Call}
use Rattle.lp_machine.specs.Moves.{first}
use Rattle.lp_machine.specs.Tables.{Tables}
use Rattle.lp_machine.proofs.KeptCalls.{ready_keeps}
use Rattle.lp_turn_laws.specs.Paths.Over.{IsOver}
use Rattle.lp_turn_laws.proofs.Paths.Stacks.{path_first}
use Rattle.lp_turn_laws.specs.Alike.Answered.{Answered, Tells, Lacks, AnswersBy}
use Rattle.lp_turn_laws.specs.Alike.Course as course
use Rattle.lp_turn_laws.specs.Alike.Course.{AreKnown, Parses, extra, rate, machine_at, Stands, Follows}
use Rattle.lp_turn_laws.specs.Alike.Runs.{Course, Comes, Stops}
use Rattle.lp_turn_laws.proofs.Alike.Bounds.{bounded, run_bound}
use Rattle.lp_turn_laws.proofs.Alike.Places.{none_alike}
use Rattle.lp_turn_laws.proofs.Alike.Turns.{turns_follow}

module _ {S D : Type 0} (answers : Answers S D) (left : D → ℕ) (is_stuck : D → Bool) (law : IsLawful answers left is_stuck) where
  falls_on : (n : ℕ) (d : D) (next : Next S D) (w : Driver S) (x : D) → left d < suc n → Falls answers left is_stuck law (left d) next
      → ((w' : Driver S) (d' : D) → left d' < n → turns answers n w' d' ≡ Goes_on w x → ⊥) → goes_on answers next (turns answers n) ≡ Goes_on w x → ⊥
  falls_on n d (Goes_on w' d') w x less falls more e = more w' d' (omega arith) e
  falls_on n d (Ends end d') w x less falls more e = cc
  falls_on n d (Halted why d') w x less falls more e = cc

  -- after more turns than there are steps it doesn't go on
  never_on : (n : ℕ) (w : Driver S) (d : D) (w' : Driver S) (x : D) → left d < n → turns answers n w d ≡ Goes_on w' x → ⊥
  never_on zero w d w' x less e = omega arith
  never_on (suc n) w d w' x less e = falls_on n d (turn answers w d) w' x less (turn_falls answers left is_stuck law w d) (λ u c h. never_on n u c w' x h) e

module _ {S D U : Type 0} (answers : Answers S D) (left : D → ℕ) (seen : D → List U) (Ready : D → Type 0) (told : Call → U)
    {g : Grammar} {start : ℕ} {states : List Lr1State} {t : Tables} (over_tables : IsOver g start states t) (Is : SymbolNumber → S → Value → Type 0) (Known : Token → Type 0) (cost : ℕ)
    (by : AnswersBy answers left seen Ready told g states t Is Known cost) (trial : t.expecting ≡ Trial) (items : List RunItem) (known : AreKnown Known items)
    (is_stuck : D → Bool) (law : IsLawful answers left is_stuck) where
  abbrev To : D → Next S D → Type 0
  To d next = Course left seen told t cost items d next

  none_called : (first t items).calls ≡ []
  none_called = ready_keeps t items (machine_at (0 ∷ []) [] [] 0 None None Default)

  -- a question before the turns
  started : {A : Type 0} (d0 d : D) (used most : ℕ) (Good : A → Type 0) (said : Said A D) (go : A → D → Next S D)
      → seen d ≡ [] → left d0 ≤ left d + used → used + most ≤ 2 * cost → left d ≤ left d0 → Lowers left is_stuck false (left d) said
      → ((x : A) (after : D) → Ready after → left d0 ≤ left after + (used + most) → left after ≤ left d0 → seen after ≡ [] → Good x → To d0 (go x after))
      → Answered left seen Ready d most (seen d) Good said → To d0 (on_answer said go)
  started d0 d used most Good _ go none le few more low h (Tells x after r l s good) = h x after r (omega arith) (omega arith) (s ∙ none) good
  started d0 d used most Good _ go none le few more low h (Lacks after l front) =
      Stops after 0 (front.0, ap (map told) none_called ∙ sym none ∙ front.1) (λ k e over. bounded (left d0) (rate t * cost) k (omega arith))

  begun_course : (d0 d : D) (next : Next S D) → left d0 ≤ left d + 2 * cost → ((w : Driver S) (x : D) → next ≡ Goes_on w x → ⊥)
      → Follows left seen Ready told states t Is Known cost items (3 + extra t) (first t items) d next → To d0 next
  begun_course d0 d _ le never (course.Goes w x b n s l h) = absurd (never w x refl)
  begun_course d0 d _ le never (course.Comes e x m so calls) = Comes e x m so calls
  begun_course d0 d _ le never (course.Stops x m front bound) = Stops x m front (λ k e h. run_bound (left d0) (left d) cost (extra t) k le (bound k e h))

  -- a run from no calls comes where the machine comes
  pub run_follows : (d : D) → Ready d → seen d ≡ [] → To d (run answers (suc (left d)) items d)
  run_follows d r none =
      started d d 0 cost (λ x. x ≡ Default) (answers Start_location d) _ none (omega arith) (omega arith) (omega arith) (law Start_location d)
      (λ a x rx lx mx sx is_a. started d x cost cost (λ s. s ≡ pos 0) (answers Start_state x) _ sx (omega arith) (omega arith) mx (law Start_state x)
      (λ s y ry ly my sy is_s. subst (λ (a : Loc). To d (turns answers (suc (left d)) (driver.first answers items a s) y)) (sym is_a)
      (subst (λ (s : ℤ). To d (turns answers (suc (left d)) (driver.first answers items Default s) y)) (sym is_s)
      (begun_course d y _ (omega arith) (λ w z e. never_on answers left is_stuck law (suc (left d)) (driver.first answers items Default (pos 0)) y w z (omega arith) e)
      (turns_follow answers left seen Ready told over_tables Is Known cost by trial items known (suc (left d)) (driver.first answers items Default (pos 0)) y (first t items) (record {
        stack = 0 ∷ [];
        symbols = [];
        mine = [];
        triples = [];
        calls = [];
        taken = 0;
        phase = Parses None;
        last = Default;
        driver = refl;
        machine = refl;
        path = path_first states;
        alike = none_alike Is;
        fits = tt;
        is_ready = ry;
        called = sy;
      })))))
      (by.start_state x rx))
      (by.start_location d r)
