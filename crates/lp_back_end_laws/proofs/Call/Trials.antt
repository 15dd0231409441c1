-- A trial of recursive ascent says what the machine's looks say.
use Rattle.std.proofs.Common.{◌≡◌, ℕ, zero, suc, ◌+◌, ◌-◌, ◌*◌, ◌<◌, ◌≤◌, ℤ, pos, Bool, true, false, List, [], ◌∷◌, ◌++◌, length, map, take, Option, Some, None, refl, sym, ap, ◌∙◌, subst, arith}
use Rattle.std.specs.Prelude.{slice_get, if◌then◌else◌}
use Rattle.std.proofs.lemmas.List.{length-map, length-take-le}
use Rattle.lp_core.specs.declared.value.StateType.{StateType}
use Rattle.lp_core.specs.declared.value.Tag.TheVariants as tag
use Rattle.lp_core.specs.Numbers.{number, index, truth, fitting}
use Rattle.lp_core.specs.Reading.{empty, wrapped}
use Rattle.lp_core.specs.Store.{Program}
use Rattle.lp_core.specs.Effect.{unit}
use Rattle.lp_core.specs.Tree.{Loop}
use Rattle.lp_core.specs.Val.{Val}
use Rattle.lp_repr.specs.declared.lr1.Lr1State.{Lr1State}
use Rattle.lp_repr.specs.declared.repr.Grammar.{Grammar}
use Rattle.lp_driver.specs.DriverState.{last_of}
use Rattle.lp_machine.specs.declared.lookup.Act.{Act}
use Rattle.lp_machine.specs.declared.lookup.Act.TheVariants.{Shift, ReduceBy, NoAction}
use Rattle.lp_machine.specs.declared.lookup.Rule.{Rule}
use Rattle.lp_machine.specs.declared.verdict.Verdict.{Verdict}
use Rattle.lp_machine.specs.declared.verdict.Verdict.TheVariants.{Yes, No, GoesOn}
use Rattle.lp_machine.specs.ExpectedList.{action_on, goto_from, pushed, reduced_stack, verdict_by_rule, verdict_by, verdict}
use Rattle.lp_machine.specs.ReductionSpan.{below}
use Rattle.lp_machine.specs.Tables.{Tables}
use Rattle.lp_turn_laws.specs.Alike.Answered.{entry}
use Rattle.lp_code_laws.specs.Ends.Cut.{Cut}
use Rattle.lp_code_laws.specs.Ends.Ends.{Eval, Giving, Returning, EndsIn}
use Rattle.lp_code_laws.proofs.Ends.Cuts.{cut_loop, cut_turns}
use Rattle.lp_code_laws.proofs.Ends.Loops as loops
use Rattle.lp_turn_laws.specs.Paths.Over.{IsOver}
use Rattle.lp_turn_laws.specs.Paths.Standing.{IsOnPath}
use Rattle.lp_turn_laws.specs.Paths.Walks.{end_of}
use Rattle.lp_turn_laws.proofs.Paths.Over.{trial_leads_on}
use Rattle.lp_turn_laws.proofs.Paths.Stacks.{path_top}
use Rattle.lp_question_laws.specs.Expected.Trials.{Tried, Tries}
use Rattle.lp_question_laws.proofs.Expected.Lines.{GivesAtOnce, less}
use Rattle.lp_question_laws.proofs.Expected.Verdicts.{last_some, last_mapped, left_stack, pushed_stack, Leads, never_no, path_after}
use Rattle.lp_back_end_laws.proofs.Call.TrialTurns.{Written, Trial, trial_at, turn, reduction, turn_refuses, turn_shifts, turn_accepts, turn_goes_on}

-- what a simulated reduction by a rule is
abbrev pub simulated_val : Rule → Val
simulated_val rule = if rule.is_start then empty tag.Absent else wrapped tag.Present (reduction rule.length rule.nonterminal)

-- a program looks up what a trial asks for, as the tables have it, by three functions
pub record HasLookUps (p : Program) (kind : StateType) (states : List Lr1State) (t : Tables) (action simulate goto : ℕ) : Type 0 where
  pub holds : (stack : List ℕ) (q : ℕ) → IsOnPath states stack → last_of stack ≡ Some q → fitting kind (pos q) ≡ Some (pos q)
  pub acts : (stack : List ℕ) (q i : ℕ) → IsOnPath states stack → last_of stack ≡ Some q → i < length t.names → GivesAtOnce p action (number kind (pos q) ∷ index i ∷ []) (number kind (entry (t.action q i)))
  pub numbers : (n : ℕ) (rule : Rule) → t.rule n ≡ Some rule → (fitting kind (less n) ≡ Some (less n)) × (fitting kind (pos n) ≡ Some (pos n))
  pub simulates : (stack : List ℕ) (q i n : ℕ) (rule : Rule) → IsOnPath states stack → last_of stack ≡ Some q → t.action q i ≡ ReduceBy n → t.rule n ≡ Some rule → GivesAtOnce p simulate (number kind (pos n) ∷ []) (simulated_val rule)
  pub leads : (q n to : ℕ) → t.goto q n ≡ Some to → (fitting kind (pos q) ≡ Some (pos q)) × GivesAtOnce p goto (number kind (pos q) ∷ index n ∷ []) (number kind (pos to))

module _ {g : Grammar} {start : ℕ} {states : List Lr1State} {t : Tables} (over : IsOver g start states t) {p : Program} {kind : StateType} {action simulate goto : ℕ} (code : HasLookUps p kind states t action simulate goto)
    (r : Trial) (known : r.terminal < length t.names) where
  -- a turn that ends the trial
  pub record Answers (w : Written) (stack : List ℕ) (b : Bool) : Type 0 where
    pub steps : ℕ
    pub few : steps ≤ 2
    pub after : Written
    pub ends : EndsIn p (Eval (turn kind action simulate goto)) (trial_at r w (map pos stack)) steps (Returning (truth b) (trial_at r after (map pos stack)))

  -- and one that goes on
  pub record Moves (w : Written) (stack next : List ℕ) : Type 0 where
    pub after : Written
    pub path : IsOnPath states next
    pub ends : EndsIn p (Eval (turn kind action simulate goto)) (trial_at r w (map pos stack)) 3 (Giving unit (trial_at r after (map pos next)))

  copy_as : (w after : Written) (stack : List ℕ) (l next : List ℤ) → EndsIn p (Eval (turn kind action simulate goto)) (trial_at r w (map pos stack)) 3 (Giving unit (trial_at r after l)) → l ≡ next
      → EndsIn p (Eval (turn kind action simulate goto)) (trial_at r w (map pos stack)) 3 (Giving unit (trial_at r after next))
  copy_as w after stack l next h same = subst (λ (xs : List ℤ). EndsIn p (Eval (turn kind action simulate goto)) (trial_at r w (map pos stack)) 3 (Giving unit (trial_at r after xs))) same h

  -- what a turn does, by what the look says
  abbrev pub Does : Written → List ℕ → Verdict → Type 0
  Does w stack Yes = Answers w stack true
  Does w stack No = Answers w stack false
  Does w stack (GoesOn next) = Moves w stack next

  module _ (w : Written) (stack : List ℕ) (path : IsOnPath states stack) (q : ℕ) (top : last_of stack ≡ Some q) where
    some : 1 ≤ length (map pos stack)
    some = (let many : length (map pos stack) ≡ length stack = length-map stack pos in let is : 1 ≤ length stack = last_some stack q top in omega arith)

    last : slice_get (map pos stack) (length (map pos stack) - 1) ≡ Some (pos q)
    last = last_mapped stack (length (map pos stack) - 1) q (ap (λ (k : ℕ). slice_get stack (k - 1)) (length-map stack pos) ∙ top)

    fits : fitting kind (pos q) ≡ Some (pos q)
    fits = code.holds stack q path top

    acts_as : (act : Act) → t.action q r.terminal ≡ act → GivesAtOnce p action (number kind (pos q) ∷ index r.terminal ∷ []) (number kind (entry act))
    acts_as act is = subst (λ (a : Act). GivesAtOnce p action (number kind (pos q) ∷ index r.terminal ∷ []) (number kind (entry a))) is (code.acts stack q r.terminal path top known)

    module _ (n : ℕ) (is : t.action q r.terminal ≡ ReduceBy n) (rule : Rule) (found : t.rule n ≡ Some rule) where
      simulates_as : (b : Bool) → rule.is_start ≡ b → GivesAtOnce p simulate (number kind (pos n) ∷ []) (if b then empty tag.Absent else wrapped tag.Present (reduction rule.length rule.nonterminal))
      simulates_as b e = subst (λ (s : Bool). GivesAtOnce p simulate (number kind (pos n) ∷ []) (if s then empty tag.Absent else wrapped tag.Present (reduction rule.length rule.nonterminal))) e (code.simulates stack q r.terminal n rule path top is found)

      accepts : rule.is_start ≡ true → Answers w stack true
      accepts starts =
          let fit = code.numbers n rule found in
          record {
            steps = 2;
            few = omega arith;
            after = _;
            ends = turn_accepts kind r action simulate goto w (map pos stack) (pos q) some last fits n fit.0 fit.1 (acts_as (ReduceBy n) is) (simulates_as true starts);
          }

      goes_on : rule.is_start ≡ false → (under to : ℕ) → last_of (below rule.length stack) ≡ Some under → t.goto under rule.nonterminal ≡ Some to → IsOnPath states (below rule.length stack ++ to ∷ []) → Moves w stack (below rule.length stack ++ to ∷ [])
      goes_on other under to top_under leads next_path =
          let fit = code.numbers n rule found in
          let l = map pos stack in
          let left = left_stack stack rule.length under top_under in
          let lead = code.leads under rule.nonterminal to leads in
          let kept : length (take (length l - rule.length) l) ≡ length l - rule.length = length-take-le (length l - rule.length) l (omega arith) in
          record {
            after = _;
            path = next_path;
            ends = copy_as w _ stack _ (map pos (below rule.length stack ++ to ∷ []))
                (turn_goes_on kind r action simulate goto w l (pos q) some last fits n fit.0 fit.1 (acts_as (ReduceBy n) is) rule.length rule.nonterminal (pos under) (pos to) left.few (omega (arith, kept, left.some))
                (ap (λ (k : ℕ). slice_get (take (length l - rule.length) l) (k - 1)) kept ∙ left.at) lead.0 (simulates_as false other) lead.1)
                (pushed_stack stack rule.length to);
          }

      by_goto : rule.is_start ≡ false → (u o : Option ℕ) → last_of (below rule.length stack) ≡ u → goto_from t u rule.nonterminal ≡ o → Leads states (pushed t (below rule.length stack) o) → Does w stack (pushed t (below rule.length stack) o)
      by_goto other u None top_under leads h = absurd (never_no states h)
      by_goto other None (Some to) top_under leads h = absurd cc
      by_goto other (Some under) (Some to) top_under leads h = goes_on other under to top_under leads (path_after states (below rule.length stack ++ to ∷ []) h)

      by_start : (b : Bool) → rule.is_start ≡ b → Leads states (if b then Yes else reduced_stack t stack rule) → Does w stack (if b then Yes else reduced_stack t stack rule)
      by_start true starts h = accepts starts
      by_start false other h = by_goto other (last_of (below rule.length stack)) (goto_from t (last_of (below rule.length stack)) rule.nonterminal) refl refl h

    by_rule : (n : ℕ) → t.action q r.terminal ≡ ReduceBy n → (o : Option Rule) → t.rule n ≡ o → Leads states (verdict_by_rule t stack o) → Does w stack (verdict_by_rule t stack o)
    by_rule n is None found h = absurd (never_no states h)
    by_rule n is (Some rule) found h = by_start n is rule found rule.is_start refl h

    by_act : (act : Act) → t.action q r.terminal ≡ act → verdict t stack (Some r.terminal) ≡ verdict_by t stack act → Does w stack (verdict_by t stack act)
    by_act NoAction is same = record { steps = 1; few = omega arith; after = _; ends = turn_refuses kind r action simulate goto w (map pos stack) (pos q) some last fits (acts_as NoAction is) }
    by_act (Shift to) is same = record { steps = 1; few = omega arith; after = _; ends = turn_shifts kind r action simulate goto w (map pos stack) (pos q) some last fits to (acts_as (Shift to) is) }
    by_act (ReduceBy n) is same =
        by_rule n is (t.rule n) refl (subst (Leads states) same (trial_leads_on over stack (Some r.terminal) n path (ap (λ (o : Option ℕ). action_on t o (Some r.terminal)) top ∙ is)))

  -- a turn does what the look says
  pub does : (w : Written) (stack : List ℕ) → IsOnPath states stack → Does w stack (verdict t stack (Some r.terminal))
  does w stack path =
      let q = end_of 0 (path.1).rest in
      let top : last_of stack ≡ Some q = path_top states stack path.0 path.1 in
      let same : verdict t stack (Some r.terminal) ≡ verdict_by t stack (t.action q r.terminal) = ap (λ (o : Option ℕ). verdict_by t stack (action_on t o (Some r.terminal))) top in
      subst (Does w stack) (sym same) (by_act w stack path q top (t.action q r.terminal) refl same)

  -- ---- the loop
  -- a trial that ends
  pub record Ends (w : Written) (stack : List ℕ) (k : ℕ) (b : Bool) : Type 0 where
    pub steps : ℕ
    pub few : steps ≤ 4 * k + 3
    pub many : suc k ≤ steps
    pub after : Written
    pub copy : List ℤ
    pub ends : EndsIn p (Eval (Loop (turn kind action simulate goto))) (trial_at r w (map pos stack)) steps (Returning (truth b) (trial_at r after copy))

  -- and one that is spent after at least so many steps
  pub record Stops (w : Written) (stack : List ℕ) (n : ℕ) : Type 0 where
    pub steps : ℕ
    pub many : n ≤ steps
    pub cut : Cut p (Eval (Loop (turn kind action simulate goto))) (trial_at r w (map pos stack)) steps r.calls

  ends_now : (w : Written) (stack : List ℕ) (b : Bool) → Answers w stack b → Ends w stack 0 b
  ends_now w stack b a = record { steps = suc a.steps; few = omega (arith, a.few); many = omega arith; after = a.after; copy = map pos stack; ends = loops.last_turn a.ends }

  answers_by : (w : Written) (stack : List ℕ) (b : Bool) → Does w stack (if b then Yes else No) → Answers w stack b
  answers_by w stack true a = a
  answers_by w stack false a = a

  ends_later : (w : Written) (stack next : List ℕ) (k : ℕ) (b : Bool) (m : Moves w stack next) → Ends m.after next k b → Ends w stack (suc k) b
  ends_later w stack next k b m e = record { steps = suc (suc (suc (suc e.steps))); few = omega (arith, e.few); many = omega (arith, e.many); after = e.after; copy = e.copy; ends = loops.turn m.ends e.ends }

  moves : (w : Written) (stack next : List ℕ) → IsOnPath states stack → verdict t stack (Some r.terminal) ≡ GoesOn next → Moves w stack next
  moves w stack next path is = subst (Does w stack) is (does w stack path)

  pub trial_ends : (w : Written) (stack : List ℕ) (k : ℕ) (b : Bool) → IsOnPath states stack → Tried t r.terminal k stack b → Ends w stack k b
  trial_ends w stack zero b path tried = ends_now w stack b (answers_by w stack b (subst (Does w stack) tried (does w stack path)))
  trial_ends w stack (suc k) b path tried =
      let m = moves w stack tried.0 path tried.1 in
      ends_later w stack tried.0 k b m (trial_ends m.after tried.0 k b m.path tried.2)

  pub trial_stops : (w : Written) (stack : List ℕ) (n : ℕ) → IsOnPath states stack → Tries t r.terminal n stack → Stops w stack n
  trial_stops w stack zero path tries = record { steps = 0; many = omega arith; cut = cut_loop }
  trial_stops w stack (suc n) path tries =
      let m = moves w stack tries.0 path tries.1 in
      let rest = trial_stops m.after tries.0 n m.path tries.2 in
      record { steps = suc (suc (suc (suc rest.steps))); many = omega (arith, rest.many); cut = cut_turns m.ends rest.cut }
