-- One turn of a trial says what the machine's look says.
use Rattle.std.proofs.Common.{◌≡◌, ◌⊎◌, ℕ, ◌-◌, ◌<◌, ◌≤◌, ℤ, pos, Bool, true, false, List, [], ◌∷◌, ◌++◌, length, map, take, Option, Some, None, refl, sym, ap, ◌∙◌, subst, ⊎_elim, arith}
use Rattle.std.specs.Prelude.{slice_get, if◌then◌else◌}
use Rattle.std.specs.Option.{option_map}
use Rattle.std.proofs.lemmas.List.{length-map, length-take-le, map-append, take-map}
use Rattle.std.proofs.lemmas.Option.{slice_get-map, slice_get_within}
use Rattle.lp_core.specs.declared.value.StateType.{StateType}
use Rattle.lp_core.specs.declared.value.Tag.TheVariants as tag
use Rattle.lp_core.specs.Numbers.{number, index, truth, fitting}
use Rattle.lp_core.specs.Reading.{empty}
use Rattle.lp_core.specs.Store.{Program, UserCall}
use Rattle.lp_core.specs.Effect.{unit}
use Rattle.lp_core.specs.Val.{Val}
use Rattle.lp_repr.specs.declared.lr1.Lr1State.{Lr1State}
use Rattle.lp_repr.specs.declared.repr.Grammar.{Grammar}
use Rattle.lp_driver.specs.DriverState.{last_of}
use Rattle.lp_machine.specs.declared.lookup.Act.{Act}
use Rattle.lp_machine.specs.declared.lookup.Act.TheVariants.{Shift, ReduceBy, NoAction}
use Rattle.lp_machine.specs.declared.lookup.Rule.{Rule}
use Rattle.lp_machine.specs.declared.verdict.Verdict.{Verdict}
use Rattle.lp_machine.specs.declared.verdict.Verdict.TheVariants.{Yes, No, GoesOn}
use Rattle.lp_machine.specs.ExpectedList.{action_on, goto_from, pushed, reduced_stack, verdict_by_rule, verdict_by, verdict}
use Rattle.lp_machine.specs.ReductionSpan.{below}
use Rattle.lp_machine.specs.Tables.{Tables}
use Rattle.lp_turn_laws.specs.Alike.Answered.{entry}
use Rattle.lp_code_laws.specs.Ends.Ends.{Eval, Giving, Returning, EndsIn}
use Rattle.lp_turn_laws.specs.Paths.Over.{IsOver}
use Rattle.lp_turn_laws.specs.Paths.Standing.{IsOnPath}
use Rattle.lp_turn_laws.specs.Paths.Walks.{end_of}
use Rattle.lp_turn_laws.proofs.Paths.Over.{trial_leads_on}
use Rattle.lp_turn_laws.proofs.Paths.Stacks.{path_top}
use Rattle.lp_question_laws.proofs.Expected.Lines.{Written, GivesAtOnce, turn, trial_at, less, reduction}
use Rattle.lp_question_laws.proofs.Expected.Turns.{turn_refuses, turn_shifts, turn_accepts, turn_goes_on}

-- what a simulated reduction by a rule is
abbrev pub simulated_val : Rule → Val
simulated_val rule = if rule.is_start then empty tag.Accept else reduction rule.length rule.nonterminal

-- a program looks up what a trial asks for, as the tables have it, by three functions
pub record HasLookUps (p : Program) (kind : StateType) (states : List Lr1State) (t : Tables) (action simulate goto : ℕ) : Type 0 where
  pub holds : (stack : List ℕ) (q : ℕ) → IsOnPath states stack → last_of stack ≡ Some q → fitting kind (pos q) ≡ Some (pos q)
  pub acts : (stack : List ℕ) (q i : ℕ) → IsOnPath states stack → last_of stack ≡ Some q → i < length t.names → GivesAtOnce p action (number kind (pos q) ∷ index i ∷ []) (number kind (entry (t.action q i)))
  pub numbers : (n : ℕ) (rule : Rule) → t.rule n ≡ Some rule → (fitting kind (less n) ≡ Some (less n)) × (fitting kind (pos n) ≡ Some (pos n))
  pub simulates : (stack : List ℕ) (q i n : ℕ) (rule : Rule) → IsOnPath states stack → last_of stack ≡ Some q → t.action q i ≡ ReduceBy n → t.rule n ≡ Some rule → GivesAtOnce p simulate (number kind (pos n) ∷ []) (simulated_val rule)
  pub leads : (q n to : ℕ) → t.goto q n ≡ Some to → (fitting kind (pos q) ≡ Some (pos q)) × GivesAtOnce p goto (number kind (pos q) ∷ index n ∷ []) (number kind (pos to))

-- ---- states as numbers
-- the last of a list is there
pub last_some : {A : Type 0} (xs : List A) (x : A) → last_of xs ≡ Some x → 1 ≤ length xs
last_some xs x is = let within : length xs - 1 < length xs = slice_get_within xs (length xs - 1) x is in omega arith

pub last_mapped : (xs : List ℕ) (k x : ℕ) → slice_get xs k ≡ Some x → slice_get (map pos xs) k ≡ Some (pos x)
last_mapped xs k x is = slice_get-map pos xs k ∙ ap (option_map pos) is

-- the stack that a reduction leaves
pub record Left (stack : List ℕ) (n under : ℕ) : Type 0 where
  pub few : n ≤ length (map pos stack)
  pub some : 1 ≤ length (map pos stack) - n
  pub at : slice_get (take (length (map pos stack) - n) (map pos stack)) (length (map pos stack) - n - 1) ≡ Some (pos under)

pub left_stack : (stack : List ℕ) (n under : ℕ) → last_of (below n stack) ≡ Some under → Left stack n under
left_stack stack n under top =
    let many : length (map pos stack) ≡ length stack = length-map stack pos in
    let kept : length (below n stack) ≡ length stack - n = length-take-le (length stack - n) stack (omega arith) in
    let some : 1 ≤ length (below n stack) = last_some (below n stack) under top in
    record {
      few = omega arith;
      some = omega arith;
      at = ap (λ (k : ℕ). slice_get (take (k - n) (map pos stack)) (k - n - 1)) many
          ∙ ap (λ (l : List ℤ). slice_get l (length stack - n - 1)) (take-map pos (length stack - n) stack)
          ∙ last_mapped (below n stack) (length stack - n - 1) under (ap (λ (k : ℕ). slice_get (below n stack) (k - 1)) (sym kept) ∙ top);
    }

pub pushed_stack : (stack : List ℕ) (n to : ℕ) → take (length (map pos stack) - n) (map pos stack) ++ pos to ∷ [] ≡ map pos (below n stack ++ to ∷ [])
pushed_stack stack n to =
    ap (λ (k : ℕ). take (k - n) (map pos stack) ++ pos to ∷ []) (length-map stack pos)
    ∙ ap (λ (l : List ℤ). l ++ pos to ∷ []) (take-map pos (length stack - n) stack)
    ∙ sym (map-append pos (below n stack) (to ∷ []))

-- what a trial that reduces comes to
abbrev pub Leads : List Lr1State → Verdict → Type 0
Leads states v = (v ≡ Yes) ⊎ ((next : List ℕ) × (v ≡ GoesOn next) × IsOnPath states next)

pub never_no : (states : List Lr1State) → Leads states No → ⊥
never_no states h = ⊎_elim (λ (e : No ≡ Yes). (let bad : No ≡ Yes = e in cc)) (λ (w : (next : List ℕ) × (No ≡ GoesOn next) × IsOnPath states next). (let bad : No ≡ GoesOn w.0 = w.1 in cc)) h

pub path_after : (states : List Lr1State) (stack : List ℕ) → Leads states (GoesOn stack) → IsOnPath states stack
path_after states stack h =
    ⊎_elim (λ (e : GoesOn stack ≡ Yes). absurd (let bad : GoesOn stack ≡ Yes = e in cc))
    (λ (w : (next : List ℕ) × (GoesOn stack ≡ GoesOn next) × IsOnPath states next). (let same : w.0 ≡ stack = (let e : GoesOn stack ≡ GoesOn w.0 = w.1 in cc) in subst (IsOnPath states) same w.2)) h

module _ {g : Grammar} {start : ℕ} {states : List Lr1State} {t : Tables} (over : IsOver g start states t) {p : Program} {kind : StateType} {action simulate goto : ℕ} (code : HasLookUps p kind states t action simulate goto)
    (eof : ℕ) (own : List ℤ) (i : ℕ) (known : i < length t.names) (so_far : List UserCall) where
  -- a turn that ends the trial
  pub record Answers (w : Written) (stack : List ℕ) (b : Bool) : Type 0 where
    pub steps : ℕ
    pub few : steps ≤ 2
    pub after : Written
    pub ends : EndsIn p (Eval (turn kind eof action simulate goto)) (trial_at own i so_far w (map pos stack)) steps (Returning (truth b) (trial_at own i so_far after (map pos stack)))

  -- and one that goes on
  pub record Moves (w : Written) (stack next : List ℕ) : Type 0 where
    pub after : Written
    pub path : IsOnPath states next
    pub ends : EndsIn p (Eval (turn kind eof action simulate goto)) (trial_at own i so_far w (map pos stack)) 3 (Giving unit (trial_at own i so_far after (map pos next)))

  copy_as : (w after : Written) (stack : List ℕ) (l next : List ℤ) → EndsIn p (Eval (turn kind eof action simulate goto)) (trial_at own i so_far w (map pos stack)) 3 (Giving unit (trial_at own i so_far after l)) → l ≡ next
      → EndsIn p (Eval (turn kind eof action simulate goto)) (trial_at own i so_far w (map pos stack)) 3 (Giving unit (trial_at own i so_far after next))
  copy_as w after stack l next h same = subst (λ (r : List ℤ). EndsIn p (Eval (turn kind eof action simulate goto)) (trial_at own i so_far w (map pos stack)) 3 (Giving unit (trial_at own i so_far after r))) same h

  -- what a turn does, by what the look says
  abbrev pub Does : Written → List ℕ → Verdict → Type 0
  Does w stack Yes = Answers w stack true
  Does w stack No = Answers w stack false
  Does w stack (GoesOn next) = Moves w stack next

  module _ (w : Written) (stack : List ℕ) (path : IsOnPath states stack) (q : ℕ) (top : last_of stack ≡ Some q) where
    some : 1 ≤ length (map pos stack)
    some = (let many : length (map pos stack) ≡ length stack = length-map stack pos in let is : 1 ≤ length stack = last_some stack q top in omega arith)

    last : slice_get (map pos stack) (length (map pos stack) - 1) ≡ Some (pos q)
    last = last_mapped stack (length (map pos stack) - 1) q (ap (λ (k : ℕ). slice_get stack (k - 1)) (length-map stack pos) ∙ top)

    fits : fitting kind (pos q) ≡ Some (pos q)
    fits = code.holds stack q path top

    acts_as : (act : Act) → t.action q i ≡ act → GivesAtOnce p action (number kind (pos q) ∷ index i ∷ []) (number kind (entry act))
    acts_as act is = subst (λ (a : Act). GivesAtOnce p action (number kind (pos q) ∷ index i ∷ []) (number kind (entry a))) is (code.acts stack q i path top known)

    module _ (n : ℕ) (is : t.action q i ≡ ReduceBy n) (rule : Rule) (found : t.rule n ≡ Some rule) where
      accepts : rule.is_start ≡ true → Answers w stack true
      accepts starts =
          let fit = code.numbers n rule found in
          let simulated : GivesAtOnce p simulate (number kind (pos n) ∷ []) (empty tag.Accept) =
          subst (λ (b : Bool). GivesAtOnce p simulate (number kind (pos n) ∷ []) (if b then empty tag.Accept else reduction rule.length rule.nonterminal)) starts (code.simulates stack q i n rule path top is found) in
          record {
            steps = 2;
            few = omega arith;
            after = _;
            ends = turn_accepts kind own i so_far eof action simulate goto w (map pos stack) (pos q) some last fits n fit.0 fit.1 (acts_as (ReduceBy n) is) simulated;
          }

      goes_on : rule.is_start ≡ false → (under to : ℕ) → last_of (below rule.length stack) ≡ Some under → t.goto under rule.nonterminal ≡ Some to → IsOnPath states (below rule.length stack ++ to ∷ []) → Moves w stack (below rule.length stack ++ to ∷ [])
      goes_on other under to top_under leads next_path =
          let fit = code.numbers n rule found in
          let left = left_stack stack rule.length under top_under in
          let lead = code.leads under rule.nonterminal to leads in
          let simulated : GivesAtOnce p simulate (number kind (pos n) ∷ []) (reduction rule.length rule.nonterminal) =
          subst (λ (b : Bool). GivesAtOnce p simulate (number kind (pos n) ∷ []) (if b then empty tag.Accept else reduction rule.length rule.nonterminal)) other (code.simulates stack q i n rule path top is found) in
          record {
            after = _;
            path = next_path;
            ends = copy_as w _ stack _ (map pos (below rule.length stack ++ to ∷ []))
                (turn_goes_on kind own i so_far eof action simulate goto w (map pos stack) (pos q) some last fits n fit.0 fit.1 (acts_as (ReduceBy n) is) rule.length rule.nonterminal (pos under) (pos to) left.few left.some left.at lead.0 simulated lead.1)
                (pushed_stack stack rule.length to);
          }

      by_goto : rule.is_start ≡ false → (u o : Option ℕ) → last_of (below rule.length stack) ≡ u → goto_from t u rule.nonterminal ≡ o → Leads states (pushed t (below rule.length stack) o) → Does w stack (pushed t (below rule.length stack) o)
      by_goto other u None top_under leads h = absurd (never_no states h)
      by_goto other None (Some to) top_under leads h = absurd cc
      by_goto other (Some under) (Some to) top_under leads h = goes_on other under to top_under leads (path_after states (below rule.length stack ++ to ∷ []) h)

      by_start : (b : Bool) → rule.is_start ≡ b → Leads states (if b then Yes else reduced_stack t stack rule) → Does w stack (if b then Yes else reduced_stack t stack rule)
      by_start true starts h = accepts starts
      by_start false other h = by_goto other (last_of (below rule.length stack)) (goto_from t (last_of (below rule.length stack)) rule.nonterminal) refl refl h

    by_rule : (n : ℕ) → t.action q i ≡ ReduceBy n → (o : Option Rule) → t.rule n ≡ o → Leads states (verdict_by_rule t stack o) → Does w stack (verdict_by_rule t stack o)
    by_rule n is None found h = absurd (never_no states h)
    by_rule n is (Some rule) found h = by_start n is rule found rule.is_start refl h

    by_act : (act : Act) → t.action q i ≡ act → verdict t stack (Some i) ≡ verdict_by t stack act → Does w stack (verdict_by t stack act)
    by_act NoAction is same = record { steps = 1; few = omega arith; after = _; ends = turn_refuses kind own i so_far eof action simulate goto w (map pos stack) (pos q) some last fits (acts_as NoAction is) }
    by_act (Shift to) is same = record { steps = 1; few = omega arith; after = _; ends = turn_shifts kind own i so_far eof action simulate goto w (map pos stack) (pos q) some last fits to (acts_as (Shift to) is) }
    by_act (ReduceBy n) is same =
        by_rule n is (t.rule n) refl (subst (Leads states) same (trial_leads_on over stack (Some i) n path (ap (λ (o : Option ℕ). action_on t o (Some i)) top ∙ is)))

  -- a turn does what the look says
  pub does : (w : Written) (stack : List ℕ) → IsOnPath states stack → Does w stack (verdict t stack (Some i))
  does w stack path =
      let q = end_of 0 (path.1).rest in
      let top : last_of stack ≡ Some q = path_top states stack path.0 path.1 in
      let same : verdict t stack (Some i) ≡ verdict_by t stack (t.action q i) = ap (λ (o : Option ℕ). verdict_by t stack (action_on t o (Some i))) top in
      subst (Does w stack) (sym same) (by_act w stack path q top (t.action q i) refl same)
