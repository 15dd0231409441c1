-- A call of the function that reduces, from what the arm of a production does.
use Rattle.std.proofs.Common.{◌≡◌, ℕ, suc, ◌+◌, ◌-◌, ◌<◌, ◌≤◌, ℤ, Bool, true, false, List, [], ◌∷◌, ◌++◌, length, Some, Result, Ok, Err, refl, sym, ap, subst, ◌∙◌, arith, codes, length-append}
use Rattle.std.specs.Prelude.{slice_get, slice_set, take, replicate}
use Rattle.std.proofs.lemmas.List.{length-replicate}
use Rattle.lp_repr.specs.declared.values.Loc.{Loc}
use Rattle.lp_driver.specs.Values.{Spanned, Value, Failure}
use Rattle.lp_core.specs.declared.value.StateType.{StateType}
use Rattle.lp_core.specs.declared.value.Tag.TheVariants as tag
use Rattle.lp_core.specs.CellMeaning.{last_in}
use Rattle.lp_core.specs.Datum.{Cell, Unset}
use Rattle.lp_core.specs.Effect.{write_over}
use Rattle.lp_core.specs.Flow.{over_store}
use Rattle.lp_core.specs.Eval.{run}
use Rattle.lp_core.specs.Numbers.{index, number, typed}
use Rattle.lp_core.specs.Reading.{empty}
use Rattle.lp_core.specs.Store.{Program, UserCall}
use Rattle.lp_core.specs.Tree.{Tree}
use Rattle.lp_core.specs.Val.{Val, Plain}
use Rattle.lp_maker.specs.Constructs.{stuck}
use Rattle.lp_maker.specs.Slots.{Names}
use Rattle.lp_maker.specs.Making.{Making, number_in, read_name}
use Rattle.lp_bodies.specs.Arms.{Gathered, choice}
use Rattle.lp_bodies.specs.Reductions.{reduce_with}
use Rattle.lp_code_laws.specs.Ends.Ends.{Moment, at, steps, Eval, Enter, Outcome, Giving, Returning, EndsIn}
use Rattle.lp_code_laws.specs.Ends.Slots.{HasSlots}
use Rattle.lp_code_laws.proofs.Ends.Rules.{follows, block, block_left, apply_left}
use Rattle.lp_code_laws.proofs.Ends.Calls.{enter}
use Rattle.lp_code_laws.proofs.Ends.Lists.{length_set}
use Rattle.lp_code_laws.proofs.Ends.Steps.{steps_are}
use Rattle.lp_code_laws.specs.Slots.Shows.{Shows, Keeps}
use Rattle.lp_code_laws.proofs.Slots.Names.{kept}
use Rattle.lp_code_laws.proofs.Slots.Slots.{get_within, keeps_both, keeps_fewer, keeps_set}
use Rattle.lp_code_laws.proofs.Printed.Lines.{read_shown}
use Rattle.lp_code_laws.proofs.Printed.Reduced.{reduced_ends}
use Rattle.lp_question_laws.proofs.Gotos.Arms.{Arm, picked, settled, arms_run}
use Rattle.lp_question_laws.proofs.Gotos.Arms as arms
use Rattle.lp_question_laws.specs.Reductions.Stacks.{over_two}
use Rattle.lp_question_laws.specs.Reductions.Outcomes.{failed_val, given_val, symbols_after, Ended}
use Rattle.lp_question_laws.proofs.Reductions.Scopes.{Widens, shows_wide}

-- what the call gives, and the states then
abbrev pub answer_val : Bool → Result Value Failure → Val
answer_val starts (Err f) = failed_val f
answer_val true (Ok v) = given_val v
answer_val false (Ok v) = empty tag.Absent

abbrev pub states_after : Bool → Result Value Failure → List ℤ → List ℤ → List ℤ
states_after starts (Err f) ss next = ss
states_after true (Ok v) ss next = ss
states_after false (Ok v) ss next = next

-- the goto under so many states is told by a function
pub record GoesTo (p : Program) (made : Making) (kind : StateType) (ss : List ℤ) (n nonterminal : ℕ) (next : List ℤ) : Type 0 where
  pub tops : List ℤ
  pub top : ℤ
  pub to : ℤ
  pub next_is : next ≡ tops ++ to ∷ []
  pub enough : n ≤ length ss
  pub cut : take (length ss - n) ss ≡ tops
  pub last : last_in tops ≡ Some top
  pub fits : typed kind top ≡ Some (number kind top)
  pub function : ℕ
  pub named : number_in (codes "goto") made.names ≡ Some function
  pub goes : (m : Moment) → EndsIn p (Enter function (number kind top ∷ index nonterminal ∷ [])) m 1 (Giving (number kind to) m)

-- it is told where the reduction goes on
abbrev pub GoesIf : Bool → Result Value Failure → Type 0 → Type 0
GoesIf starts (Err f) Goes = Unit {0}
GoesIf true (Ok v) Goes = Unit {0}
GoesIf false (Ok v) Goes = Goes

-- a call ends so
pub record Answers (p : Program) (f : ℕ) (args env : List Val) (taken : ℕ) (calls later : List UserCall) (ss next : List ℤ) (whole l : List (Spanned Val)) (most : ℕ) (starts : Bool) (result : Result Value Failure) (variant : ℕ) (place : Loc × Loc) : Type 0 where
  pub many : ℕ
  pub few : many ≤ most
  pub ends : EndsIn p (Enter f args) (over_two env taken calls ss whole) many (Giving (answer_val starts result) (over_two env taken later (states_after starts result ss next) (symbols_after starts result variant place l)))

module _ (p : Program) (made : Making) (kind : StateType) (a : Gathered) (f : ℕ) (there : slice_get p.functions f ≡ Some (reduce_with made (Some kind) a)) (args : List Val) (params : a.params ≡ length args) (within : a.params ≤ a.names.next) where
  abbrev pub first : List Val
  first = args ++ replicate ((a.names.next + 1) + 4 - a.params) (Plain Unset)

  abbrev pub chosen : Val → List Val
  chosen v = slice_set first a.names.next v

  first_many : length first ≡ a.names.next + 5
  first_many = omega (arith, length-append args (replicate ((a.names.next + 1) + 4 - a.params) (Plain Unset)), length-replicate ((a.names.next + 1) + 4 - a.params) (Plain Unset), params, within)

  has : (env : List Val) (i : ℕ) → length env ≡ length first → i < a.names.next + 5 → (old : Val) × (slice_get env i ≡ Some old)
  has env i same lt = get_within env i (omega (arith, first_many, same, lt))

  module _ (taken : ℕ) (calls : List UserCall) (ss : List ℤ) (whole : List (Spanned Val)) (i : ℤ) (ms : List Arm) (e : Tree) (shows : arms.Shows a ms) (is : picked p (number kind i) ms stuck ≡ Some e) (action : Shows a.names first (codes "~action") (number kind i)) where
    abbrev v : Val
    v = number kind i

    -- the match goes on with the arm
    matched : {k : ℕ} {o : Outcome} → EndsIn p (Eval e) (over_two (chosen v) taken calls ss whole) k o → EndsIn p (Eval (choice (read_name a.names (codes "~action")) stuck a)) (over_two first taken calls ss whole) k o
    matched {k} {o} h =
        let m = over_two first taken calls ss whole in
        let old = has first a.names.next refl (omega arith) in
        follows p (Eval (choice (read_name a.names (codes "~action")) stuck a)) (Eval (read_name a.names (codes "~action"))) (λ w st. settled p a.names.next w (picked p w ms stuck) st) m m 0 k v o (read_shown action refl)
        (λ st. arms_run p (read_name a.names (codes "~action")) a.names.next stuck a ms st shows)
        (λ left. ap (λ q. settled p a.names.next v q (at m (steps k left))) is ∙ ap (λ q. over_store (at m (steps k left)) (run p e) (write_over a.names.next v m.store q)) old.1 ∙ h.runs left)

    module _ (env : List Val) (later : List UserCall) (l : List (Spanned Val)) (most variant n nonterminal : ℕ) (place : Loc × Loc) (below : ℕ) (header : Names) (wide : Widens header a.names) (low : header.next ≤ below) (states : Shows header first (codes "~states") (Plain (Cell 0))) (next : List ℤ) where
      abbrev Arm_ends : Bool → Result Value Failure → Type 0
      Arm_ends starts result = Ended p e (over_two (chosen v) taken calls ss whole) below (chosen v) taken ss l later most starts result variant n nonterminal place

      abbrev Call_ends : Bool → Result Value Failure → Type 0
      Call_ends starts result = Answers p f args env taken calls later ss next whole l (most + 2) starts result variant place

      -- what returns
      returned : {k : ℕ} {w : Val} {now : List Val} → EndsIn p (Eval e) (over_two (chosen v) taken calls ss whole) k (Returning w (over_two now taken later ss l)) → EndsIn p (Enter f args) (over_two env taken calls ss whole) (suc k) (Giving w (over_two env taken later ss l))
      returned h = enter there params (block (block_left (apply_left (matched h)))) refl

      -- what goes on
      went_on : (w : Value) (h : Arm_ends false (Ok w)) (g : GoesTo p made kind ss n nonterminal next) → Call_ends false (Ok w)
      went_on w h g =
          let pop = a.names.next + 1 in
          let same : length h.now ≡ length first = h.keeps.many ∙ length_set first a.names.next v in
          let o1 = has h.now pop same (omega arith) in
          let o2 = has h.now (pop + 1) same (omega arith) in
          let o3 = has h.now (pop + 2) same (omega arith) in
          let o4 = has h.now (pop + 3) same (omega arith) in
          let slots : HasSlots pop 2 h.now = record { slot = λ i ge lt. has h.now i same (omega arith) } in
          let keeps : Keeps header.next first h.now = keeps_both (keeps_set header.next a.names.next first v wide.next) (keeps_fewer h.keeps low) in
          let shown : Shows a.names h.now (codes "~states") (Plain (Cell 0)) = shows_wide wide (kept states keeps) in
          let l' = symbols_after false (Ok w) variant place l in
          let body = reduced_ends p made a.names kind pop (pop + 2) (pop + 3) g.function (choice (read_name a.names (codes "~action")) stuck a) (over_two first taken calls ss whole) (over_two h.now taken later ss l') h.many 0 n nonterminal ss g.tops g.top g.to o1.0 o2.0 o3.0 o4.0
          (matched h.ends) shown refl g.enough g.cut g.last g.fits g.named g.goes (omega arith) (omega arith) (omega arith) slots o1.1 o2.1 o3.1 o4.1 in
          let ended : EndsIn p (Enter f args) (over_two env taken calls ss whole) (suc (steps h.many 1)) (Giving (empty tag.Absent) (over_two env taken later (g.tops ++ g.to ∷ []) l')) = enter there params body refl in
          record {
            many = suc (steps h.many 1);
            few = omega (arith, h.few, steps_are h.many 1);
            ends = subst (λ (q : List ℤ). EndsIn p (Enter f args) (over_two env taken calls ss whole) (suc (steps h.many 1)) (Giving (empty tag.Absent) (over_two env taken later q l'))) (sym g.next_is) ended;
          }

      pub reduce_called : (starts : Bool) (result : Result Value Failure) → Arm_ends starts result → GoesIf starts result (GoesTo p made kind ss n nonterminal next) → Call_ends starts result
      reduce_called true (Ok w) h g = record { many = suc h.many; few = omega (arith, h.few); ends = returned h.ends }
      reduce_called true (Err x) h g = record { many = suc h.many; few = omega (arith, h.few); ends = returned h.ends }
      reduce_called false (Err x) h g = record { many = suc h.many; few = omega (arith, h.few); ends = returned h.ends }
      reduce_called false (Ok w) h g = went_on w h g
