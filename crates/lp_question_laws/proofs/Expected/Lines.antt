-- The lines of a trial's turn.
use Rattle.std.proofs.Common.{◌≡◌, ℕ, zero, suc, ◌-◌, ◌≤◌, ℤ, pos, negsuc, Bool, true, false, cond, lt-ltb, List, [], ◌∷◌, ◌++◌, length, take, Some, refl, ap, ◌∙◌, arith}
use Rattle.std.specs.Prelude.{slice_get, ◌+ℤ◌, neg_ℤ}
use Rattle.std.specs.Option.{option_map, option_and_then}
use Rattle.lp_core.specs.declared.expr.Join.TheVariants as join
use Rattle.lp_core.specs.declared.expr.Op.{Op}
use Rattle.lp_core.specs.declared.expr.Op.TheVariants as op
use Rattle.lp_core.specs.declared.value.StateType.{StateType}
use Rattle.lp_core.specs.declared.value.Tag.TheVariants as tag
use Rattle.lp_core.specs.Datum.{Unset}
use Rattle.lp_core.specs.Effect.{Gave, unit}
use Rattle.lp_core.specs.OpMeaning.{op_meaning}
use Rattle.lp_core.specs.Numbers.{number, index, index_less, truth, typed, fitting}
use Rattle.lp_core.specs.Reading.{empty, wrapped}
use Rattle.lp_core.specs.Store.{Program, UserCall, States}
use Rattle.lp_core.specs.Tree.{Tree, Apply, Block, trees_of}
use Rattle.lp_core.specs.Val.{Val}
use Rattle.lp_core.specs.Val as val
use Rattle.lp_maker.specs.Constructs.{read, write, joined, call_function, on_option}
use Rattle.lp_bodies.specs.Trials.{answer_if, production_of, last_state, simulated_parts}
use Rattle.lp_turns.specs.Readings.{cell_val}
use Rattle.lp_code_laws.specs.Ends.Ends.{Moment, moment, Eval, Enter, Giving, Returning, EndsIn}
use Rattle.lp_code_laws.proofs.Ends.Cells.{length_states, push_state, truncate_states}
use Rattle.lp_code_laws.proofs.Ends.Calls.{arguments_done, joined_found}
use Rattle.lp_code_laws.proofs.Ends.Calls as calls
use Rattle.lp_code_laws.proofs.Ends.Numbers.{index_down, difference_down}
use Rattle.lp_code_laws.proofs.Ends.Rules.{apply_to, apply_found, argument, call, give_back, if_true, if_false, match_on, first_body, next_body, plain}
use Rattle.lp_code_laws.proofs.Ends.Tags.{on_some}
use Rattle.lp_code_laws.proofs.Ends.Values as values

-- what the slots of a trial hold that its turns write
pub record Written : Type 0 where
  pub count : Val
  pub top : Val
  pub action : Val
  pub token : Val
  pub simulated : Val
  pub pop : Val
  pub nonterminal : Val
  pub under : Val

-- a call of a function on these values is one step, and gives this value, wherever it is made
abbrev pub GivesAtOnce : Program → ℕ → List Val → Val → Type 0
GivesAtOnce p f vs v = (m : Moment) → EndsIn p (Enter f vs) m 1 (Giving v m)

-- the lines of a turn: the look, what ends the trial, what a reduction takes off, and what it pushes
abbrev pub look_lines : StateType → ℕ → ℕ → List Tree
look_lines kind eof action =
    write 4 (Apply op.Length (read 3))
    ∷ write 5 (last_state (Some kind) 3 4)
    ∷ write 6 (on_option (read 2) 7 (Apply (op.Entry eof) (Apply op.AsIndex (read 5))) (call_function action (read 5 ∷ read 7 ∷ [])))
    ∷ []

abbrev pub reduce_lines : StateType → ℕ → ℕ → List Tree
reduce_lines kind simulate goto =
    simulated_parts (call_function simulate (production_of 6 ∷ [])) 8 9
    ∷ write 4 (joined join.Subtract (read 4 ∷ read 9 ∷ []))
    ∷ joined join.Truncate (read 3 ∷ read 4 ∷ [])
    ∷ write 11 (last_state (Some kind) 3 4)
    ∷ joined join.Push (read 3 ∷ call_function goto (read 11 ∷ read 10 ∷ []) ∷ [])
    ∷ []

abbrev pub answer_lines : StateType → ℕ → ℕ → List Tree
answer_lines kind simulate goto = answer_if op.IsZero 6 false ∷ answer_if op.IsPositive 6 true ∷ reduce_lines kind simulate goto

abbrev pub turn : StateType → ℕ → ℕ → ℕ → ℕ → Tree
turn kind eof action simulate goto =
    Block (trees_of (look_lines kind eof action ++ answer_lines kind simulate goto))

-- a trial over a copy of the states that were lent, with its slots
abbrev pub trial_at : List ℤ → ℕ → List UserCall → Written → List ℤ → Moment
trial_at own i so_far w copy = moment (record {
  env = empty tag.Absent ∷ cell_val 0 ∷ wrapped tag.Present (index i) ∷ cell_val 1 ∷ w.count ∷ w.top ∷ w.action ∷ w.token ∷ w.simulated ∷ w.pop ∷ w.nonterminal ∷ w.under ∷ [];
  cells = States own ∷ States copy ∷ [];
  taken = 0;
}) so_far

-- the number of a production, from its entry
abbrev pub less : ℕ → ℤ
less zero = pos zero
less (suc n) = negsuc n

pub one_more : (n : ℕ) → negsuc n +ℤ pos 1 ≡ less n
one_more zero = refl
one_more (suc n) =
    let down : suc (suc n) - 2 ≡ n = omega arith in
    ap (λ (b : Bool). cond b (negsuc (suc (suc n) - 2)) (pos (1 - suc (suc n)))) (lt-ltb 1 (suc (suc n)) (omega arith)) ∙ ap negsuc down

pub turned : (n : ℕ) → neg_ℤ (less n) ≡ pos n
turned zero = refl
turned (suc n) = refl

-- a simulated reduction
abbrev pub reduction : ℕ → ℕ → Val
reduction pop nonterminal = val.Made tag.Reduce (val.more (index pop) (val.more (index nonterminal) val.end))

module _ (kind : StateType) (own : List ℤ) (i : ℕ) (so_far : List UserCall) where
  abbrev there : Written → List ℤ → Moment
  there w l = trial_at own i so_far w l

  module _ {p : Program} where
    -- how many states there are
    pub count_line : (w : Written) (l : List ℤ) → EndsIn p (Eval (write 4 (Apply op.Length (read 3)))) (there w l) 0 (Giving unit (there (record w { count = index (length l) }) l))
    count_line w l = values.write (apply_to (values.read refl refl) (length_states p 1 (there w l).store l refl)) refl

    -- the last of so many
    pub last_ends : (w : Written) (l : List ℤ) (n : ℕ) (s : ℤ) → 1 ≤ n → slice_get l (n - 1) ≡ Some s → fitting kind s ≡ Some s
        → EndsIn p (Eval (last_state (Some kind) 3 4)) (there (record w { count = index n }) l) 0 (Giving (number kind s) (there (record w { count = index n }) l))
    last_ends w l n s some at fits =
        call (argument (values.read refl refl) (argument (apply_found (index_less n 1) (values.read refl refl) refl (index_down n 1 some))
        (joined_found (option_and_then (typed kind) (slice_get l (n - 1))) refl refl (ap (option_and_then (typed kind)) at ∙ ap (option_map (number kind)) fits))))

    -- the action on the terminal
    pub action_line : (eof action : ℕ) (w : Written) (l : List ℤ) (s e : ℤ) → GivesAtOnce p action (number kind s ∷ index i ∷ []) (number kind e)
        → EndsIn p (Eval (write 6 (on_option (read 2) 7 (Apply (op.Entry eof) (Apply op.AsIndex (read 5))) (call_function action (read 5 ∷ read 7 ∷ []))))) (there (record w { top = number kind s }) l) 1
        (Giving unit (there (record w { top = number kind s; token = index i; action = number kind e }) l))
    action_line eof action w l s e h =
        values.write (on_some (values.read refl refl) refl (call (argument (values.read refl refl) (argument (values.read refl refl) (arguments_done (h _)))))) refl

    -- whether it is a number of this kind
    tested : (test : Op) (b : Bool) (w : Written) (l : List ℤ) (e : ℤ) → op_meaning p test (number kind e) (there (record w { action = number kind e }) l).store ≡ Gave (truth b) (there (record w { action = number kind e }) l).store
        → EndsIn p (Eval (Apply test (read 6))) (there (record w { action = number kind e }) l) 0 (Giving (truth b) (there (record w { action = number kind e }) l))
    tested test b w l e is = apply_to (values.read refl refl) is

    pub answered : (test : Op) (b : Bool) (w : Written) (l : List ℤ) (e : ℤ) → op_meaning p test (number kind e) (there (record w { action = number kind e }) l).store ≡ Gave (truth true) (there (record w { action = number kind e }) l).store
        → EndsIn p (Eval (answer_if test 6 b)) (there (record w { action = number kind e }) l) 0 (Returning (truth b) (there (record w { action = number kind e }) l))
    answered test b w l e is = if_true (tested test true w l e is) refl (give_back (plain refl))

    pub passed : (test : Op) (b : Bool) (w : Written) (l : List ℤ) (e : ℤ) → op_meaning p test (number kind e) (there (record w { action = number kind e }) l).store ≡ Gave (truth false) (there (record w { action = number kind e }) l).store
        → EndsIn p (Eval (answer_if test 6 b)) (there (record w { action = number kind e }) l) 0 (Giving unit (there (record w { action = number kind e }) l))
    passed test b w l e is = if_false (tested test false w l e is) refl (plain refl)

    -- the call that tells what the reduction would do
    simulation_ends : (simulate : ℕ) (w : Written) (l : List ℤ) (n : ℕ) (v : Val) → fitting kind (less n) ≡ Some (less n) → fitting kind (pos n) ≡ Some (pos n)
        → GivesAtOnce p simulate (number kind (pos n) ∷ []) v
        → EndsIn p (Eval (call_function simulate (production_of 6 ∷ []))) (there (record w { action = number kind (negsuc n) }) l) 1 (Giving v (there (record w { action = number kind (negsuc n) }) l))
    simulation_ends simulate w l n v fits back h =
        call (argument (apply_found (typed kind (neg_ℤ (less n))) (apply_found (typed kind (negsuc n +ℤ pos 1)) (values.read refl refl) refl (ap (typed kind) (one_more n) ∙ ap (option_map (number kind)) fits)) refl
        (ap (typed kind) (turned n) ∙ ap (option_map (number kind)) back)) (arguments_done (h _)))

    pub accepts_line : (simulate : ℕ) (w : Written) (l : List ℤ) (n : ℕ) → fitting kind (less n) ≡ Some (less n) → fitting kind (pos n) ≡ Some (pos n)
        → GivesAtOnce p simulate (number kind (pos n) ∷ []) (empty tag.Accept)
        → EndsIn p (Eval (simulated_parts (call_function simulate (production_of 6 ∷ [])) 8 9)) (there (record w { action = number kind (negsuc n) }) l) 1
        (Returning (truth true) (there (record w { action = number kind (negsuc n); simulated = empty tag.Accept }) l))
    accepts_line simulate w l n fits back h = match_on (simulation_ends simulate w l n (empty tag.Accept) fits back h) refl refl (first_body (give_back (plain refl)))

    pub reduces_line : (simulate : ℕ) (w : Written) (l : List ℤ) (n pop nonterminal : ℕ) → fitting kind (less n) ≡ Some (less n) → fitting kind (pos n) ≡ Some (pos n)
        → GivesAtOnce p simulate (number kind (pos n) ∷ []) (reduction pop nonterminal)
        → EndsIn p (Eval (simulated_parts (call_function simulate (production_of 6 ∷ [])) 8 9)) (there (record w { action = number kind (negsuc n) }) l) 1
        (Giving unit (there (record w { action = number kind (negsuc n); simulated = val.Plain Unset; pop = index pop; nonterminal = index nonterminal }) l))
    reduces_line simulate w l n pop nonterminal fits back h =
        match_on (simulation_ends simulate w l n (reduction pop nonterminal) fits back h) refl refl (next_body (first_body (apply_to (values.take refl refl) refl)))

    -- its states are taken off
    pub less_line : (w : Written) (l : List ℤ) (n pop : ℕ) → pop ≤ n
        → EndsIn p (Eval (write 4 (joined join.Subtract (read 4 ∷ read 9 ∷ [])))) (there (record w { count = index n; pop = index pop }) l) 0 (Giving unit (there (record w { count = index (n - pop); pop = index pop }) l))
    less_line w l n pop few =
        values.write (call (argument (values.read refl refl) (argument (values.read refl refl) (joined_found (index_less n pop) refl refl (difference_down n pop few))))) refl

    pub cut_line : (w : Written) (l : List ℤ) (n : ℕ) → EndsIn p (Eval (joined join.Truncate (read 3 ∷ read 4 ∷ []))) (there (record w { count = index n }) l) 0 (Giving unit (there (record w { count = index n }) (take n l)))
    cut_line w l n = call (argument (values.read refl refl) (argument (values.read refl refl) (calls.joined refl (truncate_states p 1 (there (record w { count = index n }) l).store (length so_far) l n refl))))

    -- the goto is pushed
    pub goto_line : (goto : ℕ) (w : Written) (l : List ℤ) (s to : ℤ) (nonterminal : ℕ) → GivesAtOnce p goto (number kind s ∷ index nonterminal ∷ []) (number kind to)
        → EndsIn p (Eval (joined join.Push (read 3 ∷ call_function goto (read 11 ∷ read 10 ∷ []) ∷ []))) (there (record w { under = number kind s; nonterminal = index nonterminal }) l) 1
        (Giving unit (there (record w { under = number kind s; nonterminal = index nonterminal }) (l ++ to ∷ [])))
    goto_line goto w l s to nonterminal h =
        call (argument (values.read refl refl) (argument (call (argument (values.read refl refl) (argument (values.read refl refl) (arguments_done (h _)))))
        (calls.joined refl (push_state p 1 (there (record w { under = number kind s; nonterminal = index nonterminal }) l).store (length so_far) l (number kind to) to refl refl))))
