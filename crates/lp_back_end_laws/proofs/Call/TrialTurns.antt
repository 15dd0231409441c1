-- A turn of a trial of recursive ascent, line by line: the states that are tried stand in a cell behind those of the run.
use Rattle.std.proofs.Common.{◌≡◌, ℕ, suc, ◌-◌, ◌≤◌, ℤ, pos, negsuc, Bool, true, false, List, [], ◌∷◌, ◌++◌, length, take, Option, Some, refl, ap, ◌∙◌, subst}
use Rattle.std.specs.Prelude.{slice_get, slice_set, ◌+ℤ◌, neg_ℤ}
use Rattle.std.specs.Option.{option_map, option_and_then}
use Rattle.lp_core.specs.declared.expr.Join.TheVariants as join
use Rattle.lp_core.specs.declared.expr.Leaf.TheVariants as leaf
use Rattle.lp_core.specs.declared.expr.Op.{Op}
use Rattle.lp_core.specs.declared.expr.Op.TheVariants as op
use Rattle.lp_core.specs.declared.value.StateType.{StateType}
use Rattle.lp_core.specs.declared.value.Tag.TheVariants as tag
use Rattle.lp_core.specs.Datum.{Cell, Unset}
use Rattle.lp_core.specs.Effect.{Gave, unit}
use Rattle.lp_core.specs.JoinMeaning.{state_val, state_in}
use Rattle.lp_core.specs.OpMeaning.{op_meaning}
use Rattle.lp_core.specs.Numbers.{number, index, index_less, truth, typed, fitting}
use Rattle.lp_core.specs.Reading.{empty, wrapped}
use Rattle.lp_core.specs.Store.{Store, Program, UserCall, Held, States}
use Rattle.lp_core.specs.Tree.{Tree, Apply, Block, trees_of}
use Rattle.lp_core.specs.Tree as tree
use Rattle.lp_core.specs.Val.{Val}
use Rattle.lp_core.specs.Val as val
use Rattle.lp_maker.specs.Constructs.{read, take_slot, write, joined, call_function, on_option, give_back as returning}
use Rattle.lp_bodies.specs.Trials.{answer_if, production_of}
use Rattle.lp_ascent_bodies.specs.AscentTrials.{last_state}
use Rattle.lp_code_laws.specs.Ends.Ends.{Moment, moment, Task, Eval, Sequence, Outcome, Giving, Returning, EndsIn}
use Rattle.lp_code_laws.proofs.Ends.Cells.{length_states, push_state, truncate_states}
use Rattle.lp_code_laws.proofs.Ends.Calls.{arguments_done, joined_found}
use Rattle.lp_code_laws.proofs.Ends.Calls as calls
use Rattle.lp_code_laws.proofs.Ends.Numbers.{index_down, difference_down, not_zero}
use Rattle.lp_code_laws.proofs.Ends.Rules.{apply_to, apply_found, argument, block, block_end, block_left, block_next, call, give_back, if_true, if_false, plain}
use Rattle.lp_code_laws.proofs.Ends.Tags.{on_none, on_some}
use Rattle.lp_code_laws.proofs.Ends.Values as values
use Rattle.lp_question_laws.proofs.Gotos.LinkMaps.{get_end}
use Rattle.lp_question_laws.proofs.Expected.Lines.{GivesAtOnce, less, one_more, turned}
use Rattle.lp_question_laws.proofs.Expected.Turns.{is_positive}

-- what the slots of a trial hold that its turns write
pub record Written : Type 0 where
  pub top : Val
  pub action : Val
  pub simulated : Val
  pub pop : Val
  pub nonterminal : Val
  pub spare : Val

-- where a trial is made: over these cells, one of which lists the states of the run, of a terminal
pub record Trial : Type 0 where
  pub cells : List Held
  pub list : ℕ
  pub taken : ℕ
  pub calls : List UserCall
  pub terminal : ℕ

-- a trial in which the copy of the states has come to these
abbrev pub trial_at : Trial → Written → List ℤ → Moment
trial_at r w copy = moment (record {
  env = val.Plain (Cell r.list) ∷ index r.terminal ∷ val.Plain (Cell (length r.cells)) ∷ w.top ∷ w.action ∷ w.simulated ∷ w.pop ∷ w.nonterminal ∷ w.spare ∷ [];
  cells = r.cells ++ States copy ∷ [];
  taken = r.taken;
}) r.calls

-- the lines of a turn: the look, what ends the trial, what a reduction takes off, and what it pushes
abbrev pub look_lines : StateType → ℕ → List Tree
look_lines kind action =
    write 3 (last_state (Some kind))
    ∷ write 4 (call_function action (read 3 ∷ read 1 ∷ []))
    ∷ []

abbrev pub simulated_line : ℕ → Tree
simulated_line simulate = on_option (call_function simulate (production_of 4 ∷ [])) 5 (returning (tree.Plain (leaf.Bool true))) (Apply (op.Parts 6 2) (take_slot 5))

abbrev pub cut_tree : Tree
cut_tree = joined join.Truncate (read 2 ∷ joined join.Subtract (Apply op.Length (read 2) ∷ read 6 ∷ []) ∷ [])

abbrev pub reduce_lines : StateType → ℕ → ℕ → List Tree
reduce_lines kind simulate goto =
    simulated_line simulate
    ∷ cut_tree
    ∷ write 3 (last_state (Some kind))
    ∷ joined join.Push (read 2 ∷ call_function goto (read 3 ∷ read 7 ∷ []) ∷ [])
    ∷ []

abbrev pub answer_lines : StateType → ℕ → ℕ → List Tree
answer_lines kind simulate goto = answer_if op.IsZero 4 false ∷ answer_if op.IsPositive 4 true ∷ reduce_lines kind simulate goto

abbrev pub turn : StateType → ℕ → ℕ → ℕ → Tree
turn kind action simulate goto = Block (trees_of (look_lines kind action ++ answer_lines kind simulate goto))

-- a simulated reduction
abbrev pub reduction : ℕ → ℕ → Val
reduction pop nonterminal = val.Made tag.Tuple (val.more (index pop) (val.more (index nonterminal) val.end))

-- what was last is written over
pub set_end : {A : Type 0} (xs : List A) (x y : A) → slice_set (xs ++ x ∷ []) (length xs) y ≡ xs ++ y ∷ []
set_end [] x y = refl
set_end (z ∷ xs) x y = ap (λ l. z ∷ l) (set_end xs x y)

module _ (kind : StateType) (r : Trial) where
  abbrev there : Written → List ℤ → Moment
  there w l = trial_at r w l

  copy_is : (w : Written) (l : List ℤ) → slice_get (there w l).store.cells (length r.cells) ≡ Some (States l)
  copy_is w l = get_end r.cells [] (States l)

  -- over another copy
  copied : (w : Written) (l to : List ℤ) → record (there w l).store { cells = slice_set (r.cells ++ States l ∷ []) (length r.cells) (States to) } ≡ (there w to).store
  copied w l to = ap (λ (held : List Held). record (there w l).store { cells = held }) (set_end r.cells (States l) (States to))

  module _ {p : Program} where
    -- the last state
    last_ends : (w : Written) (l : List ℤ) (s : ℤ) → 1 ≤ length l → slice_get l (length l - 1) ≡ Some s → fitting kind s ≡ Some s
        → EndsIn p (Eval (last_state (Some kind))) (there w l) 0 (Giving (number kind s) (there w l))
    last_ends w l s some at fits =
        let n = length l in
        call (argument (values.read refl refl) (argument (apply_found (index_less n 1) (apply_to (values.read refl refl) (length_states p (length r.cells) (there w l).store l (copy_is w l))) refl (index_down n 1 some))
        (joined_found (state_in kind (val.Plain (Cell (length r.cells))) (index (n - 1)) (there w l).store) refl refl
        (ap (λ (o : Option Held). option_and_then (state_val kind (n - 1)) o) (copy_is w l) ∙ ap (option_and_then (typed kind)) at ∙ ap (option_map (number kind)) fits))))

    -- the action on the terminal
    action_line : (action : ℕ) (w : Written) (l : List ℤ) (s e : ℤ) → GivesAtOnce p action (number kind s ∷ index r.terminal ∷ []) (number kind e)
        → EndsIn p (Eval (write 4 (call_function action (read 3 ∷ read 1 ∷ [])))) (there (record w { top = number kind s }) l) 1 (Giving unit (there (record w { top = number kind s; action = number kind e }) l))
    action_line action w l s e h = values.write (call (argument (values.read refl refl) (argument (values.read refl refl) (arguments_done (h _))))) refl

    -- whether it is a number of this kind
    tested : (test : Op) (b : Bool) (w : Written) (l : List ℤ) (e : ℤ) → op_meaning p test (number kind e) (there (record w { action = number kind e }) l).store ≡ Gave (truth b) (there (record w { action = number kind e }) l).store
        → EndsIn p (Eval (Apply test (read 4))) (there (record w { action = number kind e }) l) 0 (Giving (truth b) (there (record w { action = number kind e }) l))
    tested test b w l e is = apply_to (values.read refl refl) is

    answered : (test : Op) (b : Bool) (w : Written) (l : List ℤ) (e : ℤ) → op_meaning p test (number kind e) (there (record w { action = number kind e }) l).store ≡ Gave (truth true) (there (record w { action = number kind e }) l).store
        → EndsIn p (Eval (answer_if test 4 b)) (there (record w { action = number kind e }) l) 0 (Returning (truth b) (there (record w { action = number kind e }) l))
    answered test b w l e is = if_true (tested test true w l e is) refl (give_back (plain refl))

    passed : (test : Op) (b : Bool) (w : Written) (l : List ℤ) (e : ℤ) → op_meaning p test (number kind e) (there (record w { action = number kind e }) l).store ≡ Gave (truth false) (there (record w { action = number kind e }) l).store
        → EndsIn p (Eval (answer_if test 4 b)) (there (record w { action = number kind e }) l) 0 (Giving unit (there (record w { action = number kind e }) l))
    passed test b w l e is = if_false (tested test false w l e is) refl (plain refl)

    -- the call that tells what the reduction would do
    simulation_ends : (simulate : ℕ) (w : Written) (l : List ℤ) (n : ℕ) (v : Val) → fitting kind (less n) ≡ Some (less n) → fitting kind (pos n) ≡ Some (pos n)
        → GivesAtOnce p simulate (number kind (pos n) ∷ []) v
        → EndsIn p (Eval (call_function simulate (production_of 4 ∷ []))) (there (record w { action = number kind (negsuc n) }) l) 1 (Giving v (there (record w { action = number kind (negsuc n) }) l))
    simulation_ends simulate w l n v fits back h =
        call (argument (apply_found (typed kind (neg_ℤ (less n))) (apply_found (typed kind (negsuc n +ℤ pos 1)) (values.read refl refl) refl (ap (typed kind) (one_more n) ∙ ap (option_map (number kind)) fits)) refl
        (ap (typed kind) (turned n) ∙ ap (option_map (number kind)) back)) (arguments_done (h _)))

    accepts_line : (simulate : ℕ) (w : Written) (l : List ℤ) (n : ℕ) → fitting kind (less n) ≡ Some (less n) → fitting kind (pos n) ≡ Some (pos n)
        → GivesAtOnce p simulate (number kind (pos n) ∷ []) (empty tag.Absent)
        → EndsIn p (Eval (simulated_line simulate)) (there (record w { action = number kind (negsuc n) }) l) 1
        (Returning (truth true) (there (record w { action = number kind (negsuc n); simulated = empty tag.Absent }) l))
    accepts_line simulate w l n fits back h = on_none (simulation_ends simulate w l n (empty tag.Absent) fits back h) refl (give_back (plain refl))

    reduces_line : (simulate : ℕ) (w : Written) (l : List ℤ) (n pop nonterminal : ℕ) → fitting kind (less n) ≡ Some (less n) → fitting kind (pos n) ≡ Some (pos n)
        → GivesAtOnce p simulate (number kind (pos n) ∷ []) (wrapped tag.Present (reduction pop nonterminal))
        → EndsIn p (Eval (simulated_line simulate)) (there (record w { action = number kind (negsuc n) }) l) 1
        (Giving unit (there (record w { action = number kind (negsuc n); simulated = val.Plain Unset; pop = index pop; nonterminal = index nonterminal }) l))
    reduces_line simulate w l n pop nonterminal fits back h =
        on_some (simulation_ends simulate w l n (wrapped tag.Present (reduction pop nonterminal)) fits back h) refl (apply_to (values.take refl refl) refl)

    -- another copy
    recopied : (w : Written) (l to : List ℤ) {t : Task} {m : Moment} {k : ℕ} → EndsIn p t m k (Giving unit (moment (record (there w l).store { cells = slice_set (r.cells ++ States l ∷ []) (length r.cells) (States to) }) r.calls)) → EndsIn p t m k (Giving unit (there w to))
    recopied w l to {t} {m} {k} h = subst (λ (s : Store). EndsIn p t m k (Giving unit (moment s r.calls))) (copied w l to) h

    -- its states are taken off
    cut_line : (w : Written) (l : List ℤ) (pop : ℕ) → pop ≤ length l
        → EndsIn p (Eval cut_tree) (there (record w { pop = index pop }) l) 0 (Giving unit (there (record w { pop = index pop }) (take (length l - pop) l)))
    cut_line w l pop few =
        let w' : Written = record w { pop = index pop } in
        recopied w' l (take (length l - pop) l)
        (call (argument (values.read refl refl) (argument (call (argument (apply_to (values.read refl refl) (length_states p (length r.cells) (there w' l).store l (copy_is w' l)))
        (argument (values.read refl refl) (joined_found (index_less (length l) pop) refl refl (difference_down (length l) pop few)))))
        (calls.joined refl (truncate_states p (length r.cells) (there w' l).store (length r.calls) l (length l - pop) (copy_is w' l))))))

    -- the goto is pushed
    goto_line : (goto : ℕ) (w : Written) (l : List ℤ) (s to : ℤ) (nonterminal : ℕ) → GivesAtOnce p goto (number kind s ∷ index nonterminal ∷ []) (number kind to)
        → EndsIn p (Eval (joined join.Push (read 2 ∷ call_function goto (read 3 ∷ read 7 ∷ []) ∷ []))) (there (record w { top = number kind s; nonterminal = index nonterminal }) l) 1
        (Giving unit (there (record w { top = number kind s; nonterminal = index nonterminal }) (l ++ to ∷ [])))
    goto_line goto w l s to nonterminal h =
        let w' : Written = record w { top = number kind s; nonterminal = index nonterminal } in
        recopied w' l (l ++ to ∷ [])
        (call (argument (values.read refl refl) (argument (call (argument (values.read refl refl) (argument (values.read refl refl) (arguments_done (h _)))))
        (calls.joined refl (push_state p (length r.cells) (there w' l).store (length r.calls) l (number kind to) to (copy_is w' l) refl)))))

  -- ---- a turn
  -- what the slots hold after the look
  abbrev looked_at : Written → ℤ → ℤ → Written
  looked_at w s e = record w { top = number kind s; action = number kind e }

  module _ {p : Program} (action simulate goto : ℕ) (w : Written) (l : List ℤ) (s : ℤ) (some : 1 ≤ length l) (last : slice_get l (length l - 1) ≡ Some s) (fits : fitting kind s ≡ Some s) where
    -- the look, and what comes behind
    looked : (e : ℤ) (rest : List Tree) (k : ℕ) (o : Outcome) → GivesAtOnce p action (number kind s ∷ index r.terminal ∷ []) (number kind e)
        → EndsIn p (Sequence (trees_of rest) unit) (there (looked_at w s e) l) k o → EndsIn p (Eval (Block (trees_of (look_lines kind action ++ rest)))) (there w l) (suc k) o
    looked e rest k o acts h = block (block_next (values.write (last_ends w l s some last fits) refl) (block_next (action_line action w l s e acts) h))

    -- there is no action
    pub turn_refuses : GivesAtOnce p action (number kind s ∷ index r.terminal ∷ []) (number kind (pos 0)) → EndsIn p (Eval (turn kind action simulate goto)) (there w l) 1 (Returning (truth false) (there (looked_at w s (pos 0)) l))
    turn_refuses acts =
        let ends : EndsIn p (Sequence (trees_of (answer_lines kind simulate goto)) unit) (there (looked_at w s (pos 0)) l) 0 (Returning (truth false) (there (looked_at w s (pos 0)) l)) = block_left (answered op.IsZero false (looked_at w s (pos 0)) l (pos 0) refl) in
        looked (pos 0) (answer_lines kind simulate goto) 0 (Returning (truth false) (there (looked_at w s (pos 0)) l)) acts ends

    -- it shifts
    pub turn_shifts : (to : ℕ) → GivesAtOnce p action (number kind s ∷ index r.terminal ∷ []) (number kind (pos (suc to))) → EndsIn p (Eval (turn kind action simulate goto)) (there w l) 1 (Returning (truth true) (there (looked_at w s (pos (suc to))) l))
    turn_shifts to acts =
        let e = pos (suc to) in
        let ends : EndsIn p (Sequence (trees_of (answer_lines kind simulate goto)) unit) (there (looked_at w s e) l) 0 (Returning (truth true) (there (looked_at w s e) l)) =
        block_next (passed op.IsZero false (looked_at w s e) l e (ap (λ (b : Bool). Gave (truth b) (there (looked_at w s e) l).store) (not_zero to)))
        (block_left (answered op.IsPositive true (looked_at w s e) l e (ap (λ (b : Bool). Gave (truth b) (there (looked_at w s e) l).store) (is_positive to)))) in
        looked e (answer_lines kind simulate goto) 0 (Returning (truth true) (there (looked_at w s e) l)) acts ends

    module _ (n : ℕ) (fits_less : fitting kind (less n) ≡ Some (less n)) (fits_number : fitting kind (pos n) ≡ Some (pos n)) (acts : GivesAtOnce p action (number kind s ∷ index r.terminal ∷ []) (number kind (negsuc n))) where
      abbrev w1 : Written
      w1 = looked_at w s (negsuc n)

      -- it reduces: the two tests are passed
      reduces : (k : ℕ) (o : Outcome) → EndsIn p (Sequence (trees_of (reduce_lines kind simulate goto)) unit) (there w1 l) k o → EndsIn p (Eval (turn kind action simulate goto)) (there w l) (suc k) o
      reduces k o h =
          let ends : EndsIn p (Sequence (trees_of (answer_lines kind simulate goto)) unit) (there (looked_at w s (negsuc n)) l) k o = block_next (passed op.IsZero false w1 l (negsuc n) refl) (block_next (passed op.IsPositive true w1 l (negsuc n) refl) h) in
          looked (negsuc n) (answer_lines kind simulate goto) k o acts ends

      -- the start is accepted
      pub turn_accepts : GivesAtOnce p simulate (number kind (pos n) ∷ []) (empty tag.Absent)
          → EndsIn p (Eval (turn kind action simulate goto)) (there w l) 2 (Returning (truth true) (there (record w1 { simulated = empty tag.Absent }) l))
      turn_accepts h = reduces 1 (Returning (truth true) (there (record w1 { simulated = empty tag.Absent }) l)) (block_left (accepts_line simulate w1 l n fits_less fits_number h))

      -- its states go, and the goto comes
      abbrev pub after_goto : ℕ → ℕ → ℤ → Written
      after_goto pop nonterminal under =
          record w1 { simulated = val.Plain Unset; pop = index pop; nonterminal = index nonterminal; top = number kind under }

      pub turn_goes_on : (pop nonterminal : ℕ) (under to : ℤ) → pop ≤ length l → 1 ≤ length (take (length l - pop) l) → slice_get (take (length l - pop) l) (length (take (length l - pop) l) - 1) ≡ Some under → fitting kind under ≡ Some under
          → GivesAtOnce p simulate (number kind (pos n) ∷ []) (wrapped tag.Present (reduction pop nonterminal))
          → GivesAtOnce p goto (number kind under ∷ index nonterminal ∷ []) (number kind to)
          → EndsIn p (Eval (turn kind action simulate goto)) (there w l) 3 (Giving unit (there (after_goto pop nonterminal under) (take (length l - pop) l ++ to ∷ [])))
      turn_goes_on pop nonterminal under to few left_over at fits_under simulates leads =
          let kept = take (length l - pop) l in
          let w2 : Written = record w1 { simulated = val.Plain Unset; pop = index pop; nonterminal = index nonterminal } in
          reduces 2 (Giving unit (there (after_goto pop nonterminal under) (kept ++ to ∷ [])))
          (block_next (reduces_line simulate w1 l n pop nonterminal fits_less fits_number simulates)
          (block_next (cut_line w2 l pop few)
          (block_next (values.write (last_ends w2 kept under left_over at fits_under) refl)
          (block_next (goto_line goto (record w2 { top = number kind under }) kept under to nonterminal leads) block_end))))
