-- One turn of a trial, by what the entry of its last state is.
use Rattle.std.proofs.Common.{◌≡◌, ℕ, suc, ◌-◌, ◌≤◌, ℤ, pos, negsuc, Bool, true, false, List, [], ◌∷◌, ◌++◌, length, take, Some, refl, ap, arith}
use Rattle.std.proofs.lemmas.Bool.Decides.{nat_tests}
use Rattle.std.specs.Prelude.{slice_get, int_lt}
use Rattle.lp_core.specs.declared.expr.Op.TheVariants as op
use Rattle.lp_core.specs.declared.value.StateType.{StateType}
use Rattle.lp_core.specs.declared.value.Tag.TheVariants as tag
use Rattle.lp_core.specs.Datum.{Unset}
use Rattle.lp_core.specs.Effect.{Gave, unit}
use Rattle.lp_core.specs.Numbers.{number, index, truth, fitting}
use Rattle.lp_core.specs.Reading.{empty}
use Rattle.lp_core.specs.Store.{Program, UserCall}
use Rattle.lp_core.specs.Tree.{Tree, Block, trees_of}
use Rattle.lp_core.specs.Val as val
use Rattle.lp_code_laws.specs.Ends.Ends.{Moment, Eval, Sequence, Outcome, Giving, Returning, EndsIn}
use Rattle.lp_code_laws.proofs.Ends.Numbers.{not_zero}
use Rattle.lp_code_laws.proofs.Ends.Rules.{block, block_end, block_next, block_left}
use Rattle.lp_code_laws.proofs.Ends.Values as values
use Rattle.lp_question_laws.proofs.Expected.Lines.{Written, GivesAtOnce, look_lines, reduce_lines, answer_lines, turn, trial_at, less, reduction, count_line, last_ends, action_line, answered, passed, accepts_line, reduces_line, less_line, cut_line, goto_line}

-- the entry of a shift is positive
pub is_positive : (n : ℕ) → int_lt (pos 0) (pos (suc n)) ≡ true
is_positive n = grind (arith, nat_tests)

module _ (kind : StateType) (own : List ℤ) (i : ℕ) (so_far : List UserCall) where
  abbrev there : Written → List ℤ → Moment
  there w l = trial_at own i so_far w l

  -- what the slots hold after the look
  abbrev looked_at : Written → List ℤ → ℤ → ℤ → Written
  looked_at w l s e = record w { count = index (length l); top = number kind s; token = index i; action = number kind e }

  module _ {p : Program} (eof action simulate goto : ℕ) (w : Written) (l : List ℤ) (s : ℤ) (some : 1 ≤ length l) (last : slice_get l (length l - 1) ≡ Some s) (fits : fitting kind s ≡ Some s) where
    -- the look, and what comes behind
    looked : (e : ℤ) (rest : List Tree) (k : ℕ) (o : Outcome) → GivesAtOnce p action (number kind s ∷ index i ∷ []) (number kind e)
        → EndsIn p (Sequence (trees_of rest) unit) (there (looked_at w l s e) l) k o → EndsIn p (Eval (Block (trees_of (look_lines kind eof action ++ rest)))) (there w l) (suc k) o
    looked e rest k o acts h =
        let counted = record w { count = index (length l) } in
        block (block_next (count_line kind own i so_far w l) (block_next (values.write (last_ends kind own i so_far w l (length l) s some last fits) refl) (block_next (action_line kind own i so_far eof action counted l s e acts) h)))

    -- there is no action
    pub turn_refuses : GivesAtOnce p action (number kind s ∷ index i ∷ []) (number kind (pos 0)) → EndsIn p (Eval (turn kind eof action simulate goto)) (there w l) 1 (Returning (truth false) (there (looked_at w l s (pos 0)) l))
    turn_refuses acts =
        let ends : EndsIn p (Sequence (trees_of (answer_lines kind simulate goto)) unit) (there (looked_at w l s (pos 0)) l) 0 (Returning (truth false) (there (looked_at w l s (pos 0)) l)) = block_left (answered kind own i so_far op.IsZero false (looked_at w l s (pos 0)) l (pos 0) refl) in
        looked (pos 0) (answer_lines kind simulate goto) 0 (Returning (truth false) (there (looked_at w l s (pos 0)) l)) acts ends

    -- it shifts
    pub turn_shifts : (to : ℕ) → GivesAtOnce p action (number kind s ∷ index i ∷ []) (number kind (pos (suc to))) → EndsIn p (Eval (turn kind eof action simulate goto)) (there w l) 1 (Returning (truth true) (there (looked_at w l s (pos (suc to))) l))
    turn_shifts to acts =
        let e = pos (suc to) in
        let ends : EndsIn p (Sequence (trees_of (answer_lines kind simulate goto)) unit) (there (looked_at w l s e) l) 0 (Returning (truth true) (there (looked_at w l s e) l)) =
        block_next (passed kind own i so_far op.IsZero false (looked_at w l s e) l e (ap (λ (b : Bool). Gave (truth b) (there (looked_at w l s e) l).store) (not_zero to)))
        (block_left (answered kind own i so_far op.IsPositive true (looked_at w l s e) l e (ap (λ (b : Bool). Gave (truth b) (there (looked_at w l s e) l).store) (is_positive to)))) in
        looked e (answer_lines kind simulate goto) 0 (Returning (truth true) (there (looked_at w l s e) l)) acts ends

    module _ (n : ℕ) (fits_less : fitting kind (less n) ≡ Some (less n)) (fits_number : fitting kind (pos n) ≡ Some (pos n)) (acts : GivesAtOnce p action (number kind s ∷ index i ∷ []) (number kind (negsuc n))) where
      abbrev w1 : Written
      w1 = looked_at w l s (negsuc n)

      -- it reduces: the two tests are passed
      reduces : (k : ℕ) (o : Outcome) → EndsIn p (Sequence (trees_of (reduce_lines kind simulate goto)) unit) (there w1 l) k o → EndsIn p (Eval (turn kind eof action simulate goto)) (there w l) (suc k) o
      reduces k o h =
          let ends : EndsIn p (Sequence (trees_of (answer_lines kind simulate goto)) unit) (there (looked_at w l s (negsuc n)) l) k o = block_next (passed kind own i so_far op.IsZero false w1 l (negsuc n) refl) (block_next (passed kind own i so_far op.IsPositive true w1 l (negsuc n) refl) h) in
          looked (negsuc n) (answer_lines kind simulate goto) k o acts ends

      -- the start is accepted
      pub turn_accepts : GivesAtOnce p simulate (number kind (pos n) ∷ []) (empty tag.Accept)
          → EndsIn p (Eval (turn kind eof action simulate goto)) (there w l) 2 (Returning (truth true) (there (record w1 { simulated = empty tag.Accept }) l))
      turn_accepts h = reduces 1 (Returning (truth true) (there (record w1 { simulated = empty tag.Accept }) l)) (block_left (accepts_line kind own i so_far simulate w1 l n fits_less fits_number h))

      -- its states go, and the goto comes
      abbrev pub after_goto : ℕ → ℕ → ℤ → Written
      after_goto pop nonterminal under =
          record w1 { simulated = val.Plain Unset; pop = index pop; nonterminal = index nonterminal; count = index (length l - pop); under = number kind under }

      pub turn_goes_on : (pop nonterminal : ℕ) (under to : ℤ) → pop ≤ length l → 1 ≤ length l - pop → slice_get (take (length l - pop) l) (length l - pop - 1) ≡ Some under → fitting kind under ≡ Some under
          → GivesAtOnce p simulate (number kind (pos n) ∷ []) (reduction pop nonterminal)
          → GivesAtOnce p goto (number kind under ∷ index nonterminal ∷ []) (number kind to)
          → EndsIn p (Eval (turn kind eof action simulate goto)) (there w l) 3 (Giving unit (there (after_goto pop nonterminal under) (take (length l - pop) l ++ to ∷ [])))
      turn_goes_on pop nonterminal under to few left_over at fits_under simulates leads =
          let kept = length l - pop in
          let w2 : Written = record w1 { simulated = val.Plain Unset; pop = index pop; nonterminal = index nonterminal } in
          let w3 : Written = record w2 { count = index kept } in
          reduces 2 (Giving unit (there (after_goto pop nonterminal under) (take kept l ++ to ∷ [])))
          (block_next (reduces_line kind own i so_far simulate w1 l n pop nonterminal fits_less fits_number simulates)
          (block_next (less_line kind own i so_far w2 l (length l) pop few)
          (block_next (cut_line kind own i so_far w3 l kept)
          (block_next (values.write (last_ends kind own i so_far w3 (take kept l) kept under left_over at fits_under) refl)
          (block_next (goto_line kind own i so_far goto (record w3 { under = number kind under }) (take kept l) under to nonterminal leads) block_end)))))
