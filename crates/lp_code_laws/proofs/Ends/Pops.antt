-- Worked: the function that pops a symbol of one variant, the block that pops several, and a loop that does.
use Rattle.std.proofs.Common.{◌≡◌, ℕ, zero, suc, ◌+◌, ◌<◌, true, List, [], ◌∷◌, ◌++◌, length, Some, refl, sym, ap, ◌∙◌, arith, eq-eqb}
use Rattle.std.specs.Prelude.{slice_get, slice_set, ◌==◌}
use Rattle.lp_driver.specs.Values.{Spanned}
use Rattle.lp_repr.specs.declared.values.Loc.{Loc}
use Rattle.lp_core.specs.declared.expr.Case.{Case}
use Rattle.lp_core.specs.declared.expr.Function.{Function}
use Rattle.lp_core.specs.declared.expr.Leaf.TheVariants as leaf
use Rattle.lp_core.specs.declared.expr.Op.TheVariants as op
use Rattle.lp_core.specs.declared.expr.Join.TheVariants as join
use Rattle.lp_core.specs.declared.expr.Place.TheVariants as place
use Rattle.lp_core.specs.declared.expr.Test.TheVariants as test
use Rattle.lp_core.specs.declared.expr.Target.TheVariants as target
use Rattle.lp_core.specs.declared.value.Tag.{Tag}
use Rattle.lp_core.specs.declared.value.Tag.TheVariants as tag
use Rattle.lp_core.specs.Datum.{Cell}
use Rattle.lp_core.specs.Val.{Val}
use Rattle.lp_core.specs.Val as val
use Rattle.lp_core.specs.Reading.{wrapped, triple, spanned_val}
use Rattle.lp_core.specs.Numbers.{index}
use Rattle.lp_core.specs.Tree.{Tree, Plain, Apply, If, Match, Loop, Call, Block, trees_of}
use Rattle.lp_core.specs.Store.{Program, Held, Symbols}
use Rattle.lp_core.specs.Effect.{with_cell, set_value, unit}
use Rattle.lp_core.specs.CaseMeaning.{chosen_if}
use Rattle.lp_code_laws.specs.Ends.Ends.{Moment, moment, over, Eval, Sequence, Enter, Giving, Returning, EndsIn}
use Rattle.lp_code_laws.specs.Ends.Slots.{HasSlots}
use Rattle.lp_code_laws.proofs.Ends.Rules.{plain, apply_to, apply_found, give_back, if_true, if_false, match_on, first_body, next_body, block, block_end, block_next, block_left, call, argument}
use Rattle.lp_code_laws.proofs.Ends.Blocks.{sequence_one}
use Rattle.lp_code_laws.proofs.Ends.Calls.{joined, enter, arguments_done}
use Rattle.lp_code_laws.proofs.Ends.Values.{read, take, write, slots_next}
use Rattle.lp_code_laws.proofs.Ends.Cells.{pop_symbol}
use Rattle.lp_code_laws.proofs.Ends.Numbers.{one_less, not_zero}
use Rattle.lp_code_laws.proofs.Ends.Lists.{get_same, get_other, length_set, set_twice, set_there}
use Rattle.lp_code_laws.proofs.Ends.Steps.{ends_as}
use Rattle.lp_code_laws.proofs.Ends.Loops.{turns_of, turns, last_turn}

abbrev pub here : Tag → ℕ → Case
here tag body = record { place = place.Here; test = test.Is tag; body = body }

-- the popped triple with what its symbol holds
abbrev pub match_variant : Tag → Tree → Tree
match_variant variant other =
    Match (Plain (leaf.Take 2)) 3 (here variant 0 ∷ [])
    (trees_of (Block (trees_of (Apply (op.Parts 2 1) (Plain (leaf.Take 3)) ∷ Call (target.Join (join.Make tag.Tuple)) (trees_of (Plain (leaf.Take 1) ∷ Plain (leaf.Take 2) ∷ Plain (leaf.Take 4) ∷ [])) ∷ [])) ∷ other ∷ []))

abbrev pub popped_lines : Tag → Tree → Tree
popped_lines variant other =
    Block (trees_of (Apply (op.Parts 5 3) (Plain (leaf.Take 1)) ∷ Apply (op.Write 1) (Plain (leaf.Take 5)) ∷ Apply (op.Write 2) (Plain (leaf.Take 6)) ∷ Apply (op.Write 4) (Plain (leaf.Take 7)) ∷ match_variant variant other ∷ []))

-- `match list.pop() { Some((a, Variant(v), b)) => (a, v, b), _ => other }`
abbrev pub pop_body : Tag → Tree → Tree
pop_body variant other =
    Match (Apply op.Pop (Plain (leaf.Read 0))) 1 (here tag.Absent 0 ∷ here tag.Present 1 ∷ [])
    (trees_of (other ∷ Block (trees_of (Apply (op.Parts 1 1) (Plain (leaf.Take 1)) ∷ popped_lines variant other ∷ [])) ∷ Plain leaf.Stuck ∷ []))

abbrev pub pop_fn : Tag → Tree → Function
pop_fn variant other = record { params = 1; slots = 7; body = pop_body variant other }

module _ (p : Program) (f c w : ℕ) (other : Tree) (is : slice_get p.functions f ≡ Some (pop_fn (tag.Variant w) other)) where
  -- one symbol off the list
  pub pop_one : (m : Moment) (l : List (Spanned Val)) (a : Loc) (v : Val) (b : Loc) → slice_get m.store.cells c ≡ Some (Symbols (l ++ (a, wrapped (tag.Variant w) v, b) ∷ [])) → set_value v ≡ Some v → EndsIn p (Enter f (val.Plain (Cell c) ∷ [])) m 1 (Giving (triple a v b) (over (with_cell c (Symbols l) m.store) m))
  pop_one m l a v b there set =
      let same : w == w ≡ true = eq-eqb w w refl in
      enter is refl
      (match_on (apply_to (read refl refl) (pop_symbol p c _ l (a, wrapped (tag.Variant w) v, b) there)) refl refl
      (next_body (first_body (block (block_next (apply_to (take refl refl) refl) (sequence_one
      (block (block_next (apply_to (take refl refl) refl) (block_next (write (take refl refl) refl) (block_next (write (take refl refl) refl) (block_next (write (take refl refl) refl) (sequence_one
      (match_on (take refl refl) (ap (λ x. chosen_if 0 (Some 1) (Some x)) same) refl
      (first_body (block (block_next (apply_to (take refl refl) refl) (sequence_one (call (argument (take refl refl) (argument (take refl set) (argument (take refl refl) (joined refl refl))))))))))))))))))))))
      (length_set m.store.cells c (Symbols l))

-- `let x = pop(list);` so many times, for the slots from this one on
abbrev pub pop_lines : ℕ → ℕ → ℕ → ℕ → List Tree
pop_lines f list first zero = []
pop_lines f list first (suc n) = Apply (op.Write first) (Call (target.Function f) (trees_of (Plain (leaf.Read list) ∷ []))) ∷ pop_lines f list (first + 1) n

-- a symbol of a variant with its span
pub record OnStack : Type 0 where
  pub start : Loc
  pub value : Val
  pub finish : Loc
  pub set : set_value value ≡ Some value

-- the stack with these on it, the last of which is on top
abbrev pub stacked : ℕ → List (Spanned Val) → List OnStack → List (Spanned Val)
stacked w below [] = below
stacked w below (x ∷ xs) = stacked w below xs ++ (x.start, wrapped (tag.Variant w) x.value, x.finish) ∷ []

abbrev pub popped_slots : ℕ → List OnStack → List Val → List Val
popped_slots first [] env = env
popped_slots first (x ∷ xs) env = popped_slots (first + 1) xs (slice_set env first (triple x.start x.value x.finish))

module _ (p : Program) (f c w list : ℕ) (other : Tree) (below : List (Spanned Val)) (is : slice_get p.functions f ≡ Some (pop_fn (tag.Variant w) other)) where
  -- several symbols off the list, each into its slot
  pub pop_several : (xs : List OnStack) (first : ℕ) (m : Moment) → slice_get m.store.env list ≡ Some (val.Plain (Cell c)) → list < first → HasSlots first (length xs) m.store.env → slice_get m.store.cells c ≡ Some (Symbols (stacked w below xs)) → EndsIn p (Sequence (trees_of (pop_lines f list first (length xs))) unit) m (length xs) (Giving unit (over (record { env = popped_slots first xs m.store.env; cells = slice_set m.store.cells c (Symbols below); taken = m.store.taken }) m))
  pop_several [] first m var apart room there =
      ends_as block_end (ap (λ l. Giving unit (over (record { env = m.store.env; cells = l; taken = m.store.taken }) m)) (sym (set_there m.store.cells c (Symbols below) there)))
  pop_several (x ∷ xs) first m var apart room there =
      let now = triple x.start x.value x.finish in
      let cells = slice_set m.store.cells c (Symbols (stacked w below xs)) in
      block_next (write (call (argument (read var refl) (arguments_done (pop_one p f c w other is m _ x.start x.value x.finish there x.set)))) (room.slot first (omega arith) (omega arith)).1)
      (ends_as
      (pop_several xs (first + 1) (moment (record { env = slice_set m.store.env first now; cells = cells; taken = m.store.taken }) m.calls) (get_other m.store.env first list now (λ same. omega (arith, same)) ∙ var) (omega arith) (slots_next first (length xs) m.store.env now room) (get_same m.store.cells c there))
      (ap (λ l. Giving unit (over (record { env = popped_slots (first + 1) xs (slice_set m.store.env first now); cells = l; taken = m.store.taken }) m)) (set_twice m.store.cells c (Symbols (stacked w below xs)) (Symbols below))))

-- `loop { if n == 0 { return () } n = n - 1; list.pop(); }`
abbrev pub pop_turn : Tree
pop_turn =
    Block (trees_of (If (Apply op.IsZero (Plain (leaf.Read 1))) (Apply op.Return (Plain (leaf.Empty tag.Tuple))) (Plain (leaf.Empty tag.Tuple)) ∷ Apply (op.Write 1) (Apply op.Predecessor (Plain (leaf.Read 1))) ∷ Apply op.Pop (Plain (leaf.Read 0)) ∷ []))

abbrev pub stack : List (Spanned Val) → (ℕ → Spanned Val) → ℕ → List (Spanned Val)
stack below x zero = below
stack below x (suc n) = stack below x n ++ x n ∷ []

-- the counter, and the list with so many on it
abbrev pub counting : Moment → ℕ → List (Spanned Val) → (ℕ → Spanned Val) → ℕ → Moment
counting m c below x n = over (record { env = val.Plain (Cell c) ∷ index n ∷ []; cells = slice_set m.store.cells c (Symbols (stack below x n)); taken = m.store.taken }) m

module _ (p : Program) (m : Moment) (c : ℕ) (below : List (Spanned Val)) (x : ℕ → Spanned Val) (old : Held) (there : slice_get m.store.cells c ≡ Some old) where
  -- one turn takes one off
  pub one_turn : (n : ℕ) → EndsIn p (Eval pop_turn) (counting m c below x (suc n)) 0 (Giving (wrapped tag.Present (spanned_val (x n))) (counting m c below x n))
  one_turn n =
      ends_as (block
      (block_next (if_false (apply_to (read refl refl) refl) (ap Some (not_zero n)) (plain refl))
      (block_next (write (apply_found _ (read refl refl) refl (one_less n)) refl)
      (sequence_one (apply_to (read refl refl) (pop_symbol p c _ (stack below x n) (x n) (get_same m.store.cells c there)))))))
      (ap (λ l. Giving (wrapped tag.Present (spanned_val (x n))) (over (record { env = val.Plain (Cell c) ∷ index n ∷ []; cells = l; taken = m.store.taken }) m)) (set_twice m.store.cells c (Symbols (stack below x (suc n))) (Symbols (stack below x n))))

  -- the loop takes all of them off
  pub pop_loop : (n : ℕ) → EndsIn p (Eval (Loop pop_turn)) (counting m c below x n) (turns_of (λ i. 0) n 1) (Returning unit (counting m c below x 0))
  pop_loop n =
      turns (λ i. 0) n (counting m c below x) (λ i. wrapped tag.Present (spanned_val (x i))) one_turn
      (last_turn (block (block_left (if_true (apply_to (read refl refl) refl) refl (give_back (plain refl))))))
