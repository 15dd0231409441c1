-- Worked: the lines that take the states of what was reduced off, and push the goto.
use Rattle.std.proofs.Common.{◌≡◌, ℕ, ◌+◌, ◌-◌, ◌<◌, ◌≤◌, ℤ, List, [], ◌∷◌, ◌++◌, length, codes, Some, refl, ap, ◌∙◌, arith}
use Rattle.std.specs.Prelude.{slice_get, slice_set, take}
use Rattle.lp_core.specs.declared.value.StateType.{StateType}
use Rattle.lp_core.specs.declared.value.Tag.TheVariants as tag
use Rattle.lp_core.specs.Datum.{Cell}
use Rattle.lp_core.specs.Val.{Val, Plain, Made, vals_of}
use Rattle.lp_core.specs.Reading.{empty}
use Rattle.lp_core.specs.Numbers.{index, number, typed}
use Rattle.lp_core.specs.CellMeaning.{last_in}
use Rattle.lp_core.specs.Store.{Program, Held, States}
use Rattle.lp_core.specs.Tree.{Tree}
use Rattle.lp_maker.specs.Slots.{Names}
use Rattle.lp_maker.specs.Making.{Making, number_in}
use Rattle.lp_maker.specs.Constructs.{one_after_another}
use Rattle.lp_maker.specs.Constructs as maker
use Rattle.lp_core.specs.declared.expr.Join.TheVariants as join
use Rattle.lp_core.specs.Effect.{unit}
use Rattle.lp_bodies.specs.Reductions.{reduced_lines, push_next, states}
use Rattle.lp_code_laws.specs.Ends.Ends.{Moment, over, steps, EndsIn, Eval, Enter, Giving}
use Rattle.lp_code_laws.specs.Ends.Slots.{HasSlots, put}
use Rattle.lp_code_laws.proofs.Ends.Steps.{ends_as}
use Rattle.lp_code_laws.proofs.Ends.Rules.{plain, apply_to, argument, call, block, block_next}
use Rattle.lp_code_laws.proofs.Ends.Calls.{arguments_done, joined, joined_found}
use Rattle.lp_code_laws.proofs.Ends.Blocks.{sequence_one}
use Rattle.lp_code_laws.proofs.Ends.Values.{read, write, parts}
use Rattle.lp_code_laws.proofs.Ends.Cells.{length_states, truncate_states, top_state, push_state}
use Rattle.lp_code_laws.proofs.Ends.Numbers.{difference_down}
use Rattle.lp_code_laws.proofs.Ends.Lists.{get_same, get_other, set_twice}
use Rattle.lp_code_laws.specs.Slots.Shows.{Shows, Keeps}
use Rattle.lp_code_laws.proofs.Slots.Slots.{keeps_set, keeps_both}
use Rattle.lp_code_laws.proofs.Slots.Names.{kept}
use Rattle.lp_code_laws.proofs.Printed.Lines.{read_shown, call_by_name}

-- other slots, over other cells
abbrev pub with_slots : List Val → List Held → Moment → Moment
with_slots env cells m = over (record { env = env; cells = cells; taken = m.store.taken }) m

module _ {p : Program} (names : Names) (c : ℕ) where
  -- the list of states loses its last so many
  pub truncated : {m : Moment} (len pop n : ℕ) (l : List ℤ) → Shows names m.store.env (codes "~states") (Plain (Cell c)) → slice_get m.store.cells c ≡ Some (States l) → slice_get m.store.env len ≡ Some (index (length l)) → slice_get m.store.env pop ≡ Some (index n) → n ≤ length l → EndsIn p (Eval (maker.joined join.Truncate (states names ∷ maker.joined join.Subtract (maker.read len ∷ maker.read pop ∷ []) ∷ []))) m 0 (Giving unit (with_slots m.store.env (slice_set m.store.cells c (States (take (length l - n) l))) m))
  truncated len pop n l shows there first second enough =
      call (argument (read_shown shows refl) (argument (call (argument (read first refl) (argument (read second refl) (joined_found _ refl refl (difference_down (length l) n enough))))) (joined refl (truncate_states p c _ 0 l (length l - n) there))))

  -- the goto of a state and a nonterminal goes on the list
  pub pushed : {m : Moment} (made : Making) (g st nt : ℕ) (l : List ℤ) (x y : ℤ) (a : ℕ) (kind : StateType) → Shows names m.store.env (codes "~states") (Plain (Cell c)) → slice_get m.store.cells c ≡ Some (States l) → slice_get m.store.env st ≡ Some (number kind x) → slice_get m.store.env nt ≡ Some (index a) → number_in (codes "goto") made.names ≡ Some g → EndsIn p (Enter g (number kind x ∷ index a ∷ [])) m 1 (Giving (number kind y) m) → EndsIn p (Eval (push_next made names st nt)) m 1 (Giving unit (with_slots m.store.env (slice_set m.store.cells c (States (l ++ y ∷ []))) m))
  pushed made g st nt l x y a kind shows there first second is goes =
      call (argument (read_shown shows refl) (argument (call_by_name (codes "goto") (maker.read st ∷ maker.read nt ∷ []) made g is (argument {vs = []} (read first refl) (argument {vs = number kind x ∷ []} (read second refl) (arguments_done goes)))) (joined refl (push_state p c _ 0 l (number kind y) y there refl))))

-- the slots afterwards
abbrev pub slots_after : ℕ → ℕ → ℕ → Val → Val → Val → Val → List Val → List Val
slots_after pop len st n a l x env = slice_set (slice_set (put pop (n ∷ a ∷ []) env) len l) st x

-- what the slots hold, line by line
module _ (names : Names) (pop len st next : ℕ) (low : next ≤ pop) (apart : pop + 1 < len) (last : len < st) (env : List Val) (n a l x : Val) where
  abbrev second : List Val
  second = put pop (n ∷ a ∷ []) env

  abbrev third : List Val
  third = slice_set second len l

  abbrev fourth : List Val
  fourth = slice_set third st x

  keeps_second : Keeps next env second
  keeps_second = keeps_both (keeps_set next pop env n low) (keeps_set next (pop + 1) (slice_set env pop n) a (omega arith))

  keeps_third : Keeps next env third
  keeps_third = keeps_both keeps_second (keeps_set next len second l (omega arith))

  keeps_fourth : Keeps next env fourth
  keeps_fourth = keeps_both keeps_third (keeps_set next st third x (omega arith))

  module _ (o1 o2 o3 o4 : Val) (s1 : slice_get env pop ≡ Some o1) (s2 : slice_get env (pop + 1) ≡ Some o2) (s3 : slice_get env len ≡ Some o3) (s4 : slice_get env st ≡ Some o4) where
    len_second : slice_get second len ≡ Some o3
    len_second = get_other (slice_set env pop n) (pop + 1) len a (λ e. omega (arith, e)) ∙ get_other env pop len n (λ e. omega (arith, e)) ∙ s3

    pop_third : slice_get third pop ≡ Some n
    pop_third = get_other second len pop l (λ e. omega (arith, e)) ∙ get_other (slice_set env pop n) (pop + 1) pop a (λ e. omega (arith, e)) ∙ get_same env pop s1

    st_third : slice_get third st ≡ Some o4
    st_third = get_other second len st l (λ e. omega (arith, e)) ∙ get_other (slice_set env pop n) (pop + 1) st a (λ e. omega (arith, e)) ∙ get_other env pop st n (λ e. omega (arith, e)) ∙ s4

    nt_fourth : slice_get fourth (pop + 1) ≡ Some a
    nt_fourth = get_other third st (pop + 1) x (λ e. omega (arith, e)) ∙ get_other second len (pop + 1) l (λ e. omega (arith, e)) ∙ get_same (slice_set env pop n) (pop + 1) (get_other env pop (pop + 1) n (λ e. omega (arith, e)) ∙ s2)

module _ (p : Program) (made : Making) (names : Names) (kind : StateType) (pop len st g : ℕ) (produced : Tree) (start m : Moment) (k c n a : ℕ) (l tops : List ℤ) (x y : ℤ) (o1 o2 o3 o4 : Val) where
  pub reduced_ends :
      EndsIn p (Eval produced) start k (Giving (Made tag.Tuple (vals_of (index n ∷ index a ∷ []))) m)
      → Shows names m.store.env (codes "~states") (Plain (Cell c))
      → slice_get m.store.cells c ≡ Some (States l)
      → n ≤ length l
      → take (length l - n) l ≡ tops
      → last_in tops ≡ Some x
      → typed kind x ≡ Some (number kind x)
      → number_in (codes "goto") made.names ≡ Some g
      → ((at : Moment) → EndsIn p (Enter g (number kind x ∷ index a ∷ [])) at 1 (Giving (number kind y) at))
      → names.next ≤ pop → pop + 1 < len → len < st
      → HasSlots pop 2 m.store.env
      → slice_get m.store.env pop ≡ Some o1 → slice_get m.store.env (pop + 1) ≡ Some o2 → slice_get m.store.env len ≡ Some o3 → slice_get m.store.env st ≡ Some o4
      → EndsIn p (Eval (one_after_another (reduced_lines made names (Some kind) pop (pop + 1) len st produced))) start (steps k 1) (Giving (empty tag.Absent) (with_slots (slots_after pop len st (index n) (index a) (index (length l)) (number kind x) m.store.env) (slice_set m.store.cells c (States (tops ++ y ∷ []))) m))
  reduced_ends made_it shows there enough cut_is top fits goto_is goes low apart last room s1 s2 s3 s4 =
      let env = m.store.env in
      let cells = m.store.cells in
      let u = index n in let v = index a in let w = index (length l) in let z = number kind x in
      let e2 = second names pop len st names.next low apart last env u v w z in
      let e3 = third names pop len st names.next low apart last env u v w z in
      let e4 = fourth names pop len st names.next low apart last env u v w z in
      let shows2 : Shows names e2 (codes "~states") (Plain (Cell c)) = kept shows (keeps_second names pop len st names.next low apart last env u v w z) in
      let shows3 : Shows names e3 (codes "~states") (Plain (Cell c)) = kept shows (keeps_third names pop len st names.next low apart last env u v w z) in
      let shows4 : Shows names e4 (codes "~states") (Plain (Cell c)) = kept shows (keeps_fourth names pop len st names.next low apart last env u v w z) in
      let there2 : slice_get (slice_set cells c (States tops)) c ≡ Some (States tops) = get_same cells c there in
      let m4 = with_slots e4 (slice_set cells c (States tops)) m in
      ends_as
      (block (block_next (parts {vs = vals_of (index n ∷ index a ∷ [])} made_it room)
      (block_next (write (apply_to (read_shown shows2 refl) (length_states p c _ l there)) (len_second names pop len st names.next low apart last env u v w z o1 o2 o3 o4 s1 s2 s3 s4))
      (block_next (ends_as (truncated names c len pop n l shows3 there (get_same e2 len (len_second names pop len st names.next low apart last env u v w z o1 o2 o3 o4 s1 s2 s3 s4)) (pop_third names pop len st names.next low apart last env u v w z o1 o2 o3 o4 s1 s2 s3 s4) enough) (ap (λ q. Giving unit (with_slots e3 (slice_set cells c (States q)) m)) cut_is))
      (block_next (write (apply_to (read_shown shows3 refl) (top_state p c _ kind tops x z there2 top fits)) (st_third names pop len st names.next low apart last env u v w z o1 o2 o3 o4 s1 s2 s3 s4))
      (block_next (pushed names c made g st (pop + 1) tops x y a kind shows4 there2 (get_same e3 st (st_third names pop len st names.next low apart last env u v w z o1 o2 o3 o4 s1 s2 s3 s4)) (nt_fourth names pop len st names.next low apart last env u v w z o1 o2 o3 o4 s1 s2 s3 s4) goto_is (goes m4))
      (sequence_one (plain refl))))))))
      (ap (λ q. Giving (empty tag.Absent) (with_slots e4 q m)) (set_twice cells c (States tops) (States (tops ++ y ∷ []))))
