-- A turn of the loop of gotos: the test of the top slot, the two parts of what a state function gave, and the arm.
use Rattle.std.proofs.Common.{◌≡◌, ℕ, ◌+◌, List, [], ◌∷◌, ◌++◌, codes, Some, None, refl, ap, ◌∙◌, subst, arith}
use Rattle.std.specs.Prelude.{slice_get, slice_set}
use Rattle.lp_core.specs.declared.value.Tag.TheVariants as tag
use Rattle.lp_core.specs.Datum.{Unset, Cell}
use Rattle.lp_core.specs.Val.{Val, Plain, Made, vals_of}
use Rattle.lp_core.specs.Tree.{Tree, Loop, trees_of}
use Rattle.lp_core.specs.Reading.{wrapped}
use Rattle.lp_core.specs.Store.{Program, Slot}
use Rattle.lp_core.specs.Effect.{set_value, unit, write_over}
use Rattle.lp_core.specs.CaseMeaning.{chosen}
use Rattle.lp_core.specs.Eval.{count}
use Rattle.lp_view.specs.PartLists.{Form}
use Rattle.lp_maker.specs.Slots.{Names}
use Rattle.lp_bodies.specs.Arms.{Gathered}
use Rattle.lp_bodies.specs.Lines.{numbered}
use Rattle.lp_ascent_bodies.specs.declared.ascent.Lines.{Lines as Shared}
use Rattle.lp_ascent_bodies.specs.AscentReductions.{give_made}
use Rattle.lp_ascent_bodies.specs.AscentGotos.{empty_check, goto_other, goto_turn}
use Rattle.lp_code_laws.specs.Ends.Ends.{Moment, over, Eval, Sequence, Giving, Returning, EndsIn}
use Rattle.lp_code_laws.proofs.Ends.Rules.{plain, apply_to, give_back, if_true, if_false, block, argument, call}
use Rattle.lp_code_laws.proofs.Ends.Blocks.{append_left}
use Rattle.lp_code_laws.proofs.Ends.Calls.{joined}
use Rattle.lp_code_laws.proofs.Ends.Cells.{is_empty_cell}
use Rattle.lp_code_laws.proofs.Ends.Lists.{get_same, get_other, set_twice}
use Rattle.lp_code_laws.proofs.Ends.Loops.{last_turn}
use Rattle.lp_code_laws.proofs.Ends.Values.{read, take, parts}
use Rattle.lp_code_laws.specs.Ends.Slots.{HasSlots}
use Rattle.lp_code_laws.specs.Slots.Shows.{Shows}
use Rattle.lp_code_laws.proofs.Printed.Lines.{read_shown}
use Rattle.lp_back_end_laws.specs.Call.Stretches.{LeadsTo}
use Rattle.lp_back_end_laws.proofs.Call.Callers.{leads_both, leads_last, leads_append, leads_next, leads_block, leads_match, leads_body}

module _ {p : Program} (shared : Shared) {m : Moment} {inner : Val} (made : slice_get m.store.env shared.made ≡ Some inner) (set : set_value inner ≡ Some inner) where
  -- `return Ok(~result);`
  pub made_given : EndsIn p (Eval (give_made shared)) m 0 (Returning (wrapped tag.Success inner) m)
  made_given = give_back (apply_to (read made set) refl)

  -- the top slot's cell is empty: the result is returned
  pub check_empty : (names : Names) (line : Form) (c : ℕ) → Shows names m.store.env (numbered (codes "~sym") line) (Plain (Cell c)) → slice_get m.store.cells c ≡ Some (Slot None) → EndsIn p (Eval (empty_check shared names line)) m 0 (Returning (wrapped tag.Success inner) m)
  check_empty names line c shows there = if_true (apply_to (read_shown shows refl) (is_empty_cell p c m.store None there)) refl made_given

-- it is full: nothing happens
pub check_full : {p : Program} (shared : Shared) {m : Moment} (names : Names) (line : Form) (c : ℕ) (v : Val) → Shows names m.store.env (numbered (codes "~sym") line) (Plain (Cell c)) → slice_get m.store.cells c ≡ Some (Slot (Some v)) → EndsIn p (Eval (empty_check shared names line)) m 0 (Giving unit m)
check_full {p} shared {m} names line c v shows there = if_false (apply_to (read_shown shows refl) (is_empty_cell p c m.store (Some v) there)) refl (plain refl)

-- the lookahead and the symbol of a result, in two slots
abbrev pub result_of : Val → Val → Val
result_of look symbol = Made tag.Tuple (vals_of (look ∷ symbol ∷ []))

abbrev pub parted_slots : ℕ → Val → Val → List Val → List Val
parted_slots token look symbol env = slice_set (slice_set env token look) (token + 1) symbol

abbrev pub with_parts : ℕ → Val → Val → Moment → Moment
with_parts token look symbol m = over (record m.store { env = parted_slots token look symbol m.store.env }) m

module _ {p : Program} (shared : Shared) (token : ℕ) (checks : List Tree) (arms : Gathered) (other : Tree) {m : Moment} where
  -- a check returns
  pub turn_left : {v : Val} → EndsIn p (Sequence (trees_of checks) (Plain Unset)) m 0 (Returning v m) → EndsIn p (Eval (Loop (goto_turn shared token (token + 1) checks arms other))) m 1 (Returning v m)
  turn_left h = last_turn (block (append_left checks _ h))

  -- none does: an arm, or the last body
  pub turn_leads : {w look symbol : Val} (i : ℕ) {body : Tree} → EndsIn p (Sequence (trees_of checks) (Plain Unset)) m 0 (Giving w m) → slice_get m.store.env shared.made ≡ Some (result_of look symbol) → HasSlots token 2 m.store.env → set_value symbol ≡ Some symbol
      → chosen p arms.cases (count (trees_of (arms.bodies ++ other ∷ []))) symbol ≡ Some i → slice_get (arms.bodies ++ other ∷ []) i ≡ Some body → LeadsTo p (Eval (goto_turn shared token (token + 1) checks arms other)) m 0 (Eval body) (with_parts token look symbol m)
  turn_leads {w} {look} {symbol} i {body} checked made room set is at =
      let env = m.store.env in
      let parted = parted_slots token look symbol env in
      let o1 = room.slot token (omega arith) (omega arith) in
      let o2 = room.slot (token + 1) (omega arith) (omega arith) in
      let second : slice_get (slice_set env token look) (token + 1) ≡ Some o2.0 = get_other env token (token + 1) look (λ e. omega (arith, e)) ∙ o2.1 in
      let there : slice_get parted (token + 1) ≡ Some symbol = get_same (slice_set env token look) (token + 1) second in
      let bare = slice_set parted (token + 1) (Plain Unset) in
      let gone : slice_get bare (token + 1) ≡ Some (Plain Unset) = get_same parted (token + 1) there in
      let again : slice_set bare (token + 1) symbol ≡ parted = set_twice parted (token + 1) (Plain Unset) symbol ∙ set_twice (slice_set env token look) (token + 1) symbol symbol in
      let body_leads : LeadsTo p _ _ 0 (Eval body) (over (record m.store { env = slice_set bare (token + 1) symbol }) m) = leads_body (arms.bodies ++ other ∷ []) at in
      subst (λ (e : List Val). LeadsTo p (Eval (goto_turn shared token (token + 1) checks arms other)) m 0 (Eval body) (over (record m.store { env = e }) m)) again
      (leads_both leads_block (leads_both (leads_append checks _ checked) (leads_both (leads_next (parts {vs = vals_of (look ∷ symbol ∷ [])} (read made refl) room)) (leads_both leads_last
      (leads_both (leads_match (take there set) is (ap (write_over (token + 1) symbol _) gone)) body_leads)))))

  -- the last body: what was given in two parts is returned as it was
  pub other_given : {look symbol : Val} → HasSlots token 2 m.store.env → set_value look ≡ Some look → set_value symbol ≡ Some symbol
      → EndsIn p (Eval (goto_other token (token + 1))) (with_parts token look symbol m) 0 (Returning (wrapped tag.Success (result_of look symbol)) (with_parts token (Plain Unset) (Plain Unset) (with_parts token look symbol m)))
  other_given {look} {symbol} room set_look set =
      let env = m.store.env in
      let one = slice_set env token look in
      let parted = parted_slots token look symbol env in
      let o1 = room.slot token (omega arith) (omega arith) in
      let o2 = room.slot (token + 1) (omega arith) (omega arith) in
      let second : slice_get one (token + 1) ≡ Some o2.0 = get_other env token (token + 1) look (λ e. omega (arith, e)) ∙ o2.1 in
      let at_token : slice_get parted token ≡ Some look = get_other one (token + 1) token symbol (λ e. omega (arith, e)) ∙ get_same env token o1.1 in
      let at_made : slice_get (slice_set parted token (Plain Unset)) (token + 1) ≡ Some symbol = get_other parted token (token + 1) (Plain Unset) (λ e. omega (arith, e)) ∙ get_same one (token + 1) second in
      give_back (apply_to (call (argument (take at_token set_look) (argument (take at_made set) (joined refl refl)))) refl)
