-- The body of a state function: lines before its match on the lookahead, the match, and the loop behind it.
use Rattle.std.proofs.Common.{◌≡◌, ℕ, false, List, [], ◌∷◌, ◌++◌, map, codes, Option, Some, refl, sym, subst, arith, append_assoc}
use Rattle.std.specs.Prelude.{slice_set}
use Rattle.std.specs.Str.{bytes_eq}
use Rattle.lp_core.specs.Datum.{Unset}
use Rattle.lp_core.specs.Val.{Val, Plain}
use Rattle.lp_core.specs.Store.{Program}
use Rattle.lp_core.specs.Tree.{Tree, trees_of}
use Rattle.lp_form.specs.declared.part.Part.TheVariants as part
use Rattle.lp_tree.specs.ProgramTree.{leaf}
use Rattle.lp_view.specs.PartLists.{Form, over}
use Rattle.lp_maker.specs.Making.{Making}
use Rattle.lp_bodies.specs.Arms.{Gathered}
use Rattle.lp_bodies.specs.Lines.{Lines, lines_of}
use Rattle.lp_ascent_bodies.specs.declared.ascent.Lines.{Lines as Shared}
use Rattle.lp_ascent_bodies.specs.AscentStarts.{next_token, after_token, token_line, lookahead_slot}
use Rattle.lp_ascent_bodies.specs.AscentMoves.{slot_line}
use Rattle.lp_ascent_bodies.specs.AscentStates.{Stating, token_row, state_row, after_parts, token_match, state_value}
use Rattle.lp_code_laws.specs.Ends.Ends.{Moment, steps, Eval, Sequence, Giving, Returning, EndsIn}
use Rattle.lp_code_laws.proofs.Ends.Rules.{apply_left, block, block_left}
use Rattle.lp_code_laws.proofs.Ends.Blocks.{append, append_left}
use Rattle.lp_code_laws.proofs.Ends.Steps.{steps_are}
use Rattle.lp_code_laws.proofs.Ends.Tags.{slot_is}
use Rattle.lp_code_laws.specs.Slots.Shows.{Shows, HasRoom, Keeps}
use Rattle.lp_code_laws.proofs.Slots.Names.{kept, shows_after, let_other, let_this}
use Rattle.lp_code_laws.specs.Printed.Ran.{Ran}
use Rattle.lp_code_laws.proofs.Printed.Lines.{ran_let}
use Rattle.lp_back_end_laws.specs.Call.Stretches.{LeadsTo}
use Rattle.lp_back_end_laws.proofs.Call.Callers.{leads_in, leads_both, leads_block, leads_append, leads_next, leads_last}
use Rattle.lp_back_end_laws.proofs.Call.Cells.{slot_form, slot_lines}

-- ---- the line that pulls
module _ {p : Program} (made : Making) (l : Lines) {start m : Moment} {k j : ℕ} (ran : Ran p l start k m) where
  -- what was pulled is the lookahead
  pub token_ran : (v : Val) (n : Moment) → EndsIn p (Eval (next_token made l.names)) m j (Giving v n) → HasRoom 1 (after_token l.names) n.store.env → Ran p (token_line made l) start (steps k j) (slot_is (lookahead_slot l.names) v n)
  token_ran v n ends room = ran_let (lines_of (after_token l.names) l.parts) (codes "~lookahead") 0 (record { value = ran.value; ends = ran.ends }) ends room

  -- a fault is returned
  pub token_left : (v : Val) (n : Moment) → EndsIn p (Eval (next_token made l.names)) m j (Returning v n) → EndsIn p (Sequence (trees_of (token_line made l).parts) (Plain Unset)) start (steps k j) (Returning v n)
  token_left v n ends = append l.parts _ ran.ends (block_left (apply_left ends))

-- the name shows it, and so does its slot; other names show what they showed
pub token_shown : (made : Making) (l : Lines) (v : Val) (env : List Val) → HasRoom 1 (after_token l.names) env → Shows (token_line made l).names (slice_set env (lookahead_slot l.names) v) (codes "~lookahead") v
token_shown made l v env room = let_this (codes "~lookahead") (after_token l.names) env v room

pub token_others : (made : Making) (l : Lines) (v : Val) (before env : List Val) (q : List ℕ) (u : Val) → Keeps l.names.next before env → bytes_eq (codes "~lookahead") q ≡ false → Shows l.names before q u → Shows (token_line made l).names (slice_set env (lookahead_slot l.names) v) q u
token_others made l v before env q u keeps other h = let_other (codes "~lookahead") v other (shows_after 2 (kept h keeps))

-- ---- the whole body
module _ {p : Program} (shared : Shared) (parts : List Tree) (arms : Gathered) (after : Option Tree) {start m : Moment} {k : ℕ} where
  -- its lines lead to the match and what follows it
  pub body_leads : {w : Val} → EndsIn p (Sequence (trees_of parts) (Plain Unset)) start k (Giving w m) → LeadsTo p (Eval (state_value shared parts arms after)) start k (Sequence (trees_of (token_match shared arms ∷ after_parts after)) w) m
  body_leads {w} ends =
      let rest = token_match shared arms ∷ after_parts after in
      leads_both leads_block (subst (λ (ts : List Tree). LeadsTo p (Sequence (trees_of ts) (Plain Unset)) start k (Sequence (trees_of rest) w) m) (sym (append_assoc parts (token_match shared arms ∷ []) (after_parts after))) (leads_append parts rest ends))

  -- they return
  pub body_left : {v : Val} → EndsIn p (Sequence (trees_of parts) (Plain Unset)) start k (Returning v m) → EndsIn p (Eval (state_value shared parts arms after)) start k (Returning v m)
  body_left ends = block (append_left (parts ++ token_match shared arms ∷ []) _ (append_left parts _ ends))

-- ---- what follows the match
-- the match gives a value: what follows it goes on
pub match_goes_on : {p : Program} (shared : Shared) (arms : Gathered) {m : Moment} {turn : Tree} {u w : Val} {n : Moment} {j : ℕ} → EndsIn p (Eval (token_match shared arms)) m j (Giving w n) → LeadsTo p (Sequence (trees_of (token_match shared arms ∷ after_parts (Some turn))) u) m j (Eval turn) n
match_goes_on shared arms {j = j} ends =
    let same : steps j 0 ≡ j = omega (arith, steps_are j 0) in
    leads_in (leads_both (leads_next ends) leads_last) same

-- ---- its rows
-- the lines of slots, and the line that pulls
pub slot_rows : (s : Stating) (js : List ℕ) (rest : List Form) → over state_row s (map slot_form js ++ rest) ≡ over state_row (record s { lines = slot_lines js s.lines }) rest
slot_rows s [] rest = refl
slot_rows s (j ∷ js) rest = slot_rows (record s { lines = slot_line (slot_form j) s.lines }) js rest

pub token_row_is : (s : Stating) → state_row s (leaf part.NextToken []) ≡ token_row s
token_row_is s = refl
