-- The body of `parse` up to the call of the function of state 0, or to the return of a fault that it pulls.
use Rattle.std.proofs.Common.{◌≡◌, ℕ, ◌+◌, false, List, [], ◌∷◌, ◌++◌, length, pos, codes, Some, slice_get, refl, sym, ap, ◌∙◌, subst, arith, append_assoc}
use Rattle.std.specs.Str.{bytes_eq}
use Rattle.lp_core.specs.declared.expr.Leaf.TheVariants as leaf
use Rattle.lp_core.specs.declared.value.Tag.{Tag}
use Rattle.lp_core.specs.declared.value.Tag.TheVariants as tag
use Rattle.lp_core.specs.Datum.{Cell}
use Rattle.lp_core.specs.Effect.{set_value}
use Rattle.lp_core.specs.Reading.{empty}
use Rattle.lp_core.specs.Store.{Program, States}
use Rattle.lp_core.specs.Tree.{Tree, trees_of}
use Rattle.lp_core.specs.Tree as tree
use Rattle.lp_core.specs.Val.{Val, Plain}
use Rattle.lp_view.specs.PartLists.{Form, hole_of}
use Rattle.lp_maker.specs.Making.{Making, number_in, read_all, variant_tag}
use Rattle.lp_maker.specs.Slots.{Names}
use Rattle.lp_maker.specs.Constructs.{call_function, called, read, write}
use Rattle.lp_bodies.specs.Lines.{Lines, lines_of}
use Rattle.lp_ascent_bodies.specs.AscentStarts.{next_token, token_line, start_lines, lookahead_slot, states_slot, first_call, started, start_answer, start}
use Rattle.lp_code_laws.specs.Ends.Ends.{Moment, over, steps, Eval, Giving, Returning, EndsIn}
use Rattle.lp_code_laws.proofs.Ends.Blocks.{append_left}
use Rattle.lp_code_laws.proofs.Ends.Lists.{get_same, get_other, length_set}
use Rattle.lp_code_laws.proofs.Ends.Rules.{plain, block}
use Rattle.lp_code_laws.proofs.Ends.Steps.{steps_are}
use Rattle.lp_code_laws.proofs.Ends.Tags.{slot_is}
use Rattle.lp_code_laws.proofs.Ends.Values as values
use Rattle.lp_code_laws.specs.Slots.Shows.{Shows, HasRoom, Keeps}
use Rattle.lp_code_laws.proofs.Slots.Names.{let_other}
use Rattle.lp_code_laws.proofs.Slots.Slots.{get_within}
use Rattle.lp_code_laws.specs.Printed.Ran.{Ran}
use Rattle.lp_code_laws.proofs.Printed.Lines.{no_lines, ran_let}
use Rattle.lp_question_laws.specs.Reductions.Arguments.{ShowAll, reads, names_in}
use Rattle.lp_question_laws.proofs.Reductions.Arguments.{all_read}
use Rattle.lp_back_end_laws.specs.Call.Stretches.{CallsIn, Nothing}
use Rattle.lp_back_end_laws.proofs.Call.Callers.{calls_now, calls_match, calls_apply, calls_line, leads_append, leads_argument, leads_block, leads_call, leads_calls, leads_last}
use Rattle.lp_back_end_laws.proofs.Call.ParseLines.{arguments_lead, end_rest}
use Rattle.lp_back_end_laws.proofs.Call.StateBodies.{token_ran, token_left, token_others}

-- a name of a parameter is none of the lines'
pub record IsParameter (q : List ℕ) : Type 0 where
  pub no_lookahead : bytes_eq (codes "~lookahead") q ≡ false
  pub no_states : bytes_eq (codes "~states") q ≡ false

abbrev pub AreParameters : List (List ℕ) → Type 0
AreParameters [] = Unit {0}
AreParameters (q ∷ qs) = IsParameter q × AreParameters qs

module _ (made : Making) (names : Names) (form : Form) where
  abbrev pub l1 : Lines
  l1 = token_line made (lines_of names [])

  abbrev pub l2 : Lines
  l2 = start_lines made (lines_of names [])

  -- the slot of the answer
  abbrev pub spare : ℕ
  spare = l2.names.next

  abbrev pub start_tag : Tag
  start_tag = variant_tag (hole_of 3 form) made

  abbrev answer : Tree
  answer = start_answer made form l2.names (lookahead_slot names) (states_slot names)

  abbrev last : Tree
  last = started start_tag (spare + 1) answer

  module _ {p : Program} (m : Moment) where
    -- a fault is returned
    pub body_faults : (j : ℕ) (v : Val) (n : Moment) → EndsIn p (Eval (next_token made names)) m j (Returning v n) → EndsIn p (Eval (start made names form).value) m j (Returning v n)
    body_faults j v n ends = block (append_left l2.parts (last ∷ []) (append_left l1.parts (write (states_slot names) (tree.Plain leaf.NewStates) ∷ []) (token_left made (lines_of names []) (no_lines names m) v n ends)))

    -- what was pulled is the lookahead
    module _ (room : HasRoom 7 names m.store.env) (look : Val) (set : set_value look ≡ Some look) (j : ℕ) (n : Moment) (pulled : EndsIn p (Eval (next_token made names)) m j (Giving look n)) (keeps : Keeps names.next m.store.env n.store.env) where
      abbrev m2 : Moment
      m2 = slot_is (lookahead_slot names) look n

      abbrev pub list : ℕ
      list = length n.store.cells

      -- with the list of states, of which 0 is the only one
      abbrev pub at_first : Moment
      at_first = slot_is l1.names.next (Plain (Cell list)) (over (record m2.store { cells = n.store.cells ++ States (pos 0 ∷ []) ∷ [] }) m2)

      lines_ran : Ran p l2 m (steps (steps 0 j) 0) at_first
      lines_ran =
          let one = token_ran made (lines_of names []) (no_lines names m) look n pulled (record { room = omega (arith, room.room, keeps.many) }) in
          ran_let l1 (codes "~states") 0 one (plain refl) (record { room = omega (arith, room.room, keeps.many, length_set n.store.env (lookahead_slot names) look) })

      look_there : slice_get at_first.store.env (lookahead_slot names) ≡ Some look
      look_there =
          get_other m2.store.env l1.names.next (lookahead_slot names) (Plain (Cell list)) (λ e. omega (arith, e))
          ∙ get_same n.store.env (lookahead_slot names) (get_within n.store.env (lookahead_slot names) (omega (arith, room.room, keeps.many))).1

      list_there : slice_get at_first.store.env (states_slot names) ≡ Some (Plain (Cell list))
      list_there = get_same m2.store.env (states_slot names) (get_within m2.store.env (states_slot names) (omega (arith, room.room, keeps.many, length_set n.store.env (lookahead_slot names) look))).1

      parameter_then : (q : List ℕ) (v : Val) → IsParameter q → Shows names m.store.env q v → Shows l2.names at_first.store.env q v
      parameter_then q v apart shows = let_other (codes "~states") (Plain (Cell list)) apart.no_states (token_others made (lines_of names []) look m.store.env n.store.env q v keeps apart.no_lookahead shows)

      parameters_then : (qs : List (List ℕ)) (vs : List Val) → AreParameters qs → ShowAll names m.store.env qs vs → ShowAll l2.names at_first.store.env qs vs
      parameters_then [] [] a h = tt
      parameters_then [] (v ∷ vs) a h = absurd h
      parameters_then (q ∷ qs) [] a h = absurd h
      parameters_then (q ∷ qs) (v ∷ vs) a h = (parameter_then q v a.0 h.0, h.1, parameters_then qs vs a.1 h.2)

      pub body_calls : (f : ℕ) (keys : List (List ℕ)) (given : List Val) → number_in (codes "state0") made.names ≡ Some f → names_in made.prefix (hole_of 1 form) ≡ keys → AreParameters keys → ShowAll names m.store.env keys given
          → CallsIn p (Eval (start made names form).value) m j f ((given ++ empty tag.Tuple ∷ Plain (Cell list) ∷ []) ++ look ∷ []) at_first (end_rest start_tag spare (spare + 1))
      body_calls f keys given named keys_are apart shown =
          let rest = tree.Plain (leaf.Empty tag.Tuple) ∷ read (states_slot names) ∷ read (lookahead_slot names) ∷ [] in
          let args = read_all made.prefix l2.names (hole_of 1 form) ++ rest in
          let args_are : args ≡ reads l2.names keys ++ rest = ap (λ ts. ts ++ rest) (all_read made.prefix l2.names (hole_of 1 form) ∙ ap (reads l2.names) keys_are) in
          let vs = (given ++ empty tag.Tuple ∷ Plain (Cell list) ∷ []) ++ look ∷ [] in
          let arguments : CallsIn p (Eval (call_function f (reads l2.names keys ++ rest))) at_first 0 f (((given ++ empty tag.Tuple ∷ []) ++ Plain (Cell list) ∷ []) ++ look ∷ []) at_first Nothing =
          leads_calls leads_call (leads_calls (arguments_lead l2.names rest keys given [] (parameters_then keys given apart shown)) (leads_calls (leads_argument (plain refl)) (leads_calls (leads_argument (values.read list_there refl)) (leads_calls (leads_argument (values.read look_there set)) calls_now)))) in
          let same : (((given ++ empty tag.Tuple ∷ []) ++ Plain (Cell list) ∷ []) ++ look ∷ []) ≡ vs = ap (λ us. us ++ look ∷ []) (append_assoc given (empty tag.Tuple ∷ []) (Plain (Cell list) ∷ [])) in
          let call : CallsIn p (Eval (first_call made form l2.names (lookahead_slot names) (states_slot names))) at_first 0 f vs at_first Nothing =
          subst (λ us. CallsIn p (Eval (first_call made form l2.names (lookahead_slot names) (states_slot names))) at_first 0 f us at_first Nothing) same
          (subst (λ o. CallsIn p (Eval (called args o)) at_first 0 f (((given ++ empty tag.Tuple ∷ []) ++ Plain (Cell list) ∷ []) ++ look ∷ []) at_first Nothing) (sym named)
          (subst (λ ts. CallsIn p (Eval (call_function f ts)) at_first 0 f (((given ++ empty tag.Tuple ∷ []) ++ Plain (Cell list) ∷ []) ++ look ∷ []) at_first Nothing) (sym args_are) arguments)) in
          let whole = leads_calls leads_block (leads_calls (leads_append l2.parts (last ∷ []) lines_ran.ends) (leads_calls leads_last (leads_calls leads_block (calls_line (calls_apply (calls_match call)))))) in
          subst (λ k. CallsIn p (Eval (start made names form).value) m k f vs at_first (end_rest start_tag spare (spare + 1))) (omega (arith, steps_are (steps (steps 0 j) 0) 0, steps_are (steps 0 j) 0, steps_are 0 j)) whole
