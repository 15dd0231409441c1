-- The run of a reduction's arm, once its cells are taken and its place is known: the action is called, and ends it with its value or its error.
use Rattle.std.proofs.Common.{◌≡◌, ℕ, ◌+◌, ◌*◌, ◌<◌, ◌≤◌, Bool, true, false, List, [], ◌∷◌, ◌++◌, map, length, codes, decimal, Some, Result, Ok, Err, refl, subst, arith}
use Rattle.std.specs.Prelude.{slice_get, if◌then◌else◌}
use Rattle.lp_repr.specs.declared.values.Loc.{Loc}
use Rattle.lp_driver.specs.Values.{Value, Failure}
use Rattle.lp_machine.specs.declared.calls.Acted.{Acted}
use Rattle.lp_agrees.specs.Machine.{as_user}
use Rattle.lp_question_laws.specs.Tables.Acts.{Acts, acted_val}
use Rattle.lp_core.specs.declared.value.Tag.TheVariants as tag
use Rattle.lp_core.specs.Datum.{Parsed, Failed, Unset}
use Rattle.lp_core.specs.Effect.{set_value}
use Rattle.lp_core.specs.Val.{Val, Plain}
use Rattle.lp_core.specs.Reading.{wrapped, triple}
use Rattle.lp_core.specs.Store.{Program, Held, UserCall}
use Rattle.lp_core.specs.Tree.{trees_of}
use Rattle.lp_build.specs.declared.ascent_reduce.AscentSpan.{AscentSpan}
use Rattle.lp_build.specs.Ascent.{ascent_span}
use Rattle.lp_view.specs.PartLists.{Form, hole_of, parts_of}
use Rattle.lp_maker.specs.Slots.{Names}
use Rattle.lp_maker.specs.Making.{Making, number_in, variant_tag}
use Rattle.lp_bodies.specs.Lines.{Lines, lines_of}
use Rattle.lp_ascent_bodies.specs.declared.ascent.Lines.{Lines as Shared}
use Rattle.lp_ascent_bodies.specs.AscentReductions.{ascent_call_line, ascent_reduce}
use Rattle.lp_code_laws.specs.Ends.Ends.{Moment, moment, steps, Eval, Enter, Sequence, Giving, Returning, EndsIn}
use Rattle.lp_code_laws.proofs.Ends.Steps.{steps_are}
use Rattle.lp_code_laws.specs.Slots.Shows.{Shows, HasRoom, Keeps}
use Rattle.lp_code_laws.proofs.Slots.Slots.{keeps_both, keeps_fewer}
use Rattle.lp_code_laws.specs.Printed.Ran.{Ran}
use Rattle.lp_question_laws.specs.Reductions.Arguments.{ShowAll, names_in}
use Rattle.lp_back_end_laws.proofs.Call.Cells.{over_cells, take_form, take_lines, Let}
use Rattle.lp_back_end_laws.proofs.Call.Loops.{result_of}
use Rattle.lp_back_end_laws.proofs.Call.Places.{Stands}
use Rattle.lp_back_end_laws.proofs.Call.ReduceArms.{call_form, called, Valued, plain_valued, tried_valued, tried_returns, answered, span_lines, span_made, reduce_ends, reduce_returns}
use Rattle.lp_back_end_laws.proofs.Call.Transitions.{return_forms}

-- the slots of an action's call
abbrev pub call_slots : Bool → ℕ
call_slots fallible = if fallible then 2 else 1

-- the action's value is let be the nonterminal
valued_by : {p : Program} (fallible : Bool) (made : Making) (action : ℕ) (generics args : List ℕ) (f : ℕ) (named : number_in (codes "super::action" ++ decimal action) made.names ≡ Some f) (l : Lines) {start m : Moment} {k j : ℕ} (ran : Ran p l start k m) (vs : List Val) (shown : ShowAll l.names m.store.env (names_in made.prefix args) vs) (later : List UserCall)
    (result : Result Value Failure) (v : Value) → result ≡ Ok v → EndsIn p (Enter f vs) m j (Giving (acted_val fallible result) (called later m)) → HasRoom (call_slots fallible) l.names m.store.env
    → Valued p start m (k + j) (call_slots fallible) (Plain (Parsed v)) later l (ascent_call_line made (call_form fallible action generics args) l)
valued_by {p} false made action generics args f named l {m = m} {j = j} ran vs shown later result v is ends room =
    plain_valued made action generics args f named l ran vs shown later (Plain (Parsed v)) (subst (λ (r : Result Value Failure). EndsIn p (Enter f vs) m j (Giving (acted_val false r) (called later m))) is ends) room
valued_by {p} true made action generics args f named l {m = m} {j = j} ran vs shown later result v is ends room =
    tried_valued made action generics args f named l ran vs shown later (Plain (Parsed v)) refl (subst (λ (r : Result Value Failure). EndsIn p (Enter f vs) m j (Giving (acted_val true r) (called later m))) is ends) room

-- its error is returned
fails_by : {p : Program} (fallible : Bool) (made : Making) (action : ℕ) (generics args : List ℕ) (f : ℕ) (named : number_in (codes "super::action" ++ decimal action) made.names ≡ Some f) (l : Lines) {start m : Moment} {k j : ℕ} (ran : Ran p l start k m) (vs : List Val) (shown : ShowAll l.names m.store.env (names_in made.prefix args) vs) (later : List UserCall)
    (result : Result Value Failure) (e : Failure) → result ≡ Err e → fallible ≡ true → EndsIn p (Enter f vs) m j (Giving (acted_val fallible result) (called later m)) → HasRoom (call_slots fallible) l.names m.store.env
    → (after : Moment) × (after.calls ≡ later) × EndsIn p (Sequence (trees_of (ascent_call_line made (call_form fallible action generics args) l).parts) (Plain Unset)) start (steps k (steps j 0)) (Returning (wrapped tag.Failure (Plain (Failed e))) after)
fails_by false made action generics args f named l ran vs shown later result e is can ends room = absurd cc
fails_by {p} true made action generics args f named l {m = m} {j = j} ran vs shown later result e is can ends room =
    let one : HasRoom 1 l.names m.store.env = record { room = omega (arith, room.room) } in
    let r = tried_returns made action generics args f named l ran vs shown later (Plain (Failed e)) refl (subst (λ (r : Result Value Failure). EndsIn p (Enter f vs) m j (Giving (acted_val true r) (called later m))) is ends) one in
    (_, refl, r)

module _ {p : Program} (shared : Shared) (made : Making) (names : Names) (form : Form) (js : List ℕ) (place : AscentSpan) (fallible : Bool) (action : ℕ) (generics args : List ℕ) (returning : Bool) (parts : parts_of form ≡ map take_form js ++ (ascent_span place ∷ call_form fallible action generics args ∷ return_forms returning))
    (variant : ℕ) (tagged : variant_tag (hole_of 0 form) (span_made made place) ≡ tag.Variant variant) {m : Moment} {cells : List Held} (value : ℕ → ℕ → Val) (taken : Let p m m 0 value js cells (lines_of names []) (take_lines js (lines_of names [])))
    {used : ℕ} (from to : Loc) (placed : Stands p m (over_cells taken.env cells m) taken.count used from to (take_lines js (lines_of names [])) (span_lines made shared place (take_lines js (lines_of names []))))
    (f : ℕ) (named : number_in (codes "super::action" ++ decimal action) (span_made made place).names ≡ Some f) (vs : List Val) (shown : ShowAll (span_lines made shared place (take_lines js (lines_of names []))).names placed.env (names_in (span_made made place).prefix args) vs)
    (cost : ℕ) (acted : Acted) (acts : Acts p f vs fallible acted cost (over_cells placed.env cells m)) (room : names.next + (length js + (used + call_slots fallible)) ≤ length m.store.env) where
  abbrev lines : Lines
  lines = span_lines made shared place (take_lines js (lines_of names []))

  -- the calls of user code, with the action's
  abbrev pub later : List UserCall
  later = m.calls ++ map as_user acted.calls

  fits : HasRoom (call_slots fallible) lines.names placed.env
  fits = record { room = omega (arith, room, placed.next, taken.next, placed.keeps.many, taken.keeps.many) }

  -- it has a value
  pub record Given (look : Val) (v : Value) : Type 0 where
    pub env : List Val
    pub count : ℕ
    pub few : count ≤ 1 + cost * (length acted.calls + 1)
    pub keeps : Keeps names.next m.store.env env
    pub ends : EndsIn p (Eval (ascent_reduce shared made names form).value) m count (answered returning shared.made (result_of look (wrapped (tag.Variant variant) (triple from (Plain (Parsed v)) to))) (moment (record { env = env; cells = cells; taken = m.store.taken }) later))

  pub gives : (look old : Val) (v : Value) → acted.result ≡ Ok v → Shows names m.store.env (codes "~lookahead") look → set_value look ≡ Some look → shared.made < names.next → slice_get m.store.env shared.made ≡ Some old → Given look v
  gives look old v is look_shown look_set below there =
      let valued = valued_by fallible (span_made made place) action generics args f named lines placed.ran vs shown later acted.result v is acts.ends fits in
      record {
        env = valued.env;
        count = valued.count;
        few = omega (arith, valued.counted, placed.few, taken.counted, acts.few);
        keeps = keeps_both taken.keeps (keeps_both (keeps_fewer placed.keeps (omega (arith, taken.next))) (keeps_fewer valued.keeps (omega (arith, taken.next, placed.next))));
        ends = reduce_ends shared made names form js place fallible action generics args returning parts variant tagged value taken from to placed acts.steps look (Plain (Parsed v)) old later valued look_shown look_set refl below there;
      }

  -- it fails
  pub record Failing (e : Failure) : Type 0 where
    pub after : Moment
    pub count : ℕ
    pub few : count ≤ 1 + cost * (length acted.calls + 1)
    pub calls : after.calls ≡ later
    pub ends : EndsIn p (Eval (ascent_reduce shared made names form).value) m count (Returning (wrapped tag.Failure (Plain (Failed e))) after)

  pub fails : (e : Failure) → acted.result ≡ Err e → fallible ≡ true → Failing e
  fails e is can =
      let r = fails_by fallible (span_made made place) action generics args f named lines placed.ran vs shown later acted.result e is can acts.ends fits in
      record {
        after = r.0;
        count = steps placed.count (steps acts.steps 0);
        few = omega (arith, steps_are placed.count (steps acts.steps 0), steps_are acts.steps 0, placed.few, taken.counted, acts.few);
        calls = r.1;
        ends = reduce_returns shared made names form js place fallible action generics args returning parts variant tagged value taken (wrapped tag.Failure (Plain (Failed e))) r.0 r.2;
      }
