-- Cells of a state function: new ones for slots that are made optional, and symbols that are taken out in order.
use Rattle.std.proofs.Common.{◌≡◌, ℕ, zero, suc, ◌+◌, ◌<◌, ◌^◌, false, List, [], ◌∷◌, ◌++◌, length, map, decimal, Some, None, refl, sym, ◌∙◌, subst, arith, append_assoc, append-nil, length-append}
use Rattle.std.specs.Prelude.{slice_get, slice_set}
use Rattle.std.specs.Str.{bytes_eq}
use Rattle.lp_core.specs.Datum.{Cell}
use Rattle.lp_core.specs.Val.{Val, Plain}
use Rattle.lp_core.specs.Store.{Program, Held, Slot}
use Rattle.lp_core.specs.Effect.{set_value}
use Rattle.lp_form.specs.declared.part.Part.TheVariants as part
use Rattle.lp_build.specs.Built.{row}
use Rattle.lp_view.specs.PartLists.{Form}
use Rattle.lp_maker.specs.Slots.{Names, after_slots, slot_of}
use Rattle.lp_bodies.specs.Lines.{Lines}
use Rattle.lp_ascent_bodies.specs.AscentReductions.{take_line}
use Rattle.lp_ascent_bodies.specs.AscentMoves.{slot_line}
use Rattle.lp_code_laws.specs.Ends.Ends.{Moment, moment, steps}
use Rattle.lp_code_laws.proofs.Ends.Steps.{steps_are}
use Rattle.lp_code_laws.proofs.Ends.Rules.{apply_to}
use Rattle.lp_code_laws.proofs.Ends.Cells.{take_out}
use Rattle.lp_code_laws.proofs.Ends.Lists.{get_other, length_set}
use Rattle.lp_code_laws.specs.Slots.Shows.{Shows, HasRoom, Keeps}
use Rattle.lp_code_laws.proofs.Slots.Names.{let_other, let_this, named_other}
use Rattle.lp_code_laws.proofs.Slots.Slots.{keeps_all, keeps_both, keeps_set, keeps_fewer}
use Rattle.lp_code_laws.specs.Printed.Ran.{Ran}
use Rattle.lp_code_laws.proofs.Printed.Lines.{read_shown, ran_let}
use Rattle.lp_question_laws.specs.Reductions.Outer.{sym_name}
use Rattle.lp_question_laws.proofs.Reductions.Popping.{sym_apart}

-- over other slots and cells
abbrev pub over_cells : List Val → List Held → Moment → Moment
over_cells env cells m = moment (record { env = env; cells = cells; taken = m.store.taken }) m.calls

abbrev pub slot_form : ℕ → Form
slot_form j = row part.SlotLine (decimal j ∷ []) ∷ []

abbrev pub take_form : ℕ → Form
take_form j = row part.TakeLine (decimal j ∷ []) ∷ []

-- the lines of these numbers
abbrev pub slot_lines : List ℕ → Lines → Lines
slot_lines [] l = l
slot_lines (j ∷ js) l = slot_lines js (slot_line (slot_form j) l)

abbrev pub take_lines : List ℕ → Lines → Lines
take_lines [] l = l
take_lines (j ∷ js) l = take_lines js (take_line (take_form j) l)

-- these cells are emptied
abbrev pub emptied : (ℕ → ℕ) → List ℕ → List Held → List Held
emptied cell [] cells = cells
emptied cell (j ∷ js) cells = emptied cell js (slice_set cells (cell j) (Slot None))

-- a name is none of these symbols'
abbrev pub IsNone : List ℕ → List ℕ → Type 0
IsNone [] q = Unit {0}
IsNone (j ∷ js) q = (bytes_eq (sym_name j) q ≡ false) × IsNone js q

-- no number comes twice, nor does a cell
abbrev pub AreApart : (ℕ → ℕ) → List ℕ → Type 0
AreApart cell [] = Unit {0}
AreApart cell (j ∷ js) = ((i x : ℕ) → slice_get js i ≡ Some x → (j ≡ x → ⊥) × (cell j ≡ cell x → ⊥)) × AreApart cell js

-- the name of each shows its cell, which holds its value
abbrev pub AreFull : (ℕ → ℕ) → (ℕ → Val) → List ℕ → Names → List Val → List Held → Type 0
AreFull cell value js names env cells =
    (i j : ℕ) → slice_get js i ≡ Some j → (j < 2 ^ 64) × Shows names env (sym_name j) (Plain (Cell (cell j))) × (slice_get cells (cell j) ≡ Some (Slot (Some (value j))))

-- the name of each shows its value
abbrev pub AreValues : (ℕ → Val) → List ℕ → Names → List Val → Type 0
AreValues value js names env = (i j : ℕ) → slice_get js i ≡ Some j → (j < 2 ^ 64) × Shows names env (sym_name j) (value j) × (set_value (value j) ≡ Some (value j))

-- lines have let the symbols of these numbers be these values, over other cells
pub record Let (p : Program) (start m : Moment) (k : ℕ) (value : ℕ → ℕ → Val) (js : List ℕ) (cells : List Held) (l after : Lines) : Type 0 where
  pub env : List Val
  pub count : ℕ
  pub ran : Ran p after start count (over_cells env cells m)
  pub counted : count ≡ k
  pub next : after.names.next ≡ l.names.next + length js
  pub keeps : Keeps l.names.next m.store.env env
  pub shown : (i j : ℕ) → slice_get js i ≡ Some j → Shows after.names env (sym_name j) (value i j)
  pub known : (q : List ℕ) → IsNone js q → slot_of q after.names ≡ slot_of q l.names

-- other names show what they showed, in the same slots
pub others_shown : {p : Program} {start m : Moment} {k : ℕ} {value : ℕ → ℕ → Val} {js : List ℕ} {cells : List Held} {l after : Lines} (t : Let p start m k value js cells l after) (q : List ℕ) (u : Val) → IsNone js q → Shows l.names m.store.env q u → Shows after.names t.env q u
others_shown t q u none h = record { slot = h.slot; is = t.known q none ∙ h.is; below = omega (arith, h.below, t.next); held = t.keeps.same h.slot h.below ∙ h.held }

-- the first of some, and the others
by_place : (P : ℕ → ℕ → Type 0) (j : ℕ) (js : List ℕ) → P 0 j → ((i x : ℕ) → slice_get js i ≡ Some x → P (suc i) x) → (i x : ℕ) → slice_get (j ∷ js) i ≡ Some x → P i x
by_place P j js first rest zero x at = let same : j ≡ x = cc in subst (P 0) same first
by_place P j js first rest (suc i) x at = rest i x at

pub none_of : (js : List ℕ) (k : ℕ) → k < 2 ^ 64 → ((i j : ℕ) → slice_get js i ≡ Some j → (j < 2 ^ 64) × (k ≡ j → ⊥)) → IsNone js (sym_name k)
none_of [] k small h = tt
none_of (j ∷ js) k small h = (sym_apart j k (h 0 j refl).0 small (λ e. (h 0 j refl).1 (sym e)), none_of js k small (λ i x at. h (suc i) x at))

module _ {p : Program} where
  -- `let ~symj = ~symj.take().unwrap();`
  pub taken_line : (j : ℕ) (l : Lines) {start m : Moment} {k : ℕ} (c : ℕ) (v : Val) → Ran p l start k m → Shows l.names m.store.env (sym_name j) (Plain (Cell c)) → slice_get m.store.cells c ≡ Some (Slot (Some v)) → HasRoom 1 l.names m.store.env
      → Ran p (take_line (take_form j) l) start (steps k 0) (over_cells (slice_set m.store.env l.names.next v) (slice_set m.store.cells c (Slot None)) m)
  taken_line j l {m = m} c v ran shows there room = ran_let l (sym_name j) 0 ran (apply_to (read_shown shows refl) (take_out p c m.store v there)) room

  module _ (start : Moment) (cell : ℕ → ℕ) (value : ℕ → Val) where
    pub all_taken : (js : List ℕ) (l : Lines) (m : Moment) (k : ℕ) → Ran p l start k m → HasRoom (length js) l.names m.store.env → AreApart cell js → AreFull cell value js l.names m.store.env m.store.cells
        → Let p start m k (λ i j. value j) js (emptied cell js m.store.cells) l (take_lines js l)
    all_taken [] l m k ran room apart full = record {
      env = m.store.env;
      count = k;
      ran = ran;
      counted = refl;
      next = omega arith;
      keeps = keeps_all l.names.next m.store.env;
      shown = λ i j at. absurd cc;
      known = λ q none. refl;
    }
    all_taken (j ∷ js) l m k ran room apart full =
        let f = full 0 j refl in
        let one : HasRoom 1 l.names m.store.env = record { room = omega (arith, room.room) } in
        let l1 = take_line (take_form j) l in
        let env1 = slice_set m.store.env l.names.next (value j) in
        let cells1 = slice_set m.store.cells (cell j) (Slot None) in
        let m1 = over_cells env1 cells1 m in
        let apart1 : AreFull cell value js l1.names env1 cells1 =
        λ i x at.
        let g = full (suc i) x at in
        let a = apart.0 i x at in
        (g.0, let_other (sym_name j) (value j) (sym_apart j x f.0 g.0 a.0) g.1, get_other m.store.cells (cell j) (cell x) (Slot None) a.1 ∙ g.2) in
        let r = all_taken js l1 m1 (steps k 0) (taken_line j l (cell j) (value j) ran f.1 f.2 one) (record { room = omega (arith, room.room, length_set m.store.env l.names.next (value j)) }) apart.1 apart1 in
        record {
          env = r.env;
          count = r.count;
          ran = r.ran;
          counted = omega (arith, r.counted, steps_are k 0);
          next = omega (arith, r.next);
          keeps = keeps_both (keeps_set l.names.next l.names.next m.store.env (value j) (omega arith)) (keeps_fewer r.keeps (omega arith));
          shown = by_place (λ i x. Shows (take_lines js l1).names r.env (sym_name x) (value x)) j js (others_shown r (sym_name j) (value j) (none_of js j f.0 (λ i x at. ((full (suc i) x at).0, (apart.0 i x at).0))) (let_this (sym_name j) l.names m.store.env (value j) one)) r.shown;
          known = λ q none. r.known q none.1 ∙ named_other q (sym_name j) l.names.next (after_slots 1 l.names) none.0;
        }

  -- `let ~symj = &mut Some(~symj);`
  pub new_line : (j : ℕ) (l : Lines) {start m : Moment} {k : ℕ} (v : Val) → Ran p l start k m → Shows l.names m.store.env (sym_name j) v → set_value v ≡ Some v → HasRoom 1 l.names m.store.env
      → Ran p (slot_line (slot_form j) l) start (steps k 0) (over_cells (slice_set m.store.env l.names.next (Plain (Cell (length m.store.cells)))) (m.store.cells ++ Slot (Some v) ∷ []) m)
  new_line j l v ran shows set room = ran_let l (sym_name j) 0 ran (apply_to (read_shown shows set) refl) room

  module _ (start : Moment) (value : ℕ → Val) where
    pub all_new : (js : List ℕ) (l : Lines) (m : Moment) (k : ℕ) → Ran p l start k m → HasRoom (length js) l.names m.store.env → AreApart (λ j. j) js → AreValues value js l.names m.store.env
        → Let p start m k (λ i j. Plain (Cell (length m.store.cells + i))) js (m.store.cells ++ map (λ j. Slot (Some (value j))) js) l (slot_lines js l)
    all_new [] l m k ran room apart full = record {
      env = m.store.env;
      count = k;
      ran = subst (λ (cells : List Held). Ran p l start k (over_cells m.store.env cells m)) (sym (append-nil m.store.cells)) ran;
      counted = refl;
      next = omega arith;
      keeps = keeps_all l.names.next m.store.env;
      shown = λ i j at. absurd cc;
      known = λ q none. refl;
    }
    all_new (j ∷ js) l m k ran room apart full =
        let f = full 0 j refl in
        let one : HasRoom 1 l.names m.store.env = record { room = omega (arith, room.room) } in
        let l1 = slot_line (slot_form j) l in
        let v = Plain (Cell (length m.store.cells)) in
        let env1 = slice_set m.store.env l.names.next v in
        let cells1 = m.store.cells ++ Slot (Some (value j)) ∷ [] in
        let m1 = over_cells env1 cells1 m in
        let full1 : AreValues value js l1.names env1 =
        λ i x at.
        let g = full (suc i) x at in
        (g.0, let_other (sym_name j) v (sym_apart j x f.0 g.0 (apart.0 i x at).0) g.1, g.2) in
        let r = all_new js l1 m1 (steps k 0) (new_line j l (value j) ran f.1 f.2 one) (record { room = omega (arith, room.room, length_set m.store.env l.names.next v) }) apart.1 full1 in
        let grown : cells1 ++ map (λ j. Slot (Some (value j))) js ≡ m.store.cells ++ map (λ j. Slot (Some (value j))) (j ∷ js) = append_assoc m.store.cells (Slot (Some (value j)) ∷ []) (map (λ j. Slot (Some (value j))) js) in
        let longer : length cells1 ≡ length m.store.cells + 1 = length-append m.store.cells (Slot (Some (value j)) ∷ []) in
        let none : length m.store.cells ≡ length m.store.cells + 0 = omega arith in
        record {
          env = r.env;
          count = r.count;
          ran = subst (λ (cells : List Held). Ran p (slot_lines js l1) start r.count (over_cells r.env cells m)) grown r.ran;
          counted = omega (arith, r.counted, steps_are k 0);
          next = omega (arith, r.next);
          keeps = keeps_both (keeps_set l.names.next l.names.next m.store.env v (omega arith)) (keeps_fewer r.keeps (omega arith));
          shown = by_place (λ i x. Shows (slot_lines js l1).names r.env (sym_name x) (Plain (Cell (length m.store.cells + i)))) j js
              (subst (λ (n : ℕ). Shows (slot_lines js l1).names r.env (sym_name j) (Plain (Cell n))) none (others_shown r (sym_name j) v (none_of js j f.0 (λ i x at. ((full (suc i) x at).0, (apart.0 i x at).0))) (let_this (sym_name j) l.names m.store.env v one)))
              (λ i x at. let moved : length cells1 + i ≡ length m.store.cells + suc i = omega (arith, longer) in subst (λ (n : ℕ). Shows (slot_lines js l1).names r.env (sym_name x) (Plain (Cell n))) moved (r.shown i x at));
          known = λ q none. r.known q none.1 ∙ named_other q (sym_name j) l.names.next (after_slots 1 l.names) none.0;
        }
