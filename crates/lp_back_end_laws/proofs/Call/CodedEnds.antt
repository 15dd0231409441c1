-- A reduction's arm ends as its action does, once its cells are taken and its place is known.
use Rattle.std.proofs.Common.{◌≡◌, ℕ, ◌+◌, ◌*◌, ◌<◌, ◌≤◌, Bool, true, false, List, [], ◌++◌, length, map, codes, decimal, Some, Result, Ok, Err, refl, sym, ap, ◌∙◌, subst, arith}
use Rattle.std.specs.Prelude.{slice_get}
use Rattle.lp_repr.specs.declared.values.Loc.{Loc}
use Rattle.lp_driver.specs.Values.{Value, Failure}
use Rattle.lp_machine.specs.declared.calls.Acted.{Acted}
use Rattle.lp_agrees.specs.Machine.{as_user}
use Rattle.lp_question_laws.specs.Tables.Acts.{Acts}
use Rattle.lp_core.specs.declared.value.Tag.TheVariants as tag
use Rattle.lp_core.specs.Datum.{Parsed}
use Rattle.lp_core.specs.Effect.{set_value}
use Rattle.lp_core.specs.Reading.{wrapped, triple}
use Rattle.lp_core.specs.Store.{Program, Held}
use Rattle.lp_core.specs.Val.{Val, Plain}
use Rattle.lp_build.specs.declared.ascent_reduce.AscentSpan.{AscentSpan}
use Rattle.lp_view.specs.PartLists.{Form}
use Rattle.lp_maker.specs.Slots.{Names}
use Rattle.lp_maker.specs.Making.{Making, number_in}
use Rattle.lp_bodies.specs.Lines.{lines_of}
use Rattle.lp_ascent_bodies.specs.declared.ascent.Lines.{Lines as Shared}
use Rattle.lp_ascent_bodies.specs.AscentReductions.{ascent_reduce}
use Rattle.lp_code_laws.specs.Ends.Ends.{Moment}
use Rattle.lp_code_laws.specs.Slots.Shows.{Shows}
use Rattle.lp_question_laws.specs.Reductions.Arguments.{ShowAll, names_in}
use Rattle.lp_back_end_laws.proofs.Call.Cells.{over_cells, take_lines, Let}
use Rattle.lp_back_end_laws.proofs.Call.Loops.{result_of}
use Rattle.lp_back_end_laws.proofs.Call.Places.{Stands}
use Rattle.lp_back_end_laws.proofs.Call.ReduceArms.{span_lines, span_made}
use Rattle.lp_back_end_laws.proofs.Call.ReductionCode.{span_slots, Coded}
use Rattle.lp_back_end_laws.proofs.Call.ReductionEnds.{ArmEnds}
use Rattle.lp_back_end_laws.proofs.Call.ReductionRuns.{call_slots, gives, fails}

-- where no error can come, there is none
can_fail : (fallible : Bool) (result : Result Value Failure) (e : Failure) → (fallible ≡ false → (v : Value) × (result ≡ Ok v)) → result ≡ Err e → fallible ≡ true
can_fail true result e plain is = refl
can_fail false result e plain is = (let v = plain refl in let no = v.1 in cc)

module _ {p : Program} (shared : Shared) {made before : Making} {names : Names} {many : ℕ} {form : Form} {fallible : Bool} {action : ℕ} {generics args : List ℕ} {variant : ℕ} {js : List ℕ} {place : AscentSpan} {returning : Bool}
    (code : Coded p made before names many form fallible action generics args variant js place returning) {m : Moment} {cells : List Held} (value : ℕ → ℕ → Val) (taken : Let p m m 0 value js cells (lines_of names []) (take_lines js (lines_of names []))) {used : ℕ} (from to : Loc)
    (placed : Stands p m (over_cells taken.env cells m) taken.count used from to (take_lines js (lines_of names [])) (span_lines made shared place (take_lines js (lines_of names [])))) (slots : used ≡ span_slots place) (wide : length m.store.env ≡ many)
    (f : ℕ) (named : number_in (codes "super::action" ++ decimal action) before.names ≡ Some f) (vs : List Val) (shown : ShowAll (span_lines made shared place (take_lines js (lines_of names []))).names placed.env (names_in before.prefix args) vs)
    (cost : ℕ) (acted : Acted) (acts : Acts p f vs fallible acted cost (over_cells placed.env cells m)) (infallible : fallible ≡ false → (v : Value) × (acted.result ≡ Ok v)) where
  pub coded_ends : (look old : Val) → Shows names m.store.env (codes "~lookahead") look → set_value look ≡ Some look → shared.made < names.next → slice_get m.store.env shared.made ≡ Some old
      → ArmEnds p (ascent_reduce shared made names form).value m (1 + cost * (length acted.calls + 1)) names.next shared.made returning cells (m.calls ++ map as_user acted.calls) (λ v. result_of look (wrapped (tag.Variant variant) (triple from (Plain (Parsed v)) to))) acted.result
  coded_ends look old look_shown look_set below there =
      let there_named : number_in (codes "super::action" ++ decimal action) (span_made made place).names ≡ Some f = ap (number_in (codes "super::action" ++ decimal action)) code.names_are ∙ named in
      let there_shown = subst (λ (q : List ℕ). ShowAll (span_lines made shared place (take_lines js (lines_of names []))).names placed.env (names_in q args) vs) (sym code.prefix_is) shown in
      let room : names.next + (length js + (used + call_slots fallible)) ≤ length m.store.env = omega (arith, code.room, slots, wide) in
      record {
        gives = λ v is.
            let r = gives shared made names form js place fallible action generics args returning code.parts variant code.tagged value taken from to placed f there_named vs there_shown cost acted acts room look old v is look_shown look_set below there in
            record { env = r.env; count = r.count; few = r.few; keeps = r.keeps; ends = r.ends };
        fails = λ e is.
            let r = fails shared made names form js place fallible action generics args returning code.parts variant code.tagged value taken from to placed f there_named vs there_shown cost acted acts room e is (can_fail fallible acted.result e infallible is) in
            record { after = r.after; count = r.count; few = r.few; calls = r.calls; ends = r.ends };
      }
