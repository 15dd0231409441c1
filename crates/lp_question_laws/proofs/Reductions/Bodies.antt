-- What the lines of a reduction do, from the call of the action on.
use Rattle.std.proofs.Common.{◌≡◌, ℕ, ◌+◌, ◌<◌, ◌≤◌, ◌^◌, ℤ, Bool, true, false, List, [], ◌∷◌, ◌++◌, length, map, Some, Result, Ok, Err, refl, sym, subst, codes, decimal}
use Rattle.lp_repr.specs.declared.values.Loc.{Loc}
use Rattle.lp_driver.specs.Values.{Spanned, Value, Failure}
use Rattle.lp_core.specs.declared.value.Tag.TheVariants as tag
use Rattle.lp_core.specs.Datum.{Cell}
use Rattle.lp_core.specs.Reading.{location}
use Rattle.lp_core.specs.Store.{Program, UserCall}
use Rattle.lp_core.specs.Val.{Val, Plain}
use Rattle.lp_view.specs.PartLists.{Form, over}
use Rattle.lp_maker.specs.Slots.{Names}
use Rattle.lp_maker.specs.Making.{Making, number_in, variant_tag}
use Rattle.lp_maker.specs.Constructs.{one_after_another}
use Rattle.lp_bodies.specs.Lines.{Lines}
use Rattle.lp_bodies.specs.Reductions.{work_of, reduce_line, call_line}
use Rattle.lp_machine.specs.declared.calls.Acted.{Acted}
use Rattle.lp_agrees.specs.Machine.{as_user}
use Rattle.lp_code_laws.specs.Ends.Ends.{Moment}
use Rattle.lp_code_laws.proofs.Ends.Rules.{block}
use Rattle.lp_code_laws.proofs.Ends.Blocks.{append_left}
use Rattle.lp_code_laws.specs.Slots.Shows.{Shows}
use Rattle.lp_question_laws.specs.Tables.Acts.{Acts}
use Rattle.lp_question_laws.specs.Reductions.Stacks.{over_two, Symbol}
use Rattle.lp_question_laws.specs.Reductions.Arguments.{ShowAll, names_in}
use Rattle.lp_question_laws.specs.Reductions.Outcomes.{Ended}
use Rattle.lp_question_laws.proofs.Reductions.Lasting.{outer_symbols}
use Rattle.lp_question_laws.proofs.Reductions.Spans.{Placed}
use Rattle.lp_question_laws.proofs.Reductions.Calling.{call_form, Valued, called_plain, called_checked, Failing, called_failing}
use Rattle.lp_question_laws.proofs.Reductions.Pushing.{outcome_form, start_given, symbol_pushed}

-- an action that can't fail gives a value
abbrev pub Gives : Bool → Acted → Type 0
Gives fallible acted = fallible ≡ false → (v : Value) × (acted.result ≡ Ok v)

-- how many slots the call takes
abbrev pub call_slots : Bool → ℕ
call_slots true = 2
call_slots false = 1

-- what is called, and what is pushed then
pub record Line : Type 0 where
  pub fallible : Bool
  pub starts : Bool
  pub action : ℕ
  pub generics : List ℕ
  pub args : List ℕ
  pub name : List ℕ
  pub count : ℕ
  pub nonterminal : ℕ

abbrev pub last_forms : Line → List Form
last_forms r = call_form r.fallible r.action r.generics r.args ∷ outcome_form r.starts r.name r.count r.nonterminal ∷ []

module _ {p : Program} (made : Making) (f cost : ℕ) (acted : Acted) (action : ℕ) (generics args : List ℕ) (named : number_in (codes "super::action" ++ decimal action) made.names ≡ Some f) {old : Names} {before : List Val} {start : Moment} {taken : ℕ} {ss : List ℤ} {l : List (Spanned Val)} {calls : List UserCall} {most used : ℕ} {xs : List Symbol} {at : Loc × Loc} {lines : Lines}
    (h : Placed p old before start taken ss l calls most used xs at lines) (list : Shows old before (codes "~symbols") (Plain (Cell 1))) (vs : List Val) (shown : ShowAll lines.names h.now (names_in made.prefix args) vs) (name : List ℕ) (count nonterminal variant : ℕ) (tagged : variant_tag name made ≡ tag.Variant variant) (small : count < 2 ^ 64) (few : nonterminal < 2 ^ 64) where
  abbrev after_calls : List UserCall
  after_calls = calls ++ map as_user acted.calls

  abbrev Ends : Bool → Bool → ℕ → Result Value Failure → Type 0
  Ends fallible starts steps result = Ended p (one_after_another (over reduce_line (work_of lines made) (last_forms (record { fallible = fallible; starts = starts; action = action; generics = generics; args = args; name = name; count = count; nonterminal = nonterminal }))).lines.parts) start old.next before taken ss l after_calls (most + steps) starts result variant count nonterminal at

  -- it has a value
  valued_ends : (fallible starts : Bool) (steps given : ℕ) (v : Value) → Valued made action generics args f cost acted named h.lined vs shown (most + steps) given v (call_line made (call_form fallible action generics args) lines) → Ends fallible starts steps (Ok v)
  valued_ends true true steps given v q =
      let r = start_given q.lined v q.value variant count nonterminal at in
      record { now = q.slots; many = r.count; few = r.few; keeps = q.lined.lasts.keeps; ends = block r.ends }
  valued_ends false true steps given v q =
      let r = start_given q.lined v q.value variant count nonterminal at in
      record { now = q.slots; many = r.count; few = r.few; keeps = q.lined.lasts.keeps; ends = block r.ends }
  valued_ends true false steps given v q =
      let r = symbol_pushed q.lined v q.value made name variant count nonterminal at tagged small few (q.kept (codes "~start") (location at.0) refl h.from) (q.kept (codes "~end") (location at.1) refl h.to) (q.lined.lasts.shown (codes "~symbols") (Plain (Cell 1)) outer_symbols list) in
      record { now = q.slots; many = r.count; few = r.few; keeps = q.lined.lasts.keeps; ends = block r.ends }
  valued_ends false false steps given v q =
      let r = symbol_pushed q.lined v q.value made name variant count nonterminal at tagged small few (q.kept (codes "~start") (location at.0) refl h.from) (q.kept (codes "~end") (location at.1) refl h.to) (q.lined.lasts.shown (codes "~symbols") (Plain (Cell 1)) outer_symbols list) in
      record { now = q.slots; many = r.count; few = r.few; keeps = q.lined.lasts.keeps; ends = block r.ends }

  -- its error returns, whatever lines follow
  failing_ends : (starts : Bool) (acts : Acts p f vs true acted cost (over_two h.now taken calls ss l)) (fits : old.next + (used + 2) ≤ length before) (e : Failure)
      → Failing made action generics args f cost acted named h.lined vs shown acts fits e (call_line made (call_form true action generics args) lines) → Ends true starts acts.steps (Err e)
  failing_ends true acts fits e q = record { now = q.slots; many = q.count; few = q.few; keeps = q.lasts.keeps; ends = block (append_left (call_line made (call_form true action generics args) lines).parts _ q.ends) }
  failing_ends false acts fits e q =
      let parts = (call_line made (call_form true action generics args) lines).parts in
      record { now = q.slots; many = q.count; few = q.few; keeps = q.lasts.keeps; ends = block (append_left (parts ++ _ ∷ []) _ (append_left parts _ q.ends)) }

  by_result : (starts : Bool) (acts : Acts p f vs true acted cost (over_two h.now taken calls ss l)) → old.next + (used + 2) ≤ length before → (r : Result Value Failure) → acted.result ≡ r → Ends true starts acts.steps r
  by_result starts acts fits (Ok v) is = valued_ends true starts acts.steps (used + 2) v (called_checked made action generics args f cost acted named h.lined vs shown acts fits v is)
  by_result starts acts fits (Err e) is = failing_ends starts acts fits e (called_failing made action generics args f cost acted named h.lined vs shown acts fits e is)

  pub last_ends : (fallible starts : Bool) → Gives fallible acted → (acts : Acts p f vs fallible acted cost (over_two h.now taken calls ss l)) → old.next + (used + call_slots fallible) ≤ length before → Ends fallible starts acts.steps acted.result
  last_ends true starts gives acts fits = by_result starts acts fits acted.result refl
  last_ends false starts gives acts fits =
      let g = gives refl in
      subst (Ends false starts acts.steps) (sym g.1) (valued_ends false starts acts.steps (used + 1) g.0 (called_plain made action generics args f cost acted named h.lined vs shown acts g.0 g.1 fits))
