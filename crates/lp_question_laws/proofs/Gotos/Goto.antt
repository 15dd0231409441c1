-- The answer to the driver's question for a goto is that of the tables, after two steps.
use Rattle.std.proofs.Common.{◌≡◌, ℕ, zero, suc, ◌<◌, ◌≤◌, ◌^◌, List, [], ◌∷◌, length, Some, IfSome, ℤ, pos, refl, ap, sym, subst, ◌∙◌, arith}
use Rattle.std.specs.Prelude.{slice_get}
use Rattle.lp_repr.specs.declared.lr1.Lr1State.{Lr1State}
use Rattle.lp_repr.specs.declared.repr.Grammar.{Grammar}
use Rattle.lp_repr.specs.Numbering.{nonterminals_of, productions_of}
use Rattle.lp_repr.specs.ValidTables.{IsValidTables}
use Rattle.lp_core.specs.declared.expr.Function.{Function}
use Rattle.lp_core.specs.declared.value.StateType.{StateType}
use Rattle.lp_core.specs.Datum.{Unset}
use Rattle.lp_core.specs.Val as val
use Rattle.lp_core.specs.Val.{Val}
use Rattle.lp_core.specs.Numbers.{index, typed}
use Rattle.lp_core.specs.Numbers as core
use Rattle.lp_core.specs.Store.{Program, Held, UserCall}
use Rattle.lp_core.specs.Flow.{Flow, Gives, spend, leave}
use Rattle.lp_core.specs.Eval.{run, run_call, enter}
use Rattle.lp_core.proofs.Same.{run_end}
use Rattle.lp_state_parts.specs.GotoLaw as parts
use Rattle.lp_state_parts.specs.GotoLaw.{answer}
use Rattle.lp_state_parts.specs.Gotos.{arms_of, column_from}
use Rattle.lp_state_parts.proofs.GotoAnswers.{faithful}
use Rattle.lp_table.specs.Starts.{state_text}
use Rattle.lp_table.specs.TableLines as lines
use Rattle.lp_maker.specs.Constructs.{call_function}
use Rattle.lp_maker.specs.Texts as maker
use Rattle.std.proofs.Math.Seq.{take-length}
use Rattle.lp_bodies.specs.Actions.{takes}
use Rattle.lp_bodies.specs.Source.{function}
use Rattle.lp_bodies.specs.Tables.{goto_function, goto_of}
use Rattle.lp_turns.specs.declared.runner.Runner.{Runner}
use Rattle.lp_driver.specs.Questions.{Said, Says}
use Rattle.std.specs.Option.{option_map, option_and_then}
use Rattle.std.specs.Ordering.{nat_cmp}
use Rattle.std.specs.BTreeMap.{get}
use Rattle.lp_form.specs.declared.part.Part.TheVariants as part
use Rattle.lp_build.specs.Built as built
use Rattle.lp_turns.specs.DriverCall as turns
use Rattle.lp_turns.specs.DriverCall.{of_state_at, with_calls, begin, on_said, says, or_stuck, asks}
use Rattle.lp_core.specs.Reading.{state_of}
use Rattle.lp_machine.specs.Lookup.{goto_at}
use Rattle.lp_question_laws.proofs.Gotos.GotoData.{GotosAre, are_gotos_of, column_gotos_are}
use Rattle.lp_question_laws.proofs.Gotos.GotoCode.{IsState, gotos_at}
use Rattle.lp_question_laws.proofs.Gotos.GotoRun.{number, at, goto_called}
use Rattle.lp_question_laws.proofs.Gotos.StateTypes.{numbers_of}

pub same_goto : (ss : List Lr1State) (n i : ℕ) → parts.goto_at ss n i ≡ goto_at ss i n
same_goto [] n i = refl
same_goto (s ∷ ss) n zero = refl
same_goto (s ∷ ss) n (suc i) = same_goto ss n i

-- what the gotos answer is the tables' entry
pub answers : (ss : List Lr1State) (n s t : ℕ) → goto_at ss s n ≡ Some t → answer (gotos_at ss n) s ≡ t
answers ss n s t e =
    subst (λ o. IfSome o (λ t. answer (gotos_at ss n) s ≡ t)) (same_goto ss n s ∙ e) (faithful n ss (gotos_at ss n) (are_gotos_of (arms_of (column_from n 0 ss))) s)

-- a method that hands two arguments on
abbrev pub handing_on : ℕ → Function
handing_on f = function 2 0 (call_function f (takes 2))

handed_on : (p : Program) (kind : StateType) (m f s i : ℕ) (v : Val) →
    slice_get p.functions m ≡ Some (handing_on f) →
    ((env : List Val) (cells : List Held) (taken : ℕ) (calls : List UserCall) (left : ℕ) → run_call p f (number kind s ∷ index i ∷ []) (at p kind env cells taken calls (suc left)) ≡ Gives v (at p kind env cells taken calls left)) →
    (env : List Val) (cells : List Held) (taken : ℕ) (calls : List UserCall) (left : ℕ) → run_call p m (number kind s ∷ index i ∷ []) (at p kind env cells taken calls (suc (suc left))) ≡ Gives v (at p kind env cells taken calls left)
handed_on p kind m f s i v there h env cells taken calls left =
    let vs = number kind s ∷ index i ∷ [] in
    let unset = val.Plain Unset ∷ val.Plain Unset ∷ [] in
    ap (λ o. spend (at p kind env cells taken calls (suc (suc left))) (enter p o (run p) vs)) there
    ∙ ap (leave env (length cells)) (run_end p f vs (at p kind unset cells taken calls (suc left)) ∙ h unset cells taken calls left)
    ∙ ap (λ cs. Gives v (at p kind env cs taken calls left)) (take-length cells)

-- what is known of the counts of a grammar and its states
pub record Counts (g : Grammar) (states : List Lr1State) : Type 0 where
  pub states_fit : length states ≤ 2147483647
  pub productions_fit : length (productions_of g) ≤ 2147483647
  pub nonterminals_fit : length (nonterminals_of g) ≤ 2 ^ 63

-- a program has the printed goto function, its method hands on to it, and states have the printed type
pub record HasGoto (g : Grammar) (states : List Lr1State) (d : Runner) : Type 0 where
  pub function : ℕ
  pub made : slice_get d.asked.program.functions function ≡ Some (goto_function (lines.goto_function g states))
  pub method : slice_get d.asked.program.functions d.methods.goto ≡ Some (handing_on function)
  pub states_typed : d.methods.state_type ≡ maker.state_type_of (state_text g states)

-- a state that has a goto
pub record Found (ss : List Lr1State) (s n t : ℕ) : Type 0 where
  pub state : Lr1State
  pub there : slice_get ss s ≡ Some state
  pub entry : get nat_cmp state.gotos n ≡ Some t
  pub within : s < length ss

pub found : (ss : List Lr1State) (s n t : ℕ) → goto_at ss s n ≡ Some t → Found ss s n t
found [] s n t e = absurd cc
found (x ∷ ss) zero n t e = record { state = x; there = refl; entry = e; within = omega arith }
found (x ∷ ss) (suc s) n t e = let f = found ss s n t e in record { state = f.state; there = f.there; entry = f.entry; within = omega (arith, f.within) }

pub in_range : (g : Grammar) (start : ℕ) (states : List Lr1State) → IsValidTables g start states → (s n t : ℕ) → goto_at states s n ≡ Some t → (n < length (nonterminals_of g)) × (t < length states)
in_range g start states valid s n t e = let f = found states s n t e in (valid.each s f.state f.there).gotos_in_range n t f.entry

-- the driver asks for the goto of a state on a nonterminal that the tables have: it is answered after two steps
pub goto_asked : (g : Grammar) (start : ℕ) (states : List Lr1State) (d : Runner) (n s t left : ℕ) → IsValidTables g start states → Counts g states → HasGoto g states d →
    goto_at states s n ≡ Some t → d.left ≡ suc (suc left) →
    of_state_at d.methods.goto (pos s) n d ≡ Says (pos t) (with_calls d d.calls left)
unfolding lines.goto_function
goto_asked g start states d n s t left valid counts has e steps =
    let p = d.asked.program in
    let types = numbers_of (length states) (length (productions_of g)) counts.states_fit counts.productions_fit in
    let kind = types.kind in
    let vs : ℕ → List Val = λ m. number kind m ∷ index n ∷ [] in
    let names = nonterminals_of g in
    let state_fits : IsState kind s = types.holds s (let w = (found states s n t e).within in omega arith) in
    let made : slice_get p.functions has.function ≡ Some (goto_of (Some kind) (built.over part.GotoFn (state_text g states ∷ []) (lines.gotos_from states 0 names))) =
    has.made ∙ ap (λ o. Some (goto_of o (lines.goto_function g states))) types.read in
    let are : (m : ℕ) → GotosAre (IsState kind) (gotos_at states m) = λ m. column_gotos_are (IsState kind) m states (λ k lt. types.holds k (omega arith))
    (λ k t e. let r = (in_range g start states valid k m t (sym (same_goto states m k) ∙ e)).1 in types.holds t (omega arith)) in
    let called = goto_called p kind states has.function s n (state_text g states) names made (types.holds 0 (omega arith)) are counts.nonterminals_fit (in_range g start states valid s n t e).0 in
    let asked = handed_on p kind d.methods.goto has.function s n (number kind (answer (gotos_at states n) s)) has.method called [] [] 0 d.calls left in
    let said : Flow → Said ℤ Runner = λ fl. on_said (on_said (turns.answer d fl) (λ r d'. Says r.0 d')) (λ v d'. says (state_of v) d') in
    ap (λ o. or_stuck (option_and_then (λ kind. typed kind (pos s)) o) d (λ v. asks state_of d.methods.goto (v ∷ index n ∷ []) d)) (has.states_typed ∙ types.read)
    ∙ ap (λ o. or_stuck (option_map (core.number kind) o) d (λ v. asks state_of d.methods.goto (v ∷ index n ∷ []) d)) state_fits.fits
    ∙ ap (λ k. said (run_call p d.methods.goto (vs s) (begin [] d.calls k))) steps
    ∙ ap said asked
    ∙ ap (λ k. Says (pos k) (with_calls d d.calls left)) (answers states n s t e)
