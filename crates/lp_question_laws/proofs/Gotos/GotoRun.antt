-- The call of the goto function.
use Rattle.std.proofs.Common.{◌≡◌, ℕ, suc, ◌+◌, ◌<◌, ◌≤◌, ◌==◌, ◌^◌, ◌||◌, Bool, true, false, List, [], ◌∷◌, ◌++◌, length, map, Option, Some, pos, refl, ap, sym, subst, ◌∙◌, arith, if◌then◌else◌}
use Rattle.std.specs.Prelude.{slice_get}
use Rattle.std.specs.List.{list_any}
use Rattle.std.proofs.lemmas.Bool.Decides.{nat_tests}
use Rattle.lp_repr.specs.declared.lr1.Lr1State.{Lr1State}
use Rattle.lp_repr.specs.declared.repr.NonterminalString.{NonterminalString}
use Rattle.lp_core.specs.declared.value.StateType.{StateType}
use Rattle.lp_core.specs.declared.expr.Test.TheVariants as test
use Rattle.lp_core.specs.CaseMeaning.{between}
use Rattle.std.proofs.lemmas.Bool.{eq-eqb, ne_eqb, eqb-true, eqb-false}
use Rattle.lp_core.specs.Val as val
use Rattle.lp_core.specs.Val.{Val}
use Rattle.lp_core.specs.Datum.{Unset}
use Rattle.lp_core.specs.Numbers.{fitting, index}
use Rattle.lp_core.specs.Numbers as core
use Rattle.lp_core.specs.Store.{Program, Held, UserCall}
use Rattle.lp_core.specs.Tree.{Tree}
use Rattle.lp_core.specs.Flow.{State, Gives, flow, spend, leave}
use Rattle.lp_core.specs.Effect.{gave}
use Rattle.std.specs.Option.{option_map}
use Rattle.lp_core.specs.Eval.{run, run_call, enter}
use Rattle.lp_form.specs.declared.part.Part.TheVariants as part
use Rattle.lp_build.specs.Built as built
use Rattle.lp_state_parts.specs.declared.gotos.StateRange.{StateRange}
use Rattle.lp_state_parts.specs.declared.gotos.GotoArm.{GotoArm}
use Rattle.lp_state_parts.specs.declared.gotos.Gotos.{Gotos}
use Rattle.lp_state_parts.specs.declared.gotos.Gotos.TheVariants.{Nowhere, One, Several}
use Rattle.lp_state_parts.specs.GotoLaw.{answer}
use Rattle.lp_state_parts.specs.Gotos.{has_state, is_in, target_in}
use Rattle.lp_table.specs.TableLines.{gotos_from}
use Rattle.std.proofs.Math.Seq.{take-length}
use Rattle.lp_view.specs.PartLists.{Form, over}
use Rattle.lp_maker.specs.Constructs.{read, fitted}
use Rattle.lp_bodies.specs.Arms.{no_arms}
use Rattle.lp_bodies.specs.Tables.{choice_at, goto_row, goto_rows, goto_match, goto_body, goto_arm, goto_arms, goto_of}
use Rattle.lp_question_laws.proofs.Gotos.Arms.{Arm, Shows, no_shown, picked, pick_if, passes_any, or_else, settled, arms_run}
use Rattle.lp_question_laws.proofs.Gotos.GotoData.{ArmsAre, GotosAre}
use Rattle.lp_question_laws.proofs.Gotos.GotoCode.{IsState, test_of, row_arm, row_forms, rows_shown, one_form, match_form, match_parts, gotos_forms, gotos_at, forms_from, goto_parts, number_read, number_arm, arms_at, arms_from, arms_shown}
use Rattle.lp_question_laws.proofs.Gotos.GotoCode as code

abbrev pub number : StateType → ℕ → Val
number kind n = core.number kind (pos n)

target_is : (P : ℕ → Type 0) (s other : ℕ) (rest : List GotoArm) → ArmsAre P rest → P other → P (target_in rest other s)
target_is P s other [] a h = h
target_is P s other (m ∷ rest) a h =
    elim (has_state s m) as (λ b. P (if b then m.target else target_in rest other s)) [ true ↦ a.0 | false ↦ target_is P s other rest a.2 h ]

pub answer_is : (P : ℕ → Type 0) (s : ℕ) (g : Gotos) → P 0 → GotosAre P g → P (answer g s)
answer_is P s Nowhere z h = z
answer_is P s (One t) z h = h
answer_is P s (Several rest other) z h = target_is P s other rest h.0 h.1

module _ (p : Program) (kind : StateType) where
  ranges_passed : (s : ℕ) (rs : List StateRange) → passes_any p (map test_of rs) (number kind s) ≡ Some (list_any (is_in s) rs)
  ranges_passed s [] = refl
  ranges_passed s (r ∷ rs) = ap (or_else (Some (is_in s r))) (ranges_passed s rs) ∙ by (is_in s r) (list_any (is_in s) rs)
    where
      by : (b c : Bool) → or_else (Some b) (Some c) ≡ Some (b || c)
      by true c = refl
      by false c = refl

  rows_picked : (s other : ℕ) (rest : List GotoArm) → picked p (number kind s) (map (row_arm kind) rest) (code.number kind other) ≡ Some (code.number kind (target_in rest other s))
  rows_picked s other [] = refl
  rows_picked s other (m ∷ rest) =
      ap (λ o. pick_if (code.number kind m.target) o (passes_any p (map test_of m.ranges) (number kind s))) (rows_picked s other rest)
      ∙ ap (pick_if (code.number kind m.target) (Some (code.number kind (target_in rest other s)))) (ranges_passed s m.ranges)
      ∙ by (has_state s m)
    where
      by : (b : Bool) → pick_if (code.number kind m.target) (Some (code.number kind (target_in rest other s))) (Some b) ≡ Some (code.number kind (if b then m.target else target_in rest other s))
      by true = refl
      by false = refl

  -- in a call for a state, an expression gives a state
  abbrev pub at : List Val → List Held → ℕ → List UserCall → ℕ → State
  at env cells taken calls left = record { store = record { env = env; cells = cells; taken = taken }; calls = calls; left = left }

  abbrev pub Gets : ℕ → ℕ → Tree → Type 0
  Gets s z e = (i x : Val) (cells : List Held) (taken : ℕ) (calls : List UserCall) (left : ℕ) →
      (env : List Val) × (run p e (at (number kind s ∷ i ∷ x ∷ val.Plain Unset ∷ []) cells taken calls left) ≡ Gives (number kind z) (at env cells taken calls left))

  number_run : (z : ℕ) (st : State) → IsState kind z → run p (code.number kind z) st ≡ Gives (number kind z) st
  number_run z st h = ap (λ o. flow st (gave (option_map (core.number kind) o) st.store)) h.fits

  number_gets : (s z : ℕ) → IsState kind z → Gets s z (code.number kind z)
  number_gets s z h i x cells taken calls left = (number kind s ∷ i ∷ x ∷ val.Plain Unset ∷ [], number_run z _ h)

  match_gets : (s n other : ℕ) (rest : List GotoArm) → ArmsAre (IsState kind) rest → IsState kind other → Gets s (target_in rest other s) (goto_match (Some kind) (match_form n rest other))
  match_gets s n other rest hr ho i x cells taken calls left =
      let st = at (number kind s ∷ i ∷ x ∷ val.Plain Unset ∷ []) cells taken calls left in
      let st' = at (number kind s ∷ i ∷ x ∷ number kind s ∷ []) cells taken calls left in
      let a = goto_rows (Some kind) (match_form n rest other) in
      let arms = map (row_arm kind) rest in
      let shows : Shows a arms = subst (λ fs. Shows (over (goto_row (Some kind)) no_arms fs) arms) (sym (match_parts n other rest)) (rows_shown kind rest no_arms [] hr no_shown) in
      let z = target_in rest other s in (
        number kind s ∷ i ∷ x ∷ number kind s ∷ [],
        ap (λ last. run p (choice_at (read 0) 3 last a) st) (number_read kind other ho)
            ∙ arms_run p (read 0) 3 (code.number kind other) a arms st shows
            ∙ ap (λ o. settled p 3 (number kind s) o st) (rows_picked s other rest)
            ∙ number_run z st' (target_is (IsState kind) s other rest hr ho),
      )

  -- ---- the arms of nonterminals

  one_passed : (n i : ℕ) → passes_any p (test.Between (pos n) (pos n) ∷ []) (index i) ≡ Some (n == i)
  one_passed n i = ap (λ b. or_else (Some b) (Some false)) (both n i) ∙ by (n == i)
    where
      both : (n i : ℕ) → between (pos n) (pos n) (pos i) ≡ (n == i)
      both n i = grind (arith, nat_tests)

      by : (b : Bool) → or_else (Some b) (Some false) ≡ Some b
      by true = refl
      by false = refl

  arm_passed : (n i : ℕ) (f : Form) (later : List Arm) (last : Tree) → n ≡ i → picked p (index i) (number_arm kind n f ∷ later) last ≡ Some (goto_body (Some kind) f)
  arm_passed n i f later last e =
      ap (pick_if (goto_body (Some kind) f) (picked p (index i) later last)) (one_passed n i ∙ ap (λ b. Some b) (eq-eqb n i e))

  arm_failed : (n i : ℕ) (f : Form) (later : List Arm) (last : Tree) → (n ≡ i → ⊥) → picked p (index i) (number_arm kind n f ∷ later) last ≡ picked p (index i) later last
  arm_failed n i f later last e =
      ap (pick_if (goto_body (Some kind) f) (picked p (index i) later last)) (one_passed n i ∙ ap (λ b. Some b) (ne_eqb n i e))

  -- a nonterminal's arm is passed over
  passed_over : (n i : ℕ) (g : Gotos) (later : List Arm) (last : Tree) → (n ≡ i → ⊥) → picked p (index i) (arms_at kind n g ++ later) last ≡ picked p (index i) later last
  passed_over n i Nowhere later last e = refl
  passed_over n i (One t) later last e = arm_failed n i (one_form n t) later last e
  passed_over n i (Several rest other) later last e = arm_failed n i (match_form n rest other) later last e

  -- what is picked gives a state
  pub record Leads (o : Option Tree) (s z : ℕ) : Type 0 where
    pub body : Tree
    pub picked : o ≡ Some body
    pub gets : Gets s z body

  leads_here : (s n i : ℕ) (g : Gotos) (later : List Arm) (last : Tree) → n ≡ i → GotosAre (IsState kind) g → Leads (picked p (index i) later last) s 0 → Leads (picked p (index i) (arms_at kind n g ++ later) last) s (answer g s)
  leads_here s n i Nowhere later last e h l = l
  leads_here s n i (One t) later last e h l =
      record { body = goto_body (Some kind) (one_form n t); picked = arm_passed n i (one_form n t) later last e; gets = subst (Gets s t) (sym (number_read kind t h)) (number_gets s t h) }
  leads_here s n i (Several rest other) later last e h l =
      record { body = goto_body (Some kind) (match_form n rest other); picked = arm_passed n i (match_form n rest other) later last e; gets = match_gets s n other rest h.0 h.1 }

  module _ (states : List Lr1State) where
    -- what is left over goes on with the last body
    leads_last : (s n i : ℕ) (names : List NonterminalString) → IsState kind 0 → i < n → Leads (picked p (index i) (arms_from states kind n names) (code.number kind 0)) s 0
    leads_last s n i [] z h = record { body = code.number kind 0; picked = refl; gets = number_gets s 0 z }
    leads_last s n i (name ∷ names) z h =
        subst (λ o. Leads o s 0) (sym (passed_over n i (gotos_at states n) (arms_from states kind (n + 1) names) (code.number kind 0) (λ e. omega arith))) (leads_last s (n + 1) i names z (omega arith))

    -- a nonterminal's number leads to its goto
    leads_at : (s n i : ℕ) (names : List NonterminalString) → IsState kind 0 → ((m : ℕ) → GotosAre (IsState kind) (gotos_at states m)) → n ≤ i → i < n + length names →
        Leads (picked p (index i) (arms_from states kind n names) (code.number kind 0)) s (answer (gotos_at states i) s)
    leads_at s n i [] z h le lt = absurd (omega arith)
    leads_at s n i (name ∷ names) z h le lt = by (λ le lt. leads_at s (n + 1) i names z h le lt) (n == i) refl
      where
        later : List Arm
        later = arms_from states kind (n + 1) names

        by : (n + 1 ≤ i → i < (n + 1) + length names → Leads (picked p (index i) later (code.number kind 0)) s (answer (gotos_at states i) s)) → (b : Bool) → (n == i) ≡ b → Leads (picked p (index i) (arms_from states kind n (name ∷ names)) (code.number kind 0)) s (answer (gotos_at states i) s)
        by again true t =
            let e : n ≡ i = eqb-true n i t in
            let rest : Leads (picked p (index i) later (code.number kind 0)) s 0 = leads_last s (n + 1) i names z (omega arith) in
            subst (λ m. Leads (picked p (index i) (arms_at kind n (gotos_at states n) ++ later) (code.number kind 0)) s (answer (gotos_at states m) s)) e
            (leads_here s n i (gotos_at states n) later (code.number kind 0) e (h n) rest)
        by again false t =
            let ne : n ≡ i → ⊥ = eqb-false n i t in
            subst (λ o. Leads o s (answer (gotos_at states i) s)) (sym (passed_over n i (gotos_at states n) later (code.number kind 0) ne))
            (again (omega arith) (omega arith))

    -- a call with a state and a nonterminal's number is a step, and gives the goto
    pub goto_called : (f s i : ℕ) (text : List ℕ) (names : List NonterminalString) →
        slice_get p.functions f ≡ Some (goto_of (Some kind) (built.over part.GotoFn (text ∷ []) (gotos_from states 0 names))) →
        IsState kind 0 → ((m : ℕ) → GotosAre (IsState kind) (gotos_at states m)) → length names ≤ 2 ^ 63 → i < length names →
        (env : List Val) (cells : List Held) (taken : ℕ) (calls : List UserCall) (left : ℕ) →
        run_call p f (number kind s ∷ index i ∷ []) (at env cells taken calls (suc left)) ≡ Gives (number kind (answer (gotos_at states i) s)) (at env cells taken calls left)
    goto_called f s i text names there z h few lt env cells taken calls left =
        let form = built.over part.GotoFn (text ∷ []) (gotos_from states 0 names) in
        let vs = number kind s ∷ index i ∷ [] in
        let arms = arms_from states kind 0 names in
        let a = goto_arms (Some kind) form in
        let shows : Shows a arms = subst (λ fs. Shows (over (goto_arm (Some kind)) no_arms fs) arms) (sym (goto_parts states text 0 names)) (arms_shown states kind 0 names no_arms [] (omega arith) no_shown) in
        let st = at (number kind s ∷ index i ∷ val.Plain Unset ∷ val.Plain Unset ∷ []) cells taken calls left in
        let lead : Leads (picked p (index i) arms (code.number kind 0)) s (answer (gotos_at states i) s) = leads_at s 0 i names z h (omega arith) (omega arith) in
        let (env', gives) = lead.gets (index i) (index i) cells taken calls left in
        let body : run p (choice_at (read 1) 2 (code.number kind 0) a) st ≡ Gives (number kind (answer (gotos_at states i) s)) (at env' cells taken calls left) =
        arms_run p (read 1) 2 (code.number kind 0) a arms st shows ∙ ap (λ o. settled p 2 (index i) o st) lead.picked ∙ gives in
        ap (λ o. spend (at env cells taken calls (suc left)) (enter p o (run p) vs)) there
        ∙ ap (λ last. leave env (length cells) (run p (choice_at (read 1) 2 last a) st)) (ap (fitted kind) z.fits)
        ∙ ap (leave env (length cells)) body
        ∙ ap (λ cs. Gives (number kind (answer (gotos_at states i) s)) (at env cs taken calls left)) (take-length cells)
