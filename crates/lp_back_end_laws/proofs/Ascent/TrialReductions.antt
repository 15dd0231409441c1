-- What a trial's reduction would do: the function of a module of recursive ascent tells it.
use Rattle.std.proofs.Common.{◌≡◌, ℕ, zero, suc, ◌+◌, ◌<◌, ◌≤◌, ◌^◌, Bool, true, false, List, [], ◌∷◌, ◌++◌, length, map, Option, Some, None, pos, refl, ap, sym, subst, ◌∙◌, arith, decimal, append_assoc, append-nil, add-zero, zero-add, if◌then◌else◌}
use Rattle.std.proofs.Math.Seq.{take-length}
use Rattle.std.proofs.lemmas.Bool.{eq-eqb, ne_eqb}
use Rattle.std.specs.Prelude.{slice_get}
use Rattle.lp_repr.specs.declared.lr1.Lr1State.{Lr1State}
use Rattle.lp_repr.specs.declared.repr.Grammar.{Grammar}
use Rattle.lp_repr.specs.declared.repr.Production.{Production}
use Rattle.lp_repr.specs.Numbering.{productions_of}
use Rattle.lp_core.specs.declared.expr.Join.TheVariants as join
use Rattle.lp_core.specs.declared.expr.Leaf.TheVariants as leaf
use Rattle.lp_core.specs.declared.expr.Op.TheVariants as op
use Rattle.lp_core.specs.declared.expr.Test.TheVariants as test
use Rattle.lp_core.specs.declared.value.StateType.{StateType}
use Rattle.lp_core.specs.declared.value.Tag.TheVariants as tag
use Rattle.lp_core.specs.Datum.{Unset}
use Rattle.lp_core.specs.Val as val
use Rattle.lp_core.specs.Val.{Val}
use Rattle.lp_core.specs.Numbers.{number_of}
use Rattle.lp_core.specs.Reading.{empty, wrapped}
use Rattle.lp_core.specs.Store.{Program, Held, UserCall}
use Rattle.lp_core.specs.Tree.{Tree, Plain, Apply}
use Rattle.lp_core.specs.Flow.{State, Gives, spend, leave}
use Rattle.lp_core.specs.Eval.{run, run_call, enter}
use Rattle.lp_form.specs.declared.part.Part.TheVariants as part
use Rattle.lp_tree.specs.declared.tree.Reduced.{Reduced}
use Rattle.lp_build.specs.Built as built
use Rattle.lp_build.specs.Ascent.{tried}
use Rattle.lp_table.specs.Starts.{Start, state_text}
use Rattle.lp_table.specs.MachineLines.{reduced_of}
use Rattle.lp_view.specs.PartLists.{Form, parts_of, over}
use Rattle.lp_maker.specs.Numbers as printed
use Rattle.lp_maker.specs.Constructs.{absent, stuck, read, joined}
use Rattle.lp_maker.specs.Constructs as made
use Rattle.lp_bodies.specs.Arms.{Gathered, no_arms, with_body, with_found_case, with_case}
use Rattle.lp_bodies.specs.Tables.{choice_at}
use Rattle.lp_ascent_bodies.specs.AscentTrials.{ascent_row, ascent_rows, ascent_simulate}
use Rattle.lp_ascent.specs.BuiltAscent.{tried_from, trial_lines}
use Rattle.lp_machine.specs.declared.lookup.Rule.{Rule}
use Rattle.lp_question_laws.proofs.Gotos.Digits.{number_of_decimal, wide_number_of_decimal}
use Rattle.lp_question_laws.proofs.Gotos.Whole.{IsWhole, AreWhole, flat, parts_over}
use Rattle.lp_question_laws.proofs.Gotos.Arms.{Arm, Shows, no_shown, one_shown, picked, pick_if, settled, arms_run}
use Rattle.lp_question_laws.proofs.Gotos.GotoRun.{number, at}
use Rattle.lp_question_laws.proofs.Gotos.Simulate.{AllSmall, IsSmall, answer_val, one_passed, reductions}
use Rattle.lp_question_laws.proofs.Expected.Lines as lines
use Rattle.lp_question_laws.proofs.Expected.Verdicts as tables
use Rattle.lp_back_end_laws.proofs.Call.TrialTurns.{reduction}
use Rattle.lp_back_end_laws.proofs.Call.Trials.{simulated_val}

-- ---- the code
abbrev trial_code : Option Reduced → Tree
trial_code None = absent
trial_code (Some r) = Apply (op.Wrap tag.Present) (joined (join.Make tag.Tuple) (Plain (leaf.Index r.pop) ∷ Plain (leaf.Index r.nonterminal) ∷ []))

abbrev pub trial_val : Option Reduced → Val
trial_val None = empty tag.Absent
trial_val (Some r) = wrapped tag.Present (reduction r.pop r.nonterminal)

abbrev trial_arm : ℕ → Option Reduced → Arm
trial_arm n r = (test.Between (pos n) (pos n) ∷ [], trial_code r)

abbrev trial_arms : ℕ → List (Option Reduced) → List Arm
trial_arms n [] = []
trial_arms n (r ∷ rs) = trial_arm n r ∷ trial_arms (n + 1) rs

abbrev trial_forms : ℕ → List (Option Reduced) → List Form
trial_forms n [] = []
trial_forms n (r ∷ rs) = (tried n r ∷ []) ∷ trial_forms (n + 1) rs

row_read : (n : ℕ) (r : Option Reduced) (a : Gathered) → n < 2 ^ 63 → IsSmall r → ascent_row a (tried n r ∷ []) ≡ with_body (trial_code r) (with_case (test.Between (pos n) (pos n)) a)
row_read n None a h t = ap (λ o. with_body (trial_code None) (with_found_case o a)) (wide_number_of_decimal n h)
row_read n (Some r) a h t =
    let code : Option ℕ → Option ℕ → Tree = λ x y. Apply (op.Wrap tag.Present) (joined (join.Make tag.Tuple) (made.index x ∷ made.index y ∷ [])) in
    ap (λ o. with_body (code (printed.number_of (decimal r.pop)) (printed.number_of (decimal r.nonterminal))) (with_found_case o a)) (wide_number_of_decimal n h)
    ∙ ap (λ o. with_body (code o (printed.number_of (decimal r.nonterminal))) (with_case (test.Between (pos n) (pos n)) a)) (number_of_decimal r.pop t.0)
    ∙ ap (λ o. with_body (code (Some r.pop) o) (with_case (test.Between (pos n) (pos n)) a)) (number_of_decimal r.nonterminal t.1)

rows_shown : (n : ℕ) (rs : List (Option Reduced)) (a : Gathered) (ms : List Arm) → n + length rs ≤ 2 ^ 63 → AllSmall rs → Shows a ms → Shows (over ascent_row a (trial_forms n rs)) (ms ++ trial_arms n rs)
rows_shown n [] a ms h t s = subst (Shows a) (sym (append-nil ms)) s
rows_shown n (r ∷ rs) a ms h t s =
    let b = with_body (trial_code r) (with_case (test.Between (pos n) (pos n)) a) in
    let rest = rows_shown (n + 1) rs b (ms ++ trial_arm n r ∷ []) (omega (arith, h)) t.1 (one_shown a ms (trial_arm n r) s) in
    subst (λ (c : Gathered). Shows (over ascent_row c (trial_forms (n + 1) rs)) (ms ++ trial_arms n (r ∷ rs))) (sym (row_read n r a (omega (arith, h)) t.0))
    (subst (Shows (over ascent_row b (trial_forms (n + 1) rs))) (append_assoc ms (trial_arm n r ∷ []) (trial_arms (n + 1) rs)) rest)

-- ---- the run
module _ (p : Program) where
  trial_picked : (n j : ℕ) (v : Val) (rs : List (Option Reduced)) (r : Option Reduced) (last : Tree) → number_of v ≡ Some (pos (n + j)) → slice_get rs j ≡ Some r → picked p v (trial_arms n rs) last ≡ Some (trial_code r)
  trial_picked n j v [] r last e h = absurd cc
  trial_picked n zero v (x ∷ rs) r last e h =
      ap (pick_if (trial_code x) (picked p v (trial_arms (n + 1) rs) last)) (one_passed p n (n + 0) v e ∙ ap (λ b. Some b) (eq-eqb n (n + 0) (sym (add-zero n))))
      ∙ (let same : x ≡ r = cc in ap (λ r. Some (trial_code r)) same)
  trial_picked n (suc j) v (x ∷ rs) r last e h =
      let number : pos (n + suc j) ≡ pos ((n + 1) + j) = ap pos (moved n j) in
      ap (pick_if (trial_code x) (picked p v (trial_arms (n + 1) rs) last)) (one_passed p n (n + suc j) v e ∙ ap (λ b. Some b) (ne_eqb n (n + suc j) (λ e. omega arith)))
      ∙ trial_picked (n + 1) j v rs r last (e ∙ ap (λ z. Some z) number) h
    where
      moved : (n j : ℕ) → n + suc j ≡ (n + 1) + j
      moved n j = omega arith

  trial_run : (r : Option Reduced) (st : State) → run p (trial_code r) st ≡ Gives (trial_val r) st
  trial_run None st = refl
  trial_run (Some r) st = ap (λ cs. Gives (trial_val (Some r)) (record st { calls = cs })) (append-nil st.calls)

-- ---- the function
module _ (g : Grammar) (states : List Lr1State) (s : Start) where
  forms_flat : (n : ℕ) (ps : List Production) → (tried_from g s n ps ≡ flat (trial_forms n (map (reduced_of g s) ps))) × AreWhole (trial_forms n (map (reduced_of g s) ps))
  forms_flat n [] = (refl, tt)
  forms_flat n (p ∷ ps) = let r = forms_flat (n + 1) ps in (ap (λ t. tried n (reduced_of g s p) ∷ t) r.0, (one_whole n (reduced_of g s p), r.1))
    where
      one_whole : (n : ℕ) (r : Option Reduced) → IsWhole (tried n r ∷ [])
      one_whole n None = refl
      one_whole n (Some r) = refl

  trial_parts : parts_of (trial_lines g states s) ≡ trial_forms 0 (reductions g states s)
  unfolding trial_lines
  trial_parts =
      let f = forms_flat 0 (productions_of g) in
      ap (λ t. parts_of (built.over part.AscentSimulate (state_text g states ∷ []) t)) f.0
      ∙ parts_over part.AscentSimulate (state_text g states ∷ []) (trial_forms 0 (reductions g states s)) f.1

  module _ (p : Program) (kind : StateType) (f i left : ℕ) (r : Option Reduced) (small : AllSmall (reductions g states s)) (few : length (reductions g states s) ≤ 2 ^ 63)
      (there : slice_get p.functions f ≡ Some (ascent_simulate (trial_lines g states s))) (is : slice_get (reductions g states s) i ≡ Some r) where
    -- a call with a production's number is a step, and tells what its reduction would do
    pub trial_called : (env : List Val) (cells : List Held) (taken : ℕ) (calls : List UserCall) → run_call p f (number kind i ∷ []) (at p kind env cells taken calls (suc left)) ≡ Gives (trial_val r) (at p kind env cells taken calls left)
    trial_called env cells taken calls =
        let vs = number kind i ∷ [] in
        let a = ascent_rows (trial_lines g states s) in
        let arms = trial_arms 0 (reductions g states s) in
        let shows : Shows a arms = subst (λ (fs : List Form). Shows (over ascent_row no_arms fs) arms) (sym trial_parts) (rows_shown 0 (reductions g states s) no_arms [] (omega (arith, few)) small no_shown) in
        let st = at p kind (number kind i ∷ val.Plain Unset ∷ []) cells taken calls left in
        let st' = at p kind (number kind i ∷ number kind i ∷ []) cells taken calls left in
        let chosen : picked p (number kind i) arms stuck ≡ Some (trial_code r) = trial_picked p 0 i (number kind i) (reductions g states s) r stuck (ap (λ z. Some (pos z)) (sym (zero-add i))) is in
        let body : run p (choice_at (read 0) 1 stuck a) st ≡ Gives (trial_val r) st' =
        arms_run p (read 0) 1 stuck a arms st shows ∙ ap (λ o. settled p 1 (number kind i) o st) chosen ∙ trial_run p r st' in
        ap (λ o. spend (at p kind env cells taken calls (suc left)) (enter p o (run p) vs)) there
        ∙ ap (leave env (length cells)) body
        ∙ ap (λ cs. Gives (trial_val r) (at p kind env cs taken calls left)) (take-length cells)

-- what a reduction is told to do, by what table-driven code tells of it
pub told_alike : (r : Option Reduced) (rule : Rule) → answer_val r ≡ tables.simulated_val rule → trial_val r ≡ simulated_val rule
told_alike r rule e = by r rule.is_start e
  where
    by : (o : Option Reduced) (b : Bool) → answer_val o ≡ (if b then empty tag.Accept else lines.reduction rule.length rule.nonterminal) → trial_val o ≡ (if b then empty tag.Absent else wrapped tag.Present (reduction rule.length rule.nonterminal))
    by None true e = refl
    by None false e = absurd cc
    by (Some r) true e = absurd cc
    by (Some r) false e =
        let pop : r.pop ≡ rule.length = cc in
        let nonterminal : r.nonterminal ≡ rule.nonterminal = cc in
        ap (λ (n : ℕ). wrapped tag.Present (reduction n r.nonterminal)) pop ∙ ap (λ (n : ℕ). wrapped tag.Present (reduction rule.length n)) nonterminal
