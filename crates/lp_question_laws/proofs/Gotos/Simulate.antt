-- What a reduction would do: the answer to the driver's question.
use Rattle.std.proofs.Common.{◌≡◌, ℕ, zero, suc, ◌+◌, ◌-◌, ◌<◌, ◌≤◌, ◌^◌, ◌==◌, Bool, true, false, List, [], ◌∷◌, ◌++◌, length, map, Option, Some, None, pos, refl, ap, sym, subst, ◌∙◌, arith, codes, decimal, append_assoc, append-nil, add-zero, zero-add}
use Rattle.std.proofs.Math.Seq.{take-length}
use Rattle.std.proofs.lemmas.Bool.{eq-eqb, ne_eqb}
use Rattle.std.proofs.lemmas.Bool.Decides.{nat_tests}
use Rattle.std.specs.Prelude.{slice_get}
use Rattle.std.specs.Option.{option_map}
use Rattle.lp_repr.specs.declared.lr1.Lr1State.{Lr1State}
use Rattle.lp_repr.specs.declared.repr.Grammar.{Grammar}
use Rattle.lp_repr.specs.declared.repr.Production.{Production}
use Rattle.lp_repr.specs.Numbering.{productions_of}
use Rattle.lp_core.specs.declared.expr.Leaf.TheVariants as leaf
use Rattle.lp_core.specs.declared.expr.Join.TheVariants as join
use Rattle.lp_core.specs.declared.expr.Test.TheVariants as test
use Rattle.lp_core.specs.declared.value.StateType.{StateType}
use Rattle.lp_core.specs.declared.value.Tag.TheVariants as tag
use Rattle.lp_core.specs.Datum.{Unset}
use Rattle.lp_core.specs.Val as val
use Rattle.lp_core.specs.Val.{Val, Made}
use Rattle.lp_core.specs.Numbers.{number_of, index}
use Rattle.lp_core.specs.CaseMeaning.{between}
use Rattle.lp_core.specs.Reading.{empty}
use Rattle.lp_core.specs.Store.{Program, Held, UserCall}
use Rattle.lp_core.specs.Tree.{Tree, Plain}
use Rattle.lp_core.specs.Flow.{State, Gives, spend, leave}
use Rattle.lp_core.specs.Eval.{run, run_call, enter}
use Rattle.lp_form.specs.declared.part.Part.TheVariants as part
use Rattle.lp_tree.specs.declared.tree.Reduced.{Reduced}
use Rattle.lp_build.specs.Built as built
use Rattle.lp_build.specs.Machine.{simulated}
use Rattle.lp_build.specs.declared.functions.FunctionName.TheVariants as name
use Rattle.lp_table.specs.Starts.{Start, state_text}
use Rattle.lp_table.specs.Headers.{header_lines}
use Rattle.lp_table.specs.Machines.{machine_header, machine_generics, machine_clause_texts}
use Rattle.lp_table.specs.MachineLines.{index_parameter, phantom_parameter, simulated_answer, simulated_from, reduced_of, simulation}
use Rattle.lp_driver.specs.declared.answers.Simulated.{Simulated}
use Rattle.lp_driver.specs.declared.answers.Simulated.TheVariants as answer
use Rattle.lp_turns.specs.Readings.{simulated_of}
use Rattle.lp_view.specs.PartLists.{Form, parts_of, over}
use Rattle.lp_maker.specs.Numbers as printed
use Rattle.lp_maker.specs.Slots.{Names, no_names, names_of, after_slots}
use Rattle.lp_maker.specs.Constructs.{stuck, read, joined, function_of}
use Rattle.lp_maker.specs.Constructs as made
use Rattle.lp_maker.specs.Making.{parameters, read_name}
use Rattle.lp_bodies.specs.Arms.{Gathered, no_arms, with_header, with_body, with_found_case, with_case}
use Rattle.lp_bodies.specs.Tables.{choice_at}
use Rattle.lp_bodies.specs.Trials.{simulate_row, simulate_function, simulate_rows, simulate_with}
use Rattle.lp_question_laws.proofs.Gotos.Digits.{number_of_decimal, wide_number_of_decimal}
use Rattle.lp_question_laws.proofs.Gotos.Whole.{IsWhole, AreWhole, flat, parts_over}
use Rattle.lp_question_laws.proofs.Gotos.Arms.{Arm, Shows, one_shown, picked, pick_if, passes_any, or_else, settled, arms_run}
use Rattle.lp_question_laws.proofs.Gotos.GotoRun.{number, at}
use Rattle.lp_question_laws.proofs.Gotos.LinkHeaders.{IsWordy, wordy_by, header_names, prefixed_bound, bind_all}

-- ---- the code

abbrev pub told : Option Reduced → Simulated
told None = answer.Accept
told (Some r) = answer.Reduce r.pop r.nonterminal

abbrev pub answer_code : Option Reduced → Tree
answer_code None = Plain (leaf.Empty tag.Accept)
answer_code (Some r) = joined (join.Make tag.Reduce) (Plain (leaf.Index r.pop) ∷ Plain (leaf.Index r.nonterminal) ∷ [])

abbrev pub answer_val : Option Reduced → Val
answer_val None = empty tag.Accept
answer_val (Some r) = Made tag.Reduce (val.more (index r.pop) (val.more (index r.nonterminal) val.end))

abbrev pub IsSmall : Option Reduced → Type 0
IsSmall None = Unit {0}
IsSmall (Some r) = (r.pop < 2 ^ 64) × (r.nonterminal < 2 ^ 64)

abbrev pub answer_arm : ℕ → Option Reduced → Arm
answer_arm n r = (test.Between (pos n) (pos n) ∷ [], answer_code r)

abbrev pub answer_arms : ℕ → List (Option Reduced) → List Arm
answer_arms n [] = []
answer_arms n (r ∷ rs) = answer_arm n r ∷ answer_arms (n + 1) rs

abbrev pub answer_forms : ℕ → List (Option Reduced) → List Form
answer_forms n [] = []
answer_forms n (r ∷ rs) = (simulated n r ∷ []) ∷ answer_forms (n + 1) rs

abbrev pub AllSmall : List (Option Reduced) → Type 0
AllSmall [] = Unit {0}
AllSmall (r ∷ rs) = IsSmall r × AllSmall rs

row_read : (prefix : List ℕ) (n : ℕ) (r : Option Reduced) (a : Gathered) → n < 2 ^ 63 → IsSmall r → simulate_row prefix a (simulated n r ∷ []) ≡ with_body (answer_code r) (with_case (test.Between (pos n) (pos n)) a)
row_read prefix n None a h t = ap (λ o. with_body (answer_code None) (with_found_case o a)) (wide_number_of_decimal n h)
row_read prefix n (Some r) a h t =
    ap (λ o. with_body (joined (join.Make tag.Reduce) (made.index (printed.number_of (decimal r.pop)) ∷ made.index (printed.number_of (decimal r.nonterminal)) ∷ [])) (with_found_case o a)) (wide_number_of_decimal n h)
    ∙ ap (λ o. with_body (joined (join.Make tag.Reduce) (made.index o ∷ made.index (printed.number_of (decimal r.nonterminal)) ∷ [])) (with_case (test.Between (pos n) (pos n)) a)) (number_of_decimal r.pop t.0)
    ∙ ap (λ o. with_body (joined (join.Make tag.Reduce) (Plain (leaf.Index r.pop) ∷ made.index o ∷ [])) (with_case (test.Between (pos n) (pos n)) a)) (number_of_decimal r.nonterminal t.1)

-- arms are added, and names stay
record Adds (a b : Gathered) (ms : List Arm) : Type 0 where
  shows : Shows b ms
  names : b.names ≡ a.names
  params : b.params ≡ a.params

rows_added : (prefix : List ℕ) (n : ℕ) (rs : List (Option Reduced)) (a : Gathered) (ms : List Arm) → n + length rs ≤ 2 ^ 63 → AllSmall rs → Shows a ms → Adds a (over (simulate_row prefix) a (answer_forms n rs)) (ms ++ answer_arms n rs)
rows_added prefix n [] a ms h t s = record { shows = subst (Shows a) (sym (append-nil ms)) s; names = refl; params = refl }
rows_added prefix n (r ∷ rs) a ms h t s =
    let b = with_body (answer_code r) (with_case (test.Between (pos n) (pos n)) a) in
    let rest = rows_added prefix (n + 1) rs b (ms ++ answer_arm n r ∷ []) (omega arith) t.1 (one_shown a ms (answer_arm n r) s) in
    let moved : Adds a (over (simulate_row prefix) b (answer_forms (n + 1) rs)) (ms ++ answer_arms n (r ∷ rs)) = record {
      shows = subst (Shows (over (simulate_row prefix) b (answer_forms (n + 1) rs))) (append_assoc ms (answer_arm n r ∷ []) (answer_arms (n + 1) rs)) rest.shows;
      names = rest.names;
      params = rest.params;
    } in
    subst (λ c. Adds a (over (simulate_row prefix) c (answer_forms (n + 1) rs)) (ms ++ answer_arms n (r ∷ rs))) (sym (row_read prefix n r a (omega arith) t.0)) moved

-- ---- the run

module _ (p : Program) where
  pub one_passed : (n i : ℕ) (v : Val) → number_of v ≡ Some (pos i) → passes_any p (test.Between (pos n) (pos n) ∷ []) v ≡ Some (n == i)
  one_passed n i v e = ap (λ o. or_else (option_map (between (pos n) (pos n)) o) (Some false)) e ∙ ap (λ b. or_else (Some b) (Some false)) (both n i) ∙ by (n == i)
    where
      both : (n i : ℕ) → between (pos n) (pos n) (pos i) ≡ (n == i)
      both n i = grind (arith, nat_tests)

      by : (b : Bool) → or_else (Some b) (Some false) ≡ Some b
      by true = refl
      by false = refl

  answer_picked : (n j : ℕ) (v : Val) (rs : List (Option Reduced)) (r : Option Reduced) (last : Tree) → number_of v ≡ Some (pos (n + j)) → slice_get rs j ≡ Some r → picked p v (answer_arms n rs) last ≡ Some (answer_code r)
  answer_picked n j v [] r last e h = absurd cc
  answer_picked n zero v (x ∷ rs) r last e h =
      ap (pick_if (answer_code x) (picked p v (answer_arms (n + 1) rs) last)) (one_passed n (n + 0) v e ∙ ap (λ b. Some b) (eq-eqb n (n + 0) (sym (add-zero n))))
      ∙ (let same : x ≡ r = cc in ap (λ r. Some (answer_code r)) same)
  answer_picked n (suc j) v (x ∷ rs) r last e h =
      let number : pos (n + suc j) ≡ pos ((n + 1) + j) = ap pos (moved n j) in
      ap (pick_if (answer_code x) (picked p v (answer_arms (n + 1) rs) last)) (one_passed n (n + suc j) v e ∙ ap (λ b. Some b) (ne_eqb n (n + suc j) (λ e. omega arith)))
      ∙ answer_picked (n + 1) j v rs r last (e ∙ ap (λ z. Some z) number) h
    where
      moved : (n j : ℕ) → n + suc j ≡ (n + 1) + j
      moved n j = omega arith

  answer_run : (r : Option Reduced) (st : State) → run p (answer_code r) st ≡ Gives (answer_val r) st
  answer_run None st = refl
  answer_run (Some r) st = ap (λ cs. Gives (answer_val (Some r)) (record st { calls = cs })) (append-nil st.calls)

-- ---- the function

module _ (g : Grammar) (states : List Lr1State) (s : Start) where
  the_header : Form
  the_header = machine_header g name.SimulateReduce (index_parameter g states ∷ phantom_parameter g ∷ []) (simulated_answer g)

  abbrev pub reductions : List (Option Reduced)
  reductions = map (reduced_of g s) (productions_of g)

  one_name : Names
  one_name = names_of ((codes "~reduce_index", 0) ∷ []) 1

  header_bound : IsWordy g.prefix → parameters g.prefix the_header ≡ one_name
  unfolding the_header one_name index_parameter phantom_parameter
  header_bound w =
      header_names g.prefix name.SimulateReduce (machine_generics g) (index_parameter g states ∷ phantom_parameter g ∷ []) (simulated_answer g) (machine_clause_texts g)
      ∙ ap (λ ns. bind_all g.prefix ns (phantom_parameter g ∷ [])) (prefixed_bound g.prefix (codes "reduce_index") (32 ∷ state_text g states) no_names w (wordy_by (codes "reduce_index") refl refl refl) (omega arith))

  header_whole : IsWhole the_header
  unfolding the_header header_lines
  header_whole = refl

  header_no_arm : (a : Gathered) → simulate_row g.prefix a the_header ≡ with_header g.prefix the_header a
  unfolding the_header header_lines
  header_no_arm a = refl

  forms_flat : (n : ℕ) (ps : List Production) → (simulated_from g s n ps ≡ flat (answer_forms n (map (reduced_of g s) ps))) × AreWhole (answer_forms n (map (reduced_of g s) ps))
  forms_flat n [] = (refl, tt)
  forms_flat n (p ∷ ps) = let r = forms_flat (n + 1) ps in (ap (λ t. simulated n (reduced_of g s p) ∷ t) r.0, (one_whole n (reduced_of g s p), r.1))
    where
      one_whole : (n : ℕ) (r : Option Reduced) → IsWhole (simulated n r ∷ [])
      one_whole n None = refl
      one_whole n (Some r) = refl

  simulation_parts : parts_of (simulation g states s) ≡ the_header ∷ answer_forms 0 reductions
  unfolding simulation the_header
  simulation_parts =
      let f = forms_flat 0 (productions_of g) in
      ap (λ t. parts_of (built.over part.SimulateReduce [] (the_header ++ t))) f.0
      ∙ parts_over part.SimulateReduce [] (the_header ∷ answer_forms 0 reductions) (header_whole, f.1)

  module _ (p : Program) (kind : StateType) (f i left : ℕ) (r : Option Reduced) (w : IsWordy g.prefix) (small : AllSmall reductions) (few : length reductions ≤ 2 ^ 63)
      (there : slice_get p.functions f ≡ Some (simulate_function g.prefix (simulation g states s))) (is : slice_get reductions i ≡ Some r) where
    -- a call with a production's number is a step, and tells what its reduction would do
    pub simulate_called : (env : List Val) (cells : List Held) (taken : ℕ) (calls : List UserCall) →
        run_call p f (number kind i ∷ []) (at p kind env cells taken calls (suc left)) ≡ Gives (answer_val r) (at p kind env cells taken calls left)
    unfolding one_name
    simulate_called env cells taken calls =
        let vs = number kind i ∷ [] in
        let start = with_header g.prefix the_header no_arms in
        let a = simulate_rows g.prefix (simulation g states s) in
        let arms = answer_arms 0 reductions in
        let rows : a ≡ over (simulate_row g.prefix) start (answer_forms 0 reductions) = ap (over (simulate_row g.prefix) no_arms) simulation_parts ∙ ap (λ b. over (simulate_row g.prefix) b (answer_forms 0 reductions)) (header_no_arm no_arms) in
        let adds : Adds start a arms = subst (λ b. Adds start b arms) (sym rows) (rows_added g.prefix 0 reductions start [] (omega arith) small (record { cases = refl; bodies = refl })) in
        let names : a.names ≡ one_name = adds.names ∙ header_bound w in
        let params : a.params ≡ 1 = adds.params ∙ ap (λ (n : Names). n.next) (header_bound w) in
        let same : simulate_with a ≡ record { params = 1; slots = 1; body = choice_at (read 0) 1 stuck a } =
        ap (λ (n : Names). function_of a.params (after_slots 1 n) (choice_at (read_name n (codes "~reduce_index")) n.next stuck a)) names ∙ ap (λ k. record { params = k; slots = 2 - k; body = choice_at (read 0) 1 stuck a }) params in
        let st = at p kind (number kind i ∷ val.Plain Unset ∷ []) cells taken calls left in
        let st' = at p kind (number kind i ∷ number kind i ∷ []) cells taken calls left in
        let chosen : picked p (number kind i) arms stuck ≡ Some (answer_code r) = answer_picked p 0 i (number kind i) reductions r stuck (ap (λ z. Some (pos z)) (sym (zero-add i))) is in
        let body : run p (choice_at (read 0) 1 stuck a) st ≡ Gives (answer_val r) st' =
        arms_run p (read 0) 1 stuck a arms st adds.shows ∙ ap (λ o. settled p 1 (number kind i) o st) chosen ∙ answer_run p r st' in
        ap (λ o. spend (at p kind env cells taken calls (suc left)) (enter p o (run p) vs)) (there ∙ ap (λ fn. Some fn) same)
        ∙ ap (leave env (length cells)) body
        ∙ ap (λ cs. Gives (answer_val r) (at p kind env cs taken calls left)) (take-length cells)

-- and it is read as that
pub answer_read : (r : Option Reduced) → simulated_of (answer_val r) ≡ Some (told r)
answer_read None = refl
answer_read (Some r) = refl
