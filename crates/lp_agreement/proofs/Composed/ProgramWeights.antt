-- How much a built program weighs: at least the module of a start, the functions of actions, and four forms more.
use Rattle.std.proofs.Common.{◌≡◌, ◌⊎◌, inl, inr, ℕ, zero, suc, ◌+◌, ◌*◌, ◌<◌, ◌≤◌, ◌==◌, true, false, List, [], ◌∷◌, ◌++◌, length, map, Option, Some, None, slice_get, refl, sym, ap, ◌∙◌, subst, arith}
use Rattle.std.proofs.lemmas.Bool.{cases_Bool, eqb-true, eqb-false}
use Rattle.std.proofs.lemmas.Option.{slice_get_within}
use Rattle.lp_form.specs.Forms.{form_of, is_element_of}
use Rattle.lp_form.specs.declared.part.Part.TheVariants as part
use Rattle.lp_repr.specs.Numbering.{productions_of}
use Rattle.lp_repr.specs.declared.lr1.StartStates.{StartStates}
use Rattle.lp_repr.specs.declared.repr.Grammar.{Grammar}
use Rattle.lp_repr.specs.declared.repr.LrCodeGeneration.TheVariants.{RecursiveAscent}
use Rattle.lp_repr.specs.declared.repr.NonterminalString.{NonterminalString}
use Rattle.lp_tree.specs.ProgramTree.{leaf, program_items}
use Rattle.lp_tree.specs.declared.tree.Program.{Program}
use Rattle.lp_build.specs.Frame.{triple_part}
use Rattle.lp_build.specs.declared.frame.Triples.{Triples}
use Rattle.lp_build.specs.declared.frame.Triples.TheVariants.{Located, Plain}
use Rattle.lp_view.specs.PartLists.{Form}
use Rattle.lp_view.specs.Weights.{own_weight, weight}
use Rattle.lp_write.specs.declared.rust.Options.{Options}
use Rattle.lp_agrees.specs.Emission.{IsAsPrinted, IsByTables}
use Rattle.lp_assembly.specs.Built.{IsBuilt, implementations, joined_clauses, triple_lines}
use Rattle.lp_table.specs.Starts.{start_for}
use Rattle.lp_question_laws.proofs.Gotos.Whole.{flat, flat-append}
use Rattle.lp_agreement.proofs.Composed.AscentWeights.{ascent_module_counts}
use Rattle.lp_agreement.proofs.Composed.Counting.{and_more, cost_less, counted, counted-append, read_weighs}
use Rattle.lp_agreement.proofs.Composed.Modules.{module_by, module_forms, module_of_ascent, module_of_tables, reexport_form, start_forms}
use Rattle.lp_agreement.proofs.Composed.Programs.{action_forms, attribute_form, front_forms, program_flat, program_forms, token_forms, use_form}
use Rattle.lp_agreement.proofs.Composed.Weights.{actions_count, module_counts, steps_of_actions, symbols_of}

flat_count : (fs gs : List Form) → counted (flat (fs ++ gs)) ≡ counted (flat fs) + counted (flat gs)
flat_count fs gs = ap counted (flat-append fs gs) ∙ counted-append (flat fs) (flat gs)

-- ---- what stands beside the modules
module _ (g : Grammar) where
  front_counts : 1 ≤ counted (flat (front_forms g))
  unfolding form_of is_element_of
  front_counts = (let e = flat_count (map attribute_form g.module_attributes ++ map use_form g.uses) (leaf part.StandardUses [] ∷ []) in omega (arith, e))

  triple_part_counts : (clauses : Option (List ℕ)) (triples : Triples) → own_weight (triple_part clauses triples) ≡ 1
  unfolding form_of is_element_of
  triple_part_counts None (Located t e) = refl
  triple_part_counts (Some c) (Located t e) = refl
  triple_part_counts None (Plain t e) = refl
  triple_part_counts (Some c) (Plain t e) = refl

  triple_counts : 1 ≤ counted (flat (triple_lines g ∷ []))
  triple_counts = (let e = triple_part_counts (joined_clauses g.where_clauses) (implementations g g.types.loc) in omega (arith, e))

  program_counts : own_weight part.Program ≡ 1
  unfolding form_of is_element_of
  program_counts = refl

-- ---- the module of a start
module _ (g : Grammar) (states : List StartStates) (i : ℕ) (names : NonterminalString × NonterminalString) (list : StartStates) (at : slice_get g.start_nonterminals.entries i ≡ Some names) (has : slice_get states i ≡ Some list) where
  abbrev pub its_module : Form
  its_module = module_by g.algorithm.codegen g list.states (start_for g names.0 names.1)

  start_counts : (least : ℕ) → least ≤ counted its_module → least + 1 ≤ counted (flat (start_forms g (slice_get g.start_nonterminals.entries i) (slice_get states i)))
  unfolding form_of is_element_of
  start_counts least own =
      let here : least + 1 ≤ counted (flat (start_forms g (Some names) (Some list))) = and_more least 1 its_module (reexport_form g names ++ []) own (omega arith) in
      subst (λ (o : Option (NonterminalString × NonterminalString)). least + 1 ≤ counted (flat (start_forms g o (slice_get states i)))) (sym at)
      (subst (λ (o : Option StartStates). least + 1 ≤ counted (flat (start_forms g (Some names) o))) (sym has) here)

  modules_count : (least n : ℕ) → least ≤ counted its_module → i < n → least + 1 ≤ counted (flat (module_forms g states n))
  modules_count least zero own l = absurd (omega (arith, l))
  modules_count least (suc n) own l = by (modules_count least n own) (cases_Bool (i == n))
    where
      by : (i < n → least + 1 ≤ counted (flat (module_forms g states n))) → ((i == n) ≡ true) ⊎ ((i == n) ≡ false) → least + 1 ≤ counted (flat (module_forms g states (suc n)))
      by earlier (inl same) =
          let m : i ≡ n = eqb-true i n same in
          let last : least + 1 ≤ counted (flat (start_forms g (slice_get g.start_nonterminals.entries n) (slice_get states n))) =
          subst (λ (k : ℕ). least + 1 ≤ counted (flat (start_forms g (slice_get g.start_nonterminals.entries k) (slice_get states k)))) m (start_counts least own) in
          (let e = flat_count (module_forms g states n) (start_forms g (slice_get g.start_nonterminals.entries n) (slice_get states n)) in omega (arith, e, last))
      by earlier (inr other) =
          let m : (i ≡ n → ⊥) = eqb-false i n other in
          let more = earlier (omega (arith, m, l)) in
          (let e = flat_count (module_forms g states n) (start_forms g (slice_get g.start_nonterminals.entries n) (slice_get states n)) in omega (arith, e, more))

  -- a program that is built with a module has so many parts that count
  pub built_least : (least : ℕ) → least ≤ counted its_module → (program : Program) → IsBuilt g states program → 4 + least + steps_of_actions g.action_fn_defns ≤ counted (program_items program)
  built_least least own program is_built =
      let n = length g.start_nonterminals.entries in
      let modules = module_forms g states n in
      let tokens = token_forms g g.intern_token in
      let actions = action_forms g 0 g.action_fn_defns in
      let a = modules_count least n own (slice_get_within g.start_nonterminals.entries i names at) in
      let b = actions_count g 0 g.action_fn_defns in
      let c = flat_count (front_forms g) modules in
      let d = flat_count (front_forms g ++ modules) tokens in
      let e = flat_count ((front_forms g ++ modules) ++ tokens) actions in
      let f = flat_count (((front_forms g ++ modules) ++ tokens) ++ actions) (triple_lines g ∷ []) in
      let whole : counted (program_items program) ≡ own_weight part.Program + counted (flat (program_forms g states)) = ap counted (program_flat g states program is_built) in
      let front = front_counts g in
      let triple = triple_counts g in
      let own_part = program_counts g in
      omega (arith, a, b, c, d, e, f, whole, front, triple, own_part)

  -- by tables
  pub built_counts : (program : Program) → IsBuilt g states program → IsByTables g.algorithm.codegen → 33 + symbols_of (productions_of g) + steps_of_actions g.action_fn_defns ≤ counted (program_items program)
  built_counts program is_built by =
      let st = start_for g names.0 names.1 in
      let n = 29 + symbols_of (productions_of g) in
      let own : n ≤ counted its_module = subst (λ (f : Form). n ≤ counted f) (sym (module_of_tables g.algorithm.codegen g list.states st by)) (module_counts g list.states st) in
      let all = built_least n own program is_built in
      omega (arith, all)

  -- by recursive ascent, where there are two states
  pub ascent_counts : (program : Program) → IsBuilt g states program → g.algorithm.codegen ≡ RecursiveAscent → 2 ≤ length list.states → 33 + steps_of_actions g.action_fn_defns ≤ counted (program_items program)
  ascent_counts program is_built is two =
      let st = start_for g names.0 names.1 in
      let own : 15 + 7 * length list.states ≤ counted its_module = subst (λ (f : Form). 15 + 7 * length list.states ≤ counted f) (sym (module_of_ascent g.algorithm.codegen g list.states st is)) (ascent_module_counts g list.states st) in
      let all = built_least 29 (omega (arith, own, two)) program is_built in
      omega (arith, all)

  -- so much does it weigh as it is read
  pub read_weight : (options : Options) (printed read : Program) → IsBuilt g states printed → IsByTables g.algorithm.codegen → IsAsPrinted options printed read → 33 + symbols_of (productions_of g) + steps_of_actions g.action_fn_defns ≤ weight read
  read_weight options printed read is_built by is = (let a = built_counts printed is_built by in let b = read_weighs options printed read is in omega (arith, a, b))

  pub ascent_weight : (options : Options) (printed read : Program) → IsBuilt g states printed → g.algorithm.codegen ≡ RecursiveAscent → 2 ≤ length list.states → IsAsPrinted options printed read → 33 + steps_of_actions g.action_fn_defns ≤ weight read
  ascent_weight options printed read is_built by two is = (let a = ascent_counts printed is_built by two in let b = read_weighs options printed read is in omega (arith, a, b))

  -- a cost that is at most the weight is less than the ninth part of its square
  pub cost_fits : (cost : ℕ) (options : Options) (printed read : Program) → IsBuilt g states printed → IsByTables g.algorithm.codegen → IsAsPrinted options printed read → cost ≤ weight read → 9 * cost < weight read * weight read
  cost_fits cost options printed read is_built by is few = cost_less cost (weight read) few (let h = read_weight options printed read is_built by is in omega (arith, h))
