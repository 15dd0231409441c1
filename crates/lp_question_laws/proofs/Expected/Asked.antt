-- The driver's questions for a goto and for a simulated reduction are answered by the tables.
use Rattle.std.proofs.Common.{◌≡◌, ℕ, ◌≤◌, pos, Bool, true, false, List, [], ◌∷◌, length, Option, Some, refl, sym, ap, subst, ◌∙◌, arith}
use Rattle.std.specs.Prelude.{slice_get, if◌then◌else◌}
use Rattle.std.specs.BTreeMap.{values}
use Rattle.std.proofs.lemmas.Option.{slice_get_within}
use Rattle.lp_repr.specs.Numbering.{productions_of}
use Rattle.lp_repr.specs.ValidTables.{IsValidTables}
use Rattle.lp_repr.specs.declared.lr1.Lr1State.{Lr1State}
use Rattle.lp_repr.specs.declared.repr.Grammar.{Grammar}
use Rattle.lp_core.specs.declared.expr.Function.{Function}
use Rattle.lp_core.specs.Numbers.{number, index}
use Rattle.lp_core.specs.declared.value.Tag.TheVariants as tag
use Rattle.lp_core.specs.Reading.{empty, state_of}
use Rattle.lp_core.specs.Val.{Val}
use Rattle.lp_driver.specs.declared.answers.Simulated.{Simulated}
use Rattle.lp_driver.specs.declared.answers.Simulated.TheVariants as simulated
use Rattle.lp_driver.specs.Questions.{Goto, Simulate_reduce}
use Rattle.lp_machine.specs.declared.lookup.Rule.{Rule}
use Rattle.lp_machine.specs.Lookup.{goto_at}
use Rattle.lp_machine.specs.TableAnswers.{simulated_by}
use Rattle.lp_machine.specs.Tables.{Tables}
use Rattle.lp_maker.specs.declared.methods.Methods.{Methods}
use Rattle.lp_maker.specs.Constructs.{called}
use Rattle.lp_bodies.specs.Actions.{takes}
use Rattle.lp_bodies.specs.MachineMethods.{methods_of}
use Rattle.lp_bodies.specs.Source.{function}
use Rattle.lp_table.specs.MachineLines.{simulation}
use Rattle.lp_table.specs.Starts.{Start}
use Rattle.lp_table.specs.TableLines as lines
use Rattle.lp_turns.specs.Asking.{Asking}
use Rattle.lp_turns.specs.declared.runner.Runner.{Runner}
use Rattle.lp_turns.specs.DriverCall.{program_answers, or_stuck, asks}
use Rattle.lp_turns.specs.Readings.{simulated_of}
use Rattle.lp_view.specs.PartLists.{Form}
use Rattle.lp_run.specs.Entered.{module_made}
use Rattle.lp_turn_laws.specs.Asked.Runners.{Asks, asking_over, Replies}
use Rattle.lp_turn_laws.proofs.Asked.Asked.{asks_replies}
use Rattle.lp_turn_laws.specs.Paths.Over.{IsOver}
use Rattle.lp_turn_laws.specs.Paths.Standing.{IsOnPath, IsReducible}
use Rattle.lp_question_laws.proofs.Gotos.Goto.{Counts, found}
use Rattle.lp_question_laws.proofs.Gotos.GotoAnswered.{built_items}
use Rattle.lp_question_laws.proofs.Gotos.LinkHeaders.{IsWordy}
use Rattle.lp_question_laws.proofs.Gotos.LinkModule.{goto_hands_on, simulate_hands_on}
use Rattle.lp_question_laws.proofs.Gotos.Simulate.{AllSmall, reductions}
use Rattle.lp_question_laws.proofs.Tables.Built.{RunsBuilt, is_made, last, machine, same_methods, state_is}
use Rattle.lp_question_laws.proofs.Tables.Looks.{handed_on}
use Rattle.lp_question_laws.proofs.Tokens.Texts.{handed_on_one}
use Rattle.lp_question_laws.proofs.Expected.Lines.{GivesAtOnce, reduction}
use Rattle.lp_question_laws.proofs.Expected.LookUps.{goto_row, goto_gives, simulation_row, simulation_gives, types_of}
use Rattle.lp_question_laws.proofs.Expected.Rules.{reducible_is}
use Rattle.lp_question_laws.proofs.Expected.Verdicts.{simulated_val}

-- what a reduction by a rule would do
abbrev would_do : Rule → Simulated
would_do rule = if rule.is_start then simulated.Accept else simulated.Reduce rule.length rule.nonterminal

would_read : (rule : Rule) → simulated_of (simulated_val rule) ≡ Some (would_do rule)
would_read rule = by rule.is_start
  where
    by : (b : Bool) → simulated_of (if b then empty tag.Accept else reduction rule.length rule.nonterminal) ≡ Some (if b then simulated.Accept else simulated.Reduce rule.length rule.nonterminal)
    by true = refl
    by false = refl

module _ {prefix : List ℕ} {program : Form} {g : Grammar} {states : List Lr1State} {st : Start} {asked : Asking} {methods : Methods} (runs : RunsBuilt prefix program g states st asked methods) where
  -- a method of the module is the program's
  method_is : (pick : Methods → ℕ) (f : Function) → slice_get (module_made prefix program (built_items g states st)).functions (pick (methods_of (machine runs) (is_made runs).names (length (is_made runs).fields) (last runs))) ≡ Some f
      → slice_get asked.program.functions (pick methods) ≡ Some f
  method_is pick f h =
      ap (λ (m : Methods). slice_get asked.program.functions (pick m)) (sym (same_methods runs))
      ∙ ap (λ (fs : List Function). slice_get fs (pick (methods_of (machine runs) (is_made runs).names (length (is_made runs).fields) (last runs)))) runs.functions ∙ h

  -- the methods hand on
  goto_runs : slice_get asked.program.functions methods.goto ≡ Some (function 2 0 (called (takes 2) (Some (goto_row runs).row.number)))
  goto_runs =
      method_is (λ m. m.goto) _ (goto_hands_on prefix (module_made prefix program (built_items g states st)) (last runs) (machine runs) (lines.goto_function g states) (is_made runs) (goto_row runs).row)

  simulate_runs : slice_get asked.program.functions methods.simulate_reduce ≡ Some (function 1 0 (called (takes 1) (Some (simulation_row runs).row.number)))
  simulate_runs =
      method_is (λ m. m.simulate_reduce) _ (simulate_hands_on prefix (module_made prefix program (built_items g states st)) (last runs) (machine runs) (simulation g states st) (is_made runs) (simulation_row runs).row)

  module _ (start : ℕ) (valid : IsValidTables g start states) (counts : Counts g states) (closure : Option ℕ) (most : ℕ) (enough : 2 ≤ most) where
    pub goto_field : (q n to : ℕ) → goto_at states q n ≡ Some to → (d : Runner) → Asks asked methods closure d → Replies asked methods closure d most (λ x. x ≡ pos to) (program_answers (Goto (pos q) n) d)
    goto_field q n to is d h =
        let p = d.asked.program in
        let types = types_of g states counts in
        let kind = types.kind in
        let f = (goto_row runs).row.number in
        let within = (found states q n to is).within in
        let holds = types.holds q (omega (arith, within)) in
        let method : slice_get p.functions d.methods.goto ≡ Some (function 2 0 (called (takes 2) (Some f))) =
        ap (λ (a : Asking). slice_get a.program.functions d.methods.goto) h.program ∙ ap (λ (m : Methods). slice_get asked.program.functions m.goto) h.by ∙ goto_runs in
        let gives : GivesAtOnce p f (number kind (pos q) ∷ index n ∷ []) (number kind (pos to)) =
        subst (λ (a : Asking). GivesAtOnce a.program f (number kind (pos q) ∷ index n ∷ []) (number kind (pos to))) (sym h.program) (goto_gives runs start valid counts q n to is) in
        subst (λ (o : Option Val). Replies asked methods closure d most (λ x. x ≡ pos to) (or_stuck o d (λ v. asks state_of d.methods.goto (v ∷ index n ∷ []) d))) (sym (state_is runs closure d h most (omega arith) kind types.read q holds))
        (asks_replies asked methods closure state_of d.methods.goto (number kind (pos q) ∷ index n ∷ []) d most (λ x. x ≡ pos to) 2 (number kind (pos to)) (asking_over [] d) (pos to) h
        (handed_on p d.methods.goto f 1 (number kind (pos q)) (index n) (number kind (pos to)) (asking_over [] d) method refl refl gives) refl refl refl enough)

    module _ {t : Tables} (over : IsOver g start states t) (begins : slice_get (values g.start_nonterminals) start ≡ Some st.nonterminal) (same : prefix ≡ g.prefix) (w : IsWordy g.prefix) (small : AllSmall (reductions g states st)) where
      pub simulate_field : (n : ℕ) (rule : Rule) (stack : List ℕ) → t.rule n ≡ Some rule → IsOnPath states stack → IsReducible g states stack rule
          → (d : Runner) → Asks asked methods closure d → Replies asked methods closure d most (λ x. simulated_by (Some rule) ≡ Some x) (program_answers (Simulate_reduce (pos n)) d)
      simulate_field n rule stack known path r d h =
          let p = d.asked.program in
          let types = types_of g states counts in
          let kind = types.kind in
          let f = (simulation_row runs).row.number in
          let s = reducible_is over st begins stack n rule path r known in
          let v = simulated_val rule in
          let below = slice_get_within (productions_of g) n s.0 s.1 in
          let fits = counts.productions_fit in
          let holds = types.rules n (omega (arith, below)) in
          let method : slice_get p.functions d.methods.simulate_reduce ≡ Some (function 1 0 (called (takes 1) (Some f))) =
          ap (λ (a : Asking). slice_get a.program.functions d.methods.simulate_reduce) h.program ∙ ap (λ (m : Methods). slice_get asked.program.functions m.simulate_reduce) h.by ∙ simulate_runs in
          let told : GivesAtOnce asked.program f (number kind (pos n) ∷ []) v = subst (λ (x : Val). GivesAtOnce asked.program f (number kind (pos n) ∷ []) x) s.2 (simulation_gives runs start valid counts n s.0 same w small s.1) in
          let gives : GivesAtOnce p f (number kind (pos n) ∷ []) v = subst (λ (a : Asking). GivesAtOnce a.program f (number kind (pos n) ∷ []) v) (sym h.program) told in
          subst (λ (o : Option Val). Replies asked methods closure d most (λ x. simulated_by (Some rule) ≡ Some x) (or_stuck o d (λ v. asks simulated_of d.methods.simulate_reduce (v ∷ []) d))) (sym (state_is runs closure d h most (omega arith) kind types.read n holds))
          (asks_replies asked methods closure simulated_of d.methods.simulate_reduce (number kind (pos n) ∷ []) d most (λ x. simulated_by (Some rule) ≡ Some x) 2 v (asking_over [] d) (would_do rule) h
          (handed_on_one p d.methods.simulate_reduce f 1 (number kind (pos n)) v (asking_over [] d) method refl gives) refl (would_read rule) refl enough)
