-- The runs of a text.
use Rattle.std.proofs.Common.{◌≡◌, ◌∙◌, ℕ, List, [], ◌++◌, subst}
use Rattle.lp_driver.specs.Values.{Text}
use Rattle.lp_lines.specs.declared.token_line.TokenLine.{TokenLine}
use Rattle.lp_repr.specs.declared.repr.Grammar.{Grammar}
use Rattle.lp_text_run.specs.Blocks.{AreRuns}
use Rattle.lp_generated.specs.Generated.{token_list}
use Rattle.lp_program.specs.Choosing.{IsProgramOf}
use Rattle.lp_repr.specs.declared.lr1.StartStates.{StartStates}
use Rattle.lp_repr.specs.declared.repr.NonterminalString.{NonterminalString}
use Rattle.lp_repr.specs.declared.values.RunItem.{RunItem}
use Rattle.lp_run.specs.RunTold.{RunsProgram, run_finish}
use Rattle.lp_run.specs.declared.run.Run.{Run}
use Rattle.lp_tree.specs.declared.tree.Program.{Program}
use Rattle.lp_prepared.specs.Outputs.{IsFirstName, IsReport, course_text, first_count, size_text}
use Rattle.lp_prepared.specs.Runs.{EndsByTables, values_of}

-- the blocks are those of the text's runs, each list handed on as a slice
pub runs_of :
    (g : Grammar) (text text' : Text) (params params' : List Text) (lines lines' : List TokenLine) (blocks : List ℕ) →
    text' ≡ text → params' ≡ params → lines' ≡ lines → params ≡ values_of g → AreRuns text' params' lines' blocks → AreRuns text (values_of g) lines blocks
runs_of g text text' params params' lines lines' blocks of_text of_params of_lines values runs =
    subst (λ t. AreRuns t (values_of g) lines blocks) of_text
    (subst (λ l. AreRuns text' (values_of g) l blocks) of_lines
    (subst (λ p. AreRuns text' p lines' blocks) (of_params ∙ values) runs))

-- what is told of a generated text, from its parts
pub reported :
    (g : Grammar) (tables : List StartStates) (levels : ℕ) (text : Text) (text_len : ℕ) (program : Program) (name : NonterminalString) (run : Run) (n : Text) (items : List RunItem) (values : List Text) (before after : List ℕ) →
    IsProgramOf text program → IsFirstName g name → n ≡ name.0 → values ≡ values_of g → items ≡ token_list levels → RunsProgram program n items values [] 1000000 (run_finish run) →
    EndsByTables g tables program name.0 items [] 1000000 (run_finish run) → before ≡ size_text (first_count tables) text_len → after ≡ before ++ course_text run.events run.outcome run.steps →
    IsReport g tables levels text text_len after
reported g tables levels text text_len program name run n items values before after reads first same given listed runs ends sizes told = record {
  program = program;
  reads = reads;
  name = name;
  first = first;
  run = run;
  runs = subst (λ (is : List RunItem). RunsProgram program name.0 is (values_of g) [] 1000000 (run_finish run)) listed
      (subst (λ (vs : List Text). RunsProgram program name.0 items vs [] 1000000 (run_finish run)) given (subst (λ (m : Text). RunsProgram program m items values [] 1000000 (run_finish run)) same runs));
  by_tables = subst (λ (is : List RunItem). EndsByTables g tables program name.0 is [] 1000000 (run_finish run)) listed ends;
  told = subst (λ (b : List ℕ). after ≡ b ++ course_text run.events run.outcome run.steps) sizes told;
}
