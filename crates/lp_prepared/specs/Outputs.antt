-- What a command writes.
use Rattle.std.specs.Prelude.{◌≡◌, ℕ, true, false, List, [], ◌∷◌, ◌++◌, length, map, Option, Some, codes, decimal, slice_get}
use Rattle.lp_emit.specs.Texts.{IsEmission}
use Rattle.lp_generated.specs.Generated.{token_list}
use Rattle.lp_lines.specs.Blocks.{ending_text, line_text, steps_text}
use Rattle.lp_lines.specs.File.{IsCutFile}
use Rattle.lp_lines.specs.Scan.{all_some}
use Rattle.lp_lines.specs.TokenLines.{line_of, lines_of}
use Rattle.lp_lines.specs.Vocabularies.{vocabulary_of}
use Rattle.lp_lines.specs.declared.token_line.TokenLine.{TokenLine}
use Rattle.lp_program.specs.Choosing.{IsProgramOf, IsRefused}
use Rattle.lp_program.specs.declared.read.reader.ReadFault.TheVariants.{NoForm}
use Rattle.lp_repr.specs.declared.lr1.StartStates.{StartStates}
use Rattle.lp_repr.specs.declared.repr.Grammar.{Grammar}
use Rattle.lp_repr.specs.declared.repr.NonterminalString.{NonterminalString}
use Rattle.lp_repr.specs.declared.values.Event.{Event}
use Rattle.lp_repr.specs.declared.values.Outcome.{Outcome}
use Rattle.lp_text_run.specs.Blocks.{AreRuns, FinishesLine}
use Rattle.lp_run.specs.ProgramRun.{Finish}
use Rattle.lp_run.specs.RunTold.{RunsProgram, run_finish}
use Rattle.lp_run.specs.declared.run.Run.{Run}
use Rattle.lp_tree.specs.declared.tree.Program.{Program}
use Rattle.lp_write.specs.declared.rust.Options.{Options}
use Rattle.lp_prepared.specs.Command.{looks}
use Rattle.lp_prepared.specs.Runs.{EndsByTables, values_of}
use Rattle.lp_prepared.specs.declared.command.Command.{Command}
use Rattle.lp_prepared.specs.declared.command.Command.TheVariants as asked

-- the token lines that a text is
abbrev pub AreLinesOf : Grammar → List ℕ → List TokenLine → Type 0
AreLinesOf g tail lines = all_some (map (line_of (vocabulary_of g)) (lines_of tail)) ≡ Some lines

-- the text of the parsers, of this length, the line `---`, and a block per token line, each of the run of the
-- program that the text is read as; that run is the stack machine's over the tables of the line's start
pub record IsRunOutput (g : Grammar) (tables : List StartStates) (options : Options) (tail : List ℕ) (text_len : ℕ) (output : List ℕ) : Type 0 where
  pub text : List ℕ
  pub emission : IsEmission g tables options text
  pub len : text_len ≡ length text
  pub lines : List TokenLine
  pub read : AreLinesOf g tail lines
  pub blocks : List ℕ
  pub told : AreRuns text (values_of g) lines blocks
  pub by_tables : (program : Program) → IsProgramOf text program → (place : ℕ) (line : TokenLine) → slice_get lines place ≡ Some line → (finish : Finish) → FinishesLine program (values_of g) line finish
      → EndsByTables g tables program line.start line.items line.failing line.budget finish
  pub whole : output ≡ text ++ (codes "---" ++ 10 ∷ blocks)

-- a text is refused only for want of memory
abbrev pub IsNeverRefused : List ℕ → Type 0
IsNeverRefused text = (line : ℕ) → IsRefused text (NoForm line) → ⊥

-- the number of the states of the first start
abbrev pub first_count : List StartStates → ℕ
first_count [] = 0
first_count (one ∷ others) = length one.states

-- the lines that tell of a run: the number of its calls of user code, how it ends, and its steps
abbrev pub course_text : List Event → Outcome → ℕ → List ℕ
course_text events outcome steps = line_text (codes "calls " ++ decimal (length events)) ++ (line_text (ending_text (Some outcome)) ++ steps_text (Some steps))

-- the lines that tell of a text and its tables
abbrev pub size_text : ℕ → ℕ → List ℕ
size_text states text_len = codes "states " ++ (decimal states ++ 10 ∷ (codes "text " ++ (decimal text_len ++ 10 ∷ [])))

-- the first public name of a grammar
abbrev pub IsFirstName : Grammar → NonterminalString → Type 0
IsFirstName g name = (start : NonterminalString) × (slice_get g.start_nonterminals.entries 0 ≡ Some (name, start))

-- what is told of a generated text: the number of its states, its length, and the run, of the program that it is read
-- as, from the first public name on the tokens of so many levels; that run is the stack machine's over the tables
pub record IsReport (g : Grammar) (tables : List StartStates) (levels : ℕ) (text : List ℕ) (text_len : ℕ) (output : List ℕ) : Type 0 where
  pub program : Program
  pub reads : IsProgramOf text program
  pub name : NonterminalString
  pub first : IsFirstName g name
  pub run : Run
  pub runs : RunsProgram program name.0 (token_list levels) (values_of g) [] 1000000 (run_finish run)
  pub by_tables : EndsByTables g tables program name.0 (token_list levels) [] 1000000 (run_finish run)
  pub told : output ≡ size_text (first_count tables) text_len ++ course_text run.events run.outcome run.steps

-- a tail that follows the text of a file, where its bytes are told
abbrev pub IsTailIn : Option (List ℕ) → List ℕ → Type 0
IsTailIn left tail = (bytes : List ℕ) → left ≡ Some bytes → (text : List ℕ) × IsCutFile bytes text tail

-- the output of a command on a file whose grammar has these tables, and the length of the parser text
abbrev pub IsOutput : Command → Option (List ℕ) → Grammar → List StartStates → ℕ → List ℕ → Type 0
IsOutput (asked.Emit options) left g tables text_len output = IsEmission g tables options output × (text_len ≡ length output)
IsOutput (asked.Run options) left g tables text_len output = (tail : List ℕ) × IsTailIn left tail × IsRunOutput g tables options tail text_len output
IsOutput (asked.Make levels) left g tables text_len output =
    (text : List ℕ) × IsEmission g tables (looks false true) text × (text_len ≡ length text) × IsReport g tables levels text text_len output
