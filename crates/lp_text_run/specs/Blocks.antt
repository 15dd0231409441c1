-- The blocks of token lines: each tells the run, on its line, of the program that a text is read as.
use Rattle.std.specs.Prelude.{◌≡◌, ℕ, zero, suc, ◌+◌, List, [], ◌++◌, length, slice_get, Option, Some, None}
use Rattle.lp_driver.specs.Values.{Text}
use Rattle.lp_lines.specs.Blocks.{block_text}
use Rattle.lp_lines.specs.declared.token_line.TokenLine.{TokenLine}
use Rattle.lp_program.specs.Choosing.{IsProgramOf, IsRefused}
use Rattle.lp_program.specs.declared.read.reader.ReadFault.TheVariants as read
use Rattle.lp_run.specs.ProgramRun.{Finish, NoStart, ParameterCount}
use Rattle.lp_run.specs.RunTold.{RunsProgram}
use Rattle.lp_tree.specs.declared.tree.Program.{Program}
use Rattle.lp_viable.specs.Misfits.{IsMisfit}
use Rattle.lp_text_run.specs.Courses.{Course, IsCourse}
use Rattle.lp_text_run.specs.declared.text_run.TextRunFault.{TextRunFault}
use Rattle.lp_text_run.specs.declared.text_run.TextRunFault.TheVariants as fault

-- the block of the line of this place
abbrev pub block_of : ℕ → TokenLine → Course → List ℕ
block_of place line course = block_text (place + 1) line.start course.events course.outcome (Some course.steps)

-- the program runs so on a token line
abbrev pub RunsLine : Program → List Text → TokenLine → Course → Type 0
RunsLine program params line course = IsCourse program line.start line.items params line.failing line.budget course

-- the program's run on a token line ends so
abbrev pub FinishesLine : Program → List Text → TokenLine → Finish → Type 0
FinishesLine program params line finish = RunsProgram program line.start line.items params line.failing line.budget finish

-- what stood before, and behind it the block of a line
abbrev pub IsFollowed : Program → List Text → Option TokenLine → ℕ → List ℕ → List ℕ → Type 0
IsFollowed program params None place before text = ⊥
IsFollowed program params (Some line) place before text = (course : Course) × RunsLine program params line course × (text ≡ before ++ block_of place line course)

-- the blocks of the first lines, so many
abbrev pub AreBlocks : Program → List Text → List TokenLine → ℕ → List ℕ → Type 0
AreBlocks program params lines zero text = text ≡ []
AreBlocks program params lines (suc place) text =
    (before : List ℕ) × AreBlocks program params lines place before × IsFollowed program params (slice_get lines place) place before text

-- the blocks of the runs, on all the lines, of the program that a text is read as
abbrev pub AreRuns : Text → List Text → List TokenLine → List ℕ → Type 0
AreRuns text params lines blocks = (program : Program) × IsProgramOf text program × AreBlocks program params lines (length lines) blocks

-- why a line has no run: its start is none, or its parameters are more or fewer than the values
abbrev pub IsLineFault : Program → List Text → TokenLine → ℕ → TextRunFault → Type 0
IsLineFault program params line number (fault.NoForm at) = ⊥
IsLineFault program params line number (fault.NoStart at) = (at ≡ number) × FinishesLine program params line NoStart
IsLineFault program params line number (fault.ParameterCount at) = (at ≡ number) × FinishesLine program params line ParameterCount
IsLineFault program params line number fault.Memory = Unit {0}

-- the line of this place has no run, for this cause, and each one before it has one
abbrev pub IsFirstWithout : Program → List Text → List TokenLine → ℕ → TextRunFault → Type 0
IsFirstWithout program params lines place why =
    (line : TokenLine) × (before : List ℕ) × (slice_get lines place ≡ Some line) × AreBlocks program params lines place before × IsLineFault program params line (place + 1) why

-- why a text has no blocks of these lines: it is refused at a line, or a token line has no run
abbrev pub IsRunFault : Text → List Text → List TokenLine → TextRunFault → Type 0
IsRunFault text params lines (fault.NoForm line) = IsRefused text (read.NoForm line) × IsMisfit text line
IsRunFault text params lines fault.Memory = Unit {0}
IsRunFault text params lines why = (program : Program) × (place : ℕ) × IsProgramOf text program × IsFirstWithout program params lines place why
