-- What the laws say: printed lines, tables and programs are read as what they were.
use Rattle.std.specs.Prelude.{◌≡◌, ◌↔◌, ℕ, ℤ, ◌^◌, ◌<◌, Bool, true, List, ◌∷◌, ◌++◌, length, replicate, codes, All, Some, None, FitsSigned}
use Rattle.std.specs.Int.{w32}
use Rattle.std.specs.Str.{IsUtf8}
use Rattle.lp_form.specs.declared.template.Kind.TheVariants as kind
use Rattle.lp_texts.specs.TextRules.{AnswersLine, AnswersAttribute, AnswersTerminal}
use Rattle.lp_texts.specs.UserCode.{AnswersUse, AnswersCode}
use Rattle.lp_spelling.specs.Fillings.{Fills}
use Rattle.lp_tree.specs.declared.tree.Program.{Program}
use Rattle.lp_write.specs.Lines.{Line, line_bytes, lines_bytes, indent_after_all}
use Rattle.lp_write.specs.declared.rust.Options.{Options}
use Rattle.lp_spelling.specs.Counting.{settled}
use Rattle.lp_spelling.specs.TableReading.{entries}
use Rattle.lp_program.specs.Printed.{lines}
use Rattle.lp_program.specs.Reads.{TakesLine, ReadsAs}
use Rattle.lp_program.specs.TableRows.{table_lines}
use Rattle.lp_tree.specs.ProgramTree.{Note}
use Rattle.lp_program.specs.Trees.{whole}
use Rattle.lp_reading_laws.specs.Printing.LineTexts.{Counts, text_in}
use Rattle.lp_reading_laws.specs.Printing.WellFormed.{IsUseText, IsCodeText, IsTrailing, IsNote, IsWellFormed}
use Rattle.lp_repr.specs.NormalCode.{norm_of}
use Rattle.lp_reading_laws.specs.Printing.AsRead.{code_read, IsRead}
use Rattle.lp_reading_laws.specs.Printing.Laid.{IsLaidOut}
use Rattle.lp_reading_laws.specs.Printing.Levels.{is_level, never_stays}

-- whatever the indent, a printed line that counts is taken off the text as it is
abbrev pub LinesComeBack : Type 0
LinesComeBack = (whitespace : Bool) (indent : ℕ) (line : Line) (rest : List ℕ) → Counts (text_in line) → TakesLine (text_in line) (line_bytes whitespace indent line ++ rest) rest

-- and one that is blanks, and behind them nothing or a comment, is passed over
abbrev pub OthersDont : Type 0
OthersDont = (whitespace : Bool) (indent : ℕ) (line : Line) (rest : List ℕ) → IsTrailing (text_in line) → settled (line_bytes whitespace indent line ++ rest) ≡ settled rest

-- the rows of a table, in front of blanks and a `]`, are read as its numbers: with comments and without, wherever the rows end
abbrev pub TablesComeBack : Type 0
TablesComeBack = (options : Options) (indent blanks : ℕ) (numbers : List ℤ) (notes : List Note) (rest : List ℕ) → length notes < 2 ^ 64 → All (FitsSigned w32) numbers → All IsNote notes →
    entries (lines_bytes options.whitespace indent (table_lines options numbers notes) ++ (replicate blanks 32 ++ 93 ∷ rest)) ≡ Some (numbers, 93 ∷ rest)

-- the bytes of a program's lines, the first without indent
abbrev pub text_of : Options → Program → List ℕ
text_of options program = lines_bytes options.whitespace 0 (lines options program)

-- a use and user code that the check of texts lets pass end where the printed `;` and `}` stand, whatever stands behind;
-- a use with `super::` in front too, as modules have it
abbrev pub UsesEnd : Type 0
UsesEnd = (text : List ℕ) → IsUtf8 text → AnswersUse text None → IsUseText text × IsUseText (codes "super::" ++ text)

abbrev pub CodesEnd : Type 0
CodesEnd = (text : List ℕ) → IsUtf8 text → AnswersCode text None → IsCodeText text

-- types, attributes and texts of terminals that it lets pass may stand in their holes
abbrev pub LinesFill : Type 0
LinesFill = (prefix text : List ℕ) → IsUtf8 text → AnswersLine text None → Fills prefix kind.Text text × Fills prefix kind.Generics text

abbrev pub AttributesFill : Type 0
AttributesFill = (prefix text : List ℕ) → IsUtf8 text → AnswersAttribute text None → Fills prefix kind.Attribute text

abbrev pub TerminalsFill : Type 0
TerminalsFill = (prefix text : List ℕ) → IsUtf8 text → AnswersTerminal text None → Fills prefix kind.Terminal text

-- a program that is well formed reads as it is, whatever the options
abbrev pub ReadsBack : Type 0
ReadsBack = (options : Options) (program read : Program) → IsWellFormed program → IsRead options.whitespace program read → ReadsAs (text_of options program) read

-- a text reads as a program exactly where it is that program's lines without comments and blanks, when what doesn't count is left aside
abbrev pub ReadsAreLines : Type 0
ReadsAreLines = (text : List ℕ) (program : Program) → ReadsAs text program ↔ IsLaidOut text program

-- its user code is printed at the indent of a function's body, and leaves it so
abbrev pub CodeIsLevel : Type 0
CodeIsLevel = (options : Options) (program : Program) → IsWellFormed program → is_level options program.prefix (whole program.entries.items) ≡ true

-- the indent behind it is what it was before, unless it stayed since a raised one doesn't fit 64 bits; from 0 on that doesn't matter
abbrev pub IndentReturns : Type 0
IndentReturns = (options : Options) (program : Program) (indent : ℕ) → IsWellFormed program → (0 < indent → never_stays indent (lines options program) ≡ true) →
    indent_after_all indent (lines options program) ≡ indent

-- each program has one as which it is read
abbrev pub EachIsRead : Type 0
EachIsRead = (whitespace : Bool) (program : Program) → (read : Program) × IsRead whitespace program read

-- and its user code is the same up to norm
abbrev pub SameToNorm : Type 0
SameToNorm = (whitespace : Bool) (code : List ℕ) → norm_of (code_read whitespace code) ≡ norm_of code
