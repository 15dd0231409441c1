-- What a status tells of the token lines of a file.
use Rattle.std.specs.Prelude.{ℕ, List, map, Option, Some}
use Rattle.lp_lines.specs.TokenLines.{RefusesLine, line_of, lines_of}
use Rattle.lp_lines.specs.Vocabularies.{vocabulary_of}
use Rattle.lp_lines.specs.declared.token_line.LineFault.TheVariants.{Line}
use Rattle.lp_lines.specs.declared.token_line.TokenLine.{TokenLine}
use Rattle.lp_repr.specs.declared.repr.Grammar.{Grammar}
use Rattle.lp_syntax.specs.declared.plain.PlainGrammar.{PlainGrammar}
use Rattle.lp_prepared.specs.Outputs.{AreLinesOf, IsTailIn}
use Rattle.lp_prepared.specs.Told.{TellsOf}
use Rattle.lp_prepared.specs.declared.command.Command.{Command}
use Rattle.lp_prepared.specs.declared.command.Command.TheVariants.{Run}
use Rattle.lp_status.specs.declared.status.Status.{Status}
use Rattle.lp_status.specs.declared.status.Status.TheVariants as outcome

-- the line of this number, counted from 1, is the first of the tail that is no token line of the
-- grammar, or the 65th
abbrev pub IsMisfit : Grammar → List ℕ → ℕ → Type 0
IsMisfit g tail line = RefusesLine (map (line_of (vocabulary_of g)) (lines_of tail)) (Line line)

-- the lines of the tail are token lines of the grammar
abbrev pub HasLines : Grammar → List ℕ → Type 0
HasLines g tail = (lines : List TokenLine) × AreLinesOf g tail lines

-- a status that speaks of no token line
abbrev pub IsOfNoLine : Status → Type 0
IsOfNoLine (outcome.TokenLine line) = ⊥
IsOfNoLine _ = Unit {0}

-- a status of a call that read no token lines
abbrev pub IsBeforeLines : Status → Type 0
IsBeforeLines (outcome.TokenLine line) = ⊥
IsBeforeLines (outcome.Refused error) = ⊥
IsBeforeLines _ = Unit {0}

-- what a status tells of the lines of a tail, which are read before an emission is refused
abbrev pub ToldOfLines : Grammar → List ℕ → Status → Type 0
ToldOfLines g tail (outcome.TokenLine line) = IsMisfit g tail line
ToldOfLines g tail (outcome.Refused error) = HasLines g tail
ToldOfLines g tail _ = Unit {0}

-- what a call of `run` that wrote nothing tells of the token lines of its file, by its status and the
-- plain grammar that it answers
abbrev pub TellsRunLine : Option (List ℕ) → Option PlainGrammar → Status → Type 0
TellsRunLine left answered (outcome.TokenLine line) = TellsOf answered (λ g. (tail : List ℕ) × IsTailIn left tail × IsMisfit g tail line)
TellsRunLine left answered (outcome.Refused error) = TellsOf answered (λ g. (tail : List ℕ) × IsTailIn left tail × HasLines g tail)
TellsRunLine left answered _ = Unit {0}

-- the same of any command; only `run` looks at token lines
abbrev pub TellsLine : Option Command → Option (List ℕ) → Option PlainGrammar → Status → Type 0
TellsLine (Some (Run options)) left answered status = TellsRunLine left answered status
TellsLine command left answered status = IsOfNoLine status
