-- Headers of functions.
use Rattle.std.specs.Prelude.{ℕ, Bool, List, [], ◌∷◌, codes, decimal, if◌then◌else◌, nat_eq, true, false}
use Rattle.std.specs.Cmp.Lexicographic.{pointwise}
use Rattle.lp_form.specs.declared.part.Part.{Part}
use Rattle.lp_form.specs.declared.part.Part.TheVariants as part
use Rattle.lp_tree.specs.ProgramTree.{Item, leaf}
use Rattle.lp_build.specs.Built.{over, text_rows}
use Rattle.lp_build.specs.declared.functions.FunctionName.{FunctionName}
use Rattle.lp_build.specs.declared.functions.FunctionName.TheVariants as name

-- the part that begins a header
abbrev pub name_part : FunctionName → Part
name_part (name.Parse visibility) = part.HeaderParse
name_part name.ExpectedTokensFromStates = part.HeaderExpectedFromStates
name_part name.TokenToInteger = part.HeaderTokenToInteger
name_part name.TokenToSymbol = part.HeaderTokenToSymbol
name_part name.SimulateReduce = part.HeaderSimulateReduce
name_part name.Accepts = part.HeaderAccepts
name_part name.Reduce = part.HeaderReduce
name_part (name.ReduceProduction number) = part.HeaderReduceFn
name_part (name.State number) = part.HeaderState
name_part (name.Action number) = part.HeaderAction

-- and what its holes hold
abbrev pub name_holes : FunctionName → List (List ℕ)
name_holes (name.Parse visibility) = visibility ∷ []
name_holes (name.ReduceProduction number) = decimal number ∷ []
name_holes (name.State number) = decimal number ∷ []
name_holes (name.Action number) = decimal number ∷ []
name_holes _ = []

-- the result of a function; `()` prints none
abbrev pub result_line : List ℕ → List Item
result_line answer = if pointwise nat_eq answer (codes "()") then leaf part.ResultUnit [] else leaf part.ResultType (answer ∷ [])

-- where clauses, if there are some
abbrev pub clause_lines : List (List ℕ) → List Item
clause_lines [] = []
clause_lines (c ∷ cs) = over part.Clauses [] (text_rows part.ClauseRow (c ∷ cs))

-- the parser of a module, by tables or by recursive ascent
abbrev pub parser_part : Bool → Bool → Part
parser_part false true = part.TableParserInterned
parser_part false false = part.TableParserPlain
parser_part true true = part.AscentParserInterned
parser_part true false = part.AscentParserPlain
