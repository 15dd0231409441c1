-- Worked examples: parts that are shared out among the steps of another, and some that are not; a comment line that ends with
-- an opening bracket, and one that does not.
use Rattle.std.proofs.Common.{◌≡◌, ℕ, true, false, List, [], ◌∷◌, codes, refl}
use Rattle.lp_form.specs.Templates.{steps_of}
use Rattle.lp_form.specs.Classes.{members_of}
use Rattle.lp_form.specs.declared.part.Part.TheVariants as part
use Rattle.lp_form.specs.declared.part.Part.{Part}
use Rattle.lp_write.specs.declared.rust.Options.{Options}
use Rattle.lp_spelling.specs.Lines.{line_of}
use Rattle.lp_program.specs.Printed.{step_lines, printed}
use Rattle.lp_program.specs.Trees.{Content, Forest}
use Rattle.lp_program.specs.Trees.Forest.{bare, tree}
use Rattle.lp_reading_laws.specs.Printing.Levels.{steps_pass, tests_of, is_level}
use Rattle.lp_reading_laws.specs.Printing.WellFormed.{is_shared}

program_shared : is_shared (steps_of part.Program) (part.Attribute ∷ part.UseLine ∷ part.StandardUses ∷ part.ParseModule ∷ part.Reexport ∷ part.ActionFn ∷ part.Lookaround ∷ part.ToTriplePlain ∷ []) ≡ true
unfolding steps_of members_of
program_shared = refl

action_shared : is_shared (steps_of part.ActionFn) (part.HeaderAction ∷ part.UserBody ∷ []) ≡ true
unfolding steps_of members_of
action_shared = refl

header_shared : is_shared (steps_of part.HeaderAction) (part.TypeRow ∷ part.ParameterRow ∷ part.ParameterRow ∷ part.ResultType ∷ part.Clauses ∷ []) ≡ true
unfolding steps_of members_of
header_shared = refl

table_shared : is_shared (steps_of part.TableItems) (part.SymbolEnum ∷ part.ActionTable ∷ part.ActionLookup ∷ part.EofTable ∷ part.GotoFn ∷ part.TerminalList ∷ part.Expected ∷ part.ExpectedFromStates ∷ part.MachineStruct ∷ part.MachineImpl ∷ part.TokenToInteger ∷ part.TokenToSymbol ∷ part.SimulateReduce ∷ part.TableParserPlain ∷ part.Accepts ∷ part.Reduce ∷ part.Mismatch ∷ part.Pop ∷ part.ReduceFn ∷ []) ≡ true
unfolding steps_of members_of
table_shared = refl

chain_shared : is_shared (steps_of part.LocationChain) (part.LocationRow ∷ part.LocationRow ∷ []) ≡ true
unfolding steps_of members_of
chain_shared = refl

table_short : is_shared (steps_of part.TableItems) (part.SymbolEnum ∷ part.ActionTable ∷ []) ≡ false
unfolding steps_of members_of
table_short = refl

-- a module with a comment line at a state, and an action with user code behind it; what else a program has is left out
abbrev bare_part : Part → Content
bare_part p = record { part = p; holes = []; numbers = []; notes = [] }

abbrev state_with : List ℕ → Content
state_with comment = record { part = part.StateFn; holes = []; numbers = []; notes = record { end = 0; lines = comment ∷ []; comments = [] } ∷ [] }

abbrev program_with : List ℕ → Forest
program_with comment =
    tree (bare_part part.Program)
    (tree (bare_part part.ParseModule) (tree (bare_part part.AscentItems) (tree (state_with comment) bare bare) bare)
    (tree (bare_part part.ActionFn) (tree (record { part = part.UserBody; holes = codes "1" ∷ []; numbers = []; notes = [] }) bare bare) bare))
    bare

abbrev commented : Options
commented = record { comments = true; whitespace = true }

steady_comment : is_level commented (codes "__") (program_with (codes "// State (0)")) ≡ true
unfolding steps_of members_of line_of step_lines printed steps_pass tests_of
steady_comment = refl

open_comment : is_level commented (codes "__") (program_with (codes "//(")) ≡ false
unfolding steps_of members_of line_of step_lines printed steps_pass tests_of
open_comment = refl
