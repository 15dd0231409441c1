-- The lines of a program: those of each part's template, with the lines of the parts below it in their places.
use Rattle.std.specs.Prelude.{ℕ, ◌||◌, Bool, true, false, if◌then◌else◌, min, List, [], ◌∷◌, ◌++◌, take, drop}
use Rattle.std.specs.List.{flat_map, list_any, prefix_len}
use Rattle.lp_form.specs.Classes.{members_of}
use Rattle.lp_form.specs.Templates.{steps_of}
use Rattle.lp_form.specs.Templates as template
use Rattle.lp_form.specs.declared.class.Class.{Class}
use Rattle.lp_form.specs.contracts.part.PartPartialEq.TheImpl as equality
use Rattle.lp_form.specs.declared.part.Part.{Part}
use Rattle.lp_form.specs.declared.template.Step.{Step}
use Rattle.lp_form.specs.declared.template.Step.TheVariants as step
use Rattle.lp_write.specs.Lines.{Line}
use Rattle.lp_write.specs.declared.rust.Options.{Options}
use Rattle.lp_program.specs.OwnLines.{own_lines}
use Rattle.lp_program.specs.Trees.{Content, content, Forest, forest, tree_count, whole}
use Rattle.lp_program.specs.Trees.Forest.{bare, tree}
use Rattle.lp_tree.specs.declared.tree.Entry.{Entry}
use Rattle.lp_tree.specs.declared.tree.Node.{Node}
use Rattle.lp_tree.specs.declared.tree.Program.{Program}

-- whether a part is one of a class
abbrev pub is_member : Class → Part → Bool
is_member class part = list_any (λ m. (equality.ghosts).eq m part) (members_of class)

-- whether a step takes a part from those below
abbrev pub takes : Step → Part → Bool
takes (step.One class) part = is_member class part
takes (step.Optional class) part = is_member class part
takes (step.Many class) part = is_member class part
takes (step.Some class) part = is_member class part
takes (step.Pairs first second) part = is_member first part || is_member second part
takes _ part = false

-- whether it takes at most one
abbrev pub takes_one : Step → Bool
takes_one (step.One class) = true
takes_one (step.Optional class) = true
takes_one _ = false

-- a part with its lines
abbrev pub Printed : Type 0
Printed = Part × List Line

-- how many a step takes of those in front
abbrev pub taken : Step → List Printed → ℕ
taken s below =
    if takes_one s
    then min 1 (prefix_len (λ p. takes s p.0) below)
    else prefix_len (λ p. takes s p.0) below

-- the lines of parts, one after another
abbrev pub all_lines : List Printed → List Line
all_lines printed = flat_map (λ p. p.1) printed

-- the lines of steps in their order: each has its own lines, and those of the parts that it takes
unfoldable pub step_lines : Options → List ℕ → Content → ℕ → List template.Line → List Printed → List Line
step_lines options prefix c count [] below = []
step_lines options prefix c count (s ∷ steps) below =
    let n = taken s.0 below in
    (own_lines options prefix c count s.1 s.0 ++ all_lines (take n below))
    ++ step_lines options prefix c count steps (drop n below)

-- the parts of trees side by side, each with its lines
unfoldable pub printed : Options → List ℕ → Forest → List Printed
printed options prefix bare = []
printed options prefix (tree c below after) =
    (c.part, step_lines options prefix c (tree_count below) (steps_of c.part) (printed options prefix below))
    ∷ printed options prefix after

-- the lines of a part, over those below it
abbrev pub part_lines : Options → List ℕ → Entry → List Entry → List Line
part_lines options prefix e below = all_lines (printed options prefix (tree (content e) (forest below) bare))

-- the lines of a list of parts: of its first part, with all others below it
abbrev pub list_lines : Options → List ℕ → List Entry → List Line
list_lines options prefix es = all_lines (printed options prefix (whole es))

-- the lines of a node, under the prefix of its program
abbrev pub node_lines : Options → List ℕ → Node → List Line
node_lines options prefix node = part_lines options prefix node.first node.below.items

-- the lines of a program
abbrev pub lines : Options → Program → List Line
lines options program = list_lines options program.prefix program.entries.items
