-- What a call appends that prints one module, or the functions of actions.
use Rattle.std.specs.Prelude.{◌≡◌, ℕ, ◌⊎◌, ◌&&◌, List, Option, position, Result, Err}
use Rattle.std.specs.List.{flat_map}
use Rattle.lp_program.specs.Printed.{node_lines}
use Rattle.lp_repr.specs.Names.{same_nonterminal}
use Rattle.lp_repr.specs.declared.repr.Grammar.{Grammar}
use Rattle.lp_repr.specs.declared.repr.NonterminalString.{NonterminalString}
use Rattle.lp_tree.specs.ProgramTree.{Item, Note, all_notes, items}
use Rattle.lp_tree.specs.declared.tree.Node.{Node}
use Rattle.lp_write.specs.Lines.{Line}
use Rattle.lp_write.specs.Sinks.{Told}
use Rattle.lp_write.specs.Writes.{options_of, writing, Writes, write_ending}
use Rattle.lp_write.specs.declared.rust.Options.{Options}
use Rattle.lp_write.specs.declared.rust.RustWrite.{RustWrite}
use Rattle.lp_write.specs.declared.rust.WriteError.{WriteError}
use Rattle.lp_write.specs.declared.rust.WriteError.TheVariants.{Memory}

-- the number of the start of a public name and a nonterminal
abbrev pub start_number : Grammar → NonterminalString → NonterminalString → Option ℕ
start_number g public_name nonterminal =
    position (λ names. same_nonterminal names.0 public_name && same_nonterminal names.1 nonterminal) g.start_nonterminals.entries

-- there was no memory for a node with such parts, and nothing was appended
abbrev pub FindsNoMemory : {W : Type 0} → RustWrite W → RustWrite W → Result (Unit {0}) WriteError → Type 0
FindsNoMemory old new result = (result ≡ Err Memory) × (new ≡ old)

-- or such a node, which has the notes of its parts, was to be appended under a prefix, line by line
abbrev pub AppendsNode : {W : Type 0} → (W → Told) → (List Item → Type 0) → (List Item → List (List Note)) → List ℕ → RustWrite W → RustWrite W → Result (Unit {0}) WriteError → Type 0
AppendsNode told AreParts notes prefix old new result =
    (node : Node) × AreParts (items node) × (all_notes node ≡ notes (items node))
    × Writes (write_ending result) (writing told old) (writing told new) (node_lines (options_of old) prefix node)

abbrev pub PrintsNode : {W : Type 0} → (W → Told) → (List Item → Type 0) → (List Item → List (List Note)) → List ℕ → RustWrite W → RustWrite W → Result (Unit {0}) WriteError → Type 0
PrintsNode told AreParts notes prefix old new result =
    FindsNoMemory old new result ⊎ AppendsNode told AreParts notes prefix old new result

-- the lines of nodes, one node after another
abbrev pub all_node_lines : Options → List ℕ → List Node → List Line
all_node_lines options prefix nodes = flat_map (λ node. node_lines options prefix node) nodes

-- nodes that have such parts together were to be appended under a prefix, line by line
abbrev pub AppendsNodes : {W : Type 0} → (W → Told) → (List Item → Type 0) → List ℕ → RustWrite W → RustWrite W → Result (Unit {0}) WriteError → Type 0
AppendsNodes told AreParts prefix old new result =
    (nodes : List Node) × AreParts (flat_map items nodes) × Writes (write_ending result) (writing told old) (writing told new) (all_node_lines (options_of old) prefix nodes)

abbrev pub PrintsNodes : {W : Type 0} → (W → Told) → (List Item → Type 0) → List ℕ → RustWrite W → RustWrite W → Result (Unit {0}) WriteError → Type 0
PrintsNodes told AreParts prefix old new result =
    FindsNoMemory old new result ⊎ AppendsNodes told AreParts prefix old new result
