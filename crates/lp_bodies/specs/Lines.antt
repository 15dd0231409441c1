-- Lines of a body, each an expression, some of which let a name be a value.
use Rattle.std.specs.Prelude.{ℕ, List, [], ◌∷◌, ◌++◌}
use Rattle.lp_core.specs.Tree.{Tree}
use Rattle.lp_view.specs.PartLists.{Form, hole_of}
use Rattle.lp_maker.specs.Slots.{Names, bound}
use Rattle.lp_maker.specs.Constructs.{write}

-- the names that can be seen after some lines, and the expressions of the lines
pub record Lines : Type 0 where
  pub names : Names
  pub parts : List Tree

abbrev pub lines_of : Names → List Tree → Lines
lines_of names parts = record { names = names; parts = parts }

abbrev pub with_part : Tree → Lines → Lines
with_part value l = lines_of l.names (l.parts ++ value ∷ [])

-- `let name = value;`
abbrev pub with_let : List ℕ → Tree → Lines → Lines
with_let name value l = lines_of (bound name l.names) (l.parts ++ write l.names.next value ∷ [])

-- a name of the line's number
abbrev pub numbered : List ℕ → Form → List ℕ
numbered name line = name ++ hole_of 0 line
