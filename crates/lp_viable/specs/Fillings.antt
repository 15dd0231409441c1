-- For each kind of hole a text that may stand in it, whatever the prefix.
use Rattle.std.specs.Prelude.{ℕ, ◌==◌, if◌then◌else◌, List, [], ◌++◌, get_or, codes}
use Rattle.lp_form.specs.declared.template.Kind.{Kind}
use Rattle.lp_form.specs.declared.template.Kind.TheVariants as kind

-- a letter with which the prefix doesn't begin
unfoldable pub other_letter : List ℕ → List ℕ
other_letter prefix = if get_or prefix 0 0 == 97 then codes "b" else codes "a"

-- a name that begins with the prefix
abbrev pub own_name : List ℕ → List ℕ
own_name prefix = prefix ++ codes "lalrpop_util"

-- a text for a hole
unfoldable pub filling : List ℕ → Kind → List ℕ
filling prefix kind.Number = codes "0"
filling prefix kind.NotOne = codes "0"
filling prefix kind.Last = codes "0"
filling prefix kind.Numbers = codes "0"
filling prefix kind.Ranges = codes "0"
filling prefix kind.Escaped = []
filling prefix kind.Terminal = []
filling prefix kind.Visibility = []
filling prefix kind.Parameters = []
filling prefix kind.Attribute = codes "#![]"
filling prefix kind.Literal = codes "\"\""
filling prefix kind.Location = codes "*" ++ (prefix ++ codes "lookahead")
filling prefix kind.Symbols = own_name prefix
filling prefix kind.Names = own_name prefix
filling prefix kind.Captures = own_name prefix
filling prefix _ = other_letter prefix
