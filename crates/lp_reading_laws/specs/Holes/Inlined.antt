-- How lines of inlined actions begin.
use Rattle.std.specs.Prelude.{ℕ, Bool, ◌||◌, nat_eq, List, ◌++◌, codes}
use Rattle.std.specs.List.{starts_with}

-- a line begins as the first of a span, of a call or of the outer call among inlined actions
abbrev pub begins_inlined : List ℕ → List ℕ → Bool
begins_inlined prefix line =
    starts_with nat_eq line (codes "let " ++ prefix)
    || (starts_with nat_eq line (prefix ++ codes "action") || starts_with nat_eq line (codes "Ok(" ++ (prefix ++ codes "action")))
